-- In every run each OK belongs to a pass, and each pass has its OK.
use Rattle.std.proofs.Common.{◌≡◌, ℕ, zero, suc, ◌+◌, ◌⊎◌, inl, inr, ⊎_elim, List, [], ◌∷◌, ◌++◌, true, false, length, map, Option, Some, None, refl, sym, ap, ◌∙◌, subst, arith, eqb, ltb}
use Rattle.std.specs.List.{slice_get}
use Rattle.std.proofs.lemmas.Bool.{cond_both, eqb-true, eqb-false, and_parts}
use Rattle.std.proofs.lemmas.Option.{same_Some, none-some}
use Rattle.floor_store.specs.Records.{ProposalRecord, PassRecord}
use Rattle.otp_core.specs.Acceptance.{Acceptance}
use Rattle.vote_core.specs.Schedule.{Envelope, Begun, last_boot, began_in}
use Rattle.vote_core.specs.Voting.{same_proposal}
use Rattle.vote_core.proofs.Basics.{Each, each_append, each_get, each_map, each_weaker}
use Rattle.answer_ring.specs.Answers.{KeptAnswer}
use Rattle.oath_node.specs.Machine.{Config, NodeState, NodeEvent, Made, Reply, Beginning, quiet_made, stopped_node, opened_node, restarted_node, made_while_running, made_by_event}
use Rattle.client_lines.specs.Request.{without_lf}
use Rattle.cluster_sim.specs.Answered.{IsAskedIn, IsSaidIn, BelongsToPass, TellTruth, IsAnsweredIn, AreAnswered}
use Rattle.cluster_sim.specs.World.{World, Note, Answer, Act, Says, Deliver, Ticks, Noise, WorldEvent, Happens, Cut, Restart, Lost, Anew, floor_in, has_store, lost_node, may_be_anew, note_anew, opening_node, world_after_anew, world_after_loss, acting_node, delivered_event, noise_event, node_event_of, place_at, told_reply, note_of, world_with_made, world_after_turn, world_after_act, node_of, world_after_restart, with_told_of, world_after_event, world_after_events, opening_world, begun_with, begun_in, acceptance_in, passes_in, passes_of, world_of, Start}
use Rattle.cluster_sim.proofs.Acts.{noise_cases}
use Rattle.cluster_sim.proofs.BelowLaws.{GroundLaw}
use Rattle.cluster_sim.proofs.Owners.{get_more}
use Rattle.cluster_sim.proofs.Tells.{named, Backed, NodeKept, ToldBacked, Replied, BeganAt, Tells, Comes, Said, answers_later, owners_later, event_tells, resting_tells}

-- what is kept in every run
pub record Honest (events : List WorldEvent) (e : ℕ) (w : World) : Type 0 where
  pub nodes : (i : ℕ) → NodeKept events w.history e i (w.nodes i)
  pub told : Each (ToldBacked events (passes_in w.history)) w.told
  pub answered : Each (λ (p : Acceptance). IsAnsweredIn events w.told p (slice_get events p.ended)) (passes_in w.history)

-- ---- later

belongs_later : (events : List WorldEvent) (passes more : List Acceptance) (t : Answer) → BelongsToPass events passes t → BelongsToPass events (passes ++ more) t
belongs_later events passes more t b =
    let q = b.belongs in
    record {
      nonce = b.nonce;
      hi = b.hi;
      bytes = b.bytes;
      belongs = record {
        place = q.place;
        pass = q.pass;
        is_pass = get_more passes more q.place q.pass q.is_pass;
        node = q.node;
        ended = q.ended;
        last = q.last;
        line = q.line;
        asked = q.asked;
        again = q.again;
      };
    }

told_later : (events : List WorldEvent) (passes more : List Acceptance) (told : List Answer) → Each (ToldBacked events passes) told → Each (ToldBacked events (passes ++ more)) told
told_later events passes more told h = each_weaker (ToldBacked events passes) (ToldBacked events (passes ++ more)) (λ t f ok. belongs_later events passes more t (f ok)) told h

answered_later : (events : List WorldEvent) (told more : List Answer) (p : Acceptance) (o : Option WorldEvent) → IsAnsweredIn events told p o → IsAnsweredIn events (told ++ more) p o
answered_later events told more p None h = h
answered_later events told more p (Some (Happens a)) h = record {
  place = h.place;
  answer = h.answer;
  is_told = get_more told more h.place h.answer h.is_told;
  event = h.event;
  node = h.node;
  line = h.line;
  nonce = h.nonce;
  asked = h.asked;
  bytes = h.bytes;
}
answered_later events told more p (Some (Cut true a)) h = h
answered_later events told more p (Some (Cut false a)) h = h
answered_later events told more p (Some (Restart i)) h = h
answered_later events told more p (Some (Lost i)) h = h
answered_later events told more p (Some (Anew i boot floors)) h = h

all_answered_later : (events : List WorldEvent) (told more : List Answer) (passes : List Acceptance) → Each (λ (p : Acceptance). IsAnsweredIn events told p (slice_get events p.ended)) passes
    → Each (λ (p : Acceptance). IsAnsweredIn events (told ++ more) p (slice_get events p.ended)) passes
all_answered_later events told more passes h =
    each_weaker (λ (p : Acceptance). IsAnsweredIn events told p (slice_get events p.ended)) (λ (p : Acceptance). IsAnsweredIn events (told ++ more) p (slice_get events p.ended))
    (λ p f. answered_later events told more p (slice_get events p.ended) f) passes h

-- a proposal of another node is on record as it was
pub begun_elsewhere : (e i : ℕ) (b : Option Beginning) (begun : ProposalRecord → Option Begun) → BeganAt i b → (j boot s : ℕ) → (j ≡ i → ⊥) → begun_with e b begun (named j boot s) ≡ begun (named j boot s)
begun_elsewhere e i None begun at j boot s ne = refl
begun_elsewhere e i (Some b) begun at j boot s ne =
    cond_both (same_proposal (named j boot s) b.proposal) (Some (record { token = b.token; lo = b.lo; hi = b.hi; event = e })) (begun (named j boot s)) (λ o. o ≡ begun (named j boot s))
    (λ q. absurd (ne (eqb-true j b.proposal.node (and_parts (eqb j b.proposal.node) _ q).0 ∙ at))) (λ _. refl)

-- a node at which nothing happens
elsewhere : (events : List WorldEvent) (h : List Note) (e i : ℕ) (o : Made) → BeganAt i o.began → (j : ℕ) (y : NodeState) → (j ≡ i → ⊥) → NodeKept events h e j y → NodeKept events (note_of e i o ∷ h) (suc e) j y
elsewhere events h e i o at j y ne k = record {
  owners = owners_later events (begun_in h) (begun_with e o.began (begun_in h)) j y.content.boot y.voter.seq y.voter.seq y.owners (omega arith) (λ s lt. begun_elsewhere e i o.began (begun_in h) at j y.content.boot s ne) k.owners;
  owned = k.owned;
  answers = answers_later events (passes_in h) (acceptance_in (begun_in (note_of e i o ∷ h)) e i o.pass) e j y.answers k.answers;
}

-- nothing noted
next_event : (events : List WorldEvent) (h : List Note) (e i : ℕ) (x : NodeState) → NodeKept events h e i x → NodeKept events h (suc e) i x
next_event events h e i x k = record {
  owners = k.owners;
  owned = k.owned;
  answers = each_weaker {A = KeptAnswer} _ _ (λ a f ok. one_later a (f ok)) x.answers k.answers;
}
  where
    one_later : (a : KeptAnswer) → Backed events (passes_in h) e i a.client a.line a.text → Backed events (passes_in h) (suc e) i a.client a.line a.text
    one_later a b = record { place = b.place; pass = b.pass; is_pass = b.is_pass; node = b.node; ended = omega (arith, b.ended); nonce = b.nonce; asked = b.asked; bytes = b.bytes }

pub next_honest : (events : List WorldEvent) (e : ℕ) (w : World) → Honest events e w → Honest events (suc e) w
next_honest events e w h = record { nodes = λ i. next_event events w.history e i (w.nodes i) (h.nodes i); told = h.told; answered = h.answered }

-- ---- an event at a node

-- the claims kept by a whole event, and by an event inside which the node stops
record Halves (events : List WorldEvent) (e : ℕ) (Premise : Type 0) (w new : World) : Type 0 where
  nodes : (i : ℕ) → NodeKept events new.history (suc e) i (new.nodes i)
  old_told : Each (ToldBacked events (passes_in new.history)) w.told
  told : Premise → Each (ToldBacked events (passes_in new.history)) new.told
  answered : (a : Act) → slice_get events e ≡ Some (Happens a) → Each (λ (p : Acceptance). IsAnsweredIn events new.told p (slice_get events p.ended)) (passes_in new.history)
  stopped : (a : Act) → slice_get events e ≡ Some (Cut true a) → Each (λ (p : Acceptance). IsAnsweredIn events w.told p (slice_get events p.ended)) (passes_in new.history)

idle_halves : (events : List WorldEvent) (e : ℕ) (Premise : Type 0) (w : World) → Honest events e w → Halves events e Premise w w
idle_halves events e Premise w h =
    let k = next_honest events e w h in
    record { nodes = k.nodes; old_told = h.told; told = λ _. h.told; answered = λ _ _. h.answered; stopped = λ _ _. h.answered }

-- the place in a list with others before it
far : {A : Type 0} → List A → ℕ → ℕ
far [] k = k
far (x ∷ xs) k = suc (far xs k)

get_far : {A : Type 0} (xs ys : List A) (k : ℕ) (y : A) → slice_get ys k ≡ Some y → slice_get (xs ++ ys) (far xs k) ≡ Some y
unfolding far
get_far [] ys k y h = h
get_far (x ∷ xs) ys k y h = get_far xs ys k y h

-- the pass of this event
new_answered : (events : List WorldEvent) (e i : ℕ) (begun : ProposalRecord → Option Begun) (told : List Answer) (replies : List Reply) (a : Act) → slice_get events e ≡ Some (Happens a)
    → (pass : Option PassRecord) → Replied events i begun pass replies
    → Each (λ (p : Acceptance). IsAnsweredIn events (told ++ map (told_reply e i) replies) p (slice_get events p.ended)) (acceptance_in begun e i pass)
new_answered events e i begun told replies a at None r = tt
new_answered events e i begun told replies a at (Some p) r = (
  subst (λ o. IsAnsweredIn events (told ++ map (told_reply e i) replies) (record { began = began_in (begun (named i p.boot p.seq)); ended = e; node = i; token = p.token; lo = p.lo; hi = p.hi }) o) (sym at)
      (record {
        place = far told r.place;
        answer = told_reply e i r.reply;
        is_told = get_far told (map (told_reply e i) replies) r.place (told_reply e i r.reply) (get_map (told_reply e i) replies r.place r.reply r.is_reply);
        event = refl;
        node = refl;
        line = r.line;
        nonce = r.nonce;
        asked = r.asked;
        bytes = r.bytes;
      }),
  tt,
)
  where
    get_map : {A B : Type 0} (f : A → B) (xs : List A) (k : ℕ) (x : A) → slice_get xs k ≡ Some x → slice_get (map f xs) k ≡ Some (f x)
    get_map f [] k x h = absurd (none-some x h)
    get_map f (y ∷ xs) zero x h = ap (λ z. Some (f z)) (same_Some y x h)
    get_map f (y ∷ xs) (suc k) x h = get_map f xs k x h

-- a stop inside the event owes no answer
new_stopped : (events : List WorldEvent) (e i : ℕ) (begun : ProposalRecord → Option Begun) (told : List Answer) (a : Act) → slice_get events e ≡ Some (Cut true a)
    → (pass : Option PassRecord) → Each (λ (p : Acceptance). IsAnsweredIn events told p (slice_get events p.ended)) (acceptance_in begun e i pass)
new_stopped events e i begun told a at None = tt
new_stopped events e i begun told a at (Some p) =
    (subst (λ o. IsAnsweredIn events told (record { began = began_in (begun (named i p.boot p.seq)); ended = e; node = i; token = p.token; lo = p.lo; hi = p.hi }) o) (sym at) tt, tt)

made_halves : (events : List WorldEvent) (e i : ℕ) (Premise : Type 0) (o : Made) (w : World) → Honest events e w → Tells events w.history e i Premise o → Halves events e Premise w (world_with_made e i o w)
unfolding world_with_made
made_halves events e i Premise o w h t =
    let h' = note_of e i o ∷ w.history in
    let more = acceptance_in (begun_in h') e i o.pass in
    let new = map (told_reply e i) o.replies in
    record {
      nodes = λ j.
          cond_both (eqb j i) o.state (w.nodes j) (λ x. NodeKept events h' (suc e) j x)
          (λ q. subst (λ m. NodeKept events h' (suc e) m o.state) (sym (eqb-true j i q)) t.state)
          (λ q. elsewhere events w.history e i o t.began j (w.nodes j) (eqb-false j i q) (h.nodes j));
      old_told = told_later events (passes_in w.history) more w.told h.told;
      told = λ premise.
          each_append (ToldBacked events (passes_in h')) w.told new (told_later events (passes_in w.history) more w.told h.told)
          (each_map (ToldBacked events (passes_in h')) (told_reply e i) o.replies (t.told premise));
      answered = λ a at.
          each_append (λ (p : Acceptance). IsAnsweredIn events (w.told ++ new) p (slice_get events p.ended)) (passes_in w.history) more
          (all_answered_later events w.told new (passes_in w.history) h.answered)
          (new_answered events e i (begun_in h') w.told o.replies a at o.pass t.replied);
      stopped = λ a at.
          each_append (λ (p : Acceptance). IsAnsweredIn events w.told p (slice_get events p.ended)) (passes_in w.history) more
          h.answered (new_stopped events e i (begun_in h') w.told a at o.pass);
    }

-- what the event must be for the node's event to come with it
abbrev ComesWith : List WorldEvent → ℕ → ℕ → Option NodeEvent → Type 0
ComesWith events e i None = Unit {0}
ComesWith events e i (Some v) = Comes events e i v

abbrev SaidWith : List WorldEvent → ℕ → ℕ → Option NodeEvent → Type 0
SaidWith events e i None = Unit {0}
SaidWith events e i (Some v) = Said events e i v

turned_halves : GroundLaw → (config : Config) (events : List WorldEvent) (e i : ℕ) (o : Option NodeEvent) (w : World) → Honest events e w → ComesWith events e i o → Halves events e (SaidWith events e i o) w (world_after_turn config e i o w)
unfolding world_after_turn made_by_event
turned_halves law config events e i None w h comes = idle_halves events e (Unit {0}) w h
turned_halves law config events e i (Some v) w h comes =
    let place = place_at w i in
    let x = w.nodes i in
    cond_both (has_store w i) (world_with_made e i (made_by_event config place v x) w) w (λ z. Halves events e (Said events e i v) w z)
    (λ _. made_halves events e i (Said events e i v) (made_by_event config place v x) w h
    (cond_both x.running (made_while_running config place v x) (quiet_made x) (λ m. Tells events w.history e i (Said events e i v) m)
    (λ _. event_tells law config events w.history e place x v comes (h.nodes i)) (λ _. resting_tells events w.history e i (Said events e i v) x (h.nodes i))))
    (λ _. idle_halves events e (Said events e i v) w h)

-- the event with this number is the act, done or kept
abbrev pub IsActed : List WorldEvent → ℕ → Act → Type 0
IsActed events e a = (slice_get events e ≡ Some (Happens a)) ⊎ (slice_get events e ≡ Some (Cut true a))

comes_handed : (events : List WorldEvent) (e i : ℕ) (o : Option Envelope) → ComesWith events e i (delivered_event o)
comes_handed events e i None = tt
comes_handed events e i (Some l) = tt

comes_noise : (events : List WorldEvent) (e i from : ℕ) (o : Option Envelope) → ComesWith events e i (noise_event from o)
comes_noise events e i from o = noise_cases (ComesWith events e i) from o tt tt (λ _ _. tt)

comes_with : (config : Config) (events : List WorldEvent) (e : ℕ) (sent : List Envelope) (a : Act) → IsActed events e a → ComesWith events e (acting_node a) (node_event_of sent a)
comes_with config events e sent (Says i client moment text) done = λ line nonce text_of.
    ⊎_elim (λ (at : slice_get events e ≡ Some (Happens (Says i client moment text))). subst (λ o. IsAskedIn i client line nonce o) (sym at) (refl, refl, text_of))
    (λ (at : slice_get events e ≡ Some (Cut true (Says i client moment text))). subst (λ o. IsAskedIn i client line nonce o) (sym at) (refl, refl, text_of)) done
comes_with config events e sent (Deliver i k) done = comes_handed events e i (slice_get sent k)
comes_with config events e sent (Ticks i) done = tt
comes_with config events e sent (Noise i from read) done = comes_noise events e i from read

said_handed : (events : List WorldEvent) (e i : ℕ) (o : Option Envelope) → SaidWith events e i (delivered_event o)
said_handed events e i None = tt
said_handed events e i (Some l) = tt

said_noise : (events : List WorldEvent) (e i from : ℕ) (o : Option Envelope) → SaidWith events e i (noise_event from o)
said_noise events e i from o = noise_cases (SaidWith events e i) from o tt tt (λ _ _. tt)

said_with : (config : Config) (events : List WorldEvent) (e : ℕ) (sent : List Envelope) (a : Act) → slice_get events e ≡ Some (Happens a) → SaidWith events e (acting_node a) (node_event_of sent a)
said_with config events e sent (Says i client moment text) at = subst (λ o. IsSaidIn i client (without_lf text) o) (sym at) (refl, refl, refl)
said_with config events e sent (Deliver i k) at = said_handed events e i (slice_get sent k)
said_with config events e sent (Ticks i) at = tt
said_with config events e sent (Noise i from read) at = said_noise events e i from read

acted_halves : GroundLaw → (config : Config) (events : List WorldEvent) (e : ℕ) (a : Act) (w : World) → Honest events e w → IsActed events e a
    → Halves events e (SaidWith events e (acting_node a) (node_event_of w.sent a)) w (world_after_act config e a w)
unfolding world_after_act
acted_halves law config events e a w h is = turned_halves law config events e (acting_node a) (node_event_of w.sent a) w h (comes_with config events e w.sent a is)

-- ---- restarts, events, runs

restarted_kept : (events : List WorldEvent) (h : List Note) (e i : ℕ) (x : NodeState) → NodeKept events h e i x → NodeKept events h e i (restarted_node x)
restarted_kept events h e i x k =
    cond_both (ltb x.content.boot last_boot) (opened_node x.content) (stopped_node x) (λ y. NodeKept events h e i y)
    (λ _. record { owners = tt; owned = tt; answers = tt }) (λ _. record { owners = k.owners; owned = k.owned; answers = k.answers })

restart_honest : (events : List WorldEvent) (e : ℕ) (o : Option ℕ) (w : World) → Honest events e w → Honest events e (world_after_restart o w)
unfolding world_after_restart
restart_honest events e None w h = h
restart_honest events e (Some i) w h =
    cond_both {A = World} (has_store w i) _ w (λ z. Honest events e z)
    (λ _. record {
      nodes = λ j. cond_both (eqb j i) (restarted_node (w.nodes i)) (w.nodes j) (λ y. NodeKept events w.history e j y)
          (λ q. subst (λ m. NodeKept events w.history e m (restarted_node (w.nodes i))) (sym (eqb-true j i q)) (restarted_kept events w.history e i (w.nodes i) (h.nodes i))) (λ _. h.nodes j);
      told = h.told;
      answered = h.answered;
    })
    (λ _. h)

-- ---- lost and replaced stores

loss_honest : (events : List WorldEvent) (e i : ℕ) (w : World) → Honest events e w → Honest events e (world_after_loss i w)
unfolding world_after_loss
loss_honest events e i w h =
    cond_both {A = World} (has_store w i) _ w (λ z. Honest events e z)
    (λ _. record {
      nodes = λ j. cond_both (eqb j i) (lost_node (w.nodes i)) (w.nodes j) (λ y. NodeKept events w.history e j y) (λ _. record { owners = tt; owned = tt; answers = tt }) (λ _. h.nodes j);
      told = h.told;
      answered = h.answered;
    })
    (λ _. h)

-- nothing begins or is accepted when a store is replaced
noted_anew : (events : List WorldEvent) (h : List Note) (e i j : ℕ) (x : NodeState) → NodeKept events h e j x → NodeKept events (note_anew e i ∷ h) (suc e) j x
noted_anew events h e i j x k = record { owners = k.owners; owned = k.owned; answers = answers_later events (passes_in h) [] e j x.answers k.answers }

anew_honest : (events : List WorldEvent) (e i boot : ℕ) (floor : ℕ → ℕ) (w : World) → Honest events e w → Honest events (suc e) (world_after_anew e i boot floor w)
unfolding world_after_anew
anew_honest events e i boot floor w h =
    let new = opening_node boot (length (w.nodes i).content.rows) floor in
    cond_both {A = World} (may_be_anew w i boot floor) _ w (λ z. Honest events (suc e) z)
    (λ _. record {
      nodes = λ j. cond_both (eqb j i) new (w.nodes j) (λ y. NodeKept events (note_anew e i ∷ w.history) (suc e) j y)
          (λ _. record { owners = tt; owned = tt; answers = tt }) (λ _. noted_anew events w.history e i j (w.nodes j) (h.nodes j));
      told = told_later events (passes_in w.history) [] w.told h.told;
      answered = each_append (λ (p : Acceptance). IsAnsweredIn events w.told p (slice_get events p.ended)) (passes_in w.history) [] h.answered tt;
    })
    (λ _. next_honest events e w h)

pub happens_honest : GroundLaw → (config : Config) (events : List WorldEvent) (e : ℕ) (x : WorldEvent) (w : World) → slice_get events e ≡ Some x → Honest events e w → Honest events (suc e) (world_after_event config e x w)
unfolding world_after_event
happens_honest law config events e (Happens a) w at h =
    let k = acted_halves law config events e a w h (inl at) in
    record { nodes = k.nodes; told = k.told (said_with config events e w.sent a at); answered = k.answered a at }
happens_honest law config events e (Cut true a) w at h =
    let k = acted_halves law config events e a w h (inr at) in
    restart_honest events (suc e) (node_of a w) (with_told_of w (world_after_act config e a w)) (record { nodes = k.nodes; told = k.old_told; answered = k.stopped a at })
happens_honest law config events e (Cut false a) w at h = restart_honest events (suc e) (node_of a w) w (next_honest events e w h)
happens_honest law config events e (Restart i) w at h = restart_honest events (suc e) (Some i) w (next_honest events e w h)
happens_honest law config events e (Lost i) w at h = loss_honest events (suc e) i w (next_honest events e w h)
happens_honest law config events e (Anew i boot floors) w at h = anew_honest events e i boot (floor_in floors) w h

-- the events from number e on
abbrev Rest : List WorldEvent → ℕ → List WorldEvent → Type 0
Rest events e xs = (k m : ℕ) → m ≡ e + k → slice_get xs k ≡ slice_get events m

run_honest : GroundLaw → (config : Config) (events xs : List WorldEvent) (e : ℕ) (w : World) → Rest events e xs → Honest events e w → Honest events (e + length xs) (world_after_events config e xs w)
unfolding world_after_events
run_honest law config events [] e w rest h = subst (λ m. Honest events m w) (no_more e) h
  where
    no_more : (m : ℕ) → m ≡ m + 0
    no_more m = omega arith
run_honest law config events (x ∷ xs) e w rest h =
    let here : slice_get events e ≡ Some x = sym (rest zero e (omega arith)) in
    subst (λ m. Honest events m (world_after_events config (suc e) xs (world_after_event config e x w))) (one_more e (length xs))
    (run_honest law config events xs (suc e) (world_after_event config e x w) (λ k m at. rest (suc k) m (omega (arith, at))) (happens_honest law config events e x w here h))
  where
    one_more : (m n : ℕ) → suc m + n ≡ m + suc n
    one_more m n = omega arith

all_honest : GroundLaw → (config : Config) (start : Start) (events : List WorldEvent) → Honest events (0 + length events) (world_of config start events)
all_honest law config start events =
    run_honest law config events events 0 (opening_world config start) (λ k m at. ap (λ n. slice_get events n) (same k m at))
    (record { nodes = λ i. record { owners = tt; owned = tt; answers = tt }; told = tt; answered = tt })
  where
    same : (k m : ℕ) → m ≡ 0 + k → k ≡ m
    same k m at = omega (arith, at)

pub tell_truth : GroundLaw → (config : Config) (start : Start) (events : List WorldEvent) → TellTruth events (passes_of config start events) (world_of config start events).told
tell_truth law config start events k t at = each_get (ToldBacked events (passes_of config start events)) (world_of config start events).told k t (all_honest law config start events).told at

pub are_answered : GroundLaw → (config : Config) (start : Start) (events : List WorldEvent) → AreAnswered events (world_of config start events).told (passes_of config start events)
are_answered law config start events k p at =
    each_get (λ (q : Acceptance). IsAnsweredIn events (world_of config start events).told q (slice_get events q.ended)) (passes_of config start events) k p (all_honest law config start events).answered at

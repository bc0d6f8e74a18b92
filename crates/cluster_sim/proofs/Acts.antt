-- Each act is the vote that the refinement names.
use Rattle.std.proofs.Common.{◌≡◌, ℕ, ℤ, ◌+◌, ◌^◌, ◌<◌, Bool, true, false, cond, ◌&&◌, ◌||◌, ⊎_elim, List, [], ◌∷◌, ◌++◌, length, Option, Some, None, refl, sym, ap, ◌∙◌, subst, arith, eqb, leb, ltb}
use Rattle.std.specs.List.{slice_get}
use Rattle.std.proofs.lemmas.Bool.{cond_both, cond-true, cond-false, eqb-true, eq-eqb, and_parts, and_from, and_left, and_right, lt-ltb, le-leb, leb-false, cases_eq}
use Rattle.floor_store.specs.Range.{IsSpan}
use Rattle.vote_core.specs.Rows.{row}
use Rattle.vote_core.specs.Voting.{propose, on_message, tick, quiet_step}
use Rattle.vote_core.specs.Schedule.{Envelope, Cluster, Begin, Deliver as Passes, Tick as Ticked, Idle, is_running, place_of, cluster_after, with_proposal_begun, with_member, stopped_member, may_begin, after_proposal, after_delivery, content_with_gate, after_act, node_of as vote_node, set_node, receiver_of}
use Rattle.oath_node.specs.Grounds.{HasGrounds, IsFitting}
use Rattle.client_lines.specs.Request.{without_lf}
use Rattle.oath_node.specs.declared.ruling.Ruling.{Ruling}
use Rattle.oath_node.specs.declared.ruling.Ruling.TheVariants.{Outside, Again, Waiting, Denied, Wrong, Fitting}
use Rattle.vote_core.specs.NodeSet.{PlaceRecord}
use Rattle.oath_node.specs.Machine.{Config, NodeState, NodeEvent, Client, Peer, Tick, Owner, next_owner, made_by_message, quiet_made, stopped_node, node_with_answer, gate_with_failure, made_by_vote, next_beginning, made_by_proposal, made_by_ruling, made_by_datagram, is_heard, made_while_running, made_by_event, ruling_at, standing_at}
use Rattle.cluster_sim.specs.World.{World, Act, Says, Deliver, Ticks, Noise, has_store, world_with_made, world_after_turn, world_after_act, delivered_event, noise_event, place_at, node_of, node_if_sent, begun_in, passes_in}
use Rattle.cluster_sim.proofs.Refinement.{member_of, cluster_of, vote_on_ruling, vote_on_datagram, vote_of}
use Rattle.cluster_sim.proofs.BelowLaws.{GroundLaw}
use Rattle.cluster_sim.proofs.Shape.{right_nil, seen_set, of_parts, made_after, made_idle}
use Rattle.cluster_sim.proofs.Sizes.{Sized}

-- ---- at a node that is no member or stopped nothing happens

down : (e : ℕ) (i : ℕ) (x : NodeState) (moment : ℕ) (r : Ruling) (w : Cluster) → is_running w i ≡ false → w ≡ after_act e (vote_on_ruling i x moment r) w
unfolding after_act
down e i x moment Outside w h = refl
down e i x moment (Again text) w h = refl
down e i x moment Waiting w h = refl
down e i x moment (Denied nonce reason) w h = refl
down e i x moment (Wrong nonce reason token) w h = sym (cond-false (is_running w i) _ _ h)
down e i x moment (Fitting nonce t span drift) w h = sym (cond-false (may_begin w i t span.lo span.hi) _ _ (ap (λ b. b && (ltb t (length (w.nodes i).content.rows) && (leb (row (w.nodes i).content t).next span.lo && ((eqb span.hi span.lo || eqb span.hi (span.lo + 1)) && ltb (length (w.nodes i).voter.pending) 32)))) h))

-- the effect of an event at a running node; at a stopped node it has none
gated : (config : Config) (e i : ℕ) (x : NodeEvent) (w : World) (V : Cluster)
    → (is_running (cluster_of w) i ≡ true → (w.nodes i).running ≡ true → cluster_of (world_with_made e i (made_while_running config (place_at w i) x (w.nodes i)) w) ≡ V)
    → (is_running (cluster_of w) i ≡ false → cluster_of w ≡ V)
    → cluster_of (world_after_turn config e i (Some x) w) ≡ V
unfolding world_after_turn made_by_event
gated config e i x w V works rests =
    let place = place_at w i in
    let y = w.nodes i in
    cond_both (has_store w i) (world_with_made e i (made_by_event config place x y) w) w (λ z. cluster_of z ≡ V)
    (λ member.
    cond_both y.running (made_while_running config place x y) (quiet_made y) (λ o. cluster_of (world_with_made e i o w) ≡ V)
    (λ up. works (and_from (has_store w i) y.running member up) up)
    (λ halt. made_idle e i y [] None w refl ∙ rests (and_right (has_store w i) y.running halt)))
    (λ out. rests (and_left (has_store w i) y.running out))

-- ---- a proposal

begun_after : (e i : ℕ) (w : World) (owners : List Owner) (t lo hi : ℕ) (drift : ℤ) → (w.nodes i).running ≡ true
    → cluster_of (world_with_made e i (made_by_vote owners (Some (next_beginning (place_at w i) t lo hi (w.nodes i))) (propose (place_at w i) t lo hi drift (w.nodes i).content (w.nodes i).voter) (w.nodes i)) w)
    ≡ cluster_after e i (propose (place_of (cluster_of w) i) t lo hi drift (w.nodes i).content (w.nodes i).voter) (with_proposal_begun e i t lo hi (cluster_of w))
unfolding with_proposal_begun cluster_after
begun_after e i w owners t lo hi drift running =
    made_after e i (made_by_vote owners (Some (next_beginning (place_at w i) t lo hi (w.nodes i))) (propose (place_at w i) t lo hi drift (w.nodes i).content (w.nodes i).voter) (w.nodes i))
    (propose (place_at w i) t lo hi drift (w.nodes i).content (w.nodes i).voter).decisions w refl running

halted_now : (e i : ℕ) (w : World) → cluster_of (world_with_made e i (quiet_made (stopped_node (w.nodes i))) w) ≡ with_member i (stopped_member (member_of (w.nodes i))) (cluster_of w)
unfolding world_with_made
halted_now e i w =
    let B = begun_in w.history in
    let x = stopped_node (w.nodes i) in
    ap (λ f. of_parts w (w.sent ++ []) B f (passes_in w.history ++ [])) (seen_set i x w.nodes)
    ∙ ap (λ l. of_parts w l B (set_node i (member_of x) (λ j. member_of (w.nodes j))) (passes_in w.history ++ [])) (right_nil w.sent)
    ∙ ap (λ l. of_parts w w.sent B (set_node i (member_of x) (λ j. member_of (w.nodes j))) l) (right_nil (passes_in w.history))

span_true : (lo hi : ℕ) → IsSpan lo hi → (eqb hi lo || eqb hi (lo + 1)) ≡ true
span_true lo hi h =
    let one : hi ≡ lo → (eqb hi lo || eqb hi (lo + 1)) ≡ true = λ e. ap (λ b. b || eqb hi (lo + 1)) (eq-eqb hi lo e) in
    let two : (hi ≡ lo → ⊥) → (eqb hi lo || eqb hi (lo + 1)) ≡ true = λ ne.
    let next : hi ≡ lo + 1 = omega (arith, h.ordered, h.short, ne) in
    ap (λ b. eqb hi lo || b) (eq-eqb hi (lo + 1) next) ∙ or_right (eqb hi lo) in
    ⊎_elim one two (cases_eq hi lo)
  where
    or_right : (b : Bool) → (b || true) ≡ true
    or_right true = refl
    or_right false = refl

fitting_may : (config : Config) (client moment : ℕ) (text line nonce : List ℕ) (i t lo hi : ℕ) (drift : ℤ) (w : World) → Sized (length config.book) (cluster_of w) → is_running (cluster_of w) i ≡ true
    → IsFitting config.book config.limits (standing_at (w.nodes i) client moment line) moment text nonce t lo hi drift → may_begin (cluster_of w) i t lo hi ≡ true
fitting_may config client moment text line nonce i t lo hi drift w sized up h =
    let x = w.nodes i in
    let a = ltb t (length x.content.rows) in
    let b = leb (row x.content t).next lo in
    let c = eqb hi lo || eqb hi (lo + 1) in
    let d = ltb (length x.voter.pending) 32 in
    and_from (is_running (cluster_of w) i) (a && (b && (c && d))) up
    (and_from a (b && (c && d)) (lt-ltb t (length x.content.rows) (subst (λ m. t < m) (sym (sized i)) h.within))
    (and_from b (c && d) (le-leb (row x.content t).next lo h.free)
    (and_from c d (span_true lo hi h.span) (lt-ltb (length x.voter.pending) 32 (leb-false 32 (length x.voter.pending) h.room)))))

proposes_same : (e i client : ℕ) (line nonce : List ℕ) (t lo hi : ℕ) (drift : ℤ) (w : World) → (w.nodes i).running ≡ true → may_begin (cluster_of w) i t lo hi ≡ true
    → cluster_of (world_with_made e i (made_by_proposal (place_at w i) client line nonce t lo hi drift (w.nodes i)) w) ≡ after_act e (Begin i t lo hi drift) (cluster_of w)
unfolding after_act made_by_proposal after_proposal
proposes_same e i client line nonce t lo hi drift w running may =
    let x = w.nodes i in
    let owner = next_owner client line nonce x in
    let owners = x.owners ++ owner ∷ [] in
    let s = propose (place_of (cluster_of w) i) t lo hi drift x.content x.voter in
    let goes = made_by_vote owners (Some (next_beginning (place_at w i) t lo hi x)) (propose (place_at w i) t lo hi drift x.content x.voter) x in
    let vyes = cluster_after e i s (with_proposal_begun e i t lo hi (cluster_of w)) in
    let vno = with_member i (stopped_member (member_of x)) (cluster_of w) in
    let b = ltb x.voter.seq (2 ^ 62) in
    let step : cluster_of (world_with_made e i (cond b goes (quiet_made (stopped_node x))) w) ≡ cond b vyes vno =
    cond_both b goes (quiet_made (stopped_node x)) (λ o. cluster_of (world_with_made e i o w) ≡ cond b vyes vno)
    (λ q. begun_after e i w owners t lo hi drift running ∙ sym (cond-true b vyes vno q))
    (λ q. halted_now e i w ∙ sym (cond-false b vyes vno q)) in
    step ∙ sym (cond-true (may_begin (cluster_of w) i t lo hi) (cond b vyes vno) (cluster_of w) may)

-- ---- a line

says_same : (config : Config) (e i client moment : ℕ) (text line : List ℕ) (w : World) → Sized (length config.book) (cluster_of w) → is_running (cluster_of w) i ≡ true → (w.nodes i).running ≡ true
    → (r : Ruling) → HasGrounds config.book config.limits (standing_at (w.nodes i) client moment line) moment text r
    → cluster_of (world_with_made e i (made_by_ruling (place_at w i) client moment line r (w.nodes i)) w) ≡ after_act e (vote_on_ruling i (w.nodes i) moment r) (cluster_of w)
unfolding made_by_ruling after_act cluster_after
says_same config e i client moment text line w sized up running Outside h = made_idle e i (w.nodes i) _ None w refl
says_same config e i client moment text line w sized up running (Again kept) h = made_idle e i (w.nodes i) _ None w refl
says_same config e i client moment text line w sized up running Waiting h = made_idle e i (w.nodes i) [] None w refl
says_same config e i client moment text line w sized up running (Denied nonce reason) h = made_idle e i (node_with_answer client line _ (w.nodes i)) _ None w refl
says_same config e i client moment text line w sized up running (Wrong nonce reason token) h =
    made_after e i (made_by_ruling (place_at w i) client moment line (Wrong nonce reason token) (w.nodes i)) [] w refl running
    ∙ sym (cond-true (is_running (cluster_of w) i) (cluster_after e i (quiet_step (content_with_gate token (gate_with_failure (w.nodes i).content token moment) (w.nodes i).content) (w.nodes i).voter) (cluster_of w)) (cluster_of w) up)
says_same config e i client moment text line w sized up running (Fitting nonce t span drift) h =
    proposes_same e i client line nonce t span.lo span.hi drift w running (fitting_may config client moment text line nonce i t span.lo span.hi drift w sized up h)

-- ---- a letter

heard_now : (e i : ℕ) (l : Envelope) (w : World) → l.receiver ≡ i → is_running (cluster_of w) i ≡ true → (w.nodes i).running ≡ true
    → cluster_of (world_with_made e i (made_by_vote (w.nodes i).owners None (on_message (place_at w i) l.sender l.message (w.nodes i).content (w.nodes i).voter) (w.nodes i)) w) ≡ after_delivery e (Some l) (cluster_of w)
unfolding after_delivery cluster_after
heard_now e i l w at up running =
    let V = cluster_of w in
    let s = on_message (place_at w i) l.sender l.message (w.nodes i).content (w.nodes i).voter in
    let there : (j : ℕ) → j ≡ i → cluster_after e i s V ≡ cond (is_running V j) (cluster_after e j (on_message (place_of V j) l.sender l.message (V.nodes j).content (V.nodes j).voter) V) V =
    λ j q.
    subst (λ m. cluster_after e i s V ≡ cond (is_running V m) (cluster_after e m (on_message (place_of V m) l.sender l.message (V.nodes m).content (V.nodes m).voter) V) V) (sym q) (sym (cond-true (is_running V i) (cluster_after e i s V) V up)) in
    made_after e i (made_by_vote (w.nodes i).owners None s (w.nodes i)) s.decisions w refl running ∙ there l.receiver at

not_heard : (e i : ℕ) (l : Envelope) (V : Cluster) → l.receiver ≡ i → is_running V i ≡ false → V ≡ after_delivery e (Some l) V
unfolding after_delivery
not_heard e i l V at h = sym (cond-false (is_running V l.receiver) _ V (ap (λ m. is_running V m) at ∙ h))

is_for : (config : Config) (w : World) (i : ℕ) (l : Envelope) → is_heard config (place_at w i) l.sender l ≡ true → l.receiver ≡ i
is_for config w i l h = eqb-true l.receiver i (and_parts (eqb l.receiver i) _ (and_parts (eqb l.sender l.sender) _ h).1).0

hears : (config : Config) (e i k : ℕ) (w : World) (l : Envelope) → slice_get w.sent k ≡ Some l → l.receiver ≡ i → is_heard config (place_at w i) l.sender l ≡ true
    → cluster_of (world_after_turn config e i (Some (Peer l.sender (Some l))) w) ≡ after_delivery e (slice_get w.sent k) (cluster_of w)
unfolding made_while_running made_by_datagram
hears config e i k w l at to q =
    let x = w.nodes i in
    let s = made_by_vote x.owners None (on_message (place_at w i) l.sender l.message x.content x.voter) x in
    gated config e i (Peer l.sender (Some l)) w (after_delivery e (Some l) (cluster_of w))
    (λ up running. ap (λ m. cluster_of (world_with_made e i m w)) (cond-true (is_heard config (place_at w i) l.sender l) s (quiet_made x) q) ∙ heard_now e i l w to up running)
    (λ off. not_heard e i l (cluster_of w) to off)
    ∙ ap (λ y. after_delivery e y (cluster_of w)) (sym at)

drops : (config : Config) (e i : ℕ) (w : World) (l : Envelope) → is_heard config (place_at w i) l.sender l ≡ false
    → cluster_of (world_after_turn config e i (Some (Peer l.sender (Some l))) w) ≡ cluster_of w
unfolding made_while_running made_by_datagram
drops config e i w l q =
    let x = w.nodes i in
    let s = made_by_vote x.owners None (on_message (place_at w i) l.sender l.message x.content x.voter) x in
    gated config e i (Peer l.sender (Some l)) w (cluster_of w)
    (λ up running. ap (λ m. cluster_of (world_with_made e i m w)) (cond-false (is_heard config (place_at w i) l.sender l) s (quiet_made x) q) ∙ made_idle e i x [] None w refl)
    (λ off. refl)

deliver_same : (config : Config) (e i k : ℕ) (w : World) (o : Option Envelope) → slice_get w.sent k ≡ o
    → cluster_of (world_after_turn config e i (delivered_event o) w) ≡ after_act e (vote_on_datagram config w i k o) (cluster_of w)
unfolding world_after_turn after_act after_delivery
deliver_same config e i k w None at = ap (λ o. after_delivery e o (cluster_of w)) (sym at)
deliver_same config e i k w (Some l) at =
    cond_both (is_heard config (place_at w i) l.sender l) (Passes k) (Idle i) (λ a. cluster_of (world_after_turn config e i (Some (Peer l.sender (Some l))) w) ≡ after_act e a (cluster_of w))
    (λ q. hears config e i k w l at (is_for config w i l q) q) (λ q. drops config e i w l q)

-- ---- noise and ticks

pub unread : (config : Config) (place : PlaceRecord) (from : ℕ) (x : NodeState) → made_by_datagram config place from None x ≡ quiet_made x
unfolding made_by_datagram
unread config place from x = refl

-- what says another sender than the node that it comes from is dropped
pub unheard : (config : Config) (place : PlaceRecord) (from : ℕ) (l : Envelope) (x : NodeState) → eqb l.sender from ≡ false → made_by_datagram config place from (Some l) x ≡ quiet_made x
unfolding made_by_datagram
unheard config place from l x other =
    cond-false (is_heard config place from l) (made_by_message place from l.message x) (quiet_made x) (and_left (eqb l.sender from) _ other)

-- what holds of no event, of bytes that say nothing, and of what is dropped, holds of noise
pub noise_cases : (P : Option NodeEvent → Type 0) (from : ℕ) (o : Option Envelope) → P None → P (Some (Peer from None))
    → ((l : Envelope) → eqb l.sender from ≡ false → P (Some (Peer from (Some l)))) → P (noise_event from o)
noise_cases P from None none unread dropped = unread
noise_cases P from (Some l) none unread dropped = cond_both (eqb l.sender from) None (Some (Peer from (Some l))) P (λ _. none) (λ other. dropped l other)

noise_same : (config : Config) (e i from : ℕ) (w : World) (o : Option Envelope) → cluster_of (world_after_turn config e i (noise_event from o) w) ≡ cluster_of w
unfolding world_after_turn made_while_running
noise_same config e i from w o =
    noise_cases (λ z. cluster_of (world_after_turn config e i z w) ≡ cluster_of w) from o refl
    (gated config e i (Peer from None) w (cluster_of w) (λ up running. ap (λ m. cluster_of (world_with_made e i m w)) (unread config (place_at w i) from (w.nodes i)) ∙ made_idle e i (w.nodes i) [] None w refl) (λ off. refl))
    (λ l other. gated config e i (Peer from (Some l)) w (cluster_of w)
    (λ up running. ap (λ m. cluster_of (world_with_made e i m w)) (unheard config (place_at w i) from l (w.nodes i) other) ∙ made_idle e i (w.nodes i) [] None w refl) (λ off. refl))

tick_same : (config : Config) (e i : ℕ) (w : World) → cluster_of (world_after_turn config e i (Some Tick) w) ≡ after_act e (Ticked i) (cluster_of w)
unfolding after_act made_while_running cluster_after
tick_same config e i w =
    let V = cluster_of w in
    let x = w.nodes i in
    let s = tick (place_at w i) x.content x.voter in
    gated config e i Tick w (after_act e (Ticked i) V)
    (λ up running. made_after e i (made_by_vote x.owners None s x) s.decisions w refl running ∙ sym (cond-true (is_running V i) (cluster_after e i s V) V up))
    (λ off. sym (cond-false (is_running V i) (cluster_after e i s V) V off))

-- ---- every act

pub act_same : GroundLaw → (config : Config) (e : ℕ) (a : Act) (w : World) → Sized (length config.book) (cluster_of w) → cluster_of (world_after_act config e a w) ≡ after_act e (vote_of config w a) (cluster_of w)
unfolding world_after_act made_while_running after_act
act_same law config e (Says i client moment text) w sized =
    let x = w.nodes i in
    let r = ruling_at config x client moment text in
    let line = without_lf text in
    gated config e i (Client client moment text) w (after_act e (vote_on_ruling i x moment r) (cluster_of w))
    (λ up running. says_same config e i client moment text line w sized up running r (law config.book config.limits (standing_at x client moment line) moment text))
    (λ off. down e i x moment r (cluster_of w) off)
act_same law config e (Deliver i k) w sized = deliver_same config e i k w (slice_get w.sent k) refl
act_same law config e (Ticks i) w sized = tick_same config e i w
act_same law config e (Noise i from read) w sized = noise_same config e i from w read

-- and it is one at the same node
line_node : (i : ℕ) (x : NodeState) (moment : ℕ) (r : Ruling) (w : Cluster) → vote_node (vote_on_ruling i x moment r) w ≡ Some i
line_node i x moment Outside w = refl
line_node i x moment (Again text) w = refl
line_node i x moment Waiting w = refl
line_node i x moment (Denied nonce reason) w = refl
line_node i x moment (Wrong nonce reason token) w = refl
line_node i x moment (Fitting nonce t span drift) w = refl

letter_node : (config : Config) (w : World) (i k : ℕ) (o : Option Envelope) → slice_get w.sent k ≡ o → vote_node (vote_on_datagram config w i k o) (cluster_of w) ≡ node_if_sent i o
letter_node config w i k None at = ap receiver_of at
letter_node config w i k (Some l) at =
    cond_both (is_heard config (place_at w i) l.sender l) (Passes k) (Idle i) (λ a. vote_node a (cluster_of w) ≡ Some i)
    (λ q. ap receiver_of at ∙ ap (λ m. Some m) (is_for config w i l q)) (λ _. refl)

pub same_node : (config : Config) (w : World) (a : Act) → vote_node (vote_of config w a) (cluster_of w) ≡ node_of a w
same_node config w (Says i client moment text) = line_node i (w.nodes i) moment (ruling_at config (w.nodes i) client moment text) (cluster_of w)
same_node config w (Deliver i k) = letter_node config w i k (slice_get w.sent k) refl
same_node config w (Ticks i) = refl
same_node config w (Noise i from read) = refl

-- A round in which a line proposes: it is accepted, and the floors of the live members rise together.
use Rattle.std.proofs.Common.{◌≡◌, ℕ, ℤ, zero, suc, ◌+◌, ◌*◌, ◌/◌, ◌^◌, ◌<◌, ◌≤◌, ◌⊎◌, inl, inr, ⊎_elim, Bool, true, false, not, cond, ◌||◌, List, [], ◌∷◌, ◌++◌, length, map, drop, Option, Some, None, refl, sym, ap, ◌∙◌, subst, arith, eqb, ltb}
use Rattle.std.specs.List.{filter}
use Rattle.std.proofs.lemmas.Bool.{cond_both, cond-true, cond-false, eqb-true, eqb-false, eq-eqb, ne_eqb, lt-ltb, or_cases, or_from, or_left, or_right, not_from_false, not-true, both_ways, cases_Bool, cases_eq}
use Rattle.std.proofs.lemmas.List.{append-nil, append_assoc, drop_at, length-append}
use Rattle.admit_core.specs.Throttle.{Accepted}
use Rattle.answer_ring.specs.Answers.{KeptAnswer, kept_with}
use Rattle.cluster_sim.proofs.Asks.{Differs, Distinct, Silent, ask_letters, ask_wave, grant_to, made_silent, row_off, silent_then}
use Rattle.cluster_sim.proofs.Grants.{Covered, asking, cleared, grant_wave, passing, settled, waiting}
use Rattle.cluster_sim.proofs.Servers.{OthersSame, drift_at}
use Rattle.cluster_sim.proofs.Sound.{AllSound, happens_sound, no_owners}
use Rattle.cluster_sim.proofs.Turns.{member_parts, others_each}
use Rattle.cluster_sim.proofs.VoteDrifts.{same_drift}
use Rattle.cluster_sim.proofs.Waves.{is_in, Stands, run_append, says, set_at, set_off, stands_last}
use Rattle.cluster_sim.specs.Answered.{ok_bytes}
use Rattle.cluster_sim.specs.Results.{results_in, results_with_pass}
use Rattle.cluster_sim.specs.Rounds.{AreUp, IsSettled, RoundLine, deliveries, is_between, is_live, line_event, next_at, round_events}
use Rattle.cluster_sim.specs.World.{Deliver, Happens, World, WorldEvent, place_at, with_state, world_after_event, world_after_events, world_with_made}
use Rattle.floor_store.specs.Content.{Content, accepted_row, with_row}
use Rattle.floor_store.specs.Records.{PassRecord, ProposalRecord, RowRecord, span_of}
use Rattle.oath_node.specs.Machine.{Beginning, Config, Made, NodeState, Owner, made_by_proposal, made_by_ruling, made_by_vote, next_beginning, quiet_made, ruling_at, stopped_node}
use Rattle.oath_node.specs.declared.ruling.Ruling.TheVariants.{Fitting}
use Rattle.otp_core.specs.Acceptance.{majority_of, size}
use Rattle.vote_core.proofs.Basics.{Each, each_append, each_filter, each_passes, each_weaker, put_size, row_cases, row_here}
use Rattle.vote_core.specs.NodeSet.{PlaceRecord, members, nobody, others, with_node}
use Rattle.vote_core.specs.Rows.{granted_row, row}
use Rattle.vote_core.specs.Schedule.{Envelope, envelope_from, is_member}
use Rattle.vote_core.specs.Voting.{VoterState, pass_of, propose, propose_alone, propose_among, to_each}
use Rattle.vote_core.specs.declared.message.Message.TheVariants.{Ask}
use Rattle.client_lines.specs.Request.{without_lf}

-- ---- the events of a round

-- by what the line sent, and what that brought
pub round_is : (config : Config) (live : List ℕ) (e : ℕ) (w : World) (l : RoundLine) (w1 : World) (ls ms : List Envelope) → world_after_event config e (line_event l) w ≡ w1 → w1.sent ≡ w.sent ++ ls
    → (world_after_events config (suc e) (deliveries (is_between live) (length w.sent) ls) w1).sent ≡ w1.sent ++ ms
    → round_events config live e w l ≡ line_event l ∷ deliveries (is_between live) (length w.sent) ls ++ deliveries (is_between live) (length w1.sent) ms
round_is config live e w l w1 ls ms is first second =
    let wave : ℕ → List Envelope → List WorldEvent = λ k xs. deliveries (is_between live) k xs in
    ap (λ a. line_event l ∷ wave (length w.sent) (drop (length w.sent) a.sent) ++ wave (length a.sent) (drop (length a.sent) (world_after_events config (suc e) (wave (length w.sent) (drop (length w.sent) a.sent)) a).sent)) is
    ∙ ap (λ xs. line_event l ∷ wave (length w.sent) xs ++ wave (length w1.sent) (drop (length w1.sent) (world_after_events config (suc e) (wave (length w.sent) xs) w1).sent)) (ap (λ s. drop (length w.sent) s) first ∙ drop_at w.sent ls (length w.sent) refl)
    ∙ ap (λ xs. line_event l ∷ wave (length w.sent) ls ++ wave (length w1.sent) xs) (ap (λ s. drop (length w1.sent) s) second ∙ drop_at w1.sent ms (length w1.sent) refl)

pub round_run : (config : Config) (e : ℕ) (w : World) (d : WorldEvent) (w1 : World) (xs ys : List WorldEvent) → world_after_event config e d w ≡ w1 → world_after_events config e (d ∷ xs ++ ys) w ≡ world_after_events config (length xs + suc e) ys (world_after_events config (suc e) xs w1)
unfolding world_after_events
round_run config e w d w1 xs ys is = ap (λ a. world_after_events config (suc e) (xs ++ ys) a) is ∙ run_append config xs ys (suc e) w1

pub handed_append : (test : Envelope → Bool) (k : ℕ) (ls ms : List Envelope) → deliveries test k (ls ++ ms) ≡ deliveries test k ls ++ deliveries test (length ls + k) ms
handed_append test k [] ms = let z : k ≡ 0 + k = omega arith in ap (λ m. deliveries test m ms) z
handed_append test k (l ∷ ls) ms =
    let z : length ls + suc k ≡ suc (length ls) + k = omega arith in
    each_way (test l) (Happens (Deliver l.receiver k)) (deliveries test (suc k) (ls ++ ms)) (deliveries test (suc k) ls) (deliveries test (suc (length ls) + k) ms)
    (handed_append test (suc k) ls ms ∙ ap (λ m. deliveries test (suc k) ls ++ deliveries test m ms) z)
  where
    each_way : (b : Bool) (d : WorldEvent) (xs ys zs : List WorldEvent) → xs ≡ ys ++ zs → cond b (d ∷ xs) xs ≡ cond b (d ∷ ys) ys ++ zs
    each_way true d xs ys zs h = ap (λ m. d ∷ m) h
    each_way false d xs ys zs h = h

-- these letters were sent in the round, and its events hand on each of them is_between live members
pub record Rounded (live : List ℕ) (d : WorldEvent) (xs : List WorldEvent) (w v : World) : Type 0 where
  pub more : List Envelope
  pub sent : v.sent ≡ w.sent ++ more
  pub events : xs ≡ d ∷ deliveries (is_between live) (length w.sent) more

pub two_waves : (live : List ℕ) (d : WorldEvent) (w v : World) (k : ℕ) (ls ms : List Envelope) → k ≡ length (w.sent ++ ls) → v.sent ≡ (w.sent ++ ls) ++ ms
    → Rounded live d (d ∷ deliveries (is_between live) (length w.sent) ls ++ deliveries (is_between live) k ms) w v
two_waves live d w v k ls ms at sent =
    let n = length-append w.sent ls in
    let z : k ≡ length ls + length w.sent = omega (arith, n, at) in
    record {
      more = ls ++ ms;
      sent = sent ∙ append_assoc w.sent ls ms;
      events = ap (λ m. d ∷ deliveries (is_between live) (length w.sent) ls ++ deliveries (is_between live) m ms) z ∙ ap (λ xs. d ∷ xs) (sym (handed_append (is_between live) (length w.sent) ls ms));
    }

-- ---- the node that proposes

abbrev pub proposal : ℕ → Content → ℕ → ProposalRecord
proposal i c s = record { node = i; boot = c.boot; seq = s }

calm : (x : NodeState) → x.voter.pending ≡ [] → x.owners ≡ [] → x.running ≡ true → x ≡ settled x.content x.voter.seq x.voter.turn x.answers
calm x p q r =
    ap (λ qs. record { content = x.content; voter = record { pending = qs; seq = x.voter.seq; turn = x.voter.turn }; owners = x.owners; answers = x.answers; running = x.running }) p
    ∙ ap (λ os. record { content = x.content; voter = record { pending = []; seq = x.voter.seq; turn = x.voter.turn }; owners = os; answers = x.answers; running = x.running }) q
    ∙ ap (λ b. record { content = x.content; voter = record { pending = []; seq = x.voter.seq; turn = x.voter.turn }; owners = []; answers = x.answers; running = b }) r

abbrev pub alone_made : ℕ → Content → ℕ → ℕ → ℕ → ℕ → ℕ → ℤ → ℕ → List ℕ → List ℕ → List KeptAnswer → Option Beginning → Made
alone_made i c s turn t lo hi drift client line nonce A b = record {
  state = settled (with_row c t (accepted_row drift (granted_row (proposal i c s) lo hi (row c t))) (Some (pass_of t lo hi c.boot s))) (s + 1) turn (kept_with A (record { client = client; line = line; text = ok_bytes nonce hi }));
  sends = [];
  replies = record { client = client; bytes = ok_bytes nonce hi } ∷ [];
  began = b;
  pass = Some (pass_of t lo hi c.boot s);
  failed = None;
}

abbrev pub among_made : PlaceRecord → Content → ℕ → ℕ → ℕ → ℕ → ℕ → ℤ → ℕ → List ℕ → List ℕ → List KeptAnswer → Option Beginning → Made
among_made place c s turn t lo hi drift client line nonce A b = record {
  state = waiting (with_row c t (granted_row (proposal place.me c s) lo hi (row c t)) None) (s + 1) turn (record { seq = s; client = client; line = line; nonce = nonce }) A (asking s t lo hi drift (with_node place.me nobody));
  sends = to_each (Ask (proposal place.me c s) t (span_of lo hi)) (others place);
  replies = [];
  began = b;
  pass = None;
  failed = None;
}

alone_is : (place : PlaceRecord) (c : Content) (s turn t lo hi : ℕ) (drift : ℤ) (client : ℕ) (line nonce : List ℕ) (A : List KeptAnswer) (b : Option Beginning)
    → (let x = settled c s turn A in made_by_vote (record { seq = s; client = client; line = line; nonce = nonce } ∷ []) b (propose_alone place t lo hi drift x.content x.voter) x) ≡ alone_made place.me c s turn t lo hi drift client line nonce A b
unfolding propose_alone
alone_is place c s turn t lo hi drift client line nonce A b = rw (eq-eqb s s refl) refl

among_is : (place : PlaceRecord) (c : Content) (s turn t lo hi : ℕ) (drift : ℤ) (client : ℕ) (line nonce : List ℕ) (A : List KeptAnswer) (b : Option Beginning)
    → (let x = settled c s turn A in made_by_vote (record { seq = s; client = client; line = line; nonce = nonce } ∷ []) b (propose_among place t lo hi drift x.content x.voter) x) ≡ among_made place c s turn t lo hi drift client line nonce A b
unfolding propose_among
among_is place c s turn t lo hi drift client line nonce A b = rw (eq-eqb s s refl) refl

-- what the line makes of the node, with others or without
abbrev pub proposed_made : PlaceRecord → NodeState → ℕ → List ℕ → List ℕ → ℕ → ℕ → ℕ → ℤ → Bool → Made
proposed_made place x client line nonce t lo hi drift alone =
    let b = Some (next_beginning place t lo hi (settled x.content x.voter.seq x.voter.turn x.answers)) in
    cond alone (alone_made place.me x.content x.voter.seq x.voter.turn t lo hi drift client line nonce x.answers b) (among_made place x.content x.voter.seq x.voter.turn t lo hi drift client line nonce x.answers b)

proposes_is : (place : PlaceRecord) (x : NodeState) (client moment : ℕ) (line nonce : List ℕ) (t lo hi : ℕ) (drift : ℤ) → x.voter.pending ≡ [] → x.owners ≡ [] → x.running ≡ true → x.voter.seq < 2 ^ 62
    → made_by_ruling place client moment line (Fitting nonce t (span_of lo hi) drift) x ≡ proposed_made place x client line nonce t lo hi drift (eqb place.n 1)
unfolding made_by_ruling made_by_proposal propose
proposes_is place x client moment line nonce t lo hi drift p q r lt =
    let y = settled x.content x.voter.seq x.voter.turn x.answers in
    let o : Owner = record { seq = x.voter.seq; client = client; line = line; nonce = nonce } in
    let b = Some (next_beginning place t lo hi y) in
    let one = propose_alone place t lo hi drift y.content y.voter in
    let all = propose_among place t lo hi drift y.content y.voter in
    ap (λ z. made_by_proposal place client line nonce t lo hi drift z) (calm x p q r)
    ∙ cond-true (ltb x.voter.seq (2 ^ 62)) (made_by_vote (o ∷ []) b (propose place t lo hi drift y.content y.voter) y) (quiet_made (stopped_node y)) (lt-ltb x.voter.seq (2 ^ 62) lt)
    ∙ cond_both (eqb place.n 1) one all (λ s. made_by_vote (o ∷ []) b s y ≡ proposed_made place x client line nonce t lo hi drift (eqb place.n 1))
    (λ k. alone_is place x.content x.voter.seq x.voter.turn t lo hi drift client line nonce x.answers b ∙ sym (ap (λ z. proposed_made place x client line nonce t lo hi drift z) k))
    (λ k. among_is place x.content x.voter.seq x.voter.turn t lo hi drift client line nonce x.answers b ∙ sym (ap (λ z. proposed_made place x client line nonce t lo hi drift z) k))

-- ---- what such a round leaves

pub record Proposing (config : Config) (live : List ℕ) (w : World) (l : RoundLine) (nonce : List ℕ) (t lo hi : ℕ) (drift : ℤ) : Type 0 where
  pub sound : AllSound (length config.book) w
  pub calm : IsSettled config live w
  pub here : is_live live l.node ≡ true
  pub judged : ruling_at config (w.nodes l.node) l.client l.moment l.line ≡ Fitting nonce t (span_of lo hi) drift
  pub known : t < length config.book
  pub free : next_at w l.node t ≤ lo
  pub span : lo ≤ hi
  pub room : (w.nodes l.node).voter.seq < 2 ^ 62

pub record Moved (live : List ℕ) (e end i t hi : ℕ) (drift : ℤ) (client : ℕ) (line nonce : List ℕ) (w v : World) : Type 0 where
  pub n : v.n ≡ w.n
  pub up : AreUp live v
  pub none : (j : ℕ) → is_live live j ≡ true → (v.nodes j).voter.pending ≡ []
  pub raised : (j : ℕ) → is_live live j ≡ true → next_at v j t ≡ hi + 1
  pub rest : (j u : ℕ) → is_live live j ≡ true → (u ≡ t → ⊥) → next_at v j u ≡ next_at w j u
  pub answers : (v.nodes i).answers ≡ kept_with (w.nodes i).answers (record { client = client; line = line; text = ok_bytes nonce hi })
  pub others : OthersSame i w v
  pub own : (u : ℕ) → results_in v.history i u ≡ cond (eqb t u) (Accepted ∷ results_in w.history i u) (results_in w.history i u)
  pub own_drift : (u : ℕ) → drift_at v i u ≡ cond (eqb t u) drift (drift_at w i u)
  pub event : ℕ
  pub since : e ≤ event
  pub before : event < end
  pub told : v.told ≡ w.told ++ record { event = event; node = i; client = client; bytes = ok_bytes nonce hi } ∷ []
  pub seqs : (j : ℕ) → is_live live j ≡ true → (v.nodes j).voter.seq ≤ (w.nodes j).voter.seq + 1

line_made : (config : Config) (live : List ℕ) (e : ℕ) (w : World) (l : RoundLine) (nonce : List ℕ) (t lo hi : ℕ) (drift : ℤ) → Proposing config live w l nonce t lo hi drift
    → world_after_event config e (line_event l) w ≡ world_with_made e l.node (proposed_made (place_at w l.node) (w.nodes l.node) l.client (without_lf l.line) nonce t lo hi drift (eqb w.n 1)) w
line_made config live e w l nonce t lo hi drift h =
    let i = l.node in
    let x = w.nodes i in
    let none = h.calm.none i h.here in
    let up = h.calm.up i h.here in
    says config e i l.client l.moment l.line w up.0 up.1
    ∙ ap (λ v. world_with_made e i (made_by_ruling (place_at w i) l.client l.moment (without_lf l.line) v x) w) h.judged
    ∙ ap (λ o. world_with_made e i o w) (proposes_is (place_at w i) x l.client l.moment (without_lf l.line) nonce t lo hi drift none (no_owners (length config.book) x (h.sound i) none) up.1 h.room)

-- ---- alone

-- the drift of each row, once one is put
drift_put : (c : Content) (t : ℕ) (r : RowRecord) (p : Option PassRecord) → t < length c.rows → (u : ℕ) → (row (with_row c t r p) u).drift ≡ cond (eqb t u) r.drift (row c u).drift
drift_put c t r p lt u =
    cond_both (eqb t u) r.drift (row c u).drift (λ d. (row (with_row c t r p) u).drift ≡ d)
    (λ q. ap (λ m. (row (with_row c t r p) m).drift) (sym (eqb-true t u q)) ∙ ap (λ (z : RowRecord). z.drift) (row_here c t r p lt))
    (λ q. ap (λ (z : RowRecord). z.drift) (row_off c t r p u (λ e. eqb-false t u q (sym e))))

one_alone : (n i j : ℕ) → n ≡ 1 → is_member n i ≡ true → is_member n j ≡ true → j ≡ i
one_alone n i j one a b = let p = member_parts n i a in let q = member_parts n j b in quiet_step n i j one p.0 p.1 q.0 q.1
  where
    quiet_step : (n i j : ℕ) → n ≡ 1 → 1 ≤ i → i ≤ n → 1 ≤ j → j ≤ n → j ≡ i
    quiet_step n i j z a b c d = omega (arith, z, a, b, c, d)

alone_moved : (config : Config) (live : List ℕ) (e : ℕ) (w : World) (l : RoundLine) (nonce : List ℕ) (t lo hi : ℕ) (drift : ℤ) (b : Option Beginning) → Proposing config live w l nonce t lo hi drift → w.n ≡ 1
    → Moved live e (suc e) l.node t hi drift l.client (without_lf l.line) nonce w (world_with_made e l.node (alone_made l.node (w.nodes l.node).content (w.nodes l.node).voter.seq (w.nodes l.node).voter.turn t lo hi drift l.client (without_lf l.line) nonce (w.nodes l.node).answers b) w)
unfolding world_with_made
alone_moved config live e w l nonce t lo hi drift b h one =
    let i = l.node in
    let x = w.nodes i in
    let c = x.content in
    let r = accepted_row drift (granted_row (proposal i c x.voter.seq) lo hi (row c t)) in
    let p = Some (pass_of t lo hi c.boot x.voter.seq) in
    let o = alone_made i c x.voter.seq x.voter.turn t lo hi drift l.client (without_lf l.line) nonce x.answers b in
    let at : (j : ℕ) → is_live live j ≡ true → j ≡ i = λ j k. one_alone w.n i j one (is_in w i (h.calm.up i h.here).0) (is_in w j (h.calm.up j k).0) in
    let node : (j : ℕ) → is_live live j ≡ true → with_state i o.state w.nodes j ≡ o.state = λ j k. ap (λ m. with_state i o.state w.nodes m) (at j k) ∙ set_at i o.state w.nodes in
    record {
      n = refl;
      up = λ m k. ((h.calm.up m k).0, ap (λ (y : NodeState). y.running) (node m k));
      none = λ j k. ap (λ (y : NodeState). y.voter.pending) (node j k);
      raised = λ j k. ap (λ (y : NodeState). (row y.content t).next) (node j k) ∙ ap (λ (z : RowRecord). z.next) (row_here c t r p (subst (λ m. t < m) (sym (h.sound i).kept.size) h.known));
      rest = λ j u k ne. ap (λ (y : NodeState). (row y.content u).next) (node j k) ∙ ap (λ (z : RowRecord). z.next) (row_off c t r p u ne) ∙ ap (λ m. next_at w m u) (sym (at j k));
      answers = ap (λ (y : NodeState). y.answers) (set_at i o.state w.nodes);
      others = record { answers = λ j ne. ap (λ (y : NodeState). y.answers) (set_off i j o.state w.nodes ne); results = λ j u ne. cond-false (eqb j i) (results_with_pass u o.pass (results_in w.history j u)) (results_in w.history j u) (ne_eqb j i ne); drifts = λ j u ne. ap (λ (y : NodeState). (row y.content u).drift) (set_off i j o.state w.nodes ne) };
      own = λ u. cond-true (eqb i i) (results_with_pass u o.pass (results_in w.history i u)) (results_in w.history i u) (eq-eqb i i refl);
      own_drift = λ u. ap (λ (y : NodeState). (row y.content u).drift) (set_at i o.state w.nodes) ∙ drift_put c t r p (subst (λ m. t < m) (sym (h.sound i).kept.size) h.known) u;
      event = e;
      since = omega arith;
      before = omega arith;
      told = refl;
      seqs = λ j k. one_more (ap (λ (y : NodeState). y.voter.seq) (node j k)) (ap (λ m. (w.nodes m).voter.seq) (at j k));
    }
  where
    one_more : {a b d : ℕ} → a ≡ b + 1 → d ≡ b → a ≤ d + 1
    one_more p q = omega (arith, p, q)

-- ---- among others

append_distinct : (xs : List ℕ) (y : ℕ) → Distinct xs → Each (λ x. x < y) xs → Distinct (xs ++ y ∷ [])
append_distinct [] y h k = (tt, tt)
append_distinct (x ∷ xs) y h k = (last xs y x h.0 k.0, append_distinct xs y h.1 k.1)
  where
    last : (xs : List ℕ) (y x : ℕ) → Each (Differs x) xs → x < y → Each (Differs x) (xs ++ y ∷ [])
    last [] y x d lt = (λ q. absurd (omega (arith, q, lt)), tt)
    last (z ∷ zs) y x d lt = (d.0, last zs y x d.1 lt)

members_below : (n k : ℕ) → n < k → Each (λ x. x < k) (members n)
members_below zero k lt = tt
members_below (suc n) k lt = each_append (λ x. x < k) (members n) (suc n ∷ []) (members_below n k (omega (arith, lt))) (lt, tt)

members_distinct : (n : ℕ) → Distinct (members n)
members_distinct zero = tt
members_distinct (suc n) = append_distinct (members n) (suc n) (members_distinct n) (members_below n (suc n) (omega arith))

pub filter_distinct : (test : ℕ → Bool) (xs : List ℕ) → Distinct xs → Distinct (filter test xs)
filter_distinct test [] h = tt
filter_distinct test (x ∷ xs) h =
    cond_both (test x) (x ∷ filter test xs) (filter test xs) (λ l. Distinct l) (λ _. (each_filter (Differs x) test xs h.0, filter_distinct test xs h.1)) (λ _. filter_distinct test xs h.1)

others_differ : (n i : ℕ) → Each (Differs i) (others (record { me = i; n = n }))
others_differ n i = each_weaker (λ g. not (eqb g i) ≡ true) (Differs i) (λ g q r. both_ways (eqb g i) (not-true (eqb g i) q) (eq-eqb g i r)) (others (record { me = i; n = n })) (each_passes (λ g. not (eqb g i)) (members n))

-- who stands in a list, and passes, stands in what is let through
stands_let : (test : ℕ → Bool) (xs : List ℕ) (j : ℕ) → is_live xs j ≡ true → test j ≡ true → is_live (filter test xs) j ≡ true
stands_let test [] j h q = absurd (both_ways false refl h)
stands_let test (x ∷ xs) j h q =
    cond_both (test x) (x ∷ filter test xs) (filter test xs) (λ l. is_live l j ≡ true)
    (λ _. ⊎_elim (λ (z : eqb x j ≡ true). or_left (eqb x j) (is_live (filter test xs) j) z) (λ (z : is_live xs j ≡ true). or_right (eqb x j) (is_live (filter test xs) j) (stands_let test xs j z q)) (or_cases (eqb x j) (is_live xs j) h))
    (λ off. ⊎_elim (λ (z : eqb x j ≡ true). absurd (both_ways (test x) off (ap test (eqb-true x j z) ∙ q))) (λ (z : is_live xs j ≡ true). stands_let test xs j z q) (or_cases (eqb x j) (is_live xs j) h))

stands_append : (xs ys : List ℕ) (j : ℕ) → (is_live xs j ≡ true) ⊎ (is_live ys j ≡ true) → is_live (xs ++ ys) j ≡ true
stands_append [] ys j (inl h) = absurd (both_ways false refl h)
stands_append [] ys j (inr h) = h
stands_append (x ∷ xs) ys j (inr h) = or_right (eqb x j) (is_live (xs ++ ys) j) (stands_append xs ys j (inr h))
stands_append (x ∷ xs) ys j (inl h) = ⊎_elim (λ (z : eqb x j ≡ true). or_left (eqb x j) (is_live (xs ++ ys) j) z) (λ (z : is_live xs j ≡ true). or_right (eqb x j) (is_live (xs ++ ys) j) (stands_append xs ys j (inl z))) (or_cases (eqb x j) (is_live xs j) h)

stands_members : (n j : ℕ) → 1 ≤ j → j ≤ n → is_live (members n) j ≡ true
stands_members zero j low high = absurd (omega (arith, low, high))
stands_members (suc n) j low high =
    ⊎_elim (λ (q : j ≡ suc n). stands_append (members n) (suc n ∷ []) j (inr (or_left (eqb (suc n) j) false (eq-eqb (suc n) j (sym q)))))
    (λ (ne : j ≡ suc n → ⊥). stands_append (members n) (suc n ∷ []) j (inl (stands_members n j low (below j n high ne)))) (cases_eq j (suc n))
  where
    below : (a b : ℕ) → a ≤ suc b → (a ≡ suc b → ⊥) → a ≤ b
    below a b le ne = grind (arith, le, ne)

asked_all : (live : List ℕ) (n i : ℕ) → ((j : ℕ) → is_live live j ≡ true → is_member n j ≡ true) → Covered live (with_node i nobody) (filter (is_live live) (others (record { me = i; n = n })))
asked_all live n i up j at =
    let parts = member_parts n j (up j at) in
    ⊎_elim (λ (q : j ≡ i). inl (or_left (eqb j i) false (eq-eqb j i q)))
    (λ (ne : j ≡ i → ⊥). inr (stands_let (is_live live) (others (record { me = i; n = n })) j (stands_let (λ g. not (eqb g i)) (members n) j (stands_members n j parts.0 parts.1) (not_from_false (eqb j i) (ne_eqb j i ne))) at))
    (cases_eq j i)

size_none : (n i : ℕ) → n < i → size n (with_node i nobody) ≡ 0
size_none zero i lt = refl
size_none (suc n) i lt = ap (λ b. cond (b || false) 1 0 + size n (with_node i nobody)) (ne_eqb (suc n) i (λ q. absurd (omega (arith, q, lt)))) ∙ zero_sum (size_none n i (omega (arith, lt)))
  where
    zero_sum : {a : ℕ} → a ≡ 0 → 0 + a ≡ 0
    zero_sum q = omega (arith, q)

size_one : (n i : ℕ) → size n (with_node i nobody) ≤ 1
size_one zero i = omega arith
size_one (suc n) i =
    ⊎_elim (λ (q : suc n ≡ i). first (size_none n i (subst (λ m. n < m) q (omega arith))) (eqb (suc n) i || false))
    (λ (ne : suc n ≡ i → ⊥). later (eqb (suc n) i || false) (or_from (eqb (suc n) i) false (ne_eqb (suc n) i ne) refl) (size_one n i)) (cases_eq (suc n) i)
  where
    first : {a : ℕ} → a ≡ 0 → (b : Bool) → cond b 1 0 + a ≤ 1
    first q true = omega (arith, q)
    first q false = omega (arith, q)

    later : {a : ℕ} (b : Bool) → b ≡ false → a ≤ 1 → cond b 1 0 + a ≤ 1
    later true q h = absurd (both_ways true q refl)
    later false q h = omega (arith, h)

few_alone : (n i : ℕ) → (n ≡ 1 → ⊥) → 1 ≤ i → i ≤ n → size n (with_node i nobody) < majority_of n
few_alone n i ne low high = less (size n (with_node i nobody)) n (size_one n i) (two n ne low high)
  where
    two : (n : ℕ) → (n ≡ 1 → ⊥) → 1 ≤ i → i ≤ n → 2 ≤ n
    two n z a b = grind (arith, z, a, b)

    less : (a n : ℕ) → a ≤ 1 → 2 ≤ n → a < n / 2 + 1
    less a n p q = omega (arith, p, q)

-- the world after the line
record Asked (live : List ℕ) (i t lo hi : ℕ) (p : ProposalRecord) (w v : World) : Type 0 where
  silent : Silent live w v
  off : (j : ℕ) → (j ≡ i → ⊥) → v.nodes j ≡ w.nodes j
  sent : v.sent ≡ w.sent ++ ask_letters i p t lo hi (others (record { me = i; n = w.n }))

asked_made : (live : List ℕ) (e i : ℕ) (x : NodeState) (t lo hi : ℕ) (drift : ℤ) (client : ℕ) (line nonce : List ℕ) (b : Option Beginning) (w : World) → x ≡ w.nodes i → AreUp live w
    → Asked live i t lo hi (proposal i x.content x.voter.seq) w (world_with_made e i (among_made (place_at w i) x.content x.voter.seq x.voter.turn t lo hi drift client line nonce x.answers b) w)
unfolding world_with_made
asked_made live e i x t lo hi drift client line nonce b w is up =
    let o = among_made (place_at w i) x.content x.voter.seq x.voter.turn t lo hi drift client line nonce x.answers b in
    record { silent = made_silent live e i o w up refl (ap (λ (y : NodeState). y.answers) is) refl refl refl (λ u. same_drift x.content t (granted_row (proposal i x.content x.voter.seq) lo hi (row x.content t)) None u refl ∙ ap (λ (y : NodeState). (row y.content u).drift) is); off = λ j ne. set_off i j o.state w.nodes ne; sent = refl }

asked_node : (e i : ℕ) (o : Made) (w : World) → (world_with_made e i o w).nodes i ≡ o.state
unfolding world_with_made
asked_node e i o w = set_at i o.state w.nodes

cleared_next : (c : Content) (t : ℕ) (drift : ℤ) (p : Option PassRecord) (u : ℕ) → (row (cleared c t drift p) u).next ≡ (row c u).next
cleared_next c t drift p u =
    let r = accepted_row drift (row c t) in
    ⊎_elim (λ (e : row (with_row c t r p) u ≡ row c u). ap (λ (z : RowRecord). z.next) e)
    (λ (z : (u ≡ t) × (row (with_row c t r p) u ≡ r)). ap (λ (y : RowRecord). y.next) z.1 ∙ ap (λ m. (row c m).next) (sym z.0)) (row_cases c t r p u)

among_moved : (config : Config) (live : List ℕ) (e : ℕ) (w : World) (l : RoundLine) (nonce : List ℕ) (t lo hi : ℕ) (drift : ℤ) → Proposing config live w l nonce t lo hi drift → (w.n ≡ 1 → ⊥)
    → world_after_event config e (line_event l) w ≡ world_with_made e l.node (among_made (place_at w l.node) (w.nodes l.node).content (w.nodes l.node).voter.seq (w.nodes l.node).voter.turn t lo hi drift l.client (without_lf l.line) nonce (w.nodes l.node).answers
    (Some (next_beginning (place_at w l.node) t lo hi (settled (w.nodes l.node).content (w.nodes l.node).voter.seq (w.nodes l.node).voter.turn (w.nodes l.node).answers)))) w
    → (xs : List WorldEvent) → xs ≡ round_events config live e w l → Moved live e (length xs + e) l.node t hi drift l.client (without_lf l.line) nonce w (world_after_events config e xs w) × Rounded live (line_event l) xs w (world_after_events config e xs w)
among_moved config live e w l nonce t lo hi drift h more is xs all =
    let tokens = length config.book in
    let i = l.node in
    let x = w.nodes i in
    let c0 = x.content in
    let s = x.voter.seq in
    let line = without_lf l.line in
    let p = proposal i c0 s in
    let place = place_at w i in
    let b = Some (next_beginning place t lo hi (settled c0 s x.voter.turn x.answers)) in
    let o = among_made place c0 s x.voter.turn t lo hi drift l.client line nonce x.answers b in
    let c = with_row c0 t (granted_row p lo hi (row c0 t)) None in
    let gs = others place in
    let hs = filter (is_live live) gs in
    let asks = ask_letters i p t lo hi gs in
    let grants = map (grant_to i p t lo hi) hs in
    let w1 = world_with_made e i o w in
    let member : (j : ℕ) → is_live live j ≡ true → is_member w.n j ≡ true = λ j at. is_in w j (h.calm.up j at).0 in
    let first = asked_made live e i x t lo hi drift l.client line nonce b w refl h.calm.up in
    let sound1 : AllSound tokens w1 = subst (λ z. AllSound tokens z) is (happens_sound config tokens e (line_event l) w h.sound) in
    let differ = others_differ w.n i in
    let low1 : Each (λ g. is_live live g ≡ true → next_at w1 g t ≤ lo) gs =
    each_weaker (Differs i) (λ g. is_live live g ≡ true → next_at w1 g t ≤ lo)
    (λ g ne at. subst (λ (y : NodeState). (row y.content t).next ≤ lo) (sym (first.off g ne)) (subst (λ m. m ≤ lo) (sym (h.calm.level g i t at h.here h.known)) h.free)) gs differ in
    let xs1 = deliveries (is_between live) (length w.sent) asks in
    let w2 = world_after_events config (suc e) xs1 w1 in
    let stands : Stands (length w.sent) asks w1.sent = subst (λ z. Stands (length w.sent) asks z) (sym first.sent) (stands_last w.sent asks) in
    let second = ask_wave config live i p t lo hi gs (length w.sent) (suc e) w1 stands sound1 first.silent.up h.here h.known h.span (filter_distinct (λ g. not (eqb g i)) (members w.n) (members_distinct w.n)) differ low1 in
    let node2 : w2.nodes i ≡ waiting c (s + 1) x.voter.turn (record { seq = s; client = l.client; line = line; nonce = nonce }) x.answers (asking s t lo hi drift (with_node i nobody)) = second.off i differ ∙ asked_node e i o w in
    let n2 : w2.n ≡ w.n = second.silent.n ∙ first.silent.n in
    let e2 = length xs1 + suc e in
    let xs2 = deliveries (is_between live) (length w1.sent) grants in
    let low : (1 ≤ i) × (i ≤ w.n) = member_parts w.n i (member i h.here) in
    let third = grant_wave config live i s t lo hi drift c (s + 1) x.voter.turn l.client line nonce x.answers hs (with_node i nobody) (length w1.sent) e2 w2
    (subst (λ z. Stands (length w1.sent) grants z) (sym second.sent) (stands_last w1.sent grants)) second.silent.up h.calm.ascending (subst (λ m. m < 2 * length live) (sym n2) h.calm.majority) h.here h.known
    (each_passes (is_live live) gs) (each_filter (Differs i) (is_live live) gs differ) (filter_distinct (is_live live) gs (filter_distinct (λ g. not (eqb g i)) (members w.n) (members_distinct w.n)))
    (each_filter (λ g. with_node i nobody g ≡ false) (is_live live) gs (each_weaker (Differs i) (λ g. with_node i nobody g ≡ false) (λ g ne. or_from (eqb g i) false (ne_eqb g i ne) refl) gs differ))
    (asked_all live w.n i member) (subst (λ m. size m (with_node i nobody) < majority_of m) (sym n2) (few_alone w.n i more low.0 low.1)) node2 in
    let v = world_after_events config e2 xs2 w2 in
    let done = passing c s (s + 1) x.voter.turn t lo hi drift l.client line nonce x.answers in
    let events : xs ≡ line_event l ∷ xs1 ++ xs2 = all ∙ round_is config live e w l w1 asks grants is first.sent second.sent in
    let end : world_after_events config e (line_event l ∷ xs1 ++ xs2) w ≡ v = round_run config e w (line_event l) w1 xs1 xs2 is in
    let quiet_made : Silent live w w2 = silent_then live w w1 w2 first.silent second.silent in
    let away : (j : ℕ) → (j ≡ i → ⊥) → (u : ℕ) → next_at v j u ≡ next_at w2 j u = λ j ne u. ap (λ (y : NodeState). (row y.content u).next) (third.off j ne) in
    let at_i : (u : ℕ) → next_at v i u ≡ (row c u).next = λ u. ap (λ (y : NodeState). (row y.content u).next) third.node ∙ cleared_next c t drift done.pass u in
    let voters : (j : ℕ) → (j ≡ i → ⊥) → (v.nodes j).voter ≡ (w.nodes j).voter = λ j ne. ap (λ (y : NodeState). y.voter) (third.off j ne) ∙ second.voters j ∙ ap (λ (y : NodeState). y.voter) (first.off j ne) in
    let moved : Moved live e (length (line_event l ∷ xs1 ++ xs2) + e) i t hi drift l.client line nonce w v = record {
      n = third.n ∙ n2;
      up = third.up;
      none = λ j at. ⊎_elim (λ (q : j ≡ i). ap (λ m. (v.nodes m).voter.pending) q ∙ ap (λ (y : NodeState). y.voter.pending) third.node) (λ (ne : j ≡ i → ⊥). ap (λ (y : VoterState). y.pending) (voters j ne) ∙ h.calm.none j at) (cases_eq j i);
      raised = λ j at.
          ⊎_elim (λ (q : j ≡ i). ap (λ m. next_at v m t) q ∙ at_i t ∙ ap (λ (z : RowRecord). z.next) (row_here c0 t (granted_row p lo hi (row c0 t)) None (subst (λ m. t < m) (sym (h.sound i).kept.size) h.known)))
          (λ (ne : j ≡ i → ⊥). away j ne t ∙ others_each (λ g. is_live live g ≡ true → next_at w2 g t ≡ hi + 1) w.n i j second.raised (member j at) ne at) (cases_eq j i);
      rest = λ j u at ne.
          ⊎_elim (λ (q : j ≡ i). ap (λ m. next_at v m u) q ∙ at_i u ∙ ap (λ (z : RowRecord). z.next) (row_off c0 t (granted_row p lo hi (row c0 t)) None u ne) ∙ ap (λ m. next_at w m u) (sym q))
          (λ (off : j ≡ i → ⊥). away j off u ∙ second.rest j u ne ∙ ap (λ (y : NodeState). (row y.content u).next) (first.off j off)) (cases_eq j i);
      answers = ap (λ (y : NodeState). y.answers) third.node;
      others = record { answers = λ j ne. ap (λ (y : NodeState). y.answers) (third.off j ne) ∙ quiet_made.answers j; results = λ j u ne. third.results j u ne ∙ quiet_made.results j u; drifts = λ j u ne. ap (λ (y : NodeState). (row y.content u).drift) (third.off j ne) ∙ quiet_made.drifts j u };
      own = λ u. third.own u ∙ ap (λ rs. cond (eqb t u) (Accepted ∷ rs) rs) (quiet_made.results i u);
      own_drift = λ u.
          ap (λ (y : NodeState). (row y.content u).drift) third.node
          ∙ drift_put c t (accepted_row drift (row c t)) done.pass (subst (λ m. t < m) (sym (put_size c0 t (granted_row p lo hi (row c0 t)) None ∙ (h.sound i).kept.size)) h.known) u
          ∙ ap (λ d. cond (eqb t u) drift d) (same_drift c0 t (granted_row p lo hi (row c0 t)) None u refl);
      event = third.event;
      since = before_it (length xs1) e third.since;
      before = within xs1 xs2 third.before;
      told = third.told ∙ ap (λ z. z ++ record { event = third.event; node = i; client = l.client; bytes = ok_bytes nonce hi } ∷ []) quiet_made.told;
      seqs = λ j at.
          ⊎_elim (λ (q : j ≡ i). least (ap (λ m. (v.nodes m).voter.seq) q ∙ ap (λ (y : NodeState). y.voter.seq) third.node) (ap (λ m. (w.nodes m).voter.seq) q))
          (λ (ne : j ≡ i → ⊥). same (ap (λ (y : VoterState). y.seq) (voters j ne))) (cases_eq j i);
    } in
    let rounded : Rounded live (line_event l) (line_event l ∷ xs1 ++ xs2) w v = two_waves live (line_event l) w v (length w1.sent) asks grants (ap (λ z. length z) first.sent) (third.sent ∙ second.sent ∙ ap (λ z. z ++ grants) first.sent) in
    subst (λ ys. Moved live e (length ys + e) i t hi drift l.client line nonce w (world_after_events config e ys w) × Rounded live (line_event l) ys w (world_after_events config e ys w)) (sym events)
    (subst (λ z. Moved live e (length (line_event l ∷ xs1 ++ xs2) + e) i t hi drift l.client line nonce w z × Rounded live (line_event l) (line_event l ∷ xs1 ++ xs2) w z) (sym end) (moved, rounded))
  where
    before_it : (a e : ℕ) {m : ℕ} → a + suc e ≤ m → e ≤ m
    before_it a e k = omega (arith, k)

    within : (xs ys : List WorldEvent) {m : ℕ} → m < length ys + (length xs + suc e) → m < suc (length (xs ++ ys)) + e
    within xs ys k = let z = length-append xs ys in omega (arith, z, k)

    least : {a b d : ℕ} → a ≡ d + 1 → b ≡ d → a ≤ b + 1
    least q r = omega (arith, q, r)

    same : {a b : ℕ} → a ≡ b → a ≤ b + 1
    same q = omega (arith, q)

-- ---- either way

sent_by : (e i : ℕ) (o : Made) (w : World) → (world_with_made e i o w).sent ≡ w.sent ++ map (envelope_from i) o.sends
unfolding world_with_made
sent_by e i o w = refl

pub proposal_moved : (config : Config) (live : List ℕ) (e : ℕ) (w : World) (l : RoundLine) (nonce : List ℕ) (t lo hi : ℕ) (drift : ℤ) → Proposing config live w l nonce t lo hi drift
    → Moved live e (length (round_events config live e w l) + e) l.node t hi drift l.client (without_lf l.line) nonce w (world_after_events config e (round_events config live e w l) w)
    × Rounded live (line_event l) (round_events config live e w l) w (world_after_events config e (round_events config live e w l) w)
unfolding world_after_events
proposal_moved config live e w l nonce t lo hi drift h =
    let i = l.node in
    let x = w.nodes i in
    let place = place_at w i in
    let b = Some (next_beginning place t lo hi (settled x.content x.voter.seq x.voter.turn x.answers)) in
    let line = without_lf l.line in
    let is = line_made config live e w l nonce t lo hi drift h in
    let one = alone_made i x.content x.voter.seq x.voter.turn t lo hi drift l.client line nonce x.answers b in
    let many = among_made place x.content x.voter.seq x.voter.turn t lo hi drift l.client line nonce x.answers b in
    let xs = round_events config live e w l in
    ⊎_elim
    (λ (q : eqb w.n 1 ≡ true).
    let w1 = world_with_made e i one w in
    let made_one : world_after_event config e (line_event l) w ≡ w1 = is ∙ ap (λ o. world_with_made e i o w) (cond-true (eqb w.n 1) one many q) in
    let events : xs ≡ line_event l ∷ [] = round_is config live e w l w1 [] [] made_one (alone_sent e i one w refl) (sym (append-nil w1.sent)) in
    let end : world_after_events config e (line_event l ∷ []) w ≡ w1 = made_one in
    let moved : Moved live e (suc 0 + e) i t hi drift l.client line nonce w w1 = subst (λ m. Moved live e m i t hi drift l.client line nonce w w1) (one_on e) (alone_moved config live e w l nonce t lo hi drift b h (eqb-true w.n 1 q)) in
    let rounded : Rounded live (line_event l) (line_event l ∷ []) w w1 = record { more = []; sent = alone_sent e i one w refl; events = refl } in
    subst (λ ys. Moved live e (length ys + e) i t hi drift l.client line nonce w (world_after_events config e ys w) × Rounded live (line_event l) ys w (world_after_events config e ys w)) (sym events)
    (subst (λ z. Moved live e (suc 0 + e) i t hi drift l.client line nonce w z × Rounded live (line_event l) (line_event l ∷ []) w z) (sym end) (moved, rounded)))
    (λ (q : eqb w.n 1 ≡ false). among_moved config live e w l nonce t lo hi drift h (eqb-false w.n 1 q) (is ∙ ap (λ o. world_with_made e i o w) (cond-false (eqb w.n 1) one many q)) xs refl)
    (cases_Bool (eqb w.n 1))
  where
    one_on : (e : ℕ) → suc e ≡ 1 + e
    one_on e = omega arith

    alone_sent : (e i : ℕ) (o : Made) (w : World) → o.sends ≡ [] → (world_with_made e i o w).sent ≡ w.sent ++ []
    alone_sent e i o w q = sent_by e i o w ∙ ap (λ s. w.sent ++ map (envelope_from i) s) q

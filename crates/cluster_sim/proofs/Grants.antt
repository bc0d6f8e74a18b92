-- The Grants of a round: with the majority's the proposal is accepted, and what comes later does nothing.
use Rattle.std.proofs.Common.{◌≡◌, ℕ, ℤ, zero, suc, ◌+◌, ◌*◌, ◌/◌, ◌<◌, ◌≤◌, ◌⊎◌, inl, inr, ⊎_elim, Bool, true, false, not, cond, ◌&&◌, List, [], ◌∷◌, ◌++◌, length, map, Option, Some, None, refl, sym, ap, ◌∙◌, subst, arith, eqb, leb}
use Rattle.std.specs.List.{slice_get}
use Rattle.std.proofs.lemmas.Bool.{cond_both, cond-true, cond-false, eqb-true, eq-eqb, ne_eqb, leb-false, and_from, or_cases, or_from, or_left, or_right, not_from_false, both_ways, cases_Bool, cases_eq}
use Rattle.std.proofs.lemmas.List.{append-nil}
use Rattle.answer_ring.specs.Answers.{KeptAnswer, kept_with}
use Rattle.cluster_sim.proofs.Asks.{Differs, Distinct, Silent, each_both, grant_to, made_silent, silent_none, silent_then}
use Rattle.cluster_sim.proofs.Servers.{ascending_above, ascending_rest}
use Rattle.cluster_sim.proofs.Turns.{member_parts}
use Rattle.cluster_sim.proofs.Waves.{is_in, Stands, hands, is_heard_at, set_all, set_at, set_off}
use Rattle.cluster_sim.specs.Answered.{ok_bytes}
use Rattle.cluster_sim.specs.Results.{results_in, results_with_pass}
use Rattle.cluster_sim.specs.Rounds.{AreUp, IsAscending, deliveries, is_between, is_live}
use Rattle.cluster_sim.specs.World.{Deliver, Happens, World, WorldEvent, place_at, world_after_event, world_after_events, world_with_made}
use Rattle.floor_store.specs.Content.{Content, accepted_row, with_row}
use Rattle.floor_store.specs.Records.{PassRecord, ProposalRecord, span_of}
use Rattle.oath_node.specs.Machine.{Config, Made, NodeState, Owner, made_by_vote}
use Rattle.otp_core.specs.Acceptance.{majority_of, size}
use Rattle.vote_core.proofs.Basics.{Each, each_weaker}
use Rattle.vote_core.specs.NodeSet.{PlaceRecord, nobody, with_node}
use Rattle.vote_core.specs.Rows.{row}
use Rattle.vote_core.specs.Schedule.{is_member}
use Rattle.vote_core.specs.Voting.{Ballot, accept, count_grant, fresh_voter, granted_one, has_answered, of_this_boot, on_grant, on_message, pass_of, quiet_step, replace, with_granting, with_pending}
use Rattle.vote_core.specs.declared.message.Message.TheVariants.{Grant}

-- ---- a strict majority_of of live members is a majority_of of the nodes

size_more : (n : ℕ) (s r : ℕ → Bool) → ((g : ℕ) → s g ≡ true → r g ≡ true) → size n s ≤ size n r
size_more zero s r h = omega arith
size_more (suc n) s r h = omega (arith, one (s (suc n)) (r (suc n)) (h (suc n)), size_more n s r h)
  where
    one : (a b : Bool) → (a ≡ true → b ≡ true) → cond a 1 0 ≤ cond b 1 0
    one true true k = omega arith
    one true false k = absurd (both_ways false refl (k refl))
    one false true k = omega arith
    one false false k = omega arith

size_most : (n : ℕ) (s r : ℕ → Bool) (i : ℕ) → ((g : ℕ) → s g ≡ true → r g ≡ true) → s i ≡ false → r i ≡ true → 1 ≤ i → i ≤ n → size n s + 1 ≤ size n r
size_most zero s r i h out in_it low high = absurd (omega (arith, low, high))
size_most (suc n) s r i h out in_it low high =
    ⊎_elim (λ (q : i ≡ suc n). here (ap s (sym q) ∙ out) (ap r (sym q) ∙ in_it)) (λ (ne : i ≡ suc n → ⊥). omega (arith, one (s (suc n)) (r (suc n)) (h (suc n)), size_most n s r i h out in_it low (below i n high ne))) (cases_eq i (suc n))
  where
    one : (a b : Bool) → (a ≡ true → b ≡ true) → cond a 1 0 ≤ cond b 1 0
    one true true k = omega arith
    one true false k = absurd (both_ways false refl (k refl))
    one false true k = omega arith
    one false false k = omega arith

    both : (a b : Bool) → a ≡ false → b ≡ true → cond a 1 0 + 1 ≤ cond b 1 0
    both true b p q = absurd (both_ways true p refl)
    both false true p q = omega arith
    both false false p q = absurd (both_ways false refl q)

    here : s (suc n) ≡ false → r (suc n) ≡ true → size (suc n) s + 1 ≤ size (suc n) r
    here p q = omega (arith, both (s (suc n)) (r (suc n)) p q, size_more n s r h)

    below : (a b : ℕ) → a ≤ suc b → (a ≡ suc b → ⊥) → a ≤ b
    below a b le ne = grind (arith, le, ne)

not_above : (i : ℕ) (js : List ℕ) → Each (λ j. i < j) js → is_live js i ≡ false
not_above i [] h = refl
not_above i (j ∷ js) h = or_from (eqb j i) (is_live js i) (ne_eqb j i (λ q. absurd (omega (arith, q, h.0)))) (not_above i js h.1)

pub live_size : (n : ℕ) (live : List ℕ) → IsAscending live → ((i : ℕ) → is_live live i ≡ true → is_member n i ≡ true) → length live ≤ size n (is_live live)
live_size n [] up h = omega arith
live_size n (j ∷ js) up h =
    let here : is_live (j ∷ js) j ≡ true = or_left (eqb j j) (is_live js j) (eq-eqb j j refl) in
    let parts = member_parts n j (h j here) in
    omega (
      arith,
      live_size n js (ascending_rest j js up) (λ i at. h i (or_right (eqb j i) (is_live js i) at)),
      size_most n (is_live js) (is_live (j ∷ js)) j (λ g at. or_right (eqb j g) (is_live js g) at) (not_above j js (ascending_above j js up)) here parts.0 parts.1,
    )

-- ---- one Grant, at the node

abbrev pub asking : ℕ → ℕ → ℕ → ℕ → ℤ → (ℕ → Bool) → Ballot
asking s t lo hi drift G = record { seq = s; token = t; lo = lo; hi = hi; drift = drift; age = 0; granting = G; denying = nobody }

-- the node with this proposal alone pending
abbrev pub waiting : Content → ℕ → ℕ → Owner → List KeptAnswer → Ballot → NodeState
waiting c sq turn o A q = record { content = c; voter = record { pending = q ∷ []; seq = sq; turn = turn }; owners = o ∷ []; answers = A; running = true }

abbrev pub settled : Content → ℕ → ℕ → List KeptAnswer → NodeState
settled c sq turn A = record { content = c; voter = record { pending = []; seq = sq; turn = turn }; owners = []; answers = A; running = true }

abbrev pub cleared : Content → ℕ → ℤ → Option PassRecord → Content
cleared c t drift p = with_row c t (accepted_row drift (row c t)) p

-- accepted
abbrev pub passing : Content → ℕ → ℕ → ℕ → ℕ → ℕ → ℕ → ℤ → ℕ → List ℕ → List ℕ → List KeptAnswer → Made
passing c s sq turn t lo hi drift client line nonce A = record {
  state = settled (cleared c t drift (Some (pass_of t lo hi c.boot s))) sq turn (kept_with A (record { client = client; line = line; text = ok_bytes nonce hi }));
  sends = [];
  replies = record { client = client; bytes = ok_bytes nonce hi } ∷ [];
  began = None;
  pass = Some (pass_of t lo hi c.boot s);
  failed = None;
}

abbrev pub still : NodeState → Made
still x = record { state = x; sends = []; replies = []; began = None; pass = None; failed = None }

found : (c : Content) (i s g t lo hi : ℕ) (drift : ℤ) (sq turn : ℕ) (G : ℕ → Bool) → G g ≡ false
    → granted_one g t lo hi (of_this_boot c (record { node = i; boot = c.boot; seq = s }) (record { pending = asking s t lo hi drift G ∷ []; seq = sq; turn = turn })) ≡ Some (asking s t lo hi drift G)
found c i s g t lo hi drift sq turn G out =
    let q = asking s t lo hi drift G in
    let e : of_this_boot c (record { node = i; boot = c.boot; seq = s }) (record { pending = q ∷ []; seq = sq; turn = turn }) ≡ Some q =
    cond-true (eqb c.boot c.boot) (cond (eqb s s) (Some q) None) None (eq-eqb c.boot c.boot refl) ∙ cond-true (eqb s s) (Some q) None (eq-eqb s s refl) in
    ap (λ o. granted_one g t lo hi o) e
    ∙ cond-true (eqb t t && (eqb lo lo && (eqb hi hi && not (has_answered q g)))) (Some q) None
    (and_from (eqb t t) (eqb lo lo && (eqb hi hi && not (has_answered q g))) (eq-eqb t t refl)
    (and_from (eqb lo lo) (eqb hi hi && not (has_answered q g)) (eq-eqb lo lo refl)
    (and_from (eqb hi hi) (not (has_answered q g)) (eq-eqb hi hi refl) (not_from_false (has_answered q g) (or_from (G g) false out refl)))))

accepts : (place : PlaceRecord) (c : Content) (i s g t lo hi : ℕ) (drift : ℤ) (sq turn client : ℕ) (line nonce : List ℕ) (A : List KeptAnswer) (G : ℕ → Bool) → G g ≡ false → leb (majority_of place.n) (size place.n (with_node g G)) ≡ true
    → (let x = waiting c sq turn (record { seq = s; client = client; line = line; nonce = nonce }) A (asking s t lo hi drift G) in
    made_by_vote x.owners None (on_message place g (Grant (record { node = i; boot = c.boot; seq = s }) t (span_of lo hi)) x.content x.voter) x) ≡ passing c s sq turn t lo hi drift client line nonce A
unfolding on_message on_grant count_grant accept
accepts place c i s g t lo hi drift sq turn client line nonce A G out many =
    let o : Owner = record { seq = s; client = client; line = line; nonce = nonce } in
    let q = asking s t lo hi drift G in
    let x = waiting c sq turn o A q in
    let v = x.voter in
    ap (λ z. made_by_vote (o ∷ []) None (count_grant place g c v z) x) (found c i s g t lo hi drift sq turn G out)
    ∙ ap (λ z. made_by_vote (o ∷ []) None z x) (cond-true (leb (majority_of place.n) (size place.n (with_node g G))) (accept (with_granting g q) c v) (quiet_step c (with_pending (replace (with_granting g q) v.pending) v)) many)
    ∙ rw (eq-eqb s s refl) refl

-- counted, and not yet enough
counts : (place : PlaceRecord) (c : Content) (i s g t lo hi : ℕ) (drift : ℤ) (sq turn client : ℕ) (line nonce : List ℕ) (A : List KeptAnswer) (G : ℕ → Bool) → G g ≡ false → leb (majority_of place.n) (size place.n (with_node g G)) ≡ false
    → (let x = waiting c sq turn (record { seq = s; client = client; line = line; nonce = nonce }) A (asking s t lo hi drift G) in
    made_by_vote x.owners None (on_message place g (Grant (record { node = i; boot = c.boot; seq = s }) t (span_of lo hi)) x.content x.voter) x)
    ≡ still (waiting c sq turn (record { seq = s; client = client; line = line; nonce = nonce }) A (asking s t lo hi drift (with_node g G)))
unfolding on_message on_grant count_grant
counts place c i s g t lo hi drift sq turn client line nonce A G out few =
    let o : Owner = record { seq = s; client = client; line = line; nonce = nonce } in
    let q = asking s t lo hi drift G in
    let x = waiting c sq turn o A q in
    let v = x.voter in
    ap (λ z. made_by_vote (o ∷ []) None (count_grant place g c v z) x) (found c i s g t lo hi drift sq turn G out)
    ∙ ap (λ z. made_by_vote (o ∷ []) None z x) (cond-false (leb (majority_of place.n) (size place.n (with_node g G))) (accept (with_granting g q) c v) (quiet_step c (with_pending (replace (with_granting g q) v.pending) v)) few)
    ∙ rw (eq-eqb s s refl) (rw (eq-eqb s s refl) refl)

-- too late
passes_by : (place : PlaceRecord) (c : Content) (g t lo hi sq turn : ℕ) (p : ProposalRecord) (A : List KeptAnswer)
    → (let x = settled c sq turn A in made_by_vote x.owners None (on_message place g (Grant p t (span_of lo hi)) x.content x.voter) x) ≡ still (settled c sq turn A)
unfolding on_message on_grant count_grant
passes_by place c g t lo hi sq turn p A =
    let x = settled c sq turn A in
    let none : of_this_boot c p x.voter ≡ None = cond_both {A = Option Ballot} (eqb p.boot c.boot) None None (λ z. z ≡ None) (λ _. refl) (λ _. refl) in
    ap (λ z. made_by_vote [] None (count_grant place g c x.voter (granted_one g t lo hi z)) x) none

-- ---- one Grant, in the world

heard_any : (e i : ℕ) (x : NodeState) (w : World) → ((j : ℕ) → (j ≡ i → ⊥) → (world_with_made e i (still x) w).nodes j ≡ w.nodes j) × ((world_with_made e i (still x) w).sent ≡ w.sent)
unfolding world_with_made
heard_any e i x w = (λ j ne. set_off i j x w.nodes ne, append-nil w.sent)

heard_node : (e i : ℕ) (x : NodeState) (w : World) → (world_with_made e i (still x) w).nodes i ≡ x
unfolding world_with_made
heard_node e i x w = set_at i x w.nodes

-- what is delivered_event to node i, by what that node is
granted_at : (config : Config) (live : List ℕ) (i k e : ℕ) (p : ProposalRecord) (t lo hi g : ℕ) (w : World) (x : NodeState) → slice_get w.sent k ≡ Some (grant_to i p t lo hi g) → AreUp live w → is_live live i ≡ true → is_live live g ≡ true
    → (g ≡ i → ⊥) → t < length config.book → w.nodes i ≡ x
    → world_after_event config e (Happens (Deliver i k)) w ≡ world_with_made e i (made_by_vote x.owners None (on_message (place_at w i) g (Grant p t (span_of lo hi)) x.content x.voter) x) w
granted_at config live i k e p t lo hi g w x at up here from other known is =
    hands config e k (grant_to i p t lo hi g) w at (up i here).0 (up i here).1 (is_heard_at config w (grant_to i p t lo hi g) other (is_in w g (up g from).0) known)
    ∙ ap (λ y. world_with_made e i (made_by_vote y.owners None (on_message (place_at w i) g (Grant p t (span_of lo hi)) y.content y.voter) y) w) is

-- ---- late Grants

pub record Late (live : List ℕ) (w v : World) : Type 0 where
  pub silent : Silent live w v
  pub nodes : (j : ℕ) → v.nodes j ≡ w.nodes j
  pub sent : v.sent ≡ w.sent

late_made : (live : List ℕ) (e i : ℕ) (x : NodeState) (w : World) → AreUp live w → x.running ≡ true → w.nodes i ≡ x → Late live w (world_with_made e i (still x) w)
unfolding world_with_made
late_made live e i x w up running is = record {
  silent = made_silent live e i (still x) w up running (ap (λ (y : NodeState). y.answers) (sym is)) refl refl refl (λ u. ap (λ (y : NodeState). (row y.content u).drift) (sym is));
  nodes = λ j. set_all (λ m y. y ≡ w.nodes m) i x w.nodes (sym is) (λ m. refl) j;
  sent = append-nil w.sent;
}

pub late_wave : (config : Config) (live : List ℕ) (i : ℕ) (p : ProposalRecord) (t lo hi : ℕ) (c : Content) (sq turn : ℕ) (A : List KeptAnswer) (gs : List ℕ) (k e : ℕ) (w : World) → Stands k (map (grant_to i p t lo hi) gs) w.sent
    → AreUp live w → is_live live i ≡ true → t < length config.book → Each (λ g. is_live live g ≡ true) gs → Each (Differs i) gs → w.nodes i ≡ settled c sq turn A
    → Late live w (world_after_events config e (deliveries (is_between live) k (map (grant_to i p t lo hi) gs)) w)
unfolding world_after_events
late_wave config live i p t lo hi c sq turn A [] k e w at up here known from other is = record { silent = silent_none live w up; nodes = λ j. refl; sent = refl }
late_wave config live i p t lo hi c sq turn A (g ∷ gs) k e w at up here known from other is =
    let ls = map (grant_to i p t lo hi) gs in
    let rest = deliveries (is_between live) (suc k) ls in
    let x = settled c sq turn A in
    let v = world_after_event config e (Happens (Deliver i k)) w in
    let same : v ≡ world_with_made e i (still x) w =
    granted_at config live i k e p t lo hi g w x at.0 up here from.0 other.0 known is ∙ ap (λ o. world_with_made e i o w) (passes_by (place_at w i) c g t lo hi sq turn p A) in
    let one : Late live w v = subst (λ z. Late live w z) (sym same) (late_made live e i x w up refl is) in
    let more = late_wave config live i p t lo hi c sq turn A gs (suc k) (suc e) v (subst (λ s. Stands (suc k) ls s) (sym one.sent) at.1) one.silent.up here known from.1 other.1 (one.nodes i ∙ is) in
    let z = world_after_events config (suc e) rest v in
    subst (λ xs. Late live w (world_after_events config e xs w)) (sym (cond-true (is_live live g && is_live live i) (Happens (Deliver i k) ∷ rest) rest (and_from (is_live live g) (is_live live i) from.0 here)))
    (record { silent = silent_then live w v z one.silent more.silent; nodes = λ j. more.nodes j ∙ one.nodes j; sent = more.sent ∙ one.sent })

-- ---- up to the majority_of

pub record Accepts (live : List ℕ) (e end i t client : ℕ) (text : List ℕ) (pass : PassRecord) (x : NodeState) (w v : World) : Type 0 where
  pub n : v.n ≡ w.n
  pub up : AreUp live v
  pub node : v.nodes i ≡ x
  pub off : (j : ℕ) → (j ≡ i → ⊥) → v.nodes j ≡ w.nodes j
  pub own : (u : ℕ) → results_in v.history i u ≡ results_with_pass u (Some pass) (results_in w.history i u)
  pub results : (j u : ℕ) → (j ≡ i → ⊥) → results_in v.history j u ≡ results_in w.history j u
  pub event : ℕ
  pub since : e ≤ event
  pub before : event < end
  pub told : v.told ≡ w.told ++ record { event = event; node = i; client = client; bytes = text } ∷ []
  pub sent : v.sent ≡ w.sent

-- what comes before and after changes none of it
accepts_first : (live : List ℕ) (e end i t client : ℕ) (text : List ℕ) (pass : PassRecord) (x : NodeState) (w w1 v : World) → w1.n ≡ w.n → w1.told ≡ w.told → w1.sent ≡ w.sent
    → ((j u : ℕ) → results_in w1.history j u ≡ results_in w.history j u) → ((j : ℕ) → (j ≡ i → ⊥) → w1.nodes j ≡ w.nodes j)
    → Accepts live (suc e) end i t client text pass x w1 v → Accepts live e end i t client text pass x w v
accepts_first live e end i t client text pass x w w1 v n told sent results off h = record {
  n = h.n ∙ n;
  up = h.up;
  node = h.node;
  off = λ j ne. h.off j ne ∙ off j ne;
  own = λ u. h.own u ∙ ap (λ rs. results_with_pass u (Some pass) rs) (results i u);
  results = λ j u ne. h.results j u ne ∙ results j u;
  event = h.event;
  since = omega (arith, h.since);
  before = h.before;
  told = h.told ∙ ap (λ l. l ++ record { event = h.event; node = i; client = client; bytes = text } ∷ []) told;
  sent = h.sent ∙ sent;
}

passing_made : (live : List ℕ) (e i : ℕ) (c : Content) (s sq turn t lo hi : ℕ) (drift : ℤ) (client : ℕ) (line nonce : List ℕ) (A : List KeptAnswer) (w : World) → AreUp live w
    → Accepts live e (suc e) i t client (ok_bytes nonce hi) (pass_of t lo hi c.boot s) (passing c s sq turn t lo hi drift client line nonce A).state w (world_with_made e i (passing c s sq turn t lo hi drift client line nonce A) w)
unfolding world_with_made
passing_made live e i c s sq turn t lo hi drift client line nonce A w up =
    let o = passing c s sq turn t lo hi drift client line nonce A in
    record {
      n = refl;
      up = λ m at. ((up m at).0, set_all (λ m y. is_live live m ≡ true → y.running ≡ true) i o.state w.nodes (λ _. refl) (λ m at. (up m at).1) m at);
      node = set_at i o.state w.nodes;
      off = λ j ne. set_off i j o.state w.nodes ne;
      own = λ u. cond-true (eqb i i) (results_with_pass u o.pass (results_in w.history i u)) (results_in w.history i u) (eq-eqb i i refl);
      results = λ j u ne. cond-false (eqb j i) (results_with_pass u o.pass (results_in w.history j u)) (results_in w.history j u) (ne_eqb j i ne);
      event = e;
      since = omega arith;
      before = omega arith;
      told = refl;
      sent = append-nil w.sent;
    }

accepts_then : (live : List ℕ) (e end end' i t client : ℕ) (text : List ℕ) (pass : PassRecord) (x : NodeState) (w v z : World) → end ≤ end' → Accepts live e end i t client text pass x w v → Late live v z
    → Accepts live e end' i t client text pass x w z
accepts_then live e end end' i t client text pass x w v z le h k = record {
  n = k.silent.n ∙ h.n;
  up = k.silent.up;
  node = k.nodes i ∙ h.node;
  off = λ j ne. k.nodes j ∙ h.off j ne;
  own = λ u. k.silent.results i u ∙ h.own u;
  results = λ j u ne. k.silent.results j u ∙ h.results j u ne;
  event = h.event;
  since = h.since;
  before = omega (arith, le, h.before);
  told = k.silent.told ∙ h.told;
  sent = k.sent ∙ h.sent;
}

-- each live node has granted, or its Grant is still to come
abbrev pub Covered : List ℕ → (ℕ → Bool) → List ℕ → Type 0
Covered live G gs = (j : ℕ) → is_live live j ≡ true → (G j ≡ true) ⊎ (is_live gs j ≡ true)

covered_all : (live : List ℕ) (n : ℕ) (G : ℕ → Bool) → IsAscending live → n < 2 * length live → ((i : ℕ) → is_live live i ≡ true → is_member n i ≡ true) → Covered live G [] → majority_of n ≤ size n G
covered_all live n G ascending most up h =
    enough n (size n G) (length live) most
    (far (live_size n live ascending up) (size_more n (is_live live) G (λ j at. ⊎_elim (λ (q : G j ≡ true). q) (λ (z : is_live [] j ≡ true). absurd (both_ways false refl z)) (h j at))))
  where
    far : {a b d : ℕ} → a ≤ b → b ≤ d → a ≤ d
    far x y = omega (arith, x, y)

    enough : (n m l : ℕ) → n < 2 * l → l ≤ m → n / 2 + 1 ≤ m
    enough n m l x y = omega (arith, x, y)

covered_next : (live : List ℕ) (G : ℕ → Bool) (g : ℕ) (gs : List ℕ) → Covered live G (g ∷ gs) → Covered live (with_node g G) gs
covered_next live G g gs h j at =
    ⊎_elim (λ (q : G j ≡ true). inl (or_right (eqb j g) (G j) q))
    (λ (z : is_live (g ∷ gs) j ≡ true). ⊎_elim (λ (q : eqb g j ≡ true). inl (or_left (eqb j g) (G j) (eq-eqb j g (sym (eqb-true g j q))))) (λ (q : is_live gs j ≡ true). inr q) (or_cases (eqb g j) (is_live gs j) z)) (h j at)

pub grant_wave : (config : Config) (live : List ℕ) (i s t lo hi : ℕ) (drift : ℤ) (c : Content) (sq turn client : ℕ) (line nonce : List ℕ) (A : List KeptAnswer) (gs : List ℕ) (G : ℕ → Bool) (k e : ℕ) (w : World)
    → Stands k (map (grant_to i (record { node = i; boot = c.boot; seq = s }) t lo hi) gs) w.sent
    → AreUp live w → IsAscending live → w.n < 2 * length live → is_live live i ≡ true → t < length config.book
    → Each (λ g. is_live live g ≡ true) gs → Each (Differs i) gs → Distinct gs → Each (λ g. G g ≡ false) gs → Covered live G gs → size w.n G < majority_of w.n
    → w.nodes i ≡ waiting c sq turn (record { seq = s; client = client; line = line; nonce = nonce }) A (asking s t lo hi drift G)
    → (let xs = deliveries (is_between live) k (map (grant_to i (record { node = i; boot = c.boot; seq = s }) t lo hi) gs) in
    Accepts live e (length xs + e) i t client (ok_bytes nonce hi) (pass_of t lo hi c.boot s) (passing c s sq turn t lo hi drift client line nonce A).state w (world_after_events config e xs w))
unfolding world_after_events
grant_wave config live i s t lo hi drift c sq turn client line nonce A [] G k e w at up ascending most here known from other distinct fresh_voter covered few is =
    absurd (apart (covered_all live w.n G ascending most (λ j at. is_in w j (up j at).0) covered) few)
  where
    apart : {a b : ℕ} → a ≤ b → b < a → ⊥
    apart x y = omega (arith, x, y)
grant_wave config live i s t lo hi drift c sq turn client line nonce A (g ∷ gs) G k e w at up ascending most here known from other distinct fresh_voter covered few is =
    let p : ProposalRecord = record { node = i; boot = c.boot; seq = s } in
    let o : Owner = record { seq = s; client = client; line = line; nonce = nonce } in
    let ls = map (grant_to i p t lo hi) gs in
    let rest = deliveries (is_between live) (suc k) ls in
    let deliver = Happens (Deliver i k) in
    let x = waiting c sq turn o A (asking s t lo hi drift G) in
    let v = world_after_event config e deliver w in
    let given = granted_at config live i k e p t lo hi g w x at.0 up here from.0 other.0 known is in
    let done = passing c s sq turn t lo hi drift client line nonce A in
    let ans = ok_bytes nonce hi in
    let pass = pass_of t lo hi c.boot s in
    let goal : List WorldEvent → Type 0 = λ xs. Accepts live e (length xs + e) i t client ans pass done.state w (world_after_events config e xs w) in
    let z = world_after_events config (suc e) rest v in
    let enough : leb (majority_of w.n) (size w.n (with_node g G)) ≡ true → goal (deliver ∷ rest) =
    λ many.
    let same : v ≡ world_with_made e i done w = given ∙ ap (λ m. world_with_made e i m w) (accepts (place_at w i) c i s g t lo hi drift sq turn client line nonce A G fresh_voter.0 many) in
    let one : Accepts live e (suc e) i t client ans pass done.state w v = subst (λ y. Accepts live e (suc e) i t client ans pass done.state w y) (sym same) (passing_made live e i c s sq turn t lo hi drift client line nonce A w up) in
    let later = late_wave config live i p t lo hi (cleared c t drift (Some pass)) sq turn (kept_with A (record { client = client; line = line; text = ans })) gs (suc k) (suc e) v
    (subst (λ l. Stands (suc k) ls l) (sym one.sent) at.1) one.up here known from.1 other.1 one.node in
    accepts_then live e (suc e) (length (deliver ∷ rest) + e) i t client ans pass done.state w v z (omega arith) one later in
    let not_yet : leb (majority_of w.n) (size w.n (with_node g G)) ≡ false → goal (deliver ∷ rest) =
    λ less.
    let x1 = waiting c sq turn o A (asking s t lo hi drift (with_node g G)) in
    let same : v ≡ world_with_made e i (still x1) w = given ∙ ap (λ m. world_with_made e i m w) (counts (place_at w i) c i s g t lo hi drift sq turn client line nonce A G fresh_voter.0 less) in
    let silent : Silent live w v = subst (λ y. Silent live w y) (sym same) (made_silent live e i (still x1) w up refl (ap (λ (y : NodeState). y.answers) (sym is)) refl refl refl (λ u. ap (λ (y : NodeState). (row y.content u).drift) (sym is))) in
    let node : v.nodes i ≡ x1 = ap (λ y. y.nodes i) same ∙ heard_node e i x1 w in
    let off : (j : ℕ) → (j ≡ i → ⊥) → v.nodes j ≡ w.nodes j = λ j ne. ap (λ y. y.nodes j) same ∙ heard_off e i x1 w j ne in
    let sent : v.sent ≡ w.sent = ap (λ y. y.sent) same ∙ heard_sent e i x1 w in
    let small : size v.n (with_node g G) < majority_of v.n = subst (λ m. size m (with_node g G) < majority_of m) (sym silent.n) (leb-false (majority_of w.n) (size w.n (with_node g G)) less) in
    let still_fresh = each_weaker (λ h. Differs g h × (G h ≡ false)) (λ h. with_node g G h ≡ false) (λ h y. or_from (eqb h g) (G h) (ne_eqb h g y.0) y.1) gs (each_both (Differs g) (λ h. G h ≡ false) gs distinct.0 fresh_voter.1) in
    let more = grant_wave config live i s t lo hi drift c sq turn client line nonce A gs (with_node g G) (suc k) (suc e) v (subst (λ l. Stands (suc k) ls l) (sym sent) at.1) silent.up ascending
    (subst (λ m. m < 2 * length live) (sym silent.n) most) here known from.1 other.1 distinct.1 still_fresh (covered_next live G g gs covered) small node in
    let one = accepts_first live e (length rest + suc e) i t client ans pass done.state w v z silent.n silent.told sent silent.results off more in
    subst (λ m. Accepts live e m i t client ans pass done.state w z) (shift (length rest) e) one in
    subst goal (sym (cond-true (is_live live g && is_live live i) (deliver ∷ rest) rest (and_from (is_live live g) (is_live live i) from.0 here)))
    (⊎_elim enough not_yet (cases_Bool (leb (majority_of w.n) (size w.n (with_node g G)))))
  where
    shift : (a b : ℕ) → a + suc b ≡ suc a + b
    shift a b = omega arith

    heard_off : (e i : ℕ) (x : NodeState) (w : World) (j : ℕ) → (j ≡ i → ⊥) → (world_with_made e i (still x) w).nodes j ≡ w.nodes j
    heard_off e i x w j ne = (heard_any e i x w).0 j ne

    heard_sent : (e i : ℕ) (x : NodeState) (w : World) → (world_with_made e i (still x) w).sent ≡ w.sent
    heard_sent e i x w = (heard_any e i x w).1

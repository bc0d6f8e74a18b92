-- What an event at a node leaves of the cluster of voters.
use Rattle.vote_core.specs.declared.step.Decision.{Decision}
use Rattle.std.proofs.Common.{◌≡◌, ℕ, Bool, true, false, cond, List, [], ◌∷◌, ◌++◌, map, Option, Some, None, refl, sym, ap, ◌∙◌, eqb}
use mathlib.Core.Path.{fun_ext}
use Rattle.std.proofs.lemmas.Bool.{cond_both, eqb-true}
use Rattle.floor_store.specs.Records.{ProposalRecord, PassRecord}
use Rattle.otp_core.specs.Acceptance.{Acceptance}
use Rattle.vote_core.specs.Voting.{Voted, pass_in}
use Rattle.vote_core.specs.Schedule.{Member, Envelope, Begun, Cluster, cluster_after, set_node, accepted_in, envelope_from}
use Rattle.oath_node.specs.Machine.{NodeState, Made, Reply}
use Rattle.cluster_sim.specs.World.{World, world_with_made, with_state, begun_with, begun_in, acceptance_in, passes_in}
use Rattle.cluster_sim.proofs.Refinement.{member_of, cluster_of}

pub push : {A B : Type 0} (f : A → B) (b : Bool) (x y : A) → f (cond b x y) ≡ cond b (f x) (f y)
push f true x y = refl
push f false x y = refl

pub right_nil : {A : Type 0} (xs : List A) → xs ++ [] ≡ xs
right_nil [] = refl
right_nil (x ∷ xs) = ap (λ l. x ∷ l) (right_nil xs)

pub seen_set : (i : ℕ) (x : NodeState) (nodes : ℕ → NodeState) → (λ j. member_of (with_state i x nodes j)) ≡ set_node i (member_of x) (λ j. member_of (nodes j))
seen_set i x nodes = fun_ext (λ j. push member_of (eqb j i) x (nodes j))

-- a world of votes with another book
abbrev pub with_book : (ProposalRecord → Option Begun) → Cluster → Cluster
with_book B w = record w { begun = B }

-- what the voter did
abbrev pub step_in : Made → List (ℕ × Decision) → Voted
step_in o decisions = record { content = o.state.content; voter = o.state.voter; sends = o.sends; begun = None; decisions = decisions }

passed_same : (w : Cluster) (e i : ℕ) (o : Option PassRecord) → acceptance_in w.begun e i o ≡ accepted_in w e i o
passed_same w e i None = refl
passed_same w e i (Some p) = refl

abbrev pub of_parts : World → List Envelope → (ProposalRecord → Option Begun) → (ℕ → Member) → List Acceptance → Cluster
of_parts w sent begun nodes passes = record { n = w.n; nodes = nodes; lost = w.lost; least = w.least; sent = sent; begun = begun; accepted = passes }

pub made_after : (e i : ℕ) (o : Made) (decisions : List (ℕ × Decision)) (w : World) → pass_in decisions ≡ o.pass → o.state.running ≡ true
    → cluster_of (world_with_made e i o w) ≡ cluster_after e i (step_in o decisions) (with_book (begun_with e o.began (begun_in w.history)) (cluster_of w))
unfolding world_with_made cluster_after
made_after e i o decisions w is up =
    let B = begun_with e o.began (begun_in w.history) in
    let sent = w.sent ++ map (envelope_from i) o.sends in
    let nodes = seen_set i o.state w.nodes ∙ ap (λ u. set_node i (record { content = o.state.content; voter = o.state.voter; running = u }) (λ j. member_of (w.nodes j))) up in
    let more = ap (λ l. passes_in w.history ++ l) (passed_same (with_book B (cluster_of w)) e i o.pass ∙ ap (λ p. accepted_in (with_book B (cluster_of w)) e i p) (sym is)) in
    ap (λ f. of_parts w sent B f (passes_in w.history ++ acceptance_in B e i o.pass)) nodes
    ∙ ap (λ l. of_parts w sent B (set_node i (record { content = o.state.content; voter = o.state.voter; running = true }) (λ j. member_of (w.nodes j))) l) more

-- nothing sent, begun or passed, and the voter's part as it was
pub made_idle : (e i : ℕ) (x : NodeState) (replies : List Reply) (failed : Option (ℕ × ℕ)) (w : World) → member_of x ≡ member_of (w.nodes i)
    → cluster_of (world_with_made e i (record { state = x; sends = []; replies = replies; began = None; pass = None; failed = failed }) w) ≡ cluster_of w
unfolding world_with_made
made_idle e i x replies failed w same =
    let B = begun_in w.history in
    let nodes : (λ j. member_of (with_state i x w.nodes j)) ≡ (λ j. member_of (w.nodes j)) =
    fun_ext (λ j. cond_both (eqb j i) x (w.nodes j) (λ y. member_of y ≡ member_of (w.nodes j)) (λ q. same ∙ ap (λ m. member_of (w.nodes m)) (sym (eqb-true j i q))) (λ _. refl)) in
    ap (λ f. of_parts w (w.sent ++ []) B f (passes_in w.history ++ [])) nodes
    ∙ ap (λ l. of_parts w l B (λ j. member_of (w.nodes j)) (passes_in w.history ++ [])) (right_nil w.sent)
    ∙ ap (λ l. of_parts w w.sent B (λ j. member_of (w.nodes j)) l) (right_nil (passes_in w.history))

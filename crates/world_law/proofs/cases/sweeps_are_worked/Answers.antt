-- The ticks are computed, and the tags.
use Rattle.std.proofs.Common.{◌≡◌, ℕ, zero, suc, ◌+◌, ◌≤◌, List, [], ◌∷◌, length, refl, ap, ◌∙◌, arith}
use Rattle.std.specs.List.{filter}
use Rattle.std.proofs.lemmas.List.{length-append}
use Rattle.admit_core.specs.Fit.{code_at}
use Rattle.sha1.specs.Sha1.{first_words, schedule, rounds, compress, hash_after, digest_bytes, sha1}
use Rattle.vote_core.specs.Voting.{propose, propose_alone, propose_among, on_ask, accept, count_grant, on_grant, raise, count_deny, on_deny, on_floor, on_message, tick}
use Rattle.oath_node.specs.Machine.{made_by_proposal, made_by_ruling, made_by_datagram, made_while_running, made_by_event}
use Rattle.cluster_sim.specs.Rounds.{is_floor_to}
use Rattle.oath_node.specs.Machine.{Tick}
use Rattle.world_law.specs.Examples.{floor_comes, one_node, three_nodes, two_open}
use Rattle.book_law.specs.Lives.{Action, State, Takes, node_of_action, state_after, state_after_action}
use Rattle.world_law.specs.Steady.{SteadyCluster, setting_of}
use Rattle.world_law.specs.Sweeps.{AreTaken, IsTurn, sent_by_tick}
use Rattle.world_law.proofs.cases.sweeps_are_worked.Goals as goal

-- ---- a tick of node 1 of two live members

-- what node 2 takes
taken_then : (taken : List Action) → AreTaken 1 (filter (is_floor_to (1 ∷ 2 ∷ [])) (sent_by_tick three_nodes 1 (two_open.processes 1))) taken
    → (rest : List Action) × (taken ≡ Takes 2 floor_comes ∷ rest)
unfolding code_at first_words schedule rounds compress hash_after digest_bytes sha1 state_after state_after_action made_by_event made_while_running made_by_datagram made_by_ruling made_by_proposal propose propose_alone propose_among on_ask accept count_grant on_grant raise count_deny on_deny on_floor on_message tick
taken_then taken t = (t.0, t.1)

tail_of : {A : Type 0} (x y : A) (xs ys : List A) → x ∷ xs ≡ y ∷ ys → xs ≡ ys
tail_of x y xs ys e = cc

empty : {A : Type 0} (y : A) (ys : List A) → [] ≡ y ∷ ys → ⊥
empty y ys e = absurd cc

-- the node of the first action
abbrev first_node : List Action → ℕ
first_node [] = 0
first_node (action ∷ actions) = node_of_action action

pub returns-clause-tick : goal.returns-clause-tick
unfolding code_at first_words schedule rounds compress hash_after digest_bytes sha1 state_after state_after_action made_by_event made_while_running made_by_datagram made_by_ruling made_by_proposal propose propose_alone propose_among on_ask accept count_grant on_grant raise count_deny on_deny on_floor on_message tick
returns-clause-tick c = (Takes 2 floor_comes ∷ [], refl, ([], refl, refl))

pub returns-clause-not_taken : goal.returns-clause-not_taken
returns-clause-not_taken c h =
    let then = taken_then h.0 h.2 in
    empty (Takes 2 floor_comes) then.0 (tail_of (Takes 1 Tick) (Takes 1 Tick) [] h.0 h.1 ∙ then.1)

pub returns-clause-taken_elsewhere : goal.returns-clause-taken_elsewhere
returns-clause-taken_elsewhere c h =
    let then = taken_then h.0 h.2 in
    let node : 3 ≡ 2 = ap (λ actions. first_node actions) (tail_of (Takes 1 Tick) (Takes 1 Tick) (Takes 3 floor_comes ∷ []) h.0 h.1 ∙ then.1) in
    omega (arith, node)

-- the number of ticks in the first action
abbrev first_ticks : List Action → ℕ
first_ticks (Takes node Tick ∷ actions) = 1
first_ticks actions = 0

pub returns-clause-no_tick : goal.returns-clause-no_tick
returns-clause-no_tick c h = let ticks : 0 ≡ 1 = ap (λ actions. first_ticks actions) h.1 in omega (arith, ticks)

pub returns-clause-steps : goal.returns-clause-steps
returns-clause-steps c = refl

-- ---- turns of one node

-- a turn has at least `ticks` actions
turn_long : (cluster : SteadyCluster) (live : List ℕ) (ticks first : ℕ) (state : State) (node : ℕ) (actions : List Action) → IsTurn cluster live ticks first state node actions → ticks ≤ length actions
turn_long cluster live zero first state node actions t = omega arith
turn_long cluster live (suc ticks) first state node actions t =
    let one : length t.0 ≡ suc (length t.3.0) = ap (λ xs. length xs) t.3.1 in
    let all : length actions ≡ length t.0 + length t.1 = ap (λ xs. length xs) t.2 ∙ length-append t.0 t.1 in
    let rest = turn_long cluster live ticks (length t.0 + first) (state_after (setting_of cluster) first t.0 state) node t.1 t.4 in
    omega (arith, one, all, rest)

pub returns-clause-sweep : goal.returns-clause-sweep
unfolding state_after state_after_action made_by_event made_while_running tick
returns-clause-sweep c = (Takes 1 Tick ∷ Takes 1 Tick ∷ Takes 1 Tick ∷ Takes 1 Tick ∷ Takes 1 Tick ∷ Takes 1 Tick ∷ Takes 1 Tick ∷ Takes 1 Tick ∷ [], [], refl, (Takes 1 Tick ∷ [], Takes 1 Tick ∷ Takes 1 Tick ∷ Takes 1 Tick ∷ Takes 1 Tick ∷ Takes 1 Tick ∷ Takes 1 Tick ∷ Takes 1 Tick ∷ [], refl, ([], refl, refl), (Takes 1 Tick ∷ [], Takes 1 Tick ∷ Takes 1 Tick ∷ Takes 1 Tick ∷ Takes 1 Tick ∷ Takes 1 Tick ∷ Takes 1 Tick ∷ [], refl, ([], refl, refl), (Takes 1 Tick ∷ [], Takes 1 Tick ∷ Takes 1 Tick ∷ Takes 1 Tick ∷ Takes 1 Tick ∷ Takes 1 Tick ∷ [], refl, ([], refl, refl), (Takes 1 Tick ∷ [], Takes 1 Tick ∷ Takes 1 Tick ∷ Takes 1 Tick ∷ Takes 1 Tick ∷ [], refl, ([], refl, refl), (Takes 1 Tick ∷ [], Takes 1 Tick ∷ Takes 1 Tick ∷ Takes 1 Tick ∷ [], refl, ([], refl, refl), (Takes 1 Tick ∷ [], Takes 1 Tick ∷ Takes 1 Tick ∷ [], refl, ([], refl, refl), (Takes 1 Tick ∷ [], Takes 1 Tick ∷ [], refl, ([], refl, refl), (Takes 1 Tick ∷ [], [], refl, ([], refl, refl), refl)))))))), refl)

pub returns-clause-short : goal.returns-clause-short
returns-clause-short c h =
    let eight : 8 ≤ length h.0 = turn_long one_node (1 ∷ []) 8 0 _ 1 h.0 h.3 in
    let none : length h.1 ≡ 0 = ap (λ xs. length xs) h.4 in
    let all : 7 ≡ length h.0 + length h.1 = ap (λ xs. length xs) h.2 ∙ length-append h.0 h.1 in
    omega (arith, eight, none, all)

pub returns-clause-greatest : goal.returns-clause-greatest
unfolding code_at first_words schedule rounds compress hash_after digest_bytes sha1 state_after state_after_action made_by_event made_while_running made_by_datagram made_by_ruling made_by_proposal propose propose_alone propose_among on_ask accept count_grant on_grant raise count_deny on_deny on_floor on_message tick
returns-clause-greatest c = refl

pub returns-clause-greatest_of_the_first : goal.returns-clause-greatest_of_the_first
unfolding code_at first_words schedule rounds compress hash_after digest_bytes sha1 state_after state_after_action made_by_event made_while_running made_by_datagram made_by_ruling made_by_proposal propose propose_alone propose_among on_ask accept count_grant on_grant raise count_deny on_deny on_floor on_message tick
returns-clause-greatest_of_the_first c = refl

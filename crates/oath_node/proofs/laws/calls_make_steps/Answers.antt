-- The outcomes of the steps are computed.
use Rattle.std.proofs.Common.{◌≤◌, ℕ, List, IfOk, refl, ap, arith}
use Rattle.std.specs.Prelude.{length}
use Rattle.floor_store.specs.Broken.{small_held}
use Rattle.vote_core.specs.Voting.{tick}
use Rattle.oath_node.specs.Broken.{all_of_a_tick, answering, crowded_node, noise, small_node, under}
use Rattle.oath_node.specs.Calls.{IsMade}
use Rattle.oath_node.specs.Hosted.{made_of, state_of}
use Rattle.oath_node.specs.Machine.{NodeState, made_by_datagram, made_by_event, made_while_running}
use Rattle.oath_node.specs.Outputs.{no_outputs}
use Rattle.oath_node.proofs.laws.calls_make_steps.Goals as goal

-- a datagram outside the format keeps no answer
keeps_none : (key : List ℕ) → ((small_held (under key small_node).store).is_clean → IsMade key small_node.voter.place
    (made_of small_held (under key small_node) noise) no_outputs (state_of small_held (under key (answering small_node)))) → ⊥
unfolding made_by_event made_while_running made_by_datagram
keeps_none key made = let e = ap (λ (node : NodeState). node.answers) (made refl).left in absurd cc

pub returns-clause-takes_made : goal.returns-clause-takes_made
returns-clause-takes_made c = λ key h. keeps_none key h.made

pub returns-clause-handles_made : goal.returns-clause-handles_made
returns-clause-handles_made c = λ key h. keeps_none key h.made

-- the tick of a crowded node makes 272
too_many : (key : List ℕ) → IfOk (all_of_a_tick (under key crowded_node))
    (λ outputs. (small_held (under key crowded_node).store).is_clean → length outputs.items ≤ 264) → ⊥
unfolding made_by_event made_while_running tick
too_many key few = let few : 272 ≤ 264 = few refl in omega (arith, few)

pub returns-clause-takes_few : goal.returns-clause-takes_few
returns-clause-takes_few c = λ key h. too_many key h.few

-- The run is a value, and its history is computed.
use Rattle.std.proofs.Common.{ℕ, [], refl, arith}
use Rattle.node_serving.specs.Stretches.{unasked}
use Rattle.oathd_database.specs.Broken.{shows_any}
use Rattle.book_law.specs.Lives.{state_after, state_after_action}
use Rattle.served_law.specs.LoneRun.{lone, lone_disk, lone_items, lone_stores}
use Rattle.served_law.proofs.LoneRun.{all_stores, order, run_over, served}
use Rattle.served_law.proofs.Orders.{unforged}
use Rattle.served_law.proofs.instance.lone_runs_are_worked.Goals as goal

pub returns-clause-served : goal.returns-clause-served
returns-clause-served c = served

pub returns-clause-run : goal.returns-clause-run
returns-clause-run c = run_over

pub returns-clause-sized : goal.returns-clause-sized
returns-clause-sized c = record {
  are_names = record { distinct = λ i j d before low. absurd (omega (arith, before, low)); whole = λ token name e. absurd cc };
  tokens = refl;
  nodes = omega arith;
  old = λ i sealed e. absurd cc;
}

pub returns-clause-order : goal.returns-clause-order
returns-clause-order c = (all_stores, order)

pub returns-clause-interleaving : goal.returns-clause-interleaving
returns-clause-interleaving c = unforged lone_disk shows_any (λ (until : ℕ). unasked) lone [] lone_stores all_stores lone_items order

pub returns-clause-accepted : goal.returns-clause-accepted
unfolding state_after state_after_action
returns-clause-accepted c = refl

pub returns-clause-answered : goal.returns-clause-answered
unfolding state_after state_after_action
returns-clause-answered c = refl

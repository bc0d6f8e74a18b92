-- The run is a value.
use Rattle.oathd_database.specs.Broken.{shows_any}
use Rattle.store_serving.specs.Broken.{booting}
use Rattle.served_law.specs.LoneRun.{lone, lone_items, lone_placed_stores}
use Rattle.served_law.proofs.LonePlaced.{all_stores, order, run_over, served}
use Rattle.served_law.proofs.PlacedRuns.{places_causal}
use Rattle.served_law.proofs.instance.lone_places_are_worked.Goals as goal

pub returns-clause-served : goal.returns-clause-served
returns-clause-served c = served

pub returns-clause-run : goal.returns-clause-run
returns-clause-run c = run_over

pub returns-clause-order : goal.returns-clause-order
returns-clause-order c = (all_stores, order)

pub returns-clause-causal : goal.returns-clause-causal
returns-clause-causal c = places_causal booting shows_any lone lone_placed_stores all_stores lone_items order

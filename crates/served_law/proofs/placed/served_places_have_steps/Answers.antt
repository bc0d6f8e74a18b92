use Rattle.node_serving.specs.Stretches.{unasked}
use Rattle.store_serving.specs.Placed.{never}
use Rattle.served_law.proofs.PlacedRuns.{all_placed_steps, kept_places, placed_use_steps, run_is_placed_in_order}
use Rattle.served_law.proofs.placed.served_places_have_steps.Goals as goal

pub returns-clause-served : goal.returns-clause-served
returns-clause-served g c = λ serving result text setting left run sound leaves.
    run_is_placed_in_order g.S.Store g.D.Database.finds serving never result text setting run sound left leaves

pub returns-clause-failed : goal.returns-clause-failed
returns-clause-failed g c = λ serving result text setting left run sound leaves.
    run_is_placed_in_order g.S.Store g.D.Database.finds serving unasked result text setting run sound left leaves

pub returns-clause-uses : goal.returns-clause-uses
returns-clause-uses g c = λ setting node store uses are. placed_use_steps g.S.Store g.D.Database.finds setting node store uses are

pub returns-clause-members : goal.returns-clause-members
returns-clause-members g c = λ setting stores are. all_placed_steps g.S.Store g.D.Database.finds setting stores are

pub returns-clause-kept : goal.returns-clause-kept
returns-clause-kept g c = λ setting uses are has items members same. kept_places g.S.Store g.D.Database.finds setting uses are has items members same

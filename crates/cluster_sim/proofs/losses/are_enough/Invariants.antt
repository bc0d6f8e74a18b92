use Rattle.std.proofs.Common.{◌≡◌, true}
use Rattle.vote_core.specs.Schedule.{all_most}
use Rattle.cluster_sim.specs.World.{floor_in}
use Rattle.cluster_sim.proofs.losses.are_enough.Given as goal

-- none of the tokens so far is below its least
abbrev pub invariant-loop-token : goal.invariant-loop-token
invariant-loop-token l = all_most l.token (floor_in l.least) (floor_in l.floors) ≡ true

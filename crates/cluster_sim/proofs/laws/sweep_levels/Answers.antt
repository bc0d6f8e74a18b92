use Rattle.cluster_sim.proofs.RoundReports.{sweep_end_settles}
use Rattle.cluster_sim.proofs.RoundLaw.{sweep_settles}
use Rattle.cluster_sim.proofs.Turns.{sweep_levels, turn_levels}
use Rattle.cluster_sim.proofs.laws.sweep_levels.Goals as goal

pub returns-clause-turn : goal.returns-clause-turn
returns-clause-turn c = turn_levels

pub returns-clause-sweep : goal.returns-clause-sweep
returns-clause-sweep c = sweep_levels

pub returns-clause-settles : goal.returns-clause-settles
returns-clause-settles c = sweep_settles

pub returns-clause-settles_at_end : goal.returns-clause-settles_at_end
returns-clause-settles_at_end c = sweep_end_settles

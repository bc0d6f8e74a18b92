-- The law below, carried over.
use Rattle.world_law.proofs.Sweeps.{sweeps_level}
use Rattle.world_law.proofs.laws.sweeps_level_stores.Goals as goal

pub returns : goal.returns
returns c = sweeps_level c.rulings_have_grounds.ensures.grounds c.world_is_safe.ensures.justified c.sweep_levels.ensures.sweep

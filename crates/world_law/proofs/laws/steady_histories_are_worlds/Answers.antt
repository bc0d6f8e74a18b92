-- The laws below, carried over.
use Rattle.world_law.proofs.Genuine.{is_history}
use Rattle.world_law.proofs.Runs.{explained, is_run}
use Rattle.world_law.proofs.laws.steady_histories_are_worlds.Goals as goal

pub returns-clause-history : goal.returns-clause-history
returns-clause-history c = is_history c.rulings_have_grounds.ensures.grounds c.world_is_safe.ensures.justified

pub returns-clause-world : goal.returns-clause-world
returns-clause-world c = is_run c.rulings_have_grounds.ensures.grounds c.world_is_safe.ensures.justified

pub returns-clause-explained : goal.returns-clause-explained
returns-clause-explained c =
    explained c.rulings_have_grounds.ensures.grounds c.world_is_safe.ensures.justified c.answers_belong_to_passes.ensures.told c.answers_belong_to_passes.ensures.no_other

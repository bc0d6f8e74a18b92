use Rattle.std.proofs.Common.{ℕ, Option, sym, subst}
use Rattle.cluster_sim.specs.Journal.{IsRun}
use Rattle.cluster_sim.specs.World.{world_after_restart}
use Rattle.cluster_sim.proofs.simulation.reopen_if.Goals as goal

pub returns-in-Some-clause-restarts : goal.returns-in-Some-clause-restarts
returns-in-Some-clause-restarts c config key w h =
    subst (λ (o : Option ℕ). IsRun config key (world_after_restart o w) (record { nodes = c.reopen_at.new.nodes; journal = c.args.journal.now })) (sym c.in-Some.is) (c.reopen_at.ensures.restarts config key w h)

pub returns-in_default-clause-restarts : goal.returns-in_default-clause-restarts
unfolding world_after_restart
returns-in_default-clause-restarts c config key w h =
    subst (λ (o : Option ℕ). IsRun config key (world_after_restart o w) (record { nodes = c.args.nodes.now; journal = c.args.journal.now })) (sym c.in_default.is) h

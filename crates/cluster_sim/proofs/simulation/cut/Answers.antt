use Rattle.std.proofs.Common.{ℕ, Bool, Option, sym, subst}
use Rattle.cluster_sim.specs.Journal.{IsRun}
use Rattle.cluster_sim.specs.Run.{act_of}
use Rattle.cluster_sim.specs.World.{Cut, with_told_of, world_after_act, world_after_event, world_after_restart}
use Rattle.cluster_sim.proofs.simulation.cut.Goals as goal

pub returns-in_ok-perform-clause-plays : goal.returns-in_ok-perform-clause-plays
unfolding world_after_event
returns-in_ok-perform-clause-plays c config w h spelled =
    let key = c.args.key.now in
    let a = act_of key c.args.act in
    let lost = with_told_of w (world_after_act config c.args.event a w) in
    subst (λ (b : Bool). IsRun config key (world_after_event config c.args.event (Cut b a) w) (record { nodes = c.reopen_if.new.nodes; journal = c.perform.new.journal })) (sym c.if-kept.true)
    (subst (λ (o : Option ℕ). IsRun config key (world_after_restart o lost) (record { nodes = c.reopen_if.new.nodes; journal = c.perform.new.journal })) (c.target_of-target.ensures key w h.recorded.sent)
    (c.reopen_if.ensures.restarts config key lost (c.in_ok-perform.ensures.plays config w h spelled)))

pub returns-else-kept-clause-plays : goal.returns-else-kept-clause-plays
unfolding world_after_event
returns-else-kept-clause-plays c config w h spelled =
    let key = c.args.key.now in
    let a = act_of key c.args.act in
    subst (λ (b : Bool). IsRun config key (world_after_event config c.args.event (Cut b a) w) (record { nodes = c.reopen_if-else-kept.new.nodes; journal = c.args.journal.now })) (sym c.if-kept.false)
    (subst (λ (o : Option ℕ). IsRun config key (world_after_restart o w) (record { nodes = c.reopen_if-else-kept.new.nodes; journal = c.args.journal.now })) (c.target_of-target.ensures key w h.recorded.sent)
    (c.reopen_if-else-kept.ensures.restarts config key w h))

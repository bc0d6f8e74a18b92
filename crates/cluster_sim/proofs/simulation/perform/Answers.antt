use Rattle.std.proofs.Common.{sym, subst}
use Rattle.std.specs.Prelude.{OnOk}
use Rattle.cluster_sim.specs.declared.script.Act.{Act}
use Rattle.cluster_sim.specs.Journal.{IsRun, told_act}
use Rattle.cluster_sim.specs.Run.{act_of}
use Rattle.cluster_sim.specs.World.{world_after_act}
use Rattle.cluster_sim.proofs.simulation.perform.Goals as goal

pub returns-in-Client-clause-plays : goal.returns-in-Client-clause-plays
unfolding world_after_act
returns-in-Client-clause-plays c config w h spelled =
    subst (λ (a : Act). OnOk c.turn.result (IsRun config c.args.key.now (told_act c.args.is_told c.args.event (act_of c.args.key.now a) config w) (record { nodes = c.turn.new.nodes; journal = c.turn.new.journal })))
    (sym c.in-Client.is) (c.turn.ensures.plays c.args.key.now config w h spelled)

pub returns-in-Deliver-clause-plays : goal.returns-in-Deliver-clause-plays
returns-in-Deliver-clause-plays c config w h spelled =
    subst (λ (a : Act). OnOk c.deliver.result (IsRun config c.args.key.now (told_act c.args.is_told c.args.event (act_of c.args.key.now a) config w) (record { nodes = c.deliver.new.nodes; journal = c.deliver.new.journal })))
    (sym c.in-Deliver.is) (c.deliver.ensures.plays c.args.key.now config w h spelled)

pub returns-in-Tick-clause-plays : goal.returns-in-Tick-clause-plays
unfolding world_after_act
returns-in-Tick-clause-plays c config w h spelled =
    subst (λ (a : Act). OnOk c.turn-in-Tick.result (IsRun config c.args.key.now (told_act c.args.is_told c.args.event (act_of c.args.key.now a) config w) (record { nodes = c.turn-in-Tick.new.nodes; journal = c.turn-in-Tick.new.journal })))
    (sym c.in-Tick.is) (c.turn-in-Tick.ensures.plays c.args.key.now config w h spelled)

pub returns-in-Noise-clause-plays : goal.returns-in-Noise-clause-plays
returns-in-Noise-clause-plays c config w h spelled =
    subst (λ (a : Act). OnOk c.disturb.result (IsRun config c.args.key.now (told_act c.args.is_told c.args.event (act_of c.args.key.now a) config w) (record { nodes = c.disturb.new.nodes; journal = c.disturb.new.journal })))
    (sym c.in-Noise.is) (c.disturb.ensures.plays config w h spelled)

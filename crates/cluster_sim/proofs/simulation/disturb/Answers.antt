use Rattle.std.proofs.Common.{ℕ, Some, subst, sym, ◌∙◌}
use Rattle.std.specs.Prelude.{OnOk}
use Rattle.cluster_sim.specs.Journal.{IsRun, SimulationRecord, told_turn}
use Rattle.oath_node.specs.Hosted.{envelope_at}
use Rattle.oath_node.specs.Machine.{Peer}
use Rattle.cluster_sim.specs.World.{Noise}
use Rattle.cluster_sim.proofs.Delivered.{noise_other, noise_own}
use Rattle.cluster_sim.proofs.Records.{act_idle, act_silent, act_turn, silent_noise}
use Rattle.cluster_sim.proofs.simulation.disturb.Goals as goal

pub returns-then-is_from-clause-plays : goal.returns-then-is_from-clause-plays
returns-then-is_from-clause-plays c config w h spelled =
    let read = envelope_at c.args.key.now c.args.bytes.now in
    act_idle config c.args.key.now c.args.event (Noise c.args.node c.args.from read) w c.args.is_told (record { nodes = c.args.nodes.now; journal = c.args.journal.now })
    (noise_own c.args.from read (sym c.is_from.ensures ∙ c.if-is_from.true)) h

pub returns-in_default-clause-plays : goal.returns-in_default-clause-plays
returns-in_default-clause-plays c config w h spelled =
    let read = envelope_at c.args.key.now c.args.bytes.now in
    let other = sym c.is_from.ensures ∙ c.if-is_from.false in
    act_silent config c.args.key.now c.args.event c.args.from read (Noise c.args.node c.args.from read) w c.args.is_told (record { nodes = c.args.nodes.now; journal = c.args.journal.now })
    (noise_other c.args.from read other) (silent_noise config c.args.from read other) h

pub returns-clause-plays : goal.returns-clause-plays
returns-clause-plays c config w h spelled =
    let key = c.args.key.now in
    let read = envelope_at key c.args.bytes.now in
    let other = sym c.is_from.ensures ∙ c.if-is_from.false in
    let new : SimulationRecord = record { nodes = c.turn.new.nodes; journal = c.turn.new.journal } in
    act_turn config key c.args.event (Peer c.args.from read) (Noise c.args.node c.args.from read) w c.args.is_told new c.turn.result (sym (noise_other c.args.from read other))
    (subst (λ (from : ℕ). OnOk c.turn.result (IsRun config key (told_turn c.args.is_told c.args.event c.args.node (Some (Peer from read)) config w) new)) c.in-Ok.ensures.1
    (c.turn.ensures.plays key config w h spelled))

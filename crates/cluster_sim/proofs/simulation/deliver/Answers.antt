use Rattle.std.proofs.Common.{ℕ, List, Option, ap, sym, ◌∙◌}
use Rattle.std.specs.List.{slice_get}
use Rattle.std.specs.Prelude.{is_some}
use Rattle.vote_core.specs.Schedule.{Envelope}
use Rattle.oath_node.specs.Hosted.{envelope_at}
use Rattle.oath_node.specs.Machine.{Peer}
use Rattle.cluster_sim.specs.Journal.{Letter, used_in}
use Rattle.cluster_sim.specs.World.{Deliver, delivered_event}
use Rattle.cluster_sim.proofs.HostLemmas.{store_gone, store_there}
use Rattle.cluster_sim.proofs.Delivered.{handed_is, unsent_letter}
use Rattle.cluster_sim.proofs.Records.{act_gone, act_idle, act_turn, turn_plays}
use Rattle.cluster_sim.proofs.simulation.deliver.Goals as goal

pub returns-then-is_some-clause-plays : goal.returns-then-is_some-clause-plays
returns-then-is_some-clause-plays c key config w h spelled =
    let node = c.args.node in
    let gone = store_gone _ (used_in c.args.journal.now.losses node) (w.lost node) (w.nodes node) (h.losses.used node) (ap is_some (sym c.used_boot.ensures) ∙ sym c.is_some.ensures ∙ c.if-is_some.true) in
    act_gone config key c.args.event (Deliver node c.args.k) w c.args.is_told (record { nodes = c.args.nodes.now; journal = c.args.journal.now }) gone h

pub returns-in_default-clause-plays : goal.returns-in_default-clause-plays
returns-in_default-clause-plays c key config w h spelled =
    let none = unsent_letter key w.sent c.args.k (ap (λ (l : List Letter). slice_get l c.args.k) (sym h.recorded.sent) ∙ c.in_default.ensures.none) in
    act_idle config key c.args.event (Deliver c.args.node c.args.k) w c.args.is_told (record { nodes = c.args.nodes.now; journal = c.args.journal.now })
    (ap (λ (o : Option Envelope). delivered_event o) none) h

pub returns-clause-plays : goal.returns-clause-plays
returns-clause-plays c key config w h spelled =
    let node = c.args.node in
    let there = store_there _ (used_in c.args.journal.now.losses node) (w.lost node) (w.nodes node) (h.losses.used node) (ap is_some (sym c.used_boot.ensures) ∙ sym c.is_some.ensures ∙ c.if-is_some.false) in
    let inside = c.datagram-2.inside in
    let what = Peer inside.from (envelope_at key c.as_slice.result.now) in
    let same = handed_is c.one_spelling.ensures.again key w c.args.journal.now.sent c.args.k c.in-Some.datagram.now h.recorded.sent spelled c.in-Some.ensures.some
    (record { sender = inside.from; receiver = inside.to; bytes = c.as_slice.result.now }) (ap (λ (b : List ℕ). record { sender = inside.from; receiver = inside.to; bytes = b }) c.as_slice.ensures.value ∙ c.datagram-2.view_is) in
    act_turn config key c.args.event what (Deliver c.args.node c.args.k) w c.args.is_told (record { nodes = c.ask-outputs.new.nodes; journal = c.take.new.journal }) c.take.result same
    (turn_plays config key c.args.event c.args.node what w c.args.is_told c.ask-outputs.result (record { nodes = c.args.nodes.now; journal = c.args.journal.now }) c.ask-outputs.new.nodes c.take.new.journal
    c.take.result h c.ask-outputs.ensures.len there (c.ask-outputs.ensures.asks config key w.n w.lost w.nodes h.n there h.hosts) c.take.ensures)

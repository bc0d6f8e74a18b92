use Rattle.std.proofs.Common.{ℕ, List}
use Rattle.oath_node.specs.Hosted.{envelope_at}
use Rattle.oath_node.specs.Machine.{Peer}
use Rattle.oath_node.proofs.NodeLemmas.{datagram_steps, node_taken, node_takes}
use Rattle.oath_node.proofs.node.Node.take_datagram.Goals as goal

pub invariant_of-self : goal.invariant_of-self
invariant_of-self g c =
    let held = g.S.FloorStore.held in
    let book = c.self.inside.book.now in
    let limits = c.self.inside.settings in
    let key = c.self.inside.key.now in
    let old = c.self.inside.parts in
    let new = c.on_datagram-taken.new.self in
    let result = c.on_datagram-taken.result in
    let now = c.is_ok-self-inside in
    let found = c.in_ok-check_running.ensures in
    let steps = datagram_steps held book limits key old new c.args.from (envelope_at key c.args.bytes.now) result (c.on_datagram-taken.ensures book limits c.self.invariant.tokens) in
    node_taken held book limits key old new c.self.inside.is_running now.result c.args.self.now (Peer c.args.from (envelope_at key c.args.bytes.now)) result
    c.self.view_is c.self.invariant found.runs now.ensures.value steps

pub returns : goal.returns
returns g c =
    let held = g.S.FloorStore.held in
    let book = c.self.inside.book.now in
    let limits = c.self.inside.settings in
    let key = c.self.inside.key.now in
    let old = c.self.inside.parts in
    let new = c.on_datagram-taken.new.self in
    let result = c.on_datagram-taken.result in
    let now = c.is_ok-self-inside in
    let found = c.in_ok-check_running.ensures in
    let steps = datagram_steps held book limits key old new c.args.from (envelope_at key c.args.bytes.now) result (c.on_datagram-taken.ensures book limits c.self.invariant.tokens) in
    node_takes held book limits key old new c.self.inside.is_running now.result c.args.self.now (λ (k : List ℕ). Peer c.args.from (envelope_at k c.args.bytes.now)) result
    c.self.view_is c.self.invariant found.runs found.place found.few now.ensures.value steps

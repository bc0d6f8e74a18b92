use Rattle.std.proofs.Common.{ℕ, List, true, ap, ◌∙◌, ◌≡◌}
use Rattle.oath_node.specs.Hosted.{Hosted}
use Rattle.oath_node.specs.Machine.{Client}
use Rattle.oath_node.proofs.NodeLemmas.{line_steps, node_taken, node_takes}
use Rattle.oath_node.proofs.OwnerLemmas.{room_for}
use Rattle.oath_node.proofs.node.Node.take_line.Goals as goal

pub on_line-taken-requires-clause-room : goal.on_line-taken-requires-clause-room
on_line-taken-requires-clause-room g c clean =
    let on : c.self.inside.is_running ≡ true = ap (λ (h : Hosted g.row.S.Denot). h.running) c.self.view_is ∙ c.in_ok-check_running.ensures.runs in
    let h = c.self.invariant.owned on clean in
    let old = c.self.inside.parts in
    room_for old.voter old.owners.items h.apart h.pending

pub invariant_of-self : goal.invariant_of-self
invariant_of-self g c =
    let held = g.S.FloorStore.held in
    let book = c.self.inside.book.now in
    let limits = c.self.inside.settings in
    let key = c.self.inside.key.now in
    let old = c.self.inside.parts in
    let new = c.on_line-taken.new.self in
    let result = c.on_line-taken.result in
    let now = c.is_ok-self-inside in
    let found = c.in_ok-check_running.ensures in
    let steps = line_steps held book limits key old new c.args.client c.args.moment c.args.line.now result c.on_line-taken.ensures in
    node_taken held book limits key old new c.self.inside.is_running now.result c.args.self.now (Client c.args.client c.args.moment c.args.line.now) result
    c.self.view_is c.self.invariant found.runs now.ensures.value steps

pub returns : goal.returns
returns g c =
    let held = g.S.FloorStore.held in
    let book = c.self.inside.book.now in
    let limits = c.self.inside.settings in
    let key = c.self.inside.key.now in
    let old = c.self.inside.parts in
    let new = c.on_line-taken.new.self in
    let result = c.on_line-taken.result in
    let now = c.is_ok-self-inside in
    let found = c.in_ok-check_running.ensures in
    let steps = line_steps held book limits key old new c.args.client c.args.moment c.args.line.now result c.on_line-taken.ensures in
    node_takes held book limits key old new c.self.inside.is_running now.result c.args.self.now (λ (_ : List ℕ). Client c.args.client c.args.moment c.args.line.now) result
    c.self.view_is c.self.invariant found.runs found.place found.few now.ensures.value steps

use Rattle.std.proofs.Common.{◌∙◌, ap}
use Rattle.std.specs.Prelude.{Ok}
use Rattle.node_reports.specs.Responder.{ResponderAnswers}
use Rattle.node_serving.specs.NodeKey.{tag_key}
use Rattle.store_serving.specs.Placed.{never}
use Rattle.store_serving.proofs.PlacedLemmas.{served_by}
use Rattle.store_serving.proofs.placed.serve_placed.Goals as goal

pub returns-clause-served : goal.returns-clause-served
returns-clause-served g c =
    let node = c.in_ok-node.ensures in
    served_by g.S.FloorStore.held c.args.serving c.args.book.now c.args.store c.in_ok-node.node c.serve_opened.new.node node.opened node.book node.limits
    (node.key ∙ c.in_ok-key.ensures.key ∙ ap (λ k. tag_key k c.args.book.now) c.again.ensures) node.place (ResponderAnswers never) (Ok c.in_ok-served.served) c.in_ok-served.ensures.served

use Rattle.std.proofs.Common.{◌∙◌, map}
use Rattle.std.specs.Prelude.{Ok}
use Rattle.node_reports.specs.Responder.{ResponderAnswers}
use Rattle.store_serving.proofs.ServedLemmas.{ends_by, served_by, then_err, then_ok}
use Rattle.oathd_roster.proofs.UsersLemmas.{name_in}
use Rattle.store_serving.proofs.named.serve_over.Goals as goal

pub returns-clause-served : goal.returns-clause-served
returns-clause-served g c =
    let held = g.S.FloorStore.held in
    let serving = c.args.serving in
    let named = c.args.named.now in
    let node = c.in_ok-node.ensures in
    then_ok c.serve_opened.result _ _
    (λ served. served_by held serving named.users.book (map name_in named.entries.items) c.args.store c.in_ok-naming.naming c.in_ok-naming.ensures.naming
    c.in_ok-node.node c.serve_opened.new.node node.opened node.book node.limits (node.key ∙ c.bare-bare.ensures) node.place
    (ResponderAnswers (g.U.Stop.answers served.1)) (Ok served.0)) c.serve_opened.ensures.served

pub returns-clause-fault : goal.returns-clause-fault
returns-clause-fault g c =
    let held = g.S.FloorStore.held in
    let serving = c.args.serving in
    let named = c.args.named.now in
    let node = c.in_ok-node.ensures in
    then_err c.serve_opened.result _ _
    (λ fault. ends_by held serving named.users.book (map name_in named.entries.items) c.args.store c.in_ok-naming.naming c.in_ok-naming.ensures.naming
    c.in_ok-node.node c.serve_opened.new.node node.opened node.book node.limits (node.key ∙ c.bare-bare.ensures) node.place fault) c.serve_opened.ensures.fault

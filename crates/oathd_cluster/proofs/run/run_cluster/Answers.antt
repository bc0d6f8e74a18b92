use Rattle.std.proofs.Common.{◌+◌, List, ℕ, IfSome, take}
use Rattle.std.specs.Prelude.{Result}
use Rattle.users_input.specs.Input.{lines_of}
use Rattle.oathd_cluster.specs.Line.{LinesRead, node_lines}
use Rattle.oathd_cluster.specs.Run.{EndsSo}
use Rattle.oathd_cluster.specs.declared.fault.Fault.{Fault}
use Rattle.oathd_cluster.proofs.AnswerLemmas.{end_by}
use Rattle.oathd_cluster.proofs.RunLemmas.{unopened, unread}
use Rattle.oathd_cluster.proofs.run.run_cluster.Goals as goal

pub returns-in_err-book-clause-lines : goal.returns-in_err-book-clause-lines
returns-in_err-book-clause-lines g c =
    let known = g.R.Read.remaining c.args.reader.now in
    let out = g.W.Write.contents c.args.writer.now in
    let lines : List ℕ → LinesRead = λ text. node_lines c.args.nodes 1 (lines_of c.args.limit (take (c.args.limit + 1) text)) in
    end_by c.from_residual.result c.in_err-book.field-0.0 (λ (r : Result Unit Fault). IfSome known (λ text. EndsSo (lines text) r out out))
    c.from_residual.ensures.1 (unread known lines c.in_err-book.field-0.0 out c.in_err-book.ensures.kind)

pub returns-in_err-cluster-clause-lines : goal.returns-in_err-cluster-clause-lines
returns-in_err-cluster-clause-lines g c =
    let known = g.R.Read.remaining c.args.reader.now in
    let out = g.W.Write.contents c.args.writer.now in
    let lines : List ℕ → LinesRead = λ text. node_lines c.args.nodes 1 (lines_of c.args.limit (take (c.args.limit + 1) text)) in
    end_by c.from_residual-in_err-cluster.result c.in_err-cluster.field-0.0 (λ (r : Result Unit Fault). IfSome known (λ text. EndsSo (lines text) r out out))
    c.from_residual-in_err-cluster.ensures.1 (unopened known lines c.in_err-cluster.field-0.0 out c.in_err-cluster.ensures)

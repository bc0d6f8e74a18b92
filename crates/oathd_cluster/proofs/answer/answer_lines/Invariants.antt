use Rattle.std.proofs.Common.{IfSome}
use Rattle.users_input.specs.Input.{lines_of}
use Rattle.oathd_cluster.specs.Line.{node_lines}
use Rattle.oathd_cluster.proofs.AnswerLemmas.{IsAnswering}
use Rattle.oathd_cluster.proofs.answer.answer_lines.Given as goal

-- the lines so far have their replies, and the lines that are left make the rest
abbrev pub invariant-loop-number : goal.invariant-loop-number
invariant-loop-number g l =
    IfSome (g.B.Read.remaining l.fn.input.reader) (λ text. IsAnswering l.nodes
    (node_lines l.nodes l.fn.first (lines_of l.fn.input.room text)) l.number l.input.room
    (g.B.Read.remaining l.input.reader) (g.W.Write.contents l.fn.writer) (g.W.Write.contents l.writer))

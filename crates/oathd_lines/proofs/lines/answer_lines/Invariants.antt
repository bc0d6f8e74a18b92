use Rattle.std.proofs.Common.{IfSome, List}
use Rattle.otp_core.specs.Limits.{Limits}
use Rattle.token_file.specs.Credential.{Credential}
use Rattle.oath_node.specs.ReferenceServer.{Server}
use Rattle.oath_node.specs.Serving.{IsServing}
use Rattle.oathd_lines.specs.Client.{client_lines}
use Rattle.users_input.specs.Input.{lines_of}
use Rattle.oathd_lines.specs.Run.{answers_from}
use Rattle.oathd_lines.proofs.ServeLemmas.{HasAnsweredFew, IsAnswering}
use Rattle.oathd_lines.proofs.lines.answer_lines.Given as goal

-- no more lines are answered than bytes were taken, the answers so far are written, and the lines that are left make the rest
abbrev pub invariant-loop-number : goal.invariant-loop-number
invariant-loop-number g l =
    HasAnsweredFew l.server l.input.room l.fn.input.room ×
    ((book : List Credential) (limits : Limits) (s : Server) → IsServing l.fn.server book limits 0 s →
    IfSome (g.B.Read.remaining l.fn.input.reader) (λ text. IsAnswering book limits
    (answers_from book limits s (client_lines l.fn.first (lines_of l.fn.input.room text)).good) (client_lines l.fn.first (lines_of l.fn.input.room text)).bad
    l.server l.number l.input.room (g.B.Read.remaining l.input.reader) (g.W.Write.contents l.fn.writer) (g.W.Write.contents l.writer)))

use Rattle.std.proofs.Common.{ℕ, Bool, true, false, cond, List, Option, Some, None}
use Rattle.operator_text.specs.Request.{Wish as Request, Lines, OpenGate, Ending, request_at}
use Rattle.operator_text.specs.declared.reply.Reply.TheVariants.{Busy}
use Rattle.sealed_wire.specs.declared.right.Right.TheVariants.{Reader}
use Rattle.token_file.specs.Credential.{Credential}
use Rattle.node_reports.specs.Allowance.{is_empty, refilled}
use Rattle.node_reports.specs.Responder.{ChangesNothing, decision_by, decision_in}
use Rattle.node_reports.specs.declared.responder.Decision.TheVariants.{Refused}
use Rattle.node_reports.proofs.laws.readers_change_nothing.Goals as goal

harmless : (book : List Credential) (request : Option Request) → ChangesNothing (decision_by book Reader request)
harmless book None = tt
harmless book (Some (Lines report from)) = tt
harmless book (Some (OpenGate user)) = tt
harmless book (Some Ending) = tt

harmless_under : (is_busy : Bool) (book : List Credential) (text : List ℕ)
    → ChangesNothing (cond is_busy (Refused Busy) (decision_in book Reader text))
harmless_under true book text = tt
harmless_under false book text = harmless book (request_at text)

pub returns-clause-asked : goal.returns-clause-asked
returns-clause-asked c book text = harmless book (request_at text)

pub returns-clause-under : goal.returns-clause-under
returns-clause-under c moment allowance book text = harmless_under (is_empty (refilled moment allowance)) book text

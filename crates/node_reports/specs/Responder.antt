-- What a responder answers.
use Rattle.std.specs.Prelude.{◌≡◌, ◌⊎◌, ℕ, ◌==◌, ◌&&◌, Bool, true, false, not, List, Option, Some, None, if◌then◌else◌}
use Rattle.operator_text.specs.Pages.{page_from}
use Rattle.operator_text.specs.Reply.{reply_text}
use Rattle.operator_text.specs.Request.{Wish as Request, Lines, OpenGate as Unlock, Ending, changes, request_at}
use Rattle.operator_text.specs.declared.reply.Reply.TheVariants.{Busy, NoReport, NoRequest, NoRight, NoUser}
use Rattle.operator_text.specs.declared.request.Report.{Report}
use Rattle.operator_text.specs.declared.request.Report.TheVariants as report
use Rattle.sealed_wire.specs.declared.right.Right.{Right}
use Rattle.sealed_wire.specs.declared.right.Right.TheVariants.{Operator, Reader}
use Rattle.token_file.specs.Credential.{Credential, place_of}
use Rattle.node_reports.specs.Allowance.{is_empty, paid, refilled}
use Rattle.node_reports.specs.Text.{lines_of}
use Rattle.node_reports.specs.declared.allowance.Allowance.{Allowance}
use Rattle.node_reports.specs.declared.responder.Kept.{Kept}
use Rattle.node_reports.specs.declared.responder.Decision.{Decision}
use Rattle.node_reports.specs.declared.responder.Decision.TheVariants.{Refused, Page, OpenGate, Drain}

-- ---- the end of turns

-- What a responder answers over something else that may end the turns, for which `answers` holds. The turns end where
-- that ends them, and also for an act or where the node ends. A node that ends has no turn left.
pub record ResponderAnswers (answers : ℕ → Bool → Bool → Type 0) (left : ℕ) (is_waiting ends : Bool) : Type 0 where
  pub told : ℕ
  pub told_is : (told ≡ left) ⊎ ((told ≡ 0) × (ends ≡ true))
  pub own : Bool
  pub answered : answers told is_waiting own
  pub own_ends : own ≡ true → ends ≡ true

-- ---- requests

-- whether a key may send requests that change something
abbrev pub is_operator : Right → Bool
is_operator Operator = true
is_operator Reader = false

-- what a request for a user's gate asks for, by the place of the user
abbrev pub unlocked_at : Option ℕ → Decision
unlocked_at None = Refused NoUser
unlocked_at (Some token) = OpenGate token

-- what a request asks for, of an operator
abbrev pub decision_for : List Credential → Request → Decision
decision_for book (Lines report from) = Page report from
decision_for book (Unlock user) = unlocked_at (place_of user book)
decision_for book Ending = Drain

-- what a request asks for, of a key with a right
abbrev pub decision_by : List Credential → Right → Option Request → Decision
decision_by book right None = Refused NoRequest
decision_by book right (Some request) =
    if changes request && not (is_operator right) then Refused NoRight else decision_for book request

-- what the text of a request asks for, of a key with a right
abbrev pub decision_in : List Credential → Right → List ℕ → Decision
decision_in book right text = decision_by book right (request_at text)

-- The same at a moment of the clock, under the allowance of readers. A reader's request is refused, whatever it asks
-- for, if nothing is left.
abbrev pub decision_at : Option ℕ → Allowance → List Credential → Right → List ℕ → Decision
decision_at moment allowance book right text =
    if not (is_operator right) && is_empty (refilled moment allowance) then Refused Busy
    else decision_in book right text

-- the allowance after a request, of a key with a right, that began and ended at moments of the clock: an operator's
-- takes nothing of it
abbrev pub charged : Right → Option ℕ → Option ℕ → Allowance → Allowance
charged Operator began ended allowance = allowance
charged Reader began ended allowance = paid began ended allowance

-- what a request asks for changes nothing: the node neither opens a gate nor ends
abbrev pub ChangesNothing : Decision → Type 0
ChangesNothing (Refused reply) = Unit {0}
ChangesNothing (Page report from) = Unit {0}
ChangesNothing (OpenGate token) = ⊥
ChangesNothing Drain = ⊥

-- whether two reports are the same
abbrev pub is_same : Report → Report → Bool
is_same report.Status report.Status = true
is_same report.Gates report.Gates = true
is_same report.Floors report.Floors = true
is_same report.Passes report.Passes = true
is_same report.Roster report.Roster = true
is_same one other = false

-- the page of the kept text from a line on, if the operator's report is kept
abbrev pub page_for : Option Kept → ℕ → Report → ℕ → List ℕ
page_for None operator report from = reply_text NoReport
page_for (Some kept) operator report from =
    if kept.operator == operator && is_same kept.report report then page_from (lines_of kept.text.items) from
    else reply_text NoReport

-- The end of an inquiry at a running node.
use Rattle.std.specs.Prelude.{◌≡◌, ◌≢◌, ℕ, List, Option, Some, Result, Ok, Err}
use Rattle.std.specs.declared.net.socket_addr.SocketAddrV4.{SocketAddrV4}
use Rattle.clients_file.specs.declared.clients.OperatorEntry.{OperatorEntry}
use Rattle.oathd_words.specs.declared.inquiry_words.Inquiry.{Inquiry}
use Rattle.oathd_words.specs.declared.inquiry_words.Inquiry.TheVariants.{Status, Gates, Floors, Audit, Roster, Unlock, Drain}
use Rattle.operator_text.specs.Reply.{reply_at}
use Rattle.operator_text.specs.Request.{Ending, OpenGate, request_text}
use Rattle.operator_text.specs.declared.reply.Reply.{Reply}
use Rattle.operator_text.specs.declared.reply.Reply.TheVariants as replies
use Rattle.operator_text.specs.declared.request.Report.TheVariants as reports
use Rattle.oathd_asking.specs.Fault.{IsOfPrinting, IsOfReport, refusal_of}
use Rattle.oathd_asking.specs.Report.{PrintsReport}
use Rattle.oathd_asking.specs.Sent.{IsReportOn}
use Rattle.oathd_asking.specs.declared.fault.AskFault.{AskFault}
use Rattle.oathd_asking.specs.declared.fault.AskFault.TheVariants.{NoUser}

-- What a node says to a request to unlock a user: that it did, that it has no such user, or a refusal.
abbrev pub EndsUnlock : SocketAddrV4 → List ℕ → List ℕ → Result Unit AskFault → Type 0
EndsUnlock address user text (Ok done) = reply_at text ≡ Some replies.Unlocked
EndsUnlock address user text (Err (NoUser name)) = (reply_at text ≡ Some replies.NoUser) × (name.now ≡ user)
EndsUnlock address user text (Err fault) =
    (fault ≡ refusal_of address text) × (reply_at text ≢ Some replies.Unlocked) × (reply_at text ≢ Some replies.NoUser)

-- What a node says to a request to end: that it does, or a refusal.
abbrev pub EndsDrain : SocketAddrV4 → List ℕ → Result Unit AskFault → Type 0
EndsDrain address text (Ok done) = reply_at text ≡ Some replies.Draining
EndsDrain address text (Err fault) = (fault ≡ refusal_of address text) × (reply_at text ≢ Some replies.Draining)

-- the node's report on a request is this reply
pub record Replies (operator : OperatorEntry) (node : ℕ) (text : List ℕ) (reply : Reply) : Type 0 where
  pub page : List ℕ
  pub on_request : IsReportOn operator node text page
  pub says : reply_at page ≡ Some reply

-- An inquiry that was carried out: the report was written, or the node says that it did what it was asked, and nothing
-- was written.
abbrev pub IsInquired : OperatorEntry → ℕ → Inquiry → Option (List ℕ) → Option (List ℕ) → Type 0
IsInquired operator node Status old new = PrintsReport operator node reports.Status old new
IsInquired operator node Gates old new = PrintsReport operator node reports.Gates old new
IsInquired operator node Floors old new = PrintsReport operator node reports.Floors old new
IsInquired operator node Audit old new = PrintsReport operator node reports.Passes old new
IsInquired operator node Roster old new = PrintsReport operator node reports.Roster old new
IsInquired operator node (Unlock user) old new =
    Replies operator node (request_text (OpenGate user.now)) replies.Unlocked × (new ≡ old)
IsInquired operator node Drain old new = Replies operator node (request_text Ending) replies.Draining × (new ≡ old)

-- the fault of a request to unlock a user
abbrev pub IsOfUnlock : SocketAddrV4 → List ℕ → AskFault → Type 0
IsOfUnlock address user (NoUser name) = name.now ≡ user
IsOfUnlock address user fault = IsOfReport address fault

-- the fault of an inquiry
abbrev pub IsOfInquiry : SocketAddrV4 → Inquiry → AskFault → Type 0
IsOfInquiry address (Unlock user) fault = IsOfUnlock address user.now fault
IsOfInquiry address Drain fault = IsOfReport address fault
IsOfInquiry address inquiry fault = IsOfPrinting address fault

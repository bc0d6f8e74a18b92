-- A report of a node, from its pages.
use Rattle.std.specs.Prelude.{◌≡◌, ◌<◌, ℕ, List, [], ◌∷◌, Option, None, Some}
use Rattle.std.specs.Io.KnownBytes.{Appends}
use Rattle.clients_file.specs.declared.clients.OperatorEntry.{OperatorEntry}
use Rattle.operator_text.specs.Page.{PageRecord}
use Rattle.operator_text.specs.Pages.{joined, page_from}
use Rattle.operator_text.specs.Reading.{page_at}
use Rattle.operator_text.specs.Request.{Lines, request_text}
use Rattle.operator_text.specs.declared.request.Report.{Report}
use Rattle.oathd_asking.specs.Sent.{IsReportOn}

-- the text of a request for the lines of a report from a number on
abbrev pub page_request : Report → ℕ → List ℕ
page_request report from = request_text (Lines report from)

-- the page before `pages` names the line with which they begin, beyond its own first line, or they are none
abbrev pub GoesOn : (ℕ → Type 0) → List (List ℕ) → ℕ → Option ℕ → Type 0
GoesOn AreFrom pages from None = pages ≡ []
GoesOn AreFrom pages from (Some next) = (from < next) × AreFrom next

-- the same of the page that was read
abbrev pub Follow : (ℕ → Type 0) → List (List ℕ) → ℕ → Option PageRecord → Type 0
Follow AreFrom pages from None = ⊥
Follow AreFrom pages from (Some page) = GoesOn AreFrom pages from page.next

-- The pages of a report from a line on. Each was opened as the report on the request for its lines. The last one, and
-- no other one, says that it is the last one.
abbrev pub ArePages : OperatorEntry → ℕ → Report → List (List ℕ) → ℕ → Type 0
ArePages operator node report [] from = ⊥
ArePages operator node report (page ∷ pages) from =
    IsReportOn operator node (page_request report from) page
    × Follow (ArePages operator node report pages) pages from (page_at page)

-- a text is the lines of the pages of a report, in their order
pub record IsReportText (operator : OperatorEntry) (node : ℕ) (report : Report) (text : List ℕ) : Type 0 where
  pub pages : List (List ℕ)
  pub are : ArePages operator node report pages 0
  pub is : text ≡ joined pages

-- the text of a report was written
pub record PrintsReport (operator : OperatorEntry) (node : ℕ) (report : Report)
    (old new : Option (List ℕ)) : Type 0 where
  pub text : List ℕ
  pub of_node : IsReportText operator node report text
  pub written : Appends old new text

-- a node answers each request for a report by the page of these lines
abbrev pub Tells : OperatorEntry → ℕ → Report → List (List ℕ) → Type 0
Tells operator node report lines =
    (from : ℕ) (page : List ℕ) → IsReportOn operator node (page_request report from) page → page ≡ page_from lines from

-- Requests that were sealed, and the reports on them.
use Rattle.std.specs.Prelude.{◌≡◌, ◌&&◌, ◌==◌, ℕ, Bool, false, IsTrue, List, [], Option, Some, is_some}
use Rattle.clients_file.specs.declared.clients.OperatorEntry.{OperatorEntry}
use Rattle.operator_text.specs.Pages.{next_in}
use Rattle.operator_text.specs.Reading.{page_at}
use Rattle.operator_text.specs.Request.{Wish, Lines, request_at}
use Rattle.sealed_wire.specs.Report.{report_at}
use Rattle.sealed_wire.specs.Sealed.{sealed_bytes, tag_at}
use Rattle.sealed_wire.specs.declared.head.Head.{Head}
use Rattle.sealed_wire.specs.declared.head.Kind.TheVariants.{Request}

-- the head of an operator's request to a node
abbrev pub request_head : OperatorEntry → ℕ → ℕ → Head
request_head operator node moment =
    record { kind = Request; client = operator.number; node = node; moment = moment }

-- the datagram of a request
abbrev pub request_bytes : OperatorEntry → ℕ → List ℕ → ℕ → List ℕ
request_bytes operator node text moment = sealed_bytes operator.key [] (request_head operator node moment) text

-- the moment of a request with this tag
pub record Tagged (operator : OperatorEntry) (node : ℕ) (text tag : List ℕ) : Type 0 where
  pub moment : ℕ
  pub is : tag ≡ tag_at (request_bytes operator node text moment)

-- a tag is that of a request at some moment
abbrev pub IsTagOf : OperatorEntry → ℕ → List ℕ → List ℕ → Type 0
IsTagOf operator node text tag = ∥ Tagged operator node text tag ∥₁

-- the datagram of a report that is bound to a tag
pub record Bound (operator : OperatorEntry) (tag page : List ℕ) : Type 0 where
  pub bytes : List ℕ
  pub head : Head
  pub opened : report_at operator.key tag bytes ≡ Some (head, page)

-- a page was opened as a report that is bound to a tag
abbrev pub IsBoundTo : OperatorEntry → List ℕ → List ℕ → Type 0
IsBoundTo operator tag page = ∥ Bound operator tag page ∥₁

-- the report on a request
pub record Opened (operator : OperatorEntry) (node : ℕ) (text page : List ℕ) : Type 0 where
  pub tag : List ℕ
  pub of_request : IsTagOf operator node text tag
  pub bound : IsBoundTo operator tag page

-- A page was opened as the report on a request to a node: a datagram was sealed under the operator's key, and bound to
-- the tag of this very request.
abbrev pub IsReportOn : OperatorEntry → ℕ → List ℕ → List ℕ → Type 0
IsReportOn operator node text page = ∥ Opened operator node text page ∥₁

-- ---- pages of one text

-- whether a wish is for the lines of a report from the first one on
abbrev pub asks_first : Option Wish → Bool
asks_first (Some (Lines report from)) = from == 0
asks_first wish = false

-- whether the page on a request begins a report, and says that other pages follow
abbrev pub begins_more : List ℕ → List ℕ → Bool
begins_more text page = asks_first (request_at text) && is_some (next_in (page_at page))

-- the report on the last sending, by the tag of that sending
pub record OpenedLast (operator : OperatorEntry) (last : Option (List ℕ)) (page : List ℕ) : Type 0 where
  pub tag : List ℕ
  pub is_last : last ≡ Some tag
  pub bound : IsBoundTo operator tag page

-- A node makes the text of a report again for each sending of a request for its first page, and keeps one text. So a
-- first page that others follow is on the last sending. Otherwise the others may be of another text.
abbrev pub IsOfKeptText : OperatorEntry → List ℕ → Option (List ℕ) → List ℕ → Type 0
IsOfKeptText operator text last page = IsTrue (begins_more text page) → ∥ OpenedLast operator last page ∥₁

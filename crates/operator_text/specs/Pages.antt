-- All pages of a report, as a client reads one after the other.
use Rattle.std.specs.Prelude.{ℕ, zero, suc, ◌&&◌, not, Bool, false, List, [], ◌∷◌, ◌++◌, length, drop, Option, Some, None}
use Rattle.std.specs.Option.{is_none}
use Rattle.operator_text.specs.Page.{PageRecord, page_of}
use Rattle.operator_text.specs.Reading.{page_at}

-- the page of a report from a line on
abbrev pub page_from : List (List ℕ) → ℕ → List ℕ
page_from lines from = page_of from (drop from lines)

-- the bytes of the lines that were read; nothing if it was no page
abbrev pub lines_in : Option PageRecord → List ℕ
lines_in None = []
lines_in (Some page) = page.lines

-- the line with which the next page begins, if there is one
abbrev pub next_in : Option PageRecord → Option ℕ
next_in None = None
next_in (Some page) = page.next

-- whether a page was read that says that it is the last one
abbrev pub is_end : Option PageRecord → Bool
is_end None = false
is_end (Some page) = is_none page.next

-- the pages from a line on, if there is one
abbrev pub following : (ℕ → List (List ℕ)) → Option ℕ → List (List ℕ)
following pages None = []
following pages (Some next) = pages next

-- at most `fuel` pages of a report: the page from line `from` on, and each other one from the `next` of the page before
abbrev pub pages_from : ℕ → List (List ℕ) → ℕ → List (List ℕ)
pages_from zero lines from = []
pages_from (suc fuel) lines from =
    page_from lines from ∷ following (pages_from fuel lines) (next_in (page_at (page_from lines from)))

-- the pages of a report from its first line on
abbrev pub pages_of : List (List ℕ) → List (List ℕ)
pages_of lines = pages_from (suc (length lines)) lines 0

-- the lines of pages, put together
abbrev pub joined : List (List ℕ) → List ℕ
joined [] = []
joined (page ∷ pages) = lines_in (page_at page) ++ joined pages

-- whether the last one of the pages, and no other one, says that it is the last one
abbrev pub are_whole : List (List ℕ) → Bool
are_whole [] = false
are_whole (page ∷ []) = is_end (page_at page)
are_whole (page ∷ pages) = not (is_end (page_at page)) && are_whole pages

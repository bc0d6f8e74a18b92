-- The requests of an operator, as text.
use Rattle.std.specs.Prelude.{ℕ, ◌^◌, ◌<◌, Bool, true, false, IsTrue, List, ◌++◌, Option, Some, None, codes, if◌then◌else◌}
use Rattle.std.specs.Fmt.{decimal}
use Rattle.std.specs.Option.{option_map}
use Rattle.std.specs.Str.{bytes_eq}
use Rattle.field_text.specs.Cut.{Halves, halves_of}
use Rattle.field_text.specs.Word.{is_word}
use Rattle.operator_text.specs.Number.{line_number}
use Rattle.operator_text.specs.declared.request.Report.{Report}
use Rattle.operator_text.specs.declared.request.Report.TheVariants.{Status, Gates, Floors, Passes, Roster}
use Rattle.operator_text.specs.declared.request.Request.{Request}
use Rattle.operator_text.specs.declared.request.Request.TheVariants.{Page, Unlock, Drain}

-- what an operator asks for: the lines of a report from a number on, an open gate for a user, or the end of serving
pub data Wish : Type 0 where
  Lines : Report → ℕ → Wish
  OpenGate : List ℕ → Wish
  Ending : Wish

-- the wish of a request, as the program represents it
abbrev pub wish_of : Request → Wish
wish_of (Page report from) = Lines report from
wish_of (Unlock user) = OpenGate user.now
wish_of Drain = Ending

-- a number of a line has 32 bits, and a user's name is a word
abbrev pub IsWish : Wish → Type 0
IsWish (Lines report from) = from < 2 ^ 32
IsWish (OpenGate user) = IsTrue (is_word user)
IsWish Ending = Unit {0}

-- whether the node or its store is different afterwards
abbrev pub changes : Wish → Bool
changes (Lines report from) = false
changes (OpenGate user) = true
changes Ending = true

-- the word of a report
abbrev pub report_word : Report → List ℕ
report_word Status = codes "STATUS"
report_word Gates = codes "GATES"
report_word Floors = codes "FLOORS"
report_word Passes = codes "PASSES"
report_word Roster = codes "ROSTER"

-- the text of a request
abbrev pub request_text : Wish → List ℕ
request_text (Lines report from) = report_word report ++ codes " " ++ decimal from
request_text (OpenGate user) = codes "UNLOCK " ++ user
request_text Ending = codes "DRAIN"

-- ---- the reader

-- the report of a word, or None
abbrev pub report_of : List ℕ → Option Report
report_of word =
    if bytes_eq word (codes "STATUS") then Some Status
    else if bytes_eq word (codes "GATES") then Some Gates
    else if bytes_eq word (codes "FLOORS") then Some Floors
    else if bytes_eq word (codes "PASSES") then Some Passes
    else if bytes_eq word (codes "ROSTER") then Some Roster
    else None

-- the wish for the lines of a report, if its word and the number are there
abbrev pub lines_of : Option Report → Option ℕ → Option Wish
lines_of None from = None
lines_of (Some report) from = option_map (Lines report) from

-- the wish for a user's open gate, if the name is a word
abbrev pub unlock_of : List ℕ → Option Wish
unlock_of user = if is_word user then Some (OpenGate user) else None

-- the wish of a word and its field, or None
abbrev pub wish_with : List ℕ → List ℕ → Option Wish
wish_with word field =
    if bytes_eq word (codes "UNLOCK") then unlock_of field
    else lines_of (report_of word) (line_number field)

-- the wish of a text that is cut at its first space, or None
abbrev pub wish_at : List ℕ → Option Halves → Option Wish
wish_at text None = if bytes_eq text (codes "DRAIN") then Some Ending else None
wish_at text (Some halves) = wish_with halves.before halves.behind

-- the wish of a text, or None if it is no request
abbrev pub request_at : List ℕ → Option Wish
request_at text = wish_at text (halves_of 32 text)

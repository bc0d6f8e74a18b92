-- The table of a cluster's members, from the texts of their states. The text of a member that didn't tell its state is
-- empty.
use Rattle.std.specs.Prelude.{ℕ, ◌+◌, ◌/◌, ◌==◌, ◌&&◌, nat_lt, not, Bool, true, false, List, [], ◌∷◌, ◌++◌, length, count_by, find, Option, None, Some, codes, if◌then◌else◌}
use Rattle.std.specs.Fmt.{decimal}
use Rattle.std.specs.List.{list_all, slice_split}
use Rattle.std.specs.Str.{bytes_eq}
use Rattle.field_text.specs.Cut.{Halves, halves_of}
use Rattle.oathd_asking.specs.declared.table.Health.{Health}
use Rattle.oathd_asking.specs.declared.table.Health.TheVariants as healths
use Rattle.oathd_asking.specs.declared.table.Note.{Note}
use Rattle.oathd_asking.specs.declared.table.Note.TheVariants.{Well, HearsNotAll, BookDiffers, FingerprintDiffers, Silent}

-- ---- The lines of a state

-- the lines of the parts between LFs: what follows the last LF is none
abbrev pub lines_of : List (List ℕ) → List (List ℕ)
lines_of [] = []
lines_of (part ∷ []) = []
lines_of (part ∷ next ∷ parts) = part ∷ lines_of (next ∷ parts)

-- the lines of a text, without their LFs
abbrev pub lines_in : List ℕ → List (List ℕ)
lines_in text = lines_of (slice_split (λ byte. byte == 10) text)

-- what follows the first word of a line that is cut in two behind it, if it is the word
abbrev pub fields_in : List ℕ → Option Halves → Option (List ℕ)
fields_in word None = None
fields_in word (Some halves) = if bytes_eq halves.before word then Some halves.behind else None

-- these fields, or other ones
abbrev pub fields_or : Option (List ℕ) → List ℕ → List ℕ
fields_or None other = other
fields_or (Some fields) other = fields

-- what follows the word in the first line that begins with it, or `-`
abbrev pub field_in : List ℕ → List (List ℕ) → List ℕ
field_in word [] = codes "-"
field_in word (line ∷ lines) = fields_or (fields_in word (halves_of 32 line)) (field_in word lines)

-- the same of a text
abbrev pub field_of : List ℕ → List ℕ → List ℕ
field_of text word = field_in word (lines_in text)

-- `heard` and more
abbrev pub begins_with_heard : Option Halves → Bool
begins_with_heard None = false
begins_with_heard (Some halves) = bytes_eq halves.before (codes "heard")

-- a number, `heard` and more
abbrev pub says_heard : Option Halves → Bool
says_heard None = false
says_heard (Some halves) = begins_with_heard (halves_of 32 halves.behind)

-- `member`, a number, `heard` and more
abbrev pub member_is_heard : Option Halves → Bool
member_is_heard None = false
member_is_heard (Some halves) = bytes_eq halves.before (codes "member") && says_heard (halves_of 32 halves.behind)

-- whether a line says that a member is heard
abbrev pub is_heard : List ℕ → Bool
is_heard line = member_is_heard (halves_of 32 line)

-- the number of members that a line says to be heard
abbrev pub heard_at : List ℕ → ℕ
heard_at line = if is_heard line then 1 else 0

-- the number of members that lines say to be heard
abbrev pub heard_in : List (List ℕ) → ℕ
heard_in [] = 0
heard_in (line ∷ lines) = heard_at line + heard_in lines

-- the number of members that a node hears, itself included
abbrev pub heard_of : List ℕ → ℕ
heard_of text = 1 + heard_in (lines_in text)

-- ---- What is said of members

-- whether a member told its state
abbrev pub is_told : List ℕ → Bool
is_told text = not (length text == 0)

-- a text, if there is one
abbrev pub text_or_none : Option (List ℕ) → List ℕ
text_or_none None = []
text_or_none (Some text) = text

-- the state of the first member that told it
abbrev pub first_of : List (List ℕ) → List ℕ
first_of texts = text_or_none (find is_told texts)

-- whether two states differ in what follows a word
abbrev pub differs : List ℕ → List ℕ → List ℕ → Bool
differs word one other = not (bytes_eq (field_of one word) (field_of other word))

-- what is said of a member's state beside that of the first
abbrev pub note_of : List ℕ → ℕ → List ℕ → Note
note_of first members text =
    if length text == 0 then Silent
    else if differs (codes "fingerprint") text first then FingerprintDiffers
    else if differs (codes "book") text first then BookDiffers
    else if nat_lt (heard_of text) members then HearsNotAll
    else Well

-- whether nothing is wrong with a member
abbrev pub is_well : Note → Bool
is_well Well = true
is_well note = false

-- whether nothing is wrong with any member
abbrev pub are_well : List (List ℕ) → Bool
are_well texts = list_all (λ text. is_well (note_of (first_of texts) (length texts) text)) texts

-- Each member is well, or a majority of them told their states, or not even that.
abbrev pub health_of : List (List ℕ) → Health
health_of texts =
    if are_well texts then healths.Well
    else if nat_lt (length texts / 2) (count_by is_told texts) then healths.Degraded
    else healths.NoMajority

-- ---- The text of a table

-- the words of a note
abbrev pub note_text : Note → List ℕ
note_text Well = codes "ok"
note_text HearsNotAll = codes "hears not all"
note_text BookDiffers = codes "book differs"
note_text FingerprintDiffers = codes "fingerprint differs"
note_text Silent = codes "silent"

-- how many members are heard of how many
unfoldable pub heard_text : ℕ → ℕ → List ℕ
heard_text heard members = codes " " ++ decimal heard ++ codes "/" ++ decimal members ++ codes " "

-- the number of a member, its boot, and how many members it hears
unfoldable pub begin_text : ℕ → ℕ → List ℕ → List ℕ
begin_text number members text =
    decimal number ++ codes " " ++ field_of text (codes "boot") ++ heard_text (heard_of text) members

-- its tokens, fingerprint and book
unfoldable pub prints_text : List ℕ → List ℕ
prints_text text =
    field_of text (codes "tokens") ++ codes " " ++ field_of text (codes "fingerprint") ++ codes " "
    ++ field_of text (codes "book") ++ codes " "

-- the row of a member that told its state
unfoldable pub told_text : ℕ → ℕ → List ℕ → Note → List ℕ
told_text number members text note = begin_text number members text ++ prints_text text ++ note_text note ++ codes "\n"

-- the row of a member that didn't
unfoldable pub silent_text : ℕ → List ℕ
silent_text number = decimal number ++ codes " - - - - - silent\n"

-- the row of a member with a note
abbrev pub row_with : ℕ → ℕ → List ℕ → Note → List ℕ
row_with number members text Silent = silent_text number
row_with number members text note = told_text number members text note

-- the row of a member
abbrev pub row_text : List ℕ → ℕ → ℕ → List ℕ → List ℕ
row_text first members number text = row_with number members text (note_of first members text)

-- the rows of members from a number on
abbrev pub rows_text : List ℕ → ℕ → ℕ → List (List ℕ) → List ℕ
rows_text first members number [] = []
rows_text first members number (text ∷ texts) =
    row_text first members number text ++ rows_text first members (number + 1) texts

-- the table
abbrev pub table_text : List (List ℕ) → List ℕ
table_text texts =
    codes "node boot heard tokens fingerprint book note\n" ++ rows_text (first_of texts) (length texts) 1 texts

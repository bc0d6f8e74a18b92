-- The book of a users file: its rows in order. The first fault of the first faulty line decides. Floor: the first free
-- factor of a token.
use Rattle.std.specs.Prelude.{◌≡◌, ℕ, ◌+◌, Bool, true, false, nat_lt, nat_le, is_some, List, [], ◌∷◌, ◌++◌, length, take, Option, Some, None, Result, Ok, Err, if◌then◌else◌}
use Rattle.otp_core.specs.Limits.{Limits}
use Rattle.token_file.specs.declared.fault.LineFault.{LineFault}
use Rattle.token_file.specs.declared.fault.LineFault.TheVariants.{MissingField, BadSecret, BadCounter, DuplicateUser, NameTooLong, TooMany, LineTooLong, Read, Memory, FileTooLong}
use Rattle.token_file.specs.declared.fault.FileFault.{FileFault}
use Rattle.token_file.specs.Credential.{Credential, place_of}
use Rattle.token_file.specs.Fields.{lines_of, fields_of}
use Rattle.token_file.specs.Row.{Row, Ignored, Faulty, Holds, row_of, first_free}

-- the tokens of some rows, and their floors
pub record Import : Type 0 where
  pub book : List Credential
  pub floors : List ℕ

-- the import of a book and its floors
abbrev pub import_of : List Credential → List ℕ → Import
import_of book floors = record { book = book; floors = floors }

-- the import of no rows
abbrev pub empty_import : Import
empty_import = record { book = []; floors = [] }

-- the moment of an import, and the skew of the server
pub record Instant : Type 0 where
  pub skew : ℕ
  pub moment : ℕ

-- the instant of a moment under a server's settings
abbrev pub instant_of : Limits → ℕ → Instant
instant_of settings moment = record { skew = settings.skew; moment = moment }

-- an import after one more token: its name must be new, and there must be room for it
abbrev pub after_token : Instant → Import → Credential → ℕ → Option (List ℕ) → Result Import LineFault
after_token at so_far credential counter last =
    if is_some (place_of credential.name so_far.book) then Err DuplicateUser
    else if nat_le 10000 (length so_far.book) then Err TooMany
    else Ok (record {
      book = so_far.book ++ credential ∷ [];
      floors = so_far.floors ++ first_free at.skew at.moment credential counter last ∷ [];
    })

-- an import after one more row
abbrev pub after_row : Instant → Import → Row → Result Import LineFault
after_row at so_far Ignored = Ok so_far
after_row at so_far (Faulty fault) = Err fault
after_row at so_far (Holds credential counter last) = after_token at so_far credential counter last

-- an import after one more line, of at most 4,096 bytes
abbrev pub after_line : Instant → Import → List ℕ → Result Import LineFault
after_line at so_far line =
    if nat_lt 4096 (length line) then Err LineTooLong else after_row at so_far (row_of (fields_of line))

-- an import after the last line, which the end of the text or a fault cuts off
abbrev pub after_last : Option LineFault → Instant → Import → List ℕ → Result Import LineFault
after_last None at so_far line = after_line at so_far line
after_last (Some fault) at so_far line = if nat_lt 4096 (length line) then Err LineTooLong else Err fault

-- an outcome with the line number of a fault
abbrev pub at_line : ℕ → Result Import LineFault → Result Import (ℕ × LineFault)
at_line number (Ok import) = Ok import
at_line number (Err fault) = Err (number, fault)

-- the outcome of the next part, or the earlier fault
abbrev pub outcome_then :
    Result Import (ℕ × LineFault) → (Import → Result Import (ℕ × LineFault)) → Result Import (ℕ × LineFault)
outcome_then (Ok import) next = next import
outcome_then (Err fault) next = Err fault

-- the outcome of the lines from a number on, after an import so far
abbrev pub after_lines : Option LineFault → Instant → ℕ → Import → List (List ℕ) → Result Import (ℕ × LineFault)
after_lines cut at number so_far [] = Ok so_far
after_lines cut at number so_far (line ∷ []) = at_line number (after_last cut at so_far line)
after_lines cut at number so_far (line ∷ next ∷ lines) =
    outcome_then (at_line number (after_line at so_far line))
    (λ import. after_lines cut at (number + 1) import (next ∷ lines))

-- the outcome of a text of at most `limit` bytes, which a fault cuts off or, with None, ends
abbrev pub outcome_of : Option LineFault → ℕ → Instant → List ℕ → Result Import (ℕ × LineFault)
outcome_of cut limit at text =
    if nat_le (length text) limit then after_lines cut at 1 empty_import (lines_of text)
    else after_lines (Some FileTooLong) at 1 empty_import (lines_of (take limit text))

-- the book and the floors of a whole text, or its first fault with the line
abbrev pub book_of : ℕ → Instant → List ℕ → Result Import (ℕ × LineFault)
book_of limit at text = outcome_of None limit at text

-- whether a fault is one of the text, not of a pull or of the memory
abbrev pub is_of_text : LineFault → Bool
is_of_text MissingField = true
is_of_text BadSecret = true
is_of_text BadCounter = true
is_of_text DuplicateUser = true
is_of_text NameTooLong = true
is_of_text TooMany = true
is_of_text LineTooLong = true
is_of_text FileTooLong = true
is_of_text Read = false
is_of_text Memory = false

-- whether a fault is a failed pull
abbrev pub is_read : LineFault → Bool
is_read MissingField = false
is_read BadSecret = false
is_read BadCounter = false
is_read DuplicateUser = false
is_read NameTooLong = false
is_read TooMany = false
is_read LineTooLong = false
is_read FileTooLong = false
is_read Memory = false
is_read Read = true

-- whether a result has a failed pull
abbrev pub is_read_result : {A : Type 0} → Result A FileFault → Bool
is_read_result (Ok x) = false
is_read_result (Err fault) = is_read fault.kind

-- a fault cuts a text off in the line with a number. No earlier line is faulty, and the part before the cut is not too
-- long.
pub record IsCutOff (cut : LineFault) (limit : ℕ) (at : Instant) (text : List ℕ) (number : ℕ) : Type 0 where
  pub taken : List ℕ
  pub left : List ℕ
  pub parts : text ≡ taken ++ left
  pub outcome : outcome_of (Some cut) limit at taken ≡ Err (number, cut)

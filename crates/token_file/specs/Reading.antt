-- The outcome of the rest of a text, after a part of it was read. Only private contracts (src/reading.rt) cite these
-- definitions, as steps of the proof of `read_book`: nothing public rests on them.
use Rattle.std.specs.Prelude.{◌≡◌, ℕ, ◌+◌, nat_le, false, IsTrue, List, [], ◌∷◌, ◌++◌, length, take, Option, Some, Result, Err, if◌then◌else◌}
use Rattle.token_file.specs.declared.fault.LineFault.{LineFault}
use Rattle.token_file.specs.declared.fault.LineFault.TheVariants.{Memory, FileTooLong}
use Rattle.token_file.specs.declared.fault.FileFault.{FileFault}
use Rattle.token_file.specs.Fields.{lines_of}
use Rattle.token_file.specs.UsersFile.{Import, Instant, after_lines, empty_import, is_of_text, is_read}

-- the lines, the first of them after the bytes of it that were read
abbrev pub onto_line : List ℕ → List (List ℕ) → List (List ℕ)
onto_line begun [] = begun ∷ []
onto_line begun (line ∷ lines) = (begun ++ line) ∷ lines

-- the outcome of a text after the bytes `begun` of the line `number`, after the import `so_far`
abbrev pub outcome_of_rest : Option LineFault → Instant → ℕ → Import → List ℕ → List ℕ → Result Import (ℕ × LineFault)
outcome_of_rest cut at number so_far begun text = after_lines cut at number so_far (onto_line begun (lines_of text))

-- the part that was read: whole lines, and bytes of the line with a number; `room` more bytes may be read
pub record Progress : Type 0 where
  pub number : ℕ
  pub import : Import
  pub begun : List ℕ
  pub room : ℕ

-- nothing is read, and at most `limit` bytes may be
abbrev pub initial_progress : ℕ → Progress
initial_progress limit = record { number = 1; import = empty_import; begun = []; room = limit }

-- the outcome of a text of any length after the part that was read
abbrev pub outcome_of_rest_from : Option LineFault → Instant → Progress → List ℕ → Result Import (ℕ × LineFault)
outcome_of_rest_from cut at progress text = outcome_of_rest cut at progress.number progress.import progress.begun text

-- the outcome of a text after the part that was read, cut off if it is longer than the room
abbrev pub outcome_from : Option LineFault → Instant → Progress → List ℕ → Result Import (ℕ × LineFault)
outcome_from cut at progress text =
    if nat_le (length text) progress.room then outcome_of_rest_from cut at progress text
    else outcome_of_rest_from (Some FileTooLong) at progress (take progress.room text)

-- the bytes lead from the progress `old` to the progress `new`, whatever follows them
pub record Leads (at : Instant) (old : Progress) (bytes : List ℕ) (new : Progress) : Type 0 where
  pub outcomes : (cut : Option LineFault) (rest : List ℕ) →
      outcome_from cut at old (bytes ++ rest) ≡ outcome_from cut at new rest
  pub room : length bytes + new.room ≡ old.room
  pub paired : length old.import.floors ≡ length old.import.book → length new.import.floors ≡ length new.import.book

-- a fault within the bytes cuts off the rest
pub record CutsOff (cut : LineFault) (at : Instant) (old : Progress) (bytes : List ℕ) (number : ℕ) : Type 0 where
  pub front : List ℕ
  pub back : List ℕ
  pub parts : bytes ≡ front ++ back
  pub outcome : outcome_from (Some cut) at old front ≡ Err (number, cut)

-- the bytes have a fault, whatever follows them
pub record Fails (at : Instant) (old : Progress) (bytes : List ℕ) (fault : FileFault) : Type 0 where
  pub text : IsTrue (is_of_text fault.kind) → (cut : Option LineFault) (rest : List ℕ) →
      outcome_from cut at old (bytes ++ rest) ≡ Err (fault.line, fault.kind)
  pub memory : fault.kind ≡ Memory → CutsOff Memory at old bytes fault.line
  pub unread : is_read fault.kind ≡ false

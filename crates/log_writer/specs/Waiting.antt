-- What a log that waits for its writer holds, and the lines that it lost.
use Rattle.std.specs.Prelude.{◌≡◌, ◌<◌, ◌≤◌, ℕ, zero, suc, ◌+◌, ◌-◌, ◌^◌, ◌==◌, ◌&&◌, min, nat_lt, not, Bool, true, false, List, [], ◌∷◌, ◌++◌, length, take, drop, slice_get, count_by, codes, Option, Some, None}
use Rattle.std.specs.Fmt.{decimal}
use Rattle.std.specs.Io.KnownBytes.{Appends}
use Rattle.log_writer.specs.Line.{first_end, is_end, max_line, with_bytes}

-- The line that has no LF yet, the whole lines that wait with their LFs, the number of lines that were lost since a
-- line told of such, and whether the text below ends within a line.
pub record WaitingRecord : Type 0 where
  pub line : List ℕ
  pub lines : List ℕ
  pub dropped : ℕ
  pub is_cut : Bool

-- nothing waits, and nothing was lost
abbrev pub new_waiting : WaitingRecord
new_waiting = record { line = []; lines = []; dropped = 0; is_cut = false }

-- ---- what is told

-- the line gets its LF and waits
abbrev pub with_end : WaitingRecord → WaitingRecord
with_end waiting = record waiting { line = []; lines = waiting.lines ++ waiting.line ++ 10 ∷ [] }

-- what waits after bytes with their first LF at a place, or without one
abbrev pub told_at : Option ℕ → List ℕ → WaitingRecord → WaitingRecord
told_at None bytes waiting = record waiting { line = with_bytes waiting.line bytes }
told_at (Some place) bytes waiting =
    with_end (record waiting { line = with_bytes waiting.line (take place bytes) })

-- what waits after a write, which takes the bytes through their first LF
abbrev pub after_write : List ℕ → WaitingRecord → WaitingRecord
after_write bytes waiting = told_at (first_end bytes) bytes waiting

-- ---- what is handed on

-- the number of bytes of whole lines that wait at most
abbrev pub room : ℕ
room = 8192

-- whether there may be no room for one more line
abbrev pub is_full : WaitingRecord → Bool
is_full waiting = nat_lt (room - max_line - 1) (length waiting.lines)

-- whether nothing is to be said
abbrev pub is_quiet : WaitingRecord → Bool
is_quiet waiting = (length waiting.lines == 0) && (waiting.dropped == 0)

-- a line that was cut is ended
abbrev pub cut_text : Bool → List ℕ
cut_text true = 10 ∷ []
cut_text false = []

-- the line of lost lines
abbrev pub dropped_line : ℕ → List ℕ
dropped_line number = codes "dropped lines=" ++ decimal number ++ codes "\n"

-- the line of lost lines, if there are any
unfoldable pub dropped_text : ℕ → List ℕ
dropped_text zero = []
dropped_text (suc number) = dropped_line (suc number)

-- the text before the whole lines: the end of a cut line, and the number of lines that were lost
abbrev pub before : WaitingRecord → List ℕ
before waiting = cut_text waiting.is_cut ++ dropped_text waiting.dropped

-- the number of lines that end in a text
abbrev pub count_ends : List ℕ → ℕ
count_ends text = count_by is_end text

-- a number of 64 bits
abbrev pub counted : ℕ → ℕ
counted number = min number (2 ^ 64 - 1)

-- whether a text with the given last byte, after another one, ends within a line
abbrev pub is_cut_at : Option ℕ → Bool → Bool
is_cut_at None is_cut = is_cut
is_cut_at (Some byte) is_cut = not (is_end byte)

-- whether the text below ends within a line after it took some bytes
abbrev pub is_cut_after : List ℕ → Bool → Bool
is_cut_after bytes is_cut = is_cut_at (slice_get bytes (length bytes - 1)) is_cut

-- The number of lost lines, by whether the writer took all of the text before the lines, and the number of bytes of the
-- lines that it took. A line is lost if its LF was not taken. If the text before the lines was not taken, its number
-- stays.
abbrev pub dropped_at : WaitingRecord → Bool → ℕ → ℕ
dropped_at waiting true passed = count_ends (drop passed waiting.lines)
dropped_at waiting false passed = counted (waiting.dropped + count_ends waiting.lines)

-- what waits after the writer took them: the line without an LF
abbrev pub handed : WaitingRecord → ℕ → ℕ → WaitingRecord
handed waiting told passed = record {
  line = waiting.line;
  lines = [];
  dropped = dropped_at waiting (told == length (before waiting)) passed;
  is_cut = is_cut_after (take passed waiting.lines) (is_cut_after (take told (before waiting)) waiting.is_cut);
}

-- A writer takes `told` bytes of a text and then `passed` of another one: none of that one if it did not take all
-- before.
pub record IsTaken (before lines : List ℕ) (told passed : ℕ) (below_old below_new : Option (List ℕ)) : Type 0 where
  pub is_told : told ≤ length before
  pub is_passed : passed ≤ length lines
  pub in_order : told < length before → passed ≡ 0
  pub below : Appends below_old below_new (take told before ++ take passed lines)

-- The whole lines that wait are handed to the writer below, after the text before them. It takes as many bytes as it
-- does.
pub record IsHanded (old new : WaitingRecord) (below_old below_new : Option (List ℕ)) : Type 0 where
  pub told : ℕ
  pub passed : ℕ
  pub taken : IsTaken (before old) old.lines told passed below_old below_new
  pub waits : new ≡ handed old told passed

-- What a write does: if there may be no room for one more line, the whole lines are handed on first.
pub record IsWritten (old new : WaitingRecord) (below_old below_new : Option (List ℕ)) (bytes : List ℕ) : Type 0 where
  pub between : WaitingRecord
  pub handed_on : IsHanded old between below_old below_new
  pub waits : new ≡ after_write bytes between

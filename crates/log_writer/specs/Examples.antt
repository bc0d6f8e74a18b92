-- Lines that wait, and what a writer took of them.
use Rattle.std.specs.Prelude.{ℕ, Bool, false, List, [], codes}
use Rattle.log_writer.specs.Waiting.{WaitingRecord}

-- these whole lines wait, after a number of lines that were lost, and the text below may end within a line
abbrev pub waiting_of : List ℕ → ℕ → Bool → WaitingRecord
waiting_of lines dropped is_cut = record { line = []; lines = lines; dropped = dropped; is_cut = is_cut }

-- the lines `a` and `bc`
abbrev pub two : List ℕ
two = codes "a\nbc\n"

-- these bytes of a line came
abbrev pub begun : List ℕ → WaitingRecord
begun line = record { line = line; lines = two; dropped = 0; is_cut = false }

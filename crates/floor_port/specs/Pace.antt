-- How many floors are told at a quiet turn.
use Rattle.std.specs.Prelude.{ℕ, ◌+◌, ◌-◌, ◌/◌, ◌==◌, nat_lt, min, if◌then◌else◌, List, map, slice_index, slice_set, replicate}

-- the quiet turns that are left until each member is silent, from member 0 to 9, and those of a fast round
pub record PaceRecord : Type 0 where
  pub until_silent : List ℕ
  pub fast : ℕ

-- the quiet turns of a fast round over a number of rows
abbrev pub round_of : ℕ → ℕ
round_of rows = rows / 200 + 1

-- the pace at the start: all members are silent, and a fast round begins
abbrev pub new_pace : ℕ → PaceRecord
new_pace rows = record { until_silent = replicate 10 0; fast = round_of rows }

-- the pace after a member was heard: if it was silent, a fast round begins
abbrev pub after_heard : PaceRecord → ℕ → ℕ → PaceRecord
after_heard pace member rows =
    if nat_lt member 10
    then record {
      until_silent = slice_set pace.until_silent member 25;
      fast = if slice_index pace.until_silent member == 0 then round_of rows else pace.fast;
    }
    else pace

-- the pace after a quiet turn
abbrev pub after_quiet : PaceRecord → PaceRecord
after_quiet pace =
    record { until_silent = map (λ number. number - 1) pace.until_silent; fast = pace.fast - 1 }

-- the datagrams that are due for each member at a quiet turn, if all rows take the given number: 10 in a fast round
abbrev pub due : PaceRecord → ℕ → ℕ
due pace turns = min (if pace.fast == 0 then 1 else 10) turns

-- Small rosters, and lists of tokens. No contract cites them.
use Rattle.std.specs.Prelude.{List, [], ◌∷◌}
use Rattle.roster_sql.specs.Examples.{entry_of}
use Rattle.roster_sql.specs.declared.entry.Entry.{Entry}

-- three rows; the first and the last one have one seed
abbrev pub retired : List Entry
retired = entry_of 1 1 ∷ entry_of 3 4 ∷ entry_of 5 1 ∷ []

-- the tokens of the last row and the first one
abbrev pub known : List Entry
known = entry_of 5 1 ∷ entry_of 1 1 ∷ []

-- a new token, the one of the first row, and another new one
abbrev pub two_new : List Entry
two_new = entry_of 8 1 ∷ entry_of 1 1 ∷ entry_of 9 1 ∷ []

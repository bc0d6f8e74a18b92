-- What a port tells of the members: lists from member 0, which there is not, to member 9.
use Rattle.std.specs.Prelude.{ℕ, Bool, false, true, List, replicate, slice_set}

-- no member
abbrev pub nobody : List Bool
nobody = replicate 10 false

-- one member alone
abbrev pub only : ℕ → List Bool
only number = slice_set nobody number true

-- No member was heard: the greatest boot in which each was heard is 0.
abbrev pub nobody_heard : List ℕ
nobody_heard = replicate 10 0

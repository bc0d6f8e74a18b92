-- Worked cases: the states of members, and the ends of surveys.
use Rattle.std.specs.Prelude.{ℕ, List, [], ◌∷◌, ◌++◌, Result, Ok, Err, codes}
use Rattle.oathd_asking.specs.Fault.{status_of}
use Rattle.oathd_asking.specs.declared.fault.AskFault.{AskFault}

-- the prints of a node
abbrev pub prints : List ℕ
prints = codes "fingerprint f\nbook b\n"

-- a node that hears another one
abbrev pub hears_one : List ℕ
hears_one = prints ++ codes "member 2 heard 0\nmember 3 silent\n"

-- a node that hears two others
abbrev pub hears_two : List ℕ
hears_two = prints ++ codes "member 2 heard 0\nmember 3 heard 1\n"

-- a node with another book
abbrev pub other_book : List ℕ
other_book = codes "fingerprint f\nbook c\nmember 1 heard 0\nmember 3 heard 1\n"

-- a node with another fingerprint
abbrev pub other_fingerprint : List ℕ
other_fingerprint = codes "fingerprint g\nbook b\nmember 1 heard 0\nmember 3 heard 1\n"

-- the exit status of a command to running nodes
abbrev pub end_status : Result Unit AskFault → ℕ
end_status (Ok done) = 0
end_status (Err fault) = status_of fault

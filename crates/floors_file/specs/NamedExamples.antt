-- Worked cases: floors files by names and their content.
use Rattle.std.specs.Prelude.{ℕ, List, [], ◌∷◌, ◌++◌, replicate, codes, Result}
use Rattle.token_file.specs.Fields.{lines_of}
use Rattle.floors_file.specs.declared.fault.LineFault.{LineFault}
use Rattle.floors_file.specs.declared.named.HeardBoot.{HeardBoot}
use Rattle.floors_file.specs.declared.named.NamedFloor.{NamedFloor}
use Rattle.floors_file.specs.Examples.{text_of}
use Rattle.floors_file.specs.Named.{NamedFloorsRecord, NamedHeadRecord}
use Rattle.floors_file.specs.NamedReading.{named_of_lines}

-- the content of lines, without a MAC
abbrev pub named_said_by : List (List ℕ) → Result NamedFloorsRecord (ℕ × LineFault)
named_said_by lines = named_of_lines (lines_of (text_of lines))

-- the content of a first line alone
abbrev pub named_said_by_first : List ℕ → Result NamedFloorsRecord (ℕ × LineFault)
named_said_by_first line = named_said_by (line ∷ [])

-- the content of the row of one name
abbrev pub named_said_by_row : List ℕ → Result NamedFloorsRecord (ℕ × LineFault)
named_said_by_row row = named_said_by (codes "floors 2 2 3 7 5 1 names-of-site-1 11a" ∷ row ∷ [])

-- the content of a line after the rows
abbrev pub named_said_by_heard : List ℕ → Result NamedFloorsRecord (ℕ × LineFault)
named_said_by_heard line = named_said_by (codes "floors 2 2 3 7 5 0 names-of-site-1 11a" ∷ line ∷ [])

-- the name of 16 bytes 0xaa
abbrev pub name_a : List ℕ
name_a = replicate 16 0xaa

-- the name of 16 bytes 0xbb
abbrev pub name_b : List ℕ
name_b = replicate 16 0xbb

-- the name of 16 bytes 0
abbrev pub name_0 : List ℕ
name_0 = replicate 16 0

-- the digits of `name_a`: 32 times `a`
abbrev pub digits_a : List ℕ
digits_a = replicate 32 97

-- the digits of `name_b`: 32 times `b`
abbrev pub digits_b : List ℕ
digits_b = replicate 32 98

-- the digits of `name_0`: 32 times `0`
abbrev pub digits_0 : List ℕ
digits_0 = replicate 32 48

-- the seed of 16 bytes 0xcc
abbrev pub seed_c : List ℕ
seed_c = replicate 16 0xcc

-- the seed of 16 bytes 0xdd
abbrev pub seed_d : List ℕ
seed_d = replicate 16 0xdd

-- the seed of 16 bytes 0xee
abbrev pub seed_e : List ℕ
seed_e = replicate 16 0xee

-- the digits of `seed_c`: 32 times `c`
abbrev pub digits_c : List ℕ
digits_c = replicate 32 99

-- the digits of `seed_d`: 32 times `d`
abbrev pub digits_d : List ℕ
digits_d = replicate 32 100

-- a row
abbrev pub named_row : List ℕ → List ℕ → ℕ → NamedFloor
named_row name seed next = record { name = name; seed = seed; next = next }

-- the line of a row: the digits of its name and of its seed, and what follows
abbrev pub row_line : List ℕ → List ℕ → List ℕ → List ℕ
row_line name seed rest = name ++ 32 ∷ seed ++ 32 ∷ rest

-- the line of `name_a` with `seed_c`, and what follows
abbrev pub line_a : List ℕ → List ℕ
line_a rest = row_line digits_a digits_c rest

-- the line of `name_b` with `seed_d`, and what follows
abbrev pub line_b : List ℕ → List ℕ
line_b rest = row_line digits_b digits_d rest

-- a boot that was heard
abbrev pub heard_boot : ℕ → ℕ → HeardBoot
heard_boot member boot = record { member = member; boot = boot }

-- the head of a node of three, at boot 7 and a moment
abbrev pub named_head_at : ℕ → ℕ → NamedHeadRecord
named_head_at node moment =
    record { node = node; members = 3; boot = 7; moment = moment; names = codes "names-of-site-1"; life = codes "11a" }

-- the floors of a node of three, at boot 7 and moment 100
abbrev pub named_floors_at : ℕ → List NamedFloor → List HeardBoot → NamedFloorsRecord
named_floors_at node rows heard = record { head = named_head_at node 100; rows = rows; heard = heard }

-- the floors of node 1, which heard node 3
abbrev pub first_named_floors : NamedFloorsRecord
first_named_floors =
    named_floors_at 1 (named_row name_a seed_c 5 ∷ named_row name_b seed_d 0 ∷ []) (heard_boot 3 7 ∷ [])

-- the floors of node 2, with the names in another order, another seed of `name_a`, and one more name
abbrev pub second_named_floors : NamedFloorsRecord
second_named_floors =
    named_floors_at 2 (named_row name_b seed_d 3 ∷ named_row name_a seed_e 4 ∷ named_row name_0 seed_c 9 ∷ [])
    (heard_boot 1 6 ∷ heard_boot 3 5 ∷ [])

-- the floors of a node without a row, with a given head
abbrev pub with_head : NamedHeadRecord → NamedFloorsRecord
with_head head = record { head = head; rows = []; heard = [] }

-- the floors of a node of a cluster with another names word
abbrev pub of_other_names : NamedFloorsRecord
of_other_names = with_head (record (named_head_at 2 100) { names = codes "names-of-site-2" })

-- the floors of a node of a cluster in another life
abbrev pub of_other_life : NamedFloorsRecord
of_other_life = with_head (record (named_head_at 2 100) { life = codes "11b" })

-- the floors of a node of a cluster in a life that differs by the case of a letter
abbrev pub of_other_letters : NamedFloorsRecord
of_other_letters = with_head (record (named_head_at 2 100) { life = codes "11A" })

-- the floors of a node of a cluster with another number of members
abbrev pub of_other_members : NamedFloorsRecord
of_other_members = with_head (record (named_head_at 2 100) { members = 4 })

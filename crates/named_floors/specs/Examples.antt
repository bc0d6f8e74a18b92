-- Worked cases: gathered rows and entries of two tokens, a telling node, and a store.
use Rattle.std.specs.Prelude.{ℕ, List, [], ◌∷◌, Some, replicate}
use Rattle.floor_store.specs.Broken.{SmallStore, holding}
use Rattle.floor_store.specs.Content.{Content}
use Rattle.floor_store.specs.declared.fault.StoreFault.TheVariants.{Disk}
use Rattle.floors_file.specs.declared.named.NamedFloor.{NamedFloor}
use Rattle.floors_file.specs.NamedExamples.{named_row}
use Rattle.roster_sql.specs.Examples.{entry_of}
use Rattle.roster_sql.specs.declared.entry.Entry.{Entry}
use Rattle.named_floors.specs.Told.{TellingRecord}

-- 16 times a byte: a name, a seed or a word
abbrev pub name_of : ℕ → List ℕ
name_of byte = replicate 16 byte

-- a gathered row, whose name and seed have 16 times a byte
abbrev pub row_of : ℕ → ℕ → ℕ → NamedFloor
row_of name seed next = named_row (name_of name) (name_of seed) next

-- two gathered rows
abbrev pub gathered_two : List NamedFloor
gathered_two = row_of 1 2 10 ∷ row_of 3 7 20 ∷ []

-- the entries of the second gathered row, with another seed, and of a new token
abbrev pub own_two : List Entry
own_two = entry_of 3 4 ∷ entry_of 5 6 ∷ []

-- a node of three at moment 100
abbrev pub telling : ℕ → TellingRecord
telling node = record { node = node; members = 3; moment = 100; names = name_of 110; life = name_of 108 }

-- a store of the content alone, broken by the disk at its first failure
abbrev pub failing : Content → SmallStore
failing content = record (holding content) { fault = Some Disk; failures = 1 }

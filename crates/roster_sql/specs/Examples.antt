-- Small rosters, and small stores of version 3.
use Rattle.std.specs.Prelude.{ℕ, ◌==◌, pos, List, [], ◌∷◌, None, codes, replicate, if◌then◌else◌}
use Rattle.sqlite.specs.Effect.{Database}
use Rattle.sqlite.specs.Order.{Row}
use Rattle.sqlite.specs.Tree.{Trees}
use Rattle.floor_store.specs.Content.{Content, opening_row}
use Rattle.floor_sql.specs.Broken.{trees_of}
use Rattle.floor_sql.specs.Schema.{schema_of}
use Rattle.floor_sql.specs.Stored.{drift_row, floor_row, version_row}
use Rattle.floor_sql.specs.declared.schema.Format.TheVariants.{Named}
use Rattle.roster_sql.specs.Enrolled.{Enrols}
use Rattle.roster_sql.specs.Roster.{BondRecord, bond_row, entry_row}
use Rattle.roster_sql.specs.declared.entry.Entry.{Entry}

-- an entry whose name and whose seed have one byte throughout
abbrev pub entry_of : ℕ → ℕ → Entry
entry_of name seed = record { name = replicate 16 name; seed = replicate 16 seed }

-- a bond to a cluster of three members
abbrev pub small_bond : BondRecord
small_bond = record { names = codes "a-public-word"; life = codes "1"; members = 3 }

-- the same with other members
abbrev pub other_bond : BondRecord
other_bond = record small_bond { members = 5 }

-- trees in which `roster` and `bond` have the given rows, and the other tables none
abbrev pub trees_with : List Row → List Row → Trees
trees_with roster bond tree = if tree == 4 then roster else (if tree == 5 then bond else [])

-- the entries of two tokens in order
abbrev pub two_rows : List Row
two_rows = entry_row 0 (entry_of 1 2) ∷ entry_row 1 (entry_of 3 4) ∷ []

-- ---- stores

-- the tables of node 1, of version 3, with the given rows
abbrev pub store_of : Row → List Row → List Row → List Row → BondRecord → Database
store_of self floor drift roster own = record {
  schema = schema_of Named;
  trees = λ tree. if tree == 4 then roster else
      (if tree == 5 then bond_row own ∷ [] else trees_of (self ∷ []) floor [] drift tree);
}

-- the row of `self` of node 1 at boot 4, with the given number of tokens
abbrev pub self_of : ℕ → Row
self_of tokens = version_row 3 1 tokens 4

-- the opening rows of three tokens
abbrev pub three_floors : ℕ → ℕ → ℕ → List Row
three_floors a b c = floor_row 0 (opening_row a) ∷ floor_row 1 (opening_row b) ∷ floor_row 2 (opening_row c) ∷ []

abbrev pub two_drifts : List Row
two_drifts = drift_row 0 (pos 0) ∷ drift_row 1 (pos 0) ∷ []

abbrev pub three_drifts : List Row
three_drifts = drift_row 0 (pos 0) ∷ drift_row 1 (pos 0) ∷ drift_row 2 (pos 0) ∷ []

-- the entries of three tokens
abbrev pub three_entries : List Row
three_entries = entry_row 0 (entry_of 1 2) ∷ entry_row 1 (entry_of 3 4) ∷ entry_row 2 (entry_of 5 6) ∷ []

-- the same, and another seed for the first
abbrev pub other_entries : List Row
other_entries = entry_row 0 (entry_of 1 7) ∷ entry_row 1 (entry_of 3 4) ∷ entry_row 2 (entry_of 5 6) ∷ []

-- a store of one token, and its content
abbrev pub one_token : Database
one_token = store_of (self_of 1) (floor_row 0 (opening_row 9) ∷ []) (drift_row 0 (pos 0) ∷ [])
    (entry_row 0 (entry_of 1 2) ∷ []) small_bond

abbrev pub first_content : Content
first_content = record { rows = opening_row 9 ∷ []; boot = 4; last = None }

-- the same store with two tokens more
abbrev pub three_tokens : Database
three_tokens = store_of (self_of 3) (three_floors 9 5 6) three_drifts three_entries small_bond

-- the tables `new` are of that store of `node` with `tokens` tokens, after two tokens were enrolled
abbrev pub EnrolsTwo : ℕ → ℕ → Database → Type 0
EnrolsTwo node tokens new = Enrols node tokens 0 [] (5 ∷ 6 ∷ []) (entry_of 3 4 ∷ entry_of 5 6 ∷ []) one_token new

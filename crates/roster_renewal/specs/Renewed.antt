-- The replacement of the tables of a store of version 3. A floor is the first free factor of a token at a node.
use Rattle.std.specs.Prelude.{◌≡◌, ◌<◌, ℕ, List, slice_get, Some}
use Rattle.sqlite.specs.Effect.{Database}
use Rattle.floor_store.specs.Content.{opening_content_at}
use Rattle.floor_sql.specs.Staged.{passes_in, with_puts}
use Rattle.floor_sql.specs.declared.put.Put.{Put}
use Rattle.roster_sql.specs.Roster.{BondRecord, HoldsNamed}
use Rattle.roster_sql.specs.declared.entry.Entry.{Entry}

-- each put is of one of the given number of rows
abbrev pub AreOf : ℕ → List Put → Type 0
AreOf rows puts = (i : ℕ) (put : Put) → slice_get puts i ≡ Some put → put.token < rows

-- The new tables are the tables of a store of `node` at `boot`, with the given entries and bond, whatever the old ones
-- were. The content is what the puts make, in order, of opening rows with the given floors. The passes are the passes
-- of the puts.
pub record Renews (node boot : ℕ) (floors : List ℕ) (entries : List Entry) (own : BondRecord) (puts : List Put)
    (old new : Database) : Type 0 where
  pub whole : HoldsNamed new (with_puts (opening_content_at boot floors) puts) (passes_in puts) entries own
  pub of_node : whole.holds.node ≡ node

-- The creation of a store of version 3.
use Rattle.std.specs.Prelude.{◌≡◌, ℕ, List, []}
use Rattle.sqlite.specs.Effect.{Database}
use Rattle.floor_store.specs.Content.{opening_content_at}
use Rattle.roster_sql.specs.Roster.{BondRecord, HoldsNamed}
use Rattle.roster_sql.specs.declared.entry.Entry.{Entry}

-- the tables of a new store of `node` at `boot`, with the given floors, an entry for each of them, and a bond
pub record OpensNamed (node boot : ℕ) (floors : List ℕ) (entries : List Entry) (own : BondRecord)
    (old new : Database) : Type 0 where
  pub whole : HoldsNamed new (opening_content_at boot floors) [] entries own
  pub of_node : whole.holds.node ≡ node

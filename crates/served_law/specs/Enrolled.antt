-- The raises and the enrolments of an opening by names, as uses of a store of a history. Floor: the first free factor
-- of a token at a node.
use Rattle.std.specs.Prelude.{◌≡◌, ℕ, List, [], ◌∷◌, ◌++◌, length, slice_index_or}
use Rattle.sqlite.specs.Store.{Ghosts}
use Rattle.sqlite.specs.Held as sql
use Rattle.floor_store.specs.Content.{Content}
use Rattle.floor_store.specs.Records.{PassRecord}
use Rattle.floor_sql.specs.Held.{SqlHeld}
use Rattle.floor_sql.specs.declared.put.Put.{Put}
use Rattle.named_store.specs.Floors.{no_entry}
use Rattle.roster_sql.specs.Roster.{BondRecord, HoldsNamed}
use Rattle.roster_sql.specs.declared.entry.Entry.{Entry}
use Rattle.book_law.specs.Lives.{Enrols, Raises, Setting}
use Rattle.book_law.specs.Uses.{AreUses, StoreUse, Writes, store_after}
use Rattle.served_law.specs.Seated.{store_by_names, token_of}

-- the uses that raise the rows of the puts in the node's store, which has the rows `former`, to the floors of the puts
abbrev pub raises : ℕ → List (List ℕ) → List Entry → List Put → List StoreUse
raises node names former [] = []
raises node names former (put ∷ puts) =
    Writes (Raises node (token_of names (slice_index_or former put.token no_entry).name) put.row.next)
    ∷ raises node names former puts

-- the uses that give the node's store a row for each entry, with its floor
abbrev pub enrolments : ℕ → List (List ℕ) → List Entry → List ℕ → List StoreUse
enrolments node names [] floors = []
enrolments node names (entry ∷ new) [] = []
enrolments node names (entry ∷ new) (floor ∷ floors) =
    Writes (Enrols node (token_of names entry.name) floor) ∷ enrolments node names new floors

-- the uses of an opening: rows are raised, and then new rows are enrolled
abbrev pub opening_uses : ℕ → List (List ℕ) → List Entry → List Put → List Entry → List ℕ → List StoreUse
opening_uses node names former puts new floors =
    raises node names former puts ++ enrolments node names new floors

-- The tables of the connection `old` held a store of the node with the bond. In a history, it is the opened store with
-- these rows after rows were raised and the new ones were enrolled.
pub record IsEnrolledFrom {S : Type 0} (g : Ghosts S) (setting : Setting) (node : ℕ) (own : BondRecord)
    (names : List (List ℕ)) (old : sql.Held S) (store : SqlHeld S) (rows : List Entry) : Type 0 where
  pub former : List Entry
  pub content : Content
  pub passes : List PassRecord
  pub was : HoldsNamed (sql.state g old).now content passes former own
  pub of_node : was.holds.node ≡ node
  pub puts : List Put
  pub new : List Entry
  pub floors : List ℕ
  pub each : length new ≡ length floors
  pub uses : AreUses setting node (store_by_names names former content)
      (opening_uses node names former puts new floors)
  pub after : store_after setting (opening_uses node names former puts new floors)
      (store_by_names names former content) ≡ store_by_names names rows store.mirror

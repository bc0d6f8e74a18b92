-- The devices of canonical tokens in stores by names. The seed of a token is the number of its device.
use Rattle.std.specs.Prelude.{◌≡◌, ℕ, Bool, List, [], ◌∷◌, Some, slice_get}
use Rattle.sqlite.specs.Store.{Ghosts}
use Rattle.sqlite.specs.Held as sql
use Rattle.roster_sql.specs.declared.entry.Entry.{Entry}
use Rattle.book_law.specs.Lives.{Setting, Store, store_with_rows}
use Rattle.book_law.specs.Seeds.{HaveSeedsOnce}
use Rattle.book_law.specs.Uses.{written_store}
use Rattle.served_law.specs.Runs.{AreNamedStores, AreNamedUses, NamedStores, NamedUse, store_left, terms_in}
use Rattle.served_law.specs.Seated.{token_of}
use Rattle.served_law.specs.Uses.{Keeps, Replaces, RunsBy, WritesBy}

-- rows whose tokens are of one device have one seed
abbrev pub HaveOneSeed : (ℕ → ℕ) → List (List ℕ) → List Entry → Type 0
HaveOneSeed seed names rows = (i j : ℕ) (one other : Entry) → slice_get rows i ≡ Some one
    → slice_get rows j ≡ Some other → seed (token_of names one.name) ≡ seed (token_of names other.name)
    → one.seed ≡ other.seed

module _ {S U : Type 0} (g : Ghosts S) (finds : sql.Held S → Type 0) (answers : U → ℕ → Bool → Bool → Type 0)
    (setting : Setting) (node : ℕ) (names : List (List ℕ)) (seed : ℕ → ℕ) where
  -- In the store that each run found, rows of one device have one seed. No run's users file has a device twice.
  abbrev pub HaveDevices : (store : Store) (named : List (NamedUse U))
      → AreNamedUses g finds answers setting node names store named → Type 0
  HaveDevices store [] are = Unit {0}
  HaveDevices store (RunsBy run ∷ later) are =
      HaveOneSeed seed names run.rows × HaveSeedsOnce seed (terms_in are.0.served names).seats
      × HaveDevices (store_left g finds answers setting node names store run are.0) later are.1
  HaveDevices store (WritesBy action ∷ later) are = HaveDevices (written_store setting action store) later are.1

  -- the same of each of the stores
  abbrev pub HaveDevicesInStores : (store : Store) (stores : NamedStores U)
      → AreNamedStores g finds answers setting node names store stores → Type 0
  HaveDevicesInStores store (Keeps named) are = HaveDevices store named are
  HaveDevicesInStores store (Replaces named boot given floor later) are =
      HaveDevices store named are.0 × HaveDevicesInStores (store_with_rows boot given floor) later are.1

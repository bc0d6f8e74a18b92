-- The actions on a stopped store, by their words.
use Rattle.std.specs.Prelude.{◌≡◌, ℕ, Bool, true, false, List, length, Option}
use Rattle.sqlite.specs.Store.{Ghosts}
use Rattle.sqlite.specs.Held as sql
use Rattle.floor_sql.specs.Held.{SqlHeld}
use Rattle.oathd_words.specs.declared.former_words.CountWords.TheVariants as counts
use Rattle.oathd_words.specs.declared.store_words.Action.{Action}
use Rattle.oathd_words.specs.declared.store_words.Action.TheVariants.{Init, Begin, Remake, Serve, Look, Roster, Migrate, Floors, Level}
use Rattle.oathd_words.specs.declared.store_words.ImportWords.TheVariants.{Given, Named}
use Rattle.oathd_acts.specs.Looks.{IsLookDone}
use Rattle.oathd_acts.specs.Named.{IsBegun, IsRosterTold}
use Rattle.oathd_acts.specs.Plain.{AreFloorsTold, AreMembersFloorsTold, IsCreated, IsLevelledBy, IsMemberCreated, IsMemberReplaced, IsMigratedBy, IsReplaced}

-- the store is stopped: the action doesn't serve it
abbrev pub IsStopped : Action → Type 0
IsStopped (Serve cluster turns log clients reloads) = ⊥
IsStopped action = Unit {0}

-- whether an action creates the store
abbrev pub creates : Action → Bool
creates (Init node import moment) = true
creates (Begin node path) = true
creates (Remake node import moment former) = true
creates action = false

module _ {S : Type 0} (g : Ghosts S) (finds : sql.Held S → Type 0) where
  -- The action on a stopped store is done, with the text of the cluster file that its words name. The records of the
  -- output before and after it are `old` and `new`. A store that is created without a cluster file prints nothing.
  abbrev pub IsStoppedDone : Action → List ℕ → Option (List ℕ) → Option (List ℕ) → Type 0
  IsStoppedDone (Init node (Given settings) moment) text old new =
      IsCreated g finds node settings moment × (new ≡ old)
  IsStoppedDone (Init node (Named path) moment) text old new = IsMemberCreated g finds node moment text old new
  IsStoppedDone (Begin node path) text old new = IsBegun g finds node text old new
  IsStoppedDone (Remake node (Given settings) moment former) text old new =
      (store : SqlHeld S) × IsReplaced g finds node settings moment former store × (new ≡ old)
  IsStoppedDone (Remake node (Named path) moment former) text old new =
      IsMemberReplaced g finds node moment former text old new
  IsStoppedDone (Serve cluster turns log clients reloads) text old new = ⊥
  IsStoppedDone (Look owner look) text old new = IsLookDone g finds owner look text old new
  IsStoppedDone (Roster node path drops) text old new = IsRosterTold g finds node drops text old new
  IsStoppedDone (Migrate owner members) text old new = IsMigratedBy g finds owner members text
  IsStoppedDone (Floors node (counts.Given count)) text old new = AreFloorsTold g finds node count old new
  IsStoppedDone (Floors node (counts.Named path)) text old new = AreMembersFloorsTold g finds node text old new
  IsStoppedDone (Level owner floors) text old new = IsLevelledBy g finds owner (length floors.items) text

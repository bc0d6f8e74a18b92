-- The effects of the commands over a database, by their words.
use Rattle.std.specs.Prelude.{List, ℕ, Option}
use Rattle.sqlite.specs.Store.{Ghosts}
use Rattle.sqlite.specs.Held as sql
use Rattle.oathd_words.specs.declared.store_words.Action.{Action}
use Rattle.oathd_words.specs.declared.store_words.Action.TheVariants.{Serve}
use Rattle.oathd_words.specs.StoreWords.{has_log}
use Rattle.oathd_acts.specs.Acting.{IsStoppedDone}
use Rattle.oathd_serving.specs.Served.{IsServedWith}

module _ {S : Type 0} (g : Ghosts S) (finds : sql.Held S → Type 0) where
  -- The action is done, with the text of the cluster file that its words name. The records of the output before and
  -- after it are `old` and `new`. A store that is created without a cluster file prints nothing.
  abbrev pub IsDone : Action → List ℕ → Option (List ℕ) → Option (List ℕ) → Type 0
  IsDone (Serve cluster turns log clients reloads) text old new =
      IsServedWith g finds reloads cluster turns (has_log log) clients text
  IsDone action text old new = IsStoppedDone g finds action text old new

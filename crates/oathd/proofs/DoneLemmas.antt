-- What an action has done.
use Rattle.std.proofs.Common.{◌≡◌, refl, sym, subst, ℕ, Bool, List, Option}
use Rattle.std.specs.Prelude.{Result, Ok, Err, IfOk}
use Rattle.sqlite.specs.Store.{Ghosts}
use Rattle.sqlite.specs.Held as sql
use Rattle.oathd_words.specs.declared.store_words.Action.{Action}
use Rattle.oathd_words.specs.declared.store_words.Action.TheVariants.{Init, Begin, Remake, Serve, Look, Roster, Migrate, Floors, Level}
use Rattle.oathd_words.specs.declared.store_words.ClientWords.{ClientWords}
use Rattle.oathd_words.specs.declared.store_words.ClusterWords.{ClusterWords}
use Rattle.oathd_words.specs.declared.store_words.LogWords.{LogWords}
use Rattle.oathd_acts.specs.Acting.{IsStopped, IsStoppedDone}
use Rattle.oathd.specs.Done.{IsDone}
use Rattle.oathd_site.specs.declared.fault.Fault.{Fault}

module _ {S : Type 0} (g : Ghosts S) (finds : sql.Held S → Type 0) (text : List ℕ) (old new : Option (List ℕ)) where
  -- an action with a name is the action
  pub done_so : (action named : Action) (result : Result Unit Fault) → action ≡ named → IfOk result (λ _. IsDone g finds named text old new)
      → IfOk result (λ _. IsDone g finds action text old new)
  done_so action named result is h = subst (λ words. IfOk result (λ _. IsDone g finds words text old new)) (sym is) h

  -- what is done with a stopped store is done
  is_done : (action : Action) → IsStoppedDone g finds action text old new → IsDone g finds action text old new
  is_done (Serve cluster turns log clients reloads) h = absurd h
  is_done (Init node import moment) h = h
  is_done (Begin node path) h = h
  is_done (Remake node import moment former) h = h
  is_done (Look owner look) h = h
  is_done (Roster node path drops) h = h
  is_done (Migrate owner members) h = h
  is_done (Floors node count) h = h
  is_done (Level owner floors) h = h

  pub stopped_done : (action : Action) (result : Result Unit Fault) → IfOk result (λ _. IsStoppedDone g finds action text old new)
      → IfOk result (λ _. IsDone g finds action text old new)
  stopped_done action (Ok done) h = is_done action h
  stopped_done action (Err fault) h = tt

-- an action that isn't `Serve` is one on a stopped store
pub is_stopped : (action : Action) → ((cluster : ClusterWords) (turns : ℕ) (log : LogWords) (clients : ClientWords) (reloads : Bool)
    → action ≡ Serve cluster turns log clients reloads → ⊥) → IsStopped action
is_stopped (Serve cluster turns log clients reloads) other = absurd (other cluster turns log clients reloads refl)
is_stopped (Init node import moment) other = tt
is_stopped (Begin node path) other = tt
is_stopped (Remake node import moment former) other = tt
is_stopped (Look owner look) other = tt
is_stopped (Roster node path drops) other = tt
is_stopped (Migrate owner members) other = tt
is_stopped (Floors node count) other = tt
is_stopped (Level owner floors) other = tt

-- The words of a command, and what they ask for.
use Rattle.std.proofs.Common.{◌≡◌, sym, subst, ℕ, List, Option, Ok, Err}
use Rattle.std.specs.Prelude.{Result, IfOk}
use Rattle.std.specs.Borrow.{Bor}
use Rattle.sqlite.specs.Store.{Ghosts}
use Rattle.sqlite.specs.Held as sql
use Rattle.otp_core.specs.Limits.{Limits}
use Rattle.floor_sql.specs.Held.{SqlHeld}
use Rattle.oathd_words.specs.declared.former_words.CountWords.{CountWords}
use Rattle.oathd_words.specs.declared.former_words.CountWords.TheVariants as counts
use Rattle.oathd_words.specs.declared.former_words.FormerWords.{FormerWords}
use Rattle.oathd_words.specs.declared.store_words.Action.{Action}
use Rattle.oathd_words.specs.declared.store_words.Action.TheVariants.{Floors, Init, Remake}
use Rattle.oathd_words.specs.declared.store_words.ImportWords.{ImportWords}
use Rattle.oathd_words.specs.declared.store_words.ImportWords.TheVariants as imports
use Rattle.oathd_acts.specs.Acting.{IsStoppedDone}
use Rattle.oathd_acts.specs.Plain.{AreFloorsTold, AreMembersFloorsTold, IsCreated, IsMemberCreated, IsMemberReplaced, IsReplaced}
use Rattle.oathd_site.specs.declared.fault.Fault.{Fault}

module _ {S : Type 0} (g : Ghosts S) (finds : sql.Held S → Type 0) where
  module _ (node : ℕ) (count : CountWords) (text : List ℕ) (old new : Option (List ℕ)) (result : Result Unit Fault) where
    -- the floors file among the members that the words count
    pub floors_given : (members : ℕ) → count ≡ counts.Given members → IfOk result (λ _. AreFloorsTold g finds node members old new)
        → IfOk result (λ _. IsStoppedDone g finds (Floors node count) text old new)
    floors_given members is h = subst (λ (words : CountWords). IfOk result (λ _. IsStoppedDone g finds (Floors node words) text old new)) (sym is) h

    -- or that of a member of the cluster file that they name
    pub floors_named : (path : Bor (List ℕ)) → count ≡ counts.Named path → IfOk result (λ _. AreMembersFloorsTold g finds node text old new)
        → IfOk result (λ _. IsStoppedDone g finds (Floors node count) text old new)
    floors_named path is h = subst (λ (words : CountWords). IfOk result (λ _. IsStoppedDone g finds (Floors node words) text old new)) (sym is) h

  module _ (node : ℕ) (import : ImportWords) (moment : Option ℕ) (text : List ℕ) (old new : Option (List ℕ)) where
    with_output : (settings : Limits) (r : Result Unit Fault) → new ≡ old → IfOk r (λ _. IsCreated g finds node settings moment)
        → IfOk r (λ _. IsCreated g finds node settings moment × (new ≡ old))
    with_output settings (Ok done) same h = (h, same)
    with_output settings (Err fault) same h = tt

    -- the store of the named node is created, with the settings that the words give
    pub init_given : (result : Result Unit Fault) (settings : Limits) → import ≡ imports.Given settings → new ≡ old → IfOk result (λ _. IsCreated g finds node settings moment)
        → IfOk result (λ _. IsStoppedDone g finds (Init node import moment) text old new)
    init_given result settings is same h =
        subst (λ (words : ImportWords). IfOk result (λ _. IsStoppedDone g finds (Init node words moment) text old new)) (sym is)
        (with_output settings result same h)

    -- or with those of the cluster file that they name
    pub init_named : (result : Result Unit Fault) (path : Bor (List ℕ)) → import ≡ imports.Named path → IfOk result (λ _. IsMemberCreated g finds node moment text old new)
        → IfOk result (λ _. IsStoppedDone g finds (Init node import moment) text old new)
    init_named result path is h =
        subst (λ (words : ImportWords). IfOk result (λ _. IsStoppedDone g finds (Init node words moment) text old new)) (sym is) h

    -- the same of a replacement
    pub remake_given : (former : FormerWords) (settings : Limits) (store : SqlHeld S) → import ≡ imports.Given settings → new ≡ old
        → IsReplaced g finds node settings moment former store → IsStoppedDone g finds (Remake node import moment former) text old new
    remake_given former settings store is same h =
        subst (λ (words : ImportWords). IsStoppedDone g finds (Remake node words moment former) text old new) (sym is) (store, h, same)

    pub remake_named : (result : Result Unit Fault) (former : FormerWords) (path : Bor (List ℕ)) → import ≡ imports.Named path
        → IfOk result (λ _. IsMemberReplaced g finds node moment former text old new)
        → IfOk result (λ _. IsStoppedDone g finds (Remake node import moment former) text old new)
    remake_named result former path is h =
        subst (λ (words : ImportWords). IfOk result (λ _. IsStoppedDone g finds (Remake node words moment former) text old new)) (sym is) h

  -- an action with a name is the action
  pub done_so : (action named : Action) (text : List ℕ) (old new : Option (List ℕ)) (result : Result Unit Fault) → action ≡ named
      → IfOk result (λ _. IsStoppedDone g finds named text old new) → IfOk result (λ _. IsStoppedDone g finds action text old new)
  done_so action named text old new result is h = subst (λ (words : Action). IfOk result (λ _. IsStoppedDone g finds words text old new)) (sym is) h

-- A store is created for a member, and said to be.
use Rattle.std.proofs.Common.{◌≡◌, ◌∙◌, ap, sym, subst, add-one, ℕ, suc, ◌+◌, Bool, true, false, ◌||◌, List, ◌∷◌, drop, Option, Some, None, IfSome}
use Rattle.std.specs.Prelude.{slice_get}
use Rattle.std.specs.List.{list_any}
use Rattle.std.proofs.lemmas.Option.{get_or_from_slice_get, slice_get_within}
use Rattle.std.proofs.Math.Seq.{drop-cons}
use Rattle.std.specs.Io.KnownBytes.{Appends}
use Rattle.sqlite.specs.Store.{Ghosts}
use Rattle.sqlite.specs.Held as sql
use Rattle.sqlite.specs.State.{HasCleanDisk}
use Rattle.otp_core.specs.Limits.{Limits}
use Rattle.token_file.specs.Credential.{Credential}
use Rattle.floor_sql.specs.Calls.{IsMade}
use Rattle.floor_sql.specs.Held.{SqlHeld}
use Rattle.vote_core.specs.NodeSet.{PlaceRecord}
use Rattle.oathd_database.specs.Commands.{HasMade}
use Rattle.oathd_database.specs.Fault.{IsOutputFault}
use Rattle.oathd_database.specs.Made.{HasMadeMember, IsMadeAt, IsNotTold, made_text}
use Rattle.oathd_database.specs.Users.{IsImported, drifted_floors}
use Rattle.oathd_database.specs.declared.fault.Fault.{Fault}
use Rattle.oathd_database.specs.declared.fault.Fault.TheVariants.{Memory, CannotWrite, NoClock, Users, Store, Socket}

module _ {S : Type 0} (g : Ghosts S) (finds : sql.Held S → Type 0) (node : ℕ) where
  -- a store with equal floors
  pub made_at : (conn : sql.Held S) (store : SqlHeld S) (given floors : List ℕ) → given ≡ floors
      → (HasCleanDisk (sql.state g conn) → finds conn) → IsMade g conn node 0 given store → IsMadeAt g finds node floors store
  made_at conn store given floors same found is =
      record { conn = conn; found = found; made = subst (λ (fs : List ℕ). IsMade g conn node 0 fs store) same is }

  module _ (limits : Limits) (moment longest : ℕ) (book : List Credential) (floors : List ℕ) (store : SqlHeld S) where
    has_made : (text : List ℕ) → IsImported limits moment longest book floors text
        → IsMadeAt g finds node (drifted_floors limits.drift book floors) store → HasMade g finds limits moment longest node store text
    has_made text h is =
        record { import = record { book = book; floors = floors; imported = h }; conn = is.conn; found = is.found; made = is.made }

    -- the store is made
    pub made_of : (a : Option (List ℕ)) → IfSome a (IsImported limits moment longest book floors)
        → IsMadeAt g finds node (drifted_floors limits.drift book floors) store → IfSome a (HasMade g finds limits moment longest node store)
    made_of None h is = tt
    made_of (Some text) h is = has_made text h is

    -- the output failed, after the store was made
    untold : (fault : Fault) (text : List ℕ) → IsImported limits moment longest book floors text
        → IsMadeAt g finds node (drifted_floors limits.drift book floors) store → IsOutputFault store.fault fault
        → IsNotTold g finds limits moment longest node fault text
    untold Memory text h is failed = absurd failed
    untold CannotWrite text h is failed = (store, has_made text h is)
    untold NoClock text h is failed = absurd failed
    untold (Users fault) text h is failed = absurd failed
    untold (Store fault) text h is failed = record { book = book; floors = floors; imported = h }
    untold Socket text h is failed = absurd failed

    pub not_told : (a : Option (List ℕ)) (fault : Fault) → IfSome a (IsImported limits moment longest book floors)
        → IsMadeAt g finds node (drifted_floors limits.drift book floors) store → IsOutputFault store.fault fault
        → IfSome a (IsNotTold g finds limits moment longest node fault)
    not_told None fault h is failed = tt
    not_told (Some text) fault h is failed = untold fault text h is failed

-- the store of a member is made, and said to be
pub made_member : {S : Type 0} (g : Ghosts S) (finds : sql.Held S → Type 0) (place : PlaceRecord) (limits : Limits) (moment longest : ℕ)
    (book : List Credential) (floors : List ℕ) (store : SqlHeld S) (a old new : Option (List ℕ))
    → IfSome a (IsImported limits moment longest book floors)
    → IsMadeAt g finds place.me (drifted_floors limits.drift book floors) store
    → (HasCleanDisk (sql.state g store.conn) → Appends old new (made_text place store.mirror book limits moment))
    → IfSome a (HasMadeMember g finds limits moment longest place store old new)
made_member g finds place limits moment longest book floors store None old new h is written = tt
made_member g finds place limits moment longest book floors store (Some text) old new h is written = record {
  made = record { import = record { book = book; floors = floors; imported = h }; conn = is.conn; found = is.found; made = is.made };
  written = written;
}

-- ---- The tokens of a book

module _ {X : Type 0} (p : X → Bool) (xs : List X) (k : ℕ) (x : X) (is : slice_get xs k ≡ Some x) where
  -- what is left from a place on
  rest : drop k xs ≡ x ∷ drop (k + 1) xs
  rest = rw (add-one, drop-cons xs k x (slice_get_within xs k x is)) (ap (λ y. y ∷ drop (suc k) xs) (get_or_from_slice_get xs k x x is))

  left : list_any p (drop k xs) ≡ p x || list_any p (drop (k + 1) xs)
  left = ap (list_any p) rest

  -- an item that passes the test settles the answer
  pub passes : list_any p (drop k xs) ≡ list_any p xs → p x ≡ true → true ≡ list_any p xs
  passes so_far is_true = sym (ap (λ b. b || list_any p (drop (k + 1) xs)) is_true) ∙ sym left ∙ so_far

  -- and another one leaves it open
  pub fails : list_any p (drop k xs) ≡ list_any p xs → p x ≡ false → list_any p (drop (k + 1) xs) ≡ list_any p xs
  fails so_far is_false = sym (ap (λ b. b || list_any p (drop (k + 1) xs)) is_false) ∙ sym left ∙ so_far

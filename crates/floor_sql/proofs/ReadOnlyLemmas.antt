-- Reads, one after the other, and what each tells of the tables.
use Rattle.std.proofs.Common.{◌≡◌, ℕ, Result, Ok, Err, IsErrAnd, IfOk, IsTrue, sym, subst, arith}
use Rattle.sqlite.specs.Store.{Ghosts}
use Rattle.sqlite.specs.Effect.{Database}
use Rattle.sqlite.specs.Held.{Held, state}
use Rattle.sqlite.specs.State.{HasCleanDisk}
use Rattle.sqlite.proofs.StateLemmas.{survives_then}
use Rattle.floor_store.specs.Fault.{is_failure}
use Rattle.floor_store.specs.declared.fault.StoreFault.TheVariants.{Unusable}
use Rattle.floor_sql.specs.declared.read.Refusal.{Refusal}
use Rattle.floor_sql.specs.Steps.{ReadsOnly, ReadsTables}
use Rattle.floor_sql.proofs.ListLemmas.{if_err}
use Rattle.floor_sql.proofs.ReadLemmas.{left_from_read, left_then, read_itself, read_then}
use Rattle.floor_sql.proofs.StagedLemmas.{ok_then}
use Rattle.floor_sql.proofs.StepLemmas.{no_value, survives_itself}

module _ {S : Type 0} {g : Ghosts S} where
  -- before the first read
  pub reads_none : (conn : Held S) → ReadsOnly g {A = ℕ} conn conn (Ok 0)
  reads_none conn = record {
    read = λ clean. read_itself (state g conn);
    left = λ clean. left_from_read _ _ (read_itself (state g conn));
    failure = tt;
    idle = λ is. is;
    crash = survives_itself (state g conn);
  }

  -- a read after another
  pub reads_then : {A B : Type 0} {old mid new : Held S} {a : A} {r : Result B Refusal}
      → ReadsOnly g old mid (Ok a) → ReadsOnly g mid new r → ReadsOnly g old new r
  reads_then {A} {B} {old} {mid} {new} {a} {r} one two =
      let early = λ (clean : HasCleanDisk (state g new)).
      let was : HasCleanDisk (state g mid) = omega (arith, two.crash.clean) in was in
      record {
        read = λ clean. ok_then r (read_then (state g old) (state g mid) (state g new) (one.read (early clean))) (two.read clean);
        left = λ clean. left_then (state g old) (state g mid) (state g new) (one.read (early clean)) (two.left clean);
        failure = two.failure;
        idle = λ is. two.idle (one.idle is);
        crash = survives_then (state g old) (state g mid) (state g new) _ _ (λ _. ⊥)
            (λ _ db none. none) (λ _ db none. none) one.crash two.crash;
      }

  -- a read that succeeded, with another value
  pub reads_on : {A B : Type 0} {old new : Held S} {a : A} {b : B} → ReadsOnly g old new (Ok a)
      → ReadsOnly g old new (Ok b)
  reads_on it = record { read = it.read; left = it.left; failure = tt; idle = it.idle; crash = it.crash }

  -- a read whose value was taken
  pub reads : {A B : Type 0} {IsRight : Database → B → Type 0} {IsUsable : Database → Type 0} {old new : Held S}
      {a : A} {b : B} → ReadsOnly g old new (Ok a) → (HasCleanDisk (state g new) → IsRight (state g old).now b)
      → ReadsTables g old new IsRight IsUsable (Ok b)
  reads it right = record { only = reads_on it; value = right; unusable = λ clean. tt }

  -- a read whose value was refused
  pub finds_unusable : {A B : Type 0} {IsRight : Database → B → Type 0} {IsUsable : Database → Type 0} {old new : Held S}
      {a : A} {e : Refusal} → ReadsOnly g old new (Ok a) → IsTrue (is_failure e.0)
      → (HasCleanDisk (state g new) → ¬ IsUsable (state g old).now) → ReadsTables g old new IsRight IsUsable (Err e)
  finds_unusable it failure never = record {
    only = record { read = λ clean. tt; left = it.left; failure = failure; idle = it.idle; crash = it.crash };
    value = λ clean. tt;
    unusable = λ clean is. never clean;
  }

  -- a read that was refused, and why
  pub fails : {A B : Type 0} {IsRight : Database → B → Type 0} {IsUsable : Database → Type 0} {old new : Held S}
      {e : Refusal} {r : Result B Refusal} → IsErrAnd r (λ x. x ≡ e) → ReadsOnly g {A = A} old new (Err e)
      → (HasCleanDisk (state g new) → e.0 ≡ Unusable → ¬ IsUsable (state g old).now)
      → ReadsTables g old new IsRight IsUsable r
  fails {A} {B} {IsRight} {IsUsable} {old} {new} {e} {r} is it never = record {
    only = record {
      read = λ clean. no_value e _ r is;
      left = it.left;
      failure = if_err r _ (λ x. IsTrue (is_failure x.0)) is
          (λ x same. subst (λ (y : Refusal). IsTrue (is_failure y.0)) (sym same) it.failure);
      idle = it.idle;
      crash = it.crash;
    };
    value = λ clean. no_right (IsRight (state g old).now) r is;
    unusable = λ clean. if_err r _ (λ x. x.0 ≡ Unusable → ¬ IsUsable (state g old).now) is
        (λ x same unusable. never clean (subst (λ (y : Refusal). y.0 ≡ Unusable) same unusable));
  }
    where
      no_right : (P : B → Type 0) (r : Result B Refusal) → IsErrAnd r (λ x. x ≡ e) → IfOk r P
      no_right P (Ok b) is = absurd is
      no_right P (Err x) is = tt

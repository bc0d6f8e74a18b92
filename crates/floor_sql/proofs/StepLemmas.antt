-- Steps of a transaction, one after the other, and what each makes of the tables.
use Rattle.std.proofs.Common.{◌≡◌, ℕ, inl, Result, Ok, Err, IsErrAnd, OnOk, IsTrue, refl, sym, subst, ◌∙◌, arith}
use Rattle.sqlite.specs.Store.{Ghosts}
use Rattle.sqlite.specs.Effect.{Database}
use Rattle.sqlite.specs.Held.{state}
use Rattle.sqlite.specs.State.{State, HasCleanDisk, KeepsCommit, Survives}
use Rattle.sqlite.specs.declared.transaction.Transaction.{Transaction}
use Rattle.sqlite.proofs.StateLemmas.{survives_then}
use Rattle.floor_store.specs.Fault.{is_failure}
use Rattle.floor_store.specs.declared.fault.StoreFault.TheVariants.{Unusable}
use Rattle.floor_sql.specs.declared.read.Refusal.{Refusal}
use Rattle.floor_sql.specs.Steps.{StepsInside, Changes}
use Rattle.floor_sql.proofs.ListLemmas.{if_err}

-- a commit that two steps keep
kept_then : (a b c : State) → KeepsCommit a b → KeepsCommit b c → KeepsCommit a c
kept_then a b c p q = record {
  was_open = λ is. p.was_open (q.was_open is);
  committed = λ is. q.committed is ∙ p.committed (q.was_open is);
}

-- nothing has happened
pub survives_itself : (s : State) → Survives s s (λ _. ⊥)
survives_itself s = record {
  clean = omega arith;
  shield = λ is. is;
  counts = omega arith;
  limit = refl;
  closes = λ clean is. inl is;
  crash = λ clean db left. inl left;
}

-- what is refused has no value
pub no_value : {A : Type 0} (e : Refusal) (P : Type 0) (r : Result A Refusal) → IsErrAnd r (λ x. x ≡ e) → OnOk r P
no_value e P (Ok a) is = absurd is
no_value e P (Err x) is = tt

module _ {S : Type 0} {g : Ghosts S} where
  -- before the first step
  pub begins : (tx : Transaction S) → (HasCleanDisk (state g tx.conn.now) → IsTrue (state g tx.conn.now).in_transaction)
      → StepsInside g {A = ℕ} tx tx (Ok 0)
  begins tx inside = record {
    same_reference = refl;
    goes = inside;
    kept = λ clean. record { was_open = λ is. is; committed = λ is. refl };
    failure = tt;
    crash = survives_itself (state g tx.conn.now);
  }

  -- a step after one that went on
  pub steps_then : {A B : Type 0} {old mid new : Transaction S} {a : A} {r : Result B Refusal}
      → StepsInside g old mid (Ok a) → StepsInside g mid new r → StepsInside g old new r
  steps_then {A} {B} {old} {mid} {new} one two =
      let early = λ (clean : HasCleanDisk (state g new.conn.now)).
      let was : HasCleanDisk (state g mid.conn.now) = omega (arith, two.crash.clean) in was in
      record {
        same_reference = two.same_reference ∙ one.same_reference;
        goes = two.goes;
        kept = λ clean. kept_then (state g old.conn.now) (state g mid.conn.now) (state g new.conn.now)
            (one.kept (early clean)) (two.kept clean);
        failure = two.failure;
        crash = survives_then (state g old.conn.now) (state g mid.conn.now) (state g new.conn.now) _ _ (λ _. ⊥)
            (λ _ db none. none) (λ _ db none. none) one.crash two.crash;
      }

  -- a step that succeeded, with another value
  pub goes_on : {A B : Type 0} {old new : Transaction S} {a : A} {b : B} → StepsInside g old new (Ok a)
      → StepsInside g old new (Ok b)
  goes_on it = record {
    same_reference = it.same_reference;
    goes = it.goes;
    kept = it.kept;
    failure = tt;
    crash = it.crash;
  }

  -- a step that was refused, with another type of value
  was_refused : {A B : Type 0} (old new : Transaction S) (e : Refusal) (r : Result B Refusal) → IsErrAnd r (λ x. x ≡ e)
      → StepsInside g {A = A} old new (Err e) → StepsInside g old new r
  was_refused old new e (Ok b) is it = absurd is
  was_refused old new e (Err x) is it = record {
    same_reference = it.same_reference;
    goes = λ clean. tt;
    kept = it.kept;
    failure = subst (λ (y : Refusal). IsTrue (is_failure y.0)) (sym is) it.failure;
    crash = it.crash;
  }

  -- a step that went on and made the change
  pub changes : {A B : Type 0} {IsChange : Database → Database → Type 0} {Lacks : Database → Type 0}
      {old new : Transaction S} {a : A} {b : B} → StepsInside g old new (Ok a)
      → (HasCleanDisk (state g new.conn.now) → IsChange (state g old.conn.now).now (state g new.conn.now).now)
      → Changes g old new IsChange Lacks (Ok b)
  changes it made = record { steps = goes_on it; made = made; unusable = λ clean. tt }

  -- a step that was refused, and why
  pub refuses : {A B : Type 0} {IsChange : Database → Database → Type 0} {Lacks : Database → Type 0}
      {old new : Transaction S} {e : Refusal} {r : Result B Refusal} → IsErrAnd r (λ x. x ≡ e)
      → StepsInside g {A = A} old new (Err e)
      → (HasCleanDisk (state g new.conn.now) → e.0 ≡ Unusable → Lacks (state g old.conn.now).now)
      → Changes g old new IsChange Lacks r
  refuses {A} {B} {IsChange} {Lacks} {old} {new} {e} {r} is it lacks = record {
    steps = was_refused old new e r is it;
    made = λ clean. no_value e _ r is;
    unusable = λ clean. if_err r _ (λ x. x.0 ≡ Unusable → Lacks (state g old.conn.now).now) is
        (λ x same unusable. lacks clean (subst (λ (y : Refusal). y.0 ≡ Unusable) same unusable));
  }

-- Connections that are returned beside a fault.
use Rattle.std.proofs.Common.{◌≡◌, inl, inr, false, IsTrue, Result, Ok, Err, IfOk, IfErr, sym, subst, ◌∙◌, arith}
use Rattle.sqlite.specs.Store.{Ghosts}
use Rattle.sqlite.specs.Effect.{Database}
use Rattle.sqlite.specs.Held.{Held, state}
use Rattle.sqlite.specs.State.{State, HasCleanDisk, Survives}
use Rattle.sqlite.proofs.StateLemmas.{survives_then}
use Rattle.floor_sql.specs.Calls.{HandsBack, KeepsTables}
use Rattle.floor_sql.specs.Shown.{IsLeft}
use Rattle.floor_sql.specs.Stored.{Commits, MayCommit}
use Rattle.floor_sql.proofs.StepLemmas.{survives_itself}
use Rattle.roster_sql.proofs.CommitLemmas.{survives_after}
use Rattle.named_store.specs.Opened.{IsRefused}

-- a call that commits nothing may commit anything
pub survives_any : (old new : State) (IsChange : Database → Database → Type 0) → Survives old new (λ _. ⊥) → Survives old new (MayCommit IsChange old)
survives_any old new IsChange it =
    survives_then old old new (λ _. ⊥) (λ _. ⊥) (MayCommit IsChange old) (λ _ db none. absurd none) (λ _ db none. absurd none) (survives_itself old) it

-- the tables that an error leaves, if the last commit was shown before
pub left_same : (old new : State) → (IsTrue old.is_open → old.now ≡ old.committed) → IsLeft old new → IsTrue new.is_open → new.now ≡ old.now
left_same old new settled left is = elim (left.now is) [ inl same ↦ same | inr back ↦ back ∙ sym (settled (left.was_open is)) ]

module _ {S : Type 0} (g : Ghosts S) (old mid new : Held S) where
  -- a refusal after reads
  pub refused_after : (IsStep IsWhole : Database → Database → Type 0) → KeepsTables g old mid
      → (HasCleanDisk (state g mid) → (db : Database) → IsStep (state g old).now db → IsWhole (state g old).now db)
      → IsRefused g IsStep mid new → IsRefused g IsWhole old new
  refused_after IsStep IsWhole kept whole it = record {
    idle = it.idle;
    tables = λ clean is.
        let early : HasCleanDisk (state g mid) = omega (arith, it.survives.clean) in
        let same = (kept.read early).now in
        elim (it.tables clean is) [
          | inl stay ↦ inl (stay ∙ same)
          | inr made ↦ inr (whole early (state g new).now (subst (λ (d : Database). IsStep d (state g new).now) same made))
        ];
    survives = survives_after IsStep IsWhole (state g old) (state g mid) (state g new) (λ early. (kept.read early).now) whole kept.survives it.survives;
  }

module _ {S : Type 0} (g : Ghosts S) (old new : Held S) (IsChange : Database → Database → Type 0) where
  -- a refusal that left the tables
  pub refused_kept : HandsBack g old new (λ _. ⊥) → IsRefused g IsChange old new
  refused_kept it = record {
    idle = it.idle;
    tables = λ clean is. inl ((it.tables clean).now is);
    survives = survives_any (state g old) (state g new) IsChange it.survives;
  }

  -- a refusal of a store that was opened
  pub refused_open : KeepsTables g old new → IsRefused g IsChange old new
  refused_open it = record {
    idle = it.idle;
    tables = λ clean is. inl (it.read clean).now;
    survives = survives_any (state g old) (state g new) IsChange it.survives;
  }

  -- a refusal that left the tables as last committed
  pub refused_left : new.in_transaction ≡ false → (IsTrue (state g old).is_open → (state g old).now ≡ (state g old).committed)
      → (HasCleanDisk (state g new) → IsLeft (state g old) (state g new)) → Survives (state g old) (state g new) (MayCommit IsChange (state g old))
      → IsRefused g IsChange old new
  refused_left idle settled left survives = record {
    idle = idle;
    tables = λ clean is. inl (left_same (state g old) (state g new) settled (left clean) is);
    survives = survives;
  }

module _ {S : Type 0} (g : Ghosts S) (old mid new : Held S) (IsChange : Database → Database → Type 0) where
  -- what a stop leaves after a change and reads
  pub survives_made : Survives (state g old) (state g mid) (MayCommit IsChange (state g old)) → Survives (state g mid) (state g new) (λ _. ⊥)
      → Survives (state g old) (state g new) (MayCommit IsChange (state g old))
  survives_made one two =
      survives_then (state g old) (state g mid) (state g new) (MayCommit IsChange (state g old)) (λ _. ⊥) (MayCommit IsChange (state g old))
      (λ _ db may. may) (λ _ db none. absurd none) one two

  -- a refusal after the change
  pub refused_made : (HasCleanDisk (state g mid) → Commits IsChange (state g old) (state g mid))
      → Survives (state g old) (state g mid) (MayCommit IsChange (state g old)) → HandsBack g mid new (λ _. ⊥) → IsRefused g IsChange old new
  refused_made made one back = record {
    idle = back.idle;
    tables = λ clean is.
        let early : HasCleanDisk (state g mid) = omega (arith, back.survives.clean) in
        let done = made early in
        inr (subst (λ (d : Database). IsChange (state g old).now d) (sym ((back.tables clean).now is ∙ done.now)) done.committed);
    survives = survives_made one back.survives;
  }

-- ---- results

pub both_ok : {A E : Type 0} (r : Result A E) (P Q R : A → Type 0) → ((a : A) → P a → Q a → R a) → IfOk r P → IfOk r Q → IfOk r R
both_ok (Ok a) P Q R f p q = f a p q
both_ok (Err e) P Q R f p q = tt

pub err_weaker : {A E : Type 0} (r : Result A E) (P Q : E → Type 0) → ((e : E) → P e → Q e) → IfErr r P → IfErr r Q
err_weaker (Ok a) P Q f p = tt
err_weaker (Err e) P Q f p = f e p

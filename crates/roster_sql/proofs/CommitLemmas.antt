-- A change that is committed after the tables were looked at.
use Rattle.std.proofs.Common.{◌≡◌, subst, arith}
use Rattle.sqlite.specs.Effect.{Database}
use Rattle.sqlite.specs.State.{State, HasCleanDisk, Survives}
use Rattle.sqlite.proofs.StateLemmas.{survives_then}
use Rattle.floor_sql.specs.Stored.{Commits, MayCommit}

module _ (IsStep IsWhole : Database → Database → Type 0) (old mid new : State) where
  pub commits_after : mid.now ≡ old.now → ((db : Database) → IsStep old.now db → IsWhole old.now db) → Commits IsStep mid new → Commits IsWhole old new
  commits_after same whole done = record {
    is_open = done.is_open;
    committed = whole new.committed (subst (λ db. IsStep db new.committed) same done.committed);
    now = done.now;
  }

  pub survives_after : (HasCleanDisk mid → mid.now ≡ old.now) → (HasCleanDisk mid → (db : Database) → IsStep old.now db → IsWhole old.now db)
      → Survives old mid (λ _. ⊥) → Survives mid new (MayCommit IsStep mid) → Survives old new (MayCommit IsWhole old)
  survives_after same whole one two = survives_then old mid new _ _ (MayCommit IsWhole old) (λ _ db none. absurd none)
      (λ clean db may.
      let early : HasCleanDisk mid = omega (arith, two.clean) in
      (may.0, whole early may.0 (subst (λ (d : Database). IsStep d may.0) (same early) may.1), may.2)) one two

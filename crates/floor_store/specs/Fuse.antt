-- A store with a fuse, by its values.
use Rattle.std.specs.Prelude.{◌≡◌, ℕ, ◌+◌, ◌<◌, Bool, true, false, Some, None, IsErr, IsErrOf, OnOk, OnErr, Result, if◌then◌else◌, refl}
use Rattle.std.specs.Coded.{Coded, code_by, coded×, coded_ℕ, coded_bool}
use Rattle.floor_store.specs.Content.{Content}
use Rattle.floor_store.specs.Held.{Held}
use Rattle.floor_store.specs.declared.fault.StoreFault.{StoreFault}
use Rattle.floor_store.specs.declared.fault.StoreFault.TheVariants.{Disk}

pub record FuseRecord (S : Type 0) : Type 0 where
  pub inner : S
  -- the number of writes that the fuse lets pass, and the number that have passed
  pub writes : ℕ
  pub passed : ℕ
  -- whether the write that blows it is kept
  pub after : Bool
  pub is_blown : Bool

abbrev pub fuse_code : {S : Type 0} → Coded S → Coded (FuseRecord S)
fuse_code {S} inner =
    code_by (S × (ℕ × (ℕ × (Bool × Bool))))
    (coded× inner (coded× coded_ℕ (coded× coded_ℕ (coded× coded_bool coded_bool))))
    (λ f. (f.inner, (f.writes, (f.passed, (f.after, f.is_blown)))))
    (λ p. record { inner = p.0; writes = p.1.0; passed = p.1.1.0; after = p.1.1.1.0; is_blown = p.1.1.1.1 }) (λ _. refl)

-- The contract's view of a store with a fuse: the inner store's, except that a blown fuse returns Disk and is one more
-- failure.
abbrev pub fuse_held : {S : Type 0} → (S → Held) → FuseRecord S → Held
fuse_held inner f = record (inner f.inner) {
  fault = if f.is_blown then Some Disk else (inner f.inner).fault;
  failures = (if f.is_blown then 1 else 0) + (inner f.inner).failures;
}

-- the store works, and the fuse lets no further write pass
pub record IsAtEnd {S : Type 0} (held : FuseRecord S → Held) (f : FuseRecord S) : Type 0 where
  pub works : (held f).fault ≡ None
  pub none_left : f.passed ≡ f.writes

-- the fuse let the write pass
pub record Passes {S : Type 0} (old new : FuseRecord S) : Type 0 where
  pub left : old.passed < old.writes
  pub counted : new.passed ≡ old.passed + 1

-- the write blew the fuse
pub record Blows {S : Type 0} (old new : FuseRecord S) : Type 0 where
  pub whole : old.is_blown ≡ false
  pub blown : new.is_blown ≡ true

-- A write of `made` blows the fuse if it is the first one after the writes that the fuse lets pass, and not earlier.
pub record Burns {S A : Type 0} (held : FuseRecord S → Held) (old new : FuseRecord S) (made : Content)
    (result : Result A StoreFault) : Type 0 where
  pub passes : OnOk result (Passes old new)
  pub fails : OnErr result (new.passed ≡ old.passed)
  pub holds : old.passed < old.writes → new.is_blown ≡ old.is_blown
  pub ends : old.passed ≡ old.writes → IsErr result
  pub blown : Blows old new → IsErrOf result Disk
  -- the change is lost or kept, by the choice of `after`
  pub lost : IsAtEnd held old → old.after ≡ false → new ≡ record old { is_blown = true }
  pub kept : Blows old new → old.after ≡ true → (held new).is_clean → (held new).content ≡ made
  pub limits : (new.writes ≡ old.writes) × (new.after ≡ old.after)

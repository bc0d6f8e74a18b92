-- Small stores, each of which breaks one field of a promise. No contract cites them.
use Rattle.std.specs.Prelude.{◌≡◌, ◌⊎◌, ℕ, Bool, true, false, IsTrue, [], Option, Some, None, Result, Ok, Err}
use Rattle.floor_store.specs.Content.{Content}
use Rattle.floor_store.specs.Examples.{content_at}
use Rattle.floor_store.specs.Fuse.{FuseRecord, fuse_held}
use Rattle.floor_store.specs.Held.{Held}
use Rattle.floor_store.specs.declared.fault.StoreFault.{StoreFault}
use Rattle.floor_store.specs.declared.fault.StoreFault.TheVariants.{Disk, Memory, Spent}

-- a store that has one content, and of which a stop leaves that content or `other`
pub record SmallStore : Type 0 where
  pub content : Content
  pub other : Content
  pub fault : Option StoreFault
  pub failures : ℕ
  pub is_clean : Bool

-- the contract's view of a small store
abbrev pub small_held : SmallStore → Held
small_held store = record {
  content = store.content;
  fault = store.fault;
  failures = store.failures;
  is_clean = IsTrue store.is_clean;
  leaves = λ content. (content ≡ store.content) ⊎ (content ≡ store.other);
}

-- the content of no token, at a boot
abbrev pub booted : ℕ → Content
booted boot = content_at boot []

-- a clean store of the content alone
abbrev pub holding : Content → SmallStore
holding content = record { content = content; other = content; fault = None; failures = 0; is_clean = true }

-- a clean store of no token, at a boot
abbrev pub store_at : ℕ → SmallStore
store_at boot = holding (booted boot)

-- a clean store of no token, of which a stop may leave an earlier or a later boot
abbrev pub unsettled_at : ℕ → ℕ → SmallStore
unsettled_at boot other = record (store_at boot) { other = booted other }

-- a store of no token, broken by the disk at its first failure
abbrev pub broken_at : ℕ → SmallStore
broken_at boot = record (store_at boot) { fault = Some Disk; failures = 1 }

-- a store of no token over a disk that returned other data
abbrev pub fallen_at : ℕ → SmallStore
fallen_at boot = record (store_at boot) { is_clean = false }

-- a store at boot 0 with a fuse of one write, after `passed` writes; the write that blows the fuse is lost
abbrev pub fuse : ℕ → Bool → FuseRecord SmallStore
fuse passed is_blown = record { inner = store_at 0; writes = 1; passed = passed; after = false; is_blown = is_blown }

-- the same fuse, but the write that blows it is kept
abbrev pub keeping_fuse : ℕ → Bool → FuseRecord SmallStore
keeping_fuse passed is_blown = record (fuse passed is_blown) { after = true }

-- the contract's view of a store with a fuse
abbrev pub small_fuse : FuseRecord SmallStore → Held
small_fuse = fuse_held small_held

-- a call that succeeded, and one that met a failure of the disk
abbrev pub done : Result ℕ StoreFault
done = Ok 0

abbrev pub failed : Result ℕ StoreFault
failed = Err Disk

-- a call that got no memory
abbrev pub out_of_memory : Result ℕ StoreFault
out_of_memory = Err Memory

-- an opening that finds no boot left
abbrev pub spent : Result ℕ StoreFault
spent = Err Spent

-- the boot is the content's
abbrev pub IsBootOf : Content → ℕ → Type 0
IsBootOf content boot = boot ≡ content.boot

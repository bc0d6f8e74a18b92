-- The contract's view of a store, and the effects of its calls.
--
-- Each record below is a sentence about one call: `Writes held old new made result` says that the call took a store
-- from `old` to `new`, returned `result`, and writes `made`. `held` is the contract's view of a store.
use Rattle.std.specs.Prelude.{◌≡◌, ◌≢◌, ◌⊎◌, ℕ, ◌+◌, ◌^◌, ◌≤◌, length, Option, None, IsSome, Result, Err, IfOk, IfErr, OnOk, OnErr}
use Rattle.floor_store.specs.Content.{Content, with_next_boot}
use Rattle.floor_store.specs.Fault.{IsBrokenBy, IsCounted}
use Rattle.floor_store.specs.declared.fault.StoreFault.{StoreFault}
use Rattle.floor_store.specs.declared.fault.StoreFault.TheVariants.{Spent}

-- a store at one moment
pub record Held : Type 1 where
  -- the content
  pub content : Content
  -- the fault that broke the store, and the number of failures that it has met
  pub fault : Option StoreFault
  pub failures : ℕ
  -- The layers below have returned what was written. They may stop doing so at any call. From then on the contracts say
  -- nothing about the content.
  pub is_clean : Type 0
  -- the contents that a stop at this moment may leave
  pub leaves : Content → Type 0

-- a stop leaves the content, and nothing else
abbrev pub IsSettled : Held → Type 0
IsSettled store = (c : Content) → store.leaves c → c ≡ store.content

-- atomic: the content is the old one or the complete new one
abbrev pub OldOrNew : Content → Content → Content → Type 0
OldOrNew old made now = (now ≡ old) ⊎ (now ≡ made)

-- A read. Its value is right for the content; its error is the fault that broke the store.
pub record Reads {A : Type 0} (store : Held) (is_right : Content → A → Type 0)
    (result : Result A StoreFault) : Type 0 where
  pub ok : IfOk result (λ value. store.is_clean → is_right store.content value)
  pub intact : OnOk result (store.fault ≡ None)
  pub broken : IfErr result (IsBrokenBy store.fault)

-- The content becomes `made`, completely or not at all.
pub record Makes {S A E : Type 0} (held : S → Held) (old new : S) (made : Content)
    (result : Result A E) : Type 0 where
  -- After Ok the content is `made`, after Err `made` or the old one.
  pub ok : (held new).is_clean → OnOk result ((held new).content ≡ made)
  pub err : (held new).is_clean → OnErr result (OldOrNew (held old).content made (held new).content)
  -- A broken store stays unchanged, the count of failures never falls, and the layers below don't become clean again.
  pub stays : IsSome (held old).fault → new ≡ old
  pub count : (held old).failures ≤ (held new).failures
  pub clean : (held new).is_clean → (held old).is_clean
  -- the number of tokens stays
  pub tokens : length (held new).content.rows ≡ length (held old).content.rows

-- A call that puts `made`. A stop before the next commit may leave `made`, or a content that a stop before the call
-- could leave.
pub record Puts {S A E : Type 0} (held : S → Held) (old new : S) (made : Content)
    (result : Result A E) : Type 0 where
  pub makes : Makes held old new made result
  pub left : (c : Content) → (held new).leaves c → (held old).leaves c ⊎ (c ≡ made)
  -- after Ok the store is not broken, and was not before
  pub intact : OnOk result (((held old).fault ≡ None) × ((held new).fault ≡ None))

-- A call that writes `made`.
pub record Writes {S A E : Type 0} (held : S → Held) (old new : S) (made : Content)
    (result : Result A E) : Type 0 where
  pub makes : Makes held old new made result
  -- A stop leaves `made`, or a content that a stop before the call could leave; after Ok it leaves only the content.
  pub left : (c : Content) → (held new).leaves c → (held old).leaves c ⊎ (c ≡ made)
  pub settled : (held new).is_clean → OnOk result (IsSettled (held new))
  -- after Ok the store is not broken, and was not before
  pub intact : OnOk result (((held old).fault ≡ None) × ((held new).fault ≡ None))

-- The commit of all puts: the content stays, and after Ok a stop leaves nothing else. A stop during the commit leaves
-- the content, or one that a stop before the call could leave.
abbrev pub Commits : {S A E : Type 0} → (S → Held) → S → S → Result A E → Type 0
Commits held old new result = Writes held old new (held old).content result

-- A call that puts `made`, or finds it and puts nothing. `made` follows from rows that the call reads, which are right
-- if the store is clean.
pub record MayPut {S A E : Type 0} (held : S → Held) (old new : S) (made : Content)
    (result : Result A E) : Type 0 where
  pub makes : Makes held old new made result
  pub left : (held old).is_clean → (c : Content) → (held new).leaves c → (held old).leaves c ⊎ (c ≡ made)
  pub intact : (held old).fault ≡ None → OnOk result ((held new).fault ≡ None)

-- A call that writes `made`, or finds it and writes nothing, and commits. `made` follows from rows that the call reads,
-- which are right if the store is clean.
pub record MayWrite {S A E : Type 0} (held : S → Held) (old new : S) (made : Content)
    (result : Result A E) : Type 0 where
  pub makes : Makes held old new made result
  pub left : (held new).is_clean → (c : Content) → (held new).leaves c → (held old).leaves c ⊎ (c ≡ made)
  pub settled : (held new).is_clean → IsSettled (held old) → OnOk result (IsSettled (held new))
  pub intact : (held old).fault ≡ None → OnOk result ((held new).fault ≡ None)

-- The fault that the call returns broke the store: earlier, or by a failure that the call met and counted.
pub record Breaks {S : Type 0} (held : S → Held) (old new : S) (fault : StoreFault) : Type 0 where
  pub broken : IsBrokenBy (held new).fault fault
  pub counted : IsCounted (held old).fault (held old).failures (held new).failures fault

-- The write that raises the boot by one. `Spent` says that the boot is the last one: nothing changes or breaks.
pub record RaisesBoot {S A : Type 0} (held : S → Held) (old new : S) (result : Result A StoreFault) : Type 0 where
  pub writes : Writes held old new (with_next_boot (held old).content) result
  pub breaks : IfErr result (λ fault. fault ≢ Spent → Breaks held old new fault)
  pub spent : result ≡ Err Spent → (new ≡ old) × ((held old).fault ≡ None)
  pub last : result ≡ Err Spent → (held new).is_clean → (held old).content.boot + 1 ≡ 2 ^ 62

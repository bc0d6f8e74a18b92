-- Floors files that were read after the last acceptance are sufficient to replace a cluster.
--
-- The former and the new cluster are schedules of vote_core. Users may come and go between them, and tokens get other
-- numbers. Two tokens are the same if their users have the same name. Floor: the first free factor of a token at a
-- node.
use Rattle.std.specs.Prelude.{◌≡◌, ℕ, ◌+◌, ◌<◌, ◌≤◌, false, List, length, take, None, Some, IfSome, slice_get, slice_index}
use Rattle.otp_core.specs.Acceptance.{Acceptance}
use Rattle.token_file.specs.Credential.{Credential}
use Rattle.vote_core.specs.Safety.{IsDeliverable, MayOpen}
use Rattle.vote_core.specs.Schedule.{Envelope, Event, Opening, acceptances, envelopes, run, start}
use Rattle.floors_file.specs.Floors.{FloorsRecord}
use Rattle.floors_file.specs.Gathered.{anew_fault, gathered_floors, is_of_files, members_of}
use Rattle.floors_file.specs.declared.gathered.Asked.{Asked}
use Rattle.oathd_database.specs.Reach.{AreFound, IsReadAfter}

-- tokens of two books, by their numbers, with the same user
pub record IsSameUser (former book : List Credential) (old new : ℕ) : Type 0 where
  pub before : Credential
  pub before_is : slice_get former old ≡ Some before
  pub after : Credential
  pub after_is : slice_get book new ≡ Some after
  pub same : after.name ≡ before.name

-- the new acceptances for a user are above all former ones for the same user
abbrev pub AreAbove : List Credential → List Credential → List Acceptance → List Acceptance → Type 0
AreAbove former book old new = (i j : ℕ) (a b : Acceptance) → slice_get old i ≡ Some a → slice_get new j ≡ Some b
    → IsSameUser former book a.token b.token → a.hi < b.lo

module _ (n tokens : ℕ) (opening : Opening) (events : List Event) where
  -- nothing is accepted after the event `last`
  abbrev pub IsLastAcceptance : ℕ → Type 0
  IsLastAcceptance last = acceptances n tokens opening (take (last + 1) events) ≡ acceptances n tokens opening events

  -- the last boot of a node
  abbrev pub boot_at_last : ℕ → ℕ
  boot_at_last node = ((run 0 events (start n tokens opening)).nodes node).content.boot

  -- The file of a member was read after the event `last`. No store was created for the member in between, and it never
  -- had a later boot.
  pub record IsReadLast (last : ℕ) (former : List Credential) (file : FloorsRecord) : Type 0 where
    pub first : 1 ≤ file.head.node
    pub within : file.head.node ≤ n
    pub floors : IsReadAfter n tokens opening events last former file
    pub boot : boot_at_last file.head.node ≤ file.head.boot

  -- An envelope was sent in this schedule or before it, and is deliverable to one of `members` nodes with `count`
  -- tokens.
  pub record IsLeftOver (members count : ℕ) (envelope : Envelope) : Type 0 where
    pub number : ℕ
    pub sent : slice_get (envelopes n tokens opening events) number ≡ Some envelope
    pub fits : IsDeliverable members count envelope

  -- New members open on stores that are made of this cluster's files, for the users of a new users file.
  pub record AreMadeAnew (former book : List Credential) (files : List FloorsRecord) (members : ℕ)
      (next : Opening) : Type 0 where
    pub may : MayOpen n tokens opening
    -- each file was read after the last acceptance, and names are unique among tokens
    pub last : ℕ
    pub is_last : IsLastAcceptance last
    pub found : AreFound former
    pub read : (place : ℕ) → IfSome (slice_get files place) (IsReadLast last former)
    -- the files were accepted, and the first one has the right number of members
    pub asked : Asked
    pub taken : anew_fault asked book files ≡ None
    pub whole : members_of files ≡ n
    -- Files can't tell: a member without a file never had the asked boot or a later one.
    pub unread : (node : ℕ) → 1 ≤ node → node ≤ n → is_of_files node files ≡ false → boot_at_last node < asked.boot
    -- The new members open at the asked boot or above, and at the gathered floors or above. Each member imports users
    -- of no file by itself.
    pub boots : (node : ℕ) → 1 ≤ node → node ≤ members → asked.boot ≤ next.boot node
    pub own : ℕ → List ℕ
    pub each : (node : ℕ) → length (own node) ≡ length book
    pub floors : (node token : ℕ) → 1 ≤ node → node ≤ members → token < length book
        → slice_index (gathered_floors files book (own node)) token ≤ next.floor node token
    -- earlier envelopes may still be on their way
    pub old : (place : ℕ) → IfSome (slice_get next.old place) (IsLeftOver members (length book))

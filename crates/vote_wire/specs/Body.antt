-- The bytes of a peer's datagram before its tag, version 2. Every number has its high-order byte first. Floor: the
-- first free factor of a token.
use Rattle.std.specs.Prelude.{◌≡◌, ◌≢◌, ℕ, ◌+◌, ◌^◌, ◌<◌, ◌≤◌, ◌==◌, ◌&&◌, Bool, not, nat_lt, nat_le, if◌then◌else◌, List, ◌∷◌, ◌++◌, length, Option, Some, None}
use Rattle.std.specs.Int.{w32, w64, to_be_bytes}
use Rattle.otp_core.specs.Range.{IsFactor, IsNext}
use Rattle.floor_store.specs.Records.{ProposalRecord, span_of, SpanRecord}
use Rattle.floor_store.specs.Range.{IsProposal, IsSpan}
use Rattle.vote_core.specs.declared.message.Message.{Message}
use Rattle.vote_core.specs.declared.message.Message.TheVariants.{Ask, Grant, Deny, Floor}
use Rattle.vote_wire.specs.Bytes.{byte_at, word_at, number_at}

-- ---- the messages that have a spelling

-- two different members of a cluster, and a token of a book
pub record HasEnds (from to token : ℕ) : Type 0 where
  pub from_first : 1 ≤ from
  pub from_last : from ≤ 9
  pub to_first : 1 ≤ to
  pub to_last : to ≤ 9
  pub apart : from ≢ to
  pub token_below : token < 10000

-- a proposal of a node for one factor, or for two consecutive ones
pub record IsVoteOn (node : ℕ) (proposal : ProposalRecord) (span : SpanRecord) : Type 0 where
  pub in_range : IsProposal proposal
  pub of_node : proposal.node ≡ node
  pub lo_below : IsFactor span.lo
  pub hi_below : IsFactor span.hi
  pub spanned : IsSpan span.lo span.hi

-- a proposal of a node, and a floor
pub record IsDenialOf (node : ℕ) (proposal : ProposalRecord) (next : ℕ) : Type 0 where
  pub in_range : IsProposal proposal
  pub of_node : proposal.node ≡ node
  pub next_below : IsNext next

-- the messages with a spelling: an Ask is for a proposal of its sender, a Grant or a Deny for one of its receiver
abbrev pub HasSpelling : ℕ → ℕ → Message → Type 0
HasSpelling from to (Ask proposal token span) = HasEnds from to token × IsVoteOn from proposal span
HasSpelling from to (Grant proposal token span) = HasEnds from to token × IsVoteOn to proposal span
HasSpelling from to (Deny proposal token next) = HasEnds from to token × IsDenialOf to proposal next
HasSpelling from to (Floor token next) = HasEnds from to token × IsNext next

-- ---- the message of a body, by the places of its fields

-- `len` bytes, which begin with the mark, the version, the kind, the two ends and the token
pub record HasHead (body : List ℕ) (len kind from to token : ℕ) : Type 0 where
  pub number_of_bytes : length body ≡ len
  pub mark_0_at : byte_at body 0 ≡ 0x4f
  pub mark_1_at : byte_at body 1 ≡ 0x56
  pub version_at : byte_at body 2 ≡ 2
  pub kind_at : byte_at body 3 ≡ kind
  pub from_at : byte_at body 4 ≡ from
  pub to_at : byte_at body 5 ≡ to
  pub token_at : word_at body 6 ≡ token

-- the proposal after the head
pub record HasProposal (body : List ℕ) (proposal : ProposalRecord) : Type 0 where
  pub node_at : byte_at body 10 ≡ proposal.node
  pub boot_at : number_at body 11 ≡ proposal.boot
  pub seq_at : number_at body 19 ≡ proposal.seq

-- the factors of the span after the proposal
pub record HasFactors (body : List ℕ) (span : SpanRecord) : Type 0 where
  pub lo_at : number_at body 27 ≡ span.lo
  pub hi_at : number_at body 35 ≡ span.hi

-- the body of a message from one node to another, with its kind and length
abbrev pub SaysMessage : List ℕ → ℕ → ℕ → Message → Type 0
SaysMessage body from to (Ask proposal token span) =
    HasHead body 43 1 from to token × HasProposal body proposal × HasFactors body span
SaysMessage body from to (Grant proposal token span) =
    HasHead body 43 2 from to token × HasProposal body proposal × HasFactors body span
SaysMessage body from to (Deny proposal token next) =
    HasHead body 35 3 from to token × HasProposal body proposal × (number_at body 27 ≡ next)
SaysMessage body from to (Floor token next) = HasHead body 18 4 from to token × (number_at body 10 ≡ next)

-- the format of a body
abbrev pub IsBodyOf : List ℕ → ℕ → ℕ → Message → Type 0
IsBodyOf body from to message = HasSpelling from to message × SaysMessage body from to message

-- ---- the one spelling

-- the mark `OV`, the version, the kind, the two ends and the token
abbrev pub head_bytes : ℕ → ℕ → ℕ → ℕ → List ℕ
head_bytes kind from to token = 0x4f ∷ 0x56 ∷ 2 ∷ kind ∷ from ∷ to ∷ to_be_bytes w32 token

-- the node, the boot and the number of a proposal
abbrev pub proposal_bytes : ProposalRecord → List ℕ
proposal_bytes proposal =
    proposal.node ∷ to_be_bytes w64 proposal.boot ++ to_be_bytes w64 proposal.seq

-- a proposal and the factors of its span
abbrev pub vote_bytes : ProposalRecord → SpanRecord → List ℕ
vote_bytes proposal span = proposal_bytes proposal ++ to_be_bytes w64 span.lo ++ to_be_bytes w64 span.hi

-- the bytes of a message
abbrev pub body_bytes : ℕ → ℕ → Message → List ℕ
body_bytes from to (Ask proposal token span) = head_bytes 1 from to token ++ vote_bytes proposal span
body_bytes from to (Grant proposal token span) = head_bytes 2 from to token ++ vote_bytes proposal span
body_bytes from to (Deny proposal token next) =
    head_bytes 3 from to token ++ proposal_bytes proposal ++ to_be_bytes w64 next
body_bytes from to (Floor token next) = head_bytes 4 from to token ++ to_be_bytes w64 next

-- ---- reading

infixl 10 ◌>>=◌
-- the result of the next reader after the value of the first one, or None
abbrev pub ◌>>=◌ : {A B : Type 0} → Option A → (A → Option B) → Option B
None >>= next = None
(Some value) >>= next = next value

-- the value, if the test is true
abbrev pub only_if : {A : Type 0} → Bool → A → Option A
only_if test value = if test then Some value else None

-- whether the body begins with the mark, and the version follows
abbrev pub has_head : List ℕ → Bool
has_head body = (byte_at body 0 == 0x4f) && ((byte_at body 1 == 0x56) && (byte_at body 2 == 2))

-- whether the numbers may be the ends and the token of a message
abbrev pub has_ends : ℕ → ℕ → ℕ → Bool
has_ends from to token =
    nat_le 1 from && (nat_le from 9 && (nat_le 1 to && (nat_le to 9 && (not (from == to) && nat_lt token 10000))))

-- the proposal, if its numbers are in range
unfoldable pub proposal_at : List ℕ → Option ProposalRecord
proposal_at body =
    let node = byte_at body 10 in
    let boot = number_at body 11 in
    let seq = number_at body 19 in
    only_if (nat_le 1 node && (nat_le node 9 && (nat_lt boot (2 ^ 62) && nat_lt seq (2 ^ 62))))
    (record { node = node; boot = boot; seq = seq })

-- the factor at a place
unfoldable pub factor_at : List ℕ → ℕ → Option ℕ
factor_at body place = only_if (nat_lt (number_at body place) (2 ^ 62)) (number_at body place)

-- the floor at a place
unfoldable pub next_at : List ℕ → ℕ → Option ℕ
next_at body place = only_if (nat_le (number_at body place) (2 ^ 62)) (number_at body place)

-- a proposal of the node, and its span
unfoldable pub vote_at : List ℕ → ℕ → Option (ProposalRecord × SpanRecord)
vote_at body node = if not (length body == 43) then None else do
  proposal ← proposal_at body
  lo ← factor_at body 27
  hi ← factor_at body 35
  only_if ((proposal.node == node) && (nat_le lo hi && nat_le hi (lo + 1))) (proposal, span_of lo hi)

-- a proposal of the node, and a floor
unfoldable pub denial_at : List ℕ → ℕ → Option (ProposalRecord × ℕ)
denial_at body node = if not (length body == 35) then None else do
  proposal ← proposal_at body
  next ← next_at body 27
  only_if (proposal.node == node) (proposal, next)

-- a floor alone
unfoldable pub floor_at : List ℕ → Option ℕ
floor_at body = if not (length body == 18) then None else next_at body 10

-- the message of a kind
unfoldable pub message_at : List ℕ → ℕ → ℕ → ℕ → Option Message
message_at body from to token =
    if byte_at body 3 == 1 then (do
      vote ← vote_at body from
      Some (Ask vote.0 token vote.1))
    else if byte_at body 3 == 2 then (do
      vote ← vote_at body to
      Some (Grant vote.0 token vote.1))
    else if byte_at body 3 == 3 then (do
      denial ← denial_at body to
      Some (Deny denial.0 token denial.1))
    else if byte_at body 3 == 4 then (do
      next ← floor_at body
      Some (Floor token next))
    else None

-- the sender, the receiver and the message
unfoldable pub body_at : List ℕ → Option (ℕ × ℕ × Message)
body_at body =
    let from = byte_at body 4 in
    let to = byte_at body 5 in
    let token = word_at body 6 in
    if nat_lt (length body) 18 then None
    else if not (has_head body) then None
    else if not (has_ends from to token) then None
    else do
      message ← message_at body from to token
      Some (from, to, message)

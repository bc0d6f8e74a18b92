-- The datagrams of one token: numbered ones (version 2, under the bare key) have its number in a book, and named ones
-- (version 3, under the cluster's key) its name.
use Rattle.std.specs.Prelude.{ℕ, ◌+◌, ◌%◌, ◌^◌, ◌==◌, ◌&&◌, ◌||◌, Bool, true, false, not, nat_lt, nat_le, if◌then◌else◌, List, [], ◌∷◌, ◌++◌, length, take, drop, slice_get, Option, Some, None}
use Rattle.std.specs.Int.{w64, to_be_bytes}
use Rattle.named_wire.specs.Datagram.{datagram_at, datagram_bytes}
use Rattle.named_wire.specs.Head.{kind_byte, kind_of}
use Rattle.named_wire.specs.declared.head.Head.{Head}
use Rattle.named_wire.specs.declared.head.Kind.{Kind}
use Rattle.named_wire.specs.declared.head.Kind.TheVariants.{Ask, Grant, Deny, Floor, Floors}
use Rattle.floor_store.specs.Records.{ProposalRecord, SpanRecord}
use Rattle.vote_core.specs.declared.message.Message.{Message}
use Rattle.vote_core.specs.declared.message.Message.TheVariants.{Ask as AskOf, Grant as GrantOf, Deny as DenyOf, Floor as FloorOf}
use Rattle.vote_wire.specs.Body.{has_head, head_bytes, proposal_bytes, vote_bytes}
use Rattle.vote_wire.specs.Bytes.{byte_at, number_at, word_at}
use Rattle.vote_wire.specs.Datagram.{body_of}
use Rattle.vote_wire.specs.Key.{bare, tag_of}
use Rattle.named_port.specs.Names.{number_of}

-- ---- messages

-- the kind of the datagram of a message
abbrev pub kind_of_message : Message → Kind
kind_of_message (AskOf proposal token span) = Ask
kind_of_message (GrantOf proposal token span) = Grant
kind_of_message (DenyOf proposal token next) = Deny
kind_of_message (FloorOf token next) = Floor

-- the number of a message's token
abbrev pub token_of : Message → ℕ
token_of (AskOf proposal token span) = token
token_of (GrantOf proposal token span) = token
token_of (DenyOf proposal token next) = token
token_of (FloorOf token next) = token

-- the fields of a message after its token, in a numbered datagram
abbrev pub fields_of : Message → List ℕ
fields_of (AskOf proposal token span) = vote_bytes proposal span
fields_of (GrantOf proposal token span) = vote_bytes proposal span
fields_of (DenyOf proposal token next) = proposal_bytes proposal ++ to_be_bytes w64 next
fields_of (FloorOf token next) = to_be_bytes w64 next

-- The fields of a vote by name: the boot and the number of its proposal, its first factor, and the low byte of its last
-- one. The proposal's node is the sender of an Ask and the receiver of a Grant.
abbrev pub packed_vote_bytes : ProposalRecord → SpanRecord → List ℕ
packed_vote_bytes proposal span =
    to_be_bytes w64 proposal.boot ++ to_be_bytes w64 proposal.seq ++ to_be_bytes w64 span.lo ++ span.hi % 256 ∷ []

-- the fields of a message after its name, in a named datagram
abbrev pub packed_of : Message → List ℕ
packed_of (AskOf proposal token span) = packed_vote_bytes proposal span
packed_of (GrantOf proposal token span) = packed_vote_bytes proposal span
packed_of (DenyOf proposal token next) = proposal_bytes proposal ++ to_be_bytes w64 next
packed_of (FloorOf token next) = to_be_bytes w64 next

-- the named datagram of a message from a node in a boot to another node
abbrev pub named_bytes : List ℕ → ℕ → ℕ → ℕ → List ℕ → Message → List ℕ
named_bytes key boot from to name message =
    datagram_bytes key (record { kind = kind_of_message message; from = from; to = to; boot = boot })
    (name ++ packed_of message)

-- ---- packed

-- whether two numbers are the first and the last factor of a span
abbrev pub is_span : ℕ → ℕ → Bool
is_span first last = nat_le first last && nat_le last (first + 1)

-- The packed fields of a vote: without the node, and with the low byte of the last factor alone. None: the fields are
-- no vote for a proposal of the node and a span.
abbrev pub packed_vote : ℕ → List ℕ → Option (List ℕ)
packed_vote node fields =
    if (length fields == 33) && ((byte_at fields 0 == node) && is_span (number_at fields 17) (number_at fields 25))
    then Some (take 24 (drop 1 fields) ++ drop 32 fields)
    else None

-- the fields themselves, if they have at most 25 bytes
abbrev pub short_fields : List ℕ → Option (List ℕ)
short_fields fields = if nat_lt 25 (length fields) then None else Some fields

-- the fields of a named datagram for those of a numbered one, of a kind, from a node to another one
abbrev pub packed : Kind → ℕ → ℕ → List ℕ → Option (List ℕ)
packed Ask from to fields = packed_vote from fields
packed Grant from to fields = packed_vote to fields
packed Deny from to fields = short_fields fields
packed Floor from to fields = short_fields fields
packed Floors from to fields = None

-- the last factor of a span with a first factor, by the low byte of the last one: the first factor or the one after it
abbrev pub last_factor : ℕ → ℕ → Option ℕ
last_factor first low =
    if low == first % 256 then Some first
    else if (low == (first + 1) % 256) && nat_lt (first + 1) (2 ^ 64) then Some (first + 1)
    else None

-- the fields of a vote for a proposal of a node, with the last factor
abbrev pub with_last : ℕ → List ℕ → Option ℕ → Option (List ℕ)
with_last node front None = None
with_last node front (Some last) = Some (node ∷ front ++ to_be_bytes w64 last)

-- the fields of a vote for a proposal of a node, by packed ones
abbrev pub unpacked_vote : ℕ → List ℕ → Option (List ℕ)
unpacked_vote node fields =
    if length fields == 25
    then with_last node (take 24 fields) (last_factor (number_at fields 16) (byte_at fields 24))
    else None

-- the fields of a numbered datagram for those of a named one, of a kind, from a node to another one
abbrev pub unpacked : Kind → ℕ → ℕ → List ℕ → Option (List ℕ)
unpacked Ask from to fields = unpacked_vote from fields
unpacked Grant from to fields = unpacked_vote to fields
unpacked Deny from to fields = short_fields fields
unpacked Floor from to fields = short_fields fields
unpacked Floors from to fields = None

-- ---- named

-- whether the datagrams of a kind are of one token
abbrev pub is_of_one_token : Kind → Bool
is_of_one_token Ask = true
is_of_one_token Grant = true
is_of_one_token Deny = true
is_of_one_token Floor = true
is_of_one_token Floors = false

-- whether the bytes before a tag are of a numbered datagram: at least 18 bytes that begin with the mark and version 2
abbrev pub is_numbered : List ℕ → Bool
is_numbered front = not (nat_lt (length front) 18 || not (has_head front))

-- the head for the bytes before the tag of a numbered datagram, of a kind, from a node in a boot
abbrev pub named_head : List ℕ → ℕ → Kind → Head
named_head front boot kind = record { kind = kind; from = byte_at front 4; to = byte_at front 5; boot = boot }

-- the kind of a datagram of one token
abbrev pub token_kind_of : Option Kind → Option Kind
token_kind_of None = None
token_kind_of (Some kind) = if is_of_one_token kind then Some kind else None

-- the named datagram of a head with a name and packed fields
abbrev pub with_fields : List ℕ → Head → List ℕ → Option (List ℕ) → Option (List ℕ)
with_fields key head name None = None
with_fields key head name (Some fields) = Some (datagram_bytes key head (name ++ fields))

-- the named datagram of a kind with a name
abbrev pub with_name : List ℕ → ℕ → List ℕ → Option Kind → Option (List ℕ) → Option (List ℕ)
with_name key boot front None name = None
with_name key boot front (Some kind) None = None
with_name key boot front (Some kind) (Some name) =
    with_fields key (named_head front boot kind) name (packed kind (byte_at front 4) (byte_at front 5) (drop 10 front))

-- the named datagram for the bytes before the tag of a numbered one
unfoldable pub named_of : List ℕ → List (List ℕ) → ℕ → List ℕ → Option (List ℕ)
named_of key names boot front =
    if is_numbered front
    then with_name key boot front (token_kind_of (kind_of (byte_at front 3))) (slice_get names (word_at front 6))
    else None

-- The named datagram of a numbered one, from a node in a boot. None: the book has no token with the number, or the
-- bytes are no datagram of one token of version 2, or a vote of another node or without a span. The tag of the numbered
-- datagram is not looked at.
abbrev pub named_at : List ℕ → List (List ℕ) → ℕ → List ℕ → Option (List ℕ)
named_at key names boot bytes = if nat_lt (length bytes) 16 then None else named_of key names boot (body_of bytes)

-- ---- numbered

-- the bytes before the tag of a numbered datagram
abbrev pub numbered_front : Head → ℕ → List ℕ → List ℕ
numbered_front head number fields = head_bytes (kind_byte head.kind) head.from head.to number ++ fields

-- the numbered datagram of a head with the number of a token and the fields after it, under the bare key
abbrev pub numbered_bytes : Head → List ℕ → Option ℕ → Option (List ℕ)
numbered_bytes head fields None = None
numbered_bytes head fields (Some number) =
    Some (numbered_front head number fields ++ tag_of bare (numbered_front head number fields))

-- the numbered datagram of a head with the number of a token and fields, if there are both
abbrev pub with_number : Head → Option (List ℕ) → Option ℕ → Option (List ℕ)
with_number head None number = None
with_number head (Some fields) number = numbered_bytes head fields number

-- whether a head and a body are of one token: a name of 16 bytes, and at least 8 bytes of fields
abbrev pub is_named : Head → List ℕ → Bool
is_named head body = is_of_one_token head.kind && not (nat_lt (length body) 24)

-- The numbered datagram for the head and the body of a named one. None: the book has no token with the name, or the
-- datagram is of several tokens, or a vote whose last factor is neither its first one nor the one after it.
unfoldable pub numbered_of : List (List ℕ) → Head → List ℕ → Option (List ℕ)
numbered_of names head body =
    if is_named head body
    then with_number head (unpacked head.kind head.from head.to (drop 16 body)) (number_of names (take 16 body))
    else None

-- the numbered datagram for the head and the body that were read, if there are any
abbrev pub numbered_read : List (List ℕ) → Option (Head × List ℕ) → Option (List ℕ)
numbered_read names None = None
numbered_read names (Some read) = numbered_of names read.0 read.1

-- The numbered datagram of a named one under the key. None: the book has no token with the name, or the bytes are no
-- datagram of one token of version 3 with a right tag.
abbrev pub numbered_at : List ℕ → List (List ℕ) → List ℕ → Option (List ℕ)
numbered_at key names bytes = numbered_read names (datagram_at key bytes)

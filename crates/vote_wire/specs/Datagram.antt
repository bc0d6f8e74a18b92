-- The datagrams of peers, version 2: a body, and its tag under the cluster's key.
use Rattle.std.specs.Prelude.{◌≡◌, ℕ, ◌-◌, if◌then◌else◌, List, ◌++◌, length, take, drop, Option, None}
use Rattle.std.specs.Str.{bytes_eq}
use Rattle.vote_core.specs.declared.message.Message.{Message}
use Rattle.vote_wire.specs.Body.{IsBodyOf, body_at, body_bytes}
use Rattle.vote_wire.specs.Key.{tag_of}

-- the bytes before the tag
abbrev pub body_of : List ℕ → List ℕ
body_of bytes = take (length bytes - 16) bytes

-- the last 16 bytes
abbrev pub tag_at : List ℕ → List ℕ
tag_at bytes = drop (length bytes - 16) bytes

-- the last 16 bytes are the tag of the bytes before them
abbrev pub IsTagged : List ℕ → List ℕ → Type 0
IsTagged key bytes = tag_at bytes ≡ tag_of key (body_of bytes)

-- the peer format: a message from one node to another, under the key
abbrev pub IsDatagramOf : List ℕ → List ℕ → ℕ → ℕ → Message → Type 0
IsDatagramOf key bytes from to message = IsTagged key bytes × IsBodyOf (body_of bytes) from to message

-- the bytes of a message from one node to another
unfoldable pub datagram_bytes : List ℕ → ℕ → ℕ → Message → List ℕ
datagram_bytes key from to message = body_bytes from to message ++ tag_of key (body_bytes from to message)

-- the sender, the receiver and the message, if the tag is right
unfoldable pub datagram_at : List ℕ → List ℕ → Option (ℕ × ℕ × Message)
datagram_at key bytes = if bytes_eq (tag_at bytes) (tag_of key (body_of bytes)) then body_at (body_of bytes) else None

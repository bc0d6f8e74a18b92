-- Sealed datagrams, version 1: a head, a text, and the tag of both under a client's key. The tag of an answer also
-- covers the tag of its line, and the tag of a report the tag of its request.
use Rattle.std.specs.Prelude.{◌≡◌, ℕ, ◌-◌, ◌≤◌, if◌then◌else◌, List, ◌++◌, length, take, drop, Option, Some, None, nat_lt}
use Rattle.std.specs.Option.{option_map}
use Rattle.std.specs.Str.{bytes_eq}
use Rattle.sealed_wire.specs.Body.{body_bytes, head_at, text_of}
use Rattle.sealed_wire.specs.Bytes.{half_at}
use Rattle.sealed_wire.specs.Key.{tag_of}
use Rattle.sealed_wire.specs.declared.head.Head.{Head}

-- the bytes before the tag
abbrev pub body_of : List ℕ → List ℕ
body_of bytes = take (length bytes - 32) bytes

-- the last 32 bytes
abbrev pub tag_at : List ℕ → List ℕ
tag_at bytes = drop (length bytes - 32) bytes

-- the last 32 bytes are the tag of the bytes before them followed by the bound bytes
abbrev pub IsTagged : List ℕ → List ℕ → List ℕ → Type 0
IsTagged key bound bytes = tag_at bytes ≡ tag_of key (body_of bytes ++ bound)

-- the bytes of a head and a text under a key, with bound bytes
unfoldable pub sealed_bytes : List ℕ → List ℕ → Head → List ℕ → List ℕ
sealed_bytes key bound head text = body_bytes head text ++ tag_of key (body_bytes head text ++ bound)

-- the format
abbrev pub IsSealedOf : List ℕ → List ℕ → Head → List ℕ → List ℕ → Type 0
IsSealedOf key bound head text bytes = (length text ≤ 256) × (bytes ≡ sealed_bytes key bound head text)

-- the head and the text, if the tag is right
unfoldable pub sealed_at : List ℕ → List ℕ → List ℕ → Option (Head × List ℕ)
sealed_at key bound bytes =
    if bytes_eq (tag_at bytes) (tag_of key (body_of bytes ++ bound))
    then option_map (λ head. (head, text_of (body_of bytes))) (head_at (body_of bytes))
    else None

-- the client that a datagram names, whose key the tag must be under
abbrev pub client_of : List ℕ → Option ℕ
client_of bytes = if nat_lt (length bytes) 47 then None else Some (half_at bytes 4)

-- the head of a datagram, whatever its tag
abbrev pub head_of : List ℕ → Option Head
head_of bytes = head_at (body_of bytes)

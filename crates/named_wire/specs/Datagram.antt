-- Datagrams of version 3: a head, a body, and the tag of both under the cluster's key.
use Rattle.std.specs.Prelude.{◌≡◌, ℕ, ◌-◌, ◌≤◌, if◌then◌else◌, List, ◌++◌, length, take, drop, Option, None}
use Rattle.std.specs.Option.{option_map}
use Rattle.std.specs.Str.{bytes_eq}
use Rattle.named_wire.specs.Head.{IsHead, body_of, front_bytes, head_at}
use Rattle.named_wire.specs.declared.head.Head.{Head}
use Rattle.vote_wire.specs.Key.{tag_of}

-- the bytes before the tag
abbrev pub front_of : List ℕ → List ℕ
front_of bytes = take (length bytes - 16) bytes

-- the last 16 bytes
abbrev pub tag_at : List ℕ → List ℕ
tag_at bytes = drop (length bytes - 16) bytes

-- the last 16 bytes are the tag of the bytes before them
abbrev pub IsTagged : List ℕ → List ℕ → Type 0
IsTagged key bytes = tag_at bytes ≡ tag_of key (front_of bytes)

-- the bytes of a head and a body under a key
unfoldable pub datagram_bytes : List ℕ → Head → List ℕ → List ℕ
datagram_bytes key head body = front_bytes head body ++ tag_of key (front_bytes head body)

-- the format
pub record IsDatagramOf (key : List ℕ) (head : Head) (body bytes : List ℕ) : Type 0 where
  pub head_fits : IsHead head
  pub body_fits : length body ≤ 481
  pub spelling : bytes ≡ datagram_bytes key head body

-- the head and the body, if the tag is right
unfoldable pub datagram_at : List ℕ → List ℕ → Option (Head × List ℕ)
datagram_at key bytes =
    if bytes_eq (tag_at bytes) (tag_of key (front_of bytes))
    then option_map (λ head. (head, body_of (front_of bytes))) (head_at (front_of bytes))
    else None

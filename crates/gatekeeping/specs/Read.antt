-- The datagrams from members' addresses that a node reads.
use Rattle.std.specs.Prelude.{ℕ, ◌==◌, Bool, false, List, Option, Some, None}
use Rattle.vote_core.specs.declared.message.Message.{Message}
use Rattle.vote_wire.specs.Datagram.{datagram_at}

-- whether a datagram was read, and names this member as its sender
abbrev pub is_from : ℕ → Option (ℕ × ℕ × Message) → Bool
is_from number None = false
is_from number (Some read) = read.0 == number

-- whether a datagram from the address of member `number` is one that the member made under the key
abbrev pub is_read : List ℕ → ℕ → List ℕ → Bool
is_read key number bytes = is_from number (datagram_at key bytes)

-- The floor that a datagram of one token bears witness to.
use Rattle.std.specs.Prelude.{ℕ, ◌+◌, ◌^◌, ◌==◌, ◌&&◌, ◌||◌, nat_lt, if◌then◌else◌, List, length, take, drop, Option, Some, None}
use Rattle.named_port.specs.Wire.{last_factor}
use Rattle.named_wire.specs.Bytes.{byte_at, number_at}
use Rattle.floor_port.specs.Floors.{floor_with}
use Rattle.floor_port.specs.declared.floor.NamedFloor.{NamedFloor}

-- the floor of a token whose factors up to the given one are used up, if there is such a factor
abbrev pub floor_after : Option ℕ → Option ℕ
floor_after None = None
floor_after (Some last) = if nat_lt last (2 ^ 62) then Some (last + 1) else None

-- The floor that a datagram of version 3 tells of its token: an Ask and a Grant tell the factor after the last one of
-- their span, a Deny and a Floor tell the floor. A datagram of another length or kind tells none.
abbrev pub floor_told : List ℕ → Option ℕ
floor_told bytes =
    if (length bytes == 71) && ((byte_at bytes 3 == 1) || (byte_at bytes 3 == 2))
    then floor_after (last_factor (number_at bytes 46) (byte_at bytes 54))
    else if (length bytes == 71) && (byte_at bytes 3 == 3) then Some (number_at bytes 47)
    else if (length bytes == 54) && (byte_at bytes 3 == 4) then Some (number_at bytes 30)
    else None

-- the name with the floor, if there is a floor, and it is at most 2^62
abbrev pub witness_with : List ℕ → Option ℕ → Option NamedFloor
witness_with name None = None
witness_with name (Some next) = floor_with name next

-- the name of the token of a datagram, with the floor that the datagram tells
abbrev pub witness_of : List ℕ → Option NamedFloor
witness_of bytes = witness_with (take 16 (drop 14 bytes)) (floor_told bytes)

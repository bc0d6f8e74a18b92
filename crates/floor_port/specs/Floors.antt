-- Floors of tokens with names, and the bodies of the datagrams that tell them. Floor: the first free factor of a token.
use Rattle.std.specs.Prelude.{◌≡◌, ℕ, zero, suc, ◌+◌, ◌*◌, ◌^◌, ◌≤◌, ◌==◌, ◌&&◌, Bool, nat_lt, nat_le, if◌then◌else◌, List, [], ◌∷◌, ◌++◌, length, take, drop, slice_get, Option, Some, None}
use Rattle.std.specs.Int.{w64, to_be_bytes}
use Rattle.otp_core.specs.Range.{IsNext}
use Rattle.named_wire.specs.Bytes.{byte_at, number_at}
use Rattle.named_wire.specs.declared.head.Kind.{Kind}
use Rattle.named_wire.specs.declared.head.Kind.TheVariants.{Ask, Grant, Deny, Floor, Floors}
use Rattle.floor_port.specs.declared.floor.NamedFloor.{NamedFloor}

-- ---- written

-- the name of a token and its floor, high-order byte first
abbrev pub floor_bytes : NamedFloor → List ℕ
floor_bytes floor = floor.name ++ to_be_bytes w64 floor.next

-- floors, one after the other
abbrev pub all_bytes : List NamedFloor → List ℕ
all_bytes [] = []
all_bytes (floor ∷ floors) = floor_bytes floor ++ all_bytes floors

-- the body of a datagram that tells several floors: their number, and the floors
abbrev pub floors_body : List NamedFloor → List ℕ
floors_body floors = length floors ∷ all_bytes floors

-- a name of 16 bytes with a floor
pub record IsNamedFloor (floor : NamedFloor) : Type 0 where
  pub name_fits : length floor.name ≡ 16
  pub next_fits : IsNext floor.next

-- the format of a body: 1 to 20 floors
pub record IsBodyOf (floors : List NamedFloor) (body : List ℕ) : Type 0 where
  pub some : 1 ≤ length floors
  pub most : length floors ≤ 20
  pub each : (place : ℕ) (floor : NamedFloor) → slice_get floors place ≡ Some floor → IsNamedFloor floor
  pub spelling : body ≡ floors_body floors

-- ---- read

-- a name with a floor, if the floor is at most 2^62
abbrev pub floor_with : List ℕ → ℕ → Option NamedFloor
floor_with name next = if nat_lt (2 ^ 62) next then None else Some (record { name = name; next = next })

-- the floor at the beginning of the bytes
abbrev pub floor_at : List ℕ → Option NamedFloor
floor_at bytes = floor_with (take 16 bytes) (number_at bytes 16)

-- a floor before others, if there are both
abbrev pub with_first : Option NamedFloor → Option (List NamedFloor) → Option (List NamedFloor)
with_first None others = None
with_first (Some floor) None = None
with_first (Some floor) (Some floors) = Some (floor ∷ floors)

-- the given number of floors at the beginning of the bytes
abbrev pub floors_from : ℕ → List ℕ → Option (List NamedFloor)
floors_from zero bytes = Some []
floors_from (suc count) bytes = with_first (floor_at bytes) (floors_from count (drop 24 bytes))

-- whether the first byte of a body is a number from 1 to 20, and the body has the bytes of this number of floors
abbrev pub is_body : List ℕ → Bool
is_body body =
    nat_le 1 (byte_at body 0) && (nat_le (byte_at body 0) 20 && (length body == 1 + 24 * byte_at body 0))

-- the floors of a body of several
abbrev pub floors_at : List ℕ → Option (List NamedFloor)
floors_at body = if is_body body then floors_from (byte_at body 0) (drop 1 body) else None

-- the floors that the body of a datagram of a kind tells
abbrev pub told_in : Kind → List ℕ → Option (List NamedFloor)
told_in Ask body = None
told_in Grant body = None
told_in Deny body = None
told_in Floor body = if length body == 24 then floors_from 1 body else None
told_in Floors body = floors_at body

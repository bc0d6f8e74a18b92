-- The bytes of a datagram before its tag: a head and a body. Every number has its high-order byte first.
use Rattle.std.specs.Prelude.{ℕ, ◌^◌, ◌<◌, ◌==◌, ◌&&◌, ◌||◌, Bool, not, nat_le, nat_lt, if◌then◌else◌, List, ◌∷◌, ◌++◌, length, drop, Option, Some, None, IsTrue}
use Rattle.std.specs.Option.{option_map}
use Rattle.std.specs.Int.{w64, to_be_bytes}
use Rattle.named_wire.specs.Bytes.{byte_at, number_at}
use Rattle.named_wire.specs.declared.head.Head.{Head}
use Rattle.named_wire.specs.declared.head.Kind.{Kind}
use Rattle.named_wire.specs.declared.head.Kind.TheVariants.{Ask, Grant, Deny, Floor, Floors}

-- the byte of a kind
abbrev pub kind_byte : Kind → ℕ
kind_byte Ask = 1
kind_byte Grant = 2
kind_byte Deny = 3
kind_byte Floor = 4
kind_byte Floors = 5

-- the kind of a byte
abbrev pub kind_of : ℕ → Option Kind
kind_of byte =
    if byte == 1 then Some Ask
    else if byte == 2 then Some Grant
    else if byte == 3 then Some Deny
    else if byte == 4 then Some Floor
    else if byte == 5 then Some Floors
    else None

-- whether two numbers may be the ends of a datagram: 1 to 9, and different
abbrev pub are_ends : ℕ → ℕ → Bool
are_ends from to = nat_le 1 from && (nat_le from 9 && (nat_le 1 to && (nat_le to 9 && not (from == to))))

-- the fields are in range
pub record IsHead (head : Head) : Type 0 where
  pub ends : IsTrue (are_ends head.from head.to)
  pub boot_below : head.boot < 2 ^ 64

-- the mark `OV`, the version, the kind, the two ends and the boot
abbrev pub head_bytes : Head → List ℕ
head_bytes head = 0x4f ∷ 0x56 ∷ 3 ∷ kind_byte head.kind ∷ head.from ∷ head.to ∷ to_be_bytes w64 head.boot

-- a head and a body
abbrev pub front_bytes : Head → List ℕ → List ℕ
front_bytes head body = head_bytes head ++ body

-- whether the bytes begin with the mark, and the version follows
abbrev pub has_mark : List ℕ → Bool
has_mark front = (byte_at front 0 == 0x4f) && ((byte_at front 1 == 0x56) && (byte_at front 2 == 3))

-- the head of the bytes, of a kind
abbrev pub head_of : List ℕ → Kind → Head
head_of front kind =
    record { kind = kind; from = byte_at front 4; to = byte_at front 5; boot = number_at front 6 }

-- the head of the bytes, if a body of at most 481 bytes follows it
unfoldable pub head_at : List ℕ → Option Head
head_at front =
    if nat_lt (length front) 14 || nat_lt 495 (length front) then None
    else if not (has_mark front) then None
    else if not (are_ends (byte_at front 4) (byte_at front 5)) then None
    else option_map (head_of front) (kind_of (byte_at front 3))

-- the body after the head
abbrev pub body_of : List ℕ → List ℕ
body_of front = drop 14 front

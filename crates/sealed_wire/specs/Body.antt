-- The bytes of a sealed datagram before its tag. Every number has its high-order byte first.
use Rattle.std.specs.Prelude.{ℕ, ◌^◌, ◌<◌, ◌==◌, ◌&&◌, ◌||◌, Bool, not, nat_lt, if◌then◌else◌, List, ◌∷◌, ◌++◌, length, drop, Option, Some, None}
use Rattle.std.specs.Option.{option_map}
use Rattle.std.specs.Int.{w16, w64, to_be_bytes}
use Rattle.sealed_wire.specs.Bytes.{byte_at, half_at, number_at}
use Rattle.sealed_wire.specs.declared.head.Head.{Head}
use Rattle.sealed_wire.specs.declared.head.Kind.{Kind}
use Rattle.sealed_wire.specs.declared.head.Kind.TheVariants.{Line, Answer, Request, Report}

-- the byte of a kind
abbrev pub kind_byte : Kind → ℕ
kind_byte Line = 1
kind_byte Answer = 2
kind_byte Request = 3
kind_byte Report = 4

-- the kind of a byte
abbrev pub kind_of : ℕ → Option Kind
kind_of byte =
    if byte == 1 then Some Line
    else if byte == 2 then Some Answer
    else if byte == 3 then Some Request
    else if byte == 4 then Some Report
    else None

-- the fields are in range
pub record IsHead (head : Head) : Type 0 where
  pub client_below : head.client < 2 ^ 16
  pub node_below : head.node < 2 ^ 8
  pub moment_below : head.moment < 2 ^ 64

-- the mark `OS`, the version, the kind, the client, the node and the moment
abbrev pub head_bytes : Head → List ℕ
head_bytes head =
    0x4f ∷ 0x53 ∷ 1 ∷ kind_byte head.kind ∷ to_be_bytes w16 head.client ++ (head.node ∷ to_be_bytes w64 head.moment)

-- a head and a text
abbrev pub body_bytes : Head → List ℕ → List ℕ
body_bytes head text = head_bytes head ++ text

-- whether the body begins with the mark, and the version follows
abbrev pub has_mark : List ℕ → Bool
has_mark body = (byte_at body 0 == 0x4f) && ((byte_at body 1 == 0x53) && (byte_at body 2 == 1))

-- the head of a body of a kind
abbrev pub head_of : List ℕ → Kind → Head
head_of body kind =
    record { kind = kind; client = half_at body 4; node = byte_at body 6; moment = number_at body 7 }

-- the head of a body of at most the given length
abbrev pub head_within : ℕ → List ℕ → Option Head
head_within most body =
    if nat_lt (length body) 15 || nat_lt most (length body) then None
    else if not (has_mark body) then None
    else option_map (head_of body) (kind_of (byte_at body 3))

-- the head of a body, if a text of at most 256 bytes follows it
unfoldable pub head_at : List ℕ → Option Head
head_at body = head_within 271 body

-- the text after the head
abbrev pub text_of : List ℕ → List ℕ
text_of body = drop 15 body

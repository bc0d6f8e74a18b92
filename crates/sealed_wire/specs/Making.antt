-- The datagrams that the holders of a key seal, and what a reader of a datagram learns.
use Rattle.std.specs.Prelude.{◌≡◌, ℕ, ◌≤◌, List, ◌++◌, length, Some, slice_get}
use Rattle.sealed_wire.specs.Body.{IsHead, body_bytes}
use Rattle.sealed_wire.specs.Key.{tag_of}
use Rattle.sealed_wire.specs.Sealed.{IsTagged, body_of}
use Rattle.sealed_wire.specs.declared.head.Head.{Head}
use Rattle.sealed_wire.specs.declared.head.Kind.{Kind}
use Rattle.sealed_wire.specs.declared.head.Kind.TheVariants.{Line, Answer, Request, Report}

-- a head and a text that a holder of the key sealed, and the bytes that they were bound to
pub record Making : Type 0 where
  pub bound : List ℕ
  pub head : Head
  pub text : List ℕ

-- the text under the tag
abbrev pub tagged_text : Making → List ℕ
tagged_text making = body_bytes making.head making.text ++ making.bound

-- the tag of a making
abbrev pub making_tag : List ℕ → Making → List ℕ
making_tag key making = tag_of key (tagged_text making)

-- the number of bytes that a kind is bound to: 0 for a line and a request, a tag for an answer and a report
abbrev pub bound_len : Kind → ℕ
bound_len Line = 0
bound_len Answer = 32
bound_len Request = 0
bound_len Report = 32

-- the maximum length of the text of a kind
abbrev pub text_len : Kind → ℕ
text_len Line = 256
text_len Answer = 256
text_len Request = 256
text_len Report = 1024

-- the making is in the format
pub record IsMaking (making : Making) : Type 0 where
  pub head_in_range : IsHead making.head
  pub text_fits : length making.text ≤ text_len making.head.kind
  pub bound_fits : length making.bound ≡ bound_len making.head.kind

-- the making is in the list
pub record IsMade (made : List Making) (making : Making) : Type 0 where
  pub place : ℕ
  pub is_there : slice_get made place ≡ Some making

-- two texts with the same tag are the same text
abbrev pub IsApart : List ℕ → List ℕ → List ℕ → Type 0
IsApart key text other = tag_of key text ≡ tag_of key other → text ≡ other

-- All makings of the holders of the key. Each is in the format, and no two of different texts have the same tag.
pub record AreMakings (key : List ℕ) (made : List Making) : Type 0 where
  pub formed : (making : Making) → IsMade made making → IsMaking making
  pub apart : (making other : Making) → IsMade made making → IsMade made other
      → making_tag key making ≡ making_tag key other → tagged_text making ≡ tagged_text other

-- a text that a holder of the key tagged
pub record WasTagged (made : List Making) (text : List ℕ) : Type 0 where
  pub making : Making
  pub is_made : IsMade made making
  pub text_is : tagged_text making ≡ text

-- No forgery: if the datagram's tag is right with the bound bytes, a holder of the key tagged its text.
abbrev pub IsUnforged : List ℕ → List Making → List ℕ → List ℕ → Type 0
IsUnforged key made bound bytes = IsTagged key bound bytes → WasTagged made (body_of bytes ++ bound)

-- An answer that a client reads from a datagram with its line's tag as bound bytes. A holder of the key made the answer
-- for the tag, and of all makings only the client's line has the tag. A report is so to an operator's request.
pub record IsAnswerTo (key : List ℕ) (made : List Making) (line : Making) (head : Head) (answer : List ℕ) : Type 0 where
  pub is_made : IsMade made (record { bound = making_tag key line; head = head; text = answer })
  pub only : (other : Making) → IsMade made other → making_tag key other ≡ making_tag key line → other ≡ line

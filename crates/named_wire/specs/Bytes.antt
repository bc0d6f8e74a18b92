-- Fields of a text of bytes, by their places.
use Rattle.std.specs.Prelude.{ℕ, ◌<◌, List, drop, slice_index}
use Rattle.std.specs.Int.{w64, from_be_bytes}

-- all elements are bytes
abbrev pub AreBytes : List ℕ → Type 0
AreBytes bytes = (i : ℕ) → slice_index bytes i < 256

-- the byte at a place
abbrev pub byte_at : List ℕ → ℕ → ℕ
byte_at bytes place = slice_index bytes place

-- the eight bytes from a place on, high-order byte first
abbrev pub number_at : List ℕ → ℕ → ℕ
number_at bytes place = from_be_bytes w64 (drop place bytes)

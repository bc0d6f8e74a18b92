-- Names in the order of a book's rows, and their index.
use Rattle.std.specs.Prelude.{◌≡◌, ℕ, ◌+◌, ◌≤◌, if◌then◌else◌, List, [], ◌∷◌, length, Option, Some, None}
use Rattle.std.specs.Int.{w128, from_be_bytes}
use Rattle.std.specs.Ordering.{nat_cmp}
use Rattle.std.specs.Str.{bytes_eq}
use Rattle.std.specs.BTreeMap as tree
use Rattle.std.specs.BTreeMap.{BTreeMap}
use Rattle.named_wire.specs.Bytes.{AreBytes}
use Rattle.token_names.specs.Names.{AreDistinct}

-- the place of the first name that is `name`, counted from `number`, or None
abbrev pub number_from : ℕ → List (List ℕ) → List ℕ → Option ℕ
number_from number [] name = None
number_from number (other ∷ names) name =
    if bytes_eq other name then Some number else number_from (number + 1) names name

-- the number of the token with a name: its place from 0, or None
abbrev pub number_of : List (List ℕ) → List ℕ → Option ℕ
number_of names name = number_from 0 names name

-- a name is of 16 bytes
pub record IsName (name : List ℕ) : Type 0 where
  pub len : length name ≡ 16
  pub bytes : AreBytes name

-- the value of a name: the number that its 16 bytes write, the highest first
abbrev pub value_of : List ℕ → ℕ
value_of name = from_be_bytes w128 name

-- under the value of each name the index has its number, and that of no other
abbrev pub HasNumbers : List (List ℕ) → BTreeMap ℕ ℕ → Type 0
HasNumbers names index = (name : List ℕ) → IsName name → tree.get nat_cmp index (value_of name) ≡ number_of names name

-- at most 10,000 names, no two of which are the same, and their index
pub record IsIndexed (names : List (List ℕ)) (index : BTreeMap ℕ ℕ) : Type 0 where
  pub few : length names ≤ 10000
  pub distinct : AreDistinct names
  pub numbers : HasNumbers names index

-- The text of a floors file.
use Rattle.std.specs.Prelude.{◌≡◌, ℕ, ◌≤◌, ◌^◌, false, true, List, [], ◌∷◌, ◌++◌, length, codes}
use Rattle.std.specs.Fmt.{decimal}
use Rattle.std.specs.List.{flat_map}
use Rattle.field_text.specs.Word.{is_word}
use Rattle.floors_file.specs.declared.floors.Floor.{Floor}
use Rattle.floors_file.specs.declared.floors.Head.{Head}
use Rattle.floors_file.specs.Floors.{FloorRecord, FloorsRecord, floor_value}
use Rattle.floors_file.specs.Reading.{has_user, is_head}

-- the first line: the node, the members, the boot, the moment and the number of rows
unfoldable pub head_text : Head → ℕ → List ℕ
head_text head tokens =
    codes "floors 1 " ++ decimal head.node ++ 32 ∷ decimal head.members ++ 32 ∷ decimal head.boot
    ++ 32 ∷ decimal head.moment ++ 32 ∷ decimal tokens ++ 10 ∷ []

-- the line of a user
unfoldable pub row_text : FloorRecord → List ℕ
row_text row = row.user ++ 32 ∷ decimal row.next ++ 10 ∷ []

-- the line of a row's value
abbrev pub floor_text : Floor → List ℕ
floor_text floor = row_text (floor_value floor)

-- the whole text
abbrev pub floors_text : FloorsRecord → List ℕ
floors_text floors = head_text floors.head (length floors.rows) ++ flat_map row_text floors.rows

-- rows of users, each of whom is in no row before
abbrev pub AreRows : List FloorRecord → List FloorRecord → Type 0
AreRows before [] = Unit {0}
AreRows before (row ∷ rows) =
    (is_word row.user ≡ true) × (row.next ≤ 2 ^ 62) × (has_user row.user before ≡ false)
    × AreRows (before ++ row ∷ []) rows

-- the ranges of a floors file: numbers in their ranges, at most 10,000 rows, distinct users
pub record AreFloors (floors : FloorsRecord) : Type 0 where
  pub head : is_head 10000 (record { head = floors.head; tokens = length floors.rows }) ≡ true
  pub rows : AreRows [] floors.rows

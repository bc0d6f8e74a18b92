-- The text of a floors file by names.
use Rattle.std.specs.Prelude.{◌≡◌, ℕ, ◌≤◌, ◌^◌, false, true, List, [], ◌∷◌, ◌++◌, length, codes}
use Rattle.std.specs.Fmt.{decimal}
use Rattle.std.specs.List.{flat_map}
use Rattle.field_text.specs.Word.{is_word}
use Rattle.hex.specs.Hex.{IsBytes, encode_lower}
use Rattle.floors_file.specs.declared.named.HeardBoot.{HeardBoot}
use Rattle.floors_file.specs.declared.named.NamedFloor.{NamedFloor}
use Rattle.floors_file.specs.Named.{NamedFloorsRecord, NamedHeadRecord}
use Rattle.floors_file.specs.NamedReading.{is_heard_next, is_heard_ranged, is_named_head, is_names_word}
use Rattle.floors_file.specs.NamedRows.{has_name}
use Rattle.floors_file.specs.Sealed.{sealed}

-- the first line: the node, the members, the boot, the moment, the number of rows, the names word and the life
unfoldable pub named_head_text : NamedHeadRecord → ℕ → List ℕ
named_head_text head rows =
    codes "floors 2 " ++ decimal head.node ++ 32 ∷ decimal head.members ++ 32 ∷ decimal head.boot
    ++ 32 ∷ decimal head.moment ++ 32 ∷ decimal rows ++ 32 ∷ head.names ++ 32 ∷ head.life ++ 10 ∷ []

-- the line of a name
unfoldable pub named_row_text : NamedFloor → List ℕ
named_row_text row = encode_lower row.name ++ 32 ∷ encode_lower row.seed ++ 32 ∷ decimal row.next ++ 10 ∷ []

-- the line of a boot that the node heard
unfoldable pub heard_text : HeardBoot → List ℕ
heard_text one = codes "heard " ++ decimal one.member ++ 32 ∷ decimal one.boot ++ 10 ∷ []

-- all lines before the MAC
abbrev pub body_text : NamedFloorsRecord → List ℕ
body_text floors =
    named_head_text floors.head (length floors.rows)
    ++ (flat_map named_row_text floors.rows ++ flat_map heard_text floors.heard)

-- the whole text
abbrev pub named_floors_text : List ℕ → NamedFloorsRecord → List ℕ
named_floors_text key floors = sealed key (body_text floors)

-- a row whose name and seed have 16 bytes, and whose name is in no row before
pub record IsNamedRow (before : List NamedFloor) (row : NamedFloor) : Type 0 where
  pub len : length row.name ≡ 16
  pub bytes : IsBytes row.name
  pub seed_len : length row.seed ≡ 16
  pub seed_bytes : IsBytes row.seed
  pub next : row.next ≤ 2 ^ 62
  pub new : has_name row.name before ≡ false

-- rows of names, each of which is in no row before
abbrev pub AreNamedRows : List NamedFloor → List NamedFloor → Type 0
AreNamedRows before [] = Unit {0}
AreNamedRows before (row ∷ rows) = IsNamedRow before row × AreNamedRows (before ++ row ∷ []) rows

-- boots of other members than the node, by ascending members
abbrev pub AreHeard : NamedHeadRecord → List HeardBoot → List HeardBoot → Type 0
AreHeard head before [] = Unit {0}
AreHeard head before (one ∷ heard) =
    (is_heard_ranged head one ≡ true) × (is_heard_next head before one ≡ true)
    × AreHeard head (before ++ one ∷ []) heard

-- the ranges of a floors file by names
pub record AreNamedFloors (floors : NamedFloorsRecord) : Type 0 where
  pub word : is_names_word floors.head.names ≡ true
  pub life : is_word floors.head.life ≡ true
  pub head : is_named_head (record { head = floors.head; rows = length floors.rows }) ≡ true
  pub rows : AreNamedRows [] floors.rows
  pub heard : AreHeard floors.head [] floors.heard

-- The content of a floors file. Floor: the first free factor of a token at a node.
use Rattle.std.specs.Prelude.{ℕ, List, map}
use Rattle.floors_file.specs.declared.floors.Floors.{Floors}
use Rattle.floors_file.specs.declared.floors.Floor.{Floor}
use Rattle.floors_file.specs.declared.floors.Head.{Head}

-- a user, and the floor of its token
pub record FloorRecord : Type 0 where
  pub user : List ℕ
  pub next : ℕ

-- the node, the time of reading, and a row for each token
pub record FloorsRecord : Type 0 where
  pub head : Head
  pub rows : List FloorRecord

-- the value of a row
abbrev pub floor_value : Floor → FloorRecord
floor_value floor = record { user = floor.user.now; next = floor.next }

-- the value of floors
abbrev pub floors_value : Floors → FloorsRecord
floors_value floors = record { head = floors.head; rows = map floor_value floors.rows.items }

-- The content of a floors file by names. Floor: the first free factor of a token at a node.
use Rattle.std.specs.Prelude.{ℕ, List}
use Rattle.floors_file.specs.declared.floors.Head.{Head}
use Rattle.floors_file.specs.declared.named.HeardBoot.{HeardBoot}
use Rattle.floors_file.specs.declared.named.NamedFloor.{NamedFloor}
use Rattle.floors_file.specs.declared.named.NamedFloors.{NamedFloors}
use Rattle.floors_file.specs.declared.named.NamedHead.{NamedHead}

-- the node, the time of reading, and the cluster
pub record NamedHeadRecord : Type 0 where
  pub node : ℕ
  pub members : ℕ
  pub boot : ℕ
  pub moment : ℕ
  pub names : List ℕ
  pub life : List ℕ

-- the head, a row for each row of the store, and the boots that the node heard
pub record NamedFloorsRecord : Type 0 where
  pub head : NamedHeadRecord
  pub rows : List NamedFloor
  pub heard : List HeardBoot

-- the value of a head
abbrev pub named_head_value : NamedHead → NamedHeadRecord
named_head_value head = record {
  node = head.node;
  members = head.members;
  boot = head.boot;
  moment = head.moment;
  names = head.names.now;
  life = head.life.now;
}

-- the value of floors
abbrev pub named_value : NamedFloors → NamedFloorsRecord
named_value floors =
    record { head = named_head_value floors.head; rows = floors.rows.items; heard = floors.heard.items }

-- the node and the time of reading, as a file by users has them
abbrev pub plain_head : NamedHeadRecord → Head
plain_head head =
    record { node = head.node; members = head.members; boot = head.boot; moment = head.moment }

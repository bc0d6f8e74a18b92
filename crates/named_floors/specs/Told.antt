-- The floors file by names of a node, from its store and the boots that it heard. Floor: the first free factor of a
-- token at a node.
use Rattle.std.specs.Prelude.{ℕ, ◌+◌, ◌==◌, nat_le, nat_lt, Bool, not, ◌&&◌, List, [], ◌∷◌, ◌++◌, if◌then◌else◌}
use Rattle.floor_store.specs.Content.{Content}
use Rattle.floor_store.specs.Records.{RowRecord}
use Rattle.floors_file.specs.declared.named.HeardBoot.{HeardBoot}
use Rattle.floors_file.specs.declared.named.NamedFloor.{NamedFloor}
use Rattle.floors_file.specs.Named.{NamedFloorsRecord, NamedHeadRecord}
use Rattle.roster_sql.specs.declared.entry.Entry.{Entry}
use Rattle.named_floors.specs.declared.told.TellingNode.{TellingNode}

-- the node that tells its floors, the time, and its cluster
pub record TellingRecord : Type 0 where
  pub node : ℕ
  pub members : ℕ
  pub moment : ℕ
  pub names : List ℕ
  pub life : List ℕ

-- the value of a telling node
abbrev pub telling_value : TellingNode → TellingRecord
telling_value telling = record {
  node = telling.node;
  members = telling.members;
  moment = telling.moment;
  names = telling.names.now;
  life = telling.life.now;
}

-- the head of its file, at a boot
abbrev pub told_head : TellingRecord → ℕ → NamedHeadRecord
told_head telling boot = record {
  node = telling.node;
  members = telling.members;
  boot = boot;
  moment = telling.moment;
  names = telling.names;
  life = telling.life;
}

-- the row of an entry, with a floor
abbrev pub told_row : Entry → ℕ → NamedFloor
told_row entry next = record { name = entry.name; seed = entry.seed; next = next }

-- the names and the seeds of the entries in order, with the floors of their rows
abbrev pub told_rows : List Entry → List RowRecord → List NamedFloor
told_rows [] rows = []
told_rows (entry ∷ roster) [] = []
told_rows (entry ∷ roster) (row ∷ rows) = told_row entry row.next ∷ told_rows roster rows

-- whether the file has a boot: it is above 0, and of a member other than the node
abbrev pub is_told : ℕ → ℕ → ℕ → ℕ → Bool
is_told node members member boot =
    nat_le 1 member && nat_le member members && not (member == node) && nat_lt 0 boot

-- the boot of a member, if the file has it
abbrev pub told_boot : ℕ → ℕ → ℕ → ℕ → List HeardBoot
told_boot node members member boot =
    if is_told node members member boot then record { member = member; boot = boot } ∷ [] else []

-- the boots that the file has, if the first one is of `member`
abbrev pub told_from : ℕ → ℕ → ℕ → List ℕ → List HeardBoot
told_from node members member [] = []
told_from node members member (boot ∷ heard) =
    told_boot node members member boot ++ told_from node members (member + 1) heard

-- the boots that the file has, from the greatest boot that was heard of each number from 0 on
abbrev pub told_heard : ℕ → ℕ → List ℕ → List HeardBoot
told_heard node members heard = told_from node members 0 heard

-- the floors file of a node, from the content of its store with the entries `roster`
abbrev pub told_named : TellingRecord → List Entry → List ℕ → Content → NamedFloorsRecord
told_named telling roster heard content = record {
  head = told_head telling content.boot;
  rows = told_rows roster content.rows;
  heard = told_heard telling.node telling.members heard;
}

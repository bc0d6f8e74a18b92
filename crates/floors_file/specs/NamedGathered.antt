-- The faults of several floors files by names together, and their greatest floors.
use Rattle.std.specs.Prelude.{◌≡◌, ℕ, zero, suc, ◌+◌, ◌≤◌, ◌==◌, nat_le, nat_lt, Bool, true, false, not, ◌&&◌, ◌||◌, List, [], ◌∷◌, length, Option, Some, None, option_map, IsSomeAnd, if◌then◌else◌}
use Rattle.std.specs.List.{AllByRecursion, flat_map, list_any}
use Rattle.std.specs.Option.{option_or}
use Rattle.std.specs.Str.{bytes_eq}
use Rattle.floors_file.specs.declared.gathered.Asked.{Asked}
use Rattle.floors_file.specs.declared.gathered.FileFault.{FileFault}
use Rattle.floors_file.specs.declared.gathered.FileFault.TheVariants.{IsLost, SameNode, Cluster, Older, Boot}
use Rattle.floors_file.specs.declared.gathered.FilesFault.{FilesFault}
use Rattle.floors_file.specs.declared.gathered.FilesFault.TheVariants.{File, NotLost, Missing, TooManyLost}
use Rattle.floors_file.specs.declared.named.HeardBoot.{HeardBoot}
use Rattle.floors_file.specs.declared.named.NamedFloor.{NamedFloor}
use Rattle.floors_file.specs.Gathered.{count_fault, is_among, is_enough}
use Rattle.floors_file.specs.Named.{NamedFloorsRecord, NamedHeadRecord}
use Rattle.floors_file.specs.NamedRows.{has_name, with_row}

-- ---- one file

-- whether one of the files is a node's
abbrev pub is_of_named : ℕ → List NamedFloorsRecord → Bool
is_of_named node files = list_any (λ file. file.head.node == node) files

-- whether two heads are of one cluster
abbrev pub is_same_cluster : NamedHeadRecord → NamedHeadRecord → Bool
is_same_cluster head other =
    bytes_eq head.names other.names && bytes_eq head.life other.life && head.members == other.members

-- whether a head is of the first file's cluster
abbrev pub is_of_cluster : List NamedFloorsRecord → NamedHeadRecord → Bool
is_of_cluster [] head = true
is_of_cluster (first ∷ files) head = is_same_cluster head first.head

-- whether the store of a member is made: the given node's, or each member's if no node is given
abbrev pub is_made : Option ℕ → ℕ → Bool
is_made None member = true
is_made (Some node) member = member == node

-- whether a boot is not above one that was heard of a member whose store is made
abbrev pub is_heard : ℕ → Option ℕ → List HeardBoot → Bool
is_heard boot made heard = list_any (λ one. is_made made one.member && nat_le boot one.boot) heard

-- the fault of a file, by the lost nodes, the store that is made, all files, and the files after it
abbrev pub named_fault :
    Asked → List ℕ → Option ℕ → List NamedFloorsRecord → List NamedFloorsRecord → NamedFloorsRecord → Option FileFault
named_fault asked lost made all later file =
    if is_among file.head.node lost then Some IsLost
    else if is_of_named file.head.node later then Some SameNode
    else if not (is_of_cluster all file.head) then Some Cluster
    else if nat_lt file.head.moment asked.since then Some Older
    else if nat_le asked.boot file.head.boot || is_heard asked.boot made file.heard then Some Boot
    else None

-- ---- all files

-- the number of members, by the first file
abbrev pub named_members : List NamedFloorsRecord → ℕ
named_members [] = 0
named_members (file ∷ files) = file.head.members

-- the first file with a fault, from a place on
abbrev pub named_files_fault :
    Asked → List ℕ → Option ℕ → List NamedFloorsRecord → ℕ → List NamedFloorsRecord → Option FilesFault
named_files_fault asked lost made all place [] = None
named_files_fault asked lost made all place (file ∷ files) =
    option_or (option_map (File (place + 1)) (named_fault asked lost made all files file))
    (named_files_fault asked lost made all (place + 1) files)

-- the first of `count` nodes that is neither lost nor has a file
abbrev pub named_missing_from : List ℕ → List NamedFloorsRecord → ℕ → ℕ → Option FilesFault
named_missing_from lost files node zero = None
named_missing_from lost files node (suc count) =
    if is_among node lost || is_of_named node files then named_missing_from lost files (node + 1) count
    else Some (Missing node)

-- the reason why the files are insufficient to replace the store of a lost node: the first fault, in the given order
abbrev pub named_lost_fault : Asked → ℕ → List ℕ → List NamedFloorsRecord → Option FilesFault
named_lost_fault asked node lost files =
    if is_among node lost
    then option_or (named_files_fault asked lost (Some node) files 0 files)
    (option_or (named_missing_from lost files 1 (named_members files))
    (count_fault (named_members files) (length lost) (length files)))
    else Some NotLost

-- the reason why the files are insufficient to replace the stores of a whole cluster
abbrev pub named_anew_fault : Asked → List NamedFloorsRecord → Option FilesFault
named_anew_fault asked files =
    option_or (named_files_fault asked [] None files 0 files)
    (if is_enough (named_members files) (length files) then None else Some TooManyLost)

-- ---- the result

-- the rows, with more rows in their order
abbrev pub with_rows : List NamedFloor → List NamedFloor → List NamedFloor
with_rows rows [] = rows
with_rows rows (row ∷ more) = with_rows (with_row rows row) more

-- the rows, with the rows of more files in their order
abbrev pub with_files : List NamedFloor → List NamedFloorsRecord → List NamedFloor
with_files rows [] = rows
with_files rows (file ∷ files) = with_files (with_rows rows file.rows) files

-- each name of any file with its first seed and its greatest floor, in order of first appearance
abbrev pub gathered_rows : List NamedFloorsRecord → List NamedFloor
gathered_rows files = with_files [] files

-- ---- the greatest floors

-- the rows of all files in order
abbrev pub rows_of : List NamedFloorsRecord → List NamedFloor
rows_of files = flat_map (λ file. file.rows) files

-- the floor of the first row with a name
abbrev pub floor_of_name : List ℕ → List NamedFloor → Option ℕ
floor_of_name name [] = None
floor_of_name name (row ∷ rows) = if bytes_eq row.name name then Some row.next else floor_of_name name rows

-- the seed of the first row with a name
abbrev pub seed_of_name : List ℕ → List NamedFloor → Option (List ℕ)
seed_of_name name [] = None
seed_of_name name (row ∷ rows) = if bytes_eq row.name name then Some row.seed else seed_of_name name rows

-- whether one of the rows has the name and the floor of a row
abbrev pub is_row_of : List NamedFloor → NamedFloor → Bool
is_row_of rows row = list_any (λ other. bytes_eq other.name row.name && other.next == row.next) rows

-- rows whose names differ
abbrev pub AreDifferent : List NamedFloor → Type 0
AreDifferent [] = Unit {0}
AreDifferent (row ∷ rows) = (has_name row.name rows ≡ false) × AreDifferent rows

-- Gathered rows. The gathered floor of each row's name is at least the row's. Each gathered row has the name and the
-- floor of a row. Each name has the seed of the first row with it. The names differ.
pub record AreGreatest (rows gathered : List NamedFloor) : Type 0 where
  pub each : AllByRecursion (λ row. IsSomeAnd (floor_of_name row.name gathered) (λ next. row.next ≤ next)) rows
  pub own : AllByRecursion (λ row. is_row_of rows row ≡ true) gathered
  pub seeds : (name : List ℕ) → seed_of_name name gathered ≡ seed_of_name name rows
  pub different : AreDifferent gathered

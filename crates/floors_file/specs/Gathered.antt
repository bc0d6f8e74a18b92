-- The conditions for a replacement store from the floors of several nodes, and its content. Floor: the first free
-- factor of a token at a node.
use Rattle.std.specs.Prelude.{ℕ, zero, suc, ◌+◌, ◌/◌, ◌==◌, nat_le, nat_lt, Bool, true, false, not, ◌&&◌, ◌||◌, List, [], ◌∷◌, length, Option, Some, None, Result, Ok, Err, is_some, option_map, unwrap_or, find, if◌then◌else◌}
use Rattle.std.specs.List.{list_any, position_from}
use Rattle.std.specs.Option.{option_or}
use Rattle.std.specs.Str.{bytes_eq}
use Rattle.token_file.specs.Credential.{Credential, place_of}
use Rattle.floors_file.specs.declared.floors.Head.{Head}
use Rattle.floors_file.specs.declared.gathered.Asked.{Asked}
use Rattle.floors_file.specs.declared.gathered.FileFault.{FileFault}
use Rattle.floors_file.specs.declared.gathered.FileFault.TheVariants.{IsLost, SameNode, Members, Older, Boot, NoFloor, NoUser}
use Rattle.floors_file.specs.declared.gathered.FilesFault.{FilesFault}
use Rattle.floors_file.specs.declared.gathered.FilesFault.TheVariants.{File, NotLost, Missing, Surplus, TooManyLost}
use Rattle.floors_file.specs.Floors.{FloorRecord, FloorsRecord}
use Rattle.floors_file.specs.Reading.{has_user}

-- ---- one file

-- whether a node is in a list
abbrev pub is_among : ℕ → List ℕ → Bool
is_among node nodes = list_any (λ other. other == node) nodes

-- whether one of the files is a node's
abbrev pub is_of_files : ℕ → List FloorsRecord → Bool
is_of_files node files = list_any (λ file. file.head.node == node) files

-- whether one of the files has a user
abbrev pub is_in_files : List ℕ → List FloorsRecord → Bool
is_in_files user files = list_any (λ file. has_user user file.rows) files

-- the fault of a file's head, by the lost nodes, the number of members, and the files after it
abbrev pub head_fault : Asked → List ℕ → ℕ → List FloorsRecord → Head → Option FileFault
head_fault asked lost members later head =
    if is_among head.node lost then Some IsLost
    else if is_of_files head.node later then Some SameNode
    else if not (head.members == members) then Some Members
    else if nat_lt head.moment asked.since then Some Older
    else if nat_le asked.boot head.boot then Some Boot
    else None

-- Whether rows lack a user that they must have. They must have each user of the users file. If users may come and go
-- (`is_same` is false), they must have only the users that a file has.
abbrev pub lacks : Bool → List FloorsRecord → List FloorRecord → Credential → Bool
lacks is_same files rows token =
    not (has_user token.name rows) && (is_same || is_in_files token.name files)

-- whether a row's user is not in the users file
abbrev pub is_stranger : List Credential → FloorRecord → Bool
is_stranger book row = not (is_some (place_of row.user book))

-- the line of the first row whose user is not in the users file, if users may not come and go
abbrev pub stranger_fault : Bool → List Credential → List FloorRecord → Option FileFault
stranger_fault true book rows =
    option_map NoUser (option_map (λ row. row + 2) (position_from (is_stranger book) 0 rows))
stranger_fault false book rows = None

-- the fault of a file's rows, by the users file and all files
abbrev pub rows_fault : Bool → List Credential → List FloorsRecord → List FloorRecord → Option FileFault
rows_fault is_same book files rows =
    option_or (option_map (λ token. NoFloor (token + 1)) (position_from (lacks is_same files rows) 0 book))
    (stranger_fault is_same book rows)

-- ---- all files

-- the number of members, by the first file
abbrev pub members_of : List FloorsRecord → ℕ
members_of [] = 0
members_of (file ∷ files) = file.head.members

-- the first file with a fault, from a place on
abbrev pub files_fault :
    Asked → List ℕ → Bool → List Credential → List FloorsRecord → ℕ → List FloorsRecord → Option FilesFault
files_fault asked lost is_same book all place [] = None
files_fault asked lost is_same book all place (file ∷ files) =
    option_or
    (option_map (File (place + 1))
    (option_or (head_fault asked lost (members_of all) files file.head) (rows_fault is_same book all file.rows)))
    (files_fault asked lost is_same book all (place + 1) files)

-- the first of `count` nodes that is neither lost nor has a file
abbrev pub missing_from : List ℕ → List FloorsRecord → ℕ → ℕ → Option FilesFault
missing_from lost files node zero = None
missing_from lost files node (suc count) =
    if is_among node lost || is_of_files node files then missing_from lost files (node + 1) count
    else Some (Missing node)

-- whether each majority of `members` members has one of `count` nodes
abbrev pub is_enough : ℕ → ℕ → Bool
is_enough members count = nat_lt members (count + (members / 2 + 1)) && nat_le 1 count

-- the fault of the numbers of lost nodes and files: together they are the members, and fewer than a majority are lost
abbrev pub count_fault : ℕ → ℕ → ℕ → Option FilesFault
count_fault members lost count =
    if not (lost + count == members) then Some Surplus
    else if is_enough members count then None
    else Some TooManyLost

-- the reason why the files are insufficient to replace the store of a lost node: the first fault, in the given order
abbrev pub lost_fault : Asked → ℕ → List ℕ → List Credential → List FloorsRecord → Option FilesFault
lost_fault asked node lost book files =
    if is_among node lost
    then option_or (files_fault asked lost true book files 0 files)
    (option_or (missing_from lost files 1 (members_of files))
    (count_fault (members_of files) (length lost) (length files)))
    else Some NotLost

-- the reason why the files are insufficient to replace the stores of a whole cluster
abbrev pub anew_fault : Asked → List Credential → List FloorsRecord → Option FilesFault
anew_fault asked book files =
    option_or (files_fault asked [] false book files 0 files)
    (if is_enough (members_of files) (length files) then None else Some TooManyLost)

-- ---- the result

-- the floor in the rows for a user
abbrev pub floor_in : List ℕ → List FloorRecord → Option ℕ
floor_in user rows = option_map (λ row. row.next) (find (λ row. bytes_eq row.user user) rows)

-- the greater of two numbers
abbrev pub greater : ℕ → ℕ → ℕ
greater one other = if nat_le one other then other else one

-- the greater of two numbers, one of which may be missing
abbrev pub greater_of : Option ℕ → Option ℕ → Option ℕ
greater_of None other = other
greater_of (Some one) None = Some one
greater_of (Some one) (Some other) = Some (greater one other)

-- the greatest floor in the files for a user
abbrev pub greatest_of : List ℕ → List FloorsRecord → Option ℕ
greatest_of user [] = None
greatest_of user (file ∷ files) = greater_of (floor_in user file.rows) (greatest_of user files)

-- the floor of each token of a book: the greatest of the files, or its own if no file has the user
abbrev pub gathered_floors : List FloorsRecord → List Credential → List ℕ → List ℕ
gathered_floors files [] own = []
gathered_floors files (token ∷ book) [] = []
gathered_floors files (token ∷ book) (floor ∷ own) =
    unwrap_or (greatest_of token.name files) floor ∷ gathered_floors files book own

-- the fault of a check, if there is one
abbrev pub fault_of : {A : Type 0} → Result A FilesFault → Option FilesFault
fault_of (Ok done) = None
fault_of (Err fault) = Some fault

-- A replacement for the store of a lost node, from floors files. Floor: the first free factor of a token at a node.
use Rattle.std.specs.Prelude.{◌≡◌, ℕ, ◌*◌, ◌^◌, List, [], Option, Some, None, Ok, Err, false}
use Rattle.std.specs.Borrow.{Bor}
use Rattle.sqlite.specs.Store.{Ghosts}
use Rattle.sqlite.specs.Held as sql
use Rattle.sqlite.specs.State.{HasCleanDisk}
use Rattle.otp_core.specs.Limits.{Limits}
use Rattle.token_file.specs.Credential.{Credential}
use Rattle.floor_sql.specs.Calls.{IsMade}
use Rattle.floor_sql.specs.Held.{SqlHeld}
use Rattle.floors_file.specs.Floors.{FloorsRecord}
use Rattle.floors_file.specs.Gathered.{anew_fault, gathered_floors, lost_fault}
use Rattle.floors_file.specs.Reading.{is_memory}
use Rattle.floors_file.specs.declared.gathered.Asked.{Asked}
use Rattle.floors_file.specs.declared.gathered.FilesFault.{FilesFault}
use Rattle.oathd_database.specs.Commands.{HasImport, IsRefused}
use Rattle.oathd_database.specs.Gather.{files_after}
use Rattle.oathd_database.specs.Users.{drifted_floors}
use Rattle.oathd_database.specs.declared.fault.Fault.TheVariants.{Memory}
use Rattle.oathd_database.specs.declared.lost.LostNode.{LostNode}
use Rattle.oathd_database.specs.declared.gather.GatherFault.{GatherFault}
use Rattle.oathd_database.specs.declared.gather.GatherFault.TheVariants.{Command, Floors, Files}

-- the boot of a store that is replaced at a moment
abbrev pub boot_at : ℕ → ℕ
boot_at moment = moment * 2 ^ 20

-- the demand on files for a store that is replaced at a moment
abbrev pub asked_at : ℕ → ℕ → Asked
asked_at since moment = record { since = since; boot = boot_at moment }

-- The reason why files are insufficient to replace the store of a node. Without lost nodes, the whole cluster is
-- replaced.
abbrev pub gather_fault :
    Asked → ℕ → Option (Bor (List ℕ)) → List Credential → List FloorsRecord → Option FilesFault
gather_fault asked node None book files = anew_fault asked book files
gather_fault asked node (Some lost) book files = lost_fault asked node lost.now book files

-- The texts are floors files that together are sufficient, and `floors` are their greatest.
pub record IsGathered (asked : Asked) (node : ℕ) (lost : Option (Bor (List ℕ))) (book : List Credential) (own : List ℕ)
    (texts : List (List ℕ)) (floors : List ℕ) : Type 0 where
  pub files : List FloorsRecord
  pub read : files_after [] texts ≡ Ok files
  pub told : gather_fault asked node lost book files ≡ None
  pub greatest : floors ≡ gathered_floors files book own

-- the texts are floors files that together have the fault
pub record HasFault (asked : Asked) (node : ℕ) (lost : Option (Bor (List ℕ))) (book : List Credential)
    (texts : List (List ℕ)) (fault : FilesFault) : Type 0 where
  pub files : List FloorsRecord
  pub read : files_after [] texts ≡ Ok files
  pub told : gather_fault asked node lost book files ≡ Some fault

-- No floors are gathered: the allocator refused the memory, `number` is the first text that is not a floors file, or
-- the files are insufficient.
abbrev pub IsUngathered : Asked → ℕ → Option (Bor (List ℕ)) → List Credential → List (List ℕ) → GatherFault → Type 0
IsUngathered asked node lost book texts (Command fault) = fault ≡ Memory
IsUngathered asked node lost book texts (Floors number fault) =
    is_memory fault.kind ≡ false → files_after [] texts ≡ Err (number, fault.line, fault.kind)
IsUngathered asked node lost book texts (Files fault) = HasFault asked node lost book texts fault

-- A fault of the texts, for the users of a users file.
pub record IsUngatheredFor (limits : Limits) (moment longest : ℕ) (lost : LostNode) (texts : List (List ℕ))
    (fault : GatherFault) (text : List ℕ) : Type 0 where
  pub import : HasImport limits moment longest text
  pub cause : IsUngathered (asked_at lost.since moment) lost.node lost.lost import.book texts fault

-- No store is replaced: it could not be created, or the texts have a fault.
abbrev pub IsNotRemade : Limits → ℕ → ℕ → LostNode → List (List ℕ) → GatherFault → List ℕ → Type 0
IsNotRemade limits moment longest lost texts (Command fault) text = IsRefused limits moment longest fault text
IsNotRemade limits moment longest lost texts (Floors number fault) text =
    IsUngatheredFor limits moment longest lost texts (Floors number fault) text
IsNotRemade limits moment longest lost texts (Files fault) text =
    IsUngatheredFor limits moment longest lost texts (Files fault) text

module _ {S : Type 0} (g : Ghosts S) (finds : sql.Held S → Type 0) where
  -- The store is the lost node's, created by one commit in the tables of some connection. It has the moment's boot, the
  -- greatest floors in the files, and nothing else.
  pub record HasRemade (limits : Limits) (moment longest : ℕ) (lost : LostNode) (texts : List (List ℕ))
      (store : SqlHeld S) (text : List ℕ) : Type 0 where
    pub import : HasImport limits moment longest text
    pub floors : List ℕ
    pub gathered : IsGathered (asked_at lost.since moment) lost.node lost.lost import.book
        (drifted_floors limits.drift import.book import.floors) texts floors
    pub conn : sql.Held S
    pub found : HasCleanDisk (sql.state g conn) → finds conn
    pub made : IsMade g conn lost.node (boot_at moment) floors store

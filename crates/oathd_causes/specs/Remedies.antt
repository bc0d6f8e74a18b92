-- What to do about a file that cannot be read or written, by what it is for.
use Rattle.std.specs.Prelude.{ℕ, Bool, false, if◌then◌else◌, List, Option, Some, None}
use Rattle.std.specs.Str.{bytes_eq}
use Rattle.floor_store.specs.declared.fault.StoreFault.{StoreFault}
use Rattle.floor_store.specs.declared.fault.StoreFault.TheVariants as stores
use Rattle.oathd_causes.specs.declared.file.FileCause.{FileCause}
use Rattle.oathd_causes.specs.declared.file.FileCause.TheVariants.{Missing, Folder, Denied, ReadOnly, Full, TooLarge}
use Rattle.oathd_causes.specs.declared.named.StoreCause.{StoreCause}
use Rattle.oathd_causes.specs.declared.named.StoreCause.TheVariants.{Failed, Damaged}
use Rattle.oathd_causes.specs.declared.remedy.FileRemedy.{FileRemedy}
use Rattle.oathd_causes.specs.declared.remedy.FileRemedy.TheVariants as remedy
use Rattle.oathd_causes.specs.declared.remedy.FileRole.{FileRole}
use Rattle.oathd_causes.specs.declared.remedy.FileRole.TheVariants.{Database, Users, Cluster, Key, Clients, Floors}

-- what to do about a file, by the reason why it cannot be read or written
abbrev pub file_remedy : FileRole → FileCause → FileRemedy
file_remedy Database Missing = remedy.FindDatabase
file_remedy Users Missing = remedy.MendPath
file_remedy Cluster Missing = remedy.MendPath
file_remedy Key Missing = remedy.FindKey
file_remedy Clients Missing = remedy.WriteClients
file_remedy Floors Missing = remedy.TakeFloors
file_remedy role Folder = remedy.NameFile
file_remedy Database Denied = remedy.RunAsOwner
file_remedy role Denied = remedy.LetRead
file_remedy role ReadOnly = remedy.MountToWrite
file_remedy role Full = remedy.MakeRoom
file_remedy role TooLarge = remedy.RaiseLimit

-- whether a name is there, and is a path
abbrev pub is_path : Option (List ℕ) → List ℕ → Bool
is_path None path = false
is_path (Some name) path = bytes_eq name path

-- what a file is for, by its path. The cluster file, the key file, the clients file and the users file are read in this
-- order, so the first with the path decides. Any other file is a floors file.
abbrev pub role_among : Option (List ℕ) → Option (List ℕ) → Option (List ℕ) → List ℕ → List ℕ → FileRole
role_among cluster key clients users path =
    if is_path cluster path then Cluster
    else if is_path key path then Key
    else if is_path clients path then Clients
    else if bytes_eq users path then Users
    else Floors

-- what to say of a store of which no cause was found, by its fault
abbrev pub unfound_cause : StoreFault → Option StoreCause
unfound_cause stores.Disk = Some Failed
unfound_cause stores.Unusable = Some Damaged
unfound_cause fault = None

-- How the command `check` ends.
use Rattle.std.proofs.Common.{◌≡◌, ℕ, List, Option, None, Result, Ok, Err, refl}
use Rattle.std.specs.Prelude.{false}
use Rattle.cluster_file.specs.ClusterFile.{ClusterRecord, cluster_of, is_memory}
use Rattle.cluster_file.specs.declared.fault.LineFault.{LineFault}
use Rattle.cluster_file.specs.declared.fault.LineFault.TheVariants as line
use Rattle.oathd_lines.specs.declared.fault.Fault as lines_fault
use Rattle.oathd_lines.specs.declared.fault.Fault.TheVariants.{BadKey, CannotRead, CannotWrite, InputLine, Memory, NotText, Users}
use Rattle.oathd_tasks.specs.Check.{CheckEndsSo, EndsUsersSo, HasChecked, IsKeyIn, IsOfClusterFile, WritesSo}
use Rattle.oathd_tasks.specs.File.{IsOfFile}
use Rattle.oathd_tasks.specs.Nodes.{IsOfKey}
use Rattle.oathd_tasks.specs.declared.fault.Fault.{Fault}
use Rattle.oathd_tasks.specs.declared.fault.Fault.TheVariants.{Run, Sim, Cluster, CannotReadFile, NoDatabases, ClusterFile, ClientsFile, NoMember, KeyPath, Ask, ByteOrderMark, NoRandom}

-- what was refused of a text is written on with a fault of its own
pub refused_writing : (text : List ℕ) (key : List ℕ) (cluster : ClusterRecord) (users : Option (List ℕ)) (fault : lines_fault.Fault) (old new : Option (List ℕ))
    → WritesSo text (Err fault) old new → EndsUsersSo key cluster users (Err (Run fault)) old new
refused_writing text key cluster users Memory old new h = h
refused_writing text key cluster users CannotWrite old new h = tt
refused_writing text key cluster users CannotRead old new h = absurd h
refused_writing text key cluster users (Users fault) old new h = absurd h
refused_writing text key cluster users (InputLine number) old new h = absurd h
refused_writing text key cluster users (BadKey fault) old new h = absurd h
refused_writing text key cluster users NotText old new h = absurd h

-- a cluster file that can't be read, or has a fault: nothing is written
pub unread : (text : List ℕ) (users : Option (List ℕ)) (fault : Fault) (out : Option (List ℕ)) → IsOfClusterFile text fault
    → CheckEndsSo text users (Err fault) out out
unread text users (Run Memory) out is = refl
unread text users (Run CannotWrite) out is = tt
unread text users (Run CannotRead) out is = absurd is
unread text users (Run (Users fault)) out is = absurd is
unread text users (Run (InputLine number)) out is = absurd is
unread text users (Run (BadKey fault)) out is = absurd is
unread text users (Run NotText) out is = absurd is
unread text users (Sim fault) out is = absurd is
unread text users (Cluster fault) out is = absurd is
unread text users (CannotReadFile path) out is = absurd is
unread text users NoDatabases out is = absurd is
unread text users (ClusterFile fault) out is = (is, refl)
unread text users (NoMember node) out is = absurd is
unread text users KeyPath out is = absurd is
unread text users (Ask fault) out is = absurd is
unread text users (ClientsFile fault) out is = absurd is
unread text users ByteOrderMark out is = absurd is
unread text users NoRandom out is = absurd is

-- a key that can't be had: nothing is written
pub without_key : (text : List ℕ) (users : Option (List ℕ)) (fault : Fault) (out : Option (List ℕ)) → IsOfKey fault
    → CheckEndsSo text users (Err fault) out out
without_key text users (Run Memory) out is = refl
without_key text users (Run CannotWrite) out is = tt
without_key text users (Run CannotRead) out is = absurd is
without_key text users (Run (Users fault)) out is = absurd is
without_key text users (Run (InputLine number)) out is = absurd is
without_key text users (Run (BadKey fault)) out is = refl
without_key text users (Run NotText) out is = absurd is
without_key text users (Sim fault) out is = absurd is
without_key text users (Cluster fault) out is = absurd is
without_key text users (CannotReadFile path) out is = refl
without_key text users NoDatabases out is = absurd is
without_key text users (ClusterFile fault) out is = absurd is
without_key text users (NoMember node) out is = absurd is
without_key text users KeyPath out is = refl
without_key text users (Ask fault) out is = absurd is
without_key text users (ClientsFile fault) out is = absurd is
without_key text users ByteOrderMark out is = absurd is
without_key text users NoRandom out is = absurd is

-- the check of the cluster of a text ends so
pub ends_checked : (text : List ℕ) (cluster : ClusterRecord) (key : List ℕ) (users old new : Option (List ℕ)) (result : Result Unit Fault)
    → cluster_of text ≡ Ok cluster → IsKeyIn cluster.key key → EndsUsersSo key cluster users result old new → CheckEndsSo text users result old new
ends_checked text cluster key users old new (Ok done) said has h = (cluster, said, key, has, h)
ends_checked text cluster key users old new (Err (Run Memory)) said has h = h
ends_checked text cluster key users old new (Err (Run CannotWrite)) said has h = tt
ends_checked text cluster key users old new (Err (Run CannotRead)) said has h = h
ends_checked text cluster key users old new (Err (Run (Users fault))) said has h = h
ends_checked text cluster key users old new (Err (Run (InputLine number))) said has h = h
ends_checked text cluster key users old new (Err (Run (BadKey fault))) said has h = h
ends_checked text cluster key users old new (Err (Run NotText)) said has h = h
ends_checked text cluster key users old new (Err (Sim fault)) said has h = absurd h
ends_checked text cluster key users old new (Err (Cluster fault)) said has h = absurd h
ends_checked text cluster key users old new (Err (CannotReadFile path)) said has h = absurd h
ends_checked text cluster key users old new (Err NoDatabases) said has h = absurd h
ends_checked text cluster key users old new (Err (ClusterFile fault)) said has h = absurd h
ends_checked text cluster key users old new (Err (NoMember node)) said has h = absurd h
ends_checked text cluster key users old new (Err KeyPath) said has h = absurd h
ends_checked text cluster key users old new (Err (Ask fault)) said has h = absurd h
ends_checked text cluster key users old new (Err (ClientsFile fault)) said has h = absurd h
ends_checked text cluster key users old new (Err ByteOrderMark) said has h = h
ends_checked text cluster key users old new (Err NoRandom) said has h = absurd h

-- a users file that can't be read: nothing is written
pub without_users : (text : List ℕ) (users : Option (List ℕ)) (fault : Fault) (out : Option (List ℕ)) → IsOfFile fault
    → CheckEndsSo text users (Err fault) out out
without_users text users (Run Memory) out is = refl
without_users text users (CannotReadFile path) out is = refl
without_users text users (Run CannotWrite) out is = absurd is
without_users text users (Run CannotRead) out is = absurd is
without_users text users (Run (Users fault)) out is = absurd is
without_users text users (Run (InputLine number)) out is = absurd is
without_users text users (Run (BadKey fault)) out is = absurd is
without_users text users (Run NotText) out is = absurd is
without_users text users (Sim fault) out is = absurd is
without_users text users (Cluster fault) out is = absurd is
without_users text users NoDatabases out is = absurd is
without_users text users (ClusterFile fault) out is = absurd is
without_users text users (NoMember node) out is = absurd is
without_users text users KeyPath out is = absurd is
without_users text users (Ask fault) out is = absurd is
without_users text users (ClientsFile fault) out is = absurd is
without_users text users ByteOrderMark out is = absurd is
without_users text users NoRandom out is = absurd is

-- what is known of a users file is more than nothing
any_users : (key : List ℕ) (cluster : ClusterRecord) (users old new : Option (List ℕ)) → HasChecked key cluster users old new → HasChecked key cluster None old new
any_users key cluster users old new h = record { book = h.book; unmarked = tt; has_tokens = tt; written = h.written }

-- a check over a known users file is one over any
pub any_check : (text : List ℕ) (users : Option (List ℕ)) (result : Result Unit Fault) (old new : Option (List ℕ))
    → CheckEndsSo text users result old new → CheckEndsSo text None result old new
any_check text users (Ok done) old new h = (h.0, h.1, h.2, h.3, any_users h.2 h.0 users old new h.4)
any_check text users (Err (Run CannotWrite)) old new h = tt
any_check text users (Err (ClusterFile fault)) old new h = h
any_check text users (Err ByteOrderMark) old new h = (tt, h.1)
any_check text users (Err (Run Memory)) old new h = h
any_check text users (Err (Run CannotRead)) old new h = h
any_check text users (Err (Run (Users fault))) old new h = h
any_check text users (Err (Run (InputLine number))) old new h = h
any_check text users (Err (Run (BadKey fault))) old new h = h
any_check text users (Err (Run NotText)) old new h = h
any_check text users (Err (Sim fault)) old new h = h
any_check text users (Err (Cluster fault)) old new h = h
any_check text users (Err (CannotReadFile path)) old new h = h
any_check text users (Err NoDatabases) old new h = h
any_check text users (Err (NoMember node)) old new h = h
any_check text users (Err KeyPath) old new h = h
any_check text users (Err (Ask fault)) old new h = h
any_check text users (Err (ClientsFile fault)) old new h = h
any_check text users (Err NoRandom) old new h = h

-- a fault that is not one of memory
pub not_memory : (fault : LineFault) → (fault ≡ line.Memory → ⊥) → is_memory fault ≡ false
not_memory line.UnknownWord h = refl
not_memory line.MissingField h = refl
not_memory line.SurplusField h = refl
not_memory line.TooManyMembers h = refl
not_memory line.MemberNumber h = refl
not_memory line.BadAddress h = refl
not_memory line.TwiceAddress h = refl
not_memory line.Twice h = refl
not_memory line.BadNumber h = refl
not_memory line.BadKey h = refl
not_memory line.BadLife h = refl
not_memory line.NoMember h = refl
not_memory line.NoKey h = refl
not_memory line.NoLife h = refl
not_memory line.BadNames h = refl
not_memory line.BadNewTokens h = refl
not_memory line.NoNames h = refl
not_memory line.TooLong h = refl
not_memory line.Memory h = absurd (h refl)

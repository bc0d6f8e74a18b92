-- The faults of a key file.
use Rattle.std.proofs.Common.{◌≡◌, sym, subst}
use Rattle.std.specs.Prelude.{Result, Ok, Err, IfErr, IsErrAnd}
use Rattle.oathd_lines.specs.declared.fault.Fault.TheVariants.{BadKey, CannotRead, CannotWrite, InputLine, Memory, NotText, Users}
use Rattle.oathd_tasks.specs.File.{IsOfFile}
use Rattle.oathd_tasks.specs.Nodes.{IsOfKey}
use Rattle.oathd_tasks.specs.declared.fault.Fault.{Fault}
use Rattle.oathd_tasks.specs.declared.fault.Fault.TheVariants.{Run, Sim, Cluster, CannotReadFile, NoDatabases, ClusterFile, ClientsFile, NoMember, KeyPath, Ask, ByteOrderMark, NoRandom}

-- a file that cannot be read
of_file : (fault : Fault) → IsOfFile fault → IsOfKey fault
of_file (Run Memory) is = is
of_file (Run (BadKey fault)) is = absurd is
of_file (Run CannotRead) is = is
of_file (Run CannotWrite) is = is
of_file (Run (Users fault)) is = is
of_file (Run (InputLine number)) is = is
of_file (Run NotText) is = is
of_file (Sim fault) is = is
of_file (Cluster fault) is = is
of_file (CannotReadFile path) is = is
of_file NoDatabases is = is
of_file (ClusterFile fault) is = is
of_file (NoMember node) is = is
of_file KeyPath is = absurd is
of_file (Ask fault) is = absurd is
of_file (ClientsFile fault) is = is
of_file ByteOrderMark is = is
of_file NoRandom is = is

-- a result that is the fault of such a file
pub unread_file : {T : Type 0} (result : Result T Fault) (fault : Fault) → IsErrAnd result (λ found. found ≡ fault) → IsOfFile fault → IfErr result IsOfKey
unread_file (Ok one) fault same is = absurd same
unread_file (Err found) fault same is = subst IsOfKey (sym same) (of_file fault is)

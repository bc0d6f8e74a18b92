-- The faults that end a command without a database.
use Rattle.std.specs.Prelude.{ℕ}
use Rattle.oathd_lines.specs.Fault as lines
use Rattle.oathd_asking.specs.Fault as asking
use Rattle.oathd_cluster.specs.Fault as cluster
use Rattle.oathd_tasks.specs.declared.fault.Fault.{Fault}
use Rattle.oathd_tasks.specs.declared.fault.Fault.TheVariants.{Run, Sim, Cluster, CannotReadFile, NoDatabases, ClusterFile, NoMember, KeyPath, Ask, ClientsFile, ByteOrderMark, NoRandom}

-- the exit status: the status of a run's or a cluster's fault, else 1
abbrev pub status_of : Fault → ℕ
status_of (Run fault) = lines.status_of fault
status_of (Sim fault) = 1
status_of (Cluster fault) = cluster.status_of fault
status_of (CannotReadFile path) = 1
status_of NoDatabases = 1
status_of (ClusterFile fault) = 1
status_of (NoMember node) = 1
status_of KeyPath = 1
status_of (Ask fault) = asking.status_of fault
status_of (ClientsFile fault) = 1
status_of ByteOrderMark = 1
status_of NoRandom = 1

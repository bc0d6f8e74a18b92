-- What to do about faults of floors files.
use Rattle.floors_file.specs.declared.gathered.FileFault.{FileFault}
use Rattle.floors_file.specs.declared.gathered.FileFault.TheVariants as file
use Rattle.floors_file.specs.declared.gathered.FilesFault.{FilesFault}
use Rattle.floors_file.specs.declared.gathered.FilesFault.TheVariants as files
use Rattle.oathd_site.specs.declared.floors.PathFault.{PathFault}
use Rattle.oathd_site.specs.declared.floors.PathFault.TheVariants as path
use Rattle.oathd_causes.specs.declared.floors.FloorsAdvice.{FloorsAdvice}
use Rattle.oathd_causes.specs.declared.floors.FloorsAdvice.TheVariants as advice

-- what to do about the fault of one file
abbrev pub file_advice : FileFault → FloorsAdvice
file_advice file.IsLost = advice.LeaveOut
file_advice file.SameNode = advice.LeaveOneOut
file_advice file.Members = advice.TakeWithSameMembers
file_advice file.Older = advice.TakeLater
file_advice file.Boot = advice.SetTheClock
file_advice file.Cluster = advice.TakeOfOneCluster
file_advice (file.NoFloor token) = advice.UseItsUsersFile
file_advice (file.NoUser line) = advice.UseItsUsersFile

-- what to do about a fault of all files
abbrev pub floors_advice : FilesFault → FloorsAdvice
floors_advice (files.File number fault) = file_advice fault
floors_advice files.NotLost = advice.NameItself
floors_advice (files.Missing node) = advice.TakeFile node
floors_advice files.Surplus = advice.NameEachOnce
floors_advice files.TooManyLost = advice.MakeAllAnew

-- what to do about a fault of files that are named by their paths
abbrev pub path_advice : PathFault → FloorsAdvice
path_advice (path.TooLong name) = advice.TakeAgain
path_advice (path.Line name fault) = advice.TakeAgain
path_advice (path.NoUser name line) = advice.UseItsUsersFile
path_advice (path.File name fault) = file_advice fault
path_advice (path.Ahead name) = advice.SetTheClocks
path_advice (path.Files fault) = floors_advice fault

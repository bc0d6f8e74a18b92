use Rattle.std.proofs.Common.{◌≤◌, length}
use Rattle.oathd_cluster.proofs.sockets.open_cluster.Given as goal

abbrev pub invariant-loop-me : goal.invariant-loop-me
invariant-loop-me g l = length l.addresses.items ≤ 9

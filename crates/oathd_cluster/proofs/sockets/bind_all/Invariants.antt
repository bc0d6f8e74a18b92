use Rattle.std.proofs.Common.{◌≤◌, length}
use Rattle.oathd_cluster.proofs.sockets.bind_all.Given as goal

-- there is an address for each socket so far
abbrev pub invariant-loop : goal.invariant-loop
invariant-loop g l = length l.addresses.items ≤ l.counter

use Rattle.std.proofs.Common.{◌≡◌, ◌++◌, drop, map, take}
use Rattle.sealed_port.specs.Gate.{with_moment}
use Rattle.sealed_port.proofs.gate.see.Given as goal

-- those before have seen it, the rest is as it was
abbrev pub invariant-loop-client : goal.invariant-loop-client
invariant-loop-client l =
    l.clients ≡ map (with_moment l.number l.moment) (take l.client-index l.initial.clients) ++ drop l.client-index l.initial.clients

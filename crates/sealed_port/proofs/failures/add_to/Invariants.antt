use Rattle.std.proofs.Common.{◌≡◌, ◌++◌, drop, map, take}
use Rattle.sealed_port.specs.Failures.{with_one_of}
use Rattle.sealed_port.proofs.failures.add_to.Given as goal

-- those before are changed, the rest is as it was
abbrev pub invariant-loop-one : goal.invariant-loop-one
invariant-loop-one l =
    l.failed ≡ map (with_one_of l.client) (take l.one-index l.initial.failed) ++ drop l.one-index l.initial.failed

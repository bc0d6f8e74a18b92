use Rattle.std.proofs.Common.{◌≡◌, ◌++◌, drop, map, take}
use Rattle.sealed_port.specs.Requests.{operator_with}
use Rattle.sealed_port.proofs.requests.see.Given as goal

-- those before have seen it, the rest is as it was
abbrev pub invariant-loop-operator : goal.invariant-loop-operator
invariant-loop-operator l =
    l.operators ≡ map (operator_with l.number l.moment) (take l.operator-index l.initial.operators) ++ drop l.operator-index l.initial.operators

use Rattle.std.proofs.Common.{◌≡◌, take}
use Rattle.node_serving.proofs.gate.same_operators.Given as goal

-- the operators so far
abbrev pub invariant-loop-operator : goal.invariant-loop-operator
invariant-loop-operator l = l.same.items ≡ take l.operator-index l.operators

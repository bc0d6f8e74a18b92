use Rattle.std.proofs.Common.{◌≡◌, take}
use Rattle.node_serving.proofs.gate.same_entries.Given as goal

-- the entries so far
abbrev pub invariant-loop-entry : goal.invariant-loop-entry
invariant-loop-entry l = l.same.items ≡ take l.entry-index l.entries

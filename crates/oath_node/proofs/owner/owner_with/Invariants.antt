use Rattle.std.proofs.Common.{◌≡◌, drop}
use Rattle.oath_node.specs.Machine.{owner_with}
use Rattle.oath_node.proofs.owner.owner_with.Given as goal

abbrev pub invariant-loop-owner : goal.invariant-loop-owner
invariant-loop-owner l = owner_with l.seq (drop l.owner-index l.owners) ≡ owner_with l.seq l.owners

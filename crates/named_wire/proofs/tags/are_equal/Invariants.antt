use Rattle.std.proofs.Common.{◌≡◌, ◌≤◌, take}
use Rattle.std.specs.Prelude.{◌↔◌}
use Rattle.named_wire.proofs.tags.are_equal.Given as goal

-- no byte differs until now if none was counted
abbrev pub invariant-loop-place : goal.invariant-loop-place
invariant-loop-place l = (l.differing ≤ l.place) × ((l.differing ≡ 0) ↔ (take l.place l.left ≡ take l.place l.right))

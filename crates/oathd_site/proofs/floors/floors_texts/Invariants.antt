-- a text was read of each path so far
use Rattle.std.proofs.Common.{◌≡◌, length}
use Rattle.oathd_site.proofs.floors.floors_texts.Given as goal

abbrev pub invariant-loop-path : goal.invariant-loop-path
invariant-loop-path g l = length l.texts.items ≡ l.path-index

use Rattle.std.proofs.Common.{◌-◌, ◌≤◌, length}
use Rattle.operator_text.proofs.LastLemmas.{IsAt}
use Rattle.operator_text.proofs.reading.cut_last.Given as goal

abbrev pub invariant-loop-line : goal.invariant-loop-line
invariant-loop-line l = (l.place ≤ length l.bytes) × IsAt l.bytes l.place

abbrev pub decreases-loop-line : goal.decreases-loop-line
decreases-loop-line l = length l.bytes - l.place

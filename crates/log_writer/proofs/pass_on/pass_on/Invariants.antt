use Rattle.std.proofs.Common.{◌-◌, ◌≤◌, length, take}
use Rattle.std.specs.Io.KnownBytes.{Appends}
use Rattle.log_writer.proofs.pass_on.pass_on.Given as goal

-- what is passed on is written, and each turn passes some bytes on
abbrev pub invariant-loop-passed : goal.invariant-loop-passed
invariant-loop-passed g l = (l.passed ≤ length l.text)
    × Appends (g.W.Write.contents l.initial.writer) (g.W.Write.contents l.writer) (take l.passed l.text)

abbrev pub decreases-loop-passed : goal.decreases-loop-passed
decreases-loop-passed g l = length l.text - l.passed

use Rattle.std.proofs.Common.{take}
use Rattle.std.specs.List.{flat_map}
use Rattle.std.specs.Io.KnownBytes.{Appends}
use Rattle.oathd_sim.specs.ReportText.{answer_line}
use Rattle.oathd_sim.proofs.report.write_answers.Given as goal

-- the answers so far are written
abbrev pub invariant-loop-answer : goal.invariant-loop-answer
invariant-loop-answer g l =
    Appends (g.W.Write.contents l.fn.writer) (g.W.Write.contents l.writer) (flat_map answer_line (take l.answer-index l.answers))

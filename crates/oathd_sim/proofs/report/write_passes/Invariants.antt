use Rattle.std.proofs.Common.{take}
use Rattle.std.specs.List.{flat_map}
use Rattle.std.specs.Io.KnownBytes.{Appends}
use Rattle.oathd_sim.specs.ReportText.{pass_line}
use Rattle.oathd_sim.proofs.report.write_passes.Given as goal

-- the passes so far are written
abbrev pub invariant-loop-pass : goal.invariant-loop-pass
invariant-loop-pass g l =
    Appends (g.W.Write.contents l.fn.writer) (g.W.Write.contents l.writer) (flat_map pass_line (take l.pass-index l.passes))

use Rattle.std.proofs.Common.{take}
use Rattle.std.specs.Io.KnownBytes.{Appends}
use Rattle.oathd_database.specs.Text.{audit_text}
use Rattle.oathd_database.proofs.audit.write_passes.Given as goal

-- the passes so far are written
abbrev pub invariant-loop-index : goal.invariant-loop-index
invariant-loop-index g l =
    Appends (g.W.Write.contents l.fn.writer) (g.W.Write.contents l.writer) (audit_text (take l.index l.passes))

use Rattle.std.proofs.Common.{arith}
use Rattle.oathd_sim.specs.ReportText.{pass_line}
use Rattle.oathd_sim.proofs.ReportLemmas.{append_item}
use Rattle.oathd_sim.proofs.report.write_passes.Goals as goal

pub loop-pass-preserved : goal.loop-pass-preserved
loop-pass-preserved g c =
    append_item pass_line c.args.passes.now c.loop-pass.pass-index c.pass-item.result (g.W.Write.contents c.args.writer.now) (g.W.Write.contents c.loop-pass.writer)
    (g.W.Write.contents c.write_pass.new.writer) (omega arith) c.pass-item.is c.loop-pass.invariant c.in_ok-write_pass.ensures.written

use Rattle.std.proofs.Common.{arith}
use Rattle.oathd_database.proofs.TextLemmas.{append_pass}
use Rattle.oathd_database.proofs.audit.write_passes.Goals as goal

pub loop-index-preserved : goal.loop-index-preserved
loop-index-preserved g c =
    append_pass c.args.passes.now c.loop-index.index c.index-passes-index.result (g.W.Write.contents c.args.writer.now)
    (g.W.Write.contents c.loop-index.writer) (g.W.Write.contents c.write_pass.new.writer) (omega arith)
    c.index-passes-index.is c.loop-index.invariant c.in_ok-write_pass.ensures.written

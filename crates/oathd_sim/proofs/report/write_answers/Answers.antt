use Rattle.std.proofs.Common.{arith}
use Rattle.oathd_sim.specs.ReportText.{answer_line}
use Rattle.oathd_sim.proofs.ReportLemmas.{append_item}
use Rattle.oathd_sim.proofs.report.write_answers.Goals as goal

pub loop-answer-preserved : goal.loop-answer-preserved
loop-answer-preserved g c =
    append_item answer_line c.args.answers.now c.loop-answer.answer-index c.answer-item.result (g.W.Write.contents c.args.writer.now) (g.W.Write.contents c.loop-answer.writer)
    (g.W.Write.contents c.write_answer.new.writer) (omega arith) c.answer-item.is c.loop-answer.invariant c.in_ok-write_answer.ensures.written

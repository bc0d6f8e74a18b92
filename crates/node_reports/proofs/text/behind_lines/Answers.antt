use Rattle.std.proofs.Common.{◌∙◌, arith, sym}
use Rattle.node_reports.specs.Text.{lines_of}
use Rattle.node_reports.proofs.TextLemmas.{drop_one, drop_past}
use Rattle.node_reports.proofs.text.behind_lines.Goals as goal

pub returns-in-None : goal.returns-in-None
returns-in-None c =
    drop_past c.args.number c.loop.counter (lines_of c.args.text.now) (omega arith)
    (sym c.loop.invariant ∙ c.in-None.ensures.none)

pub loop-preserved : goal.loop-preserved
loop-preserved c =
    drop_one c.loop.counter (lines_of c.args.text.now) c.in-Some.field-0-0.now (lines_of c.in-Some.behind.now)
    (sym c.loop.invariant ∙ c.in-Some.ensures.some)

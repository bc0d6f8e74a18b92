use Rattle.std.proofs.Common.{◌∙◌, ap, arith, length, sym}
use Rattle.operator_text.specs.Page.{pushed_all}
use Rattle.node_reports.specs.Text.{lines_of}
use Rattle.node_reports.proofs.TextLemmas.{refused}
use Rattle.node_reports.proofs.text.push_lines.Goals as goal

pub returns-then-not-push : goal.returns-then-not-push
returns-then-not-push c =
    c.push.ensures.page
    ∙ refused c.loop-line.page c.in-Some.line.now (lines_of c.in-Some.behind.now) (sym c.if-not-push.ensures.taken)
    ∙ ap (pushed_all c.loop-line.page) (sym c.in-Some.ensures.some)
    ∙ c.loop-line.invariant

pub loop-line-smaller : goal.loop-line-smaller
loop-line-smaller c = omega (arith, ap length c.in-Some.ensures.some)

use Rattle.std.proofs.Common.{◌∙◌, ◌++◌, ap, cond, get_or, Bool, List, ℕ}
use Rattle.status_text.specs.StatusLine.{line_text}
use Rattle.status_text.specs.declared.status_line.StatusLine.TheVariants.{Node}
use Rattle.node_reports.proofs.NodeStatusLemmas.{lines_on}
use Rattle.node_reports.proofs.node_status.text_of.Goals as goal

pub loop-line-preserved : goal.loop-line-preserved
loop-line-preserved c =
    let before = c.loop-line.text.items in
    let line = c.deref.result.now in
    let told = line_text (get_or c.args.lines.now c.loop-line.line-index (Node 0 0)) in
    c.extend_from_slice.ensures.items
    ∙ ap (λ (is_ok : Bool). cond is_ok (before ++ line) before) c.if-is_err.ensures.negation
    ∙ ap (λ (l : List ℕ). before ++ l) (c.deref.ensures.0 ∙ c.text.ensures)
    ∙ ap (λ (l : List ℕ). l ++ told) c.loop-line.invariant
    ∙ lines_on line_text c.loop-line.line-index c.args.lines.now (Node 0 0) c.loop-line-test.true

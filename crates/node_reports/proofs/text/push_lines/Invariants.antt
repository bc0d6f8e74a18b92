use Rattle.std.proofs.Common.{◌≡◌, length}
use Rattle.operator_text.specs.Page.{pushed_all}
use Rattle.node_reports.specs.Text.{lines_of}
use Rattle.node_reports.proofs.text.push_lines.Given as goal

-- the lines so far are pushed
abbrev pub invariant-loop-line : goal.invariant-loop-line
invariant-loop-line l = pushed_all l.page (lines_of l.rest) ≡ pushed_all l.initial.page (lines_of l.text)

abbrev pub decreases-loop-line : goal.decreases-loop-line
decreases-loop-line l = length (lines_of l.rest)

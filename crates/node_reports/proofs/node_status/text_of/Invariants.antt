use Rattle.std.proofs.Common.{◌≡◌, map, take}
use Rattle.std.specs.List.{concat}
use Rattle.status_text.specs.StatusLine.{line_text}
use Rattle.node_reports.proofs.node_status.text_of.Given as goal

-- the lines so far are written
abbrev pub invariant-loop-line : goal.invariant-loop-line
invariant-loop-line l = l.text.items ≡ concat (map line_text (take l.line-index l.lines))

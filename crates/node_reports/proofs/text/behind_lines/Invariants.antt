use Rattle.std.proofs.Common.{◌≡◌, drop}
use Rattle.node_reports.specs.Text.{lines_of}
use Rattle.node_reports.proofs.text.behind_lines.Given as goal

-- the lines so far are left out
abbrev pub invariant-loop : goal.invariant-loop
invariant-loop l = lines_of l.rest ≡ drop l.counter (lines_of l.text)

use Rattle.std.proofs.Common.{◌≡◌, ◌+◌, ◌≤◌}
use Rattle.kept_rows.proofs.RowLemmas.{IsWritten, bytes_of}
use Rattle.kept_rows.proofs.left.write_lines.Given as goal

-- the reports of the lines so far are written
abbrev pub invariant-loop-line : goal.invariant-loop-line
invariant-loop-line g l = record {
  next : l.number ≡ l.line-index + 1;
  few : l.place ≤ l.line-index;
  written : IsWritten (g.W.Write.contents l.fn.writer) (g.W.Write.contents l.writer) (bytes_of l.lines) (bytes_of l.kept) l.place l.number (bytes_of l.lines)
      l.line-index;
}

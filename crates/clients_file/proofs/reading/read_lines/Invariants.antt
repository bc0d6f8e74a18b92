use Rattle.std.proofs.Common.{◌≡◌, length}
use Rattle.token_file.specs.Fields.{lines_of}
use Rattle.clients_file.proofs.ReadingLemmas.{HasSaid}
use Rattle.clients_file.proofs.reading.read_lines.Given as goal

-- the yielded lines are read as `l.said`
abbrev pub invariant-loop-line : goal.invariant-loop-line
invariant-loop-line l = record {
  count : l.number ≡ length l.yielded;
  said : HasSaid (lines_of l.fn.text) l.said l.number;
}

use Rattle.std.proofs.Common.{◌≡◌, length}
use Rattle.clients_file.proofs.reading.last_line.Given as goal

-- the number of yielded lines
abbrev pub invariant-loop-line : goal.invariant-loop-line
invariant-loop-line l = l.number ≡ length l.yielded

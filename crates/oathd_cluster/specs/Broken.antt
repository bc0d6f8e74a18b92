-- Minimal readings and ends of a cluster that keep or break one part of a promise. No contract cites them.
use Rattle.std.specs.Prelude.{ℕ, List, [], ◌∷◌, Option, Result, Ok, Err, codes}
use Rattle.token_file.specs.declared.fault.LineFault.{LineFault}
use Rattle.oathd_cluster.specs.Examples.{line_for}
use Rattle.oathd_cluster.specs.Line.{LinesRead, NodeLine}
use Rattle.oathd_cluster.specs.declared.fault.Fault.{Fault}
use Rattle.oathd_cluster.specs.declared.fault.Fault.TheVariants.{Users}

-- a line for node 2
abbrev pub one_line : List NodeLine
one_line = line_for 2 1 (codes "x") ∷ []

-- a line for node 2 followed by a line for node 1
abbrev pub two_lines : List NodeLine
two_lines = line_for 2 1 (codes "x") ∷ line_for 1 1 (codes "x") ∷ []

-- good lines, up to the bad line `bad`
abbrev pub read_of : List NodeLine → Option ℕ → LinesRead
read_of good bad = record { good = good; bad = bad }

-- a call that succeeded, and a call that a fault ended
abbrev pub done : Result Unit Fault
done = Ok tt

abbrev pub ended_by : Fault → Result Unit Fault
ended_by fault = Err fault

-- the fault of a line of a users file
abbrev pub users_fault : ℕ → LineFault → Fault
users_fault line kind = Users (record { line = line; kind = kind })

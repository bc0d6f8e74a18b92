use Rattle.std.proofs.Common.{length, map}
use Rattle.floors_file.specs.Floors.{floor_value}
use Rattle.floors_file.proofs.ReadingLemmas.{HasRead}
use Rattle.floors_file.proofs.reading.read_rows.Given as goal

-- these rows are read
abbrev pub invariant-loop-line : goal.invariant-loop-line
invariant-loop-line l = HasRead l.fn.tokens l.fn.text (map floor_value l.rows.items) l.rest

-- the text gets shorter
abbrev pub decreases-loop-line : goal.decreases-loop-line
decreases-loop-line l = length l.rest

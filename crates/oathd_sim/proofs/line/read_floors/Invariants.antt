use Rattle.std.proofs.Common.{length}
use Rattle.oathd_sim.specs.Lines.{fields_of}
use Rattle.oathd_sim.proofs.FloorLemmas.{HasFloors}
use Rattle.oathd_sim.proofs.line.read_floors.Given as goal

-- the yielded fields are read
abbrev pub invariant-loop-field : goal.invariant-loop-field
invariant-loop-field l = HasFloors (fields_of l.fn.text) l.floors.items (length l.yielded)

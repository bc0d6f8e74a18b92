use Rattle.floors_file.proofs.GatheredLemmas.{NoFault}
use Rattle.floors_file.proofs.gathered.files_fault.Given as goal

-- none of the first files has a fault
abbrev pub invariant-loop-place : goal.invariant-loop-place
invariant-loop-place l = NoFault l.fn.asked l.fn.lost l.fn.is_same l.fn.book l.fn.files l.place

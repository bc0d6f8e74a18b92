use Rattle.floors_file.proofs.NamedGatheredLemmas.{NoNamedFault}
use Rattle.floors_file.proofs.named_gathered.named_files_fault.Given as goal

-- none of the first files has a fault
abbrev pub invariant-loop-place : goal.invariant-loop-place
invariant-loop-place l = NoNamedFault l.fn.asked l.fn.lost l.fn.made l.fn.files l.place

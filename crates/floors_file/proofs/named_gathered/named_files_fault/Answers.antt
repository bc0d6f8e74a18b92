use Rattle.std.proofs.Common.{arith}
use Rattle.floors_file.proofs.NamedGatheredLemmas.{named_fault_found, named_fault_next}
use Rattle.floors_file.proofs.named_gathered.named_files_fault.Goals as goal

pub returns-in-Some : goal.returns-in-Some
returns-in-Some c =
    named_fault_found c.args.asked c.args.lost.now c.args.made c.args.files.now c.loop-place.place c.named_fault_at.result c.in-Some.fault
    (omega arith) c.named_fault_at.ensures c.in-Some.is c.loop-place.invariant

pub loop-place-preserved : goal.loop-place-preserved
loop-place-preserved c =
    named_fault_next c.args.asked c.args.lost.now c.args.made c.args.files.now c.loop-place.place c.named_fault_at.result (omega arith)
    c.named_fault_at.ensures c.in-None.is c.loop-place.invariant

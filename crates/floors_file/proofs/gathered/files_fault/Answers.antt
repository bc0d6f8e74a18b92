use Rattle.std.proofs.Common.{arith}
use Rattle.floors_file.proofs.GatheredLemmas.{fault_found_at, fault_next_at, same_members}
use Rattle.floors_file.proofs.gathered.files_fault.Goals as goal

pub returns-in-Some : goal.returns-in-Some
returns-in-Some c =
    fault_found_at c.args.asked c.args.lost.now c.args.is_same c.args.book.now c.args.files.now c.loop-place.place c.file_fault.result c.in-Some.fault
    (omega arith) (same_members c.args.asked c.args.lost.now c.args.is_same c.args.book.now c.args.files.now c.loop-place.place c.file_fault.result _ c.members_of-members.ensures c.file_fault.ensures) c.in-Some.is c.loop-place.invariant

pub loop-place-preserved : goal.loop-place-preserved
loop-place-preserved c =
    fault_next_at c.args.asked c.args.lost.now c.args.is_same c.args.book.now c.args.files.now c.loop-place.place c.file_fault.result
    (omega arith)
    (same_members c.args.asked c.args.lost.now c.args.is_same c.args.book.now c.args.files.now c.loop-place.place c.file_fault.result _ c.members_of-members.ensures c.file_fault.ensures) c.in-None.is c.loop-place.invariant

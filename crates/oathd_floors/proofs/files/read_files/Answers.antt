use Rattle.std.proofs.Common.{◌+◌, ◌∙◌, ap, sym, arith}
use Rattle.oathd_floors.specs.Files.{file_of, taking_value}
use Rattle.oathd_floors.proofs.FilesLemmas.{untaken}
use Rattle.oathd_floors.proofs.files.read_files.Goals as goal

pub returns-in-Err-clause-fault : goal.returns-in-Err-clause-fault
returns-in-Err-clause-fault c =
    let taking = taking_value c.args.taking in
    untaken taking (λ text. text.items) c.args.texts.now c.loop-text.files.items c.loop-text.text-index (c.len.result + 1) c.text-item.result c.in-Err.fault
    (omega (arith, c.loop-text-test.true)) c.text-item.is (omega (arith, c.len.ensures))
    (λ memory. ap (file_of taking (c.len.result + 1)) (sym c.deref.ensures.value) ∙ c.in-Err.ensures.fault memory) c.in-Err.ensures.of_file c.loop-text.invariant

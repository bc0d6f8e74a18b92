use Rattle.std.proofs.Common.{[], ap, ◌∙◌}
use Rattle.floors_file.specs.NamedGathered.{with_rows}
use Rattle.floors_file.proofs.NamedGatheredLemmas.{with_files_next}
use Rattle.floors_file.proofs.named_gathered.gather_named.Goals as goal

pub loop-file-preserved : goal.loop-file-preserved
loop-file-preserved c =
    with_files_next [] c.loop-file.gathered c.merge_rows.new.gathered c.args.files.now c.loop-file.file-index c.file-item.result c.loop-file-test.true
    c.file-item.is c.loop-file.invariant (c.in_ok-merge_rows.ensures ∙ ap (with_rows c.loop-file.gathered) c.deref.ensures.value)

use Rattle.std.proofs.Common.{append_assoc}
use Rattle.floors_file.specs.NamedWriting.{named_head_text}
use Rattle.floors_file.proofs.NamedWritingLemmas.{three_written}
use Rattle.floors_file.proofs.named_writing.write_named_head.Goals as goal

pub returns : goal.returns
unfolding named_head_text
returns g c =
    three_written c.write_life.result _ _ _ _ _ _ _ _ c.in_ok-write.ensures.bytes c.in_ok-write_all.ensures.bytes c.write_life.ensures
    (simp append_assoc)

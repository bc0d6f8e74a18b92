use Rattle.std.proofs.Common.{refl}
use Rattle.std.proofs.lemmas.List.{drop-replicate}
use Rattle.clients_file.proofs.said.block_of.Goals as goal

pub returns : goal.returns
returns c = rw (c.copy_from_slice.ensures.after, drop-replicate, c.as_slice-bytes.ensures.value) refl

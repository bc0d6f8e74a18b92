-- The law below, carried over.
use Rattle.world_law.proofs.Bytes.{unforged}
use Rattle.world_law.proofs.laws.unforged_bytes_are_genuine.Goals as goal

pub returns : goal.returns
returns c = unforged c.one_spelling.ensures.again c.rulings_have_grounds.ensures.grounds c.world_is_safe.ensures.justified

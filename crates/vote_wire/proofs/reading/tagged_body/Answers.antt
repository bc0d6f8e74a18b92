use Rattle.vote_wire.proofs.TagLemmas.{short_is_untagged}
use Rattle.vote_wire.proofs.reading.tagged_body.Goals as goal

-- src/reading.rt:168:47
pub returns-in_err-checked_sub-clause-none : goal.returns-in_err-checked_sub-clause-none
returns-in_err-checked_sub-clause-none c =
    rw c.from_residual.ensures (short_is_untagged c.args.key.now c.args.bytes.now c.in_err-checked_sub.ensures)

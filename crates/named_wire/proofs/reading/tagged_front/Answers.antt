use Rattle.named_wire.proofs.TagLemmas.{short_is_untagged}
use Rattle.named_wire.proofs.reading.tagged_front.Goals as goal

pub returns-in_err-checked_sub-clause-none : goal.returns-in_err-checked_sub-clause-none
returns-in_err-checked_sub-clause-none c =
    rw c.from_residual.ensures (λ short. short_is_untagged c.args.key.now c.args.bytes.now c.in_err-checked_sub.ensures)

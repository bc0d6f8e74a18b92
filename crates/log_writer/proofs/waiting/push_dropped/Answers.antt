use Rattle.std.proofs.Common.{◌++◌, sym, ap, ◌∙◌, append-nil}
use Rattle.log_writer.proofs.WaitingLemmas.{dropped_none}
use Rattle.log_writer.proofs.waiting.push_dropped.Goals as goal

pub returns-else-number-gt0 : goal.returns-else-number-gt0
returns-else-number-gt0 c =
    let text = c.args.text.now.items in
    sym (ap (λ t. text ++ t) (dropped_none c.args.number c.if-number-gt0.false) ∙ append-nil text)

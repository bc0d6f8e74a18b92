use Rattle.oathd_asking.proofs.PageLemmas.{IsFront}
use Rattle.oathd_asking.proofs.report.text_from.Given as goal

-- the text goes on with the next page
abbrev pub invariant-loop : goal.invariant-loop
invariant-loop g l = IsFront l.node.operator.now l.node.number l.report l.text.items l.next

-- The laws of unforged histories, carried over.
use Rattle.order_law.proofs.Replies.{replied}
use Rattle.named_order_law.proofs.laws.unforged_interleavings_are_safe.Goals as goal

pub returns-clause-single_use : goal.returns-clause-single_use
returns-clause-single_use c = λ names setting items sized h. c.unforged_names_are_safe.ensures.single_use names setting _ sized (c.unforged_interleavings_are_genuine.ensures names setting items h)

pub returns-clause-in_order : goal.returns-clause-in_order
returns-clause-in_order c = λ names setting items sized h. c.unforged_names_are_safe.ensures.in_order names setting _ sized (c.unforged_interleavings_are_genuine.ensures names setting items h)

pub returns-clause-majority : goal.returns-clause-majority
returns-clause-majority c = λ names setting items sized h. c.unforged_names_are_safe.ensures.majority names setting _ sized (c.unforged_interleavings_are_genuine.ensures names setting items h)

pub returns-clause-told : goal.returns-clause-told
returns-clause-told c = λ names setting items sized h. c.unforged_names_are_safe.ensures.told names setting _ sized (c.unforged_interleavings_are_genuine.ensures names setting items h)

pub returns-clause-justified : goal.returns-clause-justified
returns-clause-justified c = λ names setting items sized h. c.unforged_names_are_safe.ensures.justified names setting _ sized (c.unforged_interleavings_are_genuine.ensures names setting items h)

pub returns-clause-spaced : goal.returns-clause-spaced
returns-clause-spaced c = λ names setting items node token sized h. c.unforged_names_are_safe.ensures.spaced names setting _ node token sized (c.unforged_interleavings_are_genuine.ensures names setting items h)

pub returns-clause-answered : goal.returns-clause-answered
returns-clause-answered c = λ names setting items sized h. c.unforged_names_are_safe.ensures.answered names setting _ sized (c.unforged_interleavings_are_genuine.ensures names setting items h)

pub returns-clause-replied : goal.returns-clause-replied
returns-clause-replied c = λ names setting items i node client bytes sized h at ok.
    replied setting items i node client bytes h.is (c.unforged_names_are_safe.ensures.told names setting _ sized (c.unforged_interleavings_are_genuine.ensures names setting items h)) at ok

-- The laws of histories, carried over.
use Rattle.order_law.proofs.Replies.{replied}
use Rattle.order_law.proofs.laws.causal_interleavings_are_safe.Goals as goal

pub returns-clause-single_use : goal.returns-clause-single_use
returns-clause-single_use c = λ setting items h. c.books_are_safe.ensures.single_use setting _ (c.causal_interleavings_are_histories.ensures setting items h)

pub returns-clause-in_order : goal.returns-clause-in_order
returns-clause-in_order c = λ setting items h. c.books_are_safe.ensures.in_order setting _ (c.causal_interleavings_are_histories.ensures setting items h)

pub returns-clause-majority : goal.returns-clause-majority
returns-clause-majority c = λ setting items h. c.books_are_safe.ensures.majority setting _ (c.causal_interleavings_are_histories.ensures setting items h)

pub returns-clause-told : goal.returns-clause-told
returns-clause-told c = λ setting items h. c.books_are_safe.ensures.told setting _ (c.causal_interleavings_are_histories.ensures setting items h)

pub returns-clause-justified : goal.returns-clause-justified
returns-clause-justified c = λ setting items h. c.books_are_safe.ensures.justified setting _ (c.causal_interleavings_are_histories.ensures setting items h)

pub returns-clause-spaced : goal.returns-clause-spaced
returns-clause-spaced c = λ setting items node token h. c.books_are_safe.ensures.spaced setting _ node token (c.causal_interleavings_are_histories.ensures setting items h)

pub returns-clause-answered : goal.returns-clause-answered
returns-clause-answered c = λ setting items h. c.books_are_safe.ensures.answered setting _ (c.causal_interleavings_are_histories.ensures setting items h)

pub returns-clause-replied : goal.returns-clause-replied
returns-clause-replied c = λ setting items i node client bytes h at ok.
    replied setting items i node client bytes h.is (c.books_are_safe.ensures.told setting _ (c.causal_interleavings_are_histories.ensures setting items h)) at ok

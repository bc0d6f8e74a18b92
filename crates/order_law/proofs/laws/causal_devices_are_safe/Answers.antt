-- An interleaving with causes is a history, and keeps the rule of openings.
use Rattle.order_law.proofs.laws.causal_devices_are_safe.Goals as goal

pub returns-clause-single_use : goal.returns-clause-single_use
returns-clause-single_use c = λ seed setting items is known.
    c.devices_are_safe.ensures.single_use seed setting _ (c.causal_interleavings_are_histories.ensures setting items is) (c.interleavings_open_greatest.ensures seed setting items is.is known)

pub returns-clause-in_order : goal.returns-clause-in_order
returns-clause-in_order c = λ seed setting items is known.
    c.devices_are_safe.ensures.in_order seed setting _ (c.causal_interleavings_are_histories.ensures setting items is) (c.interleavings_open_greatest.ensures seed setting items is.is known)

pub returns-clause-majority : goal.returns-clause-majority
returns-clause-majority c = λ seed setting items is known.
    c.devices_are_safe.ensures.majority seed setting _ (c.causal_interleavings_are_histories.ensures setting items is) (c.interleavings_open_greatest.ensures seed setting items is.is known)

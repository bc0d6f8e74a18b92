-- An interleaving without a forged vote is such a history, and keeps the rule of openings.
use Rattle.named_order_law.proofs.laws.unforged_interleavings_keep_devices.Goals as goal

pub returns-clause-single_use : goal.returns-clause-single_use
returns-clause-single_use c = λ names seed setting items sized h known.
    c.unforged_devices_are_safe.ensures.single_use names seed setting _ sized (c.unforged_interleavings_are_genuine.ensures names setting items h) (c.interleavings_open_greatest.ensures seed setting items h.is known)

pub returns-clause-in_order : goal.returns-clause-in_order
returns-clause-in_order c = λ names seed setting items sized h known.
    c.unforged_devices_are_safe.ensures.in_order names seed setting _ sized (c.unforged_interleavings_are_genuine.ensures names setting items h) (c.interleavings_open_greatest.ensures seed setting items h.is known)

pub returns-clause-majority : goal.returns-clause-majority
returns-clause-majority c = λ names seed setting items sized h known.
    c.unforged_devices_are_safe.ensures.majority names seed setting _ sized (c.unforged_interleavings_are_genuine.ensures names setting items h) (c.interleavings_open_greatest.ensures seed setting items h.is known)

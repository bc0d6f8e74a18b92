-- The laws of causal interleavings, carried over.
use Rattle.served_law.proofs.PlacedRuns.{places_causal}
use Rattle.served_law.proofs.placed.served_places_are_safe.Goals as goal

pub returns-clause-single_use : goal.returns-clause-single_use
returns-clause-single_use g c = λ setting stores are items h. c.causal_interleavings_are_safe.ensures.single_use setting items (places_causal g.S.Store g.D.Database.finds setting stores are items h)

pub returns-clause-in_order : goal.returns-clause-in_order
returns-clause-in_order g c = λ setting stores are items h. c.causal_interleavings_are_safe.ensures.in_order setting items (places_causal g.S.Store g.D.Database.finds setting stores are items h)

pub returns-clause-majority : goal.returns-clause-majority
returns-clause-majority g c = λ setting stores are items h. c.causal_interleavings_are_safe.ensures.majority setting items (places_causal g.S.Store g.D.Database.finds setting stores are items h)

pub returns-clause-justified : goal.returns-clause-justified
returns-clause-justified g c = λ setting stores are items h. c.causal_interleavings_are_safe.ensures.justified setting items (places_causal g.S.Store g.D.Database.finds setting stores are items h)

pub returns-clause-spaced : goal.returns-clause-spaced
returns-clause-spaced g c = λ setting stores are items node token h. c.causal_interleavings_are_safe.ensures.spaced setting items node token (places_causal g.S.Store g.D.Database.finds setting stores are items h)

pub returns-clause-answered : goal.returns-clause-answered
returns-clause-answered g c = λ setting stores are items h. c.causal_interleavings_are_safe.ensures.answered setting items (places_causal g.S.Store g.D.Database.finds setting stores are items h)

pub returns-clause-replied : goal.returns-clause-replied
returns-clause-replied g c = λ setting stores are items i node client bytes h at ok.
    c.causal_interleavings_are_safe.ensures.replied setting items i node client bytes (places_causal g.S.Store g.D.Database.finds setting stores are items h) at ok

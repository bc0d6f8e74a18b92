-- The laws of unforged interleavings, carried over.
use Rattle.served_law.proofs.Orders.{unforged}
use Rattle.served_law.proofs.laws.served_names_are_safe.Goals as goal

pub returns-clause-single_use : goal.returns-clause-single_use
returns-clause-single_use g c = λ setting names stores are items sized h. c.unforged_interleavings_are_safe.ensures.single_use names setting items sized (unforged g.S.Store g.D.Database.finds g.U.Stop.answers setting names stores are items h)

pub returns-clause-in_order : goal.returns-clause-in_order
returns-clause-in_order g c = λ setting names stores are items sized h. c.unforged_interleavings_are_safe.ensures.in_order names setting items sized (unforged g.S.Store g.D.Database.finds g.U.Stop.answers setting names stores are items h)

pub returns-clause-majority : goal.returns-clause-majority
returns-clause-majority g c = λ setting names stores are items sized h. c.unforged_interleavings_are_safe.ensures.majority names setting items sized (unforged g.S.Store g.D.Database.finds g.U.Stop.answers setting names stores are items h)

pub returns-clause-justified : goal.returns-clause-justified
returns-clause-justified g c = λ setting names stores are items sized h. c.unforged_interleavings_are_safe.ensures.justified names setting items sized (unforged g.S.Store g.D.Database.finds g.U.Stop.answers setting names stores are items h)

pub returns-clause-spaced : goal.returns-clause-spaced
returns-clause-spaced g c = λ setting names stores are items node token sized h. c.unforged_interleavings_are_safe.ensures.spaced names setting items node token sized (unforged g.S.Store g.D.Database.finds g.U.Stop.answers setting names stores are items h)

pub returns-clause-answered : goal.returns-clause-answered
returns-clause-answered g c = λ setting names stores are items sized h. c.unforged_interleavings_are_safe.ensures.answered names setting items sized (unforged g.S.Store g.D.Database.finds g.U.Stop.answers setting names stores are items h)

pub returns-clause-replied : goal.returns-clause-replied
returns-clause-replied g c = λ setting names stores are items i node client bytes sized h at ok.
    c.unforged_interleavings_are_safe.ensures.replied names setting items i node client bytes sized (unforged g.S.Store g.D.Database.finds g.U.Stop.answers setting names stores are items h) at ok

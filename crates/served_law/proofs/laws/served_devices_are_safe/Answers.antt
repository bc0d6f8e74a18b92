-- The laws of unforged interleavings by device, whose rule of openings the runs keep.
use Rattle.served_law.proofs.OrderedDevices.{order_greatest}
use Rattle.served_law.proofs.Orders.{unforged}
use Rattle.served_law.proofs.laws.served_devices_are_safe.Goals as goal

pub returns-clause-single_use : goal.returns-clause-single_use
returns-clause-single_use g c = λ seed setting names stores are items sized h devices.
    c.unforged_interleavings_keep_devices.ensures.single_use names seed setting items sized (unforged g.S.Store g.D.Database.finds g.U.Stop.answers setting names stores are items h)
    (order_greatest g.S.Store g.D.Database.finds g.U.Stop.answers setting names seed stores are items h devices)

pub returns-clause-in_order : goal.returns-clause-in_order
returns-clause-in_order g c = λ seed setting names stores are items sized h devices.
    c.unforged_interleavings_keep_devices.ensures.in_order names seed setting items sized (unforged g.S.Store g.D.Database.finds g.U.Stop.answers setting names stores are items h)
    (order_greatest g.S.Store g.D.Database.finds g.U.Stop.answers setting names seed stores are items h devices)

pub returns-clause-majority : goal.returns-clause-majority
returns-clause-majority g c = λ seed setting names stores are items sized h devices.
    c.unforged_interleavings_keep_devices.ensures.majority names seed setting items sized (unforged g.S.Store g.D.Database.finds g.U.Stop.answers setting names stores are items h)
    (order_greatest g.S.Store g.D.Database.finds g.U.Stop.answers setting names seed stores are items h devices)

-- A put by the token's seat.
use Rattle.std.proofs.Common.{◌<◌, length, sym, ◌∙◌}
use Rattle.seated_store.specs.Seats.{seated_rows}
use Rattle.seated_store.proofs.CallLemmas.{pass_puts_below, pass_puts_nothing, seen_puts}
use Rattle.seated_store.proofs.SeatLemmas.{seat_is, seen_pass_put, seen_put}
use Rattle.seated_store.proofs.store.SeatedStoreFloorStore.put.Goals as goal

pub returns-in_default-clause-puts : goal.returns-in_default-clause-puts
returns-in_default-clause-puts g c =
    let was = c.self.inside in
    let held = g.S.FloorStore.held in
    let seat = c.index-seat.result.now in
    let low : c.args.token < length (seated_rows was.seats.items (held was.inner).content.rows) = rw (← c.self.view_is) at c.requires in
    let at = seat_is was.seats.items (held was.inner).content.rows c.args.token seat low c.index-seat.ensures in
    rw (c.in_default.is, ← c.self.view_is)
    (seen_puts held was.inner c.put.new.self was.seats.items was.is_unusable _ _ c.put.result c.if-self.false
    (seen_put was.seats.items (held was.inner).content c.args.token seat c.args.row c.self.invariant.0 at)
    c.put.ensures.puts)

pub returns-in_default-pass_below-clause-below : goal.returns-in_default-pass_below-clause-below
returns-in_default-pass_below-clause-below g c =
    let was = c.self.inside in
    let none = rw (← c.self.view_is) at (sym c.pass_below.ensures ∙ c.in_default-pass_below.is) in
    rw (c.in-Some.is, ← c.self.view_is)
    (pass_puts_nothing g.S.FloorStore.held was.inner was.seats.items was.is_unusable c.args.token c.args.row c.in-Some.pass none)

pub put-requires-2 : goal.put-requires-2
put-requires-2 g c =
    let was = c.self.inside in
    let rows = (g.S.FloorStore.held was.inner).content.rows in
    let seat = c.index-seat.result.now in
    let low : c.args.token < length (seated_rows was.seats.items rows) = rw (← c.self.view_is) at c.requires in
    c.self.invariant.0.within c.args.token seat (seat_is was.seats.items rows c.args.token seat low c.index-seat.ensures)

pub returns-clause-puts : goal.returns-clause-puts
returns-clause-puts g c =
    let was = c.self.inside in
    let held = g.S.FloorStore.held in
    let seat = c.index-seat.result.now in
    let low : c.args.token < length (seated_rows was.seats.items (held was.inner).content.rows) = rw (← c.self.view_is) at c.requires in
    let at = seat_is was.seats.items (held was.inner).content.rows c.args.token seat low c.index-seat.ensures in
    let is = rw (← c.self.view_is) at (sym c.pass_below.ensures ∙ c.in-Some-pass_below.is) in
    rw (c.in-Some.is, ← c.self.view_is)
    (seen_puts held was.inner c.put-2.new.self was.seats.items was.is_unusable _ _ c.put-2.result c.if-self.false
    (seen_pass_put was.seats.items (held was.inner).content c.args.token seat c.args.row c.in-Some.pass c.in-Some-pass_below.below c.self.invariant.0 at is)
    c.put-2.ensures.puts)

pub returns-clause-below : goal.returns-clause-below
returns-clause-below g c =
    let was = c.self.inside in
    let held = g.S.FloorStore.held in
    let seat = c.index-seat.result.now in
    let low : c.args.token < length (seated_rows was.seats.items (held was.inner).content.rows) = rw (← c.self.view_is) at c.requires in
    let at = seat_is was.seats.items (held was.inner).content.rows c.args.token seat low c.index-seat.ensures in
    let is = rw (← c.self.view_is) at (sym c.pass_below.ensures ∙ c.in-Some-pass_below.is) in
    rw (c.in-Some.is, ← c.self.view_is)
    (pass_puts_below held was.inner c.put-2.new.self was.seats.items was.is_unusable c.args.token seat c.args.row c.in-Some.pass c.in-Some-pass_below.below c.put-2.result c.if-self.false at is
    c.put-2.ensures.puts)

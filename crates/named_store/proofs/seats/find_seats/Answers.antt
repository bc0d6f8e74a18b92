use Rattle.std.proofs.Common.{List, subst, arith, rules}
use Rattle.std.proofs.lemmas.List.{length-take-le, take_all}
use Rattle.roster_sql.specs.declared.entry.Entry.{Entry}
use Rattle.named_store.proofs.SeatingLemmas.{AreSeated, seat_read, seats_are}
use Rattle.named_store.proofs.seats.find_seats.Goals as goal

pub seat-requires : goal.seat-requires
seat-requires c = omega (arith, c.loop-place.invariant.few, length-take-le c.loop-place.place c.args.names.now (omega arith))

pub loop-place-preserved : goal.loop-place-preserved
loop-place-preserved c =
    let was = c.loop-place.all in
    let now = c.seat.new.self in
    seat_read c.args.roster.now c.args.names.now c.loop-place.place was.seats.items was.places.items now.seats.items now.places.items was.entries.items
    now.entries.items c.copied-row.result c.in_ok-index.index c.in_ok-seat.ensures.entries (search rules) c.in_ok-index.ensures.rows c.loop-place-test.true
    (search rules) c.in_ok-seat.ensures.seats c.in_ok-seat.ensures.places c.loop-place.invariant

pub returns-clause-seats : goal.returns-clause-seats
returns-clause-seats c =
    let all = c.loop-place.all in
    let names = c.args.names.now in
    let done = take_all c.loop-place.place names (omega arith) in
    seats_are c.args.roster.now names all.seats.items all.places.items all.entries.items c.in_ok-index_of.ensures.distinct
    (subst (λ (l : List Entry). AreSeated c.args.roster.now l all.seats.items all.places.items all.entries.items) done c.loop-place.invariant)

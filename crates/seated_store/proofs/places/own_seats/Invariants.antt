use Rattle.std.proofs.Common.{◌≡◌}
use Rattle.seated_store.specs.Places.{own_seats}
use Rattle.seated_store.proofs.places.own_seats.Given as goal

-- the first tokens have their seats
abbrev pub invariant-loop-token : goal.invariant-loop-token
invariant-loop-token l = l.seats.items ≡ own_seats l.token

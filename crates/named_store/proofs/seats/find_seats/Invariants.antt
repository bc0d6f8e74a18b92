use Rattle.std.proofs.Common.{take}
use Rattle.named_store.proofs.SeatingLemmas.{AreSeated}
use Rattle.named_store.proofs.seats.find_seats.Given as goal

-- the tokens so far have seats
abbrev pub invariant-loop-place : goal.invariant-loop-place
invariant-loop-place l = AreSeated l.roster (take l.place l.names) l.all.seats.items l.all.places.items l.all.entries.items

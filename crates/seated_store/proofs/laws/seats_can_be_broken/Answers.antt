-- A promise of each place is asked about the one that breaks it.
use Rattle.std.proofs.Common.{inl, refl, None, arith}
use Rattle.floor_store.specs.Examples.{free_row, two_rows}
use Rattle.seated_store.proofs.laws.seats_can_be_broken.Goals as goal

pub returns-clause-past_the_rows : goal.returns-clause-past_the_rows
returns-clause-past_the_rows c h = let low = h.within 1 2 refl in omega (arith, low)

pub returns-clause-same_seat : goal.returns-clause-same_seat
returns-clause-same_seat c h = let e = h.apart 0 1 2 refl refl in omega (arith, e)

pub returns-clause-leaves : goal.returns-clause-leaves
returns-clause-leaves c = (two_rows (free_row 5) (free_row 9) None, inl refl, refl)

-- Starts over a store with two rows of one device.
use Rattle.std.proofs.Common.{◌≤◌, [], ◌∷◌, refl, arith}
use Rattle.vote_core.specs.Voting.{raise}
use Rattle.seat_law.specs.Seats.{seat_name}
use Rattle.book_law.specs.Examples.{alone}
use Rattle.book_law.specs.Lives.{Raises, seen_in, store_under}
use Rattle.book_law.specs.Seeds.{AreGreatest}
use Rattle.book_law.specs.Uses.{written_store}
use Rattle.book_law.specs.SeedExamples.{one_device}
use Rattle.book_law.proofs.OneDevice.{apart, one_greatest, one_seat, within_two}
use Rattle.order_law.specs.Examples.{maple_ahead}
use Rattle.order_law.proofs.worked.starts_can_be_broken.Goals as goal

maple_greatest : AreGreatest one_device (1 ∷ []) maple_ahead
maple_greatest = one_greatest maple_ahead 1 (within_two maple_ahead.content (seat_name (0 ∷ 1 ∷ [])) 2 (omega arith) (omega arith))

silver_lower : AreGreatest one_device (0 ∷ []) maple_ahead → ⊥
silver_lower h = let low : 2 ≤ 1 = h 0 0 1 refl refl in omega (arith, low)

silver_lower_later : AreGreatest one_device (0 ∷ []) (store_under (1 ∷ []) (seen_in maple_ahead (1 ∷ [])) maple_ahead) → ⊥
silver_lower_later h = let low : 2 ≤ 1 = h 0 0 1 refl refl in omega (arith, low)

silver_raised : AreGreatest one_device (0 ∷ []) (written_store alone (Raises 1 0 2) maple_ahead)
unfolding raise
silver_raised =
    let store = written_store alone (Raises 1 0 2) maple_ahead in
    one_greatest store 0 (within_two store.content (seat_name (0 ∷ 1 ∷ [])) 2 (omega arith) (omega arith))

silver_not_raised : AreGreatest one_device (0 ∷ []) (written_store alone (Raises 1 1 3) maple_ahead) → ⊥
unfolding raise
silver_not_raised h = let low : 3 ≤ 1 = h 0 0 1 refl refl in omega (arith, low)

pub returns-clause-greatest : goal.returns-clause-greatest
returns-clause-greatest c = (one_seat one_device 1, maple_greatest)

pub returns-clause-lower : goal.returns-clause-lower
returns-clause-lower c h = silver_lower h.1

pub returns-clause-both : goal.returns-clause-both
returns-clause-both c h = apart 0 1 (omega arith) (h.0 0 1 1 0 refl refl refl)

pub returns-clause-steps : goal.returns-clause-steps
returns-clause-steps c = ((one_seat one_device 1, maple_greatest), (tt, tt))

pub returns-clause-first_lower : goal.returns-clause-first_lower
returns-clause-first_lower c h = silver_lower h.0.1

pub returns-clause-then_lower : goal.returns-clause-then_lower
returns-clause-then_lower c h = silver_lower_later h.1.1.0.1

pub returns-clause-raised : goal.returns-clause-raised
returns-clause-raised c = (tt, ((one_seat one_device 0, silver_raised), (tt, tt)))

pub returns-clause-raised_another : goal.returns-clause-raised_another
returns-clause-raised_another c h = silver_not_raised h.1.0.1

pub returns-clause-members : goal.returns-clause-members
returns-clause-members c h = let low : 1 ≤ 0 = (h 2 refl).1.1.0.1 0 0 1 refl refl in omega (arith, low)

pub returns-clause-no_starts : goal.returns-clause-no_starts
returns-clause-no_starts c node member = tt

pub returns-clause-once : goal.returns-clause-once
returns-clause-once c = λ seed terms port store is. is.0

pub returns-clause-each_greatest : goal.returns-clause-each_greatest
returns-clause-each_greatest c = λ seed terms port store is. is.1

-- A node alone with two rows.
use Rattle.std.proofs.Common.{◌≡◌, ◌<◌, ◌≤◌, ℕ, zero, suc, [], ◌∷◌, take, Some, refl, sym, subst, arith}
use Rattle.std.specs.List.{slice_get}
use Rattle.std.proofs.lemmas.Option.{none-some, same_Some}
use Rattle.vote_core.specs.Books.{rows_of}
use Rattle.vote_core.specs.Schedule.{after_restart}
use Rattle.seat_law.specs.Examples.{adds}
use Rattle.seat_law.specs.Seats.{Course, Sites, Starts, after_course, free_of, go}
use Rattle.seat_law.specs.SeedExamples.{all_apart, all_one, lone, seated_at, seats_at}
use Rattle.seat_law.specs.SeedSeats.{AreSeatsGreatest, IsOpening}
use Rattle.seat_law.proofs.seed_laws.seats_of_seeds_can_be_broken.Goals as goal

pub returns-clause-own_seeds : goal.returns-clause-own_seeds
unfolding go after_course after_restart
returns-clause-own_seeds c = record {
  once = λ one other a b _. let low : one < 1 = a in let also : other < 1 = b in omega (arith, low, also);
  greatest = λ seat token lt same. subst (λ t. free_of (seated_at 0 4 (0 ∷ [])) 1 token ≤ free_of (seated_at 0 4 (0 ∷ [])) 1 t) same (omega arith);
}

lower_seat : AreSeatsGreatest all_one (seated_at 0 4 (0 ∷ [])) 1 → ⊥
unfolding go after_course after_restart
lower_seat h = let low : 4 ≤ 0 = h.greatest 0 1 (omega arith) refl in omega (arith, low)

pub returns-clause-lower : goal.returns-clause-lower
returns-clause-lower c = lower_seat

both_seats : AreSeatsGreatest all_one (seated_at 4 4 (0 ∷ 1 ∷ [])) 1 → ⊥
unfolding go after_course after_restart
both_seats h = let same : 0 ≡ 1 = h.once 0 1 (omega arith) (omega arith) refl in omega (arith, same)

pub returns-clause-both : goal.returns-clause-both
returns-clause-both c = both_seats

different : (a b : ℕ) → a < b → a ≡ b → ⊥
different a b low e = omega (arith, low, e)

pub returns-clause-starts : goal.returns-clause-starts
returns-clause-starts c = refl

pub returns-clause-starts_another : goal.returns-clause-starts_another
returns-clause-starts_another c e = different 1 2 (omega arith) e

pub returns-clause-adds : goal.returns-clause-adds
returns-clause-adds c = refl

pub returns-clause-adds_another : goal.returns-clause-adds_another
returns-clause-adds_another c e = different 1 2 (omega arith) e

pub returns-clause-adds_at_a_stop : goal.returns-clause-adds_at_a_stop
returns-clause-adds_at_a_stop c = refl

pub returns-clause-adds_another_at_a_stop : goal.returns-clause-adds_another_at_a_stop
returns-clause-adds_another_at_a_stop c e = different 1 2 (omega arith) e

pub returns-clause-begins : goal.returns-clause-begins
returns-clause-begins c e = e

pub returns-clause-goes : goal.returns-clause-goes
returns-clause-goes c e = e

pub returns-clause-first_start : goal.returns-clause-first_start
unfolding go after_course after_restart
returns-clause-first_start c h =
    let same : 0 ≡ 1 = (h 0 1 (Starts 1 (0 ∷ 1 ∷ [])) refl refl).once 0 1 (omega arith) (omega arith) refl in
    omega (arith, same)

pub returns-clause-last_start : goal.returns-clause-last_start
returns-clause-last_start c h = lower_seat (h 2 1 (Starts 1 (0 ∷ [])) refl refl)

-- a node with at most one seat, each of whose tokens is of a device of its own
one_seat : (sites : Sites) → rows_of sites.seen 1 ≤ 1 → AreSeatsGreatest all_apart sites 1
one_seat sites few = record {
  once = λ one other a b _. omega (arith, a, b, few);
  greatest = λ seat token lt same. subst (λ t. free_of sites 1 token ≤ free_of sites 1 t) same (omega arith);
}

opened_at : (k : ℕ) (course : Course) → slice_get (seats_at 0 4 (0 ∷ [])) k ≡ Some course → AreSeatsGreatest all_apart (go 0 (take (suc k) (seats_at 0 4 (0 ∷ []))) lone) 1
unfolding go after_course after_restart
opened_at zero course at = one_seat (go 0 (take 1 (seats_at 0 4 (0 ∷ []))) lone) (omega arith)
opened_at (suc zero) course at = one_seat (go 0 (take 2 (seats_at 0 4 (0 ∷ []))) lone) (omega arith)
opened_at (suc (suc zero)) course at = one_seat (go 0 (take 3 (seats_at 0 4 (0 ∷ []))) lone) (omega arith)
opened_at (suc (suc (suc k))) course at = absurd (none-some course at)

its_node : (k node : ℕ) (course : Course) → slice_get (seats_at 0 4 (0 ∷ [])) k ≡ Some course → IsOpening node course → 1 ≡ node
its_node zero node course at opens = subst (IsOpening node) (sym (same_Some (adds 1 0 0) course at)) opens
its_node (suc zero) node course at opens = subst (IsOpening node) (sym (same_Some (adds 1 1 4) course at)) opens
its_node (suc (suc zero)) node course at opens = subst (IsOpening node) (sym (same_Some (Starts 1 (0 ∷ [])) course at)) opens
its_node (suc (suc (suc k))) node course at opens = absurd (none-some course at)

pub returns-clause-each_opening : goal.returns-clause-each_opening
returns-clause-each_opening c k node course at opens =
    subst (AreSeatsGreatest all_apart (go 0 (take (suc k) (seats_at 0 4 (0 ∷ []))) lone)) (its_node k node course at opens) (opened_at k course at)

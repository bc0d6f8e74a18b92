-- The law of seats, and the law of seeds.
use Rattle.seat_law.specs.Seats.{blank_sites, free_in, go}
use Rattle.seat_law.proofs.Safe.{seats_single_use}
use Rattle.seat_law.proofs.SeatSeeds.{seats_give_up}
use Rattle.seat_law.proofs.Seeds.{by_seed, order_by_seed}
use Rattle.seat_law.proofs.seed_laws.seats_of_seeds_are_safe.Goals as goal

pub returns-clause-single_use : goal.returns-clause-single_use
returns-clause-single_use c seed n tokens boot old courses may opens =
    let blank = blank_sites n tokens boot old in
    by_seed n (free_in blank courses) seed (go 0 courses blank).seen.own.accepted (seats_single_use n tokens boot old courses may) (seats_give_up seed n tokens boot old courses may opens)

pub returns-clause-in_order : goal.returns-clause-in_order
returns-clause-in_order c seed n tokens boot old courses may opens =
    let blank = blank_sites n tokens boot old in
    order_by_seed n (free_in blank courses) seed (go 0 courses blank).seen.own.accepted (seats_give_up seed n tokens boot old courses may opens)

pub returns-clause-majority : goal.returns-clause-majority
returns-clause-majority c = seats_give_up

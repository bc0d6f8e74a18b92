-- Each clause is a lemma.
use Rattle.seat_law.proofs.SeatVotes.{seats_have_votes}
use Rattle.seat_law.proofs.Votes.{votes_hold}
use Rattle.seat_law.proofs.seed_laws.acceptances_have_votes.Goals as goal

pub returns-clause-schedules : goal.returns-clause-schedules
returns-clause-schedules c = votes_hold

pub returns-clause-seats : goal.returns-clause-seats
returns-clause-seats c = seats_have_votes

use Rattle.sealed_port.proofs.RequestLemmas.{aside_law, aside_lives_law, queue_law, taken_law}
use Rattle.sealed_port.proofs.request_laws.nothing_is_taken_twice.Goals as goal

pub returns-clause-once : goal.returns-clause-once
returns-clause-once c = aside_law

pub returns-clause-over_lives : goal.returns-clause-over_lives
returns-clause-over_lives c = aside_lives_law

pub returns-clause-order : goal.returns-clause-order
returns-clause-order c = queue_law

pub returns-clause-taken : goal.returns-clause-taken
returns-clause-taken c = taken_law

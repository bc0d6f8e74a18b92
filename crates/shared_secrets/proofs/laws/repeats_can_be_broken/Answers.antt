-- The rows of one seed are named.
use Rattle.std.proofs.Common.{refl, arith}
use Rattle.shared_secrets.specs.Examples.{event_seed}
use Rattle.shared_secrets.proofs.laws.repeats_can_be_broken.Goals as goal

pub returns-clause-not_distinct : goal.returns-clause-not_distinct
returns-clause-not_distinct c h = h 0 2 (event_seed 1) (omega arith) (omega arith) refl

pub returns-clause-second_repeat : goal.returns-clause-second_repeat
returns-clause-second_repeat c h = h.before 0 2 (event_seed 1) (omega arith) (omega arith) refl

pub returns-clause-shared_is_missed : goal.returns-clause-shared_is_missed
returns-clause-shared_is_missed c h = h 0 1 (event_seed 1) (omega arith) (omega arith) refl

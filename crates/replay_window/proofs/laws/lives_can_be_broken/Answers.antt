-- Of two equal moments the first is not apart from the second.
use Rattle.std.proofs.Common.{◌≡◌, true, false}
use Rattle.std.specs.List.{IsDistinct}
use Rattle.replay_window.proofs.laws.lives_can_be_broken.Goals as goal

pub returns-clause-distinct : goal.returns-clause-distinct
unfolding IsDistinct
returns-clause-distinct c = λ distinct. let clash : true ≡ false = distinct.0.0 in absurd cc

pub returns-clause-last_distinct : goal.returns-clause-last_distinct
unfolding IsDistinct
returns-clause-last_distinct c = λ distinct. let clash : true ≡ false = distinct.1.0.0 in absurd cc

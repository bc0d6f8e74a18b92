-- Each case is computed.
use Rattle.std.proofs.Common.{refl}
use Rattle.floor_port.proofs.worked.offers_are_worked.Goals as goal

pub returns-clause-members : goal.returns-clause-members
returns-clause-members c = refl

pub returns-clause-quiet : goal.returns-clause-quiet
returns-clause-quiet c = refl

pub returns-clause-fresh : goal.returns-clause-fresh
returns-clause-fresh c = refl

pub returns-clause-fresh_again : goal.returns-clause-fresh_again
returns-clause-fresh_again c = refl

pub returns-clause-all_fresh : goal.returns-clause-all_fresh
returns-clause-all_fresh c = refl

pub returns-clause-voted : goal.returns-clause-voted
returns-clause-voted c = refl

pub returns-clause-voted_before : goal.returns-clause-voted_before
returns-clause-voted_before c = refl

pub returns-clause-bodies : goal.returns-clause-bodies
returns-clause-bodies c = refl

pub returns-clause-quiet_turn : goal.returns-clause-quiet_turn
returns-clause-quiet_turn c = refl

pub returns-clause-quiet_turn_after_votes : goal.returns-clause-quiet_turn_after_votes
returns-clause-quiet_turn_after_votes c = refl

pub returns-clause-no_rows : goal.returns-clause-no_rows
returns-clause-no_rows c = refl

pub returns-clause-turns : goal.returns-clause-turns
returns-clause-turns c = refl

pub returns-clause-others : goal.returns-clause-others
returns-clause-others c = refl

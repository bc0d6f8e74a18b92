-- Each case is computed.
use Rattle.std.proofs.Common.{refl}
use Rattle.vote_wire.specs.Body.{body_at, message_at, vote_at, denial_at, floor_at, proposal_at, factor_at, next_at}
use Rattle.vote_wire.proofs.laws.bodies_are_worked.Goals as goal

pub returns-clause-ask : goal.returns-clause-ask
unfolding body_at message_at vote_at denial_at floor_at proposal_at factor_at next_at
returns-clause-ask c = refl

pub returns-clause-grant : goal.returns-clause-grant
unfolding body_at message_at vote_at denial_at floor_at proposal_at factor_at next_at
returns-clause-grant c = refl

pub returns-clause-deny : goal.returns-clause-deny
unfolding body_at message_at vote_at denial_at floor_at proposal_at factor_at next_at
returns-clause-deny c = refl

pub returns-clause-floor : goal.returns-clause-floor
unfolding body_at message_at vote_at denial_at floor_at proposal_at factor_at next_at
returns-clause-floor c = refl

pub returns-clause-ask_read : goal.returns-clause-ask_read
unfolding body_at message_at vote_at denial_at floor_at proposal_at factor_at next_at
returns-clause-ask_read c = refl

pub returns-clause-grant_read : goal.returns-clause-grant_read
unfolding body_at message_at vote_at denial_at floor_at proposal_at factor_at next_at
returns-clause-grant_read c = refl

pub returns-clause-deny_read : goal.returns-clause-deny_read
unfolding body_at message_at vote_at denial_at floor_at proposal_at factor_at next_at
returns-clause-deny_read c = refl

pub returns-clause-floor_read : goal.returns-clause-floor_read
unfolding body_at message_at vote_at denial_at floor_at proposal_at factor_at next_at
returns-clause-floor_read c = refl

pub returns-clause-longer_ask : goal.returns-clause-longer_ask
unfolding body_at message_at vote_at denial_at floor_at proposal_at factor_at next_at
returns-clause-longer_ask c = refl

pub returns-clause-longer_deny : goal.returns-clause-longer_deny
unfolding body_at message_at vote_at denial_at floor_at proposal_at factor_at next_at
returns-clause-longer_deny c = refl

pub returns-clause-longer_floor : goal.returns-clause-longer_floor
unfolding body_at message_at vote_at denial_at floor_at proposal_at factor_at next_at
returns-clause-longer_floor c = refl

pub returns-clause-shorter_ask : goal.returns-clause-shorter_ask
unfolding body_at message_at vote_at denial_at floor_at proposal_at factor_at next_at
returns-clause-shorter_ask c = refl

pub returns-clause-shorter_deny : goal.returns-clause-shorter_deny
unfolding body_at message_at vote_at denial_at floor_at proposal_at factor_at next_at
returns-clause-shorter_deny c = refl

pub returns-clause-shorter_floor : goal.returns-clause-shorter_floor
unfolding body_at message_at vote_at denial_at floor_at proposal_at factor_at next_at
returns-clause-shorter_floor c = refl

pub returns-clause-empty : goal.returns-clause-empty
unfolding body_at message_at vote_at denial_at floor_at proposal_at factor_at next_at
returns-clause-empty c = refl

pub returns-clause-mark_0 : goal.returns-clause-mark_0
unfolding body_at message_at vote_at denial_at floor_at proposal_at factor_at next_at
returns-clause-mark_0 c = refl

pub returns-clause-mark_1 : goal.returns-clause-mark_1
unfolding body_at message_at vote_at denial_at floor_at proposal_at factor_at next_at
returns-clause-mark_1 c = refl

pub returns-clause-version_1 : goal.returns-clause-version_1
unfolding body_at message_at vote_at denial_at floor_at proposal_at factor_at next_at
returns-clause-version_1 c = refl

pub returns-clause-version_3 : goal.returns-clause-version_3
unfolding body_at message_at vote_at denial_at floor_at proposal_at factor_at next_at
returns-clause-version_3 c = refl

pub returns-clause-kind_0 : goal.returns-clause-kind_0
unfolding body_at message_at vote_at denial_at floor_at proposal_at factor_at next_at
returns-clause-kind_0 c = refl

pub returns-clause-kind_5 : goal.returns-clause-kind_5
unfolding body_at message_at vote_at denial_at floor_at proposal_at factor_at next_at
returns-clause-kind_5 c = refl

pub returns-clause-another_kind : goal.returns-clause-another_kind
unfolding body_at message_at vote_at denial_at floor_at proposal_at factor_at next_at
returns-clause-another_kind c = refl

pub returns-clause-from_0 : goal.returns-clause-from_0
unfolding body_at message_at vote_at denial_at floor_at proposal_at factor_at next_at
returns-clause-from_0 c = refl

pub returns-clause-from_10 : goal.returns-clause-from_10
unfolding body_at message_at vote_at denial_at floor_at proposal_at factor_at next_at
returns-clause-from_10 c = refl

pub returns-clause-floor_from_0 : goal.returns-clause-floor_from_0
unfolding body_at message_at vote_at denial_at floor_at proposal_at factor_at next_at
returns-clause-floor_from_0 c = refl

pub returns-clause-floor_from_10 : goal.returns-clause-floor_from_10
unfolding body_at message_at vote_at denial_at floor_at proposal_at factor_at next_at
returns-clause-floor_from_10 c = refl

pub returns-clause-to_0 : goal.returns-clause-to_0
unfolding body_at message_at vote_at denial_at floor_at proposal_at factor_at next_at
returns-clause-to_0 c = refl

pub returns-clause-to_10 : goal.returns-clause-to_10
unfolding body_at message_at vote_at denial_at floor_at proposal_at factor_at next_at
returns-clause-to_10 c = refl

pub returns-clause-to_itself : goal.returns-clause-to_itself
unfolding body_at message_at vote_at denial_at floor_at proposal_at factor_at next_at
returns-clause-to_itself c = refl

pub returns-clause-token : goal.returns-clause-token
unfolding body_at message_at vote_at denial_at floor_at proposal_at factor_at next_at
returns-clause-token c = refl

pub returns-clause-token_of_10000 : goal.returns-clause-token_of_10000
unfolding body_at message_at vote_at denial_at floor_at proposal_at factor_at next_at
returns-clause-token_of_10000 c = refl

pub returns-clause-ask_of_another : goal.returns-clause-ask_of_another
unfolding body_at message_at vote_at denial_at floor_at proposal_at factor_at next_at
returns-clause-ask_of_another c = refl

pub returns-clause-grant_of_another : goal.returns-clause-grant_of_another
unfolding body_at message_at vote_at denial_at floor_at proposal_at factor_at next_at
returns-clause-grant_of_another c = refl

pub returns-clause-deny_of_another : goal.returns-clause-deny_of_another
unfolding body_at message_at vote_at denial_at floor_at proposal_at factor_at next_at
returns-clause-deny_of_another c = refl

pub returns-clause-node_0 : goal.returns-clause-node_0
unfolding body_at message_at vote_at denial_at floor_at proposal_at factor_at next_at
returns-clause-node_0 c = refl

pub returns-clause-last_numbers : goal.returns-clause-last_numbers
unfolding body_at message_at vote_at denial_at floor_at proposal_at factor_at next_at
returns-clause-last_numbers c = refl

pub returns-clause-boot : goal.returns-clause-boot
unfolding body_at message_at vote_at denial_at floor_at proposal_at factor_at next_at
returns-clause-boot c = refl

pub returns-clause-seq : goal.returns-clause-seq
unfolding body_at message_at vote_at denial_at floor_at proposal_at factor_at next_at
returns-clause-seq c = refl

pub returns-clause-one_factor : goal.returns-clause-one_factor
unfolding body_at message_at vote_at denial_at floor_at proposal_at factor_at next_at
returns-clause-one_factor c = refl

pub returns-clause-two_factors : goal.returns-clause-two_factors
unfolding body_at message_at vote_at denial_at floor_at proposal_at factor_at next_at
returns-clause-two_factors c = refl

pub returns-clause-three_factors : goal.returns-clause-three_factors
unfolding body_at message_at vote_at denial_at floor_at proposal_at factor_at next_at
returns-clause-three_factors c = refl

pub returns-clause-no_factor : goal.returns-clause-no_factor
unfolding body_at message_at vote_at denial_at floor_at proposal_at factor_at next_at
returns-clause-no_factor c = refl

pub returns-clause-hi : goal.returns-clause-hi
unfolding body_at message_at vote_at denial_at floor_at proposal_at factor_at next_at
returns-clause-hi c = refl

pub returns-clause-lo : goal.returns-clause-lo
unfolding body_at message_at vote_at denial_at floor_at proposal_at factor_at next_at
returns-clause-lo c = refl

pub returns-clause-none_free : goal.returns-clause-none_free
unfolding body_at message_at vote_at denial_at floor_at proposal_at factor_at next_at
returns-clause-none_free c = refl

pub returns-clause-next : goal.returns-clause-next
unfolding body_at message_at vote_at denial_at floor_at proposal_at factor_at next_at
returns-clause-next c = refl

pub returns-clause-denied_next : goal.returns-clause-denied_next
unfolding body_at message_at vote_at denial_at floor_at proposal_at factor_at next_at
returns-clause-denied_next c = refl

pub returns-clause-denied_boot : goal.returns-clause-denied_boot
unfolding body_at message_at vote_at denial_at floor_at proposal_at factor_at next_at
returns-clause-denied_boot c = refl

-- Each step is computed.
use Rattle.std.proofs.Common.{refl}
use Rattle.vote_core.specs.Voting.{propose, propose_alone, propose_among, on_ask, accept, count_grant, on_grant, raise, count_deny, on_deny, on_floor, on_message, tick}
use Rattle.vote_core.proofs.laws.steps_are_worked.Goals as goal

pub returns-clause-proposed : goal.returns-clause-proposed
unfolding propose propose_alone propose_among
returns-clause-proposed c = refl

pub returns-clause-proposed_of_two : goal.returns-clause-proposed_of_two
unfolding propose propose_alone propose_among
returns-clause-proposed_of_two c = refl

pub returns-clause-proposed_alone : goal.returns-clause-proposed_alone
unfolding propose propose_alone propose_among
returns-clause-proposed_alone c = refl

pub returns-clause-asked_again : goal.returns-clause-asked_again
unfolding on_message on_ask
returns-clause-asked_again c = refl

pub returns-clause-asked_for_more : goal.returns-clause-asked_for_more
unfolding on_message on_ask
returns-clause-asked_for_more c = refl

pub returns-clause-asked_for_less : goal.returns-clause-asked_for_less
unfolding on_message on_ask
returns-clause-asked_for_less c = refl

pub returns-clause-asked_by_another : goal.returns-clause-asked_by_another
unfolding on_message on_ask
returns-clause-asked_by_another c = refl

pub returns-clause-asked_in_next_boot : goal.returns-clause-asked_in_next_boot
unfolding on_message on_ask
returns-clause-asked_in_next_boot c = refl

pub returns-clause-asked_for_next_number : goal.returns-clause-asked_for_next_number
unfolding on_message on_ask
returns-clause-asked_for_next_number c = refl

pub returns-clause-asked_for_free : goal.returns-clause-asked_for_free
unfolding on_message on_ask
returns-clause-asked_for_free c = refl

pub returns-clause-asked_below : goal.returns-clause-asked_below
unfolding on_message on_ask
returns-clause-asked_below c = refl

pub returns-clause-asked_at_next : goal.returns-clause-asked_at_next
unfolding on_message on_ask
returns-clause-asked_at_next c = refl

pub returns-clause-granted : goal.returns-clause-granted
unfolding on_message on_grant count_grant accept
returns-clause-granted c = refl

pub returns-clause-accepted : goal.returns-clause-accepted
unfolding on_message on_grant count_grant accept
returns-clause-accepted c = refl

pub returns-clause-accepted_of_two : goal.returns-clause-accepted_of_two
unfolding on_message on_grant count_grant accept
returns-clause-accepted_of_two c = refl

pub returns-clause-accepted_of_three : goal.returns-clause-accepted_of_three
unfolding on_message on_grant count_grant accept
returns-clause-accepted_of_three c = refl

pub returns-clause-granted_by_two_of_four : goal.returns-clause-granted_by_two_of_four
unfolding on_message on_grant count_grant accept
returns-clause-granted_by_two_of_four c = refl

pub returns-clause-accepted_of_four : goal.returns-clause-accepted_of_four
unfolding on_message on_grant count_grant accept
returns-clause-accepted_of_four c = refl

pub returns-clause-granted_again : goal.returns-clause-granted_again
unfolding on_message on_grant count_grant accept
returns-clause-granted_again c = refl

pub returns-clause-granted_after_deny : goal.returns-clause-granted_after_deny
unfolding on_message on_grant count_grant accept
returns-clause-granted_after_deny c = refl

pub returns-clause-granted_other_token : goal.returns-clause-granted_other_token
unfolding on_message on_grant count_grant accept
returns-clause-granted_other_token c = refl

pub returns-clause-granted_other_lo : goal.returns-clause-granted_other_lo
unfolding on_message on_grant count_grant accept
returns-clause-granted_other_lo c = refl

pub returns-clause-granted_other_hi : goal.returns-clause-granted_other_hi
unfolding on_message on_grant count_grant accept
returns-clause-granted_other_hi c = refl

pub returns-clause-granted_in_last_boot : goal.returns-clause-granted_in_last_boot
unfolding on_message on_grant count_grant accept
returns-clause-granted_in_last_boot c = refl

pub returns-clause-granted_other_number : goal.returns-clause-granted_other_number
unfolding on_message on_grant count_grant accept
returns-clause-granted_other_number c = refl

pub returns-clause-granted_the_other : goal.returns-clause-granted_the_other
unfolding on_message on_grant count_grant accept
returns-clause-granted_the_other c = refl

pub returns-clause-denied : goal.returns-clause-denied
unfolding on_message on_deny raise count_deny
returns-clause-denied c = refl

pub returns-clause-spent : goal.returns-clause-spent
unfolding on_message on_deny raise count_deny
returns-clause-spent c = refl

pub returns-clause-spent_of_two : goal.returns-clause-spent_of_two
unfolding on_message on_deny raise count_deny
returns-clause-spent_of_two c = refl

pub returns-clause-denied_by_one_of_three : goal.returns-clause-denied_by_one_of_three
unfolding on_message on_deny raise count_deny
returns-clause-denied_by_one_of_three c = refl

pub returns-clause-spent_of_three : goal.returns-clause-spent_of_three
unfolding on_message on_deny raise count_deny
returns-clause-spent_of_three c = refl

pub returns-clause-denied_by_one_of_four : goal.returns-clause-denied_by_one_of_four
unfolding on_message on_deny raise count_deny
returns-clause-denied_by_one_of_four c = refl

pub returns-clause-spent_of_four : goal.returns-clause-spent_of_four
unfolding on_message on_deny raise count_deny
returns-clause-spent_of_four c = refl

pub returns-clause-denied_again : goal.returns-clause-denied_again
unfolding on_message on_deny raise count_deny
returns-clause-denied_again c = refl

pub returns-clause-denied_after_grant : goal.returns-clause-denied_after_grant
unfolding on_message on_deny raise count_deny
returns-clause-denied_after_grant c = refl

pub returns-clause-denied_below : goal.returns-clause-denied_below
unfolding on_message on_deny raise count_deny
returns-clause-denied_below c = refl

pub returns-clause-denied_other_token : goal.returns-clause-denied_other_token
unfolding on_message on_deny raise count_deny
returns-clause-denied_other_token c = refl

pub returns-clause-denied_in_last_boot : goal.returns-clause-denied_in_last_boot
unfolding on_message on_deny raise count_deny
returns-clause-denied_in_last_boot c = refl

pub returns-clause-denied_other_number : goal.returns-clause-denied_other_number
unfolding on_message on_deny raise count_deny
returns-clause-denied_other_number c = refl

pub returns-clause-told_higher : goal.returns-clause-told_higher
unfolding on_message on_floor raise
returns-clause-told_higher c = refl

pub returns-clause-told_same : goal.returns-clause-told_same
unfolding on_message on_floor raise
returns-clause-told_same c = refl

pub returns-clause-told_lower : goal.returns-clause-told_lower
unfolding on_message on_floor raise
returns-clause-told_lower c = refl

pub returns-clause-ticked : goal.returns-clause-ticked
unfolding tick
returns-clause-ticked c = refl

pub returns-clause-timeouts : goal.returns-clause-timeouts
unfolding tick
returns-clause-timeouts c = refl

pub returns-clause-no_pass : goal.returns-clause-no_pass
returns-clause-no_pass c = refl

pub returns-clause-pass_after_others : goal.returns-clause-pass_after_others
returns-clause-pass_after_others c = refl

pub returns-clause-first_pass : goal.returns-clause-first_pass
returns-clause-first_pass c = refl

pub returns-clause-ticked_at_last_token : goal.returns-clause-ticked_at_last_token
unfolding tick
returns-clause-ticked_at_last_token c = refl

pub returns-clause-ticked_without_tokens : goal.returns-clause-ticked_without_tokens
unfolding tick
returns-clause-ticked_without_tokens c = refl

pub returns-clause-ticked_alone : goal.returns-clause-ticked_alone
unfolding tick
returns-clause-ticked_alone c = refl

-- Each case is computed.
use Rattle.std.proofs.Common.{refl}
use Rattle.std.specs.Fmt.{digits}
use Rattle.oathd_database.specs.Made.{member_line, ready_line, step_text, step_words, time_text}
use Rattle.oathd_database.proofs.made.made_is_worked.Goals as goal

pub returns-clause-short_steps : goal.returns-clause-short_steps
returns-clause-short_steps c = refl

pub returns-clause-long_steps : goal.returns-clause-long_steps
returns-clause-long_steps c = refl

pub returns-clause-drift : goal.returns-clause-drift
returns-clause-drift c = refl

pub returns-clause-time : goal.returns-clause-time
unfolding digits time_text
returns-clause-time c = refl

pub returns-clause-last_second : goal.returns-clause-last_second
unfolding digits time_text
returns-clause-last_second c = refl

pub returns-clause-next_day : goal.returns-clause-next_day
unfolding digits time_text
returns-clause-next_day c = refl

pub returns-clause-member : goal.returns-clause-member
unfolding digits member_line
returns-clause-member c = refl

pub returns-clause-store : goal.returns-clause-store
unfolding digits member_line
returns-clause-store c = refl

pub returns-clause-ready : goal.returns-clause-ready
unfolding digits time_text step_words ready_line
returns-clause-ready c = refl

pub returns-clause-no_time : goal.returns-clause-no_time
unfolding step_text
returns-clause-no_time c = refl

pub returns-clause-no_such_step : goal.returns-clause-no_such_step
unfolding step_text
returns-clause-no_such_step c = refl

pub returns-clause-second_token : goal.returns-clause-second_token
unfolding digits time_text step_words ready_line step_text
returns-clause-second_token c = refl

pub returns-clause-no_token : goal.returns-clause-no_token
unfolding step_text
returns-clause-no_token c = refl

pub returns-clause-order : goal.returns-clause-order
unfolding digits time_text step_words ready_line step_text member_line
returns-clause-order c = refl

pub returns-clause-fresh : goal.returns-clause-fresh
unfolding digits time_text step_words ready_line step_text member_line
returns-clause-fresh c = refl

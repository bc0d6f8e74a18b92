use Rattle.oathd_roster.proofs.EnrolmentLemmas.{fresh_reached}
use Rattle.oathd_roster.proofs.enrolment.fresh_tokens_are_ready.Goals as goal

pub returns : goal.returns
returns c = fresh_reached

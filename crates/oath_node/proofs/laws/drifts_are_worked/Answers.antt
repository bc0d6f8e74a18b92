-- Each case is computed, the codes with it.
use Rattle.std.proofs.Common.{refl}
use Rattle.std.specs.Fmt.{digits}
use Rattle.admit_core.specs.Fit.{code_at}
use Rattle.hmac_core.specs.Unfolded.sha1_steps
use Rattle.oath_node.specs.ReferenceServer.{server_after}
use Rattle.oath_node.specs.Report.{report_from}
use Rattle.oath_node.proofs.laws.drifts_are_worked.Goals as goal

pub returns-clause-ten : goal.returns-clause-ten
unfolding code_at sha1_steps.first_words sha1_steps.schedule sha1_steps.rounds sha1_steps.compress sha1_steps.hash_after sha1_steps.digest_bytes sha1_steps.sha1 server_after report_from digits
returns-clause-ten c = refl

pub returns-clause-one : goal.returns-clause-one
unfolding code_at sha1_steps.first_words sha1_steps.schedule sha1_steps.rounds sha1_steps.compress sha1_steps.hash_after sha1_steps.digest_bytes sha1_steps.sha1 server_after report_from digits
returns-clause-one c = refl

pub returns-clause-none : goal.returns-clause-none
unfolding code_at sha1_steps.first_words sha1_steps.schedule sha1_steps.rounds sha1_steps.compress sha1_steps.hash_after sha1_steps.digest_bytes sha1_steps.sha1 server_after report_from digits
returns-clause-none c = refl

pub returns-clause-right : goal.returns-clause-right
unfolding code_at sha1_steps.first_words sha1_steps.schedule sha1_steps.rounds sha1_steps.compress sha1_steps.hash_after sha1_steps.digest_bytes sha1_steps.sha1 server_after report_from digits
returns-clause-right c = refl

pub returns-clause-behind : goal.returns-clause-behind
unfolding code_at sha1_steps.first_words sha1_steps.schedule sha1_steps.rounds sha1_steps.compress sha1_steps.hash_after sha1_steps.digest_bytes sha1_steps.sha1 server_after report_from digits
returns-clause-behind c = refl

pub returns-clause-two_codes : goal.returns-clause-two_codes
unfolding code_at sha1_steps.first_words sha1_steps.schedule sha1_steps.rounds sha1_steps.compress sha1_steps.hash_after sha1_steps.digest_bytes sha1_steps.sha1 server_after report_from digits
returns-clause-two_codes c = refl

-- Each case is computed, the codes with it.
use Rattle.std.proofs.Common.{refl}
use Rattle.std.specs.Fmt.{digits}
use Rattle.admit_core.specs.Fit.{code_at}
use Rattle.hmac_core.specs.Unfolded.sha1_steps
use Rattle.oath_node.specs.ReferenceServer.{server_after}
use Rattle.oath_node.specs.Report.{report_from}
use Rattle.oath_node.proofs.laws.answers_are_given_again.Goals as goal

pub returns-clause-outcome : goal.returns-clause-outcome
unfolding code_at sha1_steps.first_words sha1_steps.schedule sha1_steps.rounds sha1_steps.compress sha1_steps.hash_after sha1_steps.digest_bytes sha1_steps.sha1 server_after report_from digits
returns-clause-outcome c = refl

pub returns-clause-kept : goal.returns-clause-kept
unfolding code_at sha1_steps.first_words sha1_steps.schedule sha1_steps.rounds sha1_steps.compress sha1_steps.hash_after sha1_steps.digest_bytes sha1_steps.sha1 server_after report_from digits
returns-clause-kept c = refl

pub returns-clause-restarted : goal.returns-clause-restarted
unfolding code_at sha1_steps.first_words sha1_steps.schedule sha1_steps.rounds sha1_steps.compress sha1_steps.hash_after sha1_steps.digest_bytes sha1_steps.sha1 server_after report_from digits
returns-clause-restarted c = refl

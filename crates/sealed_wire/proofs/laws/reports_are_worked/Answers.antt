-- Each case is computed.
use Rattle.std.proofs.Common.{refl}
use Rattle.hmac_core.specs.Unfolded.sha256_steps
use Rattle.sealed_wire.specs.Key.{tag_of}
use Rattle.sealed_wire.specs.Report.{report_at, report_head_at}
use Rattle.sealed_wire.specs.Sealed.{sealed_bytes}
use Rattle.sealed_wire.proofs.laws.reports_are_worked.Goals as goal

pub returns-clause-request : goal.returns-clause-request
unfolding tag_of sealed_bytes sha256_steps.first_words sha256_steps.schedule sha256_steps.rounds sha256_steps.compress sha256_steps.hash_after sha256_steps.digest_bytes sha256_steps.sha256
returns-clause-request c = refl

pub returns-clause-report : goal.returns-clause-report
unfolding tag_of sealed_bytes sha256_steps.first_words sha256_steps.schedule sha256_steps.rounds sha256_steps.compress sha256_steps.hash_after sha256_steps.digest_bytes sha256_steps.sha256
returns-clause-report c = refl

pub returns-clause-read : goal.returns-clause-read
unfolding tag_of report_at report_head_at sha256_steps.first_words sha256_steps.schedule sha256_steps.rounds sha256_steps.compress sha256_steps.hash_after sha256_steps.digest_bytes sha256_steps.sha256
returns-clause-read c = refl

pub returns-clause-unbound : goal.returns-clause-unbound
unfolding tag_of report_at report_head_at sha256_steps.first_words sha256_steps.schedule sha256_steps.rounds sha256_steps.compress sha256_steps.hash_after sha256_steps.digest_bytes sha256_steps.sha256
returns-clause-unbound c = refl

pub returns-clause-another_request : goal.returns-clause-another_request
unfolding tag_of report_at report_head_at sha256_steps.first_words sha256_steps.schedule sha256_steps.rounds sha256_steps.compress sha256_steps.hash_after sha256_steps.digest_bytes sha256_steps.sha256
returns-clause-another_request c = refl

pub returns-clause-key : goal.returns-clause-key
unfolding tag_of report_at report_head_at sha256_steps.first_words sha256_steps.schedule sha256_steps.rounds sha256_steps.compress sha256_steps.hash_after sha256_steps.digest_bytes sha256_steps.sha256
returns-clause-key c = refl

pub returns-clause-answer : goal.returns-clause-answer
unfolding tag_of report_at report_head_at sha256_steps.first_words sha256_steps.schedule sha256_steps.rounds sha256_steps.compress sha256_steps.hash_after sha256_steps.digest_bytes sha256_steps.sha256
returns-clause-answer c = refl

pub returns-clause-kind : goal.returns-clause-kind
unfolding report_head_at
returns-clause-kind c = refl

pub returns-clause-longest : goal.returns-clause-longest
unfolding report_head_at
returns-clause-longest c = refl

pub returns-clause-too_long : goal.returns-clause-too_long
unfolding report_head_at
returns-clause-too_long c = refl

-- Each case is computed.
use Rattle.std.proofs.Common.{refl}
use Rattle.hmac_core.specs.Unfolded.sha256_steps
use Rattle.sealed_wire.specs.Body.{head_at}
use Rattle.sealed_wire.specs.Key.{tag_of}
use Rattle.sealed_wire.specs.Sealed.{sealed_at, sealed_bytes}
use Rattle.sealed_port.proofs.request_worked.requests_are_worked.Goals as goal

pub returns-clause-request : goal.returns-clause-request
unfolding tag_of sealed_bytes sealed_at head_at sha256_steps.first_words sha256_steps.schedule sha256_steps.rounds sha256_steps.compress sha256_steps.hash_after sha256_steps.digest_bytes sha256_steps.sha256
returns-clause-request c = refl

pub returns-clause-second_operator : goal.returns-clause-second_operator
unfolding tag_of sealed_bytes sealed_at head_at sha256_steps.first_words sha256_steps.schedule sha256_steps.rounds sha256_steps.compress sha256_steps.hash_after sha256_steps.digest_bytes sha256_steps.sha256
returns-clause-second_operator c = refl

pub returns-clause-wrong_tag : goal.returns-clause-wrong_tag
unfolding tag_of sealed_bytes sealed_at head_at sha256_steps.first_words sha256_steps.schedule sha256_steps.rounds sha256_steps.compress sha256_steps.hash_after sha256_steps.digest_bytes sha256_steps.sha256
returns-clause-wrong_tag c = refl

pub returns-clause-no_clock : goal.returns-clause-no_clock
unfolding tag_of sealed_bytes sealed_at head_at sha256_steps.first_words sha256_steps.schedule sha256_steps.rounds sha256_steps.compress sha256_steps.hash_after sha256_steps.digest_bytes sha256_steps.sha256
returns-clause-no_clock c = refl

pub returns-clause-early : goal.returns-clause-early
unfolding tag_of sealed_bytes sealed_at head_at sha256_steps.first_words sha256_steps.schedule sha256_steps.rounds sha256_steps.compress sha256_steps.hash_after sha256_steps.digest_bytes sha256_steps.sha256
returns-clause-early c = refl

pub returns-clause-last : goal.returns-clause-last
unfolding tag_of sealed_bytes sealed_at head_at sha256_steps.first_words sha256_steps.schedule sha256_steps.rounds sha256_steps.compress sha256_steps.hash_after sha256_steps.digest_bytes sha256_steps.sha256
returns-clause-last c = refl

pub returns-clause-late : goal.returns-clause-late
unfolding tag_of sealed_bytes sealed_at head_at sha256_steps.first_words sha256_steps.schedule sha256_steps.rounds sha256_steps.compress sha256_steps.hash_after sha256_steps.digest_bytes sha256_steps.sha256
returns-clause-late c = refl

pub returns-clause-seen : goal.returns-clause-seen
unfolding tag_of sealed_bytes sealed_at head_at sha256_steps.first_words sha256_steps.schedule sha256_steps.rounds sha256_steps.compress sha256_steps.hash_after sha256_steps.digest_bytes sha256_steps.sha256
returns-clause-seen c = refl

pub returns-clause-mark : goal.returns-clause-mark
unfolding tag_of sealed_bytes sealed_at head_at sha256_steps.first_words sha256_steps.schedule sha256_steps.rounds sha256_steps.compress sha256_steps.hash_after sha256_steps.digest_bytes sha256_steps.sha256
returns-clause-mark c = refl

pub returns-clause-last_room : goal.returns-clause-last_room
unfolding tag_of sealed_bytes sealed_at head_at sha256_steps.first_words sha256_steps.schedule sha256_steps.rounds sha256_steps.compress sha256_steps.hash_after sha256_steps.digest_bytes sha256_steps.sha256
returns-clause-last_room c = refl

pub returns-clause-no_room : goal.returns-clause-no_room
unfolding tag_of sealed_bytes sealed_at head_at sha256_steps.first_words sha256_steps.schedule sha256_steps.rounds sha256_steps.compress sha256_steps.hash_after sha256_steps.digest_bytes sha256_steps.sha256
returns-clause-no_room c = refl

pub returns-clause-no_limit : goal.returns-clause-no_limit
unfolding tag_of sealed_bytes sealed_at head_at sha256_steps.first_words sha256_steps.schedule sha256_steps.rounds sha256_steps.compress sha256_steps.hash_after sha256_steps.digest_bytes sha256_steps.sha256
returns-clause-no_limit c = refl

pub returns-clause-forms : goal.returns-clause-forms
unfolding head_at
returns-clause-forms c = refl

pub returns-clause-another_node : goal.returns-clause-another_node
unfolding head_at
returns-clause-another_node c = refl

pub returns-clause-of_a_client : goal.returns-clause-of_a_client
unfolding head_at
returns-clause-of_a_client c = refl

pub returns-clause-line_of_an_operator : goal.returns-clause-line_of_an_operator
unfolding head_at
returns-clause-line_of_an_operator c = refl

pub returns-clause-asks : goal.returns-clause-asks
unfolding head_at
returns-clause-asks c = refl

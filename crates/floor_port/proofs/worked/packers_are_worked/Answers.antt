-- Each case is computed.
use Rattle.std.proofs.Common.{refl}
use Rattle.hmac_core.specs.Unfolded.sha256_steps
use Rattle.named_wire.specs.Datagram.{datagram_at, datagram_bytes}
use Rattle.named_wire.specs.Head.{head_at}
use Rattle.vote_wire.specs.Key.{tag_of}
use Rattle.floor_port.proofs.worked.packers_are_worked.Goals as goal

pub returns-clause-told : goal.returns-clause-told
unfolding tag_of datagram_bytes datagram_at head_at sha256_steps.first_words sha256_steps.schedule sha256_steps.rounds sha256_steps.compress sha256_steps.hash_after sha256_steps.digest_bytes sha256_steps.sha256
returns-clause-told c = refl

pub returns-clause-told_by_another : goal.returns-clause-told_by_another
unfolding tag_of datagram_bytes datagram_at head_at sha256_steps.first_words sha256_steps.schedule sha256_steps.rounds sha256_steps.compress sha256_steps.hash_after sha256_steps.digest_bytes sha256_steps.sha256
returns-clause-told_by_another c = refl

pub returns-clause-told_to_another : goal.returns-clause-told_to_another
unfolding tag_of datagram_bytes datagram_at head_at sha256_steps.first_words sha256_steps.schedule sha256_steps.rounds sha256_steps.compress sha256_steps.hash_after sha256_steps.digest_bytes sha256_steps.sha256
returns-clause-told_to_another c = refl

pub returns-clause-another_key : goal.returns-clause-another_key
unfolding tag_of datagram_bytes datagram_at head_at sha256_steps.first_words sha256_steps.schedule sha256_steps.rounds sha256_steps.compress sha256_steps.hash_after sha256_steps.digest_bytes sha256_steps.sha256
returns-clause-another_key c = refl

pub returns-clause-first : goal.returns-clause-first
unfolding tag_of datagram_bytes datagram_at head_at sha256_steps.first_words sha256_steps.schedule sha256_steps.rounds sha256_steps.compress sha256_steps.hash_after sha256_steps.digest_bytes sha256_steps.sha256
returns-clause-first c = refl

pub returns-clause-left : goal.returns-clause-left
unfolding tag_of datagram_bytes datagram_at head_at sha256_steps.first_words sha256_steps.schedule sha256_steps.rounds sha256_steps.compress sha256_steps.hash_after sha256_steps.digest_bytes sha256_steps.sha256
returns-clause-left c = refl

pub returns-clause-single : goal.returns-clause-single
unfolding tag_of datagram_bytes datagram_at head_at sha256_steps.first_words sha256_steps.schedule sha256_steps.rounds sha256_steps.compress sha256_steps.hash_after sha256_steps.digest_bytes sha256_steps.sha256
returns-clause-single c = refl

pub returns-clause-single_left : goal.returns-clause-single_left
unfolding tag_of datagram_bytes datagram_at head_at sha256_steps.first_words sha256_steps.schedule sha256_steps.rounds sha256_steps.compress sha256_steps.hash_after sha256_steps.digest_bytes sha256_steps.sha256
returns-clause-single_left c = refl

pub returns-clause-second : goal.returns-clause-second
unfolding tag_of datagram_bytes datagram_at head_at sha256_steps.first_words sha256_steps.schedule sha256_steps.rounds sha256_steps.compress sha256_steps.hash_after sha256_steps.digest_bytes sha256_steps.sha256
returns-clause-second c = refl

pub returns-clause-no_news : goal.returns-clause-no_news
unfolding tag_of datagram_bytes datagram_at head_at sha256_steps.first_words sha256_steps.schedule sha256_steps.rounds sha256_steps.compress sha256_steps.hash_after sha256_steps.digest_bytes sha256_steps.sha256
returns-clause-no_news c = refl

pub returns-clause-no_news_of_two : goal.returns-clause-no_news_of_two
unfolding tag_of datagram_bytes datagram_at head_at sha256_steps.first_words sha256_steps.schedule sha256_steps.rounds sha256_steps.compress sha256_steps.hash_after sha256_steps.digest_bytes sha256_steps.sha256
returns-clause-no_news_of_two c = refl

pub returns-clause-no_news_left : goal.returns-clause-no_news_left
unfolding tag_of datagram_bytes datagram_at head_at sha256_steps.first_words sha256_steps.schedule sha256_steps.rounds sha256_steps.compress sha256_steps.hash_after sha256_steps.digest_bytes sha256_steps.sha256
returns-clause-no_news_left c = refl

pub returns-clause-another_tag : goal.returns-clause-another_tag
unfolding tag_of datagram_bytes datagram_at head_at sha256_steps.first_words sha256_steps.schedule sha256_steps.rounds sha256_steps.compress sha256_steps.hash_after sha256_steps.digest_bytes sha256_steps.sha256
returns-clause-another_tag c = refl

pub returns-clause-another_tag_left : goal.returns-clause-another_tag_left
unfolding tag_of datagram_bytes datagram_at head_at sha256_steps.first_words sha256_steps.schedule sha256_steps.rounds sha256_steps.compress sha256_steps.hash_after sha256_steps.digest_bytes sha256_steps.sha256
returns-clause-another_tag_left c = refl

pub returns-clause-another_sender : goal.returns-clause-another_sender
unfolding tag_of datagram_bytes datagram_at head_at sha256_steps.first_words sha256_steps.schedule sha256_steps.rounds sha256_steps.compress sha256_steps.hash_after sha256_steps.digest_bytes sha256_steps.sha256
returns-clause-another_sender c = refl

pub returns-clause-other_names : goal.returns-clause-other_names
unfolding tag_of datagram_bytes datagram_at head_at sha256_steps.first_words sha256_steps.schedule sha256_steps.rounds sha256_steps.compress sha256_steps.hash_after sha256_steps.digest_bytes sha256_steps.sha256
returns-clause-other_names c = refl

pub returns-clause-next : goal.returns-clause-next
returns-clause-next c = refl

pub returns-clause-after_next : goal.returns-clause-after_next
returns-clause-after_next c = refl

pub returns-clause-untold : goal.returns-clause-untold
returns-clause-untold c = refl

pub returns-clause-untold_left : goal.returns-clause-untold_left
returns-clause-untold_left c = refl

pub returns-clause-votes : goal.returns-clause-votes
returns-clause-votes c = refl

pub returns-clause-unchanged : goal.returns-clause-unchanged
returns-clause-unchanged c = refl

pub returns-clause-unheard : goal.returns-clause-unheard
unfolding tag_of datagram_bytes datagram_at head_at sha256_steps.first_words sha256_steps.schedule sha256_steps.rounds sha256_steps.compress sha256_steps.hash_after sha256_steps.digest_bytes sha256_steps.sha256
returns-clause-unheard c = refl

pub returns-clause-witness : goal.returns-clause-witness
returns-clause-witness c = refl

pub returns-clause-no_witness : goal.returns-clause-no_witness
returns-clause-no_witness c = refl

pub returns-clause-answer : goal.returns-clause-answer
returns-clause-answer c = refl

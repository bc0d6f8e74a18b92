-- What is computed, and what is read of the datagrams.
use Rattle.std.proofs.Common.{◌≡◌, ◌∙◌, ℕ, List, Option, Some, None, ◌∷◌, refl, sym, ap, subst, true≢false, true, false}
use Rattle.hmac_core.specs.Unfolded.sha256_steps
use Rattle.named_wire.specs.Datagram.{datagram_at, datagram_bytes}
use Rattle.named_wire.specs.Head.{head_at}
use Rattle.named_wire.specs.declared.head.Head.{Head}
use Rattle.named_wire.specs.declared.head.Kind.TheVariants.{Floors}
use Rattle.vote_wire.specs.Key.{tag_of}
use Rattle.named_port.specs.Translator.{is_older}
use Rattle.floor_port.specs.Examples.{body_of_two, deny_of_9, head_with, heard_1, two_floors, zeros}
use Rattle.floor_port.proofs.worked.noted_floors_can_be_dropped.Goals as goal

pub returns-clause-same_boot : goal.returns-clause-same_boot
unfolding tag_of datagram_bytes datagram_at head_at sha256_steps.first_words sha256_steps.schedule sha256_steps.rounds sha256_steps.compress sha256_steps.hash_after sha256_steps.digest_bytes sha256_steps.sha256
returns-clause-same_boot c = refl

pub returns-clause-later_boot : goal.returns-clause-later_boot
unfolding tag_of datagram_bytes datagram_at head_at sha256_steps.first_words sha256_steps.schedule sha256_steps.rounds sha256_steps.compress sha256_steps.hash_after sha256_steps.digest_bytes sha256_steps.sha256
returns-clause-later_boot c = refl

pub returns-clause-known_boot : goal.returns-clause-known_boot
returns-clause-known_boot c = refl

pub returns-clause-too_early : goal.returns-clause-too_early
unfolding tag_of datagram_bytes datagram_at head_at sha256_steps.first_words sha256_steps.schedule sha256_steps.rounds sha256_steps.compress sha256_steps.hash_after sha256_steps.digest_bytes sha256_steps.sha256
returns-clause-too_early c = refl

pub returns-clause-fallen : goal.returns-clause-fallen
unfolding tag_of datagram_bytes datagram_at head_at sha256_steps.first_words sha256_steps.schedule sha256_steps.rounds sha256_steps.compress sha256_steps.hash_after sha256_steps.digest_bytes sha256_steps.sha256
returns-clause-fallen c = refl

abbrev read_in : List ℕ → Option (Head × List ℕ)
read_in bytes = datagram_at zeros bytes

read_two : read_in two_floors ≡ Some (head_with Floors, body_of_two)
unfolding tag_of datagram_bytes datagram_at head_at sha256_steps.first_words sha256_steps.schedule sha256_steps.rounds sha256_steps.compress sha256_steps.hash_after sha256_steps.digest_bytes sha256_steps.sha256
read_two = refl

unread : read_in deny_of_9 ≡ None
unfolding tag_of datagram_bytes datagram_at head_at sha256_steps.first_words sha256_steps.schedule sha256_steps.rounds sha256_steps.compress sha256_steps.hash_after sha256_steps.digest_bytes sha256_steps.sha256
unread = refl

same_read : (one two : Head × List ℕ) → Some one ≡ Some two → one ≡ two
same_read one two e = cc

some_none : (read : Head × List ℕ) → Some read ≡ None → ⊥
some_none read e = absurd cc

pub returns-clause-in_time : goal.returns-clause-in_time
unfolding tag_of datagram_bytes datagram_at head_at sha256_steps.first_words sha256_steps.schedule sha256_steps.rounds sha256_steps.compress sha256_steps.hash_after sha256_steps.digest_bytes sha256_steps.sha256
returns-clause-in_time c = record { head = head_with Floors; body = body_of_two; reads = read_two; boot_is = refl }

pub returns-clause-not_in_time : goal.returns-clause-not_in_time
returns-clause-not_in_time c = λ h. (
    let same : (h.head, h.body) ≡ (head_with Floors, body_of_two) = same_read (h.head, h.body) (head_with Floors, body_of_two) (sym h.reads ∙ read_two) in
    true≢false (ap (λ (r : Head × List ℕ). is_older (heard_1 5) r.0) (sym same) ∙ h.boot_is))

pub returns-clause-another_tag : goal.returns-clause-another_tag
returns-clause-another_tag c = λ h. some_none (h.head, h.body) (sym h.reads ∙ unread)

-- Each is asked for the envelope that was not offered, or takes a factor twice.
use Rattle.std.proofs.Common.{◌≡◌, ℕ, zero, suc, ◌<◌, [], ◌∷◌, Some, refl, ap, arith, get_or, subst}
use Rattle.std.specs.List.{slice_get}
use Rattle.std.proofs.lemmas.Option.{none-some, same_Some}
use Rattle.admit_core.specs.Fit.{code_at}
use Rattle.sha1.specs.Sha1.{first_words, schedule, rounds, compress, hash_after, digest_bytes, sha1}
use Rattle.otp_core.specs.Acceptance.{HaveSingleUse}
use Rattle.vote_core.specs.Cases.{accepted}
use Rattle.vote_core.specs.Roster.{token_of}
use Rattle.vote_core.specs.Schedule.{Envelope}
use Rattle.vote_core.specs.Voting.{propose, propose_alone, propose_among, on_ask, accept, count_grant, on_grant, raise, count_deny, on_deny, on_floor, on_message, tick}
use Rattle.oath_node.specs.Machine.{made_by_proposal, made_by_ruling, made_by_datagram, made_while_running, made_by_event}
use Rattle.vote_core.specs.Safety.{IsDeliverable, IsOfEarlierBoot}
use Rattle.book_law.specs.Broken.{old_grant}
use Rattle.book_law.specs.Lives.{AreGenuine, Output, Sealed, ToClient, ToPeer, WasOffered, made_boot, state_after, state_after_action}
use Rattle.book_law.proofs.Walk.{former}
use Rattle.book_law.proofs.laws.books_can_be_broken.Goals as goal

-- ---- what was offered

nothing_offered : (sealed : Sealed) → WasOffered [] sealed → ⊥
nothing_offered sealed was = none-some (ToPeer sealed) was.is_there

-- the key and the token of an output
abbrev key_of : Output → ℕ
key_of (ToPeer sealed) = get_or sealed.key 0 0
key_of (ToClient answer) = 0

abbrev token_in : Output → ℕ
token_in (ToPeer sealed) = token_of sealed.envelope.message
token_in (ToClient answer) = 0

only : (one other : Sealed) → WasOffered (ToPeer one ∷ []) other → ToPeer one ≡ ToPeer other
only one other was = there was.place was.is_there
  where
    there : (place : ℕ) → slice_get (ToPeer one ∷ []) place ≡ Some (ToPeer other) → ToPeer one ≡ ToPeer other
    there zero at = same_Some (ToPeer one) (ToPeer other) at
    there (suc place) at = absurd (none-some (ToPeer other) at)

-- two acceptances of factor 0 of token 0
taken_twice : (first second : ℕ) → HaveSingleUse (accepted first first 1 0 0 0 ∷ accepted second second 1 0 0 0 ∷ []) → ⊥
taken_twice first second h =
    h.factors 0 1 (accepted first first 1 0 0 0) (accepted second second 1 0 0 0) (λ e. let same : 0 ≡ 1 = e in omega (arith, same))
    refl refl refl 0 (omega arith, omega arith) (omega arith, omega arith)

no_old : (i : ℕ) (envelope : Envelope) → slice_get [] i ≡ Some envelope → ⊥
no_old i envelope at = none-some envelope at

-- ---- envelopes

pub returns-clause-history : goal.returns-clause-history
unfolding code_at first_words schedule rounds compress hash_after digest_bytes sha1 AreGenuine state_after state_after_action made_by_event made_while_running made_by_datagram made_by_ruling made_by_proposal propose propose_alone propose_among on_ask accept count_grant on_grant raise count_deny on_deny on_floor on_message tick
returns-clause-history c = record { starts = λ i envelope at. absurd (no_old i envelope at); genuine = (tt, (tt, (tt, (tt, (tt, (tt, (tt, (tt, ((λ from vote within. record { place = 0; is_there = refl }), tt))))))))) }

pub returns-clause-early : goal.returns-clause-early
unfolding code_at first_words schedule rounds compress hash_after digest_bytes sha1 AreGenuine state_after state_after_action made_by_event made_while_running made_by_datagram made_by_ruling made_by_proposal propose propose_alone propose_among on_ask accept count_grant on_grant raise count_deny on_deny on_floor on_message tick
returns-clause-early c h = nothing_offered _ (h.genuine.1.1.1.1.1.1.1.0 refl tt (omega arith))

pub returns-clause-under_another_key : goal.returns-clause-under_another_key
unfolding code_at first_words schedule rounds compress hash_after digest_bytes sha1 AreGenuine state_after state_after_action made_by_event made_while_running made_by_datagram made_by_ruling made_by_proposal propose propose_alone propose_among on_ask accept count_grant on_grant raise count_deny on_deny on_floor on_message tick
returns-clause-under_another_key c h =
    let keys : 1 ≡ 2 = ap key_of (only _ _ (h.genuine.1.1.1.1.1.1.1.1.0 refl tt (omega arith))) in
    omega (arith, keys)

pub returns-clause-of_another_token : goal.returns-clause-of_another_token
unfolding code_at first_words schedule rounds compress hash_after digest_bytes sha1 AreGenuine state_after state_after_action made_by_event made_while_running made_by_datagram made_by_ruling made_by_proposal propose propose_alone propose_among on_ask accept count_grant on_grant raise count_deny on_deny on_floor on_message tick
returns-clause-of_another_token c h =
    let tokens : 0 ≡ 1 = ap token_in (only _ _ (h.genuine.1.1.1.1.1.1.1.1.0 refl tt (omega arith))) in
    omega (arith, tokens)

pub returns-clause-never_made : goal.returns-clause-never_made
unfolding code_at first_words schedule rounds compress hash_after digest_bytes sha1 AreGenuine state_after state_after_action made_by_event made_while_running made_by_datagram made_by_ruling made_by_proposal propose propose_alone propose_among on_ask accept count_grant on_grant raise count_deny on_deny on_floor on_message tick
returns-clause-never_made c h = nothing_offered _ (h.genuine.1.1.1.1.1.1.0 refl tt (omega arith))

pub returns-clause-never_made_in_a_stop : goal.returns-clause-never_made_in_a_stop
unfolding code_at first_words schedule rounds compress hash_after digest_bytes sha1 AreGenuine state_after state_after_action made_by_event made_while_running made_by_datagram made_by_ruling made_by_proposal propose propose_alone propose_among on_ask accept count_grant on_grant raise count_deny on_deny on_floor on_message tick
returns-clause-never_made_in_a_stop c h = nothing_offered _ (h.genuine.1.1.1.1.1.1.0 refl tt (omega arith))

pub returns-clause-never_denied : goal.returns-clause-never_denied
unfolding code_at first_words schedule rounds compress hash_after digest_bytes sha1 AreGenuine state_after state_after_action made_by_event made_while_running made_by_datagram made_by_ruling made_by_proposal propose propose_alone propose_among on_ask accept count_grant on_grant raise count_deny on_deny on_floor on_message tick
returns-clause-never_denied c h = nothing_offered _ (h.genuine.1.1.1.1.1.1.0 refl tt (omega arith))

pub returns-clause-told_by_nobody : goal.returns-clause-told_by_nobody
unfolding code_at first_words schedule rounds compress hash_after digest_bytes sha1 AreGenuine state_after state_after_action made_by_event made_while_running made_by_datagram made_by_ruling made_by_proposal propose propose_alone propose_among on_ask accept count_grant on_grant raise count_deny on_deny on_floor on_message tick
returns-clause-told_by_nobody c = record { starts = λ i envelope at. absurd (no_old i envelope at); genuine = (tt, (tt, (tt, (tt, (tt, (tt, ((λ from vote within. absurd vote), (tt, (tt, tt))))))))) }

pub returns-clause-told_by_nobody_in_a_stop : goal.returns-clause-told_by_nobody_in_a_stop
unfolding code_at first_words schedule rounds compress hash_after digest_bytes sha1 AreGenuine state_after state_after_action made_by_event made_while_running made_by_datagram made_by_ruling made_by_proposal propose propose_alone propose_among on_ask accept count_grant on_grant raise count_deny on_deny on_floor on_message tick
returns-clause-told_by_nobody_in_a_stop c = record { starts = λ i envelope at. absurd (no_old i envelope at); genuine = (tt, (tt, (tt, (tt, (tt, (tt, ((λ from vote within. absurd vote), tt))))))) }

pub returns-clause-from_another : goal.returns-clause-from_another
unfolding code_at first_words schedule rounds compress hash_after digest_bytes sha1 AreGenuine state_after state_after_action made_by_event made_while_running made_by_datagram made_by_ruling made_by_proposal propose propose_alone propose_among on_ask accept count_grant on_grant raise count_deny on_deny on_floor on_message tick
returns-clause-from_another c = record { starts = λ i envelope at. absurd (no_old i envelope at); genuine = (tt, (tt, (tt, (tt, (tt, (tt, ((λ from vote within. let senders : 2 ≡ 3 = from in absurd (omega (arith, senders))), tt))))))) }

pub returns-clause-unknown_number : goal.returns-clause-unknown_number
unfolding code_at first_words schedule rounds compress hash_after digest_bytes sha1 AreGenuine state_after state_after_action made_by_event made_while_running made_by_datagram made_by_ruling made_by_proposal propose propose_alone propose_among on_ask accept count_grant on_grant raise count_deny on_deny on_floor on_message tick
returns-clause-unknown_number c = record { starts = λ i envelope at. absurd (no_old i envelope at); genuine = (tt, (tt, (tt, (tt, (tt, (tt, ((λ from vote within. let low : 2 < 2 = within in absurd (omega (arith, low))), tt))))))) }

pub returns-clause-to_nobody : goal.returns-clause-to_nobody
unfolding code_at first_words schedule rounds compress hash_after digest_bytes sha1 AreGenuine state_after state_after_action made_by_event made_while_running made_by_datagram made_by_ruling made_by_proposal propose propose_alone propose_among on_ask accept count_grant on_grant raise count_deny on_deny on_floor on_message tick
returns-clause-to_nobody c = record { starts = λ i envelope at. absurd (no_old i envelope at); genuine = (tt, (tt, (tt, (tt, (tt, tt))))) }

-- ---- envelopes of former times

old_fits : (i : ℕ) (envelope : Envelope) → slice_get (former (old_grant 2)) i ≡ Some envelope → IsDeliverable 3 2 envelope × IsOfEarlierBoot (made_boot (old_grant 2)) envelope.message
old_fits zero envelope at =
    subst (λ l. IsDeliverable 3 2 l × IsOfEarlierBoot (made_boot (old_grant 2)) l.message) (same_Some _ envelope at)
    (record { first = omega arith; last = omega arith; other = record { first = omega arith; last = omega arith; other = λ e. let same : 2 ≡ 1 = e in omega (arith, same) }; fits = (omega arith, record { ordered = omega arith; short = omega arith }, refl) }, omega arith)
old_fits (suc i) envelope at = absurd (none-some envelope at)

pub returns-clause-of_a_boot_before : goal.returns-clause-of_a_boot_before
unfolding code_at first_words schedule rounds compress hash_after digest_bytes sha1 AreGenuine state_after state_after_action made_by_event made_while_running made_by_datagram made_by_ruling made_by_proposal propose propose_alone propose_among on_ask accept count_grant on_grant raise count_deny on_deny on_floor on_message tick
returns-clause-of_a_boot_before c = record { starts = old_fits; genuine = tt }

pub returns-clause-of_the_boot : goal.returns-clause-of_the_boot
unfolding code_at first_words schedule rounds compress hash_after digest_bytes sha1 AreGenuine state_after state_after_action made_by_event made_while_running made_by_datagram made_by_ruling made_by_proposal propose propose_alone propose_among on_ask accept count_grant on_grant raise count_deny on_deny on_floor on_message tick
returns-clause-of_the_boot c h =
    let low : 1 < 1 = (h.starts 0 _ refl).1 in
    omega (arith, low)

-- ---- rules

pub returns-clause-equal_seats : goal.returns-clause-equal_seats
unfolding code_at first_words schedule rounds compress hash_after digest_bytes sha1 AreGenuine state_after state_after_action made_by_event made_while_running made_by_datagram made_by_ruling made_by_proposal propose propose_alone propose_among on_ask accept count_grant on_grant raise count_deny on_deny on_floor on_message tick
returns-clause-equal_seats c h = taken_twice 0 1 h

pub returns-clause-seat_without_a_row : goal.returns-clause-seat_without_a_row
unfolding code_at first_words schedule rounds compress hash_after digest_bytes sha1 AreGenuine state_after state_after_action made_by_event made_while_running made_by_datagram made_by_ruling made_by_proposal propose propose_alone propose_among on_ask accept count_grant on_grant raise count_deny on_deny on_floor on_message tick
returns-clause-seat_without_a_row c h = taken_twice 0 4 h

pub returns-clause-second_row : goal.returns-clause-second_row
unfolding code_at first_words schedule rounds compress hash_after digest_bytes sha1 AreGenuine state_after state_after_action made_by_event made_while_running made_by_datagram made_by_ruling made_by_proposal propose propose_alone propose_among on_ask accept count_grant on_grant raise count_deny on_deny on_floor on_message tick
returns-clause-second_row c h = taken_twice 2 5 h

pub returns-clause-one_row : goal.returns-clause-one_row
unfolding code_at first_words schedule rounds compress hash_after digest_bytes sha1 AreGenuine state_after state_after_action made_by_event made_while_running made_by_datagram made_by_ruling made_by_proposal propose propose_alone propose_among on_ask accept count_grant on_grant raise count_deny on_deny on_floor on_message tick
returns-clause-one_row c = refl

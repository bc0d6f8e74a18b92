-- Each is asked for the datagram that was not offered, or for its range.
use Rattle.std.proofs.Common.{◌≡◌, ℕ, zero, suc, [], ◌∷◌, Some, refl, ap, sym, subst, ◌∙◌, arith, get_or}
use Rattle.std.specs.Prelude.{replicate}
use Rattle.std.specs.List.{slice_get}
use Rattle.std.proofs.lemmas.List.{length-replicate}
use Rattle.std.proofs.lemmas.Option.{none-some, same_Some}
use Rattle.admit_core.specs.Fit.{code_at}
use Rattle.sha1.specs.Sha1.{first_words, schedule, rounds, compress, hash_after, digest_bytes, sha1}
use Rattle.vote_core.specs.Roster.{token_of}
use Rattle.vote_core.specs.Schedule.{Envelope}
use Rattle.vote_core.specs.Voting.{propose, propose_alone, propose_among, on_ask, accept, count_grant, on_grant, raise, count_deny, on_deny, on_floor, on_message, tick}
use Rattle.vote_wire.specs.Key.{bare}
use Rattle.named_port.specs.Translator.{TranslatorRecord, new_translator}
use Rattle.oath_node.specs.Hosted.{envelope_at}
use Rattle.oath_node.specs.Machine.{made_by_proposal, made_by_ruling, made_by_datagram, made_while_running, made_by_event}
use Rattle.book_law.specs.Examples.{first_key, maple_first, silver, silver_first, three}
use Rattle.book_law.specs.Lives.{AreGenuine, IsOfVote, Output, Sealed, ToClient, ToPeer, WasOffered, state_after, state_after_action}
use Rattle.name_law.specs.Datagrams.{IsReadable, IsTranslatorOf, handed_bytes, named_datagram, numbered_envelope, own_names}
use Rattle.name_law.specs.Examples.{silver_ask, silver_floor, user_names}
use Rattle.name_law.specs.Unforged.{AreUnforged, IsSized, ReadsOffered}
use Rattle.name_law.proofs.Datagrams.{handed_is, reads_own}
use Rattle.name_law.proofs.Examples.{are_user_names, never, silver_floor_spelled, silver_spelled}
use Rattle.name_law.proofs.Names.{spelled_with}
use Rattle.name_law.proofs.Unforged.{unforged}
use Rattle.name_law.proofs.worked.unforged_histories_can_be_broken.Goals as goal

-- ---- ranges

pub returns-clause-book : goal.returns-clause-book
returns-clause-book c = omega arith

pub returns-clause-large_book : goal.returns-clause-large_book
returns-clause-large_book c h = let many = length-replicate 10001 silver in omega (arith, h, many)

pub returns-clause-enrolled : goal.returns-clause-enrolled
returns-clause-enrolled c = omega arith

pub returns-clause-enrolled_too_high : goal.returns-clause-enrolled_too_high
returns-clause-enrolled_too_high c h = omega (arith, h)

pub returns-clause-raised : goal.returns-clause-raised
returns-clause-raised c = omega arith

pub returns-clause-raised_too_high : goal.returns-clause-raised_too_high
returns-clause-raised_too_high c h = omega (arith, h)

pub returns-clause-remade : goal.returns-clause-remade
returns-clause-remade c = λ token. omega arith

pub returns-clause-remade_too_high : goal.returns-clause-remade_too_high
returns-clause-remade_too_high c h = let low = h 0 in omega (arith, low)

-- ---- histories

no_old : (i : ℕ) (envelope : Envelope) → slice_get [] i ≡ Some envelope → ⊥
no_old i envelope at = none-some envelope at

sized : IsSized user_names three
sized = record { are_names = are_user_names; tokens = refl; nodes = omega arith; old = λ i sealed at. absurd (none-some sealed at) }

abbrev key_of : Output → ℕ
key_of (ToPeer sealed) = get_or sealed.key 0 0
key_of (ToClient answer) = 0

abbrev token_in : Output → ℕ
token_in (ToPeer sealed) = token_of sealed.envelope.message
token_in (ToClient answer) = 0

only : (one other : Sealed) → WasOffered (ToPeer one ∷ []) other → ToPeer one ≡ ToPeer other
only one other was = there was.place was.is_there
  where
    there : (place : ℕ) → slice_get (ToPeer one ∷ []) place ≡ Some (ToPeer other) → ToPeer one ≡ ToPeer other
    there zero at = same_Some (ToPeer one) (ToPeer other) at
    there (suc place) at = absurd (none-some (ToPeer other) at)

-- the translator of node 2 in its boot 1
abbrev translator : TranslatorRecord
translator = new_translator first_key (own_names user_names (1 ∷ 0 ∷ [])) 2 1 (replicate 10 0)

is_of : IsTranslatorOf user_names 2 maple_first translator
is_of = record { key = refl; names_are = refl; me = refl }

can : IsReadable user_names maple_first 1 silver_ask
can = record { are_names = are_user_names; seats = refl; key = refl; token = omega arith; spelled = silver_spelled; boot_below = omega arith }

reads : envelope_at bare (handed_bytes translator 1 (named_datagram user_names 1 silver_ask)) ≡ Some (numbered_envelope silver_ask.envelope 1)
reads =
    ap (envelope_at bare) (handed_is user_names 2 maple_first translator 1 1 silver_ask is_of can)
    ∙ reads_own (numbered_envelope silver_ask.envelope 1) (spelled_with 1 2 0 1 silver_ask.envelope.message (omega arith) silver_spelled)

reads_silver : ReadsOffered user_names 2 maple_first (ToPeer silver_ask ∷ []) 1 (Some (numbered_envelope silver_ask.envelope 1))
reads_silver = record {
  translator = translator;
  is_of = is_of;
  bytes = named_datagram user_names 1 silver_ask;
  reads = sym reads;
  unforged = λ envelope is vote. record { place = 0; sealed = silver_ask; is_there = refl; key_is = refl; boot = 1; boot_below = omega arith; bytes_are = refl };
}

pub returns-clause-history : goal.returns-clause-history
unfolding code_at first_words schedule rounds compress hash_after digest_bytes sha1 AreGenuine AreUnforged state_after state_after_action made_by_event made_while_running made_by_datagram made_by_ruling made_by_proposal propose propose_alone propose_among on_ask accept count_grant on_grant raise count_deny on_deny on_floor on_message tick
returns-clause-history c = record {
  starts = λ i envelope at. absurd (no_old i envelope at);
  unforged = (omega arith, (omega arith, (omega arith, (omega arith, (omega arith, (omega arith, (tt, (tt, (reads_silver, tt)))))))));
}

pub returns-clause-to_nobody : goal.returns-clause-to_nobody
unfolding code_at first_words schedule rounds compress hash_after digest_bytes sha1 AreGenuine AreUnforged state_after state_after_action made_by_event made_while_running made_by_datagram made_by_ruling made_by_proposal propose propose_alone propose_among on_ask accept count_grant on_grant raise count_deny on_deny on_floor on_message tick
returns-clause-to_nobody c = record {
  starts = λ i envelope at. absurd (no_old i envelope at);
  unforged = (omega arith, (omega arith, (omega arith, (omega arith, (tt, tt)))));
}

-- the translator of node 1 in its boot 1
abbrev translator_1 : TranslatorRecord
translator_1 = new_translator first_key (own_names user_names (0 ∷ 1 ∷ [])) 1 1 (replicate 10 0)

is_of_1 : IsTranslatorOf user_names 1 silver_first translator_1
is_of_1 = record { key = refl; names_are = refl; me = refl }

can_floor : IsReadable user_names silver_first 1 silver_floor
can_floor = record { are_names = are_user_names; seats = refl; key = refl; token = omega arith; spelled = silver_floor_spelled; boot_below = omega arith }

reads_floor : envelope_at bare (handed_bytes translator_1 2 (named_datagram user_names 1 silver_floor)) ≡ Some (numbered_envelope silver_floor.envelope 0)
reads_floor =
    ap (envelope_at bare) (handed_is user_names 1 silver_first translator_1 1 2 silver_floor is_of_1 can_floor)
    ∙ reads_own (numbered_envelope silver_floor.envelope 0) (spelled_with 2 1 0 0 silver_floor.envelope.message (omega arith) silver_floor_spelled)

reads_told : ReadsOffered user_names 1 silver_first [] 2 (Some silver_floor.envelope)
reads_told = record {
  translator = translator_1;
  is_of = is_of_1;
  bytes = named_datagram user_names 1 silver_floor;
  reads = sym reads_floor;
  unforged = λ envelope is vote. absurd (subst (λ (l : Envelope). IsOfVote l.message) (sym (same_Some silver_floor.envelope envelope is)) vote);
}

pub returns-clause-told_by_nobody : goal.returns-clause-told_by_nobody
unfolding code_at first_words schedule rounds compress hash_after digest_bytes sha1 AreGenuine AreUnforged state_after state_after_action made_by_event made_while_running made_by_datagram made_by_ruling made_by_proposal propose propose_alone propose_among on_ask accept count_grant on_grant raise count_deny on_deny on_floor on_message tick
returns-clause-told_by_nobody c = record {
  starts = λ i envelope at. absurd (no_old i envelope at);
  unforged = (omega arith, (omega arith, (omega arith, (omega arith, (omega arith, (omega arith, (reads_told, tt)))))));
}

pub returns-clause-early : goal.returns-clause-early
unfolding code_at first_words schedule rounds compress hash_after digest_bytes sha1 AreGenuine AreUnforged state_after state_after_action made_by_event made_while_running made_by_datagram made_by_ruling made_by_proposal propose propose_alone propose_among on_ask accept count_grant on_grant raise count_deny on_deny on_floor on_message tick
returns-clause-early c h = never _ _ _ (h.unforged.1.1.1.1.1.1.1.0.unforged _ refl tt)

pub returns-clause-forged : goal.returns-clause-forged
unfolding code_at first_words schedule rounds compress hash_after digest_bytes sha1 AreGenuine AreUnforged state_after state_after_action made_by_event made_while_running made_by_datagram made_by_ruling made_by_proposal propose propose_alone propose_among on_ask accept count_grant on_grant raise count_deny on_deny on_floor on_message tick
returns-clause-forged c h = never _ _ _ (h.unforged.1.1.1.1.1.1.0.unforged _ refl tt)

pub returns-clause-forged_in_a_stop : goal.returns-clause-forged_in_a_stop
unfolding code_at first_words schedule rounds compress hash_after digest_bytes sha1 AreGenuine AreUnforged state_after state_after_action made_by_event made_while_running made_by_datagram made_by_ruling made_by_proposal propose propose_alone propose_among on_ask accept count_grant on_grant raise count_deny on_deny on_floor on_message tick
returns-clause-forged_in_a_stop c h = never _ _ _ (h.unforged.1.1.1.1.1.1.0.unforged _ refl tt)

pub returns-clause-another_token : goal.returns-clause-another_token
unfolding code_at first_words schedule rounds compress hash_after digest_bytes sha1 AreGenuine AreUnforged state_after state_after_action made_by_event made_while_running made_by_datagram made_by_ruling made_by_proposal propose propose_alone propose_among on_ask accept count_grant on_grant raise count_deny on_deny on_floor on_message tick
returns-clause-another_token c h =
    let is = unforged c.rulings_have_grounds.ensures.grounds user_names three _ sized h in
    let tokens : 0 ≡ 1 = ap token_in (only _ _ (is.genuine.1.1.1.1.1.1.1.1.0 refl tt (omega arith))) in
    omega (arith, tokens)

pub returns-clause-under_another_key : goal.returns-clause-under_another_key
unfolding code_at first_words schedule rounds compress hash_after digest_bytes sha1 AreGenuine AreUnforged state_after state_after_action made_by_event made_while_running made_by_datagram made_by_ruling made_by_proposal propose propose_alone propose_among on_ask accept count_grant on_grant raise count_deny on_deny on_floor on_message tick
returns-clause-under_another_key c h =
    let is = unforged c.rulings_have_grounds.ensures.grounds user_names three _ sized h in
    let keys : 1 ≡ 2 = ap key_of (only _ _ (is.genuine.1.1.1.1.1.1.1.1.0 refl tt (omega arith))) in
    omega (arith, keys)

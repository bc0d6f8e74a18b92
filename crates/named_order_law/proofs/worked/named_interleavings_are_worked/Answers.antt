-- The login is computed, and the others are no histories.
use Rattle.std.proofs.Common.{◌≡◌, ℕ, zero, suc, List, [], ◌∷◌, Some, refl, sym, ap, subst, arith}
use Rattle.std.specs.Prelude.{replicate}
use Rattle.std.specs.List.{slice_get}
use Rattle.std.proofs.lemmas.Option.{none-some, same_Some}
use Rattle.admit_core.specs.Fit.{code_at}
use Rattle.sha1.specs.Sha1.{first_words, schedule, rounds, compress, hash_after, digest_bytes, sha1}
use Rattle.vote_core.specs.Schedule.{Envelope}
use Rattle.vote_core.specs.Voting.{propose, propose_alone, propose_among, on_ask, accept, count_grant, on_grant, raise, count_deny, on_deny, on_floor, on_message, tick}
use Rattle.vote_wire.specs.Datagram.{datagram_bytes}
use Rattle.vote_wire.specs.Key.{bare}
use Rattle.named_port.specs.Translator.{TranslatorRecord, new_translator}
use Rattle.oath_node.specs.Machine.{made_by_proposal, made_by_ruling, made_by_datagram, made_while_running, made_by_event}
use Rattle.book_law.specs.Examples.{first_key, maple_first, three}
use Rattle.book_law.specs.Lives.{AreGenuine, IsHistory, Output, Sealed, Terms, ToClient, ToPeer, WasOffered, state_after, state_after_action}
use Rattle.name_law.specs.Datagrams.{IsReadable, IsTranslatorOf, named_datagram, own_names}
use Rattle.name_law.specs.Examples.{silver_ask, user_names}
use Rattle.name_law.specs.Unforged.{IsSized}
use Rattle.name_law.proofs.Datagrams.{handed_is}
use Rattle.name_law.proofs.Examples.{are_user_names, silver_spelled}
use Rattle.order_law.specs.Examples.{ask_to, forged, silver_login, taken_early}
use Rattle.order_law.specs.Interleavings.{Said, WasSaid, first_place, history_of, said_before}
use Rattle.order_law.specs.Steps.{Live}
use Rattle.named_order_law.specs.Bytes.{AreUnforgedItems, HearsUnforged}
use Rattle.order_law.proofs.Login.{login}
use Rattle.named_order_law.specs.Examples.{grant_under}
use Rattle.named_order_law.proofs.Heard.{hears_grant}
use Rattle.named_order_law.proofs.worked.named_interleavings_are_worked.Goals as goal

no_old : (i : ℕ) (envelope : Envelope) → slice_get [] i ≡ Some envelope → ⊥
no_old i envelope at = none-some envelope at

-- the translator of node 2 in its boot 1
abbrev translator_2 : TranslatorRecord
translator_2 = new_translator first_key (own_names user_names (1 ∷ 0 ∷ [])) 2 1 (replicate 10 0)

is_of_2 : IsTranslatorOf user_names 2 maple_first translator_2
is_of_2 = record { key = refl; names_are = refl; me = refl }

can_ask : IsReadable user_names maple_first 1 silver_ask
can_ask = record { are_names = are_user_names; seats = refl; key = refl; token = omega arith; spelled = silver_spelled; boot_below = omega arith }

hears_ask : (s : Live) (said : List Said) → s.port ≡ bare → s.terms ≡ maple_first → WasSaid said silver_ask → HearsUnforged user_names 2 s said 1 (datagram_bytes bare 1 2 (ask_to 2 1).message)
hears_ask s said port terms was = record {
  port_is = port;
  translator = translator_2;
  is_of = subst (λ t. IsTranslatorOf user_names 2 t translator_2) (sym terms) is_of_2;
  bytes = named_datagram user_names 1 silver_ask;
  handed_is = sym (handed_is user_names 2 maple_first translator_2 1 1 silver_ask is_of_2 can_ask);
  unforged = λ envelope is vote. record { sealed = silver_ask; was = was; key_is = ap (λ (t : Terms). t.key) (sym terms); boot = 1; boot_below = omega arith; bytes_are = refl };
}

unforged : AreUnforgedItems user_names three (first_place three) (said_before three) silver_login
unfolding code_at first_words schedule rounds compress hash_after digest_bytes sha1 made_by_event made_while_running made_by_datagram made_by_ruling made_by_proposal propose propose_alone propose_among on_ask accept count_grant on_grant raise count_deny on_deny on_floor on_message tick
unforged = (tt, omega arith, (tt, omega arith, (tt, omega arith, (tt, omega arith, (tt, omega arith, (tt, omega arith, (tt, tt, (tt, tt, (tt, tt, (tt, tt, (hears_ask _ _ refl refl (record { place = 0; is_there = refl }), tt, (tt, tt, (tt, tt, (hears_grant _ _ refl refl (record { place = 2; is_there = refl }), tt, (tt, tt, (tt, tt, tt))))))))))))))))

pub returns-clause-login : goal.returns-clause-login
returns-clause-login c = record { is = login; starts = λ i envelope at. absurd (no_old i envelope at); unforged = unforged }

sized : IsSized user_names three
sized = record { are_names = are_user_names; tokens = refl; nodes = omega arith; old = λ i sealed at. absurd (none-some sealed at) }

-- ---- a Grant that nobody said before

abbrev sender_of : Output → ℕ
sender_of (ToPeer sealed) = sealed.envelope.sender
sender_of (ToClient answer) = 0

never : (one other sealed : Sealed) → (one.envelope.sender ≡ sealed.envelope.sender → ⊥) → (other.envelope.sender ≡ sealed.envelope.sender → ⊥) → WasOffered (ToPeer one ∷ ToPeer other ∷ []) sealed → ⊥
never one other sealed first second was = there was.place was.is_there
  where
    there : (place : ℕ) → slice_get (ToPeer one ∷ ToPeer other ∷ []) place ≡ Some (ToPeer sealed) → ⊥
    there zero at = first (ap sender_of (same_Some (ToPeer one) (ToPeer sealed) at))
    there (suc zero) at = second (ap sender_of (same_Some (ToPeer other) (ToPeer sealed) at))
    there (suc (suc place)) at = none-some (ToPeer sealed) at

early_is_none : IsHistory three (history_of taken_early) → ⊥
unfolding code_at first_words schedule rounds compress hash_after digest_bytes sha1 AreGenuine state_after state_after_action made_by_event made_while_running made_by_datagram made_by_ruling made_by_proposal propose propose_alone propose_among on_ask accept count_grant on_grant raise count_deny on_deny on_floor on_message tick
early_is_none h = never _ _ (grant_under first_key) (λ (e : 1 ≡ 2). omega (arith, e)) (λ (e : 1 ≡ 2). omega (arith, e)) (h.genuine.1.1.1.1.1.1.1.1.1.1.0 refl tt (omega arith))

forged_is_none : IsHistory three (history_of forged) → ⊥
unfolding code_at first_words schedule rounds compress hash_after digest_bytes sha1 AreGenuine state_after state_after_action made_by_event made_while_running made_by_datagram made_by_ruling made_by_proposal propose propose_alone propose_among on_ask accept count_grant on_grant raise count_deny on_deny on_floor on_message tick
forged_is_none h = never _ _ (grant_under first_key) (λ (e : 1 ≡ 2). omega (arith, e)) (λ (e : 1 ≡ 2). omega (arith, e)) (h.genuine.1.1.1.1.1.1.1.1.1.0 refl tt (omega arith))

pub returns-clause-early : goal.returns-clause-early
returns-clause-early c h = early_is_none (c.unforged_names_are_genuine.ensures user_names three _ sized (c.unforged_interleavings_are_genuine.ensures user_names three taken_early h))

pub returns-clause-forged : goal.returns-clause-forged
returns-clause-forged c h = forged_is_none (c.unforged_names_are_genuine.ensures user_names three _ sized (c.unforged_interleavings_are_genuine.ensures user_names three forged h))

-- The examples' names are three, and their Ask has a spelling.
use Rattle.std.proofs.Common.{◌≡◌, ℕ, zero, suc, ◌<◌, List, [], ◌∷◌, length, get_or, Some, refl, sym, ap, subst, ◌∙◌, arith}
use Rattle.std.specs.List.{slice_get}
use Rattle.std.proofs.lemmas.Option.{none-some, same_Some}
use Rattle.hmac_core.specs.Unfolded.sha256_steps
use Rattle.vote_wire.specs.Datagram as old
use Rattle.vote_wire.specs.Key.{bare, tag_of}
use Rattle.named_wire.specs.Datagram.{datagram_at, datagram_bytes}
use Rattle.named_wire.specs.Head.{head_at}
use Rattle.named_port.specs.Examples.{name_with, named_ask, node_2, zeros}
use Rattle.named_port.specs.Wire.{named_of, numbered_of}
use Rattle.oath_node.specs.Hosted.{envelope_at}
use Rattle.book_law.specs.Lives.{Output, Sealed, ToPeer}
use Rattle.name_law.specs.Datagrams.{AreNames, IsSpelled, handed_bytes, named_datagram, own_datagram}
use Rattle.name_law.specs.Examples.{all_names, ask_of, asked, sealed_ask, silver_ask, silver_floor, terms_2, three_of, user_names}
use Rattle.name_law.specs.Unforged.{IsSized, ReadsOffered, WereOffered}
use Rattle.name_law.proofs.Datagrams.{reads_own}
use Rattle.name_law.proofs.Names.{spelled_with}
use Rattle.name_law.proofs.Unforged.{AreTerms, IsKnown, KnowsOffered}

first_byte : (a b : ℕ) → name_with a ≡ name_with b → a ≡ b
first_byte a b e = ap (λ l. get_or l 0 0) e

apart : (i j : ℕ) (d : List ℕ) → i < j → j < 3 → get_or all_names i d ≡ get_or all_names j d → ⊥
apart i zero d low high e = omega (arith, low)
apart zero (suc zero) d low high e = let x = first_byte 0xcc 0xbb e in omega (arith, x)
apart (suc i) (suc zero) d low high e = omega (arith, low)
apart zero (suc (suc zero)) d low high e = let x = first_byte 0xcc 0xaa e in omega (arith, x)
apart (suc zero) (suc (suc zero)) d low high e = let x = first_byte 0xbb 0xaa e in omega (arith, x)
apart (suc (suc i)) (suc (suc zero)) d low high e = omega (arith, low)
apart i (suc (suc (suc j))) d low high e = omega (arith, high)

whole : (token : ℕ) (name : List ℕ) → slice_get all_names token ≡ Some name → length name ≡ 16
whole zero name at = subst (λ l. length l ≡ 16) (same_Some (name_with 0xcc) name at) refl
whole (suc zero) name at = subst (λ l. length l ≡ 16) (same_Some (name_with 0xbb) name at) refl
whole (suc (suc zero)) name at = subst (λ l. length l ≡ 16) (same_Some (name_with 0xaa) name at) refl
whole (suc (suc (suc token))) name at = absurd (none-some name at)

pub are_names : AreNames all_names
are_names = record { distinct = λ i j d low high. apart i j d low high; whole = whole }

apart_users : (i j : ℕ) (d : List ℕ) → i < j → j < 2 → get_or user_names i d ≡ get_or user_names j d → ⊥
apart_users i zero d low high e = omega (arith, low)
apart_users zero (suc zero) d low high e = let x = first_byte 0xaa 0xbb e in omega (arith, x)
apart_users (suc i) (suc zero) d low high e = omega (arith, low)
apart_users i (suc (suc j)) d low high e = omega (arith, high)

whole_users : (token : ℕ) (name : List ℕ) → slice_get user_names token ≡ Some name → length name ≡ 16
whole_users zero name at = subst (λ l. length l ≡ 16) (same_Some (name_with 0xaa) name at) refl
whole_users (suc zero) name at = subst (λ l. length l ≡ 16) (same_Some (name_with 0xbb) name at) refl
whole_users (suc (suc token)) name at = absurd (none-some name at)

pub are_user_names : AreNames user_names
are_user_names = record { distinct = λ i j d low high. apart_users i j d low high; whole = whole_users }

pub not_two : ◌≡◌ {A = ℕ} 1 2 → ⊥
not_two e = omega (arith, e)

pub ask_spelled : (token : ℕ) → IsSpelled (ask_of token)
ask_spelled token = (
  record { from_first = omega arith; from_last = omega arith; to_first = omega arith; to_last = omega arith; apart = not_two; token_below = omega arith },
  record {
    in_range = record { first = omega arith; last = omega arith; boot = omega arith; seq = omega arith };
    of_node = refl;
    lo_below = omega arith;
    hi_below = omega arith;
    spanned = record { ordered = omega arith; short = omega arith };
  },
)

pub silver_spelled : IsSpelled silver_ask.envelope
silver_spelled = (
  record { from_first = omega arith; from_last = omega arith; to_first = omega arith; to_last = omega arith; apart = not_two; token_below = omega arith },
  record {
    in_range = record { first = omega arith; last = omega arith; boot = omega arith; seq = omega arith };
    of_node = refl;
    lo_below = omega arith;
    hi_below = omega arith;
    spanned = record { ordered = omega arith; short = omega arith };
  },
)

old_spelled : (i : ℕ) (sealed : Sealed) → slice_get (sealed_ask ∷ []) i ≡ Some sealed → IsSpelled sealed.envelope
old_spelled zero sealed at = subst (λ (s : Sealed). IsSpelled s.envelope) (same_Some sealed_ask sealed at) (ask_spelled 2)
old_spelled (suc i) sealed at = absurd (none-some sealed at)

pub sized_three : IsSized all_names (three_of 3 (sealed_ask ∷ []))
sized_three = record { are_names = are_names; tokens = refl; nodes = omega arith; old = old_spelled }

-- ---- what was offered

pub never : (names : List (List ℕ)) (key bytes : List ℕ) → WereOffered names key [] bytes → ⊥
never names key bytes was = none-some (ToPeer was.sealed) was.is_there

pub only_asked : (place : ℕ) (sealed : Sealed) → slice_get asked place ≡ Some (ToPeer sealed) → sealed_ask ≡ sealed
only_asked zero sealed at = same sealed (same_Some (ToPeer sealed_ask) (ToPeer sealed) at)
  where
    of_output : Output → Sealed
    of_output (ToPeer sealed) = sealed
    of_output _ = sealed_ask

    same : (sealed : Sealed) → ToPeer sealed_ask ≡ ToPeer sealed → sealed_ask ≡ sealed
    same sealed e = ap of_output e
only_asked (suc place) sealed at = absurd (none-some (ToPeer sealed) at)

pub knows_asked : KnowsOffered all_names asked
knows_asked place sealed at =
    let same = only_asked place sealed at in
    subst (λ (s : Sealed). IsKnown all_names s) same (record { spelled = ask_spelled 2; token = omega arith })

pub terms_2_are : AreTerms terms_2
terms_2_are = record { few = omega arith; apart = refl }

pub asked_bytes : named_ask ≡ named_datagram all_names 2 sealed_ask
unfolding named_of numbered_of tag_of datagram_bytes datagram_at head_at old.datagram_bytes sha256_steps.first_words sha256_steps.schedule sha256_steps.rounds sha256_steps.compress sha256_steps.hash_after sha256_steps.digest_bytes sha256_steps.sha256
asked_bytes = refl

pub was_asked : WereOffered all_names zeros asked named_ask
was_asked = record { place = 0; sealed = sealed_ask; is_there = refl; key_is = refl; boot = 2; boot_below = omega arith; bytes_are = asked_bytes }

handed_ask : handed_bytes node_2 1 named_ask ≡ own_datagram (ask_of 1)
unfolding named_of numbered_of tag_of datagram_bytes datagram_at head_at old.datagram_bytes sha256_steps.first_words sha256_steps.schedule sha256_steps.rounds sha256_steps.compress sha256_steps.hash_after sha256_steps.digest_bytes sha256_steps.sha256
handed_ask = refl

pub reads_asked : Some (ask_of 1) ≡ envelope_at bare (handed_bytes node_2 1 named_ask)
reads_asked = sym (ap (envelope_at bare) handed_ask ∙ reads_own (ask_of 1) (spelled_with 1 2 0 1 (ask_of 2).message (omega arith) (ask_spelled 2)))

pub reads_ask : ReadsOffered all_names 2 terms_2 asked 1 (Some (ask_of 1))
reads_ask = record {
  translator = node_2;
  is_of = record { key = refl; names_are = refl; me = refl };
  bytes = named_ask;
  reads = reads_asked;
  unforged = λ envelope is vote. was_asked;
}

pub silver_floor_spelled : IsSpelled silver_floor.envelope
silver_floor_spelled = (
  record { from_first = omega arith; from_last = omega arith; to_first = omega arith; to_last = omega arith; apart = λ e. not_two (sym e); token_below = omega arith },
  omega arith,
)

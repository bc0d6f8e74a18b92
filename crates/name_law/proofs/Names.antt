-- The numbers that a process has for names and for canonical tokens, and messages under them.
use Rattle.std.proofs.Common.{◌≡◌, ℕ, zero, suc, ◌+◌, ◌<◌, Bool, true, false, cond, List, [], ◌∷◌, length, Option, Some, None, refl, sym, ap, ◌∙◌, arith, inl, inr}
use Rattle.std.specs.Prelude.{slice_get}
use Rattle.std.specs.Option.{option_map}
use Rattle.std.specs.Str.{bytes_eq}
use Rattle.std.proofs.lemmas.Bool.{cases_lt}
use Rattle.std.proofs.lemmas.List.{get_or_past}
use Rattle.std.proofs.lemmas.Option.{get_or_from_slice_get, none-some, same_Some, slice_get-get_or, slice_get-map, slice_get_within}
use Rattle.std.proofs.lemmas.Slice.Eq.{bytes_eq-Decides}
use Rattle.vote_core.specs.Books.{are_apart, numbered_message}
use Rattle.vote_core.specs.Numbers.{named_message}
use Rattle.vote_core.specs.declared.message.Message.{Message}
use Rattle.vote_core.specs.declared.message.Message.TheVariants.{Ask, Grant, Deny, Floor}
use Rattle.vote_wire.specs.Body.{HasEnds, HasSpelling}
use Rattle.named_port.specs.Names.{number_from, number_of as place_of}
use Rattle.named_port.specs.Wire.{named_bytes, token_of}
use Rattle.named_port.proofs.NamesLemmas.{name_of_number}
use Rattle.oath_node.specs.Machine.{token_of as machine_token}
use Rattle.seat_law.specs.Seats.{seat_name}
use Rattle.seat_law.proofs.Relation.{number_lacks, number_there}
use Rattle.seat_law.proofs.Stores.{names_apart}
use Rattle.name_law.specs.Datagrams.{AreNames, name_at, own_names, own_number}

-- ---- messages under other numbers

pub token_named : (f : ℕ → ℕ) (message : Message) → token_of (named_message f message) ≡ f (token_of message)
token_named f (Ask proposal token span) = refl
token_named f (Grant proposal token span) = refl
token_named f (Deny proposal token next) = refl
token_named f (Floor token next) = refl

pub token_same : (message : Message) → machine_token message ≡ token_of message
token_same (Ask proposal token span) = refl
token_same (Grant proposal token span) = refl
token_same (Deny proposal token next) = refl
token_same (Floor token next) = refl

pub bytes_named : (key : List ℕ) (boot from to : ℕ) (name : List ℕ) (f : ℕ → ℕ) (message : Message)
    → named_bytes key boot from to name (named_message f message) ≡ named_bytes key boot from to name message
bytes_named key boot from to name f (Ask proposal token span) = refl
bytes_named key boot from to name f (Grant proposal token span) = refl
bytes_named key boot from to name f (Deny proposal token next) = refl
bytes_named key boot from to name f (Floor token next) = refl

pub named_numbered : (f : ℕ → ℕ) (number : ℕ) (message : Message) → named_message f (numbered_message number message) ≡ numbered_message (f number) message
named_numbered f number (Ask proposal token span) = refl
named_numbered f number (Grant proposal token span) = refl
named_numbered f number (Deny proposal token next) = refl
named_numbered f number (Floor token next) = refl

pub own_message : (message : Message) → numbered_message (token_of message) message ≡ message
own_message (Ask proposal token span) = refl
own_message (Grant proposal token span) = refl
own_message (Deny proposal token next) = refl
own_message (Floor token next) = refl

ends_with : (from to token number : ℕ) → HasEnds from to token → number < 10000 → HasEnds from to number
ends_with from to token number h below = record {
  from_first = h.from_first;
  from_last = h.from_last;
  to_first = h.to_first;
  to_last = h.to_last;
  apart = h.apart;
  token_below = below;
}

-- what has a spelling has one with another number
pub spelled_with : (from to old number : ℕ) (message : Message) → number < 10000 → HasSpelling from to (numbered_message old message) → HasSpelling from to (numbered_message number message)
spelled_with from to old number (Ask proposal token span) below h = (ends_with from to old number h.0 below, h.1)
spelled_with from to old number (Grant proposal token span) below h = (ends_with from to old number h.0 below, h.1)
spelled_with from to old number (Deny proposal token next) below h = (ends_with from to old number h.0 below, h.1)
spelled_with from to old number (Floor token next) below h = (ends_with from to old number h.0 below, h.1)

pub spelled_named : (from to : ℕ) (f : ℕ → ℕ) (message : Message) → HasSpelling from to message → HasSpelling from to (numbered_message 0 (named_message f message))
spelled_named from to f (Ask proposal token span) h = (ends_with from to token 0 h.0 (omega arith), h.1)
spelled_named from to f (Grant proposal token span) h = (ends_with from to token 0 h.0 (omega arith), h.1)
spelled_named from to f (Deny proposal token next) h = (ends_with from to token 0 h.0 (omega arith), h.1)
spelled_named from to f (Floor token next) h = (ends_with from to token 0 h.0 (omega arith), h.1)

pub ends_of : (from to number : ℕ) (message : Message) → HasSpelling from to (numbered_message number message) → HasEnds from to number
ends_of from to number (Ask proposal token span) h = h.0
ends_of from to number (Grant proposal token span) h = h.0
ends_of from to number (Deny proposal token next) h = h.0
ends_of from to number (Floor token next) h = h.0

-- ---- the place of a name

rest_lacks : (p : ℕ) (x : List ℕ) (names : List (List ℕ)) (name : List ℕ) (t : Bool) → cond t (Some p) (number_from (p + 1) names name) ≡ None → (number_from (p + 1) names name ≡ None → ⊥) → ⊥
rest_lacks p x names name true none rest = none-some p (sym none)
rest_lacks p x names name false none rest = rest none

-- a name without a place stands nowhere
place_lacks : (p : ℕ) (names : List (List ℕ)) (name : List ℕ) (n : ℕ) → number_from p names name ≡ None → slice_get names n ≡ Some name → ⊥
place_lacks p [] name n none at = none-some name at
place_lacks p (x ∷ names) name zero none at =
    none-some p (sym none ∙ ap (λ t. cond t (Some p) (number_from (p + 1) names name)) ((bytes_eq-Decides x name).1 (same_Some x name at)))
place_lacks p (x ∷ names) name (suc n) none at =
    rest_lacks p x names name (bytes_eq x name) none (λ q. place_lacks (p + 1) names name n q at)

-- a name of 16 bytes is of a known token
known_name : (names : List (List ℕ)) (token : ℕ) → length (name_at names token) ≡ 16 → token < length names
known_name names token whole =
    elim (cases_lt token (length names)) [
      | inl lt ↦ lt
      | inr le ↦ absurd (let none : name_at names token ≡ [] = get_or_past names token [] le in (let zero_is : 0 ≡ 16 = ap length (sym none) ∙ whole in omega (arith, zero_is)))
    ]

pub whole_name : (names : List (List ℕ)) (token : ℕ) → AreNames names → token < length names → length (name_at names token) ≡ 16
whole_name names token are low = are.whole token (name_at names token) (slice_get-get_or names token [] low)

-- tokens of one name are one token
pub same_token : (names : List (List ℕ)) (a b : ℕ) → AreNames names → b < length names → name_at names a ≡ name_at names b → a ≡ b
same_token names a b are low same =
    let high : a < length names = known_name names a (ap length same ∙ whole_name names b are low) in
    elim (cases_lt a b) [
      | inl lt ↦ absurd (are.distinct a b [] lt low same)
      | inr le ↦
          elim (cases_lt b a) [
            | inl lt ↦ absurd (are.distinct b a [] lt high (sym same))
            | inr most ↦ omega (arith, le, most)
          ]
    ]

-- the name of a process's row
pub own_name : (names : List (List ℕ)) (seats : List ℕ) (number : ℕ) → number < length seats → slice_get (own_names names seats) number ≡ Some (name_at names (seat_name seats number))
own_name names seats number low = slice_get-map (name_at names) seats number ∙ ap (option_map (name_at names)) (slice_get-get_or seats number 0 low)

record HasRow (names : List (List ℕ)) (seats : List ℕ) (number : ℕ) (name : List ℕ) : Type 0 where
  low : number < length seats
  is : name_at names (seat_name seats number) ≡ name

has_row : (names : List (List ℕ)) (seats : List ℕ) (number : ℕ) (name : List ℕ) → slice_get (own_names names seats) number ≡ Some name → HasRow names seats number name
has_row names seats number name at = go (slice_get seats number) refl (sym (slice_get-map (name_at names) seats number) ∙ at)
  where
    go : (o : Option ℕ) → slice_get seats number ≡ o → option_map (name_at names) o ≡ Some name → HasRow names seats number name
    go None is e = absurd (none-some name e)
    go (Some seat) is e = record {
      low = slice_get_within seats number seat is;
      is = ap (name_at names) (get_or_from_slice_get seats number seat 0 is) ∙ same_Some (name_at names seat) name e;
    }

-- a process has the same number for a canonical token and for its name
pub number_is : (names : List (List ℕ)) (seats : List ℕ) (token : ℕ) → AreNames names → are_apart (length seats) (seat_name seats) ≡ true → token < length names
    → place_of (own_names names seats) (name_at names token) ≡ own_number seats token
number_is names seats token are apart low =
    go (place_of (own_names names seats) (name_at names token)) refl (own_number seats token) refl
  where
    own : List (List ℕ)
    own = own_names names seats

    go : (p : Option ℕ) → place_of own (name_at names token) ≡ p → (k : Option ℕ) → own_number seats token ≡ k → p ≡ k
    go None none None lacks = refl
    go None none (Some k) found =
        let there = number_there (length seats) (seat_name seats) token k found in
        absurd (place_lacks 0 own (name_at names token) k none (own_name names seats k there.0 ∙ ap (λ n. Some (name_at names n)) there.1))
    go (Some p) at None lacks =
        let row = has_row names seats p (name_at names token) (name_of_number own p (name_at names token) at) in
        absurd (number_lacks (length seats) (seat_name seats) token lacks p row.low (same_token names (seat_name seats p) token are low row.is))
    go (Some p) at (Some k) found =
        let row = has_row names seats p (name_at names token) (name_of_number own p (name_at names token) at) in
        let there = number_there (length seats) (seat_name seats) token k found in
        ap (λ n. Some n) (names_apart (length seats) (seat_name seats) p k apart row.low there.0 (same_token names (seat_name seats p) token are low row.is ∙ sym there.1))

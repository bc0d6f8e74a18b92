-- Canonical tokens by their names: known names have tokens of their own, and each row is found by its token.
use Rattle.std.proofs.Common.{◌≡◌, ℕ, zero, suc, ◌<◌, true, not, List, [], length, Option, Some, None, refl, sym, ap, ◌∙◌, arith, ⊎_elim}
use Rattle.std.specs.Prelude.{Contains, slice_get, unwrap_or}
use Rattle.std.specs.Option.{option_map}
use Rattle.std.proofs.lemmas.Bool.{and_from}
use Rattle.std.proofs.lemmas.Option.{get_or_from_slice_get, none-some, same_Some, slice_get-get_or, slice_get-map, slice_get_read, slice_get_within}
use Rattle.named_port.proofs.NamesLemmas.{number_of_place}
use Rattle.vote_core.specs.Books.{are_apart, is_number, number_of}
use Rattle.seat_law.specs.Seats.{seat_name}
use Rattle.seat_law.proofs.Relation.{number_lacks, number_there, option_cases}
use Rattle.name_law.specs.Datagrams.{AreNames, name_at}
use Rattle.served_law.specs.Seated.{token_of, tokens_of}

-- ---- known names

there : (names : List (List ℕ)) (name : List ℕ) (c : Contains names name) → slice_get names c.0 ≡ Some name
there names name c = slice_get_read names (length names) c.0 name refl c.1 (sym c.2)

place_known : (names : List (List ℕ)) (name : List ℕ) → AreNames names → (c : Contains names name) → token_of names name ≡ c.0
place_known names name are c = ap (λ (o : Option ℕ). unwrap_or o 0) (number_of_place names c.0 name are.distinct (there names name c))

pub token_low : (names : List (List ℕ)) (name : List ℕ) → AreNames names → Contains names name → token_of names name < length names
token_low names name are c = let e = place_known names name are c in omega (arith, e, c.1)

-- a known name is that of its token
pub name_of_token : (names : List (List ℕ)) (name : List ℕ) → AreNames names → Contains names name → name_at names (token_of names name) ≡ name
name_of_token names name are c =
    ap (name_at names) (place_known names name are c) ∙ get_or_from_slice_get names c.0 name [] (there names name c)

same_name : (names : List (List ℕ)) (a b : List ℕ) → AreNames names → Contains names a → Contains names b → token_of names a ≡ token_of names b → a ≡ b
same_name names a b are one other e =
    sym (name_of_token names a are one) ∙ ap (name_at names) e ∙ name_of_token names b are other

-- ---- the tokens of names

-- each of the names is known
abbrev pub IsKnownAt : List (List ℕ) → List (List ℕ) → Type 0
IsKnownAt names own = (i : ℕ) (name : List ℕ) → slice_get own i ≡ Some name → Contains names name

-- a name is at one place at most
abbrev pub AreOnce : List (List ℕ) → Type 0
AreOnce own = (i j : ℕ) (name : List ℕ) → slice_get own i ≡ Some name → slice_get own j ≡ Some name → i ≡ j

record HasToken (names own : List (List ℕ)) (i : ℕ) : Type 0 where
  name : List ℕ
  at : slice_get own i ≡ Some name
  is : seat_name (tokens_of names own) i ≡ token_of names name

token_there : (names own : List (List ℕ)) (i : ℕ) (name : List ℕ) → slice_get own i ≡ Some name → slice_get (tokens_of names own) i ≡ Some (token_of names name)
token_there names own i name at = slice_get-map (token_of names) own i ∙ ap (option_map (token_of names)) at

has_token : (names own : List (List ℕ)) (i : ℕ) → i < length (tokens_of names own) → HasToken names own i
has_token names own i low = go (slice_get own i) refl
  where
    tokens : List ℕ
    tokens = tokens_of names own

    got : option_map (token_of names) (slice_get own i) ≡ Some (seat_name tokens i)
    got = sym (slice_get-map (token_of names) own i) ∙ slice_get-get_or tokens i 0 low

    go : (o : Option (List ℕ)) → slice_get own i ≡ o → HasToken names own i
    go None e = absurd (none-some (seat_name tokens i) (sym (ap (option_map (token_of names)) e) ∙ got))
    go (Some name) e = record {
      name = name;
      at = e;
      is = sym (same_Some (token_of names name) (seat_name tokens i) (sym (ap (option_map (token_of names)) e) ∙ got));
    }

-- the place of a name is that of its token
pub token_place : (names own : List (List ℕ)) (i : ℕ) (name : List ℕ) → AreNames names → IsKnownAt names own → AreOnce own → slice_get own i ≡ Some name
    → number_of (length (tokens_of names own)) (seat_name (tokens_of names own)) (token_of names name) ≡ Some i
token_place names own i name are known once at =
    ⊎_elim
    (λ (none : number ≡ None). absurd (number_lacks (length tokens) (seat_name tokens) (token_of names name) none i
    (slice_get_within tokens i (token_of names name) here) (get_or_from_slice_get tokens i (token_of names name) 0 here)))
    (λ (some : (k : ℕ) × (number ≡ Some k)).
    let k = number_there (length tokens) (seat_name tokens) (token_of names name) some.0 some.1 in
    let has = has_token names own some.0 k.0 in
    let same = same_name names has.name name are (known some.0 has.name has.at) (known i name at) (sym has.is ∙ k.1) in
    some.1 ∙ ap (λ n. Some n) (once some.0 i name (has.at ∙ ap (λ n. Some n) same) at))
    (option_cases number)
  where
    tokens : List ℕ
    tokens = tokens_of names own

    here : slice_get tokens i ≡ Some (token_of names name)
    here = token_there names own i name at

    number : Option ℕ
    number = number_of (length tokens) (seat_name tokens) (token_of names name)

apart_from : (c : ℕ) (name : ℕ → ℕ) → ((j k : ℕ) → j < c → k < c → name j ≡ name k → j ≡ k) → are_apart c name ≡ true
apart_from zero name h = refl
apart_from (suc c) name h =
    and_from (not (is_number (number_of c name (name c)))) (are_apart c name)
    (⊎_elim (λ (none : number_of c name (name c) ≡ None). ap (λ o. not (is_number o)) none)
    (λ (some : (m : ℕ) × (number_of c name (name c) ≡ Some m)).
    let k = number_there c name (name c) some.0 some.1 in
    let same = h some.0 c (omega (arith, k.0)) (omega arith) k.1 in
    absurd (omega (arith, k.0, same)))
    (option_cases (number_of c name (name c))))
    (apart_from c name (λ j k a b e. h j k (omega (arith, a)) (omega (arith, b)) e))

-- no two of the tokens are the same
pub tokens_apart : (names own : List (List ℕ)) → AreNames names → IsKnownAt names own → AreOnce own → are_apart (length (tokens_of names own)) (seat_name (tokens_of names own)) ≡ true
tokens_apart names own are known once =
    apart_from (length (tokens_of names own)) (seat_name (tokens_of names own)) (λ j k low high e.
    let one = has_token names own j low in
    let two = has_token names own k high in
    let same = same_name names one.name two.name are (known j one.name one.at) (known k two.name two.at) (sym one.is ∙ e ∙ two.is) in
    once j k two.name (one.at ∙ ap (λ n. Some n) same) two.at)

-- no token of the names is that of a name which is none of them
pub token_absent : (names own : List (List ℕ)) (name : List ℕ) → AreNames names → IsKnownAt names own → Contains names name
    → ((i : ℕ) → slice_get own i ≡ Some name → ⊥) → number_of (length (tokens_of names own)) (seat_name (tokens_of names own)) (token_of names name) ≡ None
token_absent names own name are known mine none =
    ⊎_elim
    (λ (lacks : number ≡ None). lacks)
    (λ (some : (k : ℕ) × (number ≡ Some k)).
    let k = number_there (length tokens) (seat_name tokens) (token_of names name) some.0 some.1 in
    let has = has_token names own some.0 k.0 in
    let same = same_name names has.name name are (known some.0 has.name has.at) mine (sym has.is ∙ k.1) in
    absurd (none some.0 (has.at ∙ ap (λ n. Some n) same)))
    (option_cases number)
  where
    tokens : List ℕ
    tokens = tokens_of names own

    number : Option ℕ
    number = number_of (length tokens) (seat_name tokens) (token_of names name)

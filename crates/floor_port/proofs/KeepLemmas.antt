-- The floors of a member, kept one by one.
use Rattle.std.proofs.Common.{◌≡◌, ℕ, zero, suc, ◌+◌, ◌*◌, ◌<◌, ◌≤◌, Bool, true, false, cond, List, [], ◌∷◌, ◌++◌, length, drop, get_or, Option, Some, None, refl, sym, ap, ◌∙◌, arith}
use Rattle.std.specs.Prelude.{replicate, IfSome, slice_set}
use Rattle.std.proofs.lemmas.List.{drop_more, length-set}
use Rattle.std.proofs.lemmas.Option.{slice_get_within}
use Rattle.named_port.proofs.NamesLemmas.{name_of_number}
use Rattle.named_port.specs.Names.{number_of}
use Rattle.floor_port.specs.Claims.{ClaimsRecord, claims_after, first_fall, is_fall, is_older, kept_after, kept_with, no_claim, place_of, with_fallen}
use Rattle.floor_port.specs.declared.claims.Claim.{Claim}
use Rattle.floor_port.specs.declared.floor.NamedFloor.{NamedFloor}

left : (floors : List NamedFloor) (place : ℕ) (floor : NamedFloor) → place < length floors → get_or floors place floor ≡ floor → drop place floors ≡ floor ∷ drop (place + 1) floors
left floors place floor low at = drop_more floors place floor low ∙ ap (λ (f : NamedFloor). f ∷ drop (place + 1) floors) at

-- one more floor doesn't fall
pub fall_more : (names : List (List ℕ)) (member boot : ℕ) (kept : List Claim) (floors : List NamedFloor) (place : ℕ) (floor : NamedFloor) → place < length floors → get_or floors place floor ≡ floor
    → is_fall kept member boot (number_of names floor.name) floor.next ≡ false
    → first_fall names member boot kept (drop place floors) ≡ first_fall names member boot (kept_with kept member boot (number_of names floor.name) floor.next) (drop (place + 1) floors)
fall_more names member boot kept floors place floor low at is =
    ap (first_fall names member boot kept) (left floors place floor low at)
    ∙ ap (λ (b : Bool). cond b (Some floor) (first_fall names member boot (kept_with kept member boot (number_of names floor.name) floor.next) (drop (place + 1) floors))) is

pub kept_more : (names : List (List ℕ)) (member boot : ℕ) (kept : List Claim) (floors : List NamedFloor) (place : ℕ) (floor : NamedFloor) → place < length floors → get_or floors place floor ≡ floor
    → is_fall kept member boot (number_of names floor.name) floor.next ≡ false
    → kept_after names member boot kept (drop place floors) ≡ kept_after names member boot (kept_with kept member boot (number_of names floor.name) floor.next) (drop (place + 1) floors)
kept_more names member boot kept floors place floor low at is =
    ap (kept_after names member boot kept) (left floors place floor low at)
    ∙ ap (λ (b : Bool). cond b kept (kept_after names member boot (kept_with kept member boot (number_of names floor.name) floor.next) (drop (place + 1) floors))) is

-- it falls
pub fall_there : (names : List (List ℕ)) (member boot : ℕ) (kept : List Claim) (floors : List NamedFloor) (place : ℕ) (floor : NamedFloor) → place < length floors → get_or floors place floor ≡ floor
    → is_fall kept member boot (number_of names floor.name) floor.next ≡ true → first_fall names member boot kept (drop place floors) ≡ Some floor
fall_there names member boot kept floors place floor low at is =
    ap (first_fall names member boot kept) (left floors place floor low at)
    ∙ ap (λ (b : Bool). cond b (Some floor) (first_fall names member boot (kept_with kept member boot (number_of names floor.name) floor.next) (drop (place + 1) floors))) is

pub kept_there : (names : List (List ℕ)) (member boot : ℕ) (kept : List Claim) (floors : List NamedFloor) (place : ℕ) (floor : NamedFloor) → place < length floors → get_or floors place floor ≡ floor
    → is_fall kept member boot (number_of names floor.name) floor.next ≡ true → kept_after names member boot kept (drop place floors) ≡ kept
kept_there names member boot kept floors place floor low at is =
    ap (kept_after names member boot kept) (left floors place floor low at)
    ∙ ap (λ (b : Bool). cond b kept (kept_after names member boot (kept_with kept member boot (number_of names floor.name) floor.next) (drop (place + 1) floors))) is

pub kept_len : (kept : List Claim) (member boot : ℕ) (row : Option ℕ) (next : ℕ) → length (kept_with kept member boot row next) ≡ length kept
kept_len kept member boot None next = refl
kept_len kept member boot (Some row) next = length-set kept (place_of row member) _

after_len : (names : List (List ℕ)) (member boot : ℕ) (kept : List Claim) (floors : List NamedFloor) → length (kept_after names member boot kept floors) ≡ length kept
after_len names member boot kept [] = refl
after_len names member boot kept (floor ∷ floors) =
    let next = kept_with kept member boot (number_of names floor.name) floor.next in
    go (is_fall kept member boot (number_of names floor.name) floor.next) (after_len names member boot next floors ∙ kept_len kept member boot (number_of names floor.name) floor.next)
  where
    go : (fall : Bool) → length (kept_after names member boot (kept_with kept member boot (number_of names floor.name) floor.next) floors) ≡ length kept
        → length (cond fall kept (kept_after names member boot (kept_with kept member boot (number_of names floor.name) floor.next) floors)) ≡ length kept
    go true rest = refl
    go false rest = rest

-- no floors change the number of claims
pub claims_len : (claims : ClaimsRecord) (names : List (List ℕ)) (member boot : ℕ) (floors : List NamedFloor) → length (claims_after claims names member boot floors).kept ≡ length claims.kept
claims_len claims names member boot floors = go (is_older claims member boot)
  where
    go : (older : Bool) → length (cond older claims (record {
      boots = slice_set claims.boots member boot;
      fallen = with_fallen claims.fallen member (first_fall names member boot claims.kept floors);
      kept = kept_after names member boot claims.kept floors;
    })).kept ≡ length claims.kept
    go true = refl
    go false = after_len names member boot claims.kept floors

-- the place of a row of a name
pub place_within : (names : List (List ℕ)) (kept : List Claim) (member : ℕ) (name : List ℕ) (row : Option ℕ) → row ≡ number_of names name → length kept ≡ 9 * length names → 1 ≤ member → member ≤ 9
    → IfSome row (λ n. place_of n member < length kept)
place_within names kept member name None is each one nine = tt
place_within names kept member name (Some n) is each one nine =
    let low = slice_get_within names n name (name_of_number names n name (sym is)) in omega (arith, low, each, one, nine)

pub claims_more : (count : ℕ) → replicate (count + 1) no_claim ≡ replicate count no_claim ++ no_claim ∷ []
claims_more zero = refl
claims_more (suc count) =
    let next : suc count + 1 ≡ suc (count + 1) = omega arith in
    ap (λ (n : ℕ). replicate n no_claim) next ∙ ap (λ (l : List Claim). no_claim ∷ l) (claims_more count)

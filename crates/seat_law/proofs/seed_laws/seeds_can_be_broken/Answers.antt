-- The rows of a device at a node alone.
use Rattle.std.proofs.Common.{◌≡◌, ◌<◌, ◌≤◌, ℕ, zero, suc, Some, refl, ap, sym, ◌∙◌, subst, arith}
use Rattle.std.specs.List.{slice_get}
use Rattle.std.proofs.lemmas.Option.{none-some, same_Some}
use Rattle.otp_core.specs.Acceptance.{Acceptance, size}
use Rattle.vote_core.proofs.Basics.{has_member}
use Rattle.seat_law.specs.SeedExamples.{lower_row, renamed_back, taken}
use Rattle.seat_law.proofs.seed_laws.seeds_can_be_broken.Goals as goal

pub returns-clause-twice : goal.returns-clause-twice
returns-clause-twice c = λ h. h 0 1 _ _ (λ e. omega (arith, e)) refl refl refl 0 (omega arith, omega arith) (omega arith, omega arith)

later_used : (later : ℕ) → 0 < later → 0 < lower_row 1 0 later
later_used zero low = absurd (omega (arith, low))
later_used (suc n) low = omega arith

none_lower : (other : ℕ) → lower_row 1 other 0 ≤ 0
none_lower zero = omega arith
none_lower (suc n) = omega arith

others_stay : (other : ℕ) → (other ≡ 0 → ⊥) → lower_row 1 other 1 ≤ lower_row 1 other 0
others_stay zero apart = absurd (apart refl)
others_stay (suc zero) apart = omega arith
others_stay (suc (suc n)) apart = omega arith

pub returns-clause-first : goal.returns-clause-first
returns-clause-first c = record {
  lets = record { after_it_began = omega arith; before_it_ended = omega arith; free = omega arith; used = later_used };
  greatest = λ other same. none_lower other;
  alone = λ other same apart. others_stay other apart;
}

pub returns-clause-row_comes_back_lower : goal.returns-clause-row_comes_back_lower
returns-clause-row_comes_back_lower c = λ h. let low = h.greatest 0 refl in omega (arith, low)

pub returns-clause-row_was_raised : goal.returns-clause-row_was_raised
returns-clause-row_was_raised c = λ h. let low = h.lets.free in omega (arith, low)

pub returns-clause-two_rows_in_seats : goal.returns-clause-two_rows_in_seats
returns-clause-two_rows_in_seats c = λ h. let low = h.alone 1 refl (λ e. omega (arith, e)) in omega (arith, low)

-- the two acceptances are of two tokens
one_token : (i j : ℕ) (a b : Acceptance) → slice_get renamed_back i ≡ Some a → slice_get renamed_back j ≡ Some b → a.token ≡ b.token → i ≡ j
one_token zero zero a b at also same = refl
one_token zero (suc zero) a b at also same =
    let one : 0 ≡ a.token = ap (λ (z : Acceptance). z.token) (same_Some (taken 0 0) a at) in
    let other : 1 ≡ b.token = ap (λ (z : Acceptance). z.token) (same_Some (taken 1 1) b also) in
    absurd (omega (arith, one, other, same))
one_token (suc zero) zero a b at also same =
    let one : 1 ≡ a.token = ap (λ (z : Acceptance). z.token) (same_Some (taken 1 1) a at) in
    let other : 0 ≡ b.token = ap (λ (z : Acceptance). z.token) (same_Some (taken 0 0) b also) in
    absurd (omega (arith, one, other, same))
one_token (suc zero) (suc zero) a b at also same = refl
one_token zero (suc (suc j)) a b at also same = absurd (none-some b also)
one_token (suc zero) (suc (suc j)) a b at also same = absurd (none-some b also)
one_token (suc (suc i)) j a b at also same = absurd (none-some a at)

pub returns-clause-once_each : goal.returns-clause-once_each
returns-clause-once_each c i j a b apart at also same factor one two = apart (one_token i j a b at also same)

pub returns-clause-out_of_order : goal.returns-clause-out_of_order
returns-clause-out_of_order c h = let low : 0 < 0 = h 0 1 (taken 0 0) (taken 1 1) refl refl refl (omega arith) in omega (arith, low)

-- an acceptance ends when it began
at_once : (i : ℕ) (a : Acceptance) → slice_get renamed_back i ≡ Some a → a.began ≡ a.ended
at_once zero a at = subst (λ (z : Acceptance). z.began ≡ z.ended) (same_Some (taken 0 0) a at) refl
at_once (suc zero) a at = subst (λ (z : Acceptance). z.began ≡ z.ended) (same_Some (taken 1 1) a at) refl
at_once (suc (suc i)) a at = absurd (none-some a at)

pub returns-clause-in_order : goal.returns-clause-in_order
returns-clause-in_order c i j a b at also same later =
    let place = one_token i j a b at also same in
    let one : a ≡ b = same_Some a b (sym at ∙ ap (slice_get renamed_back) place ∙ also) in
    let ends = at_once i a at in
    let began = ap (λ (z : Acceptance). z.began) one in
    absurd (omega (arith, later, ends, began))

pub returns-clause-second_not_given_up : goal.returns-clause-second_not_given_up
returns-clause-second_not_given_up c h =
    let m = h 1 (taken 1 1) refl in
    let low : 1 ≤ size 1 m.nodes = m.many in
    let node = has_member 1 m.nodes (omega (arith, low)) in
    let x = m.each node.0 node.3 in
    let since : 1 ≤ x.0 = x.1.lets.after_it_began in
    let until : x.0 ≤ 1 = x.1.lets.before_it_ended in
    let at : x.0 ≡ 1 = omega (arith, since, until) in
    let most : 1 ≤ 0 = subst (λ e. lower_row node.0 0 e ≤ lower_row node.0 1 e) at (x.1.greatest 0 refl) in
    omega (arith, most)

other_used : (later : ℕ) → 1 < later → 0 < lower_row 1 1 later
other_used zero low = absurd (omega (arith, low))
other_used (suc zero) low = absurd (omega (arith, low))
other_used (suc (suc n)) low = omega arith

pub returns-clause-another_device : goal.returns-clause-another_device
returns-clause-another_device c = record {
  lets = record { after_it_began = omega arith; before_it_ended = omega arith; free = omega arith; used = other_used };
  greatest = λ other same. subst (λ t. lower_row 1 other 1 ≤ lower_row 1 t 1) same (omega arith);
  alone = λ other same apart. absurd (apart same);
}

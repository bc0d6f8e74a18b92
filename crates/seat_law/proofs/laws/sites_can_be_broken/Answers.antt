-- A factor is taken in two acceptances.
use Rattle.std.proofs.Common.{◌≡◌, ℕ, zero, suc, ◌<◌, Bool, cond, [], ◌∷◌, Some, None, refl, sym, ap, ◌∙◌, subst, arith}
use Rattle.std.specs.List.{slice_get}
use Rattle.std.proofs.lemmas.Option.{none-some, same_Some}
use Rattle.otp_core.specs.Acceptance.{Acceptance, HaveSingleUse}
use Rattle.floor_store.specs.Records.{PassRecord, RowRecord}
use Rattle.seat_law.specs.Below.{site_of}
use Rattle.seat_law.specs.Broken.{one_of, taken_content, takes_and_goes}
use Rattle.seat_law.specs.Seats.{after_course, go}
use Rattle.vote_core.specs.Books.{is_number, number_of}
use Rattle.vote_core.specs.Cases.{accepted}
use Rattle.vote_core.specs.Schedule.{cluster_after, with_proposal_begun, after_restart}
use Rattle.vote_core.specs.Rows.{row}
use Rattle.vote_core.specs.Voting.{pass_of, propose, propose_alone}
use Rattle.vote_core.proofs.Names.{not_eqb}
use Rattle.seat_law.proofs.laws.sites_can_be_broken.Goals as goal

-- two acceptances of factor 0 of token 0
taken_twice : (first second : ℕ) → HaveSingleUse (accepted first first 1 0 0 0 ∷ accepted second second 1 0 0 0 ∷ []) → ⊥
taken_twice first second h =
    h.factors 0 1 (accepted first first 1 0 0 0) (accepted second second 1 0 0 0) (λ e. let same : 0 ≡ 1 = e in omega (arith, same))
    refl refl refl 0 (omega arith, omega arith) (omega arith, omega arith)

-- the only row of a store
first_row : (k : ℕ) → k < 1 → k ≡ 0
first_row k lt = omega (arith, lt)

-- one acceptance alone
alone : (i j : ℕ) (a b c : Acceptance) → (i ≡ j → ⊥) → slice_get (c ∷ []) i ≡ Some a → slice_get (c ∷ []) j ≡ Some b → ⊥
alone zero zero a b c apart one other = apart refl
alone zero (suc j) a b c apart one other = none-some b other
alone (suc i) j a b c apart one other = none-some a one

pub returns-clause-kept : goal.returns-clause-kept
unfolding go after_course with_proposal_begun cluster_after after_restart propose propose_alone
returns-clause-kept c = record {
  began = λ i j a b apart one other. absurd (alone i j a b (accepted 2 2 1 0 0 0) apart one other);
  factors = λ i j a b apart one other. absurd (alone i j a b (accepted 2 2 1 0 0 0) apart one other);
}

pub returns-clause-forgotten : goal.returns-clause-forgotten
unfolding go after_course with_proposal_begun cluster_after after_restart propose propose_alone
returns-clause-forgotten c h = taken_twice 2 5 h

pub returns-clause-two_seats : goal.returns-clause-two_seats
unfolding go after_course with_proposal_begun cluster_after after_restart propose propose_alone
returns-clause-two_seats c h = taken_twice 2 3 h

pub returns-clause-no_row : goal.returns-clause-no_row
unfolding go after_course with_proposal_begun cluster_after after_restart propose propose_alone
returns-clause-no_row c h = taken_twice 1 5 h

pub returns-clause-below : goal.returns-clause-below
unfolding go after_course with_proposal_begun cluster_after after_restart propose propose_alone
returns-clause-below c = record {
  are = record { within = λ i seat at. absurd (none-some seat at); apart = λ i j seat at other. absurd (none-some seat at) };
  one = λ j k a d e. first_row j a ∙ sym (first_row k d);
  seen = refl;
  names = λ k a. absurd (omega (arith, a));
  aside = λ k a unseen. subst (λ m. row taken_content m ≡ (site_of (one_of takes_and_goes) 1).aside 0) (sym (first_row k a)) refl;
  enrolled = only_token;
  last = refl;
  last_known = λ z e. subst (λ (w : PassRecord). w.token < 1) (same_Some (pass_of 0 0 0 2 0) z e) (omega arith);
}
  where
    only_token : (t : ℕ) → (site_of (one_of takes_and_goes) 1).enrolled t ≡ is_number (number_of 1 (λ k. 0) t)
    only_token zero = refl
    only_token (suc t) =
        not_eqb (suc t) 0 (λ e. omega (arith, e))
        ∙ sym (ap (λ (m : Bool). is_number (cond m (Some 0) None)) (not_eqb 0 (suc t) (λ e. omega (arith, e))))

pub returns-clause-forgotten_below : goal.returns-clause-forgotten_below
unfolding go after_course with_proposal_begun cluster_after after_restart propose propose_alone
returns-clause-forgotten_below c h =
    let same : 1 ≡ 0 = ap (λ (x : RowRecord). x.next) (h.aside 0 (omega arith) refl) in
    omega (arith, same)

pub returns-clause-replaced : goal.returns-clause-replaced
returns-clause-replaced c h = h 1 3 (0 ∷ []) (λ token. 4) (omega arith) (omega arith) refl

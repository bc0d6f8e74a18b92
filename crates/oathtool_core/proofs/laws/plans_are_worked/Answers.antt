-- Each value is computed. What words are ready with is known from their texts.
use Rattle.std.proofs.Common.{◌≡◌, ℕ, List, ◌∷◌, [], ◌++◌, Option, Some, None, Result, Ok, refl, sym, ap, subst, ◌∙◌, inl, inr, codes, arith, rules}
use Rattle.hex.specs.Hex.{decode_pairs}
use Rattle.secret_text.specs.Base32.{values_of}
use Rattle.secret_text.specs.Bits.{bits_of, bits_of_each}
use Rattle.oathtool_core.specs.Plan.{IsNoTimeGiven, IsTimeGiven, step_at, moment_of}
use Rattle.oathtool_core.specs.StepSize.{step_size_of}
use Rattle.oathtool_core.specs.Time.{IsTimeText}
use Rattle.oathtool_core.specs.declared.plan.Times.{Times}
use Rattle.oathtool_core.proofs.OrderLemmas.{no_bad_times, no_step_size, one_given}
use Rattle.oathtool_core.proofs.TimeLemmas.{one_either}
use Rattle.oathtool_core.proofs.laws.plans_are_worked.Goals as goal

pub returns-clause-step_sizes : goal.returns-clause-step_sizes
returns-clause-step_sizes c = refl

pub returns-clause-key_refusals : goal.returns-clause-key_refusals
returns-clause-key_refusals c = refl

pub returns-clause-key_in_base32 : goal.returns-clause-key_in_base32
unfolding bits_of
returns-clause-key_in_base32 c = record {
  are_bytes = search rules;
  rest = 0 ∷ 0 ∷ [];
  short = omega arith;
  same_bits = refl;
}

-- the first bit that differs
no_other_key : (rest : List ℕ) → bits_of_each 5 (values_of (codes "ME")) ≡ bits_of_each 8 (98 ∷ []) ++ rest → ⊥
unfolding bits_of
no_other_key rest e = cc e

pub returns-clause-no_other_key : goal.returns-clause-no_other_key
returns-clause-no_other_key c = λ spells. no_other_key spells.rest spells.same_bits

pub returns-clause-key_in_hexadecimal : goal.returns-clause-key_in_hexadecimal
unfolding decode_pairs
returns-clause-key_in_hexadecimal c = refl

pub returns-clause-moments : goal.returns-clause-moments
returns-clause-moments c = refl

pub returns-clause-steps : goal.returns-clause-steps
returns-clause-steps c = refl

pub returns-clause-first_counter : goal.returns-clause-first_counter
returns-clause-first_counter c = λ words. refl

pub returns-clause-first_step_of_time : goal.returns-clause-first_step_of_time
returns-clause-first_step_of_time c = λ words. refl

pub returns-clause-first_step_of_clock : goal.returns-clause-first_step_of_clock
returns-clause-first_step_of_clock c = λ words. refl

pub returns-clause-no_times : goal.returns-clause-no_times
returns-clause-no_times c = λ words clock plan bad ready. no_bad_times words ready.times ready.has_times bad

pub returns-clause-no_step_size : goal.returns-clause-no_step_size
returns-clause-no_step_size c = λ words clock plan none ready. no_step_size words ready.times none ready.has_times

same_some : (x y : ℕ) → Some x ≡ Some y → x ≡ y
same_some x y e = cc

same_ok : {E : Type 0} (x y : ℕ) (result : Result ℕ E) → result ≡ Ok x → result ≡ Ok y → x ≡ y
same_ok x y result one other = cc

-- a second before the second step's end
step_1 : (times : Times) → times.start ≡ 0 → times.time ≡ Some 59 → times.step_size ≡ 30
    → step_at times (moment_of times.time None) ≡ Ok 1
step_1 times start time size =
    ap (λ (t : Option ℕ). step_at times (moment_of t None)) time
    ∙ ap (λ (n : ℕ). step_at (record { start = n; time = times.time; step_size = times.step_size }) (Some 59)) start
    ∙ ap (λ (n : ℕ). step_at (record { start = 0; time = times.time; step_size = n }) (Some 59)) size

pub returns-clause-one_step : goal.returns-clause-one_step
returns-clause-one_step c = λ words plan start time size ready.
    let times : Times = ready.times in
    let at_0 : IsTimeText (codes "@0") times.start = subst (λ (t : List ℕ). IsTimeText t times.start) start ready.has_times.start in
    let start_is : times.start ≡ 0 =
    one_either (codes "@0") times.start 0 at_0.1 (inl (record { digits = codes "0"; marked = refl; number = refl })) in
    let at_59 : IsTimeGiven (Some (codes "@59")) times.time =
    subst (λ (t : Option (List ℕ)). IsTimeGiven t times.time) time ready.has_times.time in
    let given : IsTimeGiven (Some (codes "@59")) (Some 59) =
    (omega arith, inl (record { digits = codes "59"; marked = refl; number = refl })) in
    let time_is : times.time ≡ Some 59 = one_given (Some (codes "@59")) times.time (Some 59) at_59 given in
    let sizes : Some times.step_size ≡ Some 30 = sym ready.has_times.step_size ∙ ap step_size_of size in
    let size_is : times.step_size ≡ 30 = same_some times.step_size 30 sizes in
    same_ok plan.first 1 (step_at times (moment_of times.time None)) ready.first (step_1 times start_is time_is size_is)

pub returns-clause-last_factor : goal.returns-clause-last_factor
returns-clause-last_factor c = λ words clock plan ready. absurd (omega (arith, ready.range))

pub returns-clause-given_times : goal.returns-clause-given_times
returns-clause-given_times c = λ text seconds. (refl, λ given. cc given, λ given. given)

pub returns-clause-given_time : goal.returns-clause-given_time
returns-clause-given_time c = (omega arith, inl (record { digits = codes "7"; marked = refl; number = refl }))

pub returns-clause-texts : goal.returns-clause-texts
returns-clause-texts c words = (refl, refl)

pub returns-clause-no_texts : goal.returns-clause-no_texts
returns-clause-no_texts c words = (refl, refl)

pub returns-clause-bad_start : goal.returns-clause-bad_start
returns-clause-bad_start c = λ words none. inl none

pub returns-clause-bad_now : goal.returns-clause-bad_now
returns-clause-bad_now c = λ words text e none. inr (subst IsNoTimeGiven (sym e) none)

pub returns-clause-hashes : goal.returns-clause-hashes
returns-clause-hashes c = refl

pub returns-clause-generator : goal.returns-clause-generator
returns-clause-generator c = λ words secret generator made. (made.hash, made.key, made.digits)

pub returns-clause-window : goal.returns-clause-window
returns-clause-window c = λ words. (omega arith, λ within. absurd (omega (arith, within)))

pub returns-clause-statuses : goal.returns-clause-statuses
returns-clause-statuses c = refl

pub returns-clause-outside_faults : goal.returns-clause-outside_faults
returns-clause-outside_faults c = refl

pub returns-clause-time_faults : goal.returns-clause-time_faults
returns-clause-time_faults c = refl

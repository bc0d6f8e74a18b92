-- Each offset differs from the offsets beside it.
use Rattle.std.proofs.Common.{◌≡◌, ℕ, zero, suc, ◌+◌, List, [], ◌∷◌, ◌++◌, Some, pos, negsuc, refl, ap, ◌∙◌, append-nil, arith}
use Rattle.std.specs.Fmt.{digits}
use Rattle.std.specs.Prelude.{codes}
use Rattle.program_edge.specs.Line.{line_of}
use Rattle.hmac_core.specs.declared.hash.Hash.TheVariants.{Sha1}
use Rattle.oathtool_core.specs.Codes.{Matches, code_at}
use Rattle.oathtool_core.specs.Offset.{NoneAt}
use Rattle.oathtool_core.specs.Run.{IsPrinted}
use Rattle.oathtool_core.specs.declared.codes.Generator.{Generator}
use Rattle.oathtool_core.specs.declared.words.Mode.TheVariants.{Hotp, Totp}
use Rattle.oathtool_core.proofs.WorkedOffsets.{none_at_9, only_0, up_to_1}
use Rattle.oathtool_core.proofs.laws.offsets_are_worked.Goals as goal

pub returns-clause-counter : goal.returns-clause-counter
returns-clause-counter c = λ generator otp no_9 at_10. record {
  within = omega arith;
  matches = at_10;
  least = only_0 (λ k. Matches generator otp (9 + k) → ⊥) no_9;
}

pub returns-clause-counter_beyond : goal.returns-clause-counter_beyond
returns-clause-counter_beyond c = λ generator otp o. absurd (omega (arith, o.within))

pub returns-clause-counter_later : goal.returns-clause-counter_later
returns-clause-counter_later c = λ generator otp at_10 o. o.least 1 (omega arith) at_10

pub returns-clause-counter_unmatched : goal.returns-clause-counter_unmatched
returns-clause-counter_unmatched c = λ generator otp no_11 o. no_11 o.matches

pub returns-clause-counter_none : goal.returns-clause-counter_none
returns-clause-counter_none c = λ generator otp no_9 no_10. up_to_1 (λ k. Matches generator otp (9 + k) → ⊥) no_9 no_10

pub returns-clause-counter_some : goal.returns-clause-counter_some
returns-clause-counter_some c = λ generator otp none. (none 0 (omega arith), none 1 (omega arith))

pub returns-clause-before : goal.returns-clause-before
returns-clause-before c = λ generator otp no_9 at_8. record {
  within = omega arith;
  exists = omega arith;
  matches = at_8;
  nearest = none_at_9 generator otp no_9;
}

pub returns-clause-after_unmatched_before : goal.returns-clause-after_unmatched_before
returns-clause-after_unmatched_before c = λ generator otp no_8 no_9 at_10. record {
  within = omega arith;
  matches = at_10;
  nearest = none_at_9 generator otp no_9;
  before_it = λ positive exists. no_8;
}

pub returns-clause-after_matched_before : goal.returns-clause-after_matched_before
returns-clause-after_matched_before c = λ generator otp at_8 o. o.before_it (omega arith) (omega arith) at_8

pub returns-clause-at_the_step : goal.returns-clause-at_the_step
returns-clause-at_the_step c = λ generator otp at_9. (
  record {
    within = omega arith;
    matches = at_9;
    nearest = λ nearer below. absurd (omega (arith, below));
    before_it = λ positive exists. absurd (omega (arith, positive));
  },
  λ o. (o.nearest 0 (omega arith)).after_it at_9,
  λ o. (o.nearest 0 (omega arith)).after_it at_9,
)

pub returns-clause-step_unmatched : goal.returns-clause-step_unmatched
returns-clause-step_unmatched c = λ generator otp no_8 no_10. (λ o. no_10 o.matches, λ o. no_8 o.matches)

pub returns-clause-nearer : goal.returns-clause-nearer
returns-clause-nearer c = λ generator otp. (
  λ at_8. (
    λ o. (o.nearest 1 (omega arith)).before_it (omega arith) at_8,
    λ o. (o.nearest 1 (omega arith)).before_it (omega arith) at_8,
  ),
  λ at_10. (
    λ o. (o.nearest 1 (omega arith)).after_it at_10,
    λ o. (o.nearest 1 (omega arith)).after_it at_10,
  ),
)

pub returns-clause-step_beyond : goal.returns-clause-step_beyond
returns-clause-step_beyond c =
    λ generator otp. (λ o. absurd (omega (arith, o.within)), λ o. absurd (omega (arith, o.within)))

pub returns-clause-below_0 : goal.returns-clause-below_0
returns-clause-below_0 c = λ generator otp o. absurd (omega (arith, o.exists))

pub returns-clause-step_none : goal.returns-clause-step_none
returns-clause-step_none c = λ generator otp no_8 no_9 no_10.
    up_to_1 (λ k. NoneAt generator otp 9 k) (record { after_it = no_9; before_it = λ exists. no_9 })
    (record { after_it = no_10; before_it = λ exists. no_8 })

pub returns-clause-step_some : goal.returns-clause-step_some
returns-clause-step_some c = λ generator otp none. (
  (none 1 (omega arith)).before_it (omega arith),
  (none 0 (omega arith)).after_it,
  (none 1 (omega arith)).after_it,
)

pub returns-clause-matches : goal.returns-clause-matches
returns-clause-matches c = λ generator otp at_9. at_9

pub returns-clause-code : goal.returns-clause-code
returns-clause-code c = λ generator. refl

pub returns-clause-codes : goal.returns-clause-codes
returns-clause-codes c = λ generator text printed.
    printed ∙ ap (λ (l : List ℕ). line_of (code_at generator 5) ++ l) (append-nil (line_of (code_at generator 6)))

pub returns-clause-least_printed : goal.returns-clause-least_printed
unfolding digits
returns-clause-least_printed c = λ generator otp o. (12, o, refl)

pub returns-clause-nearest_printed : goal.returns-clause-nearest_printed
unfolding digits
returns-clause-nearest_printed c = λ generator otp o. (negsuc 2, o, refl)

pub returns-clause-nearest_after_printed : goal.returns-clause-nearest_after_printed
unfolding digits
returns-clause-nearest_after_printed c = λ generator otp o. (pos 3, o, refl)

least_alone : (generator : Generator) (otp text : List ℕ) → Matches generator otp 9
    → IsPrinted Hotp (Some otp) generator 9 1 text → text ≡ codes "0" ++ 10 ∷ []
unfolding digits
least_alone generator otp text at_9 (zero, o, e) = e
least_alone generator otp text at_9 (suc n, o, e) = absurd (o.least 0 (omega arith) at_9)

pub returns-clause-least_alone : goal.returns-clause-least_alone
returns-clause-least_alone c = least_alone

nearest_alone : (generator : Generator) (otp text : List ℕ) → Matches generator otp 9
    → IsPrinted (Totp Sha1) (Some otp) generator 9 1 text → text ≡ codes "0" ++ 10 ∷ []
unfolding digits
nearest_alone generator otp text at_9 (pos zero, o, e) = e
nearest_alone generator otp text at_9 (pos (suc n), o, e) = absurd ((o.nearest 0 (omega arith)).after_it at_9)
nearest_alone generator otp text at_9 (negsuc n, o, e) = absurd ((o.nearest 0 (omega arith)).after_it at_9)

pub returns-clause-nearest_alone : goal.returns-clause-nearest_alone
returns-clause-nearest_alone c = nearest_alone

pub returns-clause-unmatched : goal.returns-clause-unmatched
returns-clause-unmatched c = λ generator otp at_9.
    (λ none. none 0 (omega arith) at_9, λ none. (none 0 (omega arith)).after_it at_9)

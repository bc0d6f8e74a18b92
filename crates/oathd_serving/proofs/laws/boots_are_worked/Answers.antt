use Rattle.std.proofs.Common.{inl, inr, arith, refl}
use Rattle.oathd_serving.proofs.laws.boots_are_worked.Goals as goal

pub returns-clause-no_line : goal.returns-clause-no_line
returns-clause-no_line c = (refl, λ ends. inl refl)

pub returns-clause-after_two_seconds : goal.returns-clause-after_two_seconds
returns-clause-after_two_seconds c = (refl, λ ends. inr (omega arith))

pub returns-clause-no_end : goal.returns-clause-no_end
returns-clause-no_end c = (refl, λ ends. absurd cc)

pub returns-clause-too_early : goal.returns-clause-too_early
returns-clause-too_early c h = elim (h.1 refl) [ inl none ↦ absurd cc | inr late ↦ omega (arith, late) ]

pub returns-clause-another_number : goal.returns-clause-another_number
returns-clause-another_number c h = let same = h.0 in omega (arith, same)

pub returns-clause-boots : goal.returns-clause-boots
returns-clause-boots c = (refl, (refl, refl))

pub returns-clause-no_boot : goal.returns-clause-no_boot
returns-clause-no_boot c = refl

pub returns-clause-another_end : goal.returns-clause-another_end
returns-clause-another_end c h = let same = h.1.1 in omega (arith, same)

pub returns-clause-first_of_more : goal.returns-clause-first_of_more
returns-clause-first_of_more c h = let same = h.0 in omega (arith, same)

pub returns-clause-second_of_more : goal.returns-clause-second_of_more
returns-clause-second_of_more c h = let same = h.1.0 in omega (arith, same)

-- The number that is left follows from the sum, and the answer from the number.
use Rattle.std.proofs.Common.{◌≡◌, inl, inr, true, false, ℕ, arith, refl}
use Rattle.oath_node.proofs.turn_laws.early_ends_can_be_broken.Goals as goal

pub returns-clause-whole : goal.returns-clause-whole
returns-clause-whole c =
    record { left = 0; sum = refl; is_early = false; asked = inr (omega arith, (refl, refl)); all = λ e. refl }

pub returns-clause-part : goal.returns-clause-part
returns-clause-part c =
    record { left = 2; sum = refl; is_early = true; asked = inr (omega arith, (refl, refl)); all = λ e. absurd cc }

pub returns-clause-no_turns : goal.returns-clause-no_turns
returns-clause-no_turns c = record { left = 0; sum = refl; is_early = true; asked = inl refl; all = λ e. refl }

pub returns-clause-part_without_an_end : goal.returns-clause-part_without_an_end
returns-clause-part_without_an_end c h =
    let sum = h.sum in
    elim h.asked [
      | inl none ↦ omega (arith, none)
      | inr last ↦ let left = h.all last.1 in omega (arith, sum, left)
    ]

pub returns-clause-part_without_an_answer : goal.returns-clause-part_without_an_answer
returns-clause-part_without_an_answer c h = elim h.asked [ inl none ↦ omega (arith, none) | inr last ↦ last.1 ]

pub returns-clause-part_of_another_number : goal.returns-clause-part_of_another_number
returns-clause-part_of_another_number c h =
    let sum = h.sum in
    elim h.asked [
      | inl none ↦ omega (arith, none)
      | inr last ↦ let left = last.1 in omega (arith, sum, left)
    ]

pub returns-clause-no_part : goal.returns-clause-no_part
returns-clause-no_part c h =
    elim h.asked [ inl none ↦ omega (arith, none) | inr last ↦ let some = last.0 in omega (arith, some) ]

-- The tokens are computed. Lists of other lengths differ, and so do other tokens.
use Rattle.std.proofs.Common.{◌≡◌, ℕ, List, [], ◌∷◌, Option, Some, None, length, inl, inr, refl, sym, ap, ◌∙◌, arith}
use Rattle.std.specs.Prelude.{slice_index_or}
use Rattle.book_law.specs.Examples.{maple_first}
use Rattle.book_law.specs.Stretches.{token_cleared}
use Rattle.served_law.proofs.order_laws.clearings_can_be_broken.Goals as goal

abbrev token_in : Option ℕ → ℕ
token_in None = 0
token_in (Some token) = token

abbrev token_at : ℕ → List (Option ℕ) → ℕ
token_at place tokens = token_in (slice_index_or tokens place None)

pub returns-clause-turns : goal.returns-clause-turns
returns-clause-turns c = λ from new first entries asked told turns end serves. refl

pub returns-clause-turns_without_the_first : goal.returns-clause-turns_without_the_first
returns-clause-turns_without_the_first c = λ from new first entries asked told turns end serves h. let e : 1 ≡ 2 = ap length h in omega (arith, e)

pub returns-clause-turns_in_another_order : goal.returns-clause-turns_in_another_order
returns-clause-turns_in_another_order c = λ from new first entries asked told turns end serves h. let e : 0 ≡ 1 = ap (token_at 0) h in omega (arith, e)

pub returns-clause-turns_by_numbers : goal.returns-clause-turns_by_numbers
returns-clause-turns_by_numbers c = λ from new first entries asked told turns end serves h. let e : 1 ≡ 0 = ap (token_at 0) h in omega (arith, e)

pub returns-clause-act : goal.returns-clause-act
returns-clause-act c = λ from new first entries asked told turns end fails. inl refl

pub returns-clause-act_without_the_stretch : goal.returns-clause-act_without_the_stretch
returns-clause-act_without_the_stretch c = λ from new first entries asked told turns end fails h.
    elim h [
      | inl none ↦ let e : 0 ≡ 1 = ap length none in omega (arith, e)
      | inr own ↦ let e : 0 ≡ 2 = ap length own in omega (arith, e)
    ]

pub returns-clause-act_with_its_own : goal.returns-clause-act_with_its_own
returns-clause-act_with_its_own c = λ from new first entries asked told turns end fails its.
    inr (ap (λ (number : Option ℕ). Some 0 ∷ token_cleared maple_first number ∷ []) (sym its))

pub returns-clause-act_with_another : goal.returns-clause-act_with_another
returns-clause-act_with_another c = λ from new first entries asked told turns end fails its h.
    elim h [
      | inl none ↦ let e : 2 ≡ 1 = ap length none in omega (arith, e)
      | inr own ↦
          let same : Some 0 ∷ Some 0 ∷ [] ≡ Some 0 ∷ Some 1 ∷ [] = own ∙ ap (λ (number : Option ℕ). Some 0 ∷ token_cleared maple_first number ∷ []) its in
          let e : 0 ≡ 1 = ap (token_at 1) same in
          omega (arith, e)
    ]

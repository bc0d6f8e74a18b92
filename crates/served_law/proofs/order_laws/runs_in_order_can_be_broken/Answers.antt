-- Lists of other lengths differ, and each other condition is a field.
use Rattle.std.proofs.Common.{◌≡◌, length, inl, inr, refl, ap, arith}
use Rattle.served_law.proofs.order_laws.runs_in_order_can_be_broken.Goals as goal

pub returns-clause-turns_clear_none : goal.returns-clause-turns_clear_none
returns-clause-turns_clear_none c = λ terms from new first entries asked told turns end serves h. let e : 1 ≡ 0 = ap length h in omega (arith, e)

pub returns-clause-act_clears_none : goal.returns-clause-act_clears_none
returns-clause-act_clears_none c = λ terms from new first entries asked told turns end fails. inl refl

pub returns-clause-act_clears_two : goal.returns-clause-act_clears_two
returns-clause-act_clears_two c = λ terms from new first entries asked told turns end fails h.
    elim h [
      | inl none ↦ let e : 2 ≡ 0 = ap length none in omega (arith, e)
      | inr one ↦ let e : 2 ≡ 1 = ap length one in omega (arith, e)
    ]

pub returns-clause-in_order_with_another_end : goal.returns-clause-in_order_with_another_end
returns-clause-in_order_with_another_end c = λ old new entries recorded turns node result setting terms port found left run none h. none h.tokens h.tokens_are

pub returns-clause-in_order_with_these_tokens : goal.returns-clause-in_order_with_these_tokens
returns-clause-in_order_with_these_tokens c = λ old new entries recorded turns node result setting terms port found left run is. is.has

pub returns-clause-opening : goal.returns-clause-opening
returns-clause-opening c = refl

pub returns-clause-opening_of_none : goal.returns-clause-opening_of_none
returns-clause-opening_of_none c = refl

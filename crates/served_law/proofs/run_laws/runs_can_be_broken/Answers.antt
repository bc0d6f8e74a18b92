-- A small node is clean or not, and each other condition is a field.
use Rattle.std.proofs.Common.{inl, inr, refl, sym, ◌∙◌}
use Rattle.std.proofs.lemmas.Option.{none-some, same_Some}
use Rattle.served_law.proofs.run_laws.runs_can_be_broken.Goals as goal

pub returns-clause-clean : goal.returns-clause-clean
returns-clause-clean c = refl

pub returns-clause-clean_again : goal.returns-clause-clean_again
returns-clause-clean_again c = (refl, refl)

pub returns-clause-unclean : goal.returns-clause-unclean
returns-clause-unclean c h = let e = h in absurd cc

pub returns-clause-unclean_after_an_act : goal.returns-clause-unclean_after_an_act
returns-clause-unclean_after_an_act c h = let e = h.0 in absurd cc

pub returns-clause-unclean_at_the_start : goal.returns-clause-unclean_at_the_start
returns-clause-unclean_at_the_start c h = let e = h.1 in absurd cc

pub returns-clause-unclean_before_the_last_but_one : goal.returns-clause-unclean_before_the_last_but_one
returns-clause-unclean_before_the_last_but_one c h = let e = h.1.1 in absurd cc

pub returns-clause-unclean_in_a_run : goal.returns-clause-unclean_in_a_run
returns-clause-unclean_in_a_run c = λ old new entries turns result run none h. none h.at_starts

pub returns-clause-unclean_at_the_end : goal.returns-clause-unclean_at_the_end
returns-clause-unclean_at_the_end c = λ old entries turns result run h. let e = h.at_end in absurd cc

pub returns-clause-turns_clear_none : goal.returns-clause-turns_clear_none
returns-clause-turns_clear_none c = λ from new first entries asked told turns end serves h. none-some 0 (sym h)

pub returns-clause-act_clears_none : goal.returns-clause-act_clears_none
returns-clause-act_clears_none c = λ from new first entries asked told turns end fails. inl refl

pub returns-clause-act_clears_its_own : goal.returns-clause-act_clears_its_own
returns-clause-act_clears_its_own c = λ from new first entries asked told turns end fails number two h.
    elim h [
      | inl none ↦ absurd (none-some number (sym none))
      | inr own ↦ same_Some number 2 (own ∙ two)
    ]

pub returns-clause-use_with_another_end : goal.returns-clause-use_with_another_end
returns-clause-use_with_another_end c = λ old new entries recorded turns node result setting terms port found left run none h. none h.last h.last_is

pub returns-clause-use_with_these_tokens : goal.returns-clause-use_with_these_tokens
returns-clause-use_with_these_tokens c = λ old new entries recorded turns node result setting terms port found left run one. one.was

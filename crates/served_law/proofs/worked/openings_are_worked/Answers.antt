-- Both sides are computed, and differ in a floor.
use Rattle.std.proofs.Common.{◌≡◌, refl, ap, arith}
use Rattle.vote_core.specs.Rows.{row}
use Rattle.vote_core.specs.Voting.{raise}
use Rattle.book_law.specs.Lives.{Store}
use Rattle.served_law.proofs.worked.openings_are_worked.Goals as goal

pub returns-clause-raised : goal.returns-clause-raised
returns-clause-raised c = refl

pub returns-clause-none_raised : goal.returns-clause-none_raised
returns-clause-none_raised c = refl

pub returns-clause-raised_first : goal.returns-clause-raised_first
returns-clause-raised_first c = refl

pub returns-clause-second_row : goal.returns-clause-second_row
unfolding raise
returns-clause-second_row c = refl

pub returns-clause-not_lowered : goal.returns-clause-not_lowered
unfolding raise
returns-clause-not_lowered c = refl

pub returns-clause-another_row : goal.returns-clause-another_row
unfolding raise
returns-clause-another_row c h = let e : 8 ≡ 5 = ap (λ (s : Store). (row s.content 0).next) h in omega (arith, e)

pub returns-clause-another_floor : goal.returns-clause-another_floor
unfolding raise
returns-clause-another_floor c h = let e : 9 ≡ 8 = ap (λ (s : Store). (row s.content 1).next) h in omega (arith, e)

pub returns-clause-left_out : goal.returns-clause-left_out
unfolding raise
returns-clause-left_out c h = let e : 6 ≡ 8 = ap (λ (s : Store). (row s.content 1).next) h in omega (arith, e)

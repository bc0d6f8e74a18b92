-- Each case is computed.
use Rattle.std.proofs.Common.{ℕ, List, length, get_or, refl, ap, arith}
use Rattle.std.specs.Fmt.{digits}
use Rattle.operator_text.proofs.worked.reports_can_be_broken.Goals as goal

pub returns-clause-no_line : goal.returns-clause-no_line
unfolding digits
returns-clause-no_line c = refl

pub returns-clause-one_page : goal.returns-clause-one_page
unfolding digits
returns-clause-one_page c = refl

pub returns-clause-two_pages : goal.returns-clause-two_pages
unfolding digits
returns-clause-two_pages c = refl

pub returns-clause-joined : goal.returns-clause-joined
unfolding digits
returns-clause-joined c = refl

pub returns-clause-skipped : goal.returns-clause-skipped
returns-clause-skipped c e = omega (arith, ap length e)

pub returns-clause-repeated : goal.returns-clause-repeated
returns-clause-repeated c e = omega (arith, ap length e)

pub returns-clause-swapped : goal.returns-clause-swapped
returns-clause-swapped c e = omega (arith, ap (λ (l : List ℕ). get_or l 0 0) e)

pub returns-clause-no_page : goal.returns-clause-no_page
unfolding digits
returns-clause-no_page c = refl

pub returns-clause-whole : goal.returns-clause-whole
unfolding digits
returns-clause-whole c = refl

pub returns-clause-not_whole : goal.returns-clause-not_whole
unfolding digits
returns-clause-not_whole c = refl

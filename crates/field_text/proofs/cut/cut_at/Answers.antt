use Rattle.field_text.proofs.CutLemmas.{whole_piece, first_piece, halves_at_place}
use Rattle.field_text.proofs.cut.cut_at.Goals as goal

pub returns-in_err-place-clause-none : goal.returns-in_err-place-clause-none
returns-in_err-place-clause-none c = rw c.from_residual.ensures (whole_piece _ c.args.text.now c.in_err-place.ensures.place)

pub returns-clause-halves : goal.returns-clause-halves
returns-clause-halves c = halves_at_place c.args.mark c.args.text.now c.in_ok-place.place c.in_ok-place.ensures.place

pub returns-clause-some : goal.returns-clause-some
returns-clause-some c = first_piece _ c.args.text.now c.in_ok-place.place c.in_ok-place.ensures.place

use Rattle.std.proofs.Common.{◌<◌, ℕ, ◌-◌, length, set, get_or, ap, ◌∙◌, arith}
use Rattle.std.proofs.lemmas.List.{get_or_default}
use Rattle.std.proofs.lemmas.List.Edits.{map_over_more}
use Rattle.answer_ring.proofs.answers.lower_places.Goals as goal

pub loop-place-preserved : goal.loop-place-preserved
loop-place-preserved c =
    let xs = c.args.places.now in
    let ys = c.loop-place.places in
    let i = c.loop-place.place-index in
    let within : i < length ys = omega arith in
    ap (λ (y : ℕ). set ys i y) c.saturating_sub.ensures
    ∙ map_over_more (λ (place : ℕ). place - 1) xs ys i (get_or ys i 0) (omega arith) c.loop-place.invariant (get_or_default ys i 0 _ within)

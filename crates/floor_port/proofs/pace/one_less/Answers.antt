use Rattle.std.proofs.Common.{◌<◌, ◌-◌, ◌∙◌, ℕ, ap, length, arith, slice_index}
use Rattle.std.specs.Prelude.{slice_set}
use Rattle.std.proofs.lemmas.List.{get_or_default, length-set}
use Rattle.std.proofs.lemmas.List.Edits.{map_over_more}
use Rattle.floor_port.proofs.pace.one_less.Goals as goal

pub loop-place-preserved : goal.loop-place-preserved
loop-place-preserved c =
    let numbers = c.loop-place.numbers in
    let place = c.loop-place.place in
    let number = slice_index numbers place in
    let in_all : place < length c.args.numbers = omega (arith, c.loop-place-test.true, c.loop-place.invariant.given) in
    let in_numbers : place < length numbers = omega (arith, c.loop-place-test.true, c.loop-place.invariant.len) in
    record {
      within = omega (arith, c.loop-place-test.true);
      given = c.loop-place.invariant.given;
      len = length-set numbers place c.saturating_sub.result ∙ c.loop-place.invariant.len;
      done = ap (λ (n : ℕ). slice_set numbers place n) c.saturating_sub.ensures
          ∙ map_over_more (λ (n : ℕ). n - 1) c.args.numbers numbers place number in_all c.loop-place.invariant.done (get_or_default numbers place 0 number in_numbers);
    }

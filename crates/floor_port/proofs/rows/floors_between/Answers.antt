use Rattle.std.proofs.Common.{◌≡◌, ◌<◌, ◌∙◌, ◌++◌, ◌∷◌, [], List, Some, length, sym, ap, arith}
use Rattle.std.specs.Prelude.{slice_get, slice_index}
use Rattle.arrayvec.specs.ArrayVec.{ArrayVec, array_vec_len}
use Rattle.floor_port.specs.declared.floor.NamedFloor.{NamedFloor}
use Rattle.floor_port.proofs.RowLemmas.{named, upto_fresh, upto_other}
use Rattle.floor_port.proofs.rows.floors_between.Goals as goal
use Rattle.floor_port.proofs.rows.floors_between.Goals.{then-not-has, else-not-has}

abbrev items_of : ArrayVec NamedFloor → List NamedFloor
items_of floors = floors.items

pub loop-row-preserved : goal.loop-row-preserved
loop-row-preserved c =
    let names = c.args.names.now in
    let told = c.args.told.now in
    let fresh = c.args.fresh.now in
    let first = c.args.first in
    let row = c.loop-row.row in
    let name = c.in-Some.name in
    let from = c.loop-row.invariant.from in
    let at : slice_get names row ≡ Some name = sym c.name.ensures.name ∙ c.in-Some.is in
    let low : row < length told = omega (arith, c.loop-row-test.true, c.requires.places.1.0) in
    elim c.if-not-has.branch [
      | then-not-has w ↦ record {
        from = omega (arith, from);
        within = omega (arith, c.loop-row-test.true);
        len = (let len = ap array_vec_len w.floors-is in omega (arith, len, w.push.ensures.len, c.loop-row.invariant.len, from));
        items = ap items_of w.floors-is ∙ w.push.ensures.items
            ∙ ap (λ (l : List NamedFloor). l ++ named name (slice_index told row) ∷ []) c.loop-row.invariant.items
            ∙ sym (upto_other names told fresh first row name c.requires.rows.0 from low at (sym c.has.ensures ∙ w.if-not-has.true));
      }
      | else-not-has w ↦ record {
        from = omega (arith, from);
        within = omega (arith, c.loop-row-test.true);
        len = (let len = ap array_vec_len w.floors-is in omega (arith, len, c.loop-row.invariant.len, from));
        items = ap items_of w.floors-is ∙ c.loop-row.invariant.items
            ∙ sym (upto_fresh names told fresh first row name c.requires.rows.0 from low at (sym c.has.ensures ∙ w.if-not-has.false));
      }
    ]

use Rattle.std.proofs.Common.{◌≡◌, ◌-◌, ◌∙◌, ℕ, List, length, take, drop, ap, arith}
use Rattle.floor_port.specs.Rows.{next_floors, named_floors, not_fresh}
use Rattle.floor_port.proofs.RowLemmas.{turn_last}
use Rattle.floor_port.proofs.rows.Rows.take_turn.Goals as goal

pub returns-then-told-next-clause-floors : goal.returns-then-told-next-clause-floors
returns-then-told-next-clause-floors c =
    let names = c.self.inside.names.now in
    let told = c.self.inside.told.items in
    let turn = c.self.inside.turn in
    let fresh = c.self.inside.fresh in
    let len : length c.as_slice-told.result.now ≡ length told = ap length c.as_slice-told.ensures.value in
    c.floors_between.ensures.floors
    ∙ ap (λ (l : List ℕ). not_fresh fresh turn (take (length l - turn) (drop turn (named_floors names l)))) c.as_slice-told.ensures.value
    ∙ ap (not_fresh fresh turn) (turn_last names told turn c.self.invariant.told_each (omega (arith, c.if-told-next.true, len)))
    ∙ ap next_floors c.self.view_is

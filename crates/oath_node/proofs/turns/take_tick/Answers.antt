use Rattle.std.proofs.Common.{◌∷◌, [], List, sym, subst}
use Rattle.std.specs.Prelude.{Ok, Some}
use Rattle.std.proofs.lemmas.List.{append-nil}
use Rattle.oath_node.specs.Machine.{Tick}
use Rattle.oath_node.specs.declared.item.Item.{Item}
use Rattle.oath_node.specs.TurnSteps.{TakesAll, TakesTick, ticks_of}
use Rattle.oath_node.specs.declared.turns.BatchEnd.{BatchEnd}
use Rattle.oath_node.proofs.TurnStepLemmas.{takes_one}
use Rattle.oath_node.proofs.turns.take_tick.Goals as goal

pub returns-in_ok-take-in-Tick : goal.returns-in_ok-take-in-Tick
returns-in_ok-take-in-Tick g c =
    let held = g.S.FloorStore.held in
    let old = c.args.node.now in
    let new = c.take.new.self in
    let outputs = c.in_ok-take-in-Tick.field-0 in
    subst (λ (e : BatchEnd). TakesTick held old new (ticks_of e) (Ok (Some outputs))) (sym c.in-Tick.is)
    (subst (λ (items : List Item). TakesAll held old new (Tick ∷ []) items) (sym (append-nil outputs.items))
    (takes_one held old new Tick outputs c.in_ok-take-in-Tick.ensures))

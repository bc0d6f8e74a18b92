use Rattle.std.proofs.Common.{◌<◌, length, set, get_or, ap, ◌∙◌, arith}
use Rattle.std.proofs.lemmas.List.{get_or_default}
use Rattle.std.proofs.lemmas.List.Edits.{map_over_more}
use Rattle.sealed_port.specs.Requests.{operator_with}
use Rattle.sealed_port.specs.declared.operator.Operator.{Operator}
use Rattle.sealed_port.proofs.requests.see.Goals as goal

pub loop-operator-preserved : goal.loop-operator-preserved
loop-operator-preserved c =
    let xs = c.args.operators.now in
    let ys = c.loop-operator.operators in
    let i = c.loop-operator.operator-index in
    let blank : Operator = c.operator-item.result in
    let within : i < length ys = omega arith in
    ap (λ (y : Operator). set ys i y) c.see.ensures
    ∙ map_over_more (operator_with c.args.number c.args.moment) xs ys i (get_or ys i blank) (omega arith) c.loop-operator.invariant (get_or_default ys i blank _ within)

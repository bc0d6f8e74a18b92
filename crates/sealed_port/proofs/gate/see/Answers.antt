use Rattle.std.proofs.Common.{◌<◌, length, set, get_or, ap, ◌∙◌, arith}
use Rattle.std.proofs.lemmas.List.{get_or_default}
use Rattle.std.proofs.lemmas.List.Edits.{map_over_more}
use Rattle.sealed_port.specs.Gate.{with_moment}
use Rattle.sealed_port.specs.declared.client.Client.{Client}
use Rattle.sealed_port.proofs.gate.see.Goals as goal

pub loop-client-preserved : goal.loop-client-preserved
loop-client-preserved c =
    let xs = c.args.clients.now in
    let ys = c.loop-client.clients in
    let i = c.loop-client.client-index in
    let blank : Client = c.client-item.result in
    let within : i < length ys = omega arith in
    ap (λ (y : Client). set ys i y) c.see.ensures
    ∙ map_over_more (with_moment c.args.number c.args.moment) xs ys i (get_or ys i blank) (omega arith) c.loop-client.invariant (get_or_default ys i blank _ within)

use Rattle.std.proofs.Common.{◌<◌, length, set, get_or, ap, ◌∙◌, arith}
use Rattle.std.proofs.lemmas.List.{get_or_default}
use Rattle.std.proofs.lemmas.List.Edits.{map_over_more}
use Rattle.sealed_port.specs.Failures.{with_one_of}
use Rattle.sealed_port.specs.declared.failures.Failed.{Failed}
use Rattle.sealed_port.proofs.failures.add_to.Goals as goal

pub loop-one-preserved : goal.loop-one-preserved
loop-one-preserved c =
    let xs = c.args.failed.now in
    let ys = c.loop-one.failed in
    let i = c.loop-one.one-index in
    let blank : Failed = record { client = 0; number = 0 } in
    let within : i < length ys = omega arith in
    ap (λ (y : Failed). set ys i y) c.with_one_of.ensures
    ∙ map_over_more (with_one_of c.args.client) xs ys i (get_or ys i blank) (omega arith) c.loop-one.invariant (get_or_default ys i blank _ within)

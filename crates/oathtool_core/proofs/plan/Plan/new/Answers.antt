use Rattle.std.proofs.Common.{ap, ◌∙◌}
use Rattle.oathtool_core.specs.Key.{key_refusal}
use Rattle.oathtool_core.proofs.RunLemmas.{first_stops, has_key, key_stops, range_stops}
use Rattle.oathtool_core.proofs.plan.Plan.new.Goals as goal

pub returns-in_err-secret-clause-stops : goal.returns-in_err-secret-clause-stops
returns-in_err-secret-clause-stops c =
    key_stops c.args.words.now c.args.clock c.in_ok-times.times c.from_residual-in_err-secret.result c.in_err-secret.field-0.0
    c.from_residual-in_err-secret.ensures.1 c.in_ok-times.ensures.times
    (c.in_err-secret.ensures.fault ∙ ap (key_refusal c.args.words.now.is_base32) c.as_bytes.ensures.value)

pub returns-in_err-first-clause-stops : goal.returns-in_err-first-clause-stops
returns-in_err-first-clause-stops c =
    first_stops c.args.words.now c.args.clock c.in_ok-times.times c.in_ok-secret.secret c.from_residual-in_err-first.result
    c.in_err-first.field-0.0 c.from_residual-in_err-first.ensures.1 c.in_ok-times.ensures.times
    (has_key c.args.words.now c.as_bytes.result.now c.in_ok-secret.secret c.as_bytes.ensures.value c.in_ok-secret.ensures.fault
    c.in_ok-secret.ensures.found)
    c.in_err-first.ensures

pub returns-then-not-is_range-clause-stops : goal.returns-then-not-is_range-clause-stops
returns-then-not-is_range-clause-stops c =
    range_stops c.args.words.now c.args.clock c.in_ok-times.times c.in_ok-secret.secret c.in_ok-first.first c.is_range.result
    c.in_ok-times.ensures.times
    (has_key c.args.words.now c.as_bytes.result.now c.in_ok-secret.secret c.as_bytes.ensures.value c.in_ok-secret.ensures.fault
    c.in_ok-secret.ensures.found)
    c.in_ok-first.ensures c.if-not-is_range.true c.is_range.ensures.1

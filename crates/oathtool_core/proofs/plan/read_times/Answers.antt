use Rattle.std.proofs.Common.{inl, subst, sym, ap, ◌∙◌}
use Rattle.std.specs.Prelude.{Err}
use Rattle.oathtool_core.specs.StepSize.{step_size_of}
use Rattle.oathtool_core.specs.Plan.{IsNoTime}
use Rattle.oathtool_core.specs.declared.time.TimeFault.{TimeFault}
use Rattle.oathtool_core.proofs.RunLemmas.{no_bad_time, time_fails}
use Rattle.oathtool_core.proofs.plan.read_times.Goals as goal

pub returns-in_err-start-clause-fault : goal.returns-in_err-start-clause-fault
returns-in_err-start-clause-fault c =
    time_fails c.args.words.now c.from_residual.result c.in_err-start.field-0.0 c.from_residual.ensures.1
    (λ e. inl (subst IsNoTime c.as_bytes.ensures.value (c.in_err-start.ensures.bad.0 (ap (λ (f : TimeFault). Err f) e))))

pub returns-in_default-clause-fault : goal.returns-in_default-clause-fault
returns-in_default-clause-fault c = (
  no_bad_time c.args.words.now c.as_bytes.result.now c.in_ok-start.start c.in_ok-time.time c.as_bytes.ensures.value
      c.in_ok-start.ensures.some c.in_ok-time.ensures.some,
  ap step_size_of (sym c.as_bytes-2.ensures.value) ∙ sym c.in_default.ensures,
)

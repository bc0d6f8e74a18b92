use Rattle.std.proofs.Common.{◌≡◌, ap, subst}
use Rattle.std.specs.Prelude.{Err}
use Rattle.oathtool_core.specs.Plan.{IsNoTime}
use Rattle.oathtool_core.specs.declared.time.TimeFault.{TimeFault}
use Rattle.oathtool_core.specs.declared.time.TimeFault.TheVariants.{BadTime}
use Rattle.oathtool_core.proofs.plan.read_given.Goals as goal

pub returns-in-Err-clause-bad : goal.returns-in-Err-clause-bad
returns-in-Err-clause-bad c = λ e.
    let f : c.in-Err.fault ≡ BadTime = cc in
    rw c.in-Some.is (subst IsNoTime c.as_bytes.ensures.value (c.in-Err.ensures.bad.0 (ap (λ (k : TimeFault). Err k) f)))

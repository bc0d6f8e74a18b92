use Rattle.std.proofs.Common.{◌≡◌, refl, ap, ◌∙◌, arith}
use Rattle.std.specs.Prelude.{Err}
use Rattle.oathtool_core.specs.declared.time.TimeFault.{TimeFault}
use Rattle.oathtool_core.proofs.RunLemmas.{same_error}
use Rattle.oathtool_core.proofs.TimeLemmas.{one_either}
use Rattle.oathtool_core.proofs.time.read_time.Goals as goal

pub returns-in_err-seconds-clause-bad : goal.returns-in_err-seconds-clause-bad
returns-in_err-seconds-clause-bad c = (
  λ e seconds t. c.in_err-seconds.ensures.none seconds t.1,
  λ none. same_error c.from_residual.result c.in_err-seconds.field-0.0 c.from_residual.ensures.1
      ∙ ap (λ (f : TimeFault). Err f) c.in_err-seconds.ensures.bad,
)

pub returns-then-seconds-ge-MOMENTS_END-clause-bad : goal.returns-then-seconds-ge-MOMENTS_END-clause-bad
returns-then-seconds-ge-MOMENTS_END-clause-bad c = (
  λ e seconds t.
      let same : c.in_ok-seconds.seconds ≡ seconds = one_either c.args.text.now c.in_ok-seconds.seconds seconds c.in_ok-seconds.ensures.some t.1 in
      absurd (omega (arith, t.0, same, c.if-seconds-ge-MOMENTS_END.true)),
  λ none. refl,
)

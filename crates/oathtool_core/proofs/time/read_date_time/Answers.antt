use Rattle.oathtool_core.proofs.RunLemmas.{error_weaker}
use Rattle.oathtool_core.proofs.TimeLemmas.{none_dated}
use Rattle.oathtool_core.proofs.time.read_date_time.Goals as goal

pub returns-in-Some-clause-none : goal.returns-in-Some-clause-none
returns-in-Some-clause-none c =
    error_weaker c.time_of.result _ _ (none_dated c.args.text.now c.in-Some.fields c.in-Some.ensures) c.time_of.ensures.none

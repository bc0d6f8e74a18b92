use Rattle.oathtool_core.proofs.RunLemmas.{error_weaker}
use Rattle.oathtool_core.proofs.TimeLemmas.{none_numbered, none_without_at}
use Rattle.oathtool_core.proofs.time.read_either.Goals as goal

pub returns-in_default-clause-none : goal.returns-in_default-clause-none
returns-in_default-clause-none c =
    error_weaker c.read_date_time.result _ _ (none_without_at c.args.text.now c.in_default.ensures.none) c.read_date_time.ensures.none

pub returns-in-None-clause-none : goal.returns-in-None-clause-none
returns-in-None-clause-none c = none_numbered c.args.text.now c.in-Some.digits.now c.in-Some.ensures.some c.in-None.ensures

use Rattle.sealed_port.proofs.OpenLemmas.{cause_law}
use Rattle.sealed_port.proofs.laws.what_is_not_opened_has_a_cause.Goals as goal

pub returns : goal.returns
returns c = cause_law

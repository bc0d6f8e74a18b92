use Rattle.named_port.proofs.RunLemmas.{handed_law, place_law}
use Rattle.named_port.proofs.laws.what_is_handed_in_came.Goals as goal

pub returns-clause-next : goal.returns-clause-next
returns-clause-next c = λ key bytes known names me boot member before event. handed_law key names known me boot before event member bytes

pub returns-clause-at_each_place : goal.returns-clause-at_each_place
returns-clause-at_each_place c = λ key bytes known names me boot place member calls. place_law key names known me boot calls place member bytes

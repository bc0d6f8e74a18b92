use Rattle.named_port.proofs.FieldLemmas.{again_law, back_law}
use Rattle.named_port.proofs.laws.packed_fields_tell.Goals as goal

pub returns-clause-again : goal.returns-clause-again
returns-clause-again c = λ kind from to fields short. again_law kind from to fields short

pub returns-clause-back : goal.returns-clause-back
returns-clause-back c = λ kind from to short fields. back_law kind from to short fields

use Rattle.floor_port.specs.Packer.{new_packer}
use Rattle.floor_port.proofs.ToldLemmas.{known_rise, told_rise}
use Rattle.floor_port.proofs.laws.floors_rise.Goals as goal

pub returns-clause-told : goal.returns-clause-told
returns-clause-told c = told_rise

pub returns-clause-known : goal.returns-clause-known
returns-clause-known c = known_rise

pub returns-clause-from_the_start : goal.returns-clause-from_the_start
returns-clause-from_the_start c = λ key names me boot members start calls row. told_rise (new_packer key names me boot members start) calls row

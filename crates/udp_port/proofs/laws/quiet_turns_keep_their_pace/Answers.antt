use Rattle.udp_port.proofs.PaceLemmas.{all_quiets, most_quiets}
use Rattle.udp_port.proofs.laws.quiet_turns_keep_their_pace.Goals as goal

pub returns-clause-most : goal.returns-clause-most
returns-clause-most c = λ due last moments d h. most_quiets due last moments d h

pub returns-clause-all : goal.returns-clause-all
returns-clause-all c = λ before due moments b d h. all_quiets before due moments b d h

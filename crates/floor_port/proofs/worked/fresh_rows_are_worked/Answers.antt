-- Each case is computed.
use Rattle.std.proofs.Common.{refl}
use Rattle.floor_port.proofs.worked.fresh_rows_are_worked.Goals as goal

pub returns-clause-is : goal.returns-clause-is
returns-clause-is c = refl

pub returns-clause-none : goal.returns-clause-none
returns-clause-none c = refl

pub returns-clause-more : goal.returns-clause-more
returns-clause-more c = refl

pub returns-clause-room_for_64 : goal.returns-clause-room_for_64
returns-clause-room_for_64 c = refl

pub returns-clause-full : goal.returns-clause-full
returns-clause-full c = refl

pub returns-clause-raised : goal.returns-clause-raised
returns-clause-raised c = refl

pub returns-clause-not_raised : goal.returns-clause-not_raised
returns-clause-not_raised c = refl

pub returns-clause-another_name : goal.returns-clause-another_name
returns-clause-another_name c = refl

pub returns-clause-no_witness : goal.returns-clause-no_witness
returns-clause-no_witness c = refl

pub returns-clause-known_but_raised : goal.returns-clause-known_but_raised
returns-clause-known_but_raised c = refl

pub returns-clause-twice : goal.returns-clause-twice
returns-clause-twice c = refl

pub returns-clause-news : goal.returns-clause-news
returns-clause-news c = refl

pub returns-clause-others : goal.returns-clause-others
returns-clause-others c = refl

pub returns-clause-others_from : goal.returns-clause-others_from
returns-clause-others_from c = refl

pub returns-clause-all : goal.returns-clause-all
returns-clause-all c = refl

pub returns-clause-twenty : goal.returns-clause-twenty
returns-clause-twenty c = refl

pub returns-clause-sixty_four : goal.returns-clause-sixty_four
returns-clause-sixty_four c = refl

pub returns-clause-sixty_five : goal.returns-clause-sixty_five
returns-clause-sixty_five c = refl

pub returns-clause-turn : goal.returns-clause-turn
returns-clause-turn c = refl

pub returns-clause-told : goal.returns-clause-told
returns-clause-told c = refl

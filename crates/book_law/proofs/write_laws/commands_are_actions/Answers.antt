use Rattle.book_law.proofs.Writes.{commits, raises, raises_in_order, stops_raising, stops_unlocking, unlocks}
use Rattle.book_law.proofs.write_laws.commands_are_actions.Goals as goal

pub returns-clause-unlocks : goal.returns-clause-unlocks
returns-clause-unlocks g c = λ setting event node token number names store new old there at w clean. unlocks g.S.FloorStore.held setting event node token number names store new old there at w clean

pub returns-clause-stops_unlocking : goal.returns-clause-stops_unlocking
returns-clause-stops_unlocking g c = λ setting event node token number names store new old result content there at w clean leaves.
    stops_unlocking g.S.FloorStore.held setting event node token number names store new old result content there at w clean leaves

pub returns-clause-raises : goal.returns-clause-raises
returns-clause-raises g c = λ setting event node token number floor names store new there w clean. raises g.S.FloorStore.held setting event node token number floor names store new there w clean

pub returns-clause-stops_raising : goal.returns-clause-stops_raising
returns-clause-stops_raising g c = λ setting event node token number floor names store new result content there w clean leaves.
    stops_raising g.S.FloorStore.held setting event node token number floor names store new result content there w clean leaves

pub returns-clause-commits : goal.returns-clause-commits
returns-clause-commits g c = λ store new w clean. commits g.S.FloorStore.held store new w clean

pub returns-clause-in_order : goal.returns-clause-in_order
returns-clause-in_order g c = λ setting node first told store. raises_in_order setting node first told store

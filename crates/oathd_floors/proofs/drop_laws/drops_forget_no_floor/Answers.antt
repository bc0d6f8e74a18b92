use Rattle.oathd_floors.proofs.DroppedLemmas.{forgets_none}
use Rattle.oathd_floors.proofs.drop_laws.drops_forget_no_floor.Goals as goal

pub returns : goal.returns
returns g c node boot own rows store new clean h = forgets_none g.S.Store node boot own rows store new clean h

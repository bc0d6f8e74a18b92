use Rattle.oathd_acts.proofs.looks.unlock.Goals as goal

pub returns : goal.returns
returns g c old new = (_, (c.in_ok-_store._store, c.in_ok-_store.ensures.unlocked))

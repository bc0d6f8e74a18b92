-- The uses of each member are made one after the other.
use Rattle.served_law.proofs.Runs.{named_uses}
use Rattle.served_law.proofs.laws.served_names_are_uses.Goals as goal

pub returns : goal.returns
returns g c = λ setting node names store named are sized. named_uses g.S.Store g.D.Database.finds g.U.Stop.answers setting names sized node store named are

use Rattle.oathd_database.proofs.UsersLemmas.{opened_any, opened_given}
use Rattle.oathd_database.proofs.database.open_named.Goals as goal

pub returns-in-Some-clause-opened : goal.returns-in-Some-clause-opened
returns-in-Some-clause-opened g c =
    opened_given g.S.Store c.in-Some.node _ _ c.open_numbered.result c.args.node c.in-Some.is c.open_numbered.ensures.opened

pub returns-in-Ok-clause-opened : goal.returns-in-Ok-clause-opened
returns-in-Ok-clause-opened g c =
    opened_any g.S.Store _ _ _ _ c.open_numbered-in-Ok.result c.args.node c.in_default.is c.in-Ok.ensures.same c.open_numbered-in-Ok.ensures.opened

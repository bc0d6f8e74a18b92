use Rattle.oathd_database.proofs.MadeLemmas.{made_of}
use Rattle.oathd_database.proofs.init.init_store.Goals as goal

pub returns-clause-made : goal.returns-clause-made
returns-clause-made g c =
    let users = c.in_ok-_users._users in
    made_of g.S.Store g.D.Database.finds c.args.node c.args.settings c.args.moment 16777216 users.book users.floors.items c.in_ok-_users.store
    (g.R.Read.remaining c.args.users) c.in_ok-_users.ensures.users c.in_ok-_users.ensures.made

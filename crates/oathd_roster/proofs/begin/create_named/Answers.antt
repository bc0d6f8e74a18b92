use Rattle.std.proofs.Common.{◌∙◌}
use Rattle.oathd_database.specs.Lost.{boot_at}
use Rattle.oathd_roster.specs.Enrolment.{enrolment_floors}
use Rattle.oathd_roster.proofs.BegunLemmas.{begun_found}
use Rattle.oathd_roster.proofs.begin.create_named.Goals as goal

pub returns-in-Ok-begin_seated-clause-begun : goal.returns-in-Ok-begin_seated-clause-begun
returns-in-Ok-begin_seated-clause-begun g c =
    let users = c.in_ok-named.named.users in
    begun_found g.S.Store g.D.Database.finds c.args.node (boot_at c.args.moment) c.args.cluster.now.bond _ c.deref.result.now
    (enrolment_floors c.args.cluster.now c.args.settings c.args.moment users.book users.floors.items) c.deref-2.result.now c.in_ok-conn.conn c.in-Ok-begin_seated.store
    (c.deref.ensures.value ∙ c.in_ok-named.ensures.entries)
    (c.deref-2.ensures.value ∙ c.in-Ok.ensures.floors)
    c.in_ok-conn.ensures.found c.in-Ok-begin_seated.ensures.begun

use Rattle.std.proofs.Common.{◌∙◌, List, ℕ, subst, sym}
use Rattle.oathd_database.specs.Users.{IsImported}
use Rattle.oathd_roster.specs.Enrolled.{IsOpenedFor}
use Rattle.oathd_roster.specs.declared.users.NamedUsers.{NamedUsers}
use Rattle.oathd_roster.proofs.EnrolledLemmas.{opened_before, text_has}
use Rattle.oathd_roster.proofs.opening.open_enrolled.Goals as goal

pub returns-in-Ok-open_for-clause-opened : goal.returns-in-Ok-open_for-clause-opened
returns-in-Ok-open_for-clause-opened g c =
    let given = c.in-Ok.named in
    let store = c.in-Ok-open_for.store in
    let counts = c.in-Ok-open_for.counts in
    let cluster = c.args.cluster.now in
    subst (λ (named : NamedUsers). IsOpenedFor g.S.Store cluster c.args.settings c.args.moment c.args.conn c.args.node named.users.book named.users.floors.items store counts)
    (sym c.in-Ok-open_for.ensures.users)
    (opened_before g.S.Store c.args.conn c.in_ok-conn.conn c.in_ok-conn.ensures.kept cluster c.args.settings c.args.node c.args.moment given.users.book
    given.users.floors.items store counts c.in-Ok-open_for.ensures.opened)

pub returns-in-Ok-open_for-clause-some : goal.returns-in-Ok-open_for-clause-some
returns-in-Ok-open_for-clause-some g c =
    let users = c.in-Ok.named.users in
    let read = subst (λ (t : List ℕ). IsImported c.args.settings c.args.moment 16777216 users.book users.floors.items t) c.as_slice.ensures.value c.in-Ok.ensures.imported in
    text_has c.args.settings c.args.moment users.book users.floors.items c.in_ok-conn.kept.items read (λ none. c.if-len-eq0.false (c.len.ensures.value ∙ none))

use Rattle.std.proofs.Common.{◌≡◌, inr, subst, sym}
use Rattle.named_store.specs.declared.fault.NamedFault.TheVariants as named
use Rattle.oathd_database.specs.declared.fault.Fault.TheVariants.{Store}
use Rattle.oathd_roster.specs.Opened.{HasOpenedNamed, IsNotOpened}
use Rattle.oathd_roster.specs.declared.fault.RosterFault.{RosterFault}
use Rattle.oathd_roster.specs.declared.fault.RosterFault.TheVariants.{Command}
use Rattle.oathd_roster.specs.declared.users.NamedUsers.{NamedUsers}
use Rattle.oathd_roster.proofs.EnrolledLemmas.{kept_before, kept_out_in, not_opened_in, opened_before, opened_in, rows_refused, unread_refused}
use Rattle.oathd_roster.proofs.UsersLemmas.{err_is}
use Rattle.oathd_roster.proofs.opening.open_named_store.Goals as goal

pub returns-in_err-named-clause-fault : goal.returns-in_err-named-clause-fault
returns-in_err-named-clause-fault g c =
    let fault = c.in_err-named.field-0.0 in
    err_is c.from_residual.result fault
    (λ (x : RosterFault). IsNotOpened g.S.Store g.D.Database.finds c.args.cluster.now c.args.settings c.args.moment 16777216 c.args.node x c.args.text.now)
    c.from_residual.ensures.1
    (unread_refused g.S.Store g.D.Database.finds c.args.cluster.now c.args.settings c.args.moment c.args.node fault c.args.text.now c.in_err-named.ensures.fault)

pub returns-in_err-conn-clause-fault : goal.returns-in_err-conn-clause-fault
returns-in_err-conn-clause-fault g c =
    let fault = c.in_err-conn.field-0.0 in
    let users = c.in_ok-named.named.users in
    err_is c.from_residual-in_err-conn.result (Command (Store fault))
    (λ (x : RosterFault). IsNotOpened g.S.Store g.D.Database.finds c.args.cluster.now c.args.settings c.args.moment 16777216 c.args.node x c.args.text.now)
    c.from_residual-in_err-conn.ensures.1
    (record { book = users.book; floors = users.floors.items; imported = c.in_ok-named.ensures.imported })

pub returns-in-Ok-clause-opened : goal.returns-in-Ok-clause-opened
returns-in-Ok-clause-opened g c =
    let cluster = c.args.cluster.now in
    let users = c.in_ok-named.named.users in
    let store = c.in-Ok.store in
    let counts = c.in-Ok.counts in
    subst (λ (named : NamedUsers). HasOpenedNamed g.S.Store g.D.Database.finds cluster c.args.settings c.args.moment c.args.node named.users.book named.users.floors.items store counts)
    (sym c.in-Ok.ensures.users)
    (opened_in g.S.Store g.D.Database.finds cluster c.args.settings c.args.moment c.in_ok-conn.conn c.args.node users.book users.floors.items store counts
    c.in_ok-conn.ensures.found c.in-Ok.ensures.opened)

pub returns-in-Err-clause-fault : goal.returns-in-Err-clause-fault
returns-in-Err-clause-fault g c =
    let text = c.args.text.now in
    not_opened_in g.S.Store g.D.Database.finds c.args.cluster.now c.args.settings c.args.moment c.in_ok-conn.conn c.args.node c.in-Err.fault text
    c.in_ok-conn.ensures.found (c.in-Err.ensures.fault text c.in_ok-named.ensures.imported)

-- the store has no room for the new tokens
pub returns-in_ok-named-in-Err-default-Full-clause-opened : goal.returns-in_ok-named-in-Err-default-Full-clause-opened
returns-in_ok-named-in-Err-default-Full-clause-opened g c =
    let cluster = c.args.cluster.now in
    let conn = c.in_ok-conn.conn in
    let full = c.in-Err-default-Full in
    let opened = c.in_ok-named-in-Err-default-Full in
    let users = opened.named.users in
    opened_in g.S.Store g.D.Database.finds cluster c.args.settings c.args.moment conn c.args.node users.book users.floors.items opened.store opened.counts
    c.in_ok-conn.ensures.found
    (opened_before g.S.Store conn full.conn (full.ensures.full full.field-0-1-is) cluster c.args.settings c.args.node c.args.moment users.book users.floors.items
    opened.store opened.counts opened.ensures.opened)

pub returns-in_ok-named-in-Err-default-Full-clause-text : goal.returns-in_ok-named-in-Err-default-Full-clause-text
returns-in_ok-named-in-Err-default-Full-clause-text g c =
    let cluster = c.args.cluster.now in
    let conn = c.in_ok-conn.conn in
    let text = c.args.text.now in
    let full = c.in-Err-default-Full in
    let opened = c.in_ok-named-in-Err-default-Full in
    let refused = subst (λ (x : RosterFault). IsNotOpened g.S.Store (λ first. first ≡ conn) cluster c.args.settings c.args.moment 16777216 c.args.node x text)
    full.field-0-1-is (full.ensures.fault text c.in_ok-named.ensures.imported) in
    inr (record {
      no_room = kept_out_in g.S.Store g.D.Database.finds cluster c.args.settings c.args.moment conn c.args.node named.Full text c.in_ok-conn.ensures.found refused;
      some = opened.ensures.some;
      conn = conn;
      found = c.in_ok-conn.ensures.found;
      rows = kept_before g.S.Store conn full.conn (full.ensures.full full.field-0-1-is) cluster c.args.settings c.args.node text opened.kept.items opened.ensures.rows;
    })

pub returns-in_err-named-in-Err-default-Full-clause-fault : goal.returns-in_err-named-in-Err-default-Full-clause-fault
returns-in_err-named-in-Err-default-Full-clause-fault g c =
    let cluster = c.args.cluster.now in
    let conn = c.in_ok-conn.conn in
    let text = c.args.text.now in
    let users = c.in_ok-named.named.users in
    let full = c.in-Err-default-Full in
    let fault = c.in_err-named-in-Err-default-Full.field-0.0 in
    let refused = subst (λ (x : RosterFault). IsNotOpened g.S.Store (λ first. first ≡ conn) cluster c.args.settings c.args.moment 16777216 c.args.node x text)
    full.field-0-1-is (full.ensures.fault text c.in_ok-named.ensures.imported) in
    let out = kept_out_in g.S.Store g.D.Database.finds cluster c.args.settings c.args.moment conn c.args.node named.Full text c.in_ok-conn.ensures.found refused in
    err_is c.from_residual-in_err-named-in-Err-default-Full.result fault
    (λ (x : RosterFault). IsNotOpened g.S.Store g.D.Database.finds cluster c.args.settings c.args.moment 16777216 c.args.node x text)
    c.from_residual-in_err-named-in-Err-default-Full.ensures.1
    (rows_refused g.S.Store g.D.Database.finds cluster c.args.settings c.args.moment c.args.node fault users.book users.floors.items text
    c.in_ok-named.ensures.imported out c.in_err-named-in-Err-default-Full.ensures.fault)

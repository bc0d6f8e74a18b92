use Rattle.std.proofs.Common.{ℕ, IfSome, subst}
use Rattle.oathd_roster.specs.Begun.{IsBegun, IsNotBegun}
use Rattle.oathd_roster.specs.declared.fault.RosterFault.{RosterFault}
use Rattle.oathd_roster.specs.declared.fault.RosterFault.TheVariants.{Command}
use Rattle.oathd_roster.proofs.BegunLemmas.{has_begun, not_told, works_so}
use Rattle.oathd_roster.proofs.UsersLemmas.{err_is}
use Rattle.oathd_roster.proofs.begin.begin_store.Goals as goal

pub returns-in_err-write_begun-clause-fault : goal.returns-in_err-write_begun-clause-fault
returns-in_err-write_begun-clause-fault g c =
    let cluster = c.args.cluster.now in
    let a = g.R.Read.remaining c.args.users in
    let book = c.in_ok-named.named.users.book in
    let floors = c.in_ok-named.named.users.floors.items in
    let store = c.in_ok-named.store in
    let fault = c.in_err-write_begun.field-0.0 in
    let begun = subst (λ (node : ℕ). IsBegun g.S.Store g.D.Database.finds cluster c.args.settings c.args.moment node book floors store)
    c.me-node.ensures.value c.in_ok-named.ensures.begun in
    err_is c.from_residual-in_err-write_begun.result (Command fault)
    (λ (x : RosterFault). IfSome a (IsNotBegun g.S.Store g.D.Database.finds cluster c.args.settings c.args.moment 16777216 c.args.place.me x))
    c.from_residual-in_err-write_begun.ensures.1
    (not_told cluster c.args.settings c.args.moment 16777216 g.S.Store g.D.Database.finds book floors store a c.args.place.me fault _
    c.in_ok-named.ensures.users begun (works_so g.S.Store store begun.seated.works begun.seated.sound.works) c.in_err-write_begun.ensures.fault)

pub returns-clause-begun : goal.returns-clause-begun
returns-clause-begun g c =
    let cluster = c.args.cluster.now in
    let book = c.in_ok-named.named.users.book in
    let floors = c.in_ok-named.named.users.floors.items in
    let store = c.in_ok-named.store in
    let begun = subst (λ (node : ℕ). IsBegun g.S.Store g.D.Database.finds cluster c.args.settings c.args.moment node book floors store)
    c.me-node.ensures.value c.in_ok-named.ensures.begun in
    has_begun cluster c.args.settings c.args.moment 16777216 g.S.Store g.D.Database.finds book floors store (g.R.Read.remaining c.args.users)
    (g.W.Write.contents c.args.writer.now) (g.W.Write.contents c.write_begun.new.writer) c.args.place c.in_ok-named.ensures.users begun
    c.in_ok-write_begun.ensures.written

use Rattle.std.proofs.Common.{◌∙◌, inl, ap, map, refl, subst}
use Rattle.std.specs.Prelude.{Ok}
use Rattle.oathd_roster.specs.Enrolled.{IsServedText, text_or}
use Rattle.oathd_roster.specs.Opened.{HasOpenedNamed, IsNotOpened}
use Rattle.store_serving.specs.Served.{EndsServingRows}
use Rattle.oathd_roster.specs.declared.fault.RosterFault.{RosterFault}
use Rattle.oathd_roster.specs.declared.fault.RosterFault.TheVariants.{Command}
use Rattle.store_serving.proofs.ServedLemmas.{ends_served, ends_unopened, has_served}
use Rattle.oathd_roster.proofs.UsersLemmas.{err_is, name_in, names_are}
use Rattle.store_serving.proofs.named.serve_named_store.Goals as goal

pub returns-clause-served : goal.returns-clause-served
returns-clause-served g c =
    let serving = c.args.serving in
    let cluster = c.args.cluster.now in
    let users = c.in_ok-named.named.users in
    let found = c.in_ok-named.store in
    let counts = c.in_ok-named.counts in
    let me = c.me-node.ensures.value in
    let opened = subst (λ n. HasOpenedNamed g.S.Store g.D.Database.finds cluster serving.settings c.args.moment n users.book users.floors.items found counts) me c.in_ok-named.ensures.opened in
    let names = ap (map name_in) c.in_ok-named.ensures.entries ∙ names_are cluster.salt users.book in
    let served = text_or c.args.text.now c.in_ok-named.kept in
    let of = subst (λ n. IsServedText g.S.Store cluster serving.settings g.D.Database.finds c.args.moment n c.args.text.now served) me c.in_ok-named.ensures.text in (
      served,
      of,
      has_served g.S.Store g.D.Database.finds cluster c.args.moment serving served users.book users.floors.items c.in_ok-named.ensures.users found counts opened
          (map name_in c.in_ok-named.named.entries.items) names (g.U.Stop.answers c.in_ok-served.served.1) (Ok c.in_ok-served.served.0) c.in_ok-served.ensures.served,
    )

pub returns-in_err-served-clause-fault : goal.returns-in_err-served-clause-fault
returns-in_err-served-clause-fault g c =
    let serving = c.args.serving in
    let cluster = c.args.cluster.now in
    let users = c.in_ok-named.named.users in
    let found = c.in_ok-named.store in
    let counts = c.in_ok-named.counts in
    let me = c.me-node.ensures.value in
    let opened = subst (λ n. HasOpenedNamed g.S.Store g.D.Database.finds cluster serving.settings c.args.moment n users.book users.floors.items found counts) me c.in_ok-named.ensures.opened in
    let names = ap (map name_in) c.in_ok-named.ensures.entries ∙ names_are cluster.salt users.book in
    let fault = c.in_err-served.field-0.0 in
    let served = text_or c.args.text.now c.in_ok-named.kept in
    let of = subst (λ n. IsServedText g.S.Store cluster serving.settings g.D.Database.finds c.args.moment n c.args.text.now served) me c.in_ok-named.ensures.text in
    err_is c.from_residual-in_err-served.result (Command fault)
    (λ (x : RosterFault). EndsServingRows g.S.Store g.D.Database.finds cluster c.args.moment serving x c.args.text.now)
    c.from_residual-in_err-served.ensures.1 (
      served,
      of,
      ends_served g.S.Store g.D.Database.finds cluster c.args.moment serving served users.book users.floors.items c.in_ok-named.ensures.users found counts opened
          (map name_in c.in_ok-named.named.entries.items) names fault c.in_err-served.ensures.fault,
    )

pub returns-in_err-named-clause-fault : goal.returns-in_err-named-clause-fault
returns-in_err-named-clause-fault g c =
    let text = c.args.text.now in
    let fault = c.in_err-named.field-0.0 in
    let unopened = subst (λ n. IsNotOpened g.S.Store g.D.Database.finds c.args.cluster.now c.args.serving.settings c.args.moment 16777216 n fault text)
    c.me-node.ensures.value c.in_err-named.ensures.fault in
    err_is c.from_residual.result fault
    (λ (x : RosterFault). EndsServingRows g.S.Store g.D.Database.finds c.args.cluster.now c.args.moment c.args.serving x text) c.from_residual.ensures.1
    (text, inl refl, ends_unopened g.S.Store g.D.Database.finds c.args.cluster.now c.args.moment c.args.serving fault text unopened)

pub returns-clause-unlogged : goal.returns-clause-unlogged
returns-clause-unlogged g c = λ off. c.in_ok-served.ensures.unlogged off ∙ c.tell_left.ensures.unlogged off

pub returns-in_err-served-clause-unlogged : goal.returns-in_err-served-clause-unlogged
returns-in_err-served-clause-unlogged g c = λ off. c.in_err-served.ensures.unlogged off ∙ c.tell_left.ensures.unlogged off

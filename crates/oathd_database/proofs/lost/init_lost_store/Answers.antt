use Rattle.std.proofs.Common.{◌∙◌, ap, map}
use Rattle.oathd_database.specs.Users.{drifted_floors}
use Rattle.oathd_database.proofs.LostLemmas.{gathered_fit, refused_late, remade, ungathered, unread_users}
use Rattle.oathd_database.proofs.lost.init_lost_store.Goals as goal

pub returns-in-Err-clause-fault : goal.returns-in-Err-clause-fault
returns-in-Err-clause-fault g c =
    unread_users c.args.settings c.args.moment 16777216 c.args.lost (map (λ text. text.items) c.args.texts.now)
    (g.R.Read.remaining c.args.users) c.in-Err.fault c.in-Err.ensures.fault

pub returns-in-Err-lost_floors-clause-fault : goal.returns-in-Err-lost_floors-clause-fault
returns-in-Err-lost_floors-clause-fault g c =
    ungathered c.args.settings c.args.moment 16777216 c.args.lost (map (λ text. text.items) c.args.texts.now) c.in-Ok.users.book
    c.in-Ok.users.floors.items (g.R.Read.remaining c.args.users) c.in-Err-lost_floors.fault c.in-Ok.ensures.imported
    c.in-Err-lost_floors.ensures.fault

pub init_at-requires-clause-tokens : goal.init_at-requires-clause-tokens
init_at-requires-clause-tokens g c =
    gathered_fit _ _ _ c.in-Ok.users.book c.deref.result.now (map (λ text. text.items) c.args.texts.now) c.in-Ok-lost_floors.floors.items
    c.deref-2.result.now c.deref-2.ensures.value c.in-Ok.users.few c.in-Ok-lost_floors.ensures.floors

pub returns-in-Ok-init_at-clause-made : goal.returns-in-Ok-init_at-clause-made
returns-in-Ok-init_at-clause-made g c =
    let book = c.in-Ok.users.book in
    let floors = c.in-Ok.users.floors.items in
    remade c.args.settings c.args.moment 16777216 c.args.lost (map (λ text. text.items) c.args.texts.now) book
    floors g.S.Store g.D.Database.finds (g.R.Read.remaining c.args.users) _ c.in-Ok-init_at.store c.deref.result.now c.in-Ok-lost_floors.floors.items _
    c.in-Ok.ensures.imported c.deref-2.ensures.value
    (c.deref.ensures.value ∙ c.in-Ok-drifted_floors.ensures.floors ∙ ap (λ d. drifted_floors d book floors) c.drift.ensures.value)
    c.in-Ok-lost_floors.ensures.floors c.in-Ok-connect.ensures.found c.in-Ok-init_at.ensures.opening

pub returns-clause-fault : goal.returns-clause-fault
returns-clause-fault g c =
    refused_late c.args.settings c.args.moment 16777216 c.args.lost (map (λ text. text.items) c.args.texts.now) c.in-Ok.users.book
    c.in-Ok.users.floors.items (g.R.Read.remaining c.args.users) c.in-Err-init_at.fault c.in-Ok.ensures.imported

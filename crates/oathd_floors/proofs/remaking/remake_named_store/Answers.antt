use Rattle.std.proofs.Common.{◌≡◌, ◌≢◌, ◌∙◌, ℕ, List, IfSome, Option, None, ap, map, refl, subst, sym}
use Rattle.std.proofs.lemmas.Option.{none-some}
use Rattle.floor_store.specs.declared.fault.StoreFault.{StoreFault}
use Rattle.oathd_database.specs.Fault.{IsOutputFault}
use Rattle.oathd_database.specs.declared.fault.Fault.{Fault}
use Rattle.oathd_database.specs.declared.fault.Fault.TheVariants.{Memory, CannotWrite, NoClock, Users, Store, Socket}
use Rattle.floors_file.specs.Named.{named_value}
use Rattle.floors_file.specs.declared.named.NamedFloors.{NamedFloors}
use Rattle.named_store.specs.Entries.{entries_of}
use Rattle.oathd_database.specs.Lost.{boot_at}
use Rattle.oathd_database.specs.Users.{drifted_floors}
use Rattle.oathd_roster.specs.declared.fault.RosterFault.TheVariants.{Command}
use Rattle.oathd_floors.specs.Remade.{IsGathered, IsNotMadeAgain, IsNotRemade}
use Rattle.oathd_floors.specs.declared.fault.NamedFloorsFault.{NamedFloorsFault}
use Rattle.oathd_floors.specs.declared.fault.NamedFloorsFault.TheVariants.{Roster}
use Rattle.oathd_floors.proofs.FaultLemmas.{err_is}
use Rattle.oathd_floors.proofs.RemadeLemmas.{has_remade, made_found, unmade, untold, works_so}
use Rattle.oathd_floors.proofs.remaking.remake_named_store.Goals as goal

pub returns-in_err-store-clause-fault : goal.returns-in_err-store-clause-fault
returns-in_err-store-clause-fault g c =
    let S = g.S.Store in
    let finds = g.D.Database.finds in
    let cluster = c.args.cluster.now in
    let former = c.args.former in
    let a = g.R.Read.remaining c.args.users in
    let book = c.in_ok-named.named.users.book in
    let next = c.in_ok-named.named.users.floors.items in
    let files = map named_value c.in-Ok-gathered_files.files.items in
    let gathered = subst (λ (n : ℕ). IsGathered c.args.key.now cluster.bond n former files) c.me-node.ensures.value c.in-Ok-gathered_files.ensures.files in
    let fault = c.in_err-store.field-0.0 in
    err_is c.from_residual-in_err-store.result (Roster fault)
    (λ (x : NamedFloorsFault). IfSome a (IsNotRemade S finds cluster c.args.key.now c.args.settings c.args.moment 16777216 c.args.place former x))
    c.from_residual-in_err-store.ensures.1
    (unmade cluster c.args.key.now c.args.settings c.args.moment 16777216 c.args.place former S finds book next a c.in_ok-named.ensures.imported files gathered
    c.deref.result.now fault (c.deref.ensures.value ∙ c.in_ok-named.ensures.entries)
    (subst (λ (l : List NamedFloors). IsNotMadeAgain (map named_value l) c.deref.result.now fault) c.deref-3.ensures.value c.in_err-store.ensures.fault))

pub returns-in_err-write_store-clause-fault : goal.returns-in_err-write_store-clause-fault
returns-in_err-write_store-clause-fault g c =
    let S = g.S.Store in
    let finds = g.D.Database.finds in
    let cluster = c.args.cluster.now in
    let former = c.args.former in
    let a = g.R.Read.remaining c.args.users in
    let book = c.in_ok-named.named.users.book in
    let next = c.in_ok-named.named.users.floors.items in
    let files = map named_value c.in-Ok-gathered_files.files.items in
    let gathered = subst (λ (n : ℕ). IsGathered c.args.key.now cluster.bond n former files) c.me-node.ensures.value c.in-Ok-gathered_files.ensures.files in
    let store = c.in_ok-store.store in
    let made = made_found S finds c.args.place.me (boot_at former.now) cluster.bond c.me-node.result files (map named_value c.deref-3.result.now)
    (entries_of cluster.salt book) c.deref.result.now (drifted_floors c.args.settings.drift book next) c.deref-2.result.now c.in-Ok-connect.conn store
    c.me-node.ensures.value (ap (map named_value) c.deref-3.ensures.value) (c.deref.ensures.value ∙ c.in_ok-named.ensures.entries)
    (c.deref-2.ensures.value ∙ c.in-Ok.ensures.floors ∙ ap (λ d. drifted_floors d book next) c.drift.ensures.value) c.in-Ok-connect.ensures.found
    c.in_ok-store.ensures.made in
    let fault = c.in_err-write_store.field-0.0 in
    err_is c.from_residual-in_err-write_store.result (Roster (Command fault))
    (λ (x : NamedFloorsFault). IfSome a (IsNotRemade S finds cluster c.args.key.now c.args.settings c.args.moment 16777216 c.args.place former x))
    c.from_residual-in_err-write_store.ensures.1
    (untold cluster c.args.key.now c.args.settings c.args.moment 16777216 c.args.place former S finds book next a c.in_ok-named.ensures.imported files gathered
    store made fault _ (works_so S store made.seated.works made.seated.sound.works) c.in_err-write_store.ensures.fault)

pub returns-clause-made : goal.returns-clause-made
returns-clause-made g c =
    let S = g.S.Store in
    let finds = g.D.Database.finds in
    let cluster = c.args.cluster.now in
    let former = c.args.former in
    let a = g.R.Read.remaining c.args.users in
    let book = c.in_ok-named.named.users.book in
    let next = c.in_ok-named.named.users.floors.items in
    let files = map named_value c.in-Ok-gathered_files.files.items in
    let gathered = subst (λ (n : ℕ). IsGathered c.args.key.now cluster.bond n former files) c.me-node.ensures.value c.in-Ok-gathered_files.ensures.files in
    let store = c.in_ok-store.store in
    let made = made_found S finds c.args.place.me (boot_at former.now) cluster.bond c.me-node.result files (map named_value c.deref-3.result.now)
    (entries_of cluster.salt book) c.deref.result.now (drifted_floors c.args.settings.drift book next) c.deref-2.result.now c.in-Ok-connect.conn store
    c.me-node.ensures.value (ap (map named_value) c.deref-3.ensures.value) (c.deref.ensures.value ∙ c.in_ok-named.ensures.entries)
    (c.deref-2.ensures.value ∙ c.in-Ok.ensures.floors ∙ ap (λ d. drifted_floors d book next) c.drift.ensures.value) c.in-Ok-connect.ensures.found
    c.in_ok-store.ensures.made in
    has_remade cluster c.args.key.now c.args.settings c.args.moment 16777216 c.args.place former S finds book next a c.in_ok-named.ensures.imported files gathered
    store made (g.W.Write.contents c.args.writer.now) (g.W.Write.contents c.write_store.new.writer) c.in_ok-write_store.ensures.written

-- a store that works fails to tell by its output alone
output_alone : (fault : Fault) (broken : Option StoreFault) → broken ≡ None → IsOutputFault broken fault → fault ≡ CannotWrite
output_alone Memory broken works is = absurd is
output_alone CannotWrite broken works is = refl
output_alone NoClock broken works is = absurd is
output_alone (Users other) broken works is = absurd is
output_alone (Store other) broken works is = absurd (none-some other (sym works ∙ is))
output_alone Socket broken works is = absurd is

pub returns-in_err-write_store-clause-quiet : goal.returns-in_err-write_store-clause-quiet
returns-in_err-write_store-clause-quiet g c =
    let S = g.S.Store in
    let finds = g.D.Database.finds in
    let cluster = c.args.cluster.now in
    let former = c.args.former in
    let a = g.R.Read.remaining c.args.users in
    let book = c.in_ok-named.named.users.book in
    let next = c.in_ok-named.named.users.floors.items in
    let files = map named_value c.in-Ok-gathered_files.files.items in
    let gathered = subst (λ (n : ℕ). IsGathered c.args.key.now cluster.bond n former files) c.me-node.ensures.value c.in-Ok-gathered_files.ensures.files in
    let store = c.in_ok-store.store in
    let made = made_found S finds c.args.place.me (boot_at former.now) cluster.bond c.me-node.result files (map named_value c.deref-3.result.now)
    (entries_of cluster.salt book) c.deref.result.now (drifted_floors c.args.settings.drift book next) c.deref-2.result.now c.in-Ok-connect.conn store
    c.me-node.ensures.value (ap (map named_value) c.deref-3.ensures.value) (c.deref.ensures.value ∙ c.in_ok-named.ensures.entries)
    (c.deref-2.ensures.value ∙ c.in-Ok.ensures.floors ∙ ap (λ d. drifted_floors d book next) c.drift.ensures.value) c.in-Ok-connect.ensures.found
    c.in_ok-store.ensures.made in
    let fault = c.in_err-write_store.field-0.0 in
    err_is c.from_residual-in_err-write_store.result (Roster (Command fault))
    (λ (x : NamedFloorsFault). x ≢ Roster (Command CannotWrite)
    → g.W.Write.contents c.write_store.new.writer ≡ g.W.Write.contents c.args.writer.now)
    c.from_residual-in_err-write_store.ensures.1
    (λ other. absurd (other (ap (λ (f : Fault). Roster (Command f))
    (output_alone fault _ (works_so S store made.seated.works made.seated.sound.works) c.in_err-write_store.ensures.fault))))

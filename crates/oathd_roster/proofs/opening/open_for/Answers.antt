use Rattle.std.proofs.Common.{◌≡◌, ◌∙◌, refl, rules, subst, sym}
use Rattle.std.proofs.lemmas.List.{length-map}
use Rattle.named_store.specs.Seating.{AreDistinct}
use Rattle.oathd_roster.specs.Opened.{IsNotOpened}
use Rattle.oathd_roster.specs.declared.fault.RosterFault.{RosterFault}
use Rattle.oathd_roster.proofs.EnrolledLemmas.{full_of}
use Rattle.oathd_roster.proofs.OpenedLemmas.{kept_out, opened_for}
use Rattle.oathd_roster.proofs.opening.open_for.Goals as goal

pub returns-else-tokens-clause-opened : goal.returns-else-tokens-clause-opened
returns-else-tokens-clause-opened g c =
    let users = c.args.named.users in
    let store = c.in-Ok-enrol_and_count.store in
    let drifted = c.deref-2.ensures.value ∙ c.in-Ok.ensures.floors in
    let same : c.tokens.result ≡ c.len-tokens.result = search rules in
    let apart = subst AreDistinct c.requires.entries c.args.named.distinct in
    let each = sym (c.tokens.ensures.value ∙ length-map store.seats _) ∙ same ∙ c.len-tokens.ensures.value in
    opened_for g.S.Store c.args.cluster.now c.args.settings c.args.moment c.args.node users.book users.floors.items c.deref.result.now c.deref-2.result.now
    c.args.conn store c.in-Ok-enrol_and_count.counts (c.deref.ensures.value ∙ c.requires.entries) drifted c.in-Ok-enrol_and_count.ensures.opened
    c.in-Ok-enrol_and_count.ensures.counts each apart

pub returns-in-Err-clause-fault : goal.returns-in-Err-clause-fault
returns-in-Err-clause-fault g c = λ text read.
    let users = c.args.named.users in
    let drifted = c.deref-2.ensures.value ∙ c.in-Ok.ensures.floors in
    subst (λ (x : RosterFault). IsNotOpened g.S.Store (λ first. first ≡ c.args.conn) c.args.cluster.now c.args.settings c.args.moment 16777216 c.args.node x text)
    (sym c.from.ensures)
    (kept_out g.S.Store (λ first. first ≡ c.args.conn) c.args.cluster.now c.args.settings c.args.moment 16777216 c.args.node users.book users.floors.items
    c.in-Err.fault c.deref.result.now c.deref-2.result.now c.args.conn c.in-Err.conn text (c.deref.ensures.value ∙ c.requires.entries) drifted
    (λ clean. refl) c.in-Err.ensures.fault c.in-Err.ensures.refused read)

pub returns-in-Err-clause-full : goal.returns-in-Err-clause-full
returns-in-Err-clause-full g c = λ full. c.in-Err.ensures.full (full_of c.in-Err.fault (sym c.from.ensures ∙ full))

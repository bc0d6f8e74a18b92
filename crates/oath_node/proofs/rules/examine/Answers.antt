use Rattle.std.proofs.Common.{◌≡◌, ℕ, ◌-◌, ◌≤◌, List, sym, ap, subst, ◌∙◌, arith}
use Rattle.token_file.specs.Credential.{place_of}
use Rattle.floor_store.specs.Records.{RowRecord}
use Rattle.vote_core.specs.Rows.{row}
use Rattle.oath_node.specs.Recording.{standing_in}
use Rattle.oath_node.specs.Rules.{token_ruling}
use Rattle.oath_node.proofs.FitLemmas.{proposes_less, request_token}
use Rattle.oath_node.proofs.rules.examine.Goals as goal

pub returns-clause-value : goal.returns-clause-value
returns-clause-value g c clean =
    let content = (g.S.FloorStore.held c.args.store.now).content in
    let moment = c.args.moment in
    let r = c.args.request in
    let id = c.in-Some.id in
    let token = c.token.result.now in
    c.token_ruling.ensures.value
    ∙ ap (λ (w : RowRecord). token_ruling c.args.settings w.next w.drift (w.gate.until - moment) moment r id token)
    (c.in-Ok.ensures.ok clean ∙ ap (λ (n : ℕ). row content n) c.value.ensures.value)
    ∙ sym (request_token c.args.book.now c.args.settings (standing_in content c.args.is_full moment) moment r id token
    (omega (arith, c.if-moment-ge-MOMENTS_END.false)) c.if-is_full.false
    (ap (λ (u : List ℕ). place_of u c.args.book.now) (sym c.user.ensures) ∙ sym c.in-Some.ensures.place) c.token.ensures.value)

pub returns-clause-free : goal.returns-clause-free
returns-clause-free g c clean =
    let content = (g.S.FloorStore.held c.args.store.now).content in
    let id = c.in-Some.id in
    let here = c.in-Ok.ensures.ok clean ∙ ap (λ (n : ℕ). row content n) c.value.ensures.value in
    proposes_less c.token_ruling.result (λ t span. (t ≡ id) × (c.in-Ok.row.next ≤ span.lo)) (λ t span. (row content t).next ≤ span.lo)
    (λ t span h. subst (λ (n : ℕ). (row content n).next ≤ span.lo) (sym h.0) (subst (λ (w : RowRecord). w.next ≤ span.lo) here h.1))
    c.token_ruling.ensures.free

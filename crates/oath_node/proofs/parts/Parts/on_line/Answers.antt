use Rattle.std.proofs.Common.{◌≡◌, ℕ, List, ◌∙◌, ap}
use Rattle.client_lines.specs.Request.{without_lf}
use Rattle.oath_node.specs.Machine.{made_by_line, made_by_ruling}
use Rattle.oath_node.specs.Parts.{state_in}
use Rattle.oath_node.specs.declared.ruling.Ruling.{Ruling}
use Rattle.oath_node.proofs.PeerLemmas.{config_of}
use Rattle.oath_node.proofs.StepLemmas.{steps_same}
use Rattle.oath_node.proofs.parts.Parts.on_line.Goals as goal

pub returns : goal.returns
returns g c =
    let held = g.S.FloorStore.held in
    let old = c.args.self.now in
    let x = state_in held old in
    let config = config_of c.args.book.now c.args.settings in
    let bytes = c.args.bytes.now in
    let client = c.args.client in
    let moment = c.args.moment in
    let place = old.voter.place in
    let line = c.without_lf.result.now in
    let ruling = c.rule-ruling.result in
    let now : made_by_ruling place client moment line ruling x ≡ made_by_ruling place client moment (without_lf bytes) ruling x =
    ap (λ (l : List ℕ). made_by_ruling place client moment l ruling x) c.without_lf.ensures in
    steps_same held c.args.key.now old c.on_ruling.new.self (made_by_ruling place client moment line ruling) (made_by_line config place client moment bytes) c.on_ruling.result
    (λ clean. now ∙ ap (λ (r : Ruling). made_by_ruling place client moment (without_lf bytes) r x) (c.rule-ruling.ensures.value clean))
    c.on_ruling.ensures

-- The port of the run has the setup that it began with, and so the translator and the packer.
use Rattle.std.proofs.Common.{◌∙◌, ap, inr, refl, sym, subst}
use Rattle.std.specs.Prelude.{IsSome}
use Rattle.floor_port.specs.Packer.{StartRecord, new_packer}
use Rattle.floor_port.specs.Runs.{at_start}
use Rattle.store_serving.specs.Through.{packer_of, translator_of}
use Rattle.store_serving.proofs.ServedLemmas.{served_under, start_of}
use Rattle.store_serving.proofs.serve.serve_named.Goals as goal

pub returns-clause-turns : goal.returns-clause-turns
returns-clause-turns g c =
    let naming = c.args.naming.now in
    let made = c.in-Ok.ensures in
    let port = c.new-named.result in
    let below = c.new-named.ensures.port in
    let joining = c.new-joining.ensures in
    let run = c.serve_asked.ensures.turns in
    let last = run.1 in
    let same = ap g.P.Port.setup (ap (λ p. p.port.port) below ∙ ap (λ p. p.port) made.0 ∙ joining.port) in
    let lent = c.deref.ensures.value in
    let begun = made.3 ∙ ap (start_of naming.node.gone_back naming.node.known) lent in
    let start = made.2 ∙ ap (λ (s : StartRecord). new_packer naming.key naming.names naming.node.me naming.node.boot naming.node.members s) begun in
    let packed = ap (λ (s : StartRecord). at_start (packer_of naming) s) (sym (ap (λ p. p.calls.start) below ∙ begun)) in
    let served = served_under g.S.FloorStore.held g.U.Attend.acts c.args.node.now c.serve_asked.new.node c.args.turns (g.U.Attend.answers c.serve_asked.new.until.attendant) run.0
    port.translator last.translator (translator_of naming) port.port.packer last.port.packer (packer_of naming) last.port.port.bundler
    port.calls.events last.calls.events last.port.calls.calls last.port.port.calls.calls (g.P.Port.setup port.port.port.port) (g.P.Port.setup last.port.port.port)
    port.port.calls.start last.port.calls.start (g.P.Port.events last.port.port.port) (c.new-named.ensures.translator) refl (c.new-named.ensures.calls)
    (ap (λ p. p.packer) below ∙ start) packed
    (subst IsSome (sym same) c.requires.known) run.2 run.3 last.after last.port.after last.port.port.after in
    inr (run.0, last.port.port.port, served.0, served.1 ∙ same, run.4)

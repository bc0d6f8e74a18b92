use Rattle.std.proofs.Common.{ℕ, ℤ, ◌-◌, ◌≤◌, sym, ap, subst, ◌∙◌, arith}
use Rattle.otp_core.specs.Gate.{GateRecord}
use Rattle.oath_node.specs.Rules.{open_ruling}
use Rattle.oath_node.proofs.FitLemmas.{Suits, token_open, token_suits}
use Rattle.oath_node.proofs.rules.token_ruling.Goals as goal

pub returns-clause-value : goal.returns-clause-value
returns-clause-value c =
    let row = c.args.row in
    let moment = c.args.moment in
    let until = ap (λ (g : GateRecord). g.until) c.gate.ensures in
    let none : row.gate.until - moment ≤ 0 = omega (arith, c.wait-wait.ensures, until, c.if-wait-gt0.false) in
    c.open_ruling.ensures.value
    ∙ ap (λ (n : ℕ). open_ruling c.args.settings n c.drift.result moment c.args.request c.args.id c.args.token.now) c.next.ensures
    ∙ ap (λ (d : ℤ). open_ruling c.args.settings row.next d moment c.args.request c.args.id c.args.token.now) c.drift.ensures
    ∙ sym (token_open c.args.settings row.next row.drift (row.gate.until - moment) moment c.args.request c.args.id c.args.token.now none)

pub returns-clause-free : goal.returns-clause-free
returns-clause-free c =
    let row = c.args.row in
    subst (Suits c.args.id row.next) (sym (returns-clause-value c))
    (token_suits c.least_fit_is_least.ensures.some c.args.settings row.next row.drift (row.gate.until - c.args.moment) c.args.moment c.args.request c.args.id c.args.token.now)

use Rattle.std.proofs.Common.{◌∷◌, ◌∙◌, ℕ, List, sym, ap}
use Rattle.node_reports.specs.Text.{lines_of}
use Rattle.node_reports.proofs.TextLemmas.{is_cut, lines_cut}
use Rattle.node_reports.proofs.text.first_line.Goals as goal

pub returns-clause-some : goal.returns-clause-some
returns-clause-some c =
    let text = c.args.text.now in
    let line = c.in_ok-behind.field-0-0.now in
    let behind = c.in_ok-behind.behind.now in
    lines_cut text line behind c.in_ok-behind.ensures.some
    ∙ ap (λ (first : List ℕ). first ∷ lines_of behind) (sym (is_cut text line behind c.in_ok-behind.ensures.halves).first)

pub returns-clause-parts : goal.returns-clause-parts
returns-clause-parts c = (is_cut c.args.text.now c.in_ok-behind.field-0-0.now c.in_ok-behind.behind.now c.in_ok-behind.ensures.halves).whole

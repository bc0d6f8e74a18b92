use Rattle.std.proofs.Common.{◌<◌, length, sym, ap, subst, ◌∙◌}
use Rattle.floors_file.specs.NamedRows.{HasPlaces, raised_at}
use Rattle.floors_file.proofs.NamedRowsLemmas.{has_places_raised, raised_so}
use Rattle.floors_file.proofs.named_rows.NamedRows.raise.Goals as goal

pub invariant_of-self : goal.invariant_of-self
invariant_of-self c =
    let rows = c.self.inside.rows.items in
    let low : c.args.place < length rows = subst (λ l. c.args.place < length l) (sym c.self.view_is) c.requires in
    let is = raised_so rows c.args.place c.args.next c.greater.result c.index-row.result.now low c.index-row.ensures c.greater.ensures in
    subst (λ l. HasPlaces l c.self.inside.index) (sym is) (has_places_raised rows c.args.place c.args.next c.self.inside.index c.self.invariant)

pub returns : goal.returns
returns c =
    let rows = c.self.inside.rows.items in
    let low : c.args.place < length rows = subst (λ l. c.args.place < length l) (sym c.self.view_is) c.requires in
    raised_so rows c.args.place c.args.next c.greater.result c.index-row.result.now low c.index-row.ensures c.greater.ensures
    ∙ ap (raised_at c.args.place c.args.next) c.self.view_is

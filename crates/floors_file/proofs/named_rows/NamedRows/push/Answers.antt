use Rattle.std.proofs.Common.{◌≡◌, [], ◌∷◌, ◌++◌, None, sym, subst, arith}
use Rattle.floors_file.specs.NamedRows.{HasPlaces, place_of_name}
use Rattle.floors_file.proofs.NamedRowsLemmas.{has_places_pushed}
use Rattle.floors_file.proofs.named_rows.NamedRows.push.Goals as goal

pub invariant_of-self-in-Ok : goal.invariant_of-self-in-Ok
invariant_of-self-in-Ok c =
    let old = c.self.inside.rows.items in
    let items : c.push.new.self.items ≡ old ++ c.args.row ∷ [] = c.in_ok-push.ensures.items in
    let free : place_of_name c.args.row.name old ≡ None = subst (λ rows. place_of_name c.args.row.name rows ≡ None) (sym c.self.view_is) c.requires in
    subst (λ rows. HasPlaces rows c.insert.new.self) (sym items)
    (has_places_pushed old c.args.row c.self.inside.index c.insert.new.self c.bytes-name.result c.len-place.result c.self.invariant c.bytes-name.ensures
    (omega (arith, c.len-place.ensures, c.self.inside.rows.ok.0)) free c.in-Ok.ensures.updates)

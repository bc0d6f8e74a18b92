-- Own seats show the store below.
use Rattle.std.proofs.Common.{ℕ, ap, ◌∙◌, sym}
use Rattle.seated_store.specs.Seats.{seated_content}
use Rattle.seated_store.specs.Places.{own_seats}
use Rattle.seated_store.proofs.PlaceLemmas.{own_content, own_rows, own_seats_are}
use Rattle.seated_store.proofs.laws.places_are_the_store.Goals as goal

pub returns-clause-seats : goal.returns-clause-seats
returns-clause-seats g c tokens = own_seats_are tokens

pub returns-clause-rows : goal.returns-clause-rows
returns-clause-rows g c rows = own_rows rows

pub returns-clause-content : goal.returns-clause-content
returns-clause-content g c content has = own_content content has

pub returns-clause-held : goal.returns-clause-held
returns-clause-held g c store has = own_content _ has

pub returns-clause-leaves : goal.returns-clause-leaves
returns-clause-leaves g c store left same has leaves =
    (left, leaves, sym (ap (λ (n : ℕ). seated_content (own_seats n) left) (sym same) ∙ own_content left has))

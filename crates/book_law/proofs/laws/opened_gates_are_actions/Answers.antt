-- It is a lemma.
use Rattle.std.proofs.Common.{refl}
use Rattle.std.specs.Prelude.{Ok}
use Rattle.seated_store.specs.Seated.{seated_held}
use Rattle.book_law.proofs.Operators.{call_acts, stop_acts}
use Rattle.book_law.proofs.laws.opened_gates_are_actions.Goals as goal

pub returns-clause-opened : goal.returns-clause-opened
returns-clause-opened g c = λ setting event place terms found waiting old new number token value fits seat unlocks clean.
    call_acts (seated_held g.S.FloorStore.held) setting event place terms found waiting old new number token (Ok value) fits seat unlocks clean value refl

pub returns-clause-cut : goal.returns-clause-cut
returns-clause-cut g c = λ setting event place terms found waiting old new number token result content fits seat settled unlocks clean leaves.
    stop_acts (seated_held g.S.FloorStore.held) setting event place terms found waiting old new number token result fits seat unlocks clean settled content leaves

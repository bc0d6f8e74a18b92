use Rattle.book_law.proofs.Writes.{half_opens}
use Rattle.book_law.proofs.write_laws.cut_openings_are_actions.Goals as goal

pub returns : goal.returns
returns g c = λ setting event node names store left result content r settled leaves count. half_opens g.S.FloorStore.held setting event node names store left result content r settled leaves count

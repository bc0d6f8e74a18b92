use Rattle.token_file.proofs.BookLemmas.{place_is_answer}
use Rattle.token_file.proofs.book.Book.find.Goals as goal

pub returns : goal.returns
returns c =
    let a = place_is_answer c.args.name.now c.args.self.now c.look_up.result c.look_up.ensures in
    record { place = c.look_up.ensures; within = a.within; found = a.found; none = a.none }

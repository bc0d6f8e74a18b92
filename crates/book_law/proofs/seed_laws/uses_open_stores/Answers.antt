-- The clause is a lemma.
use Rattle.book_law.proofs.Openings.{open_greatest}
use Rattle.book_law.proofs.seed_laws.uses_open_stores.Goals as goal

pub returns : goal.returns
returns c = λ seed setting uses history are is known. open_greatest seed setting uses history are is known

-- Each clause is a lemma.
use Rattle.book_law.proofs.Recorded.{offers, replies_are_true}
use Rattle.book_law.proofs.Told.{answer_truly}
use Rattle.book_law.proofs.Uses.{stores}
use Rattle.book_law.proofs.laws.histories_keep_uses.Goals as goal

pub returns-clause-stores : goal.returns-clause-stores
returns-clause-stores c = stores

pub returns-clause-offers : goal.returns-clause-offers
returns-clause-offers c = offers

pub returns-clause-told : goal.returns-clause-told
returns-clause-told c = λ setting uses history node i client bytes are is member at ok.
    replies_are_true setting uses history node i client bytes are is member (answer_truly c.rulings_have_grounds.ensures.grounds setting history) at ok

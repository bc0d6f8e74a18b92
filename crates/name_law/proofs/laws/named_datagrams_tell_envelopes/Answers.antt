-- Each clause is a lemma.
use Rattle.name_law.proofs.Datagrams.{elsewhere_law, handed_law, offers_named, older_law, read_law, same_law}
use Rattle.name_law.proofs.laws.named_datagrams_tell_envelopes.Goals as goal

pub returns-clause-offered : goal.returns-clause-offered
returns-clause-offered c = offers_named

pub returns-clause-handed : goal.returns-clause-handed
returns-clause-handed c = λ names node boot terms translator sealed is can. handed_law names node terms translator boot sealed is can

pub returns-clause-older : goal.returns-clause-older
returns-clause-older c = λ names node boot from terms translator sealed is can. older_law names node terms translator boot sealed is can from

pub returns-clause-elsewhere : goal.returns-clause-elsewhere
returns-clause-elsewhere c = λ names node boot from terms translator sealed is can. elsewhere_law names node terms translator boot sealed is can from

pub returns-clause-read : goal.returns-clause-read
returns-clause-read c = read_law

pub returns-clause-same : goal.returns-clause-same
returns-clause-same c = same_law

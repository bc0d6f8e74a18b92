use Rattle.replay_window.proofs.OnceLemmas.{boots_law, handed_law}
use Rattle.replay_window.proofs.laws.boots_are_one.Goals as goal

pub returns-clause-once : goal.returns-clause-once
returns-clause-once c = boots_law

pub returns-clause-handed : goal.returns-clause-handed
returns-clause-handed c = handed_law

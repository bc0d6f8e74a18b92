use Rattle.replay_window.proofs.OnceLemmas.{above_law, once_law}
use Rattle.replay_window.proofs.laws.once_is_enough.Goals as goal

pub returns-clause-once : goal.returns-clause-once
returns-clause-once c = once_law

pub returns-clause-above : goal.returns-clause-above
returns-clause-above c = above_law

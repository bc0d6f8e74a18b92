use Rattle.replay_window.proofs.OnceLemmas.{latest_law, mark_law}
use Rattle.replay_window.proofs.laws.latest_is_a_bound.Goals as goal

pub returns-clause-admitted : goal.returns-clause-admitted
returns-clause-admitted c = latest_law

pub returns-clause-mark : goal.returns-clause-mark
returns-clause-mark c = mark_law

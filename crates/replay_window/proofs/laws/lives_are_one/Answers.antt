use Rattle.replay_window.proofs.OnceLemmas.{lives_law}
use Rattle.replay_window.proofs.laws.lives_are_one.Goals as goal

pub returns : goal.returns
returns c = lives_law

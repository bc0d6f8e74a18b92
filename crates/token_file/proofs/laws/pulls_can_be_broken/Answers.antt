-- The pull that fails has lost one byte.
use Rattle.std.proofs.Common.{[], ◌∷◌, refl}
use Rattle.token_file.proofs.laws.pulls_can_be_broken.Goals as goal

pub returns-clause-pull_fails : goal.returns-clause-pull_fails
returns-clause-pull_fails c = (5 ∷ [], refl)

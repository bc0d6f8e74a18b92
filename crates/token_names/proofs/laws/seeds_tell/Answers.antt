use Rattle.token_names.proofs.SeedLemmas.{same_device}
use Rattle.token_names.proofs.laws.seeds_tell.Goals as goal

pub returns : goal.returns
returns c salt a b h k differ same = record { different = λ e. differ (same_device a b h k e); same = same }

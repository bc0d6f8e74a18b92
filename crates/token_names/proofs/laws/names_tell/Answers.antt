use Rattle.token_names.proofs.IdentityLemmas.{same_token}
use Rattle.token_names.proofs.laws.names_tell.Goals as goal

pub returns : goal.returns
returns c salt a b h k differ same = record { different = λ e. differ (same_token a b h k e); same = same }

use Rattle.token_names.proofs.IdentityLemmas.{same_token}
use Rattle.token_names.proofs.laws.identities_tell.Goals as goal

pub returns : goal.returns
returns c = same_token

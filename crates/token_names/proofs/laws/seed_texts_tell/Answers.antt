use Rattle.token_names.proofs.SeedLemmas.{same_device}
use Rattle.token_names.proofs.laws.seed_texts_tell.Goals as goal

pub returns : goal.returns
returns c = same_device

use Rattle.token_names.proofs.SeedLemmas.{is_no_identity}
use Rattle.token_names.proofs.laws.seeds_are_no_names.Goals as goal

pub returns-clause-texts : goal.returns-clause-texts
returns-clause-texts c = is_no_identity

pub returns-clause-names : goal.returns-clause-names
returns-clause-names c salt a b same = record { different = is_no_identity a b; same = same }

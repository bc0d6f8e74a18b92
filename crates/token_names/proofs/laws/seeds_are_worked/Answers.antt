-- The digits of a secret and two MACs are computed.
use Rattle.std.proofs.Common.{refl}
use Rattle.hex.specs.Hex.{encode_with}
use Rattle.hmac_core.specs.Unfolded.sha256_steps
use Rattle.token_names.specs.Names.{short_mac}
use Rattle.token_names.proofs.laws.seeds_are_worked.Goals as goal

pub returns-clause-event : goal.returns-clause-event
unfolding encode_with
returns-clause-event c = refl

pub returns-clause-long_secret : goal.returns-clause-long_secret
unfolding encode_with
returns-clause-long_secret c = refl

pub returns-clause-with_password : goal.returns-clause-with_password
unfolding encode_with
returns-clause-with_password c = refl

pub returns-clause-seed : goal.returns-clause-seed
unfolding short_mac encode_with sha256_steps.first_words sha256_steps.schedule sha256_steps.rounds sha256_steps.compress sha256_steps.hash_after sha256_steps.digest_bytes sha256_steps.sha256
returns-clause-seed c = refl

pub returns-clause-seed_of_another_kind : goal.returns-clause-seed_of_another_kind
unfolding short_mac encode_with sha256_steps.first_words sha256_steps.schedule sha256_steps.rounds sha256_steps.compress sha256_steps.hash_after sha256_steps.digest_bytes sha256_steps.sha256
returns-clause-seed_of_another_kind c = refl

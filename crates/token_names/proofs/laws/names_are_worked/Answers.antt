-- A MAC is computed.
use Rattle.std.proofs.Common.{refl}
use Rattle.hex.specs.Hex.{encode_with}
use Rattle.hmac_core.specs.Unfolded.sha256_steps
use Rattle.token_names.specs.Names.{short_mac}
use Rattle.token_names.proofs.laws.names_are_worked.Goals as goal

pub returns-clause-name : goal.returns-clause-name
unfolding short_mac encode_with sha256_steps.first_words sha256_steps.schedule sha256_steps.rounds sha256_steps.compress sha256_steps.hash_after sha256_steps.digest_bytes sha256_steps.sha256
returns-clause-name c = refl

-- A MAC is computed, and texts without one are refused whatever it is.
use Rattle.std.proofs.Common.{refl}
use Rattle.hex.specs.Hex.{encode_with}
use Rattle.hmac_core.specs.Unfolded.sha256_steps
use Rattle.floors_file.specs.Sealed.{mac_digits}
use Rattle.floors_file.proofs.NamedSpellingLemmas.{body_back}
use Rattle.floors_file.proofs.named_laws.macs_of_floors_are_worked.Goals as goal

pub returns-clause-opened : goal.returns-clause-opened
returns-clause-opened c = λ key body. body_back key body

pub returns-clause-digits : goal.returns-clause-digits
unfolding mac_digits encode_with sha256_steps.first_words sha256_steps.schedule sha256_steps.rounds sha256_steps.compress sha256_steps.hash_after sha256_steps.digest_bytes sha256_steps.sha256
returns-clause-digits c = refl

pub returns-clause-no_text : goal.returns-clause-no_text
returns-clause-no_text c = λ key. refl

pub returns-clause-no_mac : goal.returns-clause-no_mac
returns-clause-no_mac c = λ key. refl

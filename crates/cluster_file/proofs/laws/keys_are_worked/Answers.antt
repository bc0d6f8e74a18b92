-- Each case is computed.
use Rattle.std.proofs.Common.{refl}
use Rattle.std.specs.Fmt.{digits}
use Rattle.hex.specs.Hex.{encode_with}
use Rattle.hmac_core.specs.Unfolded.sha256_steps
use Rattle.cluster_file.specs.Address.{address_text}
use Rattle.cluster_file.specs.Shared.{book_text, member_line, settings_text, word_line}
use Rattle.cluster_file.proofs.laws.keys_are_worked.Goals as goal

pub returns-clause-text : goal.returns-clause-text
unfolding digits word_line member_line settings_text book_text address_text encode_with sha256_steps.first_words sha256_steps.schedule sha256_steps.rounds sha256_steps.compress sha256_steps.hash_after sha256_steps.digest_bytes sha256_steps.sha256
returns-clause-text c = refl

pub returns-clause-key : goal.returns-clause-key
unfolding digits word_line member_line settings_text book_text address_text encode_with sha256_steps.first_words sha256_steps.schedule sha256_steps.rounds sha256_steps.compress sha256_steps.hash_after sha256_steps.digest_bytes sha256_steps.sha256
returns-clause-key c = refl

pub returns-clause-fingerprint : goal.returns-clause-fingerprint
unfolding digits word_line member_line settings_text book_text address_text encode_with sha256_steps.first_words sha256_steps.schedule sha256_steps.rounds sha256_steps.compress sha256_steps.hash_after sha256_steps.digest_bytes sha256_steps.sha256
returns-clause-fingerprint c = refl

pub returns-clause-named_text : goal.returns-clause-named_text
unfolding digits word_line member_line settings_text book_text address_text encode_with sha256_steps.first_words sha256_steps.schedule sha256_steps.rounds sha256_steps.compress sha256_steps.hash_after sha256_steps.digest_bytes sha256_steps.sha256
returns-clause-named_text c = refl

pub returns-clause-any_book : goal.returns-clause-any_book
returns-clause-any_book c = λ book. refl

pub returns-clause-fresh_is_not_shared : goal.returns-clause-fresh_is_not_shared
returns-clause-fresh_is_not_shared c = λ cluster book. refl

pub returns-clause-named_key : goal.returns-clause-named_key
unfolding digits word_line member_line settings_text book_text address_text encode_with sha256_steps.first_words sha256_steps.schedule sha256_steps.rounds sha256_steps.compress sha256_steps.hash_after sha256_steps.digest_bytes sha256_steps.sha256
returns-clause-named_key c = refl

pub returns-clause-named_fingerprint : goal.returns-clause-named_fingerprint
unfolding digits word_line member_line settings_text book_text address_text encode_with sha256_steps.first_words sha256_steps.schedule sha256_steps.rounds sha256_steps.compress sha256_steps.hash_after sha256_steps.digest_bytes sha256_steps.sha256
returns-clause-named_fingerprint c = refl

pub returns-clause-all_rows : goal.returns-clause-all_rows
returns-clause-all_rows c = refl

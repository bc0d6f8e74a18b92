-- Each case is computed.
use Rattle.std.proofs.Common.{ℕ, List, ◌++◌, ◌∙◌, codes, refl, ap, append-nil}
use Rattle.std.specs.Fmt.{digits}
use Rattle.hex.specs.Hex.{encode_with}
use Rattle.hmac_core.specs.Unfolded.sha256_steps
use Rattle.vote_wire.specs.Key.{tag_of}
use Rattle.cluster_file.specs.Address.{address_text}
use Rattle.cluster_file.specs.Check.{count_line, counts_text}
use Rattle.cluster_file.specs.Shared.{book_text, member_line, settings_text, word_line}
use Rattle.cluster_file.proofs.laws.checks_are_worked.Goals as goal

pub returns-clause-summary : goal.returns-clause-summary
unfolding digits word_line member_line settings_text count_line counts_text address_text
returns-clause-summary c = refl

pub returns-clause-check : goal.returns-clause-check
unfolding digits word_line member_line settings_text count_line counts_text book_text address_text encode_with sha256_steps.first_words sha256_steps.schedule sha256_steps.rounds sha256_steps.compress sha256_steps.hash_after sha256_steps.digest_bytes sha256_steps.sha256
returns-clause-check c = refl

pub returns-clause-without_names : goal.returns-clause-without_names
returns-clause-without_names c = λ cluster book fingerprint print none.
    rw none (append-nil _ ∙ ap (λ (text : List ℕ). text ++ word_line (codes "fingerprint") fingerprint) (append-nil _))

pub returns-clause-shared_with_names : goal.returns-clause-shared_with_names
unfolding digits word_line member_line settings_text count_line counts_text book_text address_text encode_with tag_of sha256_steps.first_words sha256_steps.schedule sha256_steps.rounds sha256_steps.compress sha256_steps.hash_after sha256_steps.digest_bytes sha256_steps.sha256
returns-clause-shared_with_names c = refl

pub returns-clause-named : goal.returns-clause-named
unfolding digits word_line member_line settings_text count_line counts_text book_text address_text encode_with tag_of sha256_steps.first_words sha256_steps.schedule sha256_steps.rounds sha256_steps.compress sha256_steps.hash_after sha256_steps.digest_bytes sha256_steps.sha256
returns-clause-named c = refl

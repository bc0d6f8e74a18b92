-- Each case is computed.
use Rattle.std.proofs.Common.{refl}
use Rattle.hex.specs.Hex.{decode_pairs}
use Rattle.token_file.proofs.laws.rows_are_worked.Goals as goal

pub returns-clause-event_types : goal.returns-clause-event_types
returns-clause-event_types c = refl

pub returns-clause-types_of_30 : goal.returns-clause-types_of_30
returns-clause-types_of_30 c = refl

pub returns-clause-types_of_60 : goal.returns-clause-types_of_60
returns-clause-types_of_60 c = refl

pub returns-clause-no_types : goal.returns-clause-no_types
returns-clause-no_types c = refl

pub returns-clause-fields : goal.returns-clause-fields
returns-clause-fields c = refl

pub returns-clause-lines : goal.returns-clause-lines
returns-clause-lines c = refl

pub returns-clause-ignored : goal.returns-clause-ignored
unfolding decode_pairs
returns-clause-ignored c = refl

pub returns-clause-missing : goal.returns-clause-missing
unfolding decode_pairs
returns-clause-missing c = refl

pub returns-clause-counters : goal.returns-clause-counters
unfolding decode_pairs
returns-clause-counters c = refl

pub returns-clause-no_counters : goal.returns-clause-no_counters
unfolding decode_pairs
returns-clause-no_counters c = refl

pub returns-clause-time_tokens : goal.returns-clause-time_tokens
unfolding decode_pairs
returns-clause-time_tokens c = refl

pub returns-clause-passwords : goal.returns-clause-passwords
returns-clause-passwords c = refl

pub returns-clause-whole : goal.returns-clause-whole
unfolding decode_pairs
returns-clause-whole c = refl

pub returns-clause-long_words : goal.returns-clause-long_words
unfolding decode_pairs
returns-clause-long_words c = refl

pub returns-clause-secrets : goal.returns-clause-secrets
unfolding decode_pairs
returns-clause-secrets c = refl

pub returns-clause-first_faults : goal.returns-clause-first_faults
unfolding decode_pairs
returns-clause-first_faults c = refl

pub returns-clause-marks : goal.returns-clause-marks
returns-clause-marks c = refl

pub returns-clause-hashes : goal.returns-clause-hashes
returns-clause-hashes c = refl

pub returns-clause-periods : goal.returns-clause-periods
returns-clause-periods c = refl

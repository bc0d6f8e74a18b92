-- Each case is computed.
use Rattle.std.proofs.Common.{refl}
use Rattle.std.specs.Fmt.{digits}
use Rattle.hex.specs.Hex.{decode_pairs, encode_with}
use Rattle.floors_file.specs.NamedWriting.{heard_text, named_head_text, named_row_text}
use Rattle.floors_file.proofs.named_laws.named_files_are_worked.Goals as goal

pub returns-clause-row : goal.returns-clause-row
unfolding digits encode_with named_row_text
returns-clause-row c = refl

pub returns-clause-two : goal.returns-clause-two
unfolding decode_pairs encode_with
returns-clause-two c = refl

pub returns-clause-written : goal.returns-clause-written
unfolding digits encode_with heard_text named_head_text named_row_text
returns-clause-written c = refl

pub returns-clause-no_rows : goal.returns-clause-no_rows
returns-clause-no_rows c = refl

pub returns-clause-ends : goal.returns-clause-ends
returns-clause-ends c = refl

pub returns-clause-not_floors : goal.returns-clause-not_floors
returns-clause-not_floors c = refl

pub returns-clause-version : goal.returns-clause-version
returns-clause-version c = refl

pub returns-clause-missing : goal.returns-clause-missing
returns-clause-missing c = refl

pub returns-clause-surplus : goal.returns-clause-surplus
returns-clause-surplus c = refl

pub returns-clause-names_word : goal.returns-clause-names_word
returns-clause-names_word c = refl

pub returns-clause-range : goal.returns-clause-range
returns-clause-range c = refl

pub returns-clause-most_rows : goal.returns-clause-most_rows
returns-clause-most_rows c = refl

pub returns-clause-life : goal.returns-clause-life
returns-clause-life c = refl

pub returns-clause-names : goal.returns-clause-names
unfolding decode_pairs encode_with
returns-clause-names c = refl

pub returns-clause-rows : goal.returns-clause-rows
unfolding decode_pairs encode_with
returns-clause-rows c = refl

pub returns-clause-row_faults : goal.returns-clause-row_faults
unfolding decode_pairs encode_with
returns-clause-row_faults c = refl

pub returns-clause-no_name : goal.returns-clause-no_name
unfolding decode_pairs encode_with
returns-clause-no_name c = refl

pub returns-clause-missing_fields : goal.returns-clause-missing_fields
unfolding decode_pairs encode_with
returns-clause-missing_fields c = refl

pub returns-clause-seeds : goal.returns-clause-seeds
unfolding decode_pairs encode_with
returns-clause-seeds c = refl

pub returns-clause-no_seed : goal.returns-clause-no_seed
unfolding decode_pairs encode_with
returns-clause-no_seed c = refl

pub returns-clause-twice : goal.returns-clause-twice
unfolding decode_pairs encode_with
returns-clause-twice c = refl

pub returns-clause-range_before_twice : goal.returns-clause-range_before_twice
unfolding decode_pairs encode_with
returns-clause-range_before_twice c = refl

pub returns-clause-too_few : goal.returns-clause-too_few
unfolding decode_pairs encode_with
returns-clause-too_few c = refl

pub returns-clause-too_many : goal.returns-clause-too_many
returns-clause-too_many c = refl

pub returns-clause-heard : goal.returns-clause-heard
returns-clause-heard c = refl

pub returns-clause-heard_faults : goal.returns-clause-heard_faults
returns-clause-heard_faults c = refl

pub returns-clause-not_ascending : goal.returns-clause-not_ascending
returns-clause-not_ascending c = refl

pub returns-clause-no_end : goal.returns-clause-no_end
unfolding decode_pairs encode_with
returns-clause-no_end c = refl

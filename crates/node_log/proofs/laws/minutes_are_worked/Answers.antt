-- Each case is computed.
use Rattle.std.proofs.Common.{refl}
use Rattle.std.specs.Fmt.{digits}
use Rattle.hex.specs.Hex.{encode_with}
use Rattle.node_log.specs.Differing.{differing_text}
use Rattle.node_log.specs.Members.{member_line}
use Rattle.node_log.specs.Minute.{causes_text, fell_line, numbered, older_line, token_text, unopened_line}
use Rattle.node_log.proofs.laws.minutes_are_worked.Goals as goal

pub returns-clause-line : goal.returns-clause-line
unfolding digits numbered causes_text unopened_line
returns-clause-line c = refl

pub returns-clause-words : goal.returns-clause-words
unfolding digits numbered causes_text unopened_line
returns-clause-words c = refl

pub returns-clause-told : goal.returns-clause-told
unfolding digits numbered causes_text unopened_line differing_text
returns-clause-told c = refl

pub returns-clause-older : goal.returns-clause-older
unfolding digits older_line
returns-clause-older c = refl

pub returns-clause-both : goal.returns-clause-both
unfolding digits numbered causes_text older_line unopened_line differing_text
returns-clause-both c = refl

pub returns-clause-nobody_differs : goal.returns-clause-nobody_differs
unfolding differing_text
returns-clause-nobody_differs c = refl

pub returns-clause-differs : goal.returns-clause-differs
unfolding digits member_line differing_text
returns-clause-differs c = refl

pub returns-clause-no_member : goal.returns-clause-no_member
unfolding differing_text
returns-clause-no_member c = refl

pub returns-clause-two_differ : goal.returns-clause-two_differ
unfolding digits member_line differing_text
returns-clause-two_differ c = refl

pub returns-clause-all : goal.returns-clause-all
unfolding digits encode_with numbered causes_text older_line token_text fell_line unopened_line member_line differing_text
returns-clause-all c = refl

pub returns-clause-fell : goal.returns-clause-fell
unfolding digits encode_with token_text fell_line
returns-clause-fell c = refl

pub returns-clause-fell_alone : goal.returns-clause-fell_alone
unfolding digits encode_with token_text fell_line unopened_line differing_text
returns-clause-fell_alone c = refl

pub returns-clause-differs_alone : goal.returns-clause-differs_alone
unfolding digits unopened_line member_line differing_text
returns-clause-differs_alone c = refl

-- Each case is computed.
use Rattle.std.proofs.Common.{refl}
use Rattle.std.specs.Fmt.{digits}
use Rattle.log_writer.specs.Waiting.{dropped_text}
use Rattle.log_writer.proofs.laws.faults_are_worked.Goals as goal

pub returns-clause-well : goal.returns-clause-well
unfolding digits dropped_text
returns-clause-well c = refl

pub returns-clause-one : goal.returns-clause-one
unfolding digits dropped_text
returns-clause-one c = refl

pub returns-clause-cut : goal.returns-clause-cut
unfolding digits dropped_text
returns-clause-cut c = refl

pub returns-clause-before_end : goal.returns-clause-before_end
unfolding digits dropped_text
returns-clause-before_end c = refl

pub returns-clause-nothing : goal.returns-clause-nothing
unfolding digits dropped_text
returns-clause-nothing c = refl

pub returns-clause-told : goal.returns-clause-told
unfolding digits dropped_text
returns-clause-told c = refl

pub returns-clause-told_cut : goal.returns-clause-told_cut
unfolding digits dropped_text
returns-clause-told_cut c = refl

pub returns-clause-again : goal.returns-clause-again
unfolding digits dropped_text
returns-clause-again c = refl

pub returns-clause-again_cut : goal.returns-clause-again_cut
unfolding digits dropped_text
returns-clause-again_cut c = refl

pub returns-clause-again_one : goal.returns-clause-again_one
unfolding digits dropped_text
returns-clause-again_one c = refl

pub returns-clause-still : goal.returns-clause-still
unfolding digits dropped_text
returns-clause-still c = refl

pub returns-clause-ended : goal.returns-clause-ended
unfolding digits dropped_text
returns-clause-ended c = refl

pub returns-clause-cut_again : goal.returns-clause-cut_again
unfolding digits dropped_text
returns-clause-cut_again c = refl

pub returns-clause-begun : goal.returns-clause-begun
unfolding digits dropped_text
returns-clause-begun c = refl

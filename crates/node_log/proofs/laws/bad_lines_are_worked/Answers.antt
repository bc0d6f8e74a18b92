-- Each case is computed.
use Rattle.std.proofs.Common.{refl}
use Rattle.std.specs.Fmt.{digits}
use Rattle.node_log.specs.BadLines.{more_line}
use Rattle.node_log.specs.Members.{member_line}
use Rattle.node_log.proofs.laws.bad_lines_are_worked.Goals as goal

pub returns-clause-more : goal.returns-clause-more
unfolding digits more_line member_line
returns-clause-more c = refl

pub returns-clause-with_silence : goal.returns-clause-with_silence
unfolding digits more_line member_line
returns-clause-with_silence c = refl

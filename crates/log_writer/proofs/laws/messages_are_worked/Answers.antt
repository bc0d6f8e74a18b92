-- Each case is computed.
use Rattle.std.proofs.Common.{refl}
use Rattle.std.specs.Fmt.{digits}
use Rattle.log_writer.proofs.laws.messages_are_worked.Goals as goal

pub returns-clause-lost : goal.returns-clause-lost
unfolding digits
returns-clause-lost c = refl

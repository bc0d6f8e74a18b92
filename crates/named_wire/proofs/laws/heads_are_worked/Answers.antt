-- Each case is computed.
use Rattle.std.proofs.Common.{refl}
use Rattle.named_wire.specs.Head.{head_at}
use Rattle.named_wire.proofs.laws.heads_are_worked.Goals as goal

pub returns-clause-read : goal.returns-clause-read
unfolding head_at
returns-clause-read c = refl

pub returns-clause-longest : goal.returns-clause-longest
unfolding head_at
returns-clause-longest c = refl

pub returns-clause-too_long : goal.returns-clause-too_long
unfolding head_at
returns-clause-too_long c = refl

pub returns-clause-too_short : goal.returns-clause-too_short
unfolding head_at
returns-clause-too_short c = refl

pub returns-clause-mark_0 : goal.returns-clause-mark_0
unfolding head_at
returns-clause-mark_0 c = refl

pub returns-clause-mark_1 : goal.returns-clause-mark_1
unfolding head_at
returns-clause-mark_1 c = refl

pub returns-clause-version : goal.returns-clause-version
unfolding head_at
returns-clause-version c = refl

pub returns-clause-kind : goal.returns-clause-kind
unfolding head_at
returns-clause-kind c = refl

pub returns-clause-from : goal.returns-clause-from
unfolding head_at
returns-clause-from c = refl

pub returns-clause-to : goal.returns-clause-to
unfolding head_at
returns-clause-to c = refl

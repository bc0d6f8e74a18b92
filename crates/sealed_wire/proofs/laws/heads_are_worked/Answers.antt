-- Each case is computed.
use Rattle.std.proofs.Common.{refl}
use Rattle.sealed_wire.specs.Body.{head_at}
use Rattle.sealed_wire.proofs.laws.heads_are_worked.Goals as goal

pub returns-clause-read : goal.returns-clause-read
unfolding head_at
returns-clause-read c = refl

pub returns-clause-longest : goal.returns-clause-longest
unfolding head_at
returns-clause-longest c = refl

pub returns-clause-too_long : goal.returns-clause-too_long
unfolding head_at
returns-clause-too_long c = refl

pub returns-clause-too_short : goal.returns-clause-too_short
unfolding head_at
returns-clause-too_short c = refl

pub returns-clause-mark_0 : goal.returns-clause-mark_0
unfolding head_at
returns-clause-mark_0 c = refl

pub returns-clause-mark_1 : goal.returns-clause-mark_1
unfolding head_at
returns-clause-mark_1 c = refl

pub returns-clause-version : goal.returns-clause-version
unfolding head_at
returns-clause-version c = refl

pub returns-clause-kind_0 : goal.returns-clause-kind_0
unfolding head_at
returns-clause-kind_0 c = refl

pub returns-clause-kind_5 : goal.returns-clause-kind_5
unfolding head_at
returns-clause-kind_5 c = refl

pub returns-clause-request : goal.returns-clause-request
unfolding head_at
returns-clause-request c = refl

pub returns-clause-report : goal.returns-clause-report
unfolding head_at
returns-clause-report c = refl

pub returns-clause-node : goal.returns-clause-node
unfolding head_at
returns-clause-node c = refl

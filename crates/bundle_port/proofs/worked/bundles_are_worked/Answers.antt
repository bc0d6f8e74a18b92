-- Each case is computed.
use Rattle.std.proofs.Common.{refl}
use Rattle.bundle_port.proofs.worked.bundles_are_worked.Goals as goal

pub returns-clause-written : goal.returns-clause-written
returns-clause-written c = refl

pub returns-clause-read : goal.returns-clause-read
returns-clause-read c = refl

pub returns-clause-one : goal.returns-clause-one
returns-clause-one c = refl

pub returns-clause-without_parts : goal.returns-clause-without_parts
returns-clause-without_parts c = refl

pub returns-clause-no_bytes : goal.returns-clause-no_bytes
returns-clause-no_bytes c = refl

pub returns-clause-cut : goal.returns-clause-cut
returns-clause-cut c = refl

pub returns-clause-left_over : goal.returns-clause-left_over
returns-clause-left_over c = refl

pub returns-clause-short_parts : goal.returns-clause-short_parts
returns-clause-short_parts c = refl

pub returns-clause-other_heads : goal.returns-clause-other_heads
returns-clause-other_heads c = refl

pub returns-clause-lengths : goal.returns-clause-lengths
returns-clause-lengths c = refl

pub returns-clause-most : goal.returns-clause-most
returns-clause-most c = refl

pub returns-clause-itself : goal.returns-clause-itself
returns-clause-itself c = refl

pub returns-clause-earlier : goal.returns-clause-earlier
returns-clause-earlier c = refl

-- Each case is computed.
use Rattle.std.proofs.Common.{refl, arith}
use Rattle.hex.specs.Hex.{decode_pairs}
use Rattle.vote_wire.proofs.laws.keys_are_worked.Goals as goal

pub returns-clause-empty : goal.returns-clause-empty
unfolding decode_pairs
returns-clause-empty c = refl

pub returns-clause-digit : goal.returns-clause-digit
unfolding decode_pairs
returns-clause-digit c = refl

pub returns-clause-odd : goal.returns-clause-odd
unfolding decode_pairs
returns-clause-odd c = refl

pub returns-clause-short : goal.returns-clause-short
unfolding decode_pairs
returns-clause-short c = refl

pub returns-clause-shortest : goal.returns-clause-shortest
unfolding decode_pairs
returns-clause-shortest c = refl

pub returns-clause-longest : goal.returns-clause-longest
unfolding decode_pairs
returns-clause-longest c = refl

pub returns-clause-long : goal.returns-clause-long
unfolding decode_pairs
returns-clause-long c = refl

pub returns-clause-fewest_bytes : goal.returns-clause-fewest_bytes
returns-clause-fewest_bytes c = (omega arith, omega arith)

pub returns-clause-few_bytes : goal.returns-clause-few_bytes
returns-clause-few_bytes c = λ key. absurd (omega (arith, key.0))

pub returns-clause-most_bytes : goal.returns-clause-most_bytes
returns-clause-most_bytes c = (omega arith, omega arith)

pub returns-clause-many_bytes : goal.returns-clause-many_bytes
returns-clause-many_bytes c = λ key. absurd (omega (arith, key.1))

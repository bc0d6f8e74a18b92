-- Hexadecimal digits are computed.
use Rattle.std.proofs.Common.{refl}
use Rattle.hex.specs.Hex.{decode_pairs}
use Rattle.oathd_sim.proofs.script_laws.lines_are_worked.Goals as goal

pub returns-clause-noise : goal.returns-clause-noise
unfolding decode_pairs
returns-clause-noise c = refl

pub returns-clause-lost_noise : goal.returns-clause-lost_noise
unfolding decode_pairs
returns-clause-lost_noise c = refl

pub returns-clause-from_above : goal.returns-clause-from_above
unfolding decode_pairs
returns-clause-from_above c = refl

pub returns-clause-no_digit : goal.returns-clause-no_digit
unfolding decode_pairs
returns-clause-no_digit c = refl

pub returns-clause-longest_noise : goal.returns-clause-longest_noise
unfolding decode_pairs
returns-clause-longest_noise c = refl

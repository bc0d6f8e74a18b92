use Rattle.std.proofs.Common.{ℕ, ◌+◌, ◌<◌}
use Rattle.oathtool_core.specs.Codes.{Matches}
use Rattle.oathtool_core.proofs.offset.find_offset_hotp.Given as goal

-- no code so far is the OTP
abbrev pub invariant-loop-offset : goal.invariant-loop-offset
invariant-loop-offset l = (less : ℕ) → less < l.offset → Matches l.generator l.otp (l.first + less) → ⊥

use Rattle.std.proofs.Common.{ℕ, ◌<◌}
use Rattle.oathtool_core.specs.Offset.{NoneAt}
use Rattle.oathtool_core.proofs.offset.find_offset_totp.Given as goal

-- no code so far is the OTP
abbrev pub invariant-loop-distance : goal.invariant-loop-distance
invariant-loop-distance l = (nearer : ℕ) → nearer < l.distance → NoneAt l.generator l.otp l.step nearer

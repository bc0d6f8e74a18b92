-- The output and the end of a run.
use Rattle.std.specs.Prelude.{◌≡◌, ℕ, ◌+◌, ℤ, List, [], Option, Some, None, Result, Ok, Err, option_map}
use Rattle.std.specs.Fmt.{decimal, signed_decimal}
use Rattle.std.specs.Io.KnownBytes.{Appends}
use Rattle.program_edge.specs.Line.{line_of}
use Rattle.oathtool_core.specs.Codes.{code_lines}
use Rattle.oathtool_core.specs.Offset.{HasNoNearest, HasNoOffset, IsLeastOffset, IsNearestOffset}
use Rattle.oathtool_core.specs.Plan.{IsGenerator, IsReady, Stops}
use Rattle.oathtool_core.specs.declared.codes.Generator.{Generator}
use Rattle.oathtool_core.specs.declared.fault.Fault.{Fault}
use Rattle.oathtool_core.specs.declared.fault.Fault.TheVariants.{NoMatch, CannotWrite}
use Rattle.oathtool_core.specs.declared.plan.Plan.{Plan}
use Rattle.oathtool_core.specs.declared.words.Mode.{Mode}
use Rattle.oathtool_core.specs.declared.words.Mode.TheVariants.{Hotp, Totp}
use Rattle.oathtool_core.specs.declared.words.Words.{Words}

-- the OTP of the words, if there is one
abbrev pub otp_text : Words → Option (List ℕ)
otp_text words = option_map (λ text. text.now) words.otp

-- the text is the OTP's offset and an LF
abbrev pub IsOffsetLine : Mode → Generator → List ℕ → ℕ → ℕ → List ℕ → Type 0
IsOffsetLine Hotp generator otp first window text =
    (offset : ℕ) × IsLeastOffset generator otp first window offset × (text ≡ line_of (decimal offset))
IsOffsetLine (Totp hash) generator otp first window text =
    (offset : ℤ) × IsNearestOffset generator otp first window offset × (text ≡ line_of (signed_decimal offset))

-- the text is the output: the codes, or the offset
abbrev pub IsPrinted : Mode → Option (List ℕ) → Generator → ℕ → ℕ → List ℕ → Type 0
IsPrinted mode None generator first window text = text ≡ code_lines generator first (window + 1)
IsPrinted mode (Some otp) generator first window text = IsOffsetLine mode generator otp first window text

-- the OTP is none of the codes
abbrev pub IsUnmatched : Mode → Option (List ℕ) → Generator → ℕ → ℕ → Type 0
IsUnmatched mode None generator first window = ⊥
IsUnmatched Hotp (Some otp) generator first window = HasNoOffset generator otp first window
IsUnmatched (Totp hash) (Some otp) generator first window = HasNoNearest generator otp first window

-- Everything was read, and exactly the text was written.
pub record Prints (words : Words) (clock : Option ℕ) (old new : Option (List ℕ)) : Type 0 where
  pub plan : Plan
  pub ready : IsReady words clock plan
  pub generator : Generator
  pub made_with : IsGenerator words plan.secret generator
  pub text : List ℕ
  pub printed : IsPrinted words.mode (otp_text words) generator plan.first words.window text
  pub written : Appends old new text

-- Everything was read, no code is the OTP, and nothing was written.
pub record FindsNone (words : Words) (clock : Option ℕ) (old new : Option (List ℕ)) : Type 0 where
  pub plan : Plan
  pub ready : IsReady words clock plan
  pub generator : Generator
  pub made_with : IsGenerator words plan.secret generator
  pub unmatched : IsUnmatched words.mode (otp_text words) generator plan.first words.window
  pub written : Appends old new []

-- The end of a run with a fault: it stops before it prints and has written nothing, it finds no match, or the output
-- fails.
pub data Fails (words : Words) (clock : Option ℕ) (fault : Fault) (old new : Option (List ℕ)) : Type 0 where
  Stopped : Stops words clock fault → Appends old new [] → Fails words clock fault old new
  Unmatched : fault ≡ NoMatch → FindsNone words clock old new → Fails words clock fault old new
  Unwritten : fault ≡ CannotWrite → Fails words clock fault old new

-- the end of a run
abbrev pub EndsSo : Words → Option ℕ → Result Unit Fault → Option (List ℕ) → Option (List ℕ) → Type 0
EndsSo words clock (Ok done) old new = Prints words clock old new
EndsSo words clock (Err fault) old new = Fails words clock fault old new

-- The codes of a key, and their lines in the output.
use Rattle.std.specs.Prelude.{◌≡◌, ℕ, List, flat_map}
use Rattle.std.specs.List.{range_with_len}
use Rattle.program_edge.specs.Line.{line_of}
use Rattle.otp_core.specs.Codes.{AreCodesOf}
use Rattle.otp_core.specs.Digits.{count_of}
use Rattle.otp_core.specs.Hotp.{code_of}
use Rattle.otp_core.specs.declared.hotp.Codes.{Codes}
use Rattle.oathtool_core.specs.declared.codes.Generator.{Generator}

-- the code of a factor (RFC 4226, section 5.3; RFC 6238, section 4.2)
abbrev pub code_at : Generator → ℕ → List ℕ
code_at generator factor = code_of generator.hash generator.key.now factor (count_of generator.digits)

-- the key of the generator is set up
abbrev pub IsSetUp : Codes → Generator → Type 0
IsSetUp codes generator = AreCodesOf codes generator.hash generator.key.now (count_of generator.digits)

-- the code of the factor is the OTP, to the last byte
abbrev pub Matches : Generator → List ℕ → ℕ → Type 0
Matches generator otp factor = code_at generator factor ≡ otp

-- the codes of `count` factors from `first` upwards, one on each line
abbrev pub code_lines : Generator → ℕ → ℕ → List ℕ
code_lines generator first count = flat_map (λ factor. line_of (code_at generator factor)) (range_with_len first count)

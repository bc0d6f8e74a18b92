-- The output and the end of the command `secret`.
use Rattle.std.specs.Prelude.{◌≡◌, List, [], ℕ, Option, Some, None, Result, Ok, Err}
use Rattle.std.specs.Io.KnownBytes.{Appends}
use Rattle.program_edge.specs.Line.{line_of}
use Rattle.hex.specs.Hex.{decode_of}
use Rattle.hex.specs.declared.error.FromHexError.{FromHexError}
use Rattle.secret_text.specs.Base32.{base32_text}
use Rattle.secret_text.specs.Hexadecimal.{hex_refusal_of}
use Rattle.secret_text.specs.declared.fault.SecretFault.{SecretFault}
use Rattle.oathd_lines.specs.declared.fault.Fault.{Fault}
use Rattle.oathd_lines.specs.declared.fault.Fault.TheVariants.{BadKey, CannotWrite}

-- the secret in base32 and an LF
abbrev pub secret_line : Result (List ℕ) FromHexError → List ℕ
secret_line (Ok secret) = line_of (base32_text secret)
secret_line (Err error) = []

-- the output for a secret in hexadecimal: nothing if it is refused
abbrev pub secret_output : Option SecretFault → List ℕ → List ℕ
secret_output (Some fault) hex = []
secret_output None hex = secret_line (decode_of hex)

-- the end of the command, for a refused secret or an accepted one
abbrev pub secret_end : Option SecretFault → Result Unit Fault
secret_end (Some fault) = Err (BadKey fault)
secret_end None = Ok tt

-- The call ends as the secret demands, and has written exactly its output. After a failure of the output, the secret
-- was accepted, and nothing more is promised.
abbrev pub EndsWithText : List ℕ → Result Unit Fault → Option (List ℕ) → Option (List ℕ) → Type 0
EndsWithText hex (Err CannotWrite) old new = hex_refusal_of hex ≡ None
EndsWithText hex result old new =
    (result ≡ secret_end (hex_refusal_of hex)) × Appends old new (secret_output (hex_refusal_of hex) hex)

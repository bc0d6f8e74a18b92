-- KEY as text.
use Rattle.std.specs.Prelude.{◌≡◌, ℕ, Bool, true, false, List, Option, Ok}
use Rattle.hex.specs.Hex.{decode_of}
use Rattle.secret_text.specs.Base32.{Spells, refusal_of}
use Rattle.secret_text.specs.Hexadecimal.{hex_refusal_of}
use Rattle.secret_text.specs.declared.fault.SecretFault.{SecretFault}

-- the reason why a text in base32, or in hexadecimal, is not a key
abbrev pub key_refusal : Bool → List ℕ → Option SecretFault
key_refusal true text = refusal_of text
key_refusal false text = hex_refusal_of text

-- the text spells the secret, in base32 or in hexadecimal
abbrev pub IsKeyOf : Bool → List ℕ → List ℕ → Type 0
IsKeyOf true text secret = Spells text secret
IsKeyOf false text secret = decode_of text ≡ Ok secret

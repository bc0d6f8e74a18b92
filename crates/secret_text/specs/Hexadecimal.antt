-- A secret in hexadecimal, two digits a byte. The `decode_of` of the crate `hex` defines its value.
use Rattle.std.specs.Prelude.{ℕ, ◌%◌, ◌==◌, not, nat_lt, Bool, if◌then◌else◌, List, length, Option, Some}
use Rattle.std.specs.List.{position_from}
use Rattle.std.specs.Option.{option_map}
use Rattle.hex.specs.Hex.{is_hex_digit}
use Rattle.hex.specs.declared.error.FromHexError.{FromHexError}
use Rattle.hex.specs.declared.error.FromHexError.TheVariants.{InvalidHexCharacter}
use Rattle.secret_text.specs.declared.fault.SecretFault.{SecretFault}
use Rattle.secret_text.specs.declared.fault.SecretFault.TheVariants.{BadCharacter, BadLength, TooLong, Empty}

-- whether a byte is not a digit, in either case
abbrev pub is_no_digit : ℕ → Bool
is_no_digit c = not (is_hex_digit c)

-- the reason why a text is refused: its length, or its first byte that is not a digit
abbrev pub hex_refusal_of : List ℕ → Option SecretFault
hex_refusal_of text =
    if length text == 0 then Some Empty
    else if length text % 2 == 1 then Some BadLength
    else if nat_lt 256 (length text) then Some TooLong
    else option_map BadCharacter (position_from is_no_digit 0 text)

-- the fault of an error of decoding; a text of even length has only the first kind of error
abbrev pub hex_fault : FromHexError → SecretFault
hex_fault (InvalidHexCharacter c place) = BadCharacter place
hex_fault _ = BadLength

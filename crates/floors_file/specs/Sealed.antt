-- The last line of a floors file by names: the MAC of all bytes before it (HMAC-SHA-256, RFC 2104).
use Rattle.std.specs.Prelude.{ℕ, ◌-◌, List, [], ◌∷◌, ◌++◌, length, take, drop, Result, Ok, Err, codes, if◌then◌else◌}
use Rattle.std.specs.Borrow.{Bor}
use Rattle.std.specs.Str.{bytes_eq}
use Rattle.hex.specs.Hex.{encode_lower}
use Rattle.hmac_core.specs.Hash.{mac_of}
use Rattle.hmac_core.specs.declared.hash.Hash.TheVariants.{Sha256}
use Rattle.token_file.specs.Fields.{lines_of}
use Rattle.floors_file.specs.declared.fault.FloorsFault.{FloorsFault}
use Rattle.floors_file.specs.declared.fault.LineFault.{LineFault}
use Rattle.floors_file.specs.declared.fault.LineFault.TheVariants.{BadMac}

-- the MAC of a body in lower case hexadecimal digits
unfoldable pub mac_digits : List ℕ → List ℕ → List ℕ
mac_digits key body = encode_lower (mac_of Sha256 key body)

-- the line of the MAC
abbrev pub mac_line : List ℕ → List ℕ → List ℕ
mac_line key body = codes "mac " ++ mac_digits key body ++ 10 ∷ []

-- a body, followed by its MAC
abbrev pub sealed : List ℕ → List ℕ → List ℕ
sealed key body = body ++ mac_line key body

-- the bytes before the last 69, which have the place of the MAC's line
abbrev pub front_of : List ℕ → List ℕ
front_of text = take (length text - 69) text

-- the bytes before the MAC's line, if it is theirs
abbrev pub body_of : List ℕ → List ℕ → Result (List ℕ) (ℕ × LineFault)
body_of key text =
    if bytes_eq (drop (length text - 69) text) (mac_line key (front_of text)) then Ok (front_of text)
    else Err (length (lines_of (front_of text)), BadMac)

-- the value of a body, or the fault
abbrev pub body_value : Result (Bor (List ℕ)) FloorsFault → Result (List ℕ) (ℕ × LineFault)
body_value (Ok body) = Ok body.now
body_value (Err fault) = Err (fault.line, fault.kind)

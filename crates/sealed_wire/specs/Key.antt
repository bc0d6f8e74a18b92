-- The key that a client shares with the nodes, and the tags under it.
use Rattle.std.specs.Prelude.{ℕ, ◌≤◌, nat_lt, if◌then◌else◌, List, length, Option, Some, None, Result, Ok, Err}
use Rattle.std.specs.Option.{option_or}
use Rattle.hex.specs.Hex.{decode_of}
use Rattle.hex.specs.declared.error.FromHexError.{FromHexError}
use Rattle.hmac_core.specs.Hash.{mac_of}
use Rattle.hmac_core.specs.declared.hash.Hash.TheVariants.{Sha256}
use Rattle.secret_text.specs.Hexadecimal.{hex_refusal_of}
use Rattle.secret_text.specs.declared.fault.SecretFault.{SecretFault}
use Rattle.secret_text.specs.declared.fault.SecretFault.TheVariants.{BadLength, TooLong}

-- 16 to 64 bytes
abbrev pub IsClientKey : List ℕ → Type 0
IsClientKey key = (16 ≤ length key) × (length key ≤ 64)

-- HMAC-SHA-256 under the key
unfoldable pub tag_of : List ℕ → List ℕ → List ℕ
tag_of key bytes = mac_of Sha256 key bytes

-- the reason why bytes are not a key, or None
abbrev pub length_refusal_of : Result (List ℕ) FromHexError → Option SecretFault
length_refusal_of (Err error) = None
length_refusal_of (Ok key) =
    if nat_lt (length key) 16 then Some BadLength
    else if nat_lt 64 (length key) then Some TooLong
    else None

-- the reason why a text in hexadecimal is not a key: the faults of a secret before the length
abbrev pub key_refusal_of : List ℕ → Option SecretFault
key_refusal_of text = option_or (hex_refusal_of text) (length_refusal_of (decode_of text))

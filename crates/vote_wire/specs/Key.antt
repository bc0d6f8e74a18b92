-- The key that the members of a cluster share, the bare key of a process, and the tags under them.
use Rattle.std.specs.Prelude.{◌≡◌, ◌⊎◌, ℕ, ◌≤◌, nat_lt, if◌then◌else◌, List, [], ◌∷◌, length, replicate, take, Option, Some, None, Result, Ok, Err}
use Rattle.std.specs.Option.{option_or}
use Rattle.hex.specs.Hex.{decode_of}
use Rattle.hex.specs.declared.error.FromHexError.{FromHexError}
use Rattle.hmac_core.specs.Hash.{mac_of}
use Rattle.hmac_core.specs.declared.hash.Hash.TheVariants.{Sha256}
use Rattle.secret_text.specs.Hexadecimal.{hex_refusal_of}
use Rattle.secret_text.specs.declared.fault.SecretFault.{SecretFault}
use Rattle.secret_text.specs.declared.fault.SecretFault.TheVariants.{BadLength, TooLong}

-- 16 to 64 bytes
abbrev pub IsClusterKey : List ℕ → Type 0
IsClusterKey key = (16 ≤ length key) × (length key ≤ 64)

-- the bytes of the bare key: none
abbrev pub bare : List ℕ
bare = []

-- the bytes of a key, or of the bare one
abbrev pub IsKeyOrBare : List ℕ → Type 0
IsKeyOrBare key = IsClusterKey key ⊎ (key ≡ bare)

-- the first 16 bytes of HMAC-SHA-256 under the key (RFC 2104, section 5: a truncated MAC); 16 zeros under the bare key
unfoldable pub tag_of : List ℕ → List ℕ → List ℕ
tag_of [] bytes = replicate 16 0
tag_of (byte ∷ key) bytes = take 16 (mac_of Sha256 (byte ∷ key) bytes)

-- the reason why bytes are not a key, or None
abbrev pub length_refusal_of : Result (List ℕ) FromHexError → Option SecretFault
length_refusal_of (Err error) = None
length_refusal_of (Ok key) =
    if nat_lt (length key) 16 then Some BadLength
    else if nat_lt 64 (length key) then Some TooLong
    else None

-- the reason why a text in hexadecimal is not a key: the faults of a secret before the length
abbrev pub key_refusal_of : List ℕ → Option SecretFault
key_refusal_of text = option_or (hex_refusal_of text) (length_refusal_of (decode_of text))

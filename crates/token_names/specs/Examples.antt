-- A token with a secret of two bytes, and a name and two seeds that Python's hmac computed.
use Rattle.std.specs.Prelude.{ℕ, List, [], ◌∷◌}
use Rattle.hmac_core.specs.declared.hash.Hash.{Hash}
use Rattle.otp_core.specs.declared.digits.Digits.{Digits}
use Rattle.token_file.specs.Credential.{Credential}
use Rattle.token_file.specs.declared.token.Kind.{Kind}
use Rattle.token_file.specs.declared.token.Password.TheVariants.{NoneAllowed}

-- a token with the secret 00 ff, without a password
abbrev pub two_bytes : List ℕ → Kind → Digits → Hash → Credential
two_bytes name kind digits hash =
    record { name = name; password = NoneAllowed; secret = 0 ∷ 0xff ∷ []; kind = kind; digits = digits; hash = hash }

-- the name of the event token `u` with the secret 31 under the salt `names-of-site-1`
abbrev pub name_of_event : List ℕ
name_of_event =
    0xa9 ∷ 0x4a ∷ 0x70 ∷ 0x35 ∷ 0xcb ∷ 0x37 ∷ 0x13 ∷ 0x2f ∷ 0x93 ∷ 0x54 ∷ 0x05 ∷ 0x5c ∷ 0x54 ∷ 0x72 ∷ 0x37 ∷ 0x21 ∷ []

-- the seed of this token
abbrev pub seed_of_event : List ℕ
seed_of_event =
    0x11 ∷ 0xac ∷ 0xba ∷ 0x36 ∷ 0x1e ∷ 0xd5 ∷ 0x53 ∷ 0xd6 ∷ 0xe5 ∷ 0x0a ∷ 0x21 ∷ 0xb8 ∷ 0x59 ∷ 0x27 ∷ 0xa0 ∷ 0x86 ∷ []

-- the seed of a time token with its secret and steps of 30 seconds
abbrev pub seed_of_time : List ℕ
seed_of_time =
    0x36 ∷ 0x48 ∷ 0x13 ∷ 0x63 ∷ 0x02 ∷ 0x47 ∷ 0x71 ∷ 0x23 ∷ 0x3a ∷ 0xc9 ∷ 0x43 ∷ 0x7d ∷ 0x29 ∷ 0xc9 ∷ 0xbe ∷ 0x7f ∷ []

-- The codes of a key that was set up.
use Rattle.std.specs.Prelude.{◌≡◌, ℕ, List}
use Rattle.hmac_core.specs.Keyed.{IsKeyed}
use Rattle.hmac_core.specs.declared.hash.Hash.{Hash}
use Rattle.otp_core.specs.Digits.{count_of}
use Rattle.otp_core.specs.declared.hotp.Codes.{Codes}

-- the codes were set up with the hash, the key and the number of digits
unfoldable pub AreCodesOf : Codes → Hash → List ℕ → ℕ → Type 0
AreCodesOf codes hash key count = IsKeyed codes.key hash key × (count_of codes.digits ≡ count)

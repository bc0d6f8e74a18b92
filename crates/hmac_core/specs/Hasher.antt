-- A hash that has taken a prefix of a message.
use Rattle.std.specs.Prelude.{◌≡◌, ℕ, List}
use Rattle.sha1.specs.Sha1 as S1
use Rattle.sha2.specs.Hashers.{Holds256, Holds512}
use Rattle.hmac_core.specs.declared.hash.Hash.{Hash}
use Rattle.hmac_core.specs.declared.hash.Hash.TheVariants as H
use Rattle.hmac_core.specs.declared.hasher.Hasher.{Hasher}
use Rattle.hmac_core.specs.declared.hasher.Hasher.TheVariants.{Sha1, Sha256, Sha512}

-- the hasher computes `hash` and has taken `bytes`
abbrev pub HasTaken : Hasher → Hash → List ℕ → Type 0
HasTaken (Sha1 state) hash bytes = (hash ≡ H.Sha1) × S1.Holds state bytes
HasTaken (Sha256 state) hash bytes = (hash ≡ H.Sha256) × Holds256 state bytes
HasTaken (Sha512 state) hash bytes = (hash ≡ H.Sha512) × Holds512 state bytes

-- The key under which members tag their datagrams, and a fingerprint of it that people compare.
use Rattle.std.specs.Prelude.{◌≡◌, ℕ, List, take, codes}
use Rattle.hex.specs.Hex.{encode_lower}
use Rattle.hmac_core.specs.Hash.{mac_of}
use Rattle.hmac_core.specs.declared.hash.Hash.TheVariants.{Sha256}
use Rattle.cluster_file.specs.Shared.{Shared, shared_text}

-- the shared key: HMAC-SHA-256 (RFC 2104) under the cluster's key over the shared text, all 32 bytes
abbrev pub shared_key_of : List ℕ → Shared → List ℕ
shared_key_of key shared = mac_of Sha256 key (shared_text shared)

-- what people compare of a text: the first 8 bytes of HMAC-SHA-256 under the shared key over it, in hexadecimal
abbrev pub print_of : List ℕ → List ℕ → List ℕ
print_of shared_key text = encode_lower (take 8 (mac_of Sha256 shared_key text))

-- the fingerprint of a shared key: the print of the word `fingerprint`
abbrev pub fingerprint_of : List ℕ → List ℕ
fingerprint_of shared_key = print_of shared_key (codes "fingerprint")

-- two different texts with the same MAC under a key; no such texts are known for HMAC-SHA-256
pub record IsCollision (key text other : List ℕ) : Type 0 where
  pub different : text ≡ other → ⊥
  pub same : mac_of Sha256 key text ≡ mac_of Sha256 key other

-- A key that was set up for HMAC (RFC 2104, section 4).
use Rattle.std.specs.Prelude.{ℕ, List}
use Rattle.hmac_core.specs.Hash.{block_len_of, digest_of}
use Rattle.hmac_core.specs.Hasher.{HasTaken}
use Rattle.hmac_core.specs.Hmac.{block_key, ipad, opad, xor_each}
use Rattle.hmac_core.specs.declared.hash.Hash.{Hash}
use Rattle.hmac_core.specs.declared.keyed.Keyed.{Keyed}

-- `keyed` was set up with the hash and the key: one hasher has taken the inner block, the other the
-- outer one
unfoldable pub IsKeyed : Keyed → Hash → List ℕ → Type 0
IsKeyed keyed hash key =
    let k = block_key (digest_of hash) (block_len_of hash) key in
    HasTaken keyed.inner hash (xor_each ipad k) × HasTaken keyed.outer hash (xor_each opad k)

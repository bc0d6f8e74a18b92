-- A key that was set up. No contract cites it.
use Rattle.std.specs.Prelude.{ℕ, List, replicate}
use Rattle.sha1.specs.Sha1.{hash_after}
use Rattle.hmac_core.specs.Hmac.{ipad, opad, xor_each}
use Rattle.hmac_core.specs.declared.hasher.Hasher.{Hasher}
use Rattle.hmac_core.specs.declared.hasher.Hasher.TheVariants.{Sha1}
use Rattle.hmac_core.specs.declared.keyed.Keyed.{Keyed}

-- the hash under SHA-1 that has taken one block
abbrev pub after_block : List ℕ → Hasher
after_block block = Sha1 (record { h = hash_after block 1; buffer = replicate 64 0; total = 64 })

-- the empty key under SHA-1
abbrev pub empty_key : Keyed
empty_key = record {
  inner = after_block (xor_each ipad (replicate 64 0));
  outer = after_block (xor_each opad (replicate 64 0));
}

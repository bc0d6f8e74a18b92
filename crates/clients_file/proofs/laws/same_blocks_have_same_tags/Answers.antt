use Rattle.std.proofs.Common.{◌≡◌, List, ℕ, ◌≤◌, length, false, refl, ◌++◌, sym, ap, ◌∙◌, arith}
use Rattle.std.specs.Prelude.{nat_lt}
use Rattle.hmac_core.specs.Hash.{digest_of}
use Rattle.hmac_core.specs.Hmac.{block_key, opad, ipad, xor_each}
use Rattle.hmac_core.specs.declared.hash.Hash.TheVariants.{Sha256}
use Rattle.sealed_wire.specs.Key.{tag_of}
use Rattle.clients_file.specs.Said.{block_of}
use Rattle.clients_file.proofs.laws.same_blocks_have_same_tags.Goals as goal

not_above : (a b : ℕ) → b ≤ a → nat_lt a b ≡ false
not_above a b h = grind arith

is_short : (key : List ℕ) → length key ≤ 64 → block_key (digest_of Sha256) 64 key ≡ block_of key
is_short key h = rw (not_above 64 (length key) h) refl

pub returns : goal.returns
unfolding tag_of
returns c = λ key other text is_key is_other same.
    let blocks = is_short key is_key.1 ∙ same ∙ sym (is_short other is_other.1) in
    ap (λ k. digest_of Sha256 (xor_each opad k ++ digest_of Sha256 (xor_each ipad k ++ text))) blocks

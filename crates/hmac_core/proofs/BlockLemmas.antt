-- Two states differ in the first word after their blocks, and two hashes in their number.
use Rattle.std.proofs.Common.{◌≡◌, ◌≢◌, ◌==◌, ℕ, ◌/◌, List, [], ◌∷◌, if◌then◌else◌, length, slice_index, sym, ap, ◌∙◌, arith}
use Rattle.sha1.specs.Sha1 as S1
use Rattle.sha1.specs.declared.Sha1 as D1
use Rattle.sha2.specs.Hashers.{Holds256, Holds512}
use Rattle.sha2.specs.Sha256 as S256
use Rattle.sha2.specs.Sha512 as S512
use Rattle.sha2.specs.declared.Sha256 as D256
use Rattle.sha2.specs.declared.Sha512 as D512
use Rattle.hmac_core.specs.Hash.{block_len_of, digest_of}
use Rattle.hmac_core.specs.Hmac.{block_key, ipad, opad, xor_each}
use Rattle.hmac_core.specs.declared.hash.Hash.{Hash}
use Rattle.hmac_core.specs.declared.hash.Hash.TheVariants as H

-- the hashes by number
abbrev number_of : Hash → ℕ
number_of H.Sha1 = 1
number_of H.Sha256 = 2
number_of H.Sha512 = 3

-- no hash is two of them
pub no_two : (a b : Hash) → number_of a ≢ number_of b → a ≡ b → ⊥
no_two a b apart e = apart (ap number_of e)

-- the block of a key, xor the pad
abbrev pub block : ℕ → Hash → List ℕ → List ℕ
block pad hash key = xor_each pad (block_key (digest_of hash) (block_len_of hash) key)

-- 1 if the first word is `word`, else 0
abbrev begins : ℕ → List ℕ → ℕ
begins word words = if slice_index words 0 == word then 1 else 0

-- the words after two messages that lead to the same state
words_of_sha1 : (s : D1.Sha1) (a b : List ℕ) (word : ℕ) → S1.Holds s a → S1.Holds s b
    → begins word (S1.hash_after a (length a / 64)) ≡ begins word (S1.hash_after b (length b / 64))
unfolding S1.Holds
words_of_sha1 s a b word h k = ap (begins word) (sym h.1.0 ∙ k.1.0)

words_of_sha256 : (s : D256.Sha256) (a b : List ℕ) (word : ℕ) → Holds256 s a → Holds256 s b
    → begins word (S256.hash_after S256.initial_hash_256 a (length a / 64)) ≡ begins word (S256.hash_after S256.initial_hash_256 b (length b / 64))
unfolding S256.Holds
words_of_sha256 s a b word h k = ap (begins word) (sym h.1.0 ∙ k.1.0)

words_of_sha512 : (s : D512.Sha512) (a b : List ℕ) (word : ℕ) → Holds512 s a → Holds512 s b
    → begins word (S512.hash_after S512.initial_hash_512 a (length a / 128)) ≡ begins word (S512.hash_after S512.initial_hash_512 b (length b / 128))
unfolding S512.Holds
words_of_sha512 s a b word h k = ap (begins word) (sym h.1.0 ∙ k.1.0)

-- no state under SHA-1 has taken both blocks of the empty key
pub not_both : (s : D1.Sha1) → S1.Holds s (block ipad H.Sha1 []) → S1.Holds s (block opad H.Sha1 []) → ⊥
unfolding S1.first_words S1.schedule S1.rounds S1.compress S1.hash_after
not_both s h k =
    let e : 1 ≡ 0 = words_of_sha1 s (block ipad H.Sha1 []) (block opad H.Sha1 []) (slice_index (S1.hash_after (block ipad H.Sha1 []) 1) 0) h k in
    omega (arith, e)

-- nor has one under SHA-1 taken the inner blocks of two keys
pub one_key_of_sha1 : (s : D1.Sha1) → S1.Holds s (block ipad H.Sha1 []) → S1.Holds s (block ipad H.Sha1 (7 ∷ [])) → ⊥
unfolding S1.first_words S1.schedule S1.rounds S1.compress S1.hash_after
one_key_of_sha1 s h k =
    let e : 1 ≡ 0 = words_of_sha1 s (block ipad H.Sha1 []) (block ipad H.Sha1 (7 ∷ [])) (slice_index (S1.hash_after (block ipad H.Sha1 []) 1) 0) h k in
    omega (arith, e)

-- nor has one under SHA-256 taken the inner blocks of two keys
pub one_key_of_sha256 : (s : D256.Sha256) → Holds256 s (block ipad H.Sha256 []) → Holds256 s (block ipad H.Sha256 (7 ∷ [])) → ⊥
unfolding S256.first_words S256.schedule S256.rounds S256.compress S256.hash_after
one_key_of_sha256 s h k =
    let e : 1 ≡ 0 = words_of_sha256 s (block ipad H.Sha256 []) (block ipad H.Sha256 (7 ∷ [])) (slice_index (S256.hash_after S256.initial_hash_256 (block ipad H.Sha256 []) 1) 0) h k in
    omega (arith, e)

-- nor has one under SHA-512 taken the inner blocks of two keys
pub one_key_of_sha512 : (s : D512.Sha512) → Holds512 s (block ipad H.Sha512 []) → Holds512 s (block ipad H.Sha512 (7 ∷ [])) → ⊥
unfolding S512.first_words S512.schedule S512.rounds S512.compress S512.hash_after
one_key_of_sha512 s h k =
    let e : 1 ≡ 0 = words_of_sha512 s (block ipad H.Sha512 []) (block ipad H.Sha512 (7 ∷ [])) (slice_index (S512.hash_after S512.initial_hash_512 (block ipad H.Sha512 []) 1) 0) h k in
    omega (arith, e)

-- The hasher is one of three: its state has not taken both blocks, or its hash is another.
use Rattle.std.proofs.Common.{[], ◌∷◌, refl, arith}
use Rattle.sha1.specs.Sha1 as S1
use Rattle.hmac_core.proofs.BlockLemmas.{block, no_two, not_both, one_key_of_sha1, one_key_of_sha256, one_key_of_sha512}
use Rattle.hmac_core.specs.Hasher.{HasTaken}
use Rattle.hmac_core.specs.Hmac.{ipad, opad}
use Rattle.hmac_core.specs.Keyed.{IsKeyed}
use Rattle.hmac_core.specs.declared.hash.Hash.TheVariants as H
use Rattle.hmac_core.specs.declared.hasher.Hasher.{Hasher}
use Rattle.hmac_core.specs.declared.hasher.Hasher.TheVariants.{Sha1, Sha256, Sha512}
use Rattle.hmac_core.proofs.laws.set_up_keys_can_be_broken.Goals as goal

pub returns-clause-set_up : goal.returns-clause-set_up
unfolding IsKeyed S1.Holds
returns-clause-set_up c = ((refl, (refl, (refl, refl))), (refl, (refl, (refl, refl))))

pub returns-clause-inner_is_the_outer : goal.returns-clause-inner_is_the_outer
unfolding IsKeyed
returns-clause-inner_is_the_outer c keyed h k = at keyed.outer k.0 h.1
  where
    at : (hasher : Hasher) → HasTaken hasher H.Sha1 (block ipad H.Sha1 []) → HasTaken hasher H.Sha1 (block opad H.Sha1 []) → ⊥
    at (Sha1 s) h k = not_both s h.1 k.1
    at (Sha256 s) h k = no_two H.Sha1 H.Sha256 (λ e. omega (arith, e)) h.0
    at (Sha512 s) h k = no_two H.Sha1 H.Sha512 (λ e. omega (arith, e)) h.0

pub returns-clause-outer_is_the_inner : goal.returns-clause-outer_is_the_inner
unfolding IsKeyed
returns-clause-outer_is_the_inner c keyed h k = at keyed.inner h.0 k.1
  where
    at : (hasher : Hasher) → HasTaken hasher H.Sha1 (block ipad H.Sha1 []) → HasTaken hasher H.Sha1 (block opad H.Sha1 []) → ⊥
    at (Sha1 s) h k = not_both s h.1 k.1
    at (Sha256 s) h k = no_two H.Sha1 H.Sha256 (λ e. omega (arith, e)) h.0
    at (Sha512 s) h k = no_two H.Sha1 H.Sha512 (λ e. omega (arith, e)) h.0

pub returns-clause-two_hashes : goal.returns-clause-two_hashes
unfolding IsKeyed
returns-clause-two_hashes c keyed h k = at keyed.inner h.0 k.0
  where
    at : (hasher : Hasher) → HasTaken hasher H.Sha1 (block ipad H.Sha1 []) → HasTaken hasher H.Sha256 (block ipad H.Sha256 []) → ⊥
    at (Sha1 s) h k = no_two H.Sha256 H.Sha1 (λ e. omega (arith, e)) k.0
    at (Sha256 s) h k = no_two H.Sha1 H.Sha256 (λ e. omega (arith, e)) h.0
    at (Sha512 s) h k = no_two H.Sha1 H.Sha512 (λ e. omega (arith, e)) h.0

pub returns-clause-sha512_for_sha256 : goal.returns-clause-sha512_for_sha256
unfolding IsKeyed
returns-clause-sha512_for_sha256 c inner outer h = no_two H.Sha256 H.Sha512 (λ e. omega (arith, e)) h.0.0

pub returns-clause-two_keys_of_sha1 : goal.returns-clause-two_keys_of_sha1
unfolding IsKeyed
returns-clause-two_keys_of_sha1 c keyed h k = at keyed.inner h.0 k.0
  where
    at : (hasher : Hasher) → HasTaken hasher H.Sha1 (block ipad H.Sha1 []) → HasTaken hasher H.Sha1 (block ipad H.Sha1 (7 ∷ [])) → ⊥
    at (Sha1 s) h k = one_key_of_sha1 s h.1 k.1
    at (Sha256 s) h k = no_two H.Sha1 H.Sha256 (λ e. omega (arith, e)) h.0
    at (Sha512 s) h k = no_two H.Sha1 H.Sha512 (λ e. omega (arith, e)) h.0

pub returns-clause-two_keys_of_sha256 : goal.returns-clause-two_keys_of_sha256
unfolding IsKeyed
returns-clause-two_keys_of_sha256 c keyed h k = at keyed.inner h.0 k.0
  where
    at : (hasher : Hasher) → HasTaken hasher H.Sha256 (block ipad H.Sha256 []) → HasTaken hasher H.Sha256 (block ipad H.Sha256 (7 ∷ [])) → ⊥
    at (Sha1 s) h k = no_two H.Sha256 H.Sha1 (λ e. omega (arith, e)) h.0
    at (Sha256 s) h k = one_key_of_sha256 s h.1 k.1
    at (Sha512 s) h k = no_two H.Sha256 H.Sha512 (λ e. omega (arith, e)) h.0

pub returns-clause-two_keys_of_sha512 : goal.returns-clause-two_keys_of_sha512
unfolding IsKeyed
returns-clause-two_keys_of_sha512 c keyed h k = at keyed.inner h.0 k.0
  where
    at : (hasher : Hasher) → HasTaken hasher H.Sha512 (block ipad H.Sha512 []) → HasTaken hasher H.Sha512 (block ipad H.Sha512 (7 ∷ [])) → ⊥
    at (Sha1 s) h k = no_two H.Sha512 H.Sha1 (λ e. omega (arith, e)) h.0
    at (Sha256 s) h k = no_two H.Sha512 H.Sha256 (λ e. omega (arith, e)) h.0
    at (Sha512 s) h k = one_key_of_sha512 s h.1 k.1

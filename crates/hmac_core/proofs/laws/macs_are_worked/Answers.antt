-- Each MAC is computed, and a length that no digest has is refuted.
use Rattle.std.proofs.Common.{◌≡◌, ⊎_elim, inl, inr, refl, arith}
use Rattle.hmac_core.specs.Unfolded.sha1_steps
use Rattle.hmac_core.specs.Unfolded.sha256_steps
use Rattle.hmac_core.specs.Unfolded.sha512_steps
use Rattle.hmac_core.proofs.laws.macs_are_worked.Goals as goal

pub returns-clause-sha1 : goal.returns-clause-sha1
unfolding sha1_steps.first_words sha1_steps.schedule sha1_steps.rounds sha1_steps.compress sha1_steps.hash_after sha1_steps.digest_bytes sha1_steps.sha1
returns-clause-sha1 c = refl

pub returns-clause-block_key : goal.returns-clause-block_key
unfolding sha1_steps.first_words sha1_steps.schedule sha1_steps.rounds sha1_steps.compress sha1_steps.hash_after sha1_steps.digest_bytes sha1_steps.sha1
returns-clause-block_key c = refl

pub returns-clause-long_key : goal.returns-clause-long_key
unfolding sha1_steps.first_words sha1_steps.schedule sha1_steps.rounds sha1_steps.compress sha1_steps.hash_after sha1_steps.digest_bytes sha1_steps.sha1
returns-clause-long_key c = refl

pub returns-clause-sha256 : goal.returns-clause-sha256
unfolding sha256_steps.first_words sha256_steps.schedule sha256_steps.rounds sha256_steps.compress sha256_steps.hash_after sha256_steps.digest_bytes sha256_steps.sha256
returns-clause-sha256 c = refl

pub returns-clause-sha512 : goal.returns-clause-sha512
unfolding sha512_steps.first_words sha512_steps.schedule sha512_steps.rounds sha512_steps.compress sha512_steps.hash_after sha512_steps.digest_bytes sha512_steps.sha512
returns-clause-sha512 c = refl

pub returns-clause-lens : goal.returns-clause-lens
returns-clause-lens c = (
  inl refl,
  inr (inl refl),
  inr (inr refl),
  ⊎_elim (λ (e : 28 ≡ 20). omega (arith, e)) (⊎_elim (λ (e : 28 ≡ 32). omega (arith, e)) (λ (e : 28 ≡ 64). omega (arith, e))),
  ⊎_elim (λ (e : 48 ≡ 20). omega (arith, e)) (⊎_elim (λ (e : 48 ≡ 32). omega (arith, e)) (λ (e : 48 ≡ 64). omega (arith, e))),
)

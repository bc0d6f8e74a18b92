-- Two acceptances of each list are at fault, or each two are not. No state has taken the blocks of two keys.
use Rattle.std.proofs.Common.{◌≡◌, ◌≢◌, ◌<◌, ◌≤◌, [], ◌∷◌, refl, sym, ◌∙◌, arith}
use Rattle.hmac_core.proofs.BlockLemmas.{block, no_two, one_key_of_sha1}
use Rattle.hmac_core.specs.Hasher.{HasTaken}
use Rattle.hmac_core.specs.Hmac.{ipad}
use Rattle.hmac_core.specs.Keyed.{IsKeyed}
use Rattle.hmac_core.specs.Unfolded.sha1_steps
use Rattle.hmac_core.specs.declared.hash.Hash.TheVariants as H
use Rattle.hmac_core.specs.declared.hasher.Hasher.{Hasher}
use Rattle.hmac_core.specs.declared.hasher.Hasher.TheVariants.{Sha1, Sha256, Sha512}
use Rattle.otp_core.specs.Acceptance.{Acceptance, ShareNoFactor}
use Rattle.otp_core.specs.Codes.{AreCodesOf}
use Rattle.otp_core.specs.Examples.{accepted, accepted_at, accepted_at_node, accepted_of_other}
use Rattle.otp_core.proofs.ExampleLemmas.{of_two_places, of_any_places}
use Rattle.otp_core.proofs.laws.acceptances_can_be_broken.Goals as goal

abbrev BeganApart : Acceptance → Acceptance → Type 0
BeganApart a b = a.began ≢ b.began

pub returns-clause-twice : goal.returns-clause-twice
returns-clause-twice c h = h.factors 0 1 (accepted_at 0 5) (accepted_at 1 5) (λ e. omega (arith, e)) refl refl refl 5 (omega arith, omega arith) (omega arith, omega arith)

pub returns-clause-twice_at_hi : goal.returns-clause-twice_at_hi
returns-clause-twice_at_hi c h = h.factors 0 1 (accepted 0 0 4 5) (accepted_at 1 5) (λ e. omega (arith, e)) refl refl refl 5 (omega arith, omega arith) (omega arith, omega arith)

pub returns-clause-twice_at_lo : goal.returns-clause-twice_at_lo
returns-clause-twice_at_lo c h = h.factors 0 1 (accepted 0 0 4 5) (accepted_at 1 4) (λ e. omega (arith, e)) refl refl refl 4 (omega arith, omega arith) (omega arith, omega arith)

pub returns-clause-both_at_once : goal.returns-clause-both_at_once
returns-clause-both_at_once c h = h.began 0 1 (accepted_at 0 5) (accepted_of_other 0 6) (λ e. omega (arith, e)) refl refl refl

pub returns-clause-both_at_once_at_nodes : goal.returns-clause-both_at_once_at_nodes
returns-clause-both_at_once_at_nodes c node h = h.began 0 2 (accepted_at 0 5) (accepted_at_node node 0 6) (λ e. omega (arith, e)) refl refl refl

pub returns-clause-twice_at_nodes : goal.returns-clause-twice_at_nodes
returns-clause-twice_at_nodes c node h = h.factors 0 2 (accepted_at 0 5) (accepted_at_node node 2 5) (λ e. omega (arith, e)) refl refl refl 5 (omega arith, omega arith) (omega arith, omega arith)

pub returns-clause-two_tokens : goal.returns-clause-two_tokens
returns-clause-two_tokens c = record {
  began = of_two_places BeganApart (accepted_at 0 5) (accepted_of_other 1 5) (λ e. omega (arith, e)) (λ e. omega (arith, e));
  factors = of_two_places ShareNoFactor (accepted_at 0 5) (accepted_of_other 1 5) (λ e factor f g. omega (arith, e)) (λ e factor f g. omega (arith, e));
}

pub returns-clause-two_factors : goal.returns-clause-two_factors
returns-clause-two_factors c = record {
  began = of_two_places BeganApart (accepted 0 0 4 5) (accepted_at 1 6) (λ e. omega (arith, e)) (λ e. omega (arith, e));
  factors = of_two_places ShareNoFactor (accepted 0 0 4 5) (accepted_at 1 6) (λ e factor f g. let low : 6 ≤ factor = g.0 in let high : factor ≤ 5 = f.1 in omega arith) (λ e factor f g. let low : 6 ≤ factor = f.0 in let high : factor ≤ 5 = g.1 in omega arith);
}

pub returns-clause-older : goal.returns-clause-older
returns-clause-older c h = let less : 5 < 4 = h 0 1 (accepted_at 0 5) (accepted_at 1 4) refl refl refl (omega arith) in omega (arith, less)

pub returns-clause-older_listed_first : goal.returns-clause-older_listed_first
returns-clause-older_listed_first c h = let less : 5 < 4 = h 1 0 (accepted_at 0 5) (accepted_at 1 4) refl refl refl (omega arith) in omega (arith, less)

pub returns-clause-again : goal.returns-clause-again
returns-clause-again c h = let less : 5 < 5 = h 0 1 (accepted_at 0 5) (accepted_at 1 5) refl refl refl (omega arith) in omega (arith, less)

pub returns-clause-again_at_hi : goal.returns-clause-again_at_hi
returns-clause-again_at_hi c h = let less : 5 < 5 = h 0 1 (accepted 0 0 4 5) (accepted_at 1 5) refl refl refl (omega arith) in omega (arith, less)

pub returns-clause-again_at_lo : goal.returns-clause-again_at_lo
returns-clause-again_at_lo c h = let less : 5 < 5 = h 0 1 (accepted_at 0 5) (accepted 1 1 5 6) refl refl refl (omega arith) in omega (arith, less)

pub returns-clause-older_at_nodes : goal.returns-clause-older_at_nodes
returns-clause-older_at_nodes c node h = let less : 5 < 4 = h 0 2 (accepted_at 0 5) (accepted_at_node node 2 4) refl refl refl (omega arith) in omega (arith, less)

abbrev IsAbove : Acceptance → Acceptance → Type 0
IsAbove a b = a.token ≡ b.token → a.ended < b.began → a.hi < b.lo

pub returns-clause-at_once : goal.returns-clause-at_once
returns-clause-at_once c = of_any_places IsAbove (accepted 0 1 5 5) (accepted 1 2 4 4) (λ e l. omega (arith, l)) (λ e l. omega (arith, l)) (λ e l. omega (arith, l)) (λ e l. omega (arith, l))

pub returns-clause-older_of_other : goal.returns-clause-older_of_other
returns-clause-older_of_other c = of_any_places IsAbove (accepted_at 0 5) (accepted_of_other 1 4) (λ e l. omega (arith, l)) (λ e l. omega (arith, e)) (λ e l. omega (arith, l)) (λ e l. omega (arith, l))

pub returns-clause-codes_of_a_key : goal.returns-clause-codes_of_a_key
unfolding AreCodesOf IsKeyed sha1_steps.Holds
returns-clause-codes_of_a_key c = (((refl, (refl, (refl, refl))), (refl, (refl, (refl, refl)))), refl)

pub returns-clause-codes_of_two_keys : goal.returns-clause-codes_of_two_keys
unfolding AreCodesOf IsKeyed
returns-clause-codes_of_two_keys c codes h k = at codes.key.inner h.0.0 k.0.0
  where
    at : (hasher : Hasher) → HasTaken hasher H.Sha1 (block ipad H.Sha1 []) → HasTaken hasher H.Sha1 (block ipad H.Sha1 (7 ∷ [])) → ⊥
    at (Sha1 s) h k = one_key_of_sha1 s h.1 k.1
    at (Sha256 s) h k = no_two H.Sha1 H.Sha256 (λ e. omega (arith, e)) h.0
    at (Sha512 s) h k = no_two H.Sha1 H.Sha512 (λ e. omega (arith, e)) h.0

pub returns-clause-codes_of_two_lengths : goal.returns-clause-codes_of_two_lengths
unfolding AreCodesOf
returns-clause-codes_of_two_lengths c codes h k = let e : 6 ≡ 7 = sym h.1 ∙ k.1 in omega (arith, e)

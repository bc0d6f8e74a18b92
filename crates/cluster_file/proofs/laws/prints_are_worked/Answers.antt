-- Each case is computed.
use Rattle.std.proofs.Common.{◌≡◌, ℕ, zero, suc, true, false, List, [], ◌∷◌, lit≤, lit<, refl, ap, arith, true≢false}
use Rattle.std.specs.Prelude.{slice_index, Contains}
use Rattle.std.proofs.lemmas.List.Sorted.{Contains-permutation}
use Rattle.std.specs.Fmt.{digits}
use Rattle.hex.specs.Hex.{encode_with}
use Rattle.hmac_core.specs.Unfolded.sha256_steps
use Rattle.vote_wire.specs.Key.{tag_of}
use Rattle.cluster_file.proofs.laws.prints_are_worked.Goals as goal

pub returns-clause-order : goal.returns-clause-order
returns-clause-order c = refl

pub returns-clause-text : goal.returns-clause-text
returns-clause-text c = refl

pub returns-clause-no_rows : goal.returns-clause-no_rows
unfolding digits encode_with tag_of sha256_steps.first_words sha256_steps.schedule sha256_steps.rounds sha256_steps.compress sha256_steps.hash_after sha256_steps.digest_bytes sha256_steps.sha256
returns-clause-no_rows c = refl

pub returns-clause-rows : goal.returns-clause-rows
unfolding digits encode_with tag_of sha256_steps.first_words sha256_steps.schedule sha256_steps.rounds sha256_steps.compress sha256_steps.hash_after sha256_steps.digest_bytes sha256_steps.sha256
returns-clause-rows c = refl

pub returns-clause-turned : goal.returns-clause-turned
unfolding digits encode_with tag_of sha256_steps.first_words sha256_steps.schedule sha256_steps.rounds sha256_steps.compress sha256_steps.hash_after sha256_steps.digest_bytes sha256_steps.sha256
returns-clause-turned c = refl

pub returns-clause-falling : goal.returns-clause-falling
returns-clause-falling c = λ sorted. let below : true ≡ false = sorted 0 [] (lit≤ tt) (lit< tt) in true≢false below

pub returns-clause-another : goal.returns-clause-another
returns-clause-another c = λ moved. by (Contains-permutation {X = List ℕ} ((1 ∷ []) ∷ (2 ∷ []) ∷ []) ((1 ∷ []) ∷ (1 ∷ []) ∷ []) (2 ∷ []) moved (1, lit< tt, refl))
  where
    by : Contains {X = List ℕ} ((1 ∷ []) ∷ (1 ∷ []) ∷ []) (2 ∷ []) → ⊥
    by (zero, within, is) = let e : 1 ≡ 2 = ap (λ (text : List ℕ). slice_index text 0) is in omega (arith, e)
    by (suc zero, within, is) = let e : 1 ≡ 2 = ap (λ (text : List ℕ). slice_index text 0) is in omega (arith, e)
    by (suc (suc k), within, is) = omega (arith, within)

-- Fields between single spaces.
use Rattle.std.proofs.Common.{◌≡◌, ℕ, ◌<◌, List, [], ◌∷◌, length, ap, subst, ◌∙◌, arith}
use Rattle.std.specs.Prelude.{◌==◌}
use Rattle.std.proofs.lemmas.List.Splits.{length-slice_split}
use Rattle.client_lines.specs.Request.{Request, IsRequest, fields_of}

no_seventh : (a b c d e f : List ℕ) (rest : List (List ℕ)) → 0 < length rest → (r : Request) → IsRequest (a ∷ b ∷ c ∷ d ∷ e ∷ f ∷ rest) r → ⊥
no_seventh a b c d e f [] more r h = absurd (omega arith)
no_seventh a b c d e f (x ∷ rest) more r h = h

-- seven fields or more are no line
pub too_many : (text rest_1 rest_2 rest_3 rest_4 rest_5 rest_6 a b c d e f : List ℕ)
    → fields_of text ≡ a ∷ fields_of rest_1 → fields_of rest_1 ≡ b ∷ fields_of rest_2 → fields_of rest_2 ≡ c ∷ fields_of rest_3
    → fields_of rest_3 ≡ d ∷ fields_of rest_4 → fields_of rest_4 ≡ e ∷ fields_of rest_5 → fields_of rest_5 ≡ f ∷ fields_of rest_6
    → (r : Request) → IsRequest (fields_of text) r → ⊥
too_many text rest_1 rest_2 rest_3 rest_4 rest_5 rest_6 a b c d e f e1 e2 e3 e4 e5 e6 r h =
    let whole : fields_of text ≡ a ∷ b ∷ c ∷ d ∷ e ∷ f ∷ fields_of rest_6 =
    e1 ∙ ap (λ (l : List (List ℕ)). a ∷ l) (e2 ∙ ap (λ (l : List (List ℕ)). b ∷ l) (e3 ∙ ap (λ (l : List (List ℕ)). c ∷ l)
    (e4 ∙ ap (λ (l : List (List ℕ)). d ∷ l) (e5 ∙ ap (λ (l : List (List ℕ)). e ∷ l) e6)))) in
    let more : 0 < length (fields_of rest_6) = omega (arith, length-slice_split (λ b. b == 32) rest_6) in
    no_seventh a b c d e f (fields_of rest_6) more r (subst (λ (l : List (List ℕ)). IsRequest l r) whole h)

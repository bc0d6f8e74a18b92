-- What one answer more leaves of those that are kept.
use Rattle.std.proofs.Common.{◌≡◌, ℕ, ◌-◌, ◌<◌, List, [], ◌∷◌, ◌++◌, length, drop, ap, ◌∙◌, arith}
use Rattle.std.proofs.lemmas.List.{drop-append-le, length_push}
use Rattle.answer_ring.specs.Answers.{KeptAnswer, kept_with}

pub kept_with_room : (kept : List KeptAnswer) (answer : KeptAnswer) → length kept < 1024 → kept_with kept answer ≡ kept ++ answer ∷ []
kept_with_room kept answer room =
    let none : length (kept ++ answer ∷ []) - 1024 ≡ 0 = omega (arith, length_push kept answer) in
    ap (λ (n : ℕ). drop n (kept ++ answer ∷ [])) none

pub kept_with_full : (kept : List KeptAnswer) (answer : KeptAnswer) → length kept ≡ 1024 → kept_with kept answer ≡ drop 1 kept ++ answer ∷ []
kept_with_full kept answer full =
    let one : length (kept ++ answer ∷ []) - 1024 ≡ 1 = omega (arith, length_push kept answer) in
    ap (λ (n : ℕ). drop n (kept ++ answer ∷ [])) one ∙ drop-append-le 1 kept (answer ∷ []) (omega arith)

-- An input is read to a limit.
use Rattle.std.proofs.Common.{cond, ◌≡◌, ℕ, List, [], take, Option, Some, None, IfSome, refl, ap, subst, ◌∙◌}
use Rattle.std.specs.Prelude.{◌==◌}
use Rattle.std.specs.Option.{option_map}
use Rattle.std.specs.Io.KnownBytes.{prepend_known}

-- a buffer that holds nothing has what its reader has
pub held_none : (capacity : ℕ) (held : List ℕ) (a : Option (List ℕ)) → capacity ≡ 8192 → held ≡ []
    → cond (capacity == 0) None (prepend_known held a) ≡ a
held_none capacity held a sized empty =
    ap (λ (n : ℕ). cond (n == 0) None (prepend_known held a)) sized ∙ ap (λ (l : List ℕ). prepend_known l a) empty ∙ same a
  where
    same : (a : Option (List ℕ)) → prepend_known [] a ≡ a
    same None = refl
    same (Some text) = refl

pub of_front : (a b : Option (List ℕ)) (n : ℕ) (P : List ℕ → Type 0) → b ≡ option_map (take n) a → IfSome b P → IfSome a (λ text. P (take n text))
of_front a b n P is h = at a (subst (λ (o : Option (List ℕ)). IfSome o P) is h)
  where
    at : (o : Option (List ℕ)) → IfSome (option_map (take n) o) P → IfSome o (λ text. P (take n text))
    at None h = tt
    at (Some text) h = h

-- The lines of codes, one factor at a time.
use Rattle.std.proofs.Common.{◌≡◌, ℕ, zero, suc, ◌+◌, List, [], ◌∷◌, ◌++◌, Option, Some, None, append_assoc, sym, ap, ◌∙◌, arith, add-one, append-nil}
use Rattle.std.specs.Io.KnownBytes.{Appends}
use Rattle.std.specs.Prelude.{flat_map}
use Rattle.std.specs.List.{range_with_len}
use Rattle.std.proofs.lemmas.Grind.{flat_map-append}
use Rattle.program_edge.specs.Line.{line_of}
use Rattle.oathtool_core.specs.Codes.{code_at, code_lines}
use Rattle.oathtool_core.specs.declared.codes.Generator.{Generator}

-- one number more at the end
range_more : (a n : ℕ) → range_with_len a (suc n) ≡ range_with_len a n ++ (a + n) ∷ []
range_more a zero = ap (λ (k : ℕ). k ∷ []) (omega arith)
range_more a (suc n) =
    ap (λ (l : List ℕ). a ∷ l) (range_more (a + 1) n ∙ ap (λ (k : ℕ). range_with_len (a + 1) n ++ k ∷ []) (omega arith))

-- one line more at the end
pub code_lines_more : (generator : Generator) (first count : ℕ)
    → code_lines generator first (count + 1) ≡ code_lines generator first count ++ line_of (code_at generator (first + count))
code_lines_more generator first count =
    let line : ℕ → List ℕ = λ factor. line_of (code_at generator factor) in
    ap (λ (k : ℕ). flat_map line (range_with_len first k)) (add-one count)
    ∙ ap (flat_map line) (range_more first count)
    ∙ flat_map-append line (range_with_len first count) ((first + count) ∷ [])
    ∙ ap (λ (l : List ℕ). flat_map line (range_with_len first count) ++ l) (append-nil _)

-- what was written, and what was written then
pub joined : (first second third : Option (List ℕ)) (xs ys zs : List ℕ) → Appends first second xs → Appends second third ys
    → zs ≡ xs ++ ys → Appends first third zs
joined None second third xs ys zs p q e = tt
joined (Some a) None third xs ys zs p q e = absurd p
joined (Some a) (Some b) None xs ys zs p q e = absurd q
joined (Some a) (Some b) (Some c) xs ys zs p q e =
    q ∙ ap (λ (l : List ℕ). l ++ ys) p ∙ append_assoc a xs ys ∙ ap (λ (l : List ℕ). a ++ l) (sym e)

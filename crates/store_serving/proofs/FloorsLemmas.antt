-- The floors of rows, one after the other.
use Rattle.std.proofs.Common.{◌≡◌, ℕ, zero, suc, ◌+◌, ◌<◌, List, [], ◌∷◌, ◌++◌, length, map, take, slice_get, sym, ap, ◌∙◌, arith}
use Rattle.std.specs.Prelude.{IfSome}
use Rattle.floor_store.specs.Records.{RowRecord}

-- the floors of some rows
abbrev pub nexts : List RowRecord → List ℕ
nexts rows = map (λ row. row.next) rows

next_on : (place : ℕ) (rows : List RowRecord) (next : ℕ) → IfSome (slice_get rows place) (λ row. row.next ≡ next) → place < length rows
    → nexts (take (suc place) rows) ≡ nexts (take place rows) ++ next ∷ []
next_on place [] next is within = absurd (omega (arith, within))
next_on zero (row ∷ rows) next is within = ap (λ (n : ℕ). n ∷ []) is
next_on (suc place) (row ∷ rows) next is within =
    ap (λ (l : List ℕ). row.next ∷ l) (next_on place rows next is (omega (arith, within)))

-- one row more
pub one_more : (place : ℕ) (rows : List RowRecord) (next : ℕ) (before after : List ℕ) → place < length rows
    → IfSome (slice_get rows place) (λ row. row.next ≡ next) → after ≡ before ++ next ∷ []
    → before ≡ nexts (take place rows) → after ≡ nexts (take (place + 1) rows)
one_more place rows next before after within is more so_far =
    let on : place + 1 ≡ suc place = omega arith in
    more ∙ ap (λ (l : List ℕ). l ++ next ∷ []) so_far ∙ sym (next_on place rows next is within)
    ∙ sym (ap (λ (n : ℕ). nexts (take n rows)) on)

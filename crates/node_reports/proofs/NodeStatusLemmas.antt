-- The closed tokens of rows, one after the other.
use Rattle.std.proofs.Common.{◌≡◌, ℕ, zero, suc, ◌+◌, ◌<◌, Bool, true, false, cond, List, [], ◌∷◌, ◌++◌, length, map, take, get_or, slice_get, sym, ap, ◌∙◌, append_assoc, arith}
use Rattle.std.specs.List.{concat}
use Rattle.std.proofs.lemmas.List.{append-nil}
use Rattle.std.specs.Prelude.{IfSome}
use Rattle.floor_store.specs.Records.{RowRecord}
use Rattle.node_reports.specs.NodeStatus.{closed_in, is_closed}

-- the number of closed tokens with one more row
closed_on : (moment place : ℕ) (rows : List RowRecord) (closed : Bool) → IfSome (slice_get rows place) (λ row. closed ≡ is_closed moment row)
    → place < length rows → closed_in moment (take (suc place) rows) ≡ closed_in moment (take place rows) + cond closed 1 0
closed_on moment place [] closed is within = absurd (omega (arith, within))
closed_on moment zero (row ∷ rows) closed is within =
    ap (λ (b : Bool). cond b 1 0 + 0) (sym is) ∙ omega arith
closed_on moment (suc place) (row ∷ rows) closed is within =
    let more = closed_on moment place rows closed is (omega (arith, within)) in
    ap (λ (n : ℕ). cond (is_closed moment row) 1 0 + n) more ∙ omega arith

pub one_closed : (moment place : ℕ) (rows : List RowRecord) (before : ℕ) → place < length rows
    → IfSome (slice_get rows place) (λ row. true ≡ is_closed moment row) → before ≡ closed_in moment (take place rows)
    → before + 1 ≡ closed_in moment (take (place + 1) rows)
one_closed moment place rows before within is so_far =
    let on : place + 1 ≡ suc place = omega arith in
    ap (λ (n : ℕ). n + 1) so_far ∙ sym (closed_on moment place rows true is within) ∙ ap (λ (n : ℕ). closed_in moment (take n rows)) (sym on)

pub one_open : (moment place : ℕ) (rows : List RowRecord) (before : ℕ) → place < length rows
    → IfSome (slice_get rows place) (λ row. false ≡ is_closed moment row) → before ≡ closed_in moment (take place rows)
    → before ≡ closed_in moment (take (place + 1) rows)
one_open moment place rows before within is so_far =
    let on : place + 1 ≡ suc place = omega arith in
    let none : closed_in moment (take place rows) ≡ closed_in moment (take place rows) + 0 = omega arith in
    so_far ∙ none ∙ sym (closed_on moment place rows false is within) ∙ ap (λ (n : ℕ). closed_in moment (take n rows)) (sym on)

-- ---- lines

more : {A : Type 0} (text : A → List ℕ) (place : ℕ) (lines : List A) (other : A) → place < length lines
    → concat (map text (take (suc place) lines)) ≡ concat (map text (take place lines)) ++ text (get_or lines place other)
more text place [] other within = absurd (omega (arith, within))
more text zero (line ∷ lines) other within = append-nil (text line)
more text (suc place) (line ∷ lines) other within =
    ap (λ (l : List ℕ). text line ++ l) (more text place lines other (omega (arith, within)))
    ∙ sym (append_assoc (text line) (concat (map text (take place lines))) (text (get_or lines place other)))

-- the text of one line more
pub lines_on : {A : Type 0} (text : A → List ℕ) (place : ℕ) (lines : List A) (other : A) → place < length lines
    → concat (map text (take place lines)) ++ text (get_or lines place other) ≡ concat (map text (take (place + 1) lines))
lines_on text place lines other within =
    let on : suc place ≡ place + 1 = omega arith in
    sym (more text place lines other within) ∙ ap (λ (n : ℕ). concat (map text (take n lines))) on

-- The lines of a text, one byte at a time.
use Rattle.std.proofs.Common.{◌≡◌, ℕ, ◌+◌, Bool, true, false, cond, List, [], ◌∷◌, ◌++◌, length, Option, Some, None, Err, refl, sym, ap, subst, ◌∙◌, append_assoc}
use Rattle.std.specs.Prelude.{nat_lt}
use Rattle.std.specs.List.{onto_first}
use Rattle.std.proofs.lemmas.List.{append-nil}
use Rattle.std.proofs.lemmas.List.Splits.{slice_split-cons_yes, slice_split-cons_no}
use Rattle.token_file.specs.declared.fault.LineFault.{LineFault}
use Rattle.token_file.specs.declared.fault.LineFault.TheVariants.{LineTooLong}
use Rattle.token_file.specs.Fields.{is_line_end, lines_of}
use Rattle.token_file.specs.UsersFile.{Import, Instant, after_line, after_lines, at_line, outcome_then}
use Rattle.token_file.specs.Reading.{onto_line, outcome_of_rest}

join_first : (begun : List ℕ) (b : ℕ) (lines : List (List ℕ)) → onto_line begun (onto_first b lines) ≡ onto_line (begun ++ b ∷ []) lines
join_first begun b [] = refl
join_first begun b (line ∷ lines) = ap (λ (first : List ℕ). first ∷ lines) (sym (append_assoc begun (b ∷ []) line))

-- a byte of the line
pub outcome_of_rest-byte : (cut : Option LineFault) (at : Instant) (number : ℕ) (so_far : Import) (begun : List ℕ) (b : ℕ) (rest : List ℕ) → is_line_end b ≡ false
    → outcome_of_rest cut at number so_far begun (b ∷ rest) ≡ outcome_of_rest cut at number so_far (begun ++ b ∷ []) rest
outcome_of_rest-byte cut at number so_far begun b rest is =
    ap (after_lines cut at number so_far) (ap (onto_line begun) (slice_split-cons_no is_line_end b rest is) ∙ join_first begun b (lines_of rest))

-- a text has a first line
pub record HasLine (lines : List (List ℕ)) : Type 0 where
  pub first : List ℕ
  pub others : List (List ℕ)
  pub parts : lines ≡ first ∷ others

onto_has : (b : ℕ) (lines : List (List ℕ)) → HasLine (onto_first b lines)
onto_has b [] = record { first = b ∷ []; others = []; parts = refl }
onto_has b (line ∷ lines) = record { first = b ∷ line; others = lines; parts = refl }

line_at : (b : ℕ) (rest : List ℕ) (t : Bool) → HasLine (cond t ([] ∷ lines_of rest) (onto_first b (lines_of rest)))
line_at b rest true = record { first = []; others = lines_of rest; parts = refl }
line_at b rest false = onto_has b (lines_of rest)

pub has_line : (text : List ℕ) → HasLine (lines_of text)
has_line [] = record { first = []; others = []; parts = refl }
has_line (b ∷ rest) = line_at b rest (is_line_end b)

-- the lines after an LF
after_end : (cut : Option LineFault) (at : Instant) (number : ℕ) (so_far : Import) (begun : List ℕ) (lines : List (List ℕ)) → HasLine lines
    → after_lines cut at number so_far ((begun ++ []) ∷ lines) ≡ outcome_then (at_line number (after_line at so_far begun)) (λ import. after_lines cut at (number + 1) import (onto_line [] lines))
after_end cut at number so_far begun lines h =
    subst (λ (ls : List (List ℕ)). after_lines cut at number so_far ((begun ++ []) ∷ ls) ≡ outcome_then (at_line number (after_line at so_far begun)) (λ import. after_lines cut at (number + 1) import (onto_line [] ls))) (sym h.parts)
    (ap (λ (line : List ℕ). outcome_then (at_line number (after_line at so_far line)) (λ import. after_lines cut at (number + 1) import (h.first ∷ h.others))) (append-nil begun))

pub outcome_of_rest-end : (cut : Option LineFault) (at : Instant) (number : ℕ) (so_far : Import) (begun : List ℕ) (b : ℕ) (rest : List ℕ) → is_line_end b ≡ true
    → outcome_of_rest cut at number so_far begun (b ∷ rest) ≡ outcome_then (at_line number (after_line at so_far begun)) (λ import. outcome_of_rest cut at (number + 1) import [] rest)
outcome_of_rest-end cut at number so_far begun b rest is =
    ap (after_lines cut at number so_far) (ap (onto_line begun) (slice_split-cons_yes is_line_end b rest is)) ∙ after_end cut at number so_far begun (lines_of rest) (has_line rest)

-- a line that is too long
pub too_long : (cut : Option LineFault) (at : Instant) (number : ℕ) (so_far : Import) (line : List ℕ) (lines : List (List ℕ)) → nat_lt 4096 (length line) ≡ true
    → after_lines cut at number so_far (line ∷ lines) ≡ Err (number, LineTooLong)
too_long None at number so_far line [] long = rw long refl
too_long (Some fault) at number so_far line [] long = rw long refl
too_long cut at number so_far line (next ∷ lines) long = rw long refl

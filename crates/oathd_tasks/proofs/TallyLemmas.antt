-- Rows that are counted one after the other.
use Rattle.std.proofs.Common.{◌≡◌, ℕ, suc, add-one, ◌+◌, ◌<◌, ◌≤◌, List, ◌∷◌, length, drop, refl, sym, ap, ◌∙◌, arith, get_or}
use Rattle.std.proofs.Math.ListN.{drop_of_length-le}
use Rattle.std.proofs.Math.Seq.{drop-cons}
use Rattle.token_file.specs.Fields.{fields_of}
use Rattle.oathd_tasks.specs.Tally.{Tally, after_fields, no_rows, tally_from}

-- the next line, followed by the others
next_line : (lines : List (List ℕ)) (number : ℕ) (line : List ℕ) → number < length lines → line ≡ get_or lines number line
    → drop number lines ≡ line ∷ drop (number + 1) lines
next_line lines number line within is =
    rw (add-one, drop-cons lines number line within) (ap (λ x. x ∷ drop (suc number) lines) (sym is))

-- the place of a line, by the number of those before it
pub at_number : (lines : List (List ℕ)) (number place : ℕ) (line : List ℕ) → number ≡ place → place < length lines → line ≡ get_or lines place line
    → (number < length lines) × (line ≡ get_or lines number line)
at_number lines number place line e within is = (omega arith, rw e is)

-- the first `number` lines are counted as `tally`
pub record HasCounted (lines : List (List ℕ)) (tally : Tally) (number : ℕ) : Type 0 where
  pub so_far : tally_from 1 no_rows lines ≡ tally_from (number + 1) tally (drop number lines)

pub counted_next : (lines : List (List ℕ)) (tally : Tally) (number : ℕ) (line : List ℕ) (new : Tally) → number < length lines
    → line ≡ get_or lines number line → new ≡ after_fields (number + 1) (fields_of line) tally → HasCounted lines tally number
    → HasCounted lines new (number + 1)
counted_next lines tally number line new within is e has = record {
  so_far = has.so_far ∙ ap (tally_from (number + 1) tally) (next_line lines number line within is)
      ∙ ap (λ t. tally_from (number + 1 + 1) t (drop (number + 1) lines)) (sym e);
}

pub counted_all : (lines : List (List ℕ)) (tally : Tally) (number : ℕ) → length lines ≤ number → HasCounted lines tally number
    → tally ≡ tally_from 1 no_rows lines
counted_all lines tally number le has =
    sym (has.so_far ∙ ap (tally_from (number + 1) tally) (drop_of_length-le lines le))

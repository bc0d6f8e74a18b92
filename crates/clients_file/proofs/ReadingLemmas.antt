-- Lines that are read one after the other.
use Rattle.std.proofs.Common.{◌≡◌, ℕ, suc, add-one, ◌+◌, ◌<◌, ◌≤◌, List, ◌∷◌, length, drop, refl, sym, ap, ◌∙◌, arith, get_or}
use Rattle.std.specs.Prelude.{Ok, Err}
use Rattle.std.proofs.Math.ListN.{drop_of_length-le}
use Rattle.std.proofs.Math.Seq.{drop-cons}
use Rattle.token_file.specs.Fields.{fields_of}
use Rattle.clients_file.specs.declared.fault.LineFault.{LineFault}
use Rattle.clients_file.specs.ClientsFile.{after_lines, at_line}
use Rattle.clients_file.specs.Fields.{◌>>=◌}
use Rattle.clients_file.specs.Said.{Said, after_fields, nothing_said}

-- the next line, followed by the others
next_line : (lines : List (List ℕ)) (number : ℕ) (line : List ℕ) → number < length lines → line ≡ get_or lines number line
    → drop number lines ≡ line ∷ drop (number + 1) lines
next_line lines number line within is =
    rw (add-one, drop-cons lines number line within) (ap (λ x. x ∷ drop (suc number) lines) (sym is))

-- the place of a line, by the number of those before it
pub at_number : (lines : List (List ℕ)) (number place : ℕ) (line : List ℕ) → number ≡ place → place < length lines → line ≡ get_or lines place line
    → (number < length lines) × (line ≡ get_or lines number line)
at_number lines number place line e within is = (omega arith, rw e is)

-- the first `number` lines are read as `said`
pub record HasSaid (lines : List (List ℕ)) (said : Said) (number : ℕ) : Type 0 where
  pub so_far : after_lines 1 nothing_said lines ≡ after_lines (number + 1) said (drop number lines)

pub said_none : (lines : List (List ℕ)) → HasSaid lines nothing_said 0
said_none lines = record { so_far = refl }

said_to : (lines : List (List ℕ)) (said : Said) (number : ℕ) (line : List ℕ) → number < length lines → line ≡ get_or lines number line
    → HasSaid lines said number
    → after_lines 1 nothing_said lines
    ≡ (at_line (number + 1) (after_fields said (fields_of line)) >>= λ new. after_lines (number + 1 + 1) new (drop (number + 1) lines))
said_to lines said number line within is has =
    has.so_far ∙ ap (λ left. after_lines (number + 1) said left) (next_line lines number line within is)

pub said_next : (lines : List (List ℕ)) (said : Said) (number : ℕ) (line : List ℕ) (new : Said) → number < length lines
    → line ≡ get_or lines number line → after_fields said (fields_of line) ≡ Ok new → HasSaid lines said number → HasSaid lines new (number + 1)
said_next lines said number line new within is e has = record {
  so_far = said_to lines said number line within is has
      ∙ ap (λ o. at_line (number + 1) o >>= λ next. after_lines (number + 1 + 1) next (drop (number + 1) lines)) e;
}

pub said_bad : (lines : List (List ℕ)) (said : Said) (number : ℕ) (line : List ℕ) (fault : LineFault) → number < length lines
    → line ≡ get_or lines number line → after_fields said (fields_of line) ≡ Err fault → HasSaid lines said number
    → after_lines 1 nothing_said lines ≡ Err (number + 1, fault)
said_bad lines said number line fault within is e has =
    said_to lines said number line within is has
    ∙ ap (λ o. at_line (number + 1) o >>= λ next. after_lines (number + 1 + 1) next (drop (number + 1) lines)) e

pub said_all : (lines : List (List ℕ)) (said : Said) (number : ℕ) → length lines ≤ number → HasSaid lines said number
    → after_lines 1 nothing_said lines ≡ Ok said
said_all lines said number le has =
    has.so_far ∙ ap (λ left. after_lines (number + 1) said left) (drop_of_length-le lines le)

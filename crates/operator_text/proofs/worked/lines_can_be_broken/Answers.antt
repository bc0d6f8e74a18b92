use Rattle.std.proofs.Common.{◌≡◌, ℕ, false, [], ◌∷◌, refl, arith}
use Rattle.std.specs.Prelude.{◌==◌, All}
use Rattle.std.proofs.lemmas.List.Elements.{All-cons, All-nil, All-replicate}
use Rattle.operator_text.specs.Examples.{letters}
use Rattle.operator_text.specs.Page.{IsLine}
use Rattle.operator_text.proofs.worked.lines_can_be_broken.Goals as goal

pub returns-clause-line : goal.returns-clause-line
returns-clause-line c = record {
  text = letters 511;
  is = refl;
  has_one_lf = All-replicate (λ byte. (byte == 10) ≡ false) 511 97 refl;
  most = omega arith;
}

short_line : (letter : ℕ) → (letter == 10) ≡ false → IsLine (letter ∷ 10 ∷ [])
short_line letter other = record {
  text = letter ∷ [];
  is = refl;
  has_one_lf = All-cons (λ byte. (byte == 10) ≡ false) letter [] other (All-nil (λ byte. (byte == 10) ≡ false));
  most = omega arith;
}

pub returns-clause-lines : goal.returns-clause-lines
returns-clause-lines c =
    let second : All IsLine ((98 ∷ 10 ∷ []) ∷ []) = All-cons IsLine (98 ∷ 10 ∷ []) [] (short_line 98 refl) (All-nil IsLine) in
    record { each = All-cons IsLine (97 ∷ 10 ∷ []) ((98 ∷ 10 ∷ []) ∷ []) (short_line 97 refl) second; most = omega arith }

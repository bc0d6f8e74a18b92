use Rattle.std.proofs.Common.{◌≡◌, ℕ, false, [], ◌∷◌, length, refl, ap, arith}
use Rattle.std.specs.Prelude.{◌==◌}
use Rattle.std.proofs.lemmas.List.Elements.{All-cons, All-nil}
use Rattle.operator_text.specs.Page.{IsLine}
use Rattle.node_reports.proofs.laws.texts_are_worked.Goals as goal

abbrev is_other : ℕ → Type 0
is_other byte = (byte == 10) ≡ false

one : IsLine (97 ∷ 10 ∷ [])
one = record {
  text = 97 ∷ [];
  is = refl;
  has_one_lf = All-cons is_other 97 [] refl (All-nil is_other);
  most = omega arith;
}

two : IsLine (98 ∷ 99 ∷ 10 ∷ [])
two = record {
  text = 98 ∷ 99 ∷ [];
  is = refl;
  has_one_lf = All-cons is_other 98 (99 ∷ []) refl (All-cons is_other 99 [] refl (All-nil is_other));
  most = omega arith;
}

pub returns-clause-text : goal.returns-clause-text
returns-clause-text c = record {
  lines = record {
    each = All-cons IsLine (97 ∷ 10 ∷ []) ((98 ∷ 99 ∷ 10 ∷ []) ∷ []) one (All-cons IsLine (98 ∷ 99 ∷ 10 ∷ []) [] two (All-nil IsLine));
    most = omega arith;
  };
  whole = refl;
}

pub returns-clause-no_text : goal.returns-clause-no_text
returns-clause-no_text c is = absurd (omega (arith, ap length is.whole))

-- What a log that waits holds.
use Rattle.std.proofs.Common.{◌≡◌, ◌<◌, ◌≤◌, ℕ, zero, suc, ◌+◌, ◌==◌, true, Option, List, [], ◌∷◌, ◌++◌, length, take, drop, refl, sym, ap, ◌∙◌, subst, arith, append_assoc, append-nil, take-append-drop}
use Rattle.std.specs.Io.KnownBytes.{Appends}
use Rattle.std.proofs.KnownBytes.{Appends-trans}
use Rattle.std.proofs.lemmas.Bool.{eq-eqb}
use Rattle.std.proofs.lemmas.List.Sums.{sum_by-append}
use Rattle.log_writer.specs.Waiting.{IsTaken, count_ends, dropped_line, dropped_text}

-- of a line of lost lines there is one if there are any
pub dropped_some : (number : ℕ) → 0 < number → dropped_text number ≡ dropped_line number
unfolding dropped_text
dropped_some zero some = absurd (omega (arith, some))
dropped_some (suc n) some = refl

pub dropped_none : (number : ℕ) → number ≤ 0 → dropped_text number ≡ []
unfolding dropped_text
dropped_none zero none = refl
dropped_none (suc n) none = absurd (omega (arith, none))

-- words, digits and an LF are appended one after the other
pub line_pushed : (old first second third words digits text : List ℕ) → first ≡ old ++ words → second ≡ first ++ text
    → text ≡ digits → third ≡ second ++ 10 ∷ [] → third ≡ old ++ (words ++ (digits ++ 10 ∷ []))
line_pushed old first second third words digits text one two is three =
    three ∙ ap (λ t. t ++ 10 ∷ []) (two ∙ ap (λ t. t ++ text) one ∙ ap (λ t. (old ++ words) ++ t) is)
    ∙ append_assoc (old ++ words) digits (10 ∷ []) ∙ append_assoc old words (digits ++ 10 ∷ [])

-- the writer did not take all of the first text
pub first_taken : (before lines : List ℕ) (told : ℕ) (old new : Option (List ℕ)) → told ≤ length before
    → Appends old new (take told before) → IsTaken before lines told 0 old new
first_taken before lines told old new fits first = record {
  is_told = fits;
  is_passed = omega arith;
  in_order = λ _. refl;
  below = subst (Appends old new) (sym (append-nil (take told before))) first;
}

-- it did, and took some of the other
pub both_taken : (before lines : List ℕ) (told passed : ℕ) (old mid new : Option (List ℕ)) → told ≤ length before
    → length before ≤ told → passed ≤ length lines → Appends old mid (take told before)
    → Appends mid new (take passed lines) → IsTaken before lines told passed old new
both_taken before lines told passed old mid new fits all more first second = record {
  is_told = fits;
  is_passed = more;
  in_order = λ less. absurd (omega (arith, less, all));
  below = Appends-trans old mid new (take told before) (take passed lines) first second;
}

pub same : (n : ℕ) → (n == n) ≡ true
same n = eq-eqb n n refl

-- the lines of a text end before a place or after it
pub ends_split : (place : ℕ) (text : List ℕ) → count_ends (take place text) + count_ends (drop place text) ≡ count_ends text
ends_split place text =
    sym (sum_by-append _ (take place text) (drop place text)) ∙ ap count_ends (take-append-drop place text)

-- The requests have one spelling.
use Rattle.std.proofs.Common.{◌≡◌, ℕ, ◌^◌, ◌<◌, ◌≤◌, Bool, true, false, cond, List, [], ◌∷◌, ◌++◌, length, Option, Some, None, refl, sym, ap, subst, ◌∙◌, arith, length-append}
use Rattle.std.specs.Prelude.{◌&&◌, IsTrue, codes, nat_le}
use Rattle.std.specs.Fmt.{decimal}
use Rattle.std.specs.List.{list_all}
use Rattle.std.specs.Option.{option_map}
use Rattle.std.specs.Str.{bytes_eq}
use Rattle.std.proofs.lemmas.Bool.{and_parts, leb-true}
use Rattle.std.proofs.lemmas.Fmt.{length-decimal-le}
use Rattle.std.proofs.lemmas.Slice.Eq.{bytes_eq-Decides}
use Rattle.field_text.specs.Cut.{Halves, halves_of}
use Rattle.field_text.specs.Word.{is_visible, is_word}
use Rattle.operator_text.specs.Number.{line_number}
use Rattle.operator_text.specs.Request.{IsWish, Wish, Lines, OpenGate, Ending, lines_of, report_of, report_word, request_at, request_text, unlock_of, wish_at, wish_with}
use Rattle.operator_text.specs.declared.request.Report.{Report}
use Rattle.operator_text.specs.declared.request.Report.TheVariants.{Status, Gates, Floors, Passes, Roster}
use Rattle.operator_text.proofs.CutLemmas.{cut_joined, joined_cut}
use Rattle.operator_text.proofs.NumberLemmas.{number_back, number_is}

abbrev present : {A : Type 0} → A → Option A
present x = Some x

some_is : {A : Type 0} (x y : A) → present x ≡ present y → x ≡ y
some_is x y e = cc

-- ---- what is read was written so

if_some : {A : Type 0} (test : Bool) (x y : A) → cond test (Some x) None ≡ Some y → (test ≡ true) × (x ≡ y)
if_some true x y e = (refl, some_is x y e)
if_some false x y e = absurd cc

same : (text word : List ℕ) → bytes_eq text word ≡ true → text ≡ word
same text word e = (bytes_eq-Decides text word).0 e

-- one word of a list of words, and the rest of the list
named : (test : Bool) (word text : List ℕ) (this report : Report) (rest : Option Report) → (test ≡ true → text ≡ report_word this)
    → (rest ≡ Some report → text ≡ report_word report) → cond test (Some this) rest ≡ Some report → text ≡ report_word report
named true word text this report rest here there e = here refl ∙ ap report_word (some_is this report e)
named false word text this report rest here there e = there e

none_is : (text : List ℕ) (report : Report) → (let none : Option Report = None in none ≡ Some report) → text ≡ report_word report
none_is text report e = absurd cc

report_is : (text : List ℕ) (report : Report) → report_of text ≡ Some report → text ≡ report_word report
report_is text report e =
    named _ [] text Status report _ (same text (codes "STATUS"))
    (named _ [] text Gates report _ (same text (codes "GATES"))
    (named _ [] text Floors report _ (same text (codes "FLOORS"))
    (named _ [] text Passes report _ (same text (codes "PASSES"))
    (named _ [] text Roster report _ (same text (codes "ROSTER")) (none_is text report))))) e

-- a wish and its text
abbrev Spells : List ℕ → Wish → Type 0
Spells text wish = IsWish wish × (text ≡ request_text wish)

lines_text : (report : Report) (from : ℕ) → report_word report ++ 32 ∷ decimal from ≡ request_text (Lines report from)
lines_text Status from = refl
lines_text Gates from = refl
lines_text Floors from = refl
lines_text Passes from = refl
lines_text Roster from = refl

lines_are : (word field : List ℕ) (report : Option Report) (from : Option ℕ) (wish : Wish) → report_of word ≡ report → line_number field ≡ from
    → lines_of report from ≡ Some wish → Spells (word ++ 32 ∷ field) wish
lines_are word field None from wish r n e = absurd cc
lines_are word field (Some report) None wish r n e = absurd cc
lines_are word field (Some report) (Some from) wish r n e =
    let number = number_is field from n in
    let text : word ++ 32 ∷ field ≡ request_text (Lines report from) =
    ap (λ (w : List ℕ). w ++ 32 ∷ field) (report_is word report r) ∙ ap (λ (f : List ℕ). report_word report ++ 32 ∷ f) number.1 ∙ lines_text report from in
    subst (λ (w : Wish). Spells (word ++ 32 ∷ field) w) (some_is (Lines report from) wish e) (number.0, text)

unlock_is : (word field : List ℕ) (wish : Wish) → word ≡ codes "UNLOCK" → unlock_of field ≡ Some wish → Spells (word ++ 32 ∷ field) wish
unlock_is word field wish w e =
    let named = if_some (is_word field) (OpenGate field) wish e in
    subst (λ (v : Wish). Spells (word ++ 32 ∷ field) v) named.1 (named.0, ap (λ (l : List ℕ). l ++ 32 ∷ field) w)

two_words : (test : Bool) (word field : List ℕ) (wish : Wish) → (test ≡ true → word ≡ codes "UNLOCK")
    → cond test (unlock_of field) (lines_of (report_of word) (line_number field)) ≡ Some wish → Spells (word ++ 32 ∷ field) wish
two_words true word field wish is e = unlock_is word field wish (is refl) e
two_words false word field wish is e = lines_are word field (report_of word) (line_number field) wish refl refl e

wish_is : (text : List ℕ) (halves : Option Halves) (wish : Wish) → halves_of 32 text ≡ halves → wish_at text halves ≡ Some wish → Spells text wish
wish_is text None wish at e =
    let drain = if_some (bytes_eq text (codes "DRAIN")) Ending wish e in
    subst (λ (v : Wish). Spells text v) drain.1 (tt, same text (codes "DRAIN") drain.0)
wish_is text (Some halves) wish at e =
    subst (λ (l : List ℕ). Spells l wish) (sym (joined_cut 32 text halves at))
    (two_words (bytes_eq halves.before (codes "UNLOCK")) halves.before halves.behind wish (same halves.before (codes "UNLOCK")) e)

pub spelled_so : (text : List ℕ) (wish : Wish) → request_at text ≡ Some wish → Spells text wish
spelled_so text wish e = wish_is text (halves_of 32 text) wish refl e

-- ---- what is written is read back

words_back : (report : Report) (from : ℕ) → from < 2 ^ 32 → wish_with (report_word report) (decimal from) ≡ Some (Lines report from)
words_back Status from low = rw (number_back from low) refl
words_back Gates from low = rw (number_back from low) refl
words_back Floors from low = rw (number_back from low) refl
words_back Passes from low = rw (number_back from low) refl
words_back Roster from low = rw (number_back from low) refl

no_space : (report : Report) → list_all (λ b. Rattle.std.specs.Prelude.not (Rattle.std.specs.Prelude.◌==◌ b 32)) (report_word report) ≡ true
no_space Status = refl
no_space Gates = refl
no_space Floors = refl
no_space Passes = refl
no_space Roster = refl

pub back : (wish : Wish) → IsWish wish → request_at (request_text wish) ≡ Some wish
back (Lines report from) low =
    ap request_at (sym (lines_text report from)) ∙ ap (wish_at (report_word report ++ 32 ∷ decimal from)) (cut_joined 32 (report_word report) (decimal from) (no_space report))
    ∙ words_back report from low
back (OpenGate user) is =
    ap (wish_at (codes "UNLOCK" ++ 32 ∷ user)) (cut_joined 32 (codes "UNLOCK") user refl) ∙ rw is refl
back Ending is = refl

pub spelling : (text : List ℕ) (wish : Wish) → (request_at text ≡ Some wish → Spells text wish) × (Spells text wish → request_at text ≡ Some wish)
spelling text wish = (spelled_so text wish, λ h. ap request_at h.1 ∙ back wish h.0)

word_len : (report : Report) → length (report_word report) ≤ 6
word_len Status = omega arith
word_len Gates = omega arith
word_len Floors = omega arith
word_len Passes = omega arith
word_len Roster = omega arith

-- no request is longer than the array that the writer makes
pub short : (wish : Wish) → IsWish wish → length (request_text wish) ≤ 71
short (Lines report from) low =
    omega (arith, word_len report, ap length (lines_text report from), length-append (report_word report) (32 ∷ decimal from), length-decimal-le 10 from (omega arith) (omega arith) (omega arith))
short (OpenGate user) is =
    let parts = and_parts (nat_le 1 (length user) && nat_le (length user) 64) (list_all is_visible user) is in
    let sizes = and_parts (nat_le 1 (length user)) (nat_le (length user) 64) parts.0 in
    omega (arith, leb-true (length user) 64 sizes.1)
short Ending is = omega arith

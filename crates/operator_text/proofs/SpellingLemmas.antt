-- A page that is read is spelled as it is written.
use Rattle.std.proofs.Common.{◌≡◌, ℕ, Bool, true, false, cond, List, [], ◌∷◌, ◌++◌, Option, Some, None, refl, sym, ap, ◌∙◌, append_assoc}
use Rattle.std.specs.Prelude.{◌==◌, codes}
use Rattle.std.specs.List.{join_with_byte, slice_split}
use Rattle.std.specs.Option.{option_map}
use Rattle.std.specs.Str.{bytes_eq}
use Rattle.std.proofs.lemmas.List.Splits.{join_with_byte-slice_split}
use Rattle.std.proofs.lemmas.Slice.Eq.{bytes_eq-Decides}
use Rattle.field_text.specs.Cut.{Halves, halves_of}
use Rattle.operator_text.specs.Number.{line_number}
use Rattle.operator_text.specs.Page.{PageRecord, last_line, page_text}
use Rattle.operator_text.specs.Reading.{LastCut, after_line, ending_of, last_cut, last_of, next_of, page_at, page_of_cut}
use Rattle.operator_text.proofs.CutLemmas.{joined_cut}
use Rattle.operator_text.proofs.NumberLemmas.{number_is}

abbrev present : {A : Type 0} → A → Option A
present x = Some x

some_is : {A : Type 0} (x y : A) → present x ≡ present y → x ≡ y
some_is x y e = cc

mapped : {A B : Type 0} (f : A → B) (o : Option A) (y : B) → option_map f o ≡ Some y → (x : A) × (o ≡ Some x) × (f x ≡ y)
mapped f (Some x) y e = (x, refl, some_is (f x) y e)
mapped f None y e = absurd cc

-- ---- the cut

abbrev cut_text : LastCut → List ℕ
cut_text cut = cut.before ++ (cut.last ++ 10 ∷ [])

one_more : (part : List ℕ) (parts : List (List ℕ)) (cut : LastCut) → option_map (after_line part) (last_of parts) ≡ Some cut
    → ((inner : LastCut) → last_of parts ≡ Some inner → join_with_byte 10 parts ≡ cut_text inner)
    → part ++ 10 ∷ join_with_byte 10 parts ≡ cut_text cut
one_more part parts cut e more =
    let is = mapped (after_line part) (last_of parts) cut e in
    ap (λ (l : List ℕ). part ++ 10 ∷ l) (more is.0 is.1)
    ∙ sym (append_assoc part (10 ∷ is.0.before) (is.0.last ++ 10 ∷ []))
    ∙ ap cut_text is.2

parts_text : (parts : List (List ℕ)) (cut : LastCut) → last_of parts ≡ Some cut → join_with_byte 10 parts ≡ cut_text cut
parts_text [] cut e = absurd cc
parts_text ([] ∷ []) cut e = absurd cc
parts_text ((b ∷ part) ∷ []) cut e = absurd cc
parts_text (part ∷ [] ∷ []) cut e = ap cut_text (some_is (record { before = []; last = part }) cut e)
parts_text (part ∷ [] ∷ next ∷ parts) cut e = one_more part ([] ∷ next ∷ parts) cut e (parts_text ([] ∷ next ∷ parts))
parts_text (part ∷ (b ∷ other) ∷ []) cut e = one_more part ((b ∷ other) ∷ []) cut e (parts_text ((b ∷ other) ∷ []))
parts_text (part ∷ (b ∷ other) ∷ next ∷ parts) cut e = one_more part ((b ∷ other) ∷ next ∷ parts) cut e (parts_text ((b ∷ other) ∷ next ∷ parts))

cut_is : (bytes : List ℕ) (cut : LastCut) → last_cut bytes ≡ Some cut → bytes ≡ cut_text cut
cut_is bytes cut e = sym (join_with_byte-slice_split 10 bytes) ∙ parts_text (slice_split (λ b. b == 10) bytes) cut e

-- ---- the last line

next_is : (test : Bool) (word number : List ℕ) (ending : Option ℕ) → (test ≡ true → word ≡ codes "next")
    → cond test (option_map (λ n. Some n) (line_number number)) None ≡ Some ending → (word ++ 32 ∷ number) ++ 10 ∷ [] ≡ last_line ending
next_is false word number ending is e = absurd cc
next_is true word number ending is e =
    let n = mapped (λ (n : ℕ). present n) (line_number number) ending e in
    ap (λ (l : List ℕ). (l ++ 32 ∷ number) ++ 10 ∷ []) (is refl)
    ∙ ap (λ (l : List ℕ). (codes "next" ++ 32 ∷ l) ++ 10 ∷ []) (number_is number n.0 n.1).1
    ∙ ap last_line n.2

words_are : (line : List ℕ) (halves : Option Halves) (ending : Option ℕ) → halves_of 32 line ≡ halves → next_of halves ≡ Some ending → line ++ 10 ∷ [] ≡ last_line ending
words_are line None ending at e = absurd cc
words_are line (Some halves) ending at e =
    ap (λ (l : List ℕ). l ++ 10 ∷ []) (joined_cut 32 line halves at)
    ∙ next_is (bytes_eq halves.before (codes "next")) halves.before halves.behind ending (bytes_eq-Decides halves.before (codes "next")).0 e

line_is : (test : Bool) (line : List ℕ) (ending : Option ℕ) → (test ≡ true → line ≡ codes "end") → cond test (Some None) (next_of (halves_of 32 line)) ≡ Some ending
    → line ++ 10 ∷ [] ≡ last_line ending
line_is true line ending is e = ap (λ (l : List ℕ). l ++ 10 ∷ []) (is refl) ∙ ap last_line (some_is None ending e)
line_is false line ending is e = words_are line (halves_of 32 line) ending refl e

ending_is : (line : List ℕ) (ending : Option ℕ) → ending_of line ≡ Some ending → line ++ 10 ∷ [] ≡ last_line ending
ending_is line ending e = line_is (bytes_eq line (codes "end")) line ending (bytes_eq-Decides line (codes "end")).0 e

-- ---- the page

page_is : (bytes : List ℕ) (cut : Option LastCut) (page : PageRecord) → last_cut bytes ≡ cut → page_of_cut cut ≡ Some page → bytes ≡ page_text page
page_is bytes None page at e = absurd cc
page_is bytes (Some cut) page at e =
    let is = mapped (λ (next : Option ℕ). record { lines = cut.before; next = next }) (ending_of cut.last) page e in
    cut_is bytes cut at ∙ ap (λ (l : List ℕ). cut.before ++ l) (ending_is cut.last is.0 is.1) ∙ ap page_text is.2

pub spelled_so : (bytes : List ℕ) (page : PageRecord) → page_at bytes ≡ Some page → bytes ≡ page_text page
spelled_so bytes page e = page_is bytes (last_cut bytes) page refl e

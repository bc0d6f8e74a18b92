-- The lines of a text, and the pushes of them.
use Rattle.std.proofs.Common.{◌≡◌, ◌<◌, ◌≤◌, ℕ, zero, suc, ◌+◌, ◌-◌, Bool, true, false, cond, List, [], ◌∷◌, ◌++◌, length, take, drop, Some, refl, sym, ap, ◌∙◌, arith, append_assoc, length-append}
use Rattle.std.specs.Prelude.{◌==◌, ◌&&◌, not}
use Rattle.std.specs.List.{slice_split}
use Rattle.std.proofs.lemmas.List.{drop_all, length-drop, take_at}
use Rattle.std.proofs.lemmas.List.Splits.{length-slice_split}
use Rattle.field_text.specs.Cut.{halves_of}
use Rattle.operator_text.specs.Page.{PartRecord, has_room, pushed, pushed_all, takes}
use Rattle.operator_text.proofs.CutLemmas.{joined_cut}
use Rattle.node_reports.specs.Text.{lines_of, with_ends}

abbrev is_lf : ℕ → Bool
is_lf byte = byte == 10

-- ---- a line that is cut off

one_part : (line : List ℕ) (parts : List (List ℕ)) → 0 < length parts → with_ends (line ∷ parts) ≡ (line ++ 10 ∷ []) ∷ with_ends parts
one_part line [] some = absurd (omega arith)
one_part line (part ∷ parts) some = refl

-- the lines of a text whose first part is known
pub lines_cut : (text line behind : List ℕ) → slice_split is_lf text ≡ line ∷ slice_split is_lf behind
    → lines_of text ≡ (line ++ 10 ∷ []) ∷ lines_of behind
lines_cut text line behind e =
    ap with_ends e ∙ one_part line (slice_split is_lf behind) (omega (arith, length-slice_split is_lf behind))

-- a text of one part has no line
pub lines_none : (text : List ℕ) → slice_split is_lf text ≡ text ∷ [] → lines_of text ≡ []
lines_none text e = ap with_ends e

-- the parts of the text at the cut
pub record IsCut (text line behind : List ℕ) : Type 0 where
  pub first : take (length text - length behind) text ≡ line ++ 10 ∷ []
  pub whole : text ≡ take (length text - length behind) text ++ behind

pub is_cut : (text line behind : List ℕ) → Some (record { before = line; behind = behind }) ≡ halves_of 10 text → IsCut text line behind
is_cut text line behind halves =
    let up = line ++ 10 ∷ [] in
    let joined : text ≡ up ++ behind =
    joined_cut 10 text (record { before = line; behind = behind }) (sym halves) ∙ sym (append_assoc line (10 ∷ []) behind) in
    let n = length text - length behind in
    let len : length up ≡ n = omega (arith, ap length joined, length-append up behind) in
    let first : take n text ≡ up = ap (take n) joined ∙ take_at up behind n len in
    record { first = first; whole = joined ∙ ap (λ (l : List ℕ). l ++ behind) (sym first) }

-- ---- pushes

-- a full page takes no line
same : (part : PartRecord) (line : List ℕ) → part.is_full ≡ true → pushed part line ≡ part
same part line is =
    let there : List ℕ → ℕ → Bool → PartRecord = λ lines next is_full. record { lines = lines; next = next; is_full = is_full } in
    let push : Bool → PartRecord = λ is_full.
    cond (not is_full && has_room (length part.lines) (part.next + 1) line) (there (part.lines ++ line) (part.next + 1) false) (there part.lines part.next true) in
    ap push is ∙ ap (there part.lines part.next) (sym is)

full : (part : PartRecord) (lines : List (List ℕ)) → part.is_full ≡ true → pushed_all part lines ≡ part
full part [] is = refl
full part (line ∷ lines) is = ap (λ (q : PartRecord). pushed_all q lines) (same part line is) ∙ full part lines is

-- after a push that is refused nothing is pushed
pub refused : (part : PartRecord) (line : List ℕ) (lines : List (List ℕ)) → takes part line ≡ false
    → pushed part line ≡ pushed_all part (line ∷ lines)
refused part line lines unfit =
    let push : Bool → PartRecord = λ b.
    cond b (record { lines = part.lines ++ line; next = part.next + 1; is_full = false }) (record { lines = part.lines; next = part.next; is_full = true }) in
    let is : (pushed part line).is_full ≡ true = ap (λ (b : Bool). (push b).is_full) unfit in
    sym (full (pushed part line) lines is)

-- ---- lines that are left out

-- nothing is left of the lines after all that are there
pub drop_past : (number counter : ℕ) (lines : List (List ℕ)) → counter ≤ number → drop counter lines ≡ [] → [] ≡ drop number lines
drop_past number counter lines before none =
    let left : length (drop counter lines) ≡ 0 = ap length none in
    sym (drop_all number lines (omega (arith, left, length-drop counter lines)))

-- one line more is left out
after : (counter : ℕ) (lines : List (List ℕ)) (line : List ℕ) (behind : List (List ℕ)) → drop counter lines ≡ line ∷ behind
    → behind ≡ drop (suc counter) lines
after zero [] line behind e = absurd cc
after zero (first ∷ lines) line behind e = let same : lines ≡ behind = cc in sym same
after (suc counter) [] line behind e = absurd cc
after (suc counter) (first ∷ lines) line behind e = after counter lines line behind e

pub drop_one : (counter : ℕ) (lines : List (List ℕ)) (line : List ℕ) (behind : List (List ℕ)) → drop counter lines ≡ line ∷ behind
    → behind ≡ drop (counter + 1) lines
drop_one counter lines line behind e =
    let on : suc counter ≡ counter + 1 = omega arith in
    after counter lines line behind e ∙ ap (λ (n : ℕ). drop n lines) on

-- The lines of what is kept.
use Rattle.std.proofs.Common.{◌≡◌, ℕ, ◌+◌, ◌≤◌, Bool, true, false, cond, List, [], ◌∷◌, ◌++◌, length, refl, ap, ◌∙◌, arith, append_assoc, length-append}
use Rattle.std.specs.Prelude.{filter, not}
use Rattle.std.specs.List.{flat_map, list_all, onto_first}
use Rattle.std.proofs.lemmas.Bool.{and_parts}
use Rattle.token_file.specs.Fields.{is_line_end, lines_of}
use Rattle.token_file.proofs.WritingLemmas.{split_at}
use Rattle.kept_rows.specs.Kept.{kept_line, kept_rows}

-- whether a line has no LF
abbrev is_clean : List ℕ → Bool
is_clean line = list_all (λ b. not (is_line_end b)) line

onto_clean : (b : ℕ) (lines : List (List ℕ)) → is_line_end b ≡ false → list_all is_clean lines ≡ true → list_all is_clean (onto_first b lines) ≡ true
onto_clean b [] is h = rw is refl
onto_clean b (line ∷ lines) is h = rw is h

clean_at : (b : ℕ) (rest : List ℕ) (t : Bool) → is_line_end b ≡ t → list_all is_clean (lines_of rest) ≡ true
    → list_all is_clean (cond t ([] ∷ lines_of rest) (onto_first b (lines_of rest))) ≡ true
clean_at b rest true is h = h
clean_at b rest false is h = onto_clean b (lines_of rest) is h

-- no line of a text has an LF
lines_are_clean : (text : List ℕ) → list_all is_clean (lines_of text) ≡ true
lines_are_clean [] = refl
lines_are_clean (b ∷ rest) = clean_at b rest (is_line_end b) refl (lines_are_clean rest)

-- a line, and the lines that are kept after it
line_at : (line rest : List ℕ) (after : List (List ℕ)) (t : Bool) → is_clean line ≡ true → lines_of rest ≡ after ++ [] ∷ []
    → lines_of (cond t (line ++ 10 ∷ []) [] ++ rest) ≡ cond t (line ∷ after) after ++ [] ∷ []
line_at line rest after true clean h =
    ap lines_of (append_assoc line (10 ∷ []) rest) ∙ split_at is_line_end line 10 rest clean refl ∙ ap (λ ls. line ∷ ls) h
line_at line rest after false clean h = h

kept_lines : (is_kept : List ℕ → Bool) (lines : List (List ℕ)) → list_all is_clean lines ≡ true
    → lines_of (flat_map (kept_line is_kept) lines) ≡ filter is_kept lines ++ [] ∷ []
kept_lines is_kept [] h = refl
kept_lines is_kept (line ∷ lines) h =
    let parts = and_parts (is_clean line) (list_all is_clean lines) h in
    line_at line (flat_map (kept_line is_kept) lines) (filter is_kept lines) (is_kept line) parts.0 (kept_lines is_kept lines parts.1)

pub lines_are_kept : (is_kept : List ℕ → Bool) (text : List ℕ) → lines_of (kept_rows is_kept text) ≡ filter is_kept (lines_of text) ++ [] ∷ []
lines_are_kept is_kept text = kept_lines is_kept (lines_of text) (lines_are_clean text)

-- the length of lines, each with an LF
abbrev total : List (List ℕ) → ℕ
total [] = 0
total (line ∷ lines) = length line + 1 + total lines

onto_total : (b : ℕ) (lines : List (List ℕ)) → 1 ≤ total lines → total (onto_first b lines) ≡ total lines + 1
onto_total b [] some = absurd (omega (arith, some))
onto_total b (line ∷ lines) some = omega arith

total_at : (b : ℕ) (rest : List ℕ) (t : Bool) → total (lines_of rest) ≡ length rest + 1
    → total (cond t ([] ∷ lines_of rest) (onto_first b (lines_of rest))) ≡ length (b ∷ rest) + 1
total_at b rest true h = omega (arith, h)
total_at b rest false h = omega (arith, h, onto_total b (lines_of rest) (omega (arith, h)))

total_of_text : (text : List ℕ) → total (lines_of text) ≡ length text + 1
total_of_text [] = refl
total_of_text (b ∷ rest) = total_at b rest (is_line_end b) (total_of_text rest)

line_length : (line : List ℕ) (t : Bool) → length (cond t (line ++ 10 ∷ []) []) ≤ length line + 1
line_length line true = omega (arith, length-append line (10 ∷ []))
line_length line false = omega arith

kept_length : (is_kept : List ℕ → Bool) (lines : List (List ℕ)) → length (flat_map (kept_line is_kept) lines) ≤ total lines
kept_length is_kept [] = omega arith
kept_length is_kept (line ∷ lines) =
    omega (arith, length-append (kept_line is_kept line) (flat_map (kept_line is_kept) lines), line_length line (is_kept line), kept_length is_kept lines)

pub kept_is_short : (is_kept : List ℕ → Bool) (text : List ℕ) → length (kept_rows is_kept text) ≤ length text + 1
kept_is_short is_kept text = omega (arith, kept_length is_kept (lines_of text), total_of_text text)

-- The lines of a text, one after the other.
use Rattle.std.proofs.Common.{◌≡◌, ℕ, zero, suc, ◌+◌, ◌<◌, ◌≤◌, Bool, true, false, cond, List, [], ◌∷◌, ◌++◌, length, map, drop, get_or, Option, Some, None, refl, sym, ap, subst, ◌∙◌, arith, append_assoc}
use Rattle.std.specs.Borrow.{Bor}
use Rattle.std.specs.Io.KnownBytes.{Appends}
use Rattle.std.proofs.lemmas.List.{append-nil, drop-map, drop_more}
use Rattle.std.specs.Str.{bytes_eq}
use Rattle.token_file.specs.Fields.{fields_of}
use Rattle.kept_rows.specs.Left.{first_line, is_next, left_from, report_of}

-- the bytes of borrowed lines
abbrev pub bytes_of : List (Bor (List ℕ)) → List (List ℕ)
bytes_of lines = map (λ line. line.now) lines

-- the lines from a place on
dropped : (lines : List (Bor (List ℕ))) (place : ℕ) (d : Bor (List ℕ)) → place < length lines
    → drop place (bytes_of lines) ≡ (get_or lines place d).now ∷ drop (place + 1) (bytes_of lines)
dropped lines place d low =
    drop-map (λ (l : Bor (List ℕ)). l.now) place lines ∙ ap bytes_of (drop_more lines place d low)
    ∙ ap (λ ls. (get_or lines place d).now ∷ ls) (sym (drop-map (λ (l : Bor (List ℕ)). l.now) (place + 1) lines))

-- no line is left past the last one
pub past : (lines : List (Bor (List ℕ))) (place : ℕ) → length lines ≤ place → drop place (bytes_of lines) ≡ []
past [] zero high = refl
past [] (suc place) high = refl
past (line ∷ lines) zero high = absurd (omega (arith, high))
past (line ∷ lines) (suc place) high = past lines place (omega (arith, high))

-- one line less of those from a place on
drop_suc : (lines : List (List ℕ)) (place : ℕ) → drop 1 (drop place lines) ≡ drop (suc place) lines
drop_suc [] zero = refl
drop_suc [] (suc place) = refl
drop_suc (line ∷ lines) zero = refl
drop_suc (line ∷ lines) (suc place) = drop_suc lines place

drop_next : (lines : List (List ℕ)) (place : ℕ) → drop 1 (drop place lines) ≡ drop (place + 1) lines
drop_next lines place =
    let one : suc place ≡ place + 1 = omega arith in drop_suc lines place ∙ ap (λ n. drop n lines) one

-- the reports of lines after the first one
left_at : (kept : List (List ℕ)) (number : ℕ) (line : List ℕ) (lines : List (List ℕ)) (t : Bool) → is_next kept line ≡ t
    → left_from kept number (line ∷ lines)
    ≡ cond t (left_from (drop 1 kept) (number + 1) lines) (report_of number (fields_of line) ++ left_from kept (number + 1) lines)
left_at kept number line lines t is = rw is refl

-- the next of the lines at a place
pub next_at : (lines : List (Bor (List ℕ))) (place : ℕ) (next : Bor (List ℕ)) (line : List ℕ) → place < length lines → next ≡ get_or lines place next
    → is_next (drop place (bytes_of lines)) line ≡ bytes_eq next.now line
next_at lines place next line low at =
    ap (λ ls. is_next ls line) (dropped lines place next low) ∙ ap (λ (l : Bor (List ℕ)). bytes_eq l.now line) (sym at)

-- one text, followed by another
pub append_more : (old middle new : Option (List ℕ)) (front back : List ℕ) → Appends old middle front → Appends middle new back
    → Appends old new (front ++ back)
append_more None middle new front back h k = tt
append_more (Some x) None new front back h k = absurd h
append_more (Some x) (Some y) None front back h k = absurd k
append_more (Some x) (Some y) (Some z) front back h k = k ∙ ap (λ l. l ++ back) h ∙ append_assoc x front back

-- what is written so far, where the reports of all lines are those and the reports of the rest
pub record IsWritten (old now : Option (List ℕ)) (all kept : List (List ℕ)) (place number : ℕ) (lines : List (List ℕ)) (index : ℕ) : Type 0 where
  pub so_far : List ℕ
  pub written : Appends old now so_far
  pub whole : left_from kept 1 all ≡ so_far ++ left_from (drop place kept) number (drop index lines)

module _ (old : Option (List ℕ)) (kept : List (List ℕ)) (place number : ℕ) (lines : List (Bor (List ℕ))) (index : ℕ) (d : Bor (List ℕ))
    (low : index < length lines) where
  -- a line that is kept
  pub kept_written : (now : Option (List ℕ)) → is_next (drop place kept) (get_or lines index d).now ≡ true
      → IsWritten old now (bytes_of lines) kept place number (bytes_of lines) index
      → IsWritten old now (bytes_of lines) kept (place + 1) (number + 1) (bytes_of lines) (index + 1)
  kept_written now is h = record {
    so_far = h.so_far;
    written = h.written;
    whole = h.whole ∙ ap (λ l. h.so_far ++ left_from (drop place kept) number l) (dropped lines index d low)
        ∙ ap (λ l. h.so_far ++ l) (left_at (drop place kept) number (get_or lines index d).now (drop (index + 1) (bytes_of lines)) true is)
        ∙ ap (λ k. h.so_far ++ left_from k (number + 1) (drop (index + 1) (bytes_of lines))) (drop_next kept place);
  }

  -- a line that is reported
  pub left_written : (now new : Option (List ℕ)) → is_next (drop place kept) (get_or lines index d).now ≡ false
      → Appends now new (report_of number (fields_of (get_or lines index d).now))
      → IsWritten old now (bytes_of lines) kept place number (bytes_of lines) index
      → IsWritten old new (bytes_of lines) kept place (number + 1) (bytes_of lines) (index + 1)
  left_written now new is k h =
      let told = report_of number (fields_of (get_or lines index d).now) in
      record {
        so_far = h.so_far ++ told;
        written = append_more old now new h.so_far told h.written k;
        whole = h.whole ∙ ap (λ l. h.so_far ++ left_from (drop place kept) number l) (dropped lines index d low)
            ∙ ap (λ l. h.so_far ++ l) (left_at (drop place kept) number (get_or lines index d).now (drop (index + 1) (bytes_of lines)) false is)
            ∙ sym (append_assoc h.so_far told (left_from (drop place kept) (number + 1) (drop (index + 1) (bytes_of lines))));
      }

-- nothing is written yet
pub none_written : (old : Option (List ℕ)) (kept lines : List (List ℕ)) → IsWritten old old lines kept 0 1 lines 0
none_written None kept lines = record { so_far = []; written = tt; whole = refl }
none_written (Some x) kept lines = record { so_far = []; written = sym (append-nil x); whole = refl }

-- all is written
pub all_written : (old now : Option (List ℕ)) (kept lines : List (List ℕ)) (place number index : ℕ) → drop index lines ≡ []
    → IsWritten old now lines kept place number lines index → Appends old now (left_from kept 1 lines)
all_written old now kept lines place number index none h =
    subst (Appends old now) (sym (h.whole ∙ ap (λ l. h.so_far ++ left_from (drop place kept) number l) none ∙ append-nil h.so_far)) h.written

-- the first line, and the reports of the lines of two texts
pub both_written : (old middle new : Option (List ℕ)) (lines kept : List (Bor (List ℕ))) (items others all some : List (List ℕ))
    → bytes_of lines ≡ items → items ≡ all → bytes_of kept ≡ others → others ≡ some
    → Appends old middle first_line → Appends middle new (left_from (bytes_of kept) 1 (bytes_of lines)) → Appends old new (first_line ++ left_from some 1 all)
both_written old middle new lines kept items others all some a b c d h k =
    append_more old middle new first_line (left_from some 1 all) h
    (subst (λ (ls : List (List ℕ)). Appends middle new (left_from some 1 ls)) (a ∙ b)
    (subst (λ (ks : List (List ℕ)). Appends middle new (left_from ks 1 (bytes_of lines))) (c ∙ d) k))

-- The first field of a line, by the places of the first byte that is no blank and of the next blank.
use Rattle.std.proofs.Common.{◌≡◌, ℕ, suc, ◌+◌, ◌<◌, ◌≤◌, Bool, true, false, cond, List, [], ◌∷◌, length, take, drop, Option, Some, None, refl, sym, ap, subst, ◌∙◌, arith, true≢false}
use Rattle.std.specs.Prelude.{not, filter, unwrap_or}
use Rattle.std.specs.List.{position_from, slice_split, onto_first, list_all}
use Rattle.std.proofs.lemmas.List.Splits.{slice_split-cons_yes, slice_split-cons_no}
use Rattle.field_text.specs.Word.{is_blank, is_visible}
use Rattle.token_file.specs.Fields.{has_bytes, fields_of}

-- a blank at the front changes no field
blank_first : (b : ℕ) (bs : List ℕ) → is_blank b ≡ true → fields_of (b ∷ bs) ≡ fields_of bs
blank_first b bs is = ap (filter has_bytes) (slice_split-cons_yes is_blank b bs is)

-- k is the place of the first blank, or the length
pub record Cuts (xs : List ℕ) (k : ℕ) : Type 0 where
  pub bound : k ≤ length xs
  pub rest : List (List ℕ)
  pub parts : slice_split is_blank xs ≡ take k xs ∷ rest
  pub fields : filter has_bytes rest ≡ fields_of (drop k xs)
  pub visible : list_all is_visible (take k xs) ≡ true

cuts-cons : (b : ℕ) (bs : List ℕ) (k : ℕ) → is_blank b ≡ false → Cuts bs k → Cuts (b ∷ bs) (suc k)
cuts-cons b bs k is c = record {
  bound = omega (arith, c.bound);
  rest = c.rest;
  parts = slice_split-cons_no is_blank b bs is ∙ ap (onto_first b) c.parts;
  fields = c.fields;
  visible = rw is c.visible;
}

-- what the place of the first blank, counted from i, says of k
abbrev pub IsPlace : List ℕ → ℕ → ℕ → Option ℕ → Type 0
IsPlace xs i k None = k ≡ length xs
IsPlace xs i k (Some n) = n ≡ i + k

place-cons : (b : ℕ) (bs : List ℕ) (i k : ℕ) (r : Option ℕ) → IsPlace bs (i + 1) k r → IsPlace (b ∷ bs) i (suc k) r
place-cons b bs i k None p = ap suc p
place-cons b bs i k (Some n) p = omega (arith, p)

abbrev HasCut : List ℕ → ℕ → Option ℕ → Type 0
HasCut xs i r = (k : ℕ) × Cuts xs k × IsPlace xs i k r

cut_at : (b : ℕ) (bs : List ℕ) (i : ℕ) (r : Option ℕ) (t : Bool) → is_blank b ≡ t → cond t (Some i) (position_from is_blank (i + 1) bs) ≡ r
    → (position_from is_blank (i + 1) bs ≡ r → HasCut bs (i + 1) r) → HasCut (b ∷ bs) i r
cut_at b bs i r true is e more = (
  0,
  record { bound = omega arith; rest = slice_split is_blank bs; parts = slice_split-cons_yes is_blank b bs is; fields = sym (blank_first b bs is); visible = refl },
  subst (IsPlace (b ∷ bs) i 0) e (omega arith),
)
cut_at b bs i r false is e more = let h = more e in (suc h.0, cuts-cons b bs h.0 is h.1, place-cons b bs i h.0 r h.2)

pub first_cut : (xs : List ℕ) (i : ℕ) (r : Option ℕ) → position_from is_blank i xs ≡ r → HasCut xs i r
first_cut [] i r e = (0, record { bound = omega arith; rest = []; parts = refl; fields = refl; visible = refl }, subst (IsPlace [] i 0) e refl)
first_cut (b ∷ bs) i r e = cut_at b bs i r (is_blank b) refl e (first_cut bs (i + 1) r)

-- k is the place of the first byte that is no blank
pub record Starts (xs : List ℕ) (k : ℕ) : Type 0 where
  pub bound : k < length xs
  pub fields : fields_of xs ≡ fields_of (drop k xs)
  pub first : ℕ
  pub others : List ℕ
  pub parts : drop k xs ≡ first ∷ others
  pub visible : is_blank first ≡ false

abbrev pub HasStart : List ℕ → ℕ → Option ℕ → Type 0
HasStart xs i None = fields_of xs ≡ []
HasStart xs i (Some n) = (k : ℕ) × (n ≡ i + k) × Starts xs k

start-cons : (b : ℕ) (bs : List ℕ) (i : ℕ) (r : Option ℕ) → is_blank b ≡ true → HasStart bs (i + 1) r → HasStart (b ∷ bs) i r
start-cons b bs i None is h = blank_first b bs is ∙ h
start-cons b bs i (Some n) is h = (
  suc h.0,
  omega (arith, h.1),
  record { bound = omega (arith, h.2.bound); fields = blank_first b bs is ∙ h.2.fields; first = h.2.first; others = h.2.others; parts = h.2.parts; visible = h.2.visible },
)

start_at : (b : ℕ) (bs : List ℕ) (i : ℕ) (r : Option ℕ) (t : Bool) → is_blank b ≡ t → cond (not t) (Some i) (position_from is_visible (i + 1) bs) ≡ r
    → (position_from is_visible (i + 1) bs ≡ r → HasStart bs (i + 1) r) → HasStart (b ∷ bs) i r
start_at b bs i r true is e more = start-cons b bs i r is (more e)
start_at b bs i r false is e more =
    subst (HasStart (b ∷ bs) i) e (0, omega arith, record { bound = omega arith; fields = refl; first = b; others = bs; parts = refl; visible = is })

pub first_start : (xs : List ℕ) (i : ℕ) (r : Option ℕ) → position_from is_visible i xs ≡ r → HasStart xs i r
first_start [] i r e = subst (HasStart [] i) e refl
first_start (b ∷ bs) i r e = start_at b bs i r (is_blank b) refl e (first_start bs (i + 1) r)

-- the place of the first blank, or the length
abbrev pub end_of : List ℕ → ℕ
end_of xs = unwrap_or (position_from is_blank 0 xs) (length xs)

end_is : (xs : List ℕ) (i k : ℕ) (r : Option ℕ) → i ≡ 0 → IsPlace xs i k r → unwrap_or r (length xs) ≡ k
end_is xs i k None z p = sym p
end_is xs i k (Some n) z p = omega (arith, p, z)

end_after : (bs : List ℕ) (k : ℕ) (r : Option ℕ) → IsPlace bs 1 k r → unwrap_or r (suc (length bs)) ≡ suc k
end_after bs k None p = ap suc (sym p)
end_after bs k (Some n) p = omega (arith, p)

pub end_bound : (xs : List ℕ) → end_of xs ≤ length xs
end_bound xs = let h = first_cut xs 0 (position_from is_blank 0 xs) refl in omega (arith, end_is xs 0 h.0 (position_from is_blank 0 xs) refl h.2, h.1.bound)

-- a text that begins with a byte that is no blank is its first field and the fields after it
cut_field : (b : ℕ) (bs : List ℕ) → is_blank b ≡ false → (t : Bool) → is_blank b ≡ t → fields_of (b ∷ bs) ≡ take (unwrap_or (cond t (Some 0) (position_from is_blank 1 bs)) (suc (length bs))) (b ∷ bs) ∷ fields_of (drop (unwrap_or (cond t (Some 0) (position_from is_blank 1 bs)) (suc (length bs))) (b ∷ bs))
cut_field b bs is true e = absurd (true≢false (sym e ∙ is))
cut_field b bs is false e =
    let h = first_cut bs 1 (position_from is_blank 1 bs) refl in
    let c = cuts-cons b bs h.0 is h.1 in
    let k : unwrap_or (position_from is_blank 1 bs) (suc (length bs)) ≡ suc h.0 = end_after bs h.0 (position_from is_blank 1 bs) h.2 in
    rw k (ap (filter has_bytes) c.parts ∙ ap (λ (xs : List (List ℕ)). take (suc h.0) (b ∷ bs) ∷ xs) c.fields)

pub first_field_is : (xs : List ℕ) (b : ℕ) (bs : List ℕ) → xs ≡ b ∷ bs → is_blank b ≡ false → fields_of xs ≡ take (end_of xs) xs ∷ fields_of (drop (end_of xs) xs)
first_field_is xs b bs parts is =
    subst (λ (ys : List ℕ). fields_of ys ≡ take (end_of ys) ys ∷ fields_of (drop (end_of ys) ys)) (sym parts) (cut_field b bs is (is_blank b) refl)

-- the place of the first byte that is no blank
pub start_is : (xs : List ℕ) (n : ℕ) → position_from is_visible 0 xs ≡ Some n → Starts xs n
start_is xs n e = let h = first_start xs 0 (Some n) e in let same : h.0 ≡ n = omega (arith, h.1) in subst (Starts xs) same h.2

-- the first field of a text that begins at n, and the text after it
pub field_is : (xs rest : List ℕ) (n k : ℕ) → Starts xs n → rest ≡ drop n xs → k ≡ end_of rest → fields_of xs ≡ take k rest ∷ fields_of (drop k rest)
field_is xs rest n k s at end =
    let e : end_of (drop n xs) ≡ k = ap end_of (sym at) ∙ sym end in
    s.fields ∙ subst (λ (ys : List ℕ). fields_of (drop n xs) ≡ take k ys ∷ fields_of (drop k ys)) (sym at)
    (subst (λ (j : ℕ). fields_of (drop n xs) ≡ take j (drop n xs) ∷ fields_of (drop j (drop n xs))) e (first_field_is (drop n xs) s.first s.others s.parts s.visible))

-- what a word of a line has
pub record IsField (word : List ℕ) : Type 0 where
  pub some : 1 ≤ length word
  pub visible : list_all is_visible word ≡ true

cut_word : (b : ℕ) (bs : List ℕ) → is_blank b ≡ false → (t : Bool) → is_blank b ≡ t → IsField (take (unwrap_or (cond t (Some 0) (position_from is_blank 1 bs)) (suc (length bs))) (b ∷ bs))
cut_word b bs is true e = absurd (true≢false (sym e ∙ is))
cut_word b bs is false e =
    let h = first_cut bs 1 (position_from is_blank 1 bs) refl in
    let c = cuts-cons b bs h.0 is h.1 in
    let k : unwrap_or (position_from is_blank 1 bs) (suc (length bs)) ≡ suc h.0 = end_after bs h.0 (position_from is_blank 1 bs) h.2 in
    rw k (record { some = omega arith; visible = c.visible })

-- the first field of a text that begins at n is a word
pub field_has : (xs rest : List ℕ) (n k : ℕ) → Starts xs n → rest ≡ drop n xs → k ≡ end_of rest → IsField (take k rest)
field_has xs rest n k s at end =
    let whole : rest ≡ s.first ∷ s.others = at ∙ s.parts in
    let word : IsField (take (end_of (s.first ∷ s.others)) (s.first ∷ s.others)) = cut_word s.first s.others s.visible (is_blank s.first) refl in
    let word' : IsField (take (end_of rest) rest) = subst (λ (ys : List ℕ). IsField (take (end_of ys) ys)) (sym whole) word in
    subst (λ (j : ℕ). IsField (take j rest)) (sym end) word'

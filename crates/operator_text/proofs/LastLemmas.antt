-- The loop that looks for the last line of a page.
use Rattle.std.proofs.Common.{◌≡◌, ℕ, ◌-◌, ◌<◌, ◌≤◌, Bool, true, false, cond, List, [], ◌∷◌, ◌++◌, length, take, drop, Option, Some, None, refl, sym, ap, ◌∙◌, arith, append_assoc, length-append}
use Rattle.std.specs.Prelude.{◌==◌}
use Rattle.std.specs.List.{onto_first, slice_split}
use Rattle.std.specs.Option.{option_map}
use Rattle.std.proofs.lemmas.List.{append-nil, drop_at, nil_from_length, take-append-drop, take_at, take_rest}
use Rattle.std.proofs.lemmas.List.Splits.{length-slice_split}
use Rattle.field_text.specs.Cut.{halves_of}
use Rattle.operator_text.specs.Reading.{LastCut, after_line, last_cut, last_of}
use Rattle.operator_text.proofs.CutLemmas.{joined_cut}

abbrev is_lf : ℕ → Bool
is_lf byte = byte == 10

-- a cut with more bytes in front
abbrev pub after_bytes : List ℕ → LastCut → LastCut
after_bytes bytes cut = record { before = bytes ++ cut.before; last = cut.last }

-- the loop has come to a place: what it will find behind the place is the cut of all
abbrev pub IsAt : List ℕ → ℕ → Type 0
IsAt bytes place = last_cut bytes ≡ option_map (after_bytes (take place bytes)) (last_cut (drop place bytes))

pub at_begin : (bytes : List ℕ) → IsAt bytes 0
at_begin bytes = nothing (last_cut bytes)
  where
    nothing : (cut : Option LastCut) → cut ≡ option_map (after_bytes []) cut
    nothing None = refl
    nothing (Some cut) = refl

-- a part before others, one of which has bytes, is not the last line
more_parts : (part : List ℕ) (b : ℕ) (mark : Bool) (parts : List (List ℕ)) → 0 < length parts
    → last_of (part ∷ cond mark ([] ∷ parts) (onto_first b parts)) ≡ option_map (after_line part) (last_of (cond mark ([] ∷ parts) (onto_first b parts)))
more_parts part b mark [] some = absurd (omega arith)
more_parts part b true (next ∷ []) some = refl
more_parts part b true (next ∷ other ∷ parts) some = refl
more_parts part b false (next ∷ []) some = refl
more_parts part b false (next ∷ other ∷ parts) some = refl

some_rest : (part rest : List ℕ) → 0 < length rest → last_of (part ∷ slice_split is_lf rest) ≡ option_map (after_line part) (last_cut rest)
some_rest part [] some = absurd (omega arith)
some_rest part (b ∷ rest) some = more_parts part b (is_lf b) (slice_split is_lf rest) (omega (arith, length-slice_split is_lf rest))

both : (front line : List ℕ) (cut : Option LastCut) → option_map (after_bytes front) (option_map (after_line line) cut) ≡ option_map (after_bytes (front ++ (line ++ 10 ∷ []))) cut
both front line None = refl
both front line (Some cut) =
    let whole : front ++ (line ++ 10 ∷ cut.before) ≡ (front ++ (line ++ 10 ∷ [])) ++ cut.before =
    ap (λ (l : List ℕ). front ++ l) (sym (append_assoc line (10 ∷ []) cut.before)) ∙ sym (append_assoc front (line ++ 10 ∷ []) cut.before) in
    ap (λ (l : List ℕ). Some (record { before = l; last = cut.last })) whole

-- the loop found a line at its place
pub record Found (bytes : List ℕ) (place : ℕ) (line rest : List ℕ) : Type 0 where
  pub inside : place ≤ length bytes
  pub at : IsAt bytes place
  pub text : drop place bytes ≡ line ++ 10 ∷ rest
  pub parts : slice_split is_lf (drop place bytes) ≡ line ∷ slice_split is_lf rest

pub found : (bytes : List ℕ) (place : ℕ) (line rest : List ℕ) → place ≤ length bytes → IsAt bytes place
    → (let tail = take (length bytes - place) (drop place bytes) in Some (record { before = line; behind = rest }) ≡ halves_of 10 tail
    → slice_split is_lf tail ≡ line ∷ slice_split is_lf rest → Found bytes place line rest)
found bytes place line rest inside at halves parts =
    let tail : drop place bytes ≡ take (length bytes - place) (drop place bytes) = sym (take_rest bytes place) in record {
      inside = inside;
      at = at;
      text = tail ∙ joined_cut 10 (take (length bytes - place) (drop place bytes)) (record { before = line; behind = rest }) (sym halves);
      parts = ap (slice_split is_lf) tail ∙ parts;
    }

-- it is the last one
pub last_found : (bytes : List ℕ) (place : ℕ) (line rest : List ℕ) → Found bytes place line rest → length rest ≡ 0
    → Some (record { before = take place bytes; last = line }) ≡ last_cut bytes
last_found bytes place line rest f none =
    let end : last_cut (drop place bytes) ≡ Some (record { before = []; last = line }) =
    ap last_of (f.parts ∙ ap (λ (l : List ℕ). line ∷ slice_split is_lf l) (nil_from_length rest none)) in
    sym (f.at ∙ ap (option_map (after_bytes (take place bytes))) end ∙ ap (λ (l : List ℕ). Some (record { before = l; last = line })) (append-nil (take place bytes)))

-- another one follows
pub more_found : (bytes : List ℕ) (place : ℕ) (line rest : List ℕ) → Found bytes place line rest → 0 < length rest
    → IsAt bytes (length bytes - length rest)
more_found bytes place line rest f some =
    let front = take place bytes in
    let n = length bytes - length rest in
    let up = front ++ (line ++ 10 ∷ []) in
    let whole : bytes ≡ up ++ rest =
    sym (take-append-drop place bytes) ∙ ap (λ (l : List ℕ). front ++ l) (f.text ∙ sym (append_assoc line (10 ∷ []) rest)) ∙ sym (append_assoc front (line ++ 10 ∷ []) rest) in
    let len : length up ≡ n = omega (arith, ap length whole, length-append up rest) in
    let before : take n bytes ≡ up = ap (take n) whole ∙ take_at up rest n len in
    let behind : drop n bytes ≡ rest = ap (drop n) whole ∙ drop_at up rest n len in
    f.at
    ∙ ap (λ (parts : List (List ℕ)). option_map (after_bytes front) (last_of parts)) f.parts
    ∙ ap (option_map (after_bytes front)) (some_rest line rest some)
    ∙ both front line (last_cut rest)
    ∙ ap (λ (l : List ℕ). option_map (after_bytes l) (last_cut rest)) (sym before)
    ∙ ap (λ (l : List ℕ). option_map (after_bytes (take n bytes)) (last_cut l)) (sym behind)

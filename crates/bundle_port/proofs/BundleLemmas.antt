-- The parts of a bundle, written and read.
use Rattle.std.proofs.Common.{◌≡◌, ℕ, zero, suc, ◌+◌, ◌-◌, ◌<◌, ◌≤◌, Bool, true, false, cond, leb, List, [], ◌∷◌, ◌++◌, length, take, drop, get_or, Option, Some, None, is_some, refl, sym, ap, subst, ◌∙◌, arith, length-drop, length-take, drop-drop, drop-cons}
use Rattle.std.proofs.lemmas.Bool.{le-leb, leb-true, lt-leb}
use Rattle.std.proofs.lemmas.List.{take-append-drop}
use Rattle.std.proofs.Math.Seq.{take-append_seam}
use Rattle.bundle_port.specs.Bundle.{part_with, parts_bytes, parts_from}

abbrev present : {A : Type 0} → A → Option A
present x = Some x

some_is : {A : Type 0} (x y : A) → present x ≡ present y → x ≡ y
some_is x y e = cc

-- ---- bytes of an earlier part

-- the bytes of an earlier part are passed over
skipped : (bytes : List ℕ) (missing : ℕ) → missing ≤ length bytes → parts_from bytes missing ≡ parts_from (drop missing bytes) 0
skipped [] zero h = refl
skipped [] (suc missing) h = absurd (omega arith)
skipped (byte ∷ bytes) zero h = refl
skipped (byte ∷ bytes) (suc missing) h = skipped bytes missing (omega arith)

-- an earlier part is cut
cut : (bytes : List ℕ) (missing : ℕ) → length bytes < missing → parts_from bytes missing ≡ None
cut [] zero h = absurd (omega arith)
cut [] (suc missing) h = refl
cut (byte ∷ bytes) zero h = absurd (omega arith)
cut (byte ∷ bytes) (suc missing) h = cut bytes missing (omega arith)

-- ---- one part

-- each part has 32 bytes
abbrev pub HaveBytes : List (List ℕ) → Type 0
HaveBytes [] = Unit {0}
HaveBytes (part ∷ parts) = (32 ≤ length part) × HaveBytes parts

seam : (part rest : List ℕ) → parts_from (part ++ rest) (length part) ≡ parts_from rest 0
seam [] rest = refl
seam (byte ∷ part) rest = seam part rest

-- what is read of a length and the bytes after it
abbrev read_with : ℕ → List ℕ → Bool → Option (List (List ℕ))
read_with len bytes many = cond many (part_with (take len bytes) (parts_from bytes len)) None

reads_some : (len : ℕ) (bytes : List ℕ) → 32 ≤ len → parts_from (len ∷ bytes) 0 ≡ part_with (take len bytes) (parts_from bytes len)
reads_some len bytes h = ap (read_with len bytes) (le-leb 32 len h)

one_part : (part rest : List ℕ) → 32 ≤ length part → parts_from ((length part ∷ part) ++ rest) 0 ≡ part_with part (parts_from rest 0)
one_part part rest h =
    reads_some (length part) (part ++ rest) h
    ∙ ap (λ (p : List ℕ). part_with p (parts_from (part ++ rest) (length part))) (take-append_seam part rest)
    ∙ ap (part_with part) (seam part rest)

-- ---- read back

pub read_back : (parts : List (List ℕ)) → HaveBytes parts → parts_from (parts_bytes parts) 0 ≡ Some parts
read_back [] h = refl
read_back (part ∷ parts) h = one_part part (parts_bytes parts) h.0 ∙ ap (part_with part) (read_back parts h.1)

-- ---- one spelling

pub record IsSpelled (bytes : List ℕ) (missing : ℕ) (parts : List (List ℕ)) : Type 0 where
  pub within : missing ≤ length bytes
  pub bytes_are : drop missing bytes ≡ parts_bytes parts
  pub have_bytes : HaveBytes parts

-- a part, and those after it
spelled_with : (len : ℕ) (bytes : List ℕ) (others : List (List ℕ)) → leb 32 len ≡ true → IsSpelled bytes len others → IsSpelled (len ∷ bytes) 0 (take len bytes ∷ others)
spelled_with len bytes others some s =
    let within = s.within in
    let many = leb-true 32 len some in
    let long : length (take len bytes) ≡ len = length-take len bytes ∙ (omega arith) in
    record {
      within = omega arith;
      bytes_are =
          ap (λ (l : List ℕ). len ∷ l) (sym (take-append-drop len bytes) ∙ ap (λ (l : List ℕ). take len bytes ++ l) s.bytes_are)
          ∙ ap (λ (n : ℕ). (n ∷ take len bytes) ++ parts_bytes others) (sym long);
      have_bytes = (omega arith, s.have_bytes);
    }

spelled_len : (len : ℕ) (bytes : List ℕ) (parts : List (List ℕ)) → ((others : List (List ℕ)) → parts_from bytes len ≡ Some others → IsSpelled bytes len others)
    → parts_from (len ∷ bytes) 0 ≡ Some parts → IsSpelled (len ∷ bytes) 0 parts
spelled_len len bytes parts rest e = by_len (leb 32 len) refl e
  where
    by_rest : (others : Option (List (List ℕ))) → parts_from bytes len ≡ others → leb 32 len ≡ true → part_with (take len bytes) others ≡ Some parts → IsSpelled (len ∷ bytes) 0 parts
    by_rest None at some is = absurd cc
    by_rest (Some others) at some is =
        subst (IsSpelled (len ∷ bytes) 0) (some_is (take len bytes ∷ others) parts is) (spelled_with len bytes others some (rest others at))

    by_len : (many : Bool) → leb 32 len ≡ many → read_with len bytes many ≡ Some parts → IsSpelled (len ∷ bytes) 0 parts
    by_len false some is = absurd cc
    by_len true some is = by_rest (parts_from bytes len) refl some is

pub spelled : (bytes : List ℕ) (missing : ℕ) (parts : List (List ℕ)) → parts_from bytes missing ≡ Some parts → IsSpelled bytes missing parts
spelled [] zero parts e = subst (IsSpelled [] 0) (some_is [] parts e) (record { within = omega arith; bytes_are = refl; have_bytes = tt })
spelled [] (suc missing) parts e = absurd cc
spelled (byte ∷ bytes) (suc missing) parts e =
    let s = spelled bytes missing parts e in
    record { within = let h = s.within in omega arith; bytes_are = s.bytes_are; have_bytes = s.have_bytes }
spelled (len ∷ bytes) zero parts e = spelled_len len bytes parts (λ others at. spelled bytes len others at) e

-- ---- whether some bytes are parts

-- all bytes are read
pub none_left : (bytes : List ℕ) (place : ℕ) → place ≤ length bytes → length bytes ≤ place → is_some (parts_from (drop place bytes) 0) ≡ true
none_left bytes place h k = at_end (drop place bytes) (length-drop place bytes ∙ (omega arith))
  where
    at_end : (rest : List ℕ) → length rest ≡ 0 → is_some (parts_from rest 0) ≡ true
    at_end [] e = refl
    at_end (byte ∷ rest) e = absurd (omega arith)

at_len : (bytes : List ℕ) (place len : ℕ) → place < length bytes → len ≡ get_or bytes place 0 → drop place bytes ≡ len ∷ drop (suc place) bytes
at_len bytes place len h e = drop-cons bytes place 0 h ∙ ap (λ (n : ℕ). n ∷ drop (suc place) bytes) (sym e)

-- a part has fewer than 32 bytes
pub few_bytes : (bytes : List ℕ) (place len : ℕ) → place < length bytes → len ≡ get_or bytes place 0 → len < 32 → is_some (parts_from (drop place bytes) 0) ≡ false
few_bytes bytes place len h e few =
    ap (λ (l : List ℕ). is_some (parts_from l 0)) (at_len bytes place len h e)
    ∙ ap (λ (many : Bool). is_some (read_with len (drop (suc place) bytes) many)) (lt-leb 32 len few)

-- a part is cut
pub is_cut : (bytes : List ℕ) (place len : ℕ) → place < length bytes → len ≡ get_or bytes place 0 → length bytes - place ≤ len → is_some (parts_from (drop place bytes) 0) ≡ false
is_cut bytes place len h e short =
    let rest = drop (suc place) bytes in
    let long : length rest < len = let l = length-drop (suc place) bytes in omega arith in
    ap (λ (l : List ℕ). is_some (parts_from l 0)) (at_len bytes place len h e) ∙ go (leb 32 len) long
  where
    go : (many : Bool) → length (drop (suc place) bytes) < len → is_some (read_with len (drop (suc place) bytes) many) ≡ false
    go false long = refl
    go true long = ap (λ (o : Option (List (List ℕ))). is_some (part_with (take len (drop (suc place) bytes)) o)) (cut (drop (suc place) bytes) len long)

-- a part is whole
pub is_whole : (bytes : List ℕ) (place len : ℕ) → place < length bytes → len ≡ get_or bytes place 0 → 32 ≤ len → len < length bytes - place
    → is_some (parts_from (drop (place + (1 + len)) bytes) 0) ≡ is_some (parts_from (drop place bytes) 0)
is_whole bytes place len h e some whole =
    let rest = drop (suc place) bytes in
    let long : len ≤ length rest = let l = length-drop (suc place) bytes in omega arith in
    let last : suc place + len ≡ place + (1 + len) = omega arith in
    sym (
    ap (λ (l : List ℕ). is_some (parts_from l 0)) (at_len bytes place len h e)
    ∙ ap is_some (reads_some len rest some)
    ∙ some_with (take len rest) (parts_from rest len)
    ∙ ap is_some (skipped rest len long)
    ∙ ap (λ (l : List ℕ). is_some (parts_from l 0)) (drop-drop len (suc place) bytes ∙ ap (λ (n : ℕ). drop n bytes) last))
  where
    some_with : (part : List ℕ) (o : Option (List (List ℕ))) → is_some (part_with part o) ≡ is_some o
    some_with part None = refl
    some_with part (Some parts) = refl

-- The bytes of the parts that wait for a member, and of those that are left.
use Rattle.std.proofs.Common.{◌≡◌, ℕ, suc, ◌+◌, ◌-◌, ◌<◌, ◌≤◌, Bool, true, false, cond, eqb, leb, List, [], ◌∷◌, ◌++◌, length, take, drop, get_or, Option, Some, None, is_some, unwrap_or, refl, sym, ap, ◌∙◌, arith, append_assoc, append-nil, length-append, length-drop, drop-drop, drop-cons, true≢false}
use Rattle.std.proofs.lemmas.Bool.{and_parts, le-leb, leb-true, lt-leb, ne_eqb}
use Rattle.std.specs.Prelude.{◌&&◌}
use Rattle.std.proofs.Math.Seq.{take-append_seam, drop-append_seam}
use Rattle.bundle_port.specs.Bundle.{begins_bundle, bundle_bytes, has_head, is_part, parts_behind, parts_bytes, parts_from, parts_or_itself}
use Rattle.bundle_port.proofs.BundleLemmas.{HaveBytes, read_back, spelled}

-- ---- parts that wait

have_bytes : (bytes : List ℕ) → HaveBytes (parts_behind 3 bytes)
have_bytes bytes = go (parts_from (drop 3 bytes) 0) refl
  where
    go : (o : Option (List (List ℕ))) → parts_from (drop 3 bytes) 0 ≡ o → HaveBytes (unwrap_or o [])
    go None e = tt
    go (Some parts) e = (spelled (drop 3 bytes) 0 parts e).have_bytes

have_bytes_more : (parts : List (List ℕ)) (part : List ℕ) → HaveBytes parts → 32 ≤ length part → HaveBytes (parts ++ part ∷ [])
have_bytes_more [] part h one = (one, tt)
have_bytes_more (first ∷ parts) part h one = (h.0, have_bytes_more parts part h.1 one)

bytes_more : (parts : List (List ℕ)) (part : List ℕ) → (parts_bytes parts ++ length part ∷ []) ++ part ≡ parts_bytes (parts ++ part ∷ [])
bytes_more [] part = sym (append-nil (length part ∷ part))
bytes_more (first ∷ parts) part =
    let one = length first ∷ first in
    ap (λ (l : List ℕ). l ++ part) (append_assoc one (parts_bytes parts) (length part ∷ []))
    ∙ append_assoc one (parts_bytes parts ++ length part ∷ []) part
    ∙ ap (λ (l : List ℕ). one ++ l) (bytes_more parts part)

-- the parts of a bundle's bytes
pub parts_are : (bytes : List ℕ) (parts : List (List ℕ)) → HaveBytes parts → bytes ≡ bundle_bytes parts → parts_behind 3 bytes ≡ parts
parts_are bytes parts h e =
    ap (λ (l : List ℕ). parts_behind 3 l) e ∙ ap (λ (o : Option (List (List ℕ))). unwrap_or o []) (read_back parts h)

pub parts_kept_are : (bytes : List ℕ) (parts : List (List ℕ)) → HaveBytes parts → bytes ≡ bundle_bytes parts → bytes ≡ bundle_bytes (parts_behind 3 bytes)
parts_kept_are bytes parts h e = e ∙ ap bundle_bytes (sym (parts_are bytes parts h e))

-- a part is appended
record IsMore (old new : List ℕ) (part : List ℕ) : Type 0 where
  have : HaveBytes (parts_behind 3 old ++ part ∷ [])
  bytes_are : new ≡ bundle_bytes (parts_behind 3 old ++ part ∷ [])

is_more : (old mid new part : List ℕ) → old ≡ bundle_bytes (parts_behind 3 old) → mid ≡ old ++ length part ∷ [] → new ≡ mid ++ part → is_part part ≡ true → IsMore old new part
is_more old mid new part kept one more is =
    let parts = parts_behind 3 old in
    record {
      have = have_bytes_more parts part (have_bytes old) (leb-true 32 (length part) (and_parts (leb 32 (length part)) (leb (length part) 255) is).0);
      bytes_are =
          more ∙ ap (λ (l : List ℕ). l ++ part) (one ∙ ap (λ (l : List ℕ). l ++ length part ∷ []) kept)
          ∙ ap (λ (l : List ℕ). 0x4f ∷ 0x42 ∷ 1 ∷ l) (bytes_more parts part);
    }

pub appended : (old mid new part : List ℕ) → old ≡ bundle_bytes (parts_behind 3 old) → mid ≡ old ++ length part ∷ [] → new ≡ mid ++ part → is_part part ≡ true
    → parts_behind 3 new ≡ parts_behind 3 old ++ part ∷ []
appended old mid new part kept one more is =
    let m = is_more old mid new part kept one more is in
    parts_are new (parts_behind 3 old ++ part ∷ []) m.have m.bytes_are

pub appended_kept : (old mid new part : List ℕ) → old ≡ bundle_bytes (parts_behind 3 old) → mid ≡ old ++ length part ∷ [] → new ≡ mid ++ part → is_part part ≡ true
    → new ≡ bundle_bytes (parts_behind 3 new)
appended_kept old mid new part kept one more is =
    let m = is_more old mid new part kept one more is in
    parts_kept_are new (parts_behind 3 old ++ part ∷ []) m.have m.bytes_are

-- ---- parts that are left

-- the first of some parts, and the others
pub record HasFirst (bytes : List ℕ) (start : ℕ) (parts : List (List ℕ)) : Type 0 where
  pub part : List ℕ
  pub others : List (List ℕ)
  pub parts_are : parts ≡ part ∷ others
  pub within : start < length bytes
  pub len_is : get_or bytes start 0 ≡ length part
  pub end_within : start + 1 + length part ≤ length bytes
  pub part_is : take (length part) (drop (start + 1) bytes) ≡ part
  pub rest_is : parts_from (drop (start + 1 + length part) bytes) 0 ≡ Some others

has_first : (bytes : List ℕ) (start : ℕ) (part : List ℕ) (others : List (List ℕ)) → drop start bytes ≡ (length part ∷ part) ++ parts_bytes others → HaveBytes others → HasFirst bytes start (part ∷ others)
has_first bytes start part others e h =
    let long : length bytes - start ≡ suc (length part + length (parts_bytes others)) =
    sym (length-drop start bytes) ∙ ap length e ∙ ap suc (length-append part (parts_bytes others)) in
    let within : start < length bytes = omega (arith, long) in
    let both : get_or bytes start 0 ∷ drop (suc start) bytes ≡ (length part ∷ part) ++ parts_bytes others = sym (drop-cons bytes start 0 within) ∙ e in
    let one : suc start ≡ start + 1 = omega arith in
    let rest : drop (start + 1) bytes ≡ part ++ parts_bytes others =
    ap (λ (n : ℕ). drop n bytes) (sym one) ∙ ap (drop 1) both in
    record {
      part = part;
      others = others;
      parts_are = refl;
      within = within;
      len_is = ap (λ (l : List ℕ). get_or l 0 0) both;
      end_within = omega (arith, long, within);
      part_is = ap (take (length part)) rest ∙ take-append_seam part (parts_bytes others);
      rest_is =
          ap (λ (l : List ℕ). parts_from l 0)
          (sym (drop-drop (length part) (start + 1) bytes) ∙ ap (drop (length part)) rest ∙ drop-append_seam part (parts_bytes others))
          ∙ read_back others h;
    }

pub first_left : (bytes : List ℕ) (start : ℕ) → is_some (parts_from (drop start bytes) 0) ≡ true → 1 ≤ length (parts_behind start bytes) → HasFirst bytes start (parts_behind start bytes)
first_left bytes start some more = go (parts_from (drop start bytes) 0) refl some more
  where
    go : (o : Option (List (List ℕ))) → parts_from (drop start bytes) 0 ≡ o → is_some o ≡ true → 1 ≤ length (unwrap_or o []) → HasFirst bytes start (unwrap_or o [])
    go None e is h = absurd (true≢false (sym is))
    go (Some []) e is h = absurd (omega arith)
    go (Some (part ∷ others)) e is h =
        let s = spelled (drop start bytes) 0 (part ∷ others) e in
        has_first bytes start part others s.bytes_are s.have_bytes.1

-- no part is left exactly if no byte is
pub is_none_left : (bytes : List ℕ) (start : ℕ) → is_some (parts_from (drop start bytes) 0) ≡ true → leb (length bytes) start ≡ eqb (length (parts_behind start bytes)) 0
is_none_left bytes start some = go (parts_from (drop start bytes) 0) refl some
  where
    go : (o : Option (List (List ℕ))) → parts_from (drop start bytes) 0 ≡ o → is_some o ≡ true → leb (length bytes) start ≡ eqb (length (unwrap_or o [])) 0
    go None e is = absurd (true≢false (sym is))
    go (Some []) e is =
        let s = spelled (drop start bytes) 0 [] e in
        let none : length bytes - start ≡ 0 = sym (length-drop start bytes) ∙ ap length s.bytes_are in
        le-leb (length bytes) start (omega arith)
    go (Some (part ∷ others)) e is =
        let s = spelled (drop start bytes) 0 (part ∷ others) e in
        let f = has_first bytes start part others s.bytes_are s.have_bytes.1 in
        let within = f.within in
        lt-leb (length bytes) start within ∙ sym (ne_eqb (suc (length others)) 0 (λ e. omega arith))

-- ---- a datagram has parts

pub have_parts : (bytes : List ℕ) → leb 1 (length (parts_or_itself bytes)) ≡ true
have_parts bytes = by_head (begins_bundle bytes) refl
  where
    by_parts : (o : Option (List (List ℕ))) → parts_from (drop 3 bytes) 0 ≡ o → 4 ≤ length bytes → leb 1 (length (unwrap_or o (bytes ∷ []))) ≡ true
    by_parts None e h = refl
    by_parts (Some []) e h =
        let s = spelled (drop 3 bytes) 0 [] e in
        let none : length bytes - 3 ≡ 0 = sym (length-drop 3 bytes) ∙ ap length s.bytes_are in
        absurd (omega arith)
    by_parts (Some (part ∷ others)) e h = le-leb 1 (suc (length others)) (omega arith)

    by_head : (begins : Bool) → begins_bundle bytes ≡ begins → leb 1 (length (unwrap_or (cond begins (parts_from (drop 3 bytes) 0) None) (bytes ∷ []))) ≡ true
    by_head false e = refl
    by_head true e =
        let long = and_parts (leb 4 (length bytes) && leb (length bytes) 512) (has_head bytes) e in
        by_parts (parts_from (drop 3 bytes) 0) refl (leb-true 4 (length bytes) (and_parts (leb 4 (length bytes)) (leb (length bytes) 512) long.0).0)

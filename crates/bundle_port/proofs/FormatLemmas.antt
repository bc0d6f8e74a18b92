-- A bundle and its parts.
use Rattle.std.proofs.Common.{◌≡◌, ℕ, ◌≤◌, Bool, true, false, cond, eqb, leb, List, [], ◌∷◌, length, drop, Option, Some, None, refl, sym, ap, ◌∙◌, arith}
use Rattle.std.specs.Prelude.{◌&&◌}
use Rattle.std.proofs.lemmas.Bool.{and_parts, eqb-true, le-leb, leb-true}
use Rattle.bundle_port.specs.Bundle.{begins_bundle, bundle_bytes, has_head, is_part, parts_at, parts_bytes, parts_from}
use Rattle.bundle_port.specs.Promises.{are_parts}
use Rattle.bundle_port.proofs.BundleLemmas.{HaveBytes, read_back, spelled}

pub parts_have_bytes : (parts : List (List ℕ)) → are_parts parts ≡ true → HaveBytes parts
parts_have_bytes [] are = tt
parts_have_bytes (part ∷ parts) are =
    let both = and_parts (is_part part) (are_parts parts) are in
    (leb-true 32 (length part) (and_parts (leb 32 (length part)) (leb (length part) 255) both.0).0, parts_have_bytes parts both.1)

-- ---- read back

abbrev when_begins : List (List ℕ) → Bool → Option (List (List ℕ))
when_begins parts begins = cond begins (parts_from (parts_bytes parts) 0) None

begins : (part : List ℕ) (parts : List (List ℕ)) → length (bundle_bytes (part ∷ parts)) ≤ 512 → begins_bundle (bundle_bytes (part ∷ parts)) ≡ true
begins part parts h =
    let all = bundle_bytes (part ∷ parts) in
    let low : leb 4 (length all) ≡ true = le-leb 4 (length all) (omega arith) in
    ap (λ (b : Bool). (b && leb (length all) 512) && true) low ∙ ap (λ (b : Bool). (true && b) && true) (le-leb (length all) 512 h)

pub read_parts : (parts : List (List ℕ)) → are_parts parts ≡ true → 1 ≤ length parts → length (bundle_bytes parts) ≤ 512 → parts_at (bundle_bytes parts) ≡ Some parts
read_parts [] are some h = absurd (omega arith)
read_parts (part ∷ parts) are some h =
    ap (when_begins (part ∷ parts)) (begins part parts h) ∙ read_back (part ∷ parts) (parts_have_bytes (part ∷ parts) are)

-- ---- one spelling

-- bytes that begin with the mark and the version
with_head : (bytes : List ℕ) → 4 ≤ length bytes → has_head bytes ≡ true → bytes ≡ 0x4f ∷ 0x42 ∷ 1 ∷ drop 3 bytes
with_head [] h is = absurd (omega arith)
with_head (a ∷ []) h is = absurd (omega arith)
with_head (a ∷ b ∷ []) h is = absurd (omega arith)
with_head (a ∷ b ∷ d ∷ rest) h is =
    let two = and_parts (eqb a 0x4f && eqb b 0x42) (eqb d 1) is in
    let one = and_parts (eqb a 0x4f) (eqb b 0x42) two.0 in
    ap (λ (n : ℕ). n ∷ b ∷ d ∷ rest) (eqb-true a 0x4f one.0)
    ∙ ap (λ (n : ℕ). 0x4f ∷ n ∷ d ∷ rest) (eqb-true b 0x42 one.1)
    ∙ ap (λ (n : ℕ). 0x4f ∷ 0x42 ∷ n ∷ rest) (eqb-true d 1 two.1)

pub spelled_so : (bytes : List ℕ) (parts : List (List ℕ)) → parts_at bytes ≡ Some parts → bytes ≡ bundle_bytes parts
spelled_so bytes parts e = go (begins_bundle bytes) refl e
  where
    go : (b : Bool) → begins_bundle bytes ≡ b → cond b (parts_from (drop 3 bytes) 0) None ≡ Some parts → bytes ≡ bundle_bytes parts
    go false is at = absurd cc
    go true is at =
        let both = and_parts (leb 4 (length bytes) && leb (length bytes) 512) (has_head bytes) is in
        let long = leb-true 4 (length bytes) (and_parts (leb 4 (length bytes)) (leb (length bytes) 512) both.0).0 in
        with_head bytes long both.1 ∙ ap (λ (l : List ℕ). 0x4f ∷ 0x42 ∷ 1 ∷ l) (spelled (drop 3 bytes) 0 parts at).bytes_are

pub same_spelling : (first second : List ℕ) (parts : List (List ℕ)) → parts_at first ≡ Some parts → parts_at second ≡ Some parts → first ≡ second
same_spelling first second parts one two = spelled_so first parts one ∙ sym (spelled_so second parts two)

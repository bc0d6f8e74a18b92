-- The index of a book: the place of each name.
use Rattle.std.proofs.Common.{◌≡◌, ℕ, zero, suc, ◌+◌, ◌<◌, ◌≤◌, Bool, true, false, cond, List, [], ◌∷◌, ◌++◌, length, Option, Some, None, refl, sym, ap, subst, ◌∙◌, arith, true≢false, length-append}
use Rattle.std.specs.Prelude.{slice_get, All, IfSome, IfNone, IsSomeAnd}
use Rattle.std.specs.List.{AllByRecursion}
use Rattle.std.proofs.lemmas.List.Elements.{All-from_recursion}
use Rattle.std.specs.Ordering.{nat_cmp, is_eq}
use Rattle.std.specs.Cmp.Lexicographic.{slice_cmp}
use Rattle.std.specs.Str.{bytes_eq}
use Rattle.std.proofs.lemmas.Map.Text.{is_eq-slice_cmp}
use Rattle.std.proofs.lemmas.Slice.Eq.{bytes_eq-Decides}
use Rattle.std.specs.BTreeMap as tree
use Rattle.std.specs.BTreeMap.{BTreeMap}
use Rattle.arrayvec.specs.ArrayVec.{ArrayVec}
use Rattle.token_file.specs.Credential.{Credential, place_from, place_of}
use Rattle.field_text.specs.Word.{is_word}
use Rattle.token_file.specs.Book.{IsIndexed, name_cmp}

-- the first of two places that there is
abbrev or_place : Option ℕ → Option ℕ → Option ℕ
or_place (Some n) other = Some n
or_place None other = other

place_at : (p k : ℕ) (t : Bool) (longer shorter last : Option ℕ) → longer ≡ or_place shorter last → cond t (Some p) longer ≡ or_place (cond t (Some p) shorter) last
place_at p k true longer shorter last e = refl
place_at p k false longer shorter last e = e

-- the place of a name after one more token
place_from-append : (p : ℕ) (name : List ℕ) (cs : List Credential) (c : Credential)
    → place_from p name (cs ++ c ∷ []) ≡ or_place (place_from p name cs) (cond (bytes_eq c.name name) (Some (p + length cs)) None)
place_from-append p name [] c = let same : p ≡ p + 0 = omega arith in ap (λ k. cond (bytes_eq c.name name) (Some k) None) same
place_from-append p name (d ∷ cs) c =
    let same : p + 1 + length cs ≡ p + suc (length cs) = omega arith in
    place_at p 0 (bytes_eq d.name name) (place_from (p + 1) name (cs ++ c ∷ [])) (place_from (p + 1) name cs) (cond (bytes_eq c.name name) (Some (p + suc (length cs))) None)
    (place_from-append (p + 1) name cs c ∙ ap (λ k. or_place (place_from (p + 1) name cs) (cond (bytes_eq c.name name) (Some k) None)) same)

join : (o : Option ℕ) (b : Bool) (n k : ℕ) → n ≡ k → (b ≡ true → o ≡ None) → cond b (Some n) o ≡ or_place o (cond b (Some k) None)
join o true n k same none = ap Some same ∙ ap (λ (x : Option ℕ). or_place x (Some k)) (sym (none refl))
join None false n k same none = refl
join (Some m) false n k same none = refl

-- the index after one more token
pub place_of-append : (cs : List Credential) (c : Credential) (n : ℕ) (name : List ℕ) → place_of c.name cs ≡ None → n ≡ length cs
    → cond (is_eq (slice_cmp nat_cmp c.name name)) (Some n) (place_of name cs) ≡ place_of name (cs ++ c ∷ [])
place_of-append cs c n name new same =
    rw (is_eq-slice_cmp c.name name)
    (join (place_of name cs) (bytes_eq c.name name) n (0 + length cs) (omega (arith, same))
    (λ is. subst (λ (x : List ℕ). place_of x cs ≡ None) ((bytes_eq-Decides c.name name).0 is) new)
    ∙ sym (place_from-append 0 name cs c))

pub short-append : (cs : List Credential) (c : Credential) → AllByRecursion (λ c. length c.name ≤ 64) cs → length c.name ≤ 64 → AllByRecursion (λ c. length c.name ≤ 64) (cs ++ c ∷ [])
short-append [] c h fits = (fits, tt)
short-append (d ∷ cs) c h fits = (h.0, short-append cs c h.1 fits)

far_at : (p : ℕ) (t : Bool) (o : Option ℕ) → t ≡ false → o ≡ None → cond t (Some p) o ≡ None
far_at p true o e h = absurd (true≢false e)
far_at p false o e h = h

differs : (t : Bool) (xs ys : List ℕ) → bytes_eq xs ys ≡ t → length xs ≤ 64 → 64 < length ys → t ≡ false
differs false xs ys e h k = refl
differs true xs ys e h k = let same : length xs ≡ length ys = ap (λ (zs : List ℕ). length zs) ((bytes_eq-Decides xs ys).0 e) in absurd (omega (arith, same, h, k))

-- no token has a longer name
pub place_from_long : (p : ℕ) (name : List ℕ) (cs : List Credential) → AllByRecursion (λ c. length c.name ≤ 64) cs → 64 < length name → place_from p name cs ≡ None
place_from_long p name [] h long = refl
place_from_long p name (c ∷ cs) h long =
    far_at p (bytes_eq c.name name) (place_from (p + 1) name cs) (differs (bytes_eq c.name name) c.name name refl h.0 long) (place_from_long (p + 1) name cs h.1 long)

below_at : (p n : ℕ) (t : Bool) (o : Option ℕ) (k : ℕ) → cond t (Some p) o ≡ Some n → p < k → (o ≡ Some n → n < k) → n < k
below_at p n true o k e h f = let same : p ≡ n = cc in omega (arith, same, h)
below_at p n false o k e h f = f e

-- a place is below the length
pub place_from_below : (p : ℕ) (name : List ℕ) (cs : List Credential) (n : ℕ) → place_from p name cs ≡ Some n → n < p + length cs
place_from_below p name [] n e = absurd cc
place_from_below p name (c ∷ cs) n e =
    below_at p n (bytes_eq c.name name) (place_from (p + 1) name cs) (p + length (c ∷ cs)) e (omega arith) (λ h. let k = place_from_below (p + 1) name cs n h in omega (arith, k))

own_old : (cs : List Credential) (c d : Credential) (n : ℕ) → place_of d.name cs ≡ Some n → place_of d.name (cs ++ c ∷ []) ≡ Some n
own_old cs c d n h = place_from-append 0 d.name cs c ∙ ap (λ o. or_place o (cond (bytes_eq c.name d.name) (Some (0 + length cs)) None)) h

own_new : (cs : List Credential) (c : Credential) → place_of c.name cs ≡ None → place_of c.name (cs ++ c ∷ []) ≡ Some (length cs)
own_new cs c free =
    place_from-append 0 c.name cs c ∙ ap (λ o. or_place o (cond (bytes_eq c.name c.name) (Some (0 + length cs)) None)) free
    ∙ ap (λ t. cond t (Some (0 + length cs)) None) ((bytes_eq-Decides c.name c.name).1 refl)
    ∙ (let same : 0 + length cs ≡ length cs = omega arith in ap Some same)

-- a fact of each token, by its place, and of one more
at_append : (P : ℕ → Credential → Type 0) (cs : List Credential) (c : Credential) → ((n : ℕ) → IfSome (slice_get cs n) (P n)) → P (length cs) c → (n : ℕ) → IfSome (slice_get (cs ++ c ∷ []) n) (P n)
at_append P [] c h p zero = p
at_append P [] c h p (suc n) = tt
at_append P (d ∷ cs) c h p zero = h 0
at_append P (d ∷ cs) c h p (suc n) = at_append (λ k. P (suc k)) cs c (λ k. h (suc k)) p n

own_weaker : (cs : List Credential) (c : Credential) (n : ℕ) (o : Option Credential) → IfSome o (λ d. place_of d.name cs ≡ Some n) → IfSome o (λ d. place_of d.name (cs ++ c ∷ []) ≡ Some n)
own_weaker cs c n None h = tt
own_weaker cs c n (Some d) h = own_old cs c d n h

own-append : (cs : List Credential) (c : Credential) → ((n : ℕ) → IfSome (slice_get cs n) (λ d. place_of d.name cs ≡ Some n)) → place_of c.name cs ≡ None
    → (n : ℕ) → IfSome (slice_get (cs ++ c ∷ []) n) (λ d. place_of d.name (cs ++ c ∷ []) ≡ Some n)
own-append cs c h free =
    at_append (λ n d. place_of d.name (cs ++ c ∷ []) ≡ Some n) cs c (λ n. own_weaker cs c n (slice_get cs n) (h n)) (own_new cs c free)

-- a token has the name that it is found by
pub record IsFoundAt (p : ℕ) (name : List ℕ) (cs : List Credential) (place : ℕ) : Type 0 where
  pub n : ℕ
  pub is : place ≡ p + n
  pub named : IsSomeAnd (slice_get cs n) (λ c. c.name ≡ name)

found_at : (p place : ℕ) (name : List ℕ) (c : Credential) (cs : List Credential) (t : Bool) → bytes_eq c.name name ≡ t
    → cond t (Some p) (place_from (p + 1) name cs) ≡ Some place → (place_from (p + 1) name cs ≡ Some place → IsFoundAt (p + 1) name cs place) → IsFoundAt p name (c ∷ cs) place
found_at p place name c cs true is e rest =
    record { n = 0; is = (let same : p ≡ place = cc in omega (arith, same)); named = (bytes_eq-Decides c.name name).0 is }
found_at p place name c cs false is e rest =
    let f = rest e in record { n = suc f.n; is = omega (arith, f.is); named = f.named }

place_from_found : (p place : ℕ) (name : List ℕ) (cs : List Credential) → place_from p name cs ≡ Some place → IsFoundAt p name cs place
place_from_found p place name [] e = absurd cc
place_from_found p place name (c ∷ cs) e = found_at p place name c cs (bytes_eq c.name name) refl e (place_from_found (p + 1) place name cs)

-- no token has a name that is not found
none_at : (p : ℕ) (name : List ℕ) (c : Credential) (o : Option ℕ) (t : Bool) (P : Type 0) → bytes_eq c.name name ≡ t → cond t (Some p) o ≡ None → (o ≡ None → P)
    → (c.name ≡ name → ⊥) × P
none_at p name c o true P is e rest = absurd cc
none_at p name c o false P is e rest = (λ same. true≢false (sym ((bytes_eq-Decides c.name name).1 same) ∙ is), rest e)

place_from_none : (p : ℕ) (name : List ℕ) (cs : List Credential) → place_from p name cs ≡ None → AllByRecursion (λ c. c.name ≡ name → ⊥) cs
place_from_none p name [] e = tt
place_from_none p name (c ∷ cs) e =
    none_at p name c (place_from (p + 1) name cs) (bytes_eq c.name name) (AllByRecursion (λ c. c.name ≡ name → ⊥) cs) refl e (place_from_none (p + 1) name cs)

-- what an answer says that is the place of a name
pub record IsAnswer (name : List ℕ) (book : List Credential) (answer : Option ℕ) : Type 0 where
  pub within : IfSome answer (λ id. id < length book)
  pub found : IfSome answer (λ id. IsSomeAnd (slice_get book id) (λ token. token.name ≡ name))
  pub none : IfNone answer (All (λ token. token.name ≡ name → ⊥) book)

answer_by : (name : List ℕ) (book : List Credential) (answer : Option ℕ) → place_of name book ≡ answer → IsAnswer name book answer
answer_by name book None e = record { within = tt; found = tt; none = All-from_recursion (λ c. c.name ≡ name → ⊥) book (place_from_none 0 name book e) }
answer_by name book (Some id) e =
    let below = place_from_below 0 name book id e in
    let f = place_from_found 0 id name book e in
    let same : f.n ≡ id = omega (arith, f.is) in
    record { within = omega (arith, below); found = subst (λ n. IsSomeAnd (slice_get book n) (λ token. token.name ≡ name)) same f.named; none = tt }

pub place_is_answer : (name : List ℕ) (book : List Credential) (answer : Option ℕ) → answer ≡ place_of name book → IsAnswer name book answer
place_is_answer name book answer e = answer_by name book answer (sym e)

-- the index after one more token, under its name as a key
pub is_indexed-append : (cs : List Credential) (c : Credential) (old new : BTreeMap (ArrayVec ℕ) ℕ) (key : ArrayVec ℕ) (n : ℕ) → IsIndexed cs old → key.items ≡ c.name
    → n ≡ length cs → length cs < 10000 → length c.name ≤ 64 → place_of c.name cs ≡ None → tree.Updates name_cmp old new key (Some n) → IsIndexed (cs ++ c ∷ []) new
is_indexed-append cs c old new key n indexed is place room fits free updates = record {
  few = omega (arith, length-append cs (c ∷ []), room);
  short = short-append cs c indexed.short fits;
  own = own-append cs c indexed.own free;
  places = λ name.
      updates.0 (record { items = name })
      ∙ ap (λ (k : List ℕ). cond (is_eq (slice_cmp nat_cmp k name)) (Some n) (tree.get name_cmp old (record { items = name }))) is
      ∙ ap (cond (is_eq (slice_cmp nat_cmp c.name name)) (Some n)) (indexed.places name)
      ∙ place_of-append cs c n name free place;
}

pub word_fits : (word : List ℕ) → is_word word ≡ true → length word ≤ 64
word_fits word is = grind arith

-- A map that has the row of each seed so far.
use Rattle.std.proofs.Common.{◌≡◌, ◌⊎◌, inl, inr, ◌↔◌, ℕ, zero, suc, ◌+◌, ◌-◌, ◌<◌, ◌≤◌, Bool, true, false, cond, List, [], ◌∷◌, ◌++◌, length, take, Option, Some, None, refl, sym, ap, subst, ◌∙◌, slice_get, option_map, arith, IsSomeAnd, true≢false}
use Rattle.std.specs.Ordering.{nat_cmp}
use Rattle.std.specs.Cmp.Lexicographic.{slice_cmp}
use Rattle.std.specs.Str.{bytes_eq}
use Rattle.std.specs.BTreeMap as tree
use Rattle.std.specs.BTreeMap.{BTreeMap}
use Rattle.std.specs.declared.cmp.Ordering.{Ordering}
use Rattle.std.proofs.lemmas.List.{length-map, take_more}
use Rattle.std.proofs.lemmas.Map.Text.{is_eq-slice_cmp}
use Rattle.std.proofs.lemmas.Option.{get_or_from_slice_get, slice_get-get_or, slice_get-map, slice_get_within}
use Rattle.std.proofs.lemmas.Slice.Eq.{bytes_eq-Decides}
use Rattle.arrayvec.specs.ArrayVec.{ArrayVec}
use Rattle.token_file.specs.Credential.{Credential}
use Rattle.token_file.specs.declared.token.Kind.{Kind}
use Rattle.token_file.specs.declared.token.Kind.TheVariants.{Event, Time30, Time60}
use Rattle.shared_secrets.specs.Repeat.{AreDistinct, IsFirstRepeat}
use Rattle.shared_secrets.specs.Seed.{Seed, key_of, kind_byte, seed_of, seeds_of}

-- the order of keys
abbrev pub key_cmp : ArrayVec ℕ → ArrayVec ℕ → Ordering
key_cmp a b = slice_cmp nat_cmp a.items b.items

-- the row of a seed in a map
abbrev pub row_in : BTreeMap (ArrayVec ℕ) ℕ → Seed → Option ℕ
row_in rows seed = tree.get key_cmp rows (record { items = key_of seed })

-- the map has the row of each seed, and no other
abbrev pub HasRows : BTreeMap (ArrayVec ℕ) ℕ → List Seed → Type 0
HasRows rows seeds = (seed : Seed) (row : ℕ) → (row_in rows seed ≡ Some row) ↔ (slice_get seeds row ≡ Some seed)

-- kinds of one byte are one kind
kind_tells : (a b : Kind) → kind_byte a ≡ kind_byte b → a ≡ b
kind_tells Event Event e = refl
kind_tells Event Time30 e = absurd (omega (arith, e))
kind_tells Event Time60 e = absurd (omega (arith, e))
kind_tells Time30 Event e = absurd (omega (arith, e))
kind_tells Time30 Time30 e = refl
kind_tells Time30 Time60 e = absurd (omega (arith, e))
kind_tells Time60 Event e = absurd (omega (arith, e))
kind_tells Time60 Time30 e = absurd (omega (arith, e))
kind_tells Time60 Time60 e = refl

-- seeds of one key are one seed
pub key_tells : (a b : Seed) → key_of a ≡ key_of b → a ≡ b
key_tells a b e =
    let byte : kind_byte a.kind ≡ kind_byte b.kind = cc in
    let secret : a.secret ≡ b.secret = cc in
    ap (λ (k : Kind). record { kind = k; secret = a.secret }) (kind_tells a.kind b.kind byte)
    ∙ ap (λ (s : List ℕ). record { kind = b.kind; secret = s }) secret

some_is : {A : Type 0} (a b : A) → Some a ≡ Some b → a ≡ b
some_is a b e = cc

-- an element after one more: one of the former, or the last
get_push : (xs : List Seed) (x : Seed) (n : ℕ) (y : Seed) → slice_get (xs ++ x ∷ []) n ≡ Some y
    → (slice_get xs n ≡ Some y) ⊎ ((n ≡ length xs) × (x ≡ y))
get_push [] x zero y e = inr (refl, some_is x y e)
get_push [] x (suc n) y e = absurd cc
get_push (z ∷ xs) x zero y e = inl e
get_push (z ∷ xs) x (suc n) y e = elim (get_push xs x n y e) [
  | inl a ↦ inl a
  | inr a ↦ inr (ap suc a.0, a.1)
]

get_former : (xs : List Seed) (x : Seed) (n : ℕ) (y : Seed) → slice_get xs n ≡ Some y → slice_get (xs ++ x ∷ []) n ≡ Some y
get_former [] x n y e = absurd cc
get_former (z ∷ xs) x zero y e = e
get_former (z ∷ xs) x (suc n) y e = get_former xs x n y e

get_last : (xs : List Seed) (x : Seed) → slice_get (xs ++ x ∷ []) (length xs) ≡ Some x
get_last [] x = refl
get_last (z ∷ xs) x = get_last xs x

get_taken : (n : ℕ) (xs : List Seed) (k : ℕ) (y : Seed) → slice_get (take n xs) k ≡ Some y → slice_get xs k ≡ Some y
get_taken zero xs k y e = absurd cc
get_taken (suc n) [] k y e = absurd cc
get_taken (suc n) (x ∷ xs) zero y e = e
get_taken (suc n) (x ∷ xs) (suc k) y e = get_taken n xs k y e

-- what the map has after one more seed, by whether it is the one
at_key : (t : Bool) (row n : ℕ) (old new : Option ℕ) (seeds : List Seed) (seed other : Seed) → new ≡ cond t (Some row) old → row ≡ length seeds
    → (t ≡ true → seed ≡ other) → (t ≡ false → seed ≡ other → ⊥) → (t ≡ true → old ≡ None) → (old ≡ Some n) ↔ (slice_get seeds n ≡ Some other)
    → (new ≡ Some n) ↔ (slice_get (seeds ++ seed ∷ []) n ≡ Some other)
at_key true row n old new seeds seed other is place same apart none has =
    let row_is : new ≡ Some row = is in (
      (λ e.
          let n_is : length seeds ≡ n = sym place ∙ some_is row n (sym row_is ∙ e) in
          subst (λ k. slice_get (seeds ++ seed ∷ []) k ≡ Some other) n_is (get_last seeds seed ∙ ap (λ (s : Seed). Some s) (same refl))),
      (λ e. elim (get_push seeds seed n other e) [
        | inl a ↦ absurd (let old_is : None ≡ Some n = sym (none refl) ∙ has.1 a in cc)
        | inr a ↦ row_is ∙ ap (λ (k : ℕ). Some k) (place ∙ sym a.0)
      ]),
    )
at_key false row n old new seeds seed other is place same apart none has =
    let old_is : new ≡ old = is in (
      (λ e. get_former seeds seed n other (has.0 (sym old_is ∙ e))),
      (λ e. elim (get_push seeds seed n other e) [
        | inl a ↦ old_is ∙ has.1 a
        | inr a ↦ absurd (apart refl a.1)
      ]),
    )

-- the map after one more seed, which it hadn't
pub has_more : (old new : BTreeMap (ArrayVec ℕ) ℕ) (seeds : List Seed) (seed : Seed) (key : ArrayVec ℕ) (row : ℕ) → HasRows old seeds
    → key.items ≡ key_of seed → row ≡ length seeds → tree.get key_cmp old key ≡ None → tree.Updates key_cmp old new key (Some row)
    → HasRows new (seeds ++ seed ∷ [])
has_more old new seeds seed key row has is place none updates other n =
    let decides = bytes_eq-Decides key.items (key_of other) in
    let test = is_eq-slice_cmp key.items (key_of other) in
    let new_is : row_in new other ≡ cond (bytes_eq key.items (key_of other)) (Some row) (row_in old other) =
    updates.0 (record { items = key_of other }) ∙ ap (λ t. cond t (Some row) (row_in old other)) test in
    at_key (bytes_eq key.items (key_of other)) row n (row_in old other) (row_in new other) seeds seed other new_is place
    (λ t. key_tells seed other (sym is ∙ decides.0 t))
    (λ t same. true≢false (sym (decides.1 (is ∙ ap key_of same)) ∙ t))
    (λ t. ap (λ (k : List ℕ). tree.get key_cmp old (record { items = k })) (sym (decides.0 t)) ∙ none)
    (has other n)

-- seeds of which a map has the rows are distinct
pub distinct_in : (rows : BTreeMap (ArrayVec ℕ) ℕ) (seeds : List Seed) → HasRows rows seeds → AreDistinct seeds
distinct_in rows seeds has i j d before within same =
    let at_i = slice_get-get_or seeds i d (omega (arith, before, within)) in
    let at_j = slice_get-get_or seeds j d within in
    let row_i = (has _ i).1 at_i in
    let row_j = (has _ j).1 at_j in
    let one : i ≡ j = some_is i j (sym row_i ∙ ap (row_in rows) same ∙ row_j) in
    absurd (omega (arith, before, one))

-- the seed of a row
pub seed_at : (book : List Credential) (row : ℕ) (token : Credential) → slice_get book row ≡ Some token
    → slice_get (seeds_of book) row ≡ Some (seed_of token)
seed_at book row token at = slice_get-map seed_of book row ∙ ap (option_map seed_of) at

-- the seeds of one more row
more_seeds : (seeds : List Seed) (row : ℕ) (seed : Seed) → slice_get seeds row ≡ Some seed → take (row + 1) seeds ≡ take row seeds ++ seed ∷ []
more_seeds seeds row seed at =
    take_more seeds row seed (slice_get_within seeds row seed at)
    ∙ ap (λ (s : Seed). take row seeds ++ s ∷ []) (get_or_from_slice_get seeds row seed seed at)

length_taken : (seeds : List Seed) (row : ℕ) → row < length seeds → row ≡ length (take row seeds)
length_taken [] row low = absurd (omega (arith, low))
length_taken (s ∷ seeds) zero low = refl
length_taken (s ∷ seeds) (suc row) low = ap suc (length_taken seeds row (omega (arith, low)))

-- the map after one more row
pub has_one_more : (old new : BTreeMap (ArrayVec ℕ) ℕ) (book : List Credential) (row : ℕ) (token : Credential) (key : ArrayVec ℕ)
    → HasRows old (take row (seeds_of book)) → slice_get book row ≡ Some token → key.items ≡ key_of (seed_of token)
    → tree.get key_cmp old key ≡ None → tree.Updates key_cmp old new key (Some row) → HasRows new (take (row + 1) (seeds_of book))
has_one_more old new book row token key has at is none updates =
    let here = seed_at book row token at in
    let low = slice_get_within (seeds_of book) row (seed_of token) here in
    subst (HasRows new) (sym (more_seeds (seeds_of book) row (seed_of token) here))
    (has_more old new (take row (seeds_of book)) (seed_of token) key row has is (length_taken (seeds_of book) row low) none updates)

-- the seed that the map has at a key is at its row
pub row_found : (rows : BTreeMap (ArrayVec ℕ) ℕ) (book : List Credential) (row first : ℕ) (token : Credential) (key : ArrayVec ℕ)
    → HasRows rows (take row (seeds_of book)) → key.items ≡ key_of (seed_of token) → tree.get key_cmp rows key ≡ Some first
    → slice_get (take row (seeds_of book)) first ≡ Some (seed_of token)
row_found rows book row first token key has is found =
    (has (seed_of token) first).0 (ap (λ (k : List ℕ). tree.get key_cmp rows (record { items = k })) (sym is) ∙ found)

-- the first repeat
pub first_repeat : (rows : BTreeMap (ArrayVec ℕ) ℕ) (book : List Credential) (row first : ℕ) (token : Credential) (key : ArrayVec ℕ)
    → HasRows rows (take row (seeds_of book)) → slice_get book row ≡ Some token → key.items ≡ key_of (seed_of token)
    → tree.get key_cmp rows key ≡ Some first → IsFirstRepeat (seeds_of book) (record { first = first + 1; second = row + 1 })
first_repeat rows book row first token key has at is found =
    let there = row_found rows book row first token key has is found in
    let here = seed_at book row token at in
    let low = slice_get_within (take row (seeds_of book)) first (seed_of token) there in
    let long : row ≡ length (take row (seeds_of book)) = length_taken (seeds_of book) row (slice_get_within (seeds_of book) row (seed_of token) here) in
    let back : row + 1 - 1 ≡ row = omega arith in
    let first_back : first + 1 - 1 ≡ first = omega arith in
    record {
      before = subst (λ n. AreDistinct (take n (seeds_of book))) (sym back) (distinct_in rows (take row (seeds_of book)) has);
      from_1 = omega arith;
      order = omega (arith, low, long);
      same = subst (λ o. IsSomeAnd o (λ seed. slice_get (seeds_of book) (first + 1 - 1) ≡ Some seed)) (sym (ap (slice_get (seeds_of book)) back ∙ here))
          (ap (slice_get (seeds_of book)) first_back ∙ get_taken row (seeds_of book) first (seed_of token) there);
    }

taken_all : (row : ℕ) (seeds : List Seed) → length seeds ≤ row → take row seeds ≡ seeds
taken_all zero [] low = refl
taken_all zero (s ∷ seeds) low = absurd (omega (arith, low))
taken_all (suc row) [] low = refl
taken_all (suc row) (s ∷ seeds) low = ap (λ (ss : List Seed). s ∷ ss) (taken_all row seeds (omega (arith, low)))

-- the seeds of a whole book are distinct
pub distinct_of : (rows : BTreeMap (ArrayVec ℕ) ℕ) (book : List Credential) (row : ℕ) → HasRows rows (take row (seeds_of book)) → length book ≤ row
    → AreDistinct (seeds_of book)
distinct_of rows book row has all =
    subst AreDistinct (taken_all row (seeds_of book) (omega (arith, all, length-map {A = Credential} book seed_of))) (distinct_in rows (take row (seeds_of book)) has)

-- the row that the map has is a row of the book
pub first_below : (rows : BTreeMap (ArrayVec ℕ) ℕ) (book : List Credential) (row first : ℕ) (token : Credential) (key : ArrayVec ℕ)
    → HasRows rows (take row (seeds_of book)) → key.items ≡ key_of (seed_of token) → tree.get key_cmp rows key ≡ Some first → first < length book
first_below rows book row first token key has is found =
    let there = get_taken row (seeds_of book) first (seed_of token) (row_found rows book row first token key has is found) in
    omega (arith, slice_get_within (seeds_of book) first (seed_of token) there, length-map {A = Credential} book seed_of)

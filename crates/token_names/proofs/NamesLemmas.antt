-- The names of the rows so far, and a set that has them.
use Rattle.std.proofs.Common.{◌≡◌, ◌≢◌, ◌⊎◌, inl, inr, ◌↔◌, ℕ, ◌+◌, ◌-◌, Bool, true, false, cond, not, List, [], ◌∷◌, ◌++◌, take, Some, refl, sym, ap, subst, ◌∙◌, get_or, slice_get, option_map, arith, Contains, IsSomeAnd, true≢false}
use Rattle.std.specs.Ordering.{nat_cmp, is_eq}
use Rattle.std.specs.Cmp.Lexicographic.{slice_cmp}
use Rattle.std.specs.BTreeSet.{BTreeSet, Updates, contains}
use Rattle.std.proofs.lemmas.List.{get_or_default, map-append, take-map, take_more}
use Rattle.std.proofs.lemmas.List.Elements.{Contains-append_left, Contains-push, Contains-push_cases}
use Rattle.std.proofs.lemmas.List.Quantifiers.{all_pairs_push}
use Rattle.std.proofs.lemmas.Map.Text.{is_eq-slice_cmp}
use Rattle.std.proofs.lemmas.Option.{get_or_from_slice_get, slice_get-map, slice_get_within}
use Rattle.std.proofs.lemmas.Slice.Eq.{bytes_eq-Decides}
use Rattle.token_file.specs.Credential.{Credential}
use Rattle.token_names.specs.Names.{AreDistinct, IsFirstRepeat, name_of, names_of}

-- the set has the names, and no other
abbrev pub HasAll : BTreeSet (List ℕ) → List (List ℕ) → Type 0
HasAll seen names = (name : List ℕ) → (contains (slice_cmp nat_cmp) seen name ≡ true) ↔ Contains names name

cond_true : (b c : Bool) → c ≡ true → cond b true c ≡ true
cond_true true c h = refl
cond_true false c h = h

cond_cases : (b c : Bool) → cond b true c ≡ true → (b ≡ true) ⊎ (c ≡ true)
cond_cases true c h = inl refl
cond_cases false c h = inr h

-- the set with one more name
pub has_more : (seen new : BTreeSet (List ℕ)) (names : List (List ℕ)) (key : List ℕ) → HasAll seen names
    → Updates (slice_cmp nat_cmp) seen new key true → HasAll new (names ++ key ∷ [])
has_more seen new names key has updates name =
    let at = is_eq-slice_cmp key name in
    let decides = bytes_eq-Decides key name in
    let is = updates.0 name in (
      (λ among. elim (cond_cases (is_eq (slice_cmp nat_cmp key name)) (contains (slice_cmp nat_cmp) seen name) (sym is ∙ among)) [
        | inl e ↦ subst (Contains (names ++ key ∷ [])) (decides.0 (sym at ∙ e)) (Contains-push names key)
        | inr e ↦ Contains-append_left names (key ∷ []) name ((has name).0 e)
      ]),
      (λ among. elim (Contains-push_cases names key name among) [
        | inl e ↦ is ∙ cond_true (is_eq (slice_cmp nat_cmp key name)) (contains (slice_cmp nat_cmp) seen name) ((has name).1 e)
        | inr e ↦ is ∙ ap (λ b. cond b true (contains (slice_cmp nat_cmp) seen name)) (at ∙ decides.1 e)
      ]),
    )

-- a name that the set hasn't is another one
pub distinct_more : (seen : BTreeSet (List ℕ)) (names : List (List ℕ)) (key : List ℕ) → HasAll seen names
    → contains (slice_cmp nat_cmp) seen key ≡ false → AreDistinct names → AreDistinct (names ++ key ∷ [])
distinct_more seen names key has none distinct =
    all_pairs_push (λ a b. a ≢ b) names key distinct (λ k d low same.
    let d_is : get_or names k key ≡ get_or names k d = get_or_default names k key d low in
    true≢false (sym ((has key).1 (k, low, d_is ∙ same)) ∙ none))

-- the first row whose name is among those before
pub first_repeat : (salt : List ℕ) (book : List Credential) (row : ℕ) (token : Credential) (key : List ℕ) → slice_get book row ≡ Some token
    → key ≡ name_of salt token → AreDistinct (names_of salt (take row book)) → Contains (names_of salt (take row book)) key
    → IsFirstRepeat (names_of salt book) (row + 1)
first_repeat salt book row token key at is distinct among =
    let back : row + 1 - 1 ≡ row = omega arith in
    let before : take (row + 1 - 1) (names_of salt book) ≡ names_of salt (take row book) =
    ap (λ n. take n (names_of salt book)) back ∙ take-map (name_of salt) row book in
    let here : slice_get (names_of salt book) (row + 1 - 1) ≡ Some (name_of salt token) =
    ap (slice_get (names_of salt book)) back ∙ slice_get-map (name_of salt) book row ∙ ap (option_map (name_of salt)) at in
    record {
      before = subst AreDistinct (sym before) distinct;
      again = subst (λ o. IsSomeAnd o (Contains (take (row + 1 - 1) (names_of salt book)))) (sym here)
          (subst (λ names. Contains names (name_of salt token)) (sym before) (subst (Contains (names_of salt (take row book))) is among));
    }

-- the names of one more row
pub more_names : (salt : List ℕ) (book : List Credential) (row : ℕ) (token : Credential) → slice_get book row ≡ Some token
    → names_of salt (take (row + 1) book) ≡ names_of salt (take row book) ++ name_of salt token ∷ []
more_names salt book row token at =
    let low = slice_get_within book row token at in
    ap (names_of salt) (take_more book row token low ∙ ap (λ (t : Credential). take row book ++ t ∷ []) (get_or_from_slice_get book row token token at))
    ∙ map-append (name_of salt) (take row book) (token ∷ [])

pub not_true : (b flag : Bool) → flag ≡ not b → flag ≡ true → b ≡ false
not_true true flag is e = absurd (true≢false (sym e ∙ is))
not_true false flag is e = refl

pub not_false : (b flag : Bool) → flag ≡ not b → flag ≡ false → b ≡ true
not_false true flag is e = refl
not_false false flag is e = absurd (true≢false (sym is ∙ e))

-- the list, the set and the difference of the names, after one more row
pub listed_more : (salt : List ℕ) (book : List Credential) (row : ℕ) (token : Credential) (key : List ℕ) (items pushed : List (List ℕ))
    → slice_get book row ≡ Some token → key ≡ name_of salt token → items ≡ names_of salt (take row book)
    → pushed ≡ items ++ key ∷ [] → pushed ≡ names_of salt (take (row + 1) book)
listed_more salt book row token key items pushed at is listed added =
    added ∙ ap (λ (names : List (List ℕ)). names ++ key ∷ []) listed ∙ ap (λ (k : List ℕ). names_of salt (take row book) ++ k ∷ []) is
    ∙ sym (more_names salt book row token at)

pub has_one_more : (salt : List ℕ) (book : List Credential) (row : ℕ) (token : Credential) (key : List ℕ) (seen new : BTreeSet (List ℕ))
    → slice_get book row ≡ Some token → key ≡ name_of salt token → HasAll seen (names_of salt (take row book))
    → Updates (slice_cmp nat_cmp) seen new key true → HasAll new (names_of salt (take (row + 1) book))
has_one_more salt book row token key seen new at is has updates =
    subst (HasAll new) (ap (λ (k : List ℕ). names_of salt (take row book) ++ k ∷ []) is ∙ sym (more_names salt book row token at))
    (has_more seen new (names_of salt (take row book)) key has updates)

pub distinct_one_more : (salt : List ℕ) (book : List Credential) (row : ℕ) (token : Credential) (key : List ℕ) (seen : BTreeSet (List ℕ))
    → slice_get book row ≡ Some token → key ≡ name_of salt token → HasAll seen (names_of salt (take row book))
    → contains (slice_cmp nat_cmp) seen key ≡ false → AreDistinct (names_of salt (take row book))
    → AreDistinct (names_of salt (take (row + 1) book))
distinct_one_more salt book row token key seen at is has none distinct =
    subst AreDistinct (ap (λ (k : List ℕ). names_of salt (take row book) ++ k ∷ []) is ∙ sym (more_names salt book row token at))
    (distinct_more seen (names_of salt (take row book)) key has none distinct)

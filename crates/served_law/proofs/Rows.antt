-- The rows of a store by names: its tables say them, and no two have one name.
use Rattle.std.proofs.Common.{◌≡◌, ℕ, zero, suc, ◌+◌, ◌<◌, Bool, true, false, cond, not, List, [], ◌∷◌, ◌++◌, length, get_or, Some, refl, sym, ap, ◌∙◌, arith, inl, inr, ◌⊎◌}
use Rattle.std.specs.Prelude.{slice_get, filter}
use Rattle.std.specs.Option.{option_map}
use Rattle.std.proofs.lemmas.Bool.{cases_order, cond_both, false≢true}
use Rattle.std.proofs.lemmas.Option.{none-some, same_Some}
use Rattle.sqlite.specs.Tree.{Trees}
use Rattle.roster_sql.specs.Roster.{HoldsEntry, HoldsRoster, entry_columns, entry_values}
use Rattle.roster_sql.specs.declared.entry.Entry.{Entry}
use Rattle.named_store.specs.Seating.{AreDistinct, has_name, name_at, new_entries, rows_after}
use Rattle.named_store.proofs.IndexLemmas.{has_named}

-- ---- the tables have one list of rows

same_entry : (token : ℕ) (a b : Entry) → entry_values token a ≡ entry_values token b → a ≡ b
same_entry token a b e =
    let name : a.name ≡ b.name = cc in
    let seed : a.seed ≡ b.seed = cc in
    λ i. record { name = name i; seed = seed i }

pub one_entry : (trees : Trees) (token : ℕ) (a b : Entry) → HoldsEntry trees token a → HoldsEntry trees token b → a ≡ b
one_entry trees token a b one other =
    let same = same_Some one.found other.found (sym one.place ∙ other.place) in
    same_entry token a b (sym one.shows ∙ ap entry_columns same ∙ other.shows)

same_rows : (xs ys : List Entry) → length xs ≡ length ys → ((t : ℕ) (a b : Entry) → slice_get xs t ≡ Some a → slice_get ys t ≡ Some b → a ≡ b) → xs ≡ ys
same_rows [] [] long each = refl
same_rows [] (y ∷ ys) long each = absurd (omega (arith, long))
same_rows (x ∷ xs) [] long each = absurd (omega (arith, long))
same_rows (x ∷ xs) (y ∷ ys) long each =
    let rest = same_rows xs ys (omega (arith, long)) (λ t. each (suc t)) in
    let first = each 0 x y refl refl in
    λ i. first i ∷ rest i

pub one_roster : (trees : Trees) (xs ys : List Entry) → HoldsRoster trees xs → HoldsRoster trees ys → length xs ≡ length ys → xs ≡ ys
one_roster trees xs ys one other long =
    same_rows xs ys long (λ t a b at_a at_b. one_entry trees t a b (one t a at_a) (other t b at_b))

-- ---- no two rows have one name

-- a name is in one row at most
abbrev pub AreApart : List Entry → Type 0
AreApart rows = (i j : ℕ) (name : List ℕ) → name_at rows i ≡ Some name → name_at rows j ≡ Some name → i ≡ j

name_read : (rows : List Entry) (i : ℕ) (name : List ℕ) (d : Entry) → name_at rows i ≡ Some name → (i < length rows) × ((get_or rows i d).name ≡ name)
name_read [] i name d at = absurd (none-some name at)
name_read (x ∷ rows) zero name d at = (omega arith, same_Some x.name name at)
name_read (x ∷ rows) (suc i) name d at = let it = name_read rows i name d at in (omega (arith, it.0), it.1)

no_entry : Entry
no_entry = record { name = []; seed = [] }

not_before : (rows : List Entry) (i j : ℕ) (name : List ℕ) → AreDistinct rows → name_at rows i ≡ Some name → name_at rows j ≡ Some name → i < j → ⊥
not_before rows i j name distinct at_i at_j before =
    let one = name_read rows i name no_entry at_i in
    let two = name_read rows j name no_entry at_j in
    distinct i j no_entry before two.0 (one.1 ∙ sym two.1)

pub apart : (rows : List Entry) → AreDistinct rows → AreApart rows
apart rows distinct i j name at_i at_j =
    elim (cases_order i j) [
      | inl e ↦ e
      | inr (inl before) ↦ absurd (not_before rows i j name distinct at_i at_j before)
      | inr (inr after) ↦ absurd (not_before rows j i name distinct at_j at_i after)
    ]

rest_apart : (x : Entry) (rows : List Entry) → AreApart (x ∷ rows) → AreApart rows
rest_apart x rows are i j name at_i at_j = let e : suc i ≡ suc j = are (suc i) (suc j) name at_i at_j in omega (arith, e)

-- a row of the first rows, or of the others
record IsIn (xs ys : List Entry) (i : ℕ) (name : List ℕ) : Type 0 where
  row : ℕ
  there : name_at ys row ≡ Some name
  is : i ≡ length xs + row

in_both : (xs ys : List Entry) (i : ℕ) (name : List ℕ) → name_at (xs ++ ys) i ≡ Some name → (name_at xs i ≡ Some name) ⊎ IsIn xs ys i name
in_both [] ys i name at = inr (record { row = i; there = at; is = omega arith })
in_both (x ∷ xs) ys zero name at = inl at
in_both (x ∷ xs) ys (suc i) name at =
    elim (in_both xs ys i name at) [
      | inl here ↦ inl here
      | inr it ↦ inr (record { row = it.row; there = it.there; is = (let e = it.is in omega (arith, e)) })
    ]

both_apart : (xs ys : List Entry) → AreApart xs → AreApart ys
    → ((i j : ℕ) (name : List ℕ) → name_at xs i ≡ Some name → name_at ys j ≡ Some name → ⊥) → AreApart (xs ++ ys)
both_apart xs ys one other none i j name at_i at_j =
    elim (in_both xs ys i name at_i) [
      | inl here ↦ elim (in_both xs ys j name at_j) [
        | inl too ↦ one i j name here too
        | inr it ↦ absurd (none i it.row name here it.there)
      ]
      | inr it ↦ elim (in_both xs ys j name at_j) [
        | inl here ↦ absurd (none j it.row name here it.there)
        | inr its ↦ (let e : it.row ≡ its.row = other it.row its.row name it.there its.there in omega (arith, e, it.is, its.is))
      ]
    ]

-- a row that passes the test
record IsPassed (test : Entry → Bool) (rows : List Entry) (name : List ℕ) : Type 0 where
  entry : Entry
  row : ℕ
  there : slice_get rows row ≡ Some entry
  is : entry.name ≡ name
  passes : test entry ≡ true

one_passed : (test : Entry → Bool) (x : Entry) (rows : List Entry) (name : List ℕ) (b : Bool) → test x ≡ b → (i : ℕ)
    → name_at (cond b (x ∷ filter test rows) (filter test rows)) i ≡ Some name
    → ((i : ℕ) → name_at (filter test rows) i ≡ Some name → IsPassed test rows name) → IsPassed test (x ∷ rows) name
one_passed test x rows name false e i h more =
    let it = more i h in record { entry = it.entry; row = suc it.row; there = it.there; is = it.is; passes = it.passes }
one_passed test x rows name true e zero h more =
    record { entry = x; row = 0; there = refl; is = same_Some x.name name h; passes = e }
one_passed test x rows name true e (suc i) h more =
    let it = more i h in record { entry = it.entry; row = suc it.row; there = it.there; is = it.is; passes = it.passes }

passed : (test : Entry → Bool) (rows : List Entry) (i : ℕ) (name : List ℕ) → name_at (filter test rows) i ≡ Some name → IsPassed test rows name
passed test [] i name at = absurd (none-some name at)
passed test (x ∷ rows) i name at = one_passed test x rows name (test x) refl i at (λ j h. passed test rows j name h)

named_there : (rows : List Entry) (row : ℕ) (entry : Entry) (name : List ℕ) → slice_get rows row ≡ Some entry → entry.name ≡ name → name_at rows row ≡ Some name
named_there rows row entry name there is = ap (option_map (λ (e : Entry). e.name)) there ∙ ap (λ n. Some n) is

not_first : (test : Entry → Bool) (x : Entry) (rows : List Entry) → AreApart (x ∷ rows) → (j : ℕ) (name : List ℕ) → x.name ≡ name
    → name_at (filter test rows) j ≡ Some name → ⊥
not_first test x rows are j name is at =
    let it = passed test rows j name at in
    let e : 0 ≡ suc it.row = are 0 (suc it.row) name (ap (λ n. Some n) is) (named_there rows it.row it.entry name it.there it.is) in
    omega (arith, e)

one_apart : (x : Entry) (rows : List Entry) → ((j : ℕ) (name : List ℕ) → x.name ≡ name → name_at rows j ≡ Some name → ⊥) → AreApart rows
    → (i j : ℕ) (name : List ℕ) → name_at (x ∷ rows) i ≡ Some name → name_at (x ∷ rows) j ≡ Some name → i ≡ j
one_apart x rows none others zero zero name at_i at_j = refl
one_apart x rows none others zero (suc j) name at_i at_j = absurd (none j name (same_Some x.name name at_i) at_j)
one_apart x rows none others (suc i) zero name at_i at_j = absurd (none i name (same_Some x.name name at_j) at_i)
one_apart x rows none others (suc i) (suc j) name at_i at_j = ap suc (others i j name at_i at_j)

passed_apart : (test : Entry → Bool) (rows : List Entry) → AreApart rows → AreApart (filter test rows)
passed_apart test [] are = are
passed_apart test (x ∷ rows) are =
    let others = passed_apart test rows (rest_apart x rows are) in
    cond_both (test x) (x ∷ filter test rows) (filter test rows) AreApart
    (λ _. one_apart x (filter test rows) (not_first test x rows are) others) (λ _. others)

not_true : (b : Bool) → not b ≡ true → b ≡ true → ⊥
not_true true e h = false≢true e
not_true false e h = false≢true h

-- the rows after the new tokens were enrolled
pub after_apart : (roster names : List Entry) → AreDistinct roster → AreDistinct names → AreApart (rows_after roster names)
after_apart roster names old new =
    both_apart roster (new_entries roster names) (apart roster old) (passed_apart (λ e. not (has_name roster e.name)) names (apart names new))
    (λ i j name at_i at_j.
    let it = passed (λ e. not (has_name roster e.name)) names j name at_j in
    let had : has_name roster it.entry.name ≡ true = ap (has_name roster) it.is ∙ has_named roster i name no_entry at_i in
    not_true (has_name roster it.entry.name) it.passes had)

-- Gathered rows are the greatest.
use Rattle.std.proofs.Common.{◌≡◌, ℕ, ◌+◌, ◌≤◌, Bool, true, false, cond, List, [], ◌∷◌, ◌++◌, Option, Some, None, refl, sym, ap, subst, ◌∙◌, arith, append_assoc, append-nil, true≢false}
use Rattle.std.specs.Prelude.{◌&&◌, ◌||◌, ◌==◌, nat_le, is_some, IsSomeAnd}
use Rattle.std.specs.List.{AllByRecursion, list_any}
use Rattle.std.specs.Option.{option_or}
use Rattle.std.specs.Str.{bytes_eq}
use Rattle.std.proofs.lemmas.Slice.Eq.{bytes_eq-Decides}
use Rattle.floors_file.specs.declared.named.NamedFloor.{NamedFloor}
use Rattle.floors_file.specs.Gathered.{greater}
use Rattle.floors_file.specs.Named.{NamedFloorsRecord}
use Rattle.floors_file.specs.NamedGathered.{AreDifferent, AreGreatest, floor_of_name, gathered_rows, is_row_of, rows_of, seed_of_name, with_files, with_rows}
use Rattle.floors_file.specs.NamedRows.{has_name, place_from, place_of_name, raised, with_row}
use Rattle.floors_file.proofs.RoundLemmas.{and_both}

-- the floor of a name is at least a number
abbrev HasAtLeast : List ℕ → ℕ → List NamedFloor → Type 0
HasAtLeast name least rows = IsSomeAnd (floor_of_name name rows) (λ next. least ≤ next)

at_least_first : (a b k : ℕ) → k ≤ a → k ≤ greater a b
at_least_first a b k h = grind arith

at_least_second : (a b k : ℕ) → k ≤ b → k ≤ greater a b
at_least_second a b k h = grind arith

-- ---- one more row

kept_here : (name : List ℕ) (least : ℕ) (x row : NamedFloor) (rows more : List NamedFloor) (same here : Bool)
    → (HasAtLeast name least rows → HasAtLeast name least more)
    → IsSomeAnd (cond here (Some x.next) (floor_of_name name rows)) (λ next. least ≤ next)
    → bytes_eq x.name name ≡ here
    → HasAtLeast name least (cond same (raised x row.next ∷ rows) (x ∷ more))
kept_here name least x row rows more true true rest has is = rw is (at_least_first x.next row.next least has)
kept_here name least x row rows more true false rest has is = rw is has
kept_here name least x row rows more false true rest has is = rw is has
kept_here name least x row rows more false false rest has is = rw is (rest has)

kept : (name : List ℕ) (least : ℕ) (rows : List NamedFloor) (row : NamedFloor) → HasAtLeast name least rows → HasAtLeast name least (with_row rows row)
kept name least [] row has = absurd has
kept name least (x ∷ rows) row has =
    kept_here name least x row rows (with_row rows row) (bytes_eq x.name row.name) (bytes_eq x.name name) (kept name least rows row) has refl

here_found : (x row : NamedFloor) (rows more : List NamedFloor) (same : Bool) → HasAtLeast row.name row.next more → bytes_eq x.name row.name ≡ same
    → HasAtLeast row.name row.next (cond same (raised x row.next ∷ rows) (x ∷ more))
here_found x row rows more true has is = rw is (at_least_second x.next row.next row.next (omega arith))
here_found x row rows more false has is = rw is has

added : (rows : List NamedFloor) (row : NamedFloor) → HasAtLeast row.name row.next (with_row rows row)
added [] row = rw ((bytes_eq-Decides row.name row.name).1 refl) (omega arith)
added (x ∷ rows) row = here_found x row rows (with_row rows row) (bytes_eq x.name row.name) (added rows row) refl

-- ---- all rows

kept_rows : (name : List ℕ) (least : ℕ) (rows more : List NamedFloor) → HasAtLeast name least rows → HasAtLeast name least (with_rows rows more)
kept_rows name least rows [] has = has
kept_rows name least rows (row ∷ more) has = kept_rows name least (with_row rows row) more (kept name least rows row has)

all_added : (rows more : List NamedFloor) → AllByRecursion (λ row. HasAtLeast row.name row.next (with_rows rows more)) more
all_added rows [] = tt
all_added rows (row ∷ more) = (kept_rows row.name row.next (with_row rows row) more (added rows row), all_added (with_row rows row) more)

-- what holds of the names and floors of the rows before, and of the rows that are added, holds of all
module _ (P : List ℕ → ℕ → Type 0) where
  abbrev AllHold : List NamedFloor → Type 0
  AllHold rows = AllByRecursion (λ row. P row.name row.next) rows

  one_of_both : (x row : NamedFloor) (test : Bool) → x.name ≡ row.name → P x.name x.next → P row.name row.next → P x.name (cond test row.next x.next)
  one_of_both x row true is p q = subst (λ (name : List ℕ). P name row.next) (sym is) q
  one_of_both x row false is p q = p

  one_holds : (x row : NamedFloor) (rows more : List NamedFloor) (same : Bool) → bytes_eq x.name row.name ≡ same → P x.name x.next → P row.name row.next
      → AllHold rows → AllHold more → AllHold (cond same (raised x row.next ∷ rows) (x ∷ more))
  one_holds x row rows more true is p q rest all = (one_of_both x row (nat_le x.next row.next) ((bytes_eq-Decides x.name row.name).0 is) p q, rest)
  one_holds x row rows more false is p q rest all = (p, all)

  row_holds : (rows : List NamedFloor) (row : NamedFloor) → AllHold rows → P row.name row.next → AllHold (with_row rows row)
  row_holds [] row all q = (q, tt)
  row_holds (x ∷ rows) row all q =
      one_holds x row rows (with_row rows row) (bytes_eq x.name row.name) refl all.0 q all.1 (row_holds rows row all.1 q)

  rows_hold : (rows more : List NamedFloor) → AllHold rows → AllHold more → AllHold (with_rows rows more)
  rows_hold rows [] all new = all
  rows_hold rows (row ∷ more) all new = rows_hold (with_row rows row) more (row_holds rows row all new.0) new.1

same_row : (row : NamedFloor) → (bytes_eq row.name row.name && row.next == row.next) ≡ true
same_row row = and_both (bytes_eq row.name row.name) (row.next == row.next) ((bytes_eq-Decides row.name row.name).1 refl) (grind arith)

any_here : (row : NamedFloor) (before after : List NamedFloor) → is_row_of (before ++ row ∷ after) row ≡ true
any_here row [] after = rw (same_row row) refl
any_here row (x ∷ before) after = any_after (bytes_eq x.name row.name && x.next == row.next) (is_row_of (before ++ row ∷ after) row) (any_here row before after) where
  any_after : (a b : Bool) → b ≡ true → (a || b) ≡ true
  any_after true b h = refl
  any_after false b h = h

all_own : (all before rows : List NamedFloor) → before ++ rows ≡ all → AllByRecursion (λ row. is_row_of all row ≡ true) rows
all_own all before [] is = tt
all_own all before (row ∷ rows) is =
    (ap (λ (l : List NamedFloor). is_row_of l row) (sym is) ∙ any_here row before rows, all_own all (before ++ row ∷ []) rows (append_assoc before (row ∷ []) rows ∙ is))

-- ---- seeds

-- a row with another name at the end
seed_before : (name : List ℕ) (rows : List NamedFloor) (row : NamedFloor) → bytes_eq row.name name ≡ false
    → seed_of_name name rows ≡ seed_of_name name (rows ++ row ∷ [])
seed_before name [] row other = rw other refl
seed_before name (x ∷ rows) row other = ap (cond (bytes_eq x.name name) (Some x.seed)) (seed_before name rows row other)

other_name : (x row : NamedFloor) (name : List ℕ) (test : Bool) → bytes_eq row.name name ≡ test → bytes_eq x.name row.name ≡ true
    → bytes_eq x.name name ≡ false → test ≡ false
other_name x row name false is same other = refl
other_name x row name true is same other =
    absurd (true≢false (sym ((bytes_eq-Decides x.name name).1 ((bytes_eq-Decides x.name row.name).0 same ∙ (bytes_eq-Decides row.name name).0 is)) ∙ other))

seed_here : (name : List ℕ) (x row : NamedFloor) (rows more : List NamedFloor) (same here : Bool) → bytes_eq x.name row.name ≡ same
    → bytes_eq x.name name ≡ here → seed_of_name name more ≡ seed_of_name name (rows ++ row ∷ [])
    → seed_of_name name (cond same (raised x row.next ∷ rows) (x ∷ more)) ≡ seed_of_name name (x ∷ rows ++ row ∷ [])
seed_here name x row rows more true true same here rest = rw here refl
seed_here name x row rows more true false same here rest =
    rw here (seed_before name rows row (other_name x row name (bytes_eq row.name name) refl same here))
seed_here name x row rows more false here same is rest = ap (cond (bytes_eq x.name name) (Some x.seed)) rest

-- a row that is added is the last
seed_added : (name : List ℕ) (rows : List NamedFloor) (row : NamedFloor) → seed_of_name name (with_row rows row) ≡ seed_of_name name (rows ++ row ∷ [])
seed_added name [] row = refl
seed_added name (x ∷ rows) row =
    seed_here name x row rows (with_row rows row) (bytes_eq x.name row.name) (bytes_eq x.name name) refl refl (seed_added name rows row)

seed_first : (seed : List ℕ) (whole rest other : Option (List ℕ)) (here : Bool) → whole ≡ option_or rest other
    → cond here (Some seed) whole ≡ option_or (cond here (Some seed) rest) other
seed_first seed whole rest other true is = refl
seed_first seed whole rest other false is = is

seed_append : (name : List ℕ) (rows more : List NamedFloor) → seed_of_name name (rows ++ more) ≡ option_or (seed_of_name name rows) (seed_of_name name more)
seed_append name [] more = refl
seed_append name (x ∷ rows) more =
    seed_first x.seed (seed_of_name name (rows ++ more)) (seed_of_name name rows) (seed_of_name name more) (bytes_eq x.name name) (seed_append name rows more)

all_seeds : (name : List ℕ) (rows more : List NamedFloor) → seed_of_name name (with_rows rows more) ≡ seed_of_name name (rows ++ more)
all_seeds name rows [] = ap (seed_of_name name) (sym (append-nil rows))
all_seeds name rows (row ∷ more) =
    all_seeds name (with_row rows row) more
    ∙ seed_append name (with_row rows row) more
    ∙ ap (λ (o : Option (List ℕ)). option_or o (seed_of_name name more)) (seed_added name rows row)
    ∙ sym (seed_append name (rows ++ row ∷ []) more)
    ∙ ap (seed_of_name name) (append_assoc rows (row ∷ []) more)

-- ---- names that differ

none_here : (p : ℕ) (name : List ℕ) (x row : NamedFloor) (rows more : List NamedFloor) (same here : Bool) → bytes_eq x.name name ≡ here
    → cond here (Some p) (place_from (p + 1) name rows) ≡ None → (place_from (p + 1) name rows ≡ None → place_from (p + 1) name more ≡ None)
    → place_from p name (cond same (raised x row.next ∷ rows) (x ∷ more)) ≡ None
none_here p name x row rows more true true is none rest = absurd cc
none_here p name x row rows more true false is none rest = rw is none
none_here p name x row rows more false true is none rest = absurd cc
none_here p name x row rows more false false is none rest = rw is (rest none)

-- a name that is in no row is in none after another row is added
none_row : (p : ℕ) (name : List ℕ) (rows : List NamedFloor) (row : NamedFloor) → place_from p name rows ≡ None → bytes_eq row.name name ≡ false
    → place_from p name (with_row rows row) ≡ None
none_row p name [] row none other = rw other refl
none_row p name (x ∷ rows) row none other =
    none_here p name x row rows (with_row rows row) (bytes_eq x.name row.name) (bytes_eq x.name name) refl none
    (λ rest. none_row (p + 1) name rows row rest other)

other_way : (a b : List ℕ) (test : Bool) → bytes_eq b a ≡ test → bytes_eq a b ≡ false → test ≡ false
other_way a b false is other = refl
other_way a b true is other = absurd (true≢false (sym ((bytes_eq-Decides a b).1 (sym ((bytes_eq-Decides b a).0 is))) ∙ other))

no_place : (place : Option ℕ) → is_some place ≡ false → place ≡ None
no_place None e = refl
no_place (Some n) e = absurd (true≢false e)

different_here : (x row : NamedFloor) (rows more : List NamedFloor) (same : Bool) → bytes_eq x.name row.name ≡ same → has_name x.name rows ≡ false
    → AreDifferent rows → AreDifferent more → (bytes_eq x.name row.name ≡ false → has_name x.name more ≡ false)
    → AreDifferent (cond same (raised x row.next ∷ rows) (x ∷ more))
different_here x row rows more true is none different new rest = (none, different)
different_here x row rows more false is none different new rest = (rest is, new)

row_different : (rows : List NamedFloor) (row : NamedFloor) → AreDifferent rows → AreDifferent (with_row rows row)
row_different [] row different = (refl, tt)
row_different (x ∷ rows) row different =
    different_here x row rows (with_row rows row) (bytes_eq x.name row.name) refl different.0 different.1 (row_different rows row different.1)
    (λ other. ap is_some (none_row 0 x.name rows row (no_place (place_of_name x.name rows) different.0)
    (other_way x.name row.name (bytes_eq row.name x.name) refl other)))

rows_different : (rows more : List NamedFloor) → AreDifferent rows → AreDifferent (with_rows rows more)
rows_different rows [] different = different
rows_different rows (row ∷ more) different = rows_different (with_row rows row) more (row_different rows row different)

-- ---- files

with_rows_append : (rows one other : List NamedFloor) → with_rows rows (one ++ other) ≡ with_rows (with_rows rows one) other
with_rows_append rows [] other = refl
with_rows_append rows (row ∷ one) other = with_rows_append (with_row rows row) one other

files_are_rows : (rows : List NamedFloor) (files : List NamedFloorsRecord) → with_files rows files ≡ with_rows rows (rows_of files)
files_are_rows rows [] = refl
files_are_rows rows (file ∷ files) = files_are_rows (with_rows rows file.rows) files ∙ sym (with_rows_append rows file.rows (rows_of files))

pub greatest_gathered : (files : List NamedFloorsRecord) → AreGreatest (rows_of files) (gathered_rows files)
greatest_gathered files =
    let rows = rows_of files in
    subst (AreGreatest rows) (sym (files_are_rows [] files))
    (record {
      each = all_added [] rows;
      own = rows_hold (λ name next. list_any (λ other. bytes_eq other.name name && other.next == next) rows ≡ true) [] rows tt (all_own rows [] rows refl);
      seeds = λ name. all_seeds name [] rows;
      different = rows_different [] rows tt;
    })

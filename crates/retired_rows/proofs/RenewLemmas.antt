-- The places of rows, the puts of passes and of rows, and the content after them.
use Rattle.std.proofs.Common.{◌≡◌, ℕ, zero, suc, ◌+◌, ◌<◌, ◌≤◌, Bool, true, false, cond, List, [], ◌∷◌, ◌++◌, length, map, take, drop, get_or, Option, Some, None, BTreeMap, refl, sym, ap, ◌∙◌, arith, append_assoc, nat_lt}
use Rattle.std.specs.Prelude.{◌==◌, All, option_map, option_to_list, slice_index_or, slice_set}
use Rattle.std.specs.List.{cons_option, last_or, position_from}
use Rattle.std.specs.Ordering.{is_eq, nat_cmp}
use Rattle.std.specs.declared.cmp.Ordering.TheVariants.{Less, Equal, Greater}
use Rattle.std.specs.BTreeMap as tree
use Rattle.std.proofs.Math.Seq.{drop-cons, set-append_seam}
use Rattle.std.proofs.lemmas.Bool.{ltb-true, ne_eqb}
use Rattle.std.proofs.lemmas.List.{append-nil, get_or-map, length-append, length-take-le, map-append, take_more}
use Rattle.std.proofs.lemmas.List.Elements.{All-append, filter_map-append}
use Rattle.floor_store.specs.Content.{Content, opening_content_at, opening_row, with_row}
use Rattle.floor_store.specs.Records.{PassRecord, RowRecord}
use Rattle.floor_sql.specs.Staged.{passes_in, with_puts}
use Rattle.floor_sql.specs.declared.put.Put.{Put}
use Rattle.retired_rows.specs.declared.row.NumberedRow.{NumberedRow}
use Rattle.retired_rows.specs.Renewed.{HasPlaces, pass_put, place_of, puts_of, renewed_at, renumbered, renumbered_pass, row_puts, row_puts_from, rows_in}
use Rattle.retired_rows.specs.Staying.{floors_in}

-- ---- the index of places

-- the index has the places of the rows from a place on
abbrev pub HasPlacesFrom : ℕ → List NumberedRow → BTreeMap ℕ ℕ → Type 0
HasPlacesFrom place kept index = (token : ℕ)
    → tree.get nat_cmp index token ≡ position_from (λ row. row.token == token) place (drop place kept)

eq_of_order : (t u : Bool) → (t ≡ true → u ≡ false) → is_eq (cond t Less (cond u Equal Greater)) ≡ u
eq_of_order true u apart = sym (apart refl)
eq_of_order false true apart = refl
eq_of_order false false apart = refl

is_eq-nat_cmp : (a b : ℕ) → is_eq (nat_cmp a b) ≡ (a == b)
is_eq-nat_cmp a b = eq_of_order (nat_lt a b) (a == b)
    (λ less. ne_eqb a b (λ same. let low = ltb-true a b less in omega (arith, low, same)))

-- one more row, at the place before
pub places_before : {row : NumberedRow} (kept : List NumberedRow) (place upper : ℕ) (old new : BTreeMap ℕ ℕ)
    → upper ≡ place + 1
    → place < length kept → row ≡ get_or kept place row → HasPlacesFrom upper kept old
    → tree.Updates nat_cmp old new row.token (Some place)
    → HasPlacesFrom place kept new
places_before {row} kept place upper old new up within is has updates = λ token.
    let next : suc place ≡ upper = omega (arith, up) in
    let parts : drop place kept ≡ row ∷ drop upper kept =
    drop-cons kept place row within ∙ ap (λ (x : NumberedRow). x ∷ drop (suc place) kept) (sym is)
    ∙ ap (λ (n : ℕ). row ∷ drop n kept) next in
    updates.0 token
    ∙ ap (λ (t : Bool). cond t (Some place) (tree.get nat_cmp old token)) (is_eq-nat_cmp row.token token)
    ∙ ap (cond (row.token == token) (Some place)) (has token)
    ∙ ap (λ (n : ℕ). cond (row.token == token) (Some place) (position_from (λ r. r.token == token) n (drop upper kept)))
    up
    ∙ sym (ap (λ (l : List NumberedRow). position_from (λ r. r.token == token) place l) parts)

-- a place is one of a row
position_within : (test : NumberedRow → Bool) (from : ℕ) (rows : List NumberedRow) (place : ℕ)
    → position_from test from rows ≡ Some place
    → place < from + length rows
position_within test from [] place is = absurd cc
position_within test from (row ∷ rows) place is = step (test row) (position_within test (from + 1) rows place) is
  where
    step : (t : Bool) → (position_from test (from + 1) rows ≡ Some place → place < from + 1 + length rows)
        → cond t (Some from) (position_from test (from + 1) rows) ≡ Some place → place < from + suc (length rows)
    step true rest at = let same : from ≡ place = cc in omega (arith, same)
    step false rest at = let low = rest at in omega (arith, low)

pub place_within : (kept : List NumberedRow) (token place : ℕ) → place_of kept token ≡ Some place → place < length kept
place_within kept token place is =
    let low = position_within (λ row. row.token == token) 0 kept place is in
    omega (arith, low)

-- the place that an index has at a token
pub found_at : (kept : List NumberedRow) (index : BTreeMap ℕ ℕ) (token key place : ℕ) (got : Option ℕ)
    → HasPlaces kept index → key ≡ token
    → got ≡ tree.get nat_cmp index key → got ≡ Some place → place_of kept token ≡ Some place
found_at kept index token key place got has key_is got_is is =
    sym (has token) ∙ ap (λ (k : ℕ). tree.get nat_cmp index k) (sym key_is) ∙ sym got_is ∙ is

-- ---- the puts of passes

pub put_found : (kept : List NumberedRow) (pass made : PassRecord) (place : ℕ) (d : NumberedRow)
    → place_of kept pass.token ≡ Some place
    → made ≡ record pass { token = place }
    → Some (record { token = place; row = (get_or kept place d).row; pass = Some made })
    ≡ option_map (pass_put kept) (renumbered_pass kept pass)
put_found kept pass made place d found is =
    let low = place_within kept pass.token place found in
    let same : (get_or kept place d).row ≡ slice_index_or (rows_in kept) place (opening_row 0) =
    sym (get_or-map (λ (r : NumberedRow). r.row) kept place d (opening_row 0) low) in
    let put : RowRecord → PassRecord → Option Put = λ r p. Some (record { token = place; row = r; pass = Some p }) in
    (λ i. put (same i) (is i))
    ∙ sym (ap (λ (o : Option ℕ). option_map (pass_put kept) (option_map (λ n. record pass { token = n }) o)) found)

map_one : {A B : Type 0} (f : A → B) (o : Option A) → map f (cons_option o []) ≡ option_to_list (option_map f o)
map_one f None = refl
map_one f (Some x) = refl

-- the put of one pass more
pub passes_more : (kept : List NumberedRow) (all : List Put) (passes : List PassRecord) (n : ℕ) (pass : PassRecord)
    (put : Option Put) → n < length passes
    → pass ≡ get_or passes n pass → put ≡ option_map (pass_put kept) (renumbered_pass kept pass)
    → all ≡ map (pass_put kept) (renumbered kept (take n passes))
    → all ++ option_to_list put ≡ map (pass_put kept) (renumbered kept (take (n + 1) passes))
passes_more kept all passes n pass put low is made was =
    let more : take (n + 1) passes ≡ take n passes ++ pass ∷ [] =
    take_more passes n pass low ∙ ap (λ (p : PassRecord). take n passes ++ p ∷ []) (sym is) in
    (λ i. was i ++ option_to_list (made i))
    ∙ ap (λ (l : List Put). map (pass_put kept) (renumbered kept (take n passes)) ++ l)
    (sym (map_one (pass_put kept) (renumbered_pass kept pass)))
    ∙ sym (map-append (pass_put kept) (renumbered kept (take n passes)) (cons_option (renumbered_pass kept pass) []))
    ∙ ap (map (pass_put kept)) (sym (filter_map-append (renumbered_pass kept) (take n passes) (pass ∷ [])))
    ∙ ap (λ (l : List PassRecord). map (pass_put kept) (renumbered kept l)) (sym more)

-- ---- the puts of rows

row_puts_behind : (place : ℕ) (kept : List NumberedRow) (row : NumberedRow) → row_puts_from place (kept ++ row ∷ [])
    ≡ row_puts_from place kept ++ record { token = place + length kept; row = row.row; pass = None } ∷ []
row_puts_behind place [] row =
    let same : place ≡ place + 0 = omega arith in
    ap (λ (n : ℕ). record { token = n; row = row.row; pass = None } ∷ []) same
row_puts_behind place (x ∷ kept) row =
    let same : place + 1 + length kept ≡ place + suc (length kept) = omega arith in
    ap (λ (l : List Put). record { token = place; row = x.row; pass = None } ∷ l)
    (row_puts_behind (place + 1) kept row
    ∙ ap (λ (n : ℕ). row_puts_from (place + 1) kept ++ record { token = n; row = row.row; pass = None } ∷ []) same)

-- the put of one row more
pub rows_more : (old all : List Put) (kept : List NumberedRow) (n : ℕ) (d : NumberedRow) → n < length kept
    → all ≡ old ++ row_puts (take n kept)
    → all ++ record { token = n; row = (get_or kept n d).row; pass = None } ∷ [] ≡ old ++ row_puts (take (n + 1) kept)
rows_more old all kept n d low was =
    let row : NumberedRow = get_or kept n d in
    let long = length-take-le n kept (omega (arith, low)) in
    let place : n ≡ 0 + length (take n kept) = omega (arith, long) in
    ap (λ (l : List Put). l ++ record { token = n; row = row.row; pass = None } ∷ []) was
    ∙ append_assoc old (row_puts (take n kept)) (record { token = n; row = row.row; pass = None } ∷ [])
    ∙ ap (λ (m : ℕ). old ++ (row_puts (take n kept) ++ record { token = m; row = row.row; pass = None } ∷ [])) place
    ∙ ap (λ (l : List Put). old ++ l)
    (sym (row_puts_behind 0 (take n kept) row) ∙ sym (ap row_puts (take_more kept n d low)))

-- ---- each put is of a place

all_cons : {X : Type 0} (P : X → Type 0) (x : X) (xs : List X) → P x → All P xs → All P (x ∷ xs)
all_cons P x xs one all zero d low = one
all_cons P x xs one all (suc k) d low = all k d (omega (arith, low))

passes_within : (kept : List NumberedRow) (passes : List PassRecord)
    → All (λ (put : Put). put.token < length kept) (map (pass_put kept) (renumbered kept passes))
passes_within kept [] = λ k d low. absurd (omega (arith, low))
passes_within kept (pass ∷ passes) = step (place_of kept pass.token) (passes_within kept passes) refl
  where
    step : (found : Option ℕ) → All (λ (put : Put). put.token < length kept)
        (map (pass_put kept) (renumbered kept passes))
        → place_of kept pass.token ≡ found
        → All (λ (put : Put). put.token < length kept)
        (map (pass_put kept) (cons_option (option_map (λ n. record pass { token = n }) found) (renumbered kept passes)))
    step None rest is = rest
    step (Some place) rest is =
        all_cons (λ (put : Put). put.token < length kept) (pass_put kept (record pass { token = place }))
        (map (pass_put kept) (renumbered kept passes))
        (place_within kept pass.token place is) rest

rows_within : (place bound : ℕ) (kept : List NumberedRow) → place + length kept ≤ bound
    → All (λ (put : Put). put.token < bound) (row_puts_from place kept)
rows_within place bound [] few = λ k d low. absurd (omega (arith, low))
rows_within place bound (row ∷ kept) few =
    all_cons (λ (put : Put). put.token < bound) (record { token = place; row = row.row; pass = None })
    (row_puts_from (place + 1) kept) (omega (arith, few))
    (rows_within (place + 1) bound kept (omega (arith, few)))

-- the token of each put is the place of a row
pub puts_within : (kept : List NumberedRow) (passes : List PassRecord)
    → All (λ (put : Put). put.token < length kept) (puts_of kept passes)
puts_within kept passes =
    All-append (λ (put : Put). put.token < length kept) (map (pass_put kept) (renumbered kept passes)) (row_puts kept)
    (passes_within kept passes)
    (rows_within 0 (length kept) kept (omega arith))

-- ---- the number of puts

few_passes : (kept : List NumberedRow) (passes : List PassRecord) → length (renumbered kept passes) ≤ length passes
few_passes kept [] = omega arith
few_passes kept (pass ∷ passes) = step (renumbered_pass kept pass) (few_passes kept passes)
  where
    step : (pass : Option PassRecord) → length (renumbered kept passes) ≤ length passes
        → length (cons_option pass (renumbered kept passes)) ≤ suc (length passes)
    step None few = omega (arith, few)
    step (Some made) few = omega (arith, few)

length_rows : (place : ℕ) (kept : List NumberedRow) → length (row_puts_from place kept) ≡ length kept
length_rows place [] = refl
length_rows place (row ∷ kept) = ap suc (length_rows (place + 1) kept)

length_passes : (kept : List NumberedRow) (passes : List PassRecord)
    → length (map (pass_put kept) passes) ≡ length passes
length_passes kept [] = refl
length_passes kept (pass ∷ passes) = ap suc (length_passes kept passes)

-- at most a put for each pass and each row
pub few_puts : (kept : List NumberedRow) (passes : List PassRecord)
    → length (puts_of kept passes) ≤ length passes + length kept
few_puts kept passes =
    let all = length-append (map (pass_put kept) (renumbered kept passes)) (row_puts kept) in
    let rows = length_rows 0 kept in
    let same = length_passes kept (renumbered kept passes) in
    let few = few_passes kept passes in
    omega (arith, all, rows, same, few)

-- ---- the passes among the puts

passes_in-append : (xs ys : List Put) → passes_in (xs ++ ys) ≡ passes_in xs ++ passes_in ys
passes_in-append [] ys = refl
passes_in-append (put ∷ xs) ys =
    ap (λ (l : List PassRecord). option_to_list put.pass ++ l) (passes_in-append xs ys)
    ∙ sym (append_assoc (option_to_list put.pass) (passes_in xs) (passes_in ys))

passes_put : (kept : List NumberedRow) (passes : List PassRecord) → passes_in (map (pass_put kept) passes) ≡ passes
passes_put kept [] = refl
passes_put kept (pass ∷ passes) = ap (λ (l : List PassRecord). pass ∷ l) (passes_put kept passes)

rows_have_none : (place : ℕ) (kept : List NumberedRow) → passes_in (row_puts_from place kept) ≡ []
rows_have_none place [] = refl
rows_have_none place (row ∷ kept) = rows_have_none (place + 1) kept

-- the puts append the renumbered passes
pub passes_are : (kept : List NumberedRow) (passes : List PassRecord)
    → passes_in (puts_of kept passes) ≡ renumbered kept passes
passes_are kept passes =
    passes_in-append (map (pass_put kept) (renumbered kept passes)) (row_puts kept)
    ∙ (λ i. passes_put kept (renumbered kept passes) i ++ rows_have_none 0 kept i) ∙ append-nil (renumbered kept passes)

-- ---- the content

with_puts-append : (c : Content) (xs ys : List Put) → with_puts c (xs ++ ys) ≡ with_puts (with_puts c xs) ys
with_puts-append c [] ys = refl
with_puts-append c (put ∷ xs) ys = with_puts-append (with_row c put.token put.row put.pass) xs ys

length_set : (rows : List RowRecord) (place : ℕ) (row : RowRecord) → length (slice_set rows place row) ≡ length rows
length_set [] place row = refl
length_set (x ∷ rows) zero row = refl
length_set (x ∷ rows) (suc place) row = ap suc (length_set rows place row)

-- after the puts of passes there are as many rows, at the same boot, and the last of the passes
record HasPassed (c new : Content) (passes : List PassRecord) : Type 0 where
  long : length new.rows ≡ length c.rows
  boot : new.boot ≡ c.boot
  last : new.last ≡ last_or c.last passes

has_passed : (kept : List NumberedRow) (passes : List PassRecord) (c : Content)
    → HasPassed c (with_puts c (map (pass_put kept) passes)) passes
has_passed kept [] c = record { long = refl; boot = refl; last = refl }
has_passed kept (pass ∷ passes) c =
    let put : Put = pass_put kept pass in
    let rest = has_passed kept passes (with_row c put.token put.row put.pass) in
    record { long = rest.long ∙ length_set c.rows put.token put.row; boot = rest.boot; last = rest.last }

-- the rows are put one after the other, over rows that are there
rows_put : (kept : List NumberedRow) (done old : List RowRecord) (place : ℕ) (c : Content) → place ≡ length done
    → c.rows ≡ done ++ old
    → length old ≡ length kept → with_puts c (row_puts_from place kept) ≡ record c { rows = done ++ rows_in kept }
rows_put [] done [] place c at is long = λ i. record c { rows = is i }
rows_put [] done (o ∷ old) place c at is long = absurd (omega (arith, long))
rows_put (row ∷ kept) done [] place c at is long = absurd (omega (arith, long))
rows_put (row ∷ kept) done (o ∷ old) place c at is long =
    let next : Content = with_row c place row.row None in
    let set_is : next.rows ≡ (done ++ row.row ∷ []) ++ old =
    (λ i. slice_set (is i) (at i) row.row) ∙ set-append_seam done o old row.row
    ∙ sym (append_assoc done (row.row ∷ []) old) in
    let grown = length-append done (row.row ∷ []) in
    rows_put kept (done ++ row.row ∷ []) old (place + 1) next (omega (arith, at, grown)) set_is (omega (arith, long))
    ∙ ap (λ (l : List RowRecord). record c { rows = l }) (append_assoc done (row.row ∷ []) (rows_in kept))

length_opening : (kept : List NumberedRow) → length (map opening_row (floors_in kept)) ≡ length kept
length_opening [] = refl
length_opening (row ∷ kept) = ap suc (length_opening kept)

-- the puts over the first content of a store with the floors of the rows
pub renewed_is : (boot : ℕ) (kept : List NumberedRow) (passes : List PassRecord)
    → with_puts (opening_content_at boot (floors_in kept)) (puts_of kept passes) ≡ renewed_at boot kept passes
renewed_is boot kept passes =
    let first : Content = opening_content_at boot (floors_in kept) in
    let mid : Content = with_puts first (map (pass_put kept) (renumbered kept passes)) in
    let it = has_passed kept (renumbered kept passes) first in
    with_puts-append first (map (pass_put kept) (renumbered kept passes)) (row_puts kept)
    ∙ rows_put kept [] mid.rows 0 mid refl refl (it.long ∙ length_opening kept)
    ∙ (λ i. record { rows = rows_in kept; boot = it.boot i; last = it.last i })

-- The passes in order of number: what the query of them shows.
use Rattle.std.proofs.Common.{◌≡◌, ◌≢◌, ℕ, zero, suc, pos, negsuc, ◌+◌, ◌<◌, ◌≤◌, Bool, true, false, cond, if◌then◌else◌, nat_eq, List, [], ◌∷◌, ◌++◌, map, length, get_or, slice_get, Option, Some, Less, Equal, Greater, is_lt, refl, sym, ap, ap₂, subst, subst₂, ◌∙◌, arith, length-append}
use Rattle.std.specs.List.{sum_by, AllByRecursion}
use Rattle.std.specs.List.Sorted.{IsPermutation}
use Rattle.std.specs.Bool.{⊤}
use Rattle.std.specs.Ordering.{ordering_then}
use Rattle.std.proofs.lemmas.Bool.{ltb-false}
use Rattle.std.proofs.lemmas.Bool.Decides.{nat_tests}
use Rattle.std.proofs.lemmas.List.Elements.{recursion_from_All, All-from_recursion}
use Rattle.std.proofs.lemmas.List.Sums.{sum_by-cons}
use Rattle.std.proofs.lemmas.List.Sorted.{All-permutation, IsPermutation-map, IsPermutation-trans, sum_by-IsPermutation}
use Rattle.sqlite.specs.declared.types.Value.{Value}
use Rattle.sqlite.specs.declared.types.Value.TheVariants.{Null, Int, Real, Text, Blob}
use Rattle.sqlite.specs.Collation.TheVariants.{Binary}
use Rattle.sqlite_value.specs.Keys.{ascending}
use Rattle.sqlite_value.proofs.OrderLemmas.{value_cmp-Int}
use Rattle.sqlite.specs.Order.{Row, column}
use Rattle.sqlite.specs.Query.{IsAnswer, Output, output, output_cmp, key_cmp}
use Rattle.sqlite.specs.Program.{overlay}
use Rattle.sqlite.specs.Tree.{Trees}
use Rattle.sqlite.specs.Effect.{Database}
use Rattle.sqlite.specs.Store.{Ghosts}
use Rattle.sqlite.specs.Held.{Held, state}
use Rattle.sqlite.specs.Given.{HasGiven, GivesOn, Advances}
use Rattle.sqlite.proofs.Callers.{given_begin, begins_as}
use Rattle.std.proofs.lemmas.List.{length-map}
use Rattle.floor_store.specs.Records.{PassRecord}
use Rattle.floor_sql.specs.Stored.{HoldsPasses, pass_columns, pass_values, pass_rows}
use Rattle.floor_sql.specs.Shown.{IsRead, HasShown, pass_shown}
use Rattle.floor_sql.proofs.ListLemmas.{kept_by}
use Rattle.floor_sql.proofs.UpdateLemmas.{picks}
use Rattle.floor_sql.proofs.ReadLemmas.{all_shown}
use Rattle.floor_sql.proofs.TextLemmas.{pass_query, select_passes_is, select_passes_plain}
use Rattle.floor_sql.specs.Schema.{IsOfStore}
use Rattle.floor_sql.specs.Text.{select_passes}
use Rattle.floor_sql.proofs.PassLemmas.{length_rows}

abbrev number_in : Value → ℕ
number_in (Int (pos n)) = n
number_in (Int (negsuc n)) = 0
number_in Null = 0
number_in (Real x) = 0
number_in (Text t) = 0
number_in (Blob b) = 0

-- the number of a pass
abbrev number_of : Row → ℕ
number_of row = number_in (column row 0)

abbrev hit : ℕ → Row → ℕ
hit m row = if nat_eq (number_of row) m then 1 else 0

-- the row is of one of the passes, of which the first has number `n`
abbrev IsAmong : ℕ → List PassRecord → Row → Type 0
IsAmong n passes row = (i : ℕ) × (p : PassRecord) × (slice_get passes i ≡ Some p) × (row ≡ pass_values (i + n) p)

-- the numbers rise from `low` on
abbrev Rises : ℕ → List Row → Type 0
Rises low [] = ⊤
Rises low (row ∷ rows) = (low ≤ number_of row) × Rises (number_of row) rows

abbrev count : ℕ → List Row → ℕ
count m rows = sum_by (hit m) rows

hit_same : (m : ℕ) (row : Row) → number_of row ≡ m → hit m row ≡ 1
hit_same m row is = let same : nat_eq (number_of row) m ≡ true = grind (arith, nat_tests) in ap (λ b. if b then 1 else 0) same

hit_other : (m : ℕ) (row : Row) → number_of row ≢ m → hit m row ≡ 0
hit_other m row other = let differ : nat_eq (number_of row) m ≡ false = grind (arith, nat_tests) in ap (λ b. if b then 1 else 0) differ

none_below : (m low : ℕ) (rows : List Row) → m < low → Rises low rows → count m rows ≡ 0
none_below m low [] below up = refl
none_below m low (row ∷ rows) below up =
    let first = up.0 in
    let here = hit_other m row (λ same. omega (arith, same)) in
    let later = none_below m (number_of row) rows (omega arith) up.1 in
    let whole = sum_by-cons (hit m) row rows in
    omega arith

-- one with this number is in the list
counted_first : (n : ℕ) (p : PassRecord) (passes : List PassRecord) → 1 ≤ count n (pass_rows n (p ∷ passes))
counted_first n p passes =
    let here = hit_same n (pass_values n p) refl in
    let whole = sum_by-cons (hit n) (pass_values n p) (pass_rows (suc n) passes) in
    omega arith

rows_rise : (n : ℕ) (passes : List PassRecord) → Rises n (pass_rows n passes)
rows_rise n [] = tt
rows_rise n (p ∷ passes) = (omega arith, above n (suc n) (pass_rows (suc n) passes) (omega arith) (rows_rise (suc n) passes))
  where
    above : (low high : ℕ) (rows : List Row) → low ≤ high → Rises high rows → Rises low rows
    above low high [] le up = tt
    above low high (row ∷ rows) le up = let first = up.0 in (omega arith, up.1)

-- if no row has the lowest number, the numbers rise from the next one
rises_past : (n : ℕ) (rows : List Row) → Rises n rows → count n rows ≡ 0 → Rises (suc n) rows
rises_past n [] up none = tt
rises_past n (row ∷ rows) up none =
    let first = up.0 in
    let whole = sum_by-cons (hit n) row rows in
    let other : number_of row ≢ n = λ same. let here = hit_same n row same in omega arith in
    let past : suc n ≤ number_of row = omega (arith, other) in
    (past, up.1)

-- past the first pass, a row is one of the later passes
among_later : (n low : ℕ) (p : PassRecord) (passes : List PassRecord) (rows : List Row) → suc n ≤ low → Rises low rows
    → AllByRecursion (IsAmong n (p ∷ passes)) rows → AllByRecursion (IsAmong (suc n) passes) rows
among_later n low p passes [] past up all = tt
among_later n low p passes (row ∷ rows) past up all =
    let first = up.0 in
    (later all.0.0 all.0.1 all.0.2 all.0.3, among_later n (number_of row) p passes rows (omega arith) up.1 all.1)
  where
    later : (i : ℕ) (q : PassRecord) → slice_get (p ∷ passes) i ≡ Some q → row ≡ pass_values (i + n) q → IsAmong (suc n) passes row
    later zero q got is = let low_row = up.0 in let number : number_of row ≡ zero + n = ap number_of is in absurd (omega arith)
    later (suc i) q got is = let place : suc i + n ≡ i + suc n = omega arith in (i, q, got, is ∙ ap (λ k. pass_values k q) place)

-- rows of these passes, each once, in order of number
in_place : (n : ℕ) (passes : List PassRecord) (rows : List Row) → Rises n rows → AllByRecursion (IsAmong n passes) rows
    → ((m : ℕ) → count m rows ≡ count m (pass_rows n passes)) → rows ≡ pass_rows n passes
in_place n [] [] up all same = refl
in_place n [] (row ∷ rows) up all same = absurd (cc)
in_place n (p ∷ passes) [] up all same = let one = counted_first n p passes in let none : count n [] ≡ 0 = refl in let both = same n in absurd (omega arith)
in_place n (p ∷ passes) (row ∷ rows) up all same =
    let low = up.0 in
    let whole = λ (m : ℕ). sum_by-cons (hit m) row rows in
    let wanted = λ (m : ℕ). sum_by-cons (hit m) (pass_values n p) (pass_rows (suc n) passes) in
    let first : number_of row ≡ n = at_first in
    let here = hit_same n row first in
    let there = hit_same n (pass_values n p) refl in
    let rest : (m : ℕ) → count m rows ≡ count m (pass_rows (suc n) passes) = λ m.
    let one : hit m row ≡ hit m (pass_values n p) = ap (λ k. if nat_eq k m then 1 else 0) first in
    let a = whole m in let b = wanted m in let both = same m in omega arith in
    let no_more : count n (pass_rows (suc n) passes) ≡ 0 = none_below n (suc n) (pass_rows (suc n) passes) (omega arith) (rows_rise (suc n) passes) in
    let rise : Rises n rows = subst (λ k. Rises k rows) first up.1 in
    let past = rises_past n rows rise (rest n ∙ no_more) in
    ap₂ (λ r rs. r ∷ rs) (is_first all.0.0 all.0.1 all.0.2 all.0.3 first) (in_place (suc n) passes rows past (among_later n (suc n) p passes rows (omega arith) past all.1) rest)
  where
    at_first : number_of row ≡ n
    at_first =
        let low = up.0 in
        let one = counted_first n p passes in
        let both = same n in
        let whole = sum_by-cons (hit n) row rows in
        let no_other : n < number_of row → ⊥ = λ above.
        let here = hit_other n row (λ is. omega (arith, is)) in
        let later = none_below n (number_of row) rows above up.1 in omega arith in
        omega (arith, no_other)

    is_first : (i : ℕ) (q : PassRecord) → slice_get (p ∷ passes) i ≡ Some q → row ≡ pass_values (i + n) q → number_of row ≡ n → row ≡ pass_values n p
    is_first zero q got is number =
        let same_pass : p ≡ q = cc in
        let plain : 0 + n ≡ n = omega arith in
        is ∙ ap (λ k. pass_values k q) plain ∙ ap (pass_values n) (sym same_pass)
    is_first (suc i) q got is number = let at : number_of row ≡ suc i + n = ap number_of is in absurd (omega arith)

-- ---- what the query shows

among_rows : (n : ℕ) (passes : List PassRecord) → AllByRecursion (IsAmong n passes) (pass_rows n passes)
among_rows n [] = tt
among_rows n (p ∷ passes) =
    let plain : n ≡ 0 + n = omega arith in
    ((0, p, refl, ap (λ k. pass_values k p) plain), more (pass_rows (suc n) passes) (among_rows (suc n) passes))
  where
    more : (rows : List Row) → AllByRecursion (IsAmong (suc n) passes) rows → AllByRecursion (IsAmong n (p ∷ passes)) rows
    more [] all = tt
    more (row ∷ rows) all =
        let place : all.0.0 + suc n ≡ suc all.0.0 + n = omega arith in
        ((suc all.0.0, all.0.1, all.0.2, all.0.3 ∙ ap (λ k. pass_values k all.0.1) place), more rows all.1)

-- a row is sorted by its first column
abbrev IsKeyed : Output → Type 0
IsKeyed o = o.0 ≡ column o.1 0 ∷ []

all_keyed : (rows : List Row) → AllByRecursion IsKeyed (map (output pass_query) (kept_by (picks [] []) (λ x. [] ∷ x ∷ []) rows))
all_keyed [] = tt
all_keyed (r ∷ rows) = (refl, all_keyed rows)

not_less : (a b : Bool) → is_lt (ordering_then (cond a Less (cond b Greater Equal)) Equal) ≡ false → a ≡ false
not_less true b h = absurd (cc)
not_less false b h = refl

key_rises : (x y : ℕ) → is_lt (key_cmp 0 (ascending Binary ∷ []) (Int (pos x) ∷ []) (Int (pos y) ∷ [])) ≡ false → y ≤ x
key_rises x y h =
    let by_int = rw (value_cmp-Int (pos x) (pos y)) at h in
    ltb-false x y (not_less _ _ by_int)

-- outputs that are sorted show rows that rise
shown_rise : (outs : List Output) (n low : ℕ) (passes : List PassRecord) → AllByRecursion IsKeyed outs → AllByRecursion (IsAmong n passes) (map (λ (o : Output). o.1) outs)
    → ((d : Output) → 0 < length outs → low ≤ number_of (get_or outs 0 d).1)
    → ((k : ℕ) (d : Output) → k + 1 < length outs → is_lt (output_cmp pass_query (get_or outs (k + 1) d) (get_or outs k d)) ≡ false)
    → Rises low (map (λ (o : Output). o.1) outs)
shown_rise [] n low passes keyed among first sorted = tt
shown_rise (o ∷ []) n low passes keyed among first sorted = (first o (omega arith), tt)
shown_rise (o ∷ q ∷ outs) n low passes keyed among first sorted =
    let a = among.0 in
    let b = among.1.0 in
    let at_a : column o.1 0 ≡ Int (pos (a.0 + n)) = ap (λ r. column r 0) a.3 in
    let at_b : column q.1 0 ≡ Int (pos (b.0 + n)) = ap (λ r. column r 0) b.3 in
    let cmp : is_lt (output_cmp pass_query q o) ≡ false = sorted 0 o (omega arith) in
    let key_o : o.0 ≡ Int (pos (a.0 + n)) ∷ [] = keyed.0 ∙ ap (λ v. v ∷ []) at_a in
    let key_q : q.0 ≡ Int (pos (b.0 + n)) ∷ [] = keyed.1.0 ∙ ap (λ v. v ∷ []) at_b in
    let le : a.0 + n ≤ b.0 + n = key_rises (b.0 + n) (a.0 + n)
    (subst₂ (λ x y. is_lt (key_cmp 0 (ascending Binary ∷ []) x y) ≡ false) key_q key_o cmp) in
    let num_o : number_of o.1 ≡ a.0 + n = ap number_in at_a in
    let num_q : number_of q.1 ≡ b.0 + n = ap number_in at_b in (
      first o (omega arith),
      shown_rise (q ∷ outs) n (number_of o.1) passes keyed.1 among.1 (λ d some. omega arith)
          (λ k d lt.
          let place : suc k + 1 ≡ suc (k + 1) = omega arith in
          subst (λ m. is_lt (output_cmp pass_query (get_or (o ∷ q ∷ outs) m d) (get_or (o ∷ q ∷ outs) (suc k) d)) ≡ false) place
          (sorted (suc k) d (omega arith))),
    )

shown_itself : (n : ℕ) (passes : List PassRecord) → map pass_shown (pass_rows n passes) ≡ pass_rows n passes
shown_itself n [] = refl
shown_itself n (p ∷ passes) = ap (λ rows. pass_values n p ∷ rows) (shown_itself (suc n) passes)

pub in_order : (trees : Trees) (passes : List PassRecord) (rows : List Row) → IsAnswer pass_query (overlay trees []) [] rows
    → HoldsPasses trees passes → map pass_shown rows ≡ pass_rows 1 passes
in_order trees passes rows a held =
    let table = trees 2 in
    let staged : a.staged ≡ kept_by (picks [] []) (λ x. [] ∷ x ∷ []) table = a.grouped in
    let outs : a.kept ≡ map (output pass_query) (kept_by (picks [] []) (λ x. [] ∷ x ∷ []) table) = a.distinct ∙ ap (map (output pass_query)) staged in
    let kept : map (λ (o : Output). o.1) a.kept ≡ map pass_columns table = ap (map (λ (o : Output). o.1)) outs ∙ all_shown table in
    let moved : IsPermutation (map pass_columns table) (map (λ (o : Output). o.1) a.ordered) =
    subst (λ xs. IsPermutation xs (map (λ (o : Output). o.1) a.ordered)) kept (IsPermutation-map (λ (o : Output). o.1) a.kept a.ordered a.same) in
    let shown = map (λ (o : Output). o.1) a.ordered in
    let from : IsPermutation (pass_rows 1 passes) shown = IsPermutation-trans _ _ _ held moved in
    let among = recursion_from_All (IsAmong 1 passes) shown (All-permutation (IsAmong 1 passes) (pass_rows 1 passes) shown from
    (All-from_recursion (IsAmong 1 passes) (pass_rows 1 passes) (among_rows 1 passes))) in
    let keyed_kept : AllByRecursion IsKeyed a.kept = subst (AllByRecursion IsKeyed) (sym outs) (all_keyed table) in
    let keyed = recursion_from_All IsKeyed a.ordered (All-permutation IsKeyed a.kept a.ordered a.same (All-from_recursion IsKeyed a.kept keyed_kept)) in
    let rise = shown_rise a.ordered 1 0 passes keyed among (λ d some. omega arith) (λ k d lt. a.sorted k d (omega arith) lt) in
    let none : count 0 shown ≡ 0 = sum_by-IsPermutation (hit 0) (pass_rows 1 passes) shown from ∙ none_below 0 1 (pass_rows 1 passes) (omega arith) (rows_rise 1 passes) in
    let from_one = rises_past 0 shown rise none in
    let is : shown ≡ pass_rows 1 passes = in_place 1 passes shown from_one among (λ m. sum_by-IsPermutation (hit m) (pass_rows 1 passes) shown from) in
    ap (map pass_shown) (a.shown ∙ is) ∙ shown_itself 1 passes

-- ---- the rows that were given so far

-- the row that follows is the row of the next pass
next_row : (n : ℕ) (so_far audit : List PassRecord) (given tail : List Row) (row : Row) → map pass_shown given ≡ pass_rows n so_far
    → map pass_shown ((given ++ row ∷ []) ++ tail) ≡ pass_rows n audit
    → (p : PassRecord) × (slice_get audit (length so_far) ≡ Some p) × (pass_shown row ≡ pass_values (length so_far + n) p)
next_row n [] [] [] tail row shows all = absurd (cc)
next_row n [] (p ∷ audit) [] tail row shows all =
    let first : pass_shown row ≡ pass_values n p = cc in
    let plain : n ≡ 0 + n = omega arith in
    (p, refl, first ∙ ap (λ k. pass_values k p) plain)
next_row n [] audit (x ∷ given) tail row shows all = absurd (cc)
next_row n (q ∷ so_far) audit [] tail row shows all = absurd (cc)
next_row n (q ∷ so_far) [] (x ∷ given) tail row shows all = absurd (cc)
next_row n (q ∷ so_far) (p ∷ audit) (x ∷ given) tail row shows all =
    let front : map pass_shown given ≡ pass_rows (suc n) so_far = cc in
    let rest : map pass_shown ((given ++ row ∷ []) ++ tail) ≡ pass_rows (suc n) audit = cc in
    let it = next_row (suc n) so_far audit given tail row front rest in
    let place : length so_far + suc n ≡ length (q ∷ so_far) + n = omega arith in
    (it.0, it.1, it.2 ∙ ap (λ k. pass_values k it.0) place)

-- the rows that were given begin an answer
begun_answer : {S : Type 0} (g : Ghosts S) (h : Held S) (given : List Row) → IsOfStore h.schema → HasGiven g select_passes [] h given
    → (tail : List Row) × IsAnswer pass_query (overlay (state g h).now.trees []) [] (given ++ tail)
begun_answer g h given has it =
    let begins = given_begin g select_passes [] h given it in
    let is = select_passes_is h.schema has in
    let first = begins_as select_passes [] (state g h) (state g h) h.schema refl _ is.0 (select_passes_plain h.schema has) is.1 given begins in
    (first.1.0, first.1.1 Null)

pub next_is : {S : Type 0} (g : Ghosts S) (old new : Held S) (number : ℕ) (so_far audit : List PassRecord) (row : Row) (shown : Option Row) → IsOfStore old.schema
    → HasShown g old so_far → Advances g old new shown → shown ≡ Some row → IsRead (state g old) (state g new) → number ≡ suc (length so_far)
    → HoldsPasses (state g old).now.trees audit → (p : PassRecord) × (slice_get audit (length so_far) ≡ Some p) × (pass_shown row ≡ pass_values number p)
next_is g old new number so_far audit row shown schema it moved is read next held =
    let given = it.given ++ row ∷ [] in
    let has : HasGiven g select_passes [] new given = subst (GivesOn g select_passes [] old new it.given) is (moved select_passes [] it.given it.has) in
    let same : IsOfStore new.schema = subst (λ (d : Database). IsOfStore d.schema) (sym read.now) schema in
    let answer = begun_answer g new given same has in
    let there : HoldsPasses (state g new).now.trees audit = subst (λ (d : Database). HoldsPasses d.trees audit) (sym read.now) held in
    let all = in_order (state g new).now.trees audit (given ++ answer.0) answer.1 there in
    let found = next_row 1 so_far audit it.given answer.0 row it.shows all in
    let place : length so_far + 1 ≡ number = omega arith in
    (found.0, found.1, found.2 ∙ ap (λ k. pass_values k found.0) place)

-- no more were shown than there are
pub no_more : {S : Type 0} (g : Ghosts S) (h : Held S) (so_far audit : List PassRecord) → IsOfStore h.schema → HasShown g h so_far
    → HoldsPasses (state g h).now.trees audit → length so_far ≤ length audit
no_more g h so_far audit schema it held =
    let answer = begun_answer g h it.given schema it.has in
    let all = in_order (state g h).now.trees audit (it.given ++ answer.0) answer.1 held in
    let a : length it.given ≡ length so_far = sym (length-map it.given pass_shown) ∙ ap length it.shows ∙ length_rows 1 so_far in
    let b : length (it.given ++ answer.0) ≡ length audit = sym (length-map (it.given ++ answer.0) pass_shown) ∙ ap length all ∙ length_rows 1 audit in
    let both = length-append it.given answer.0 in
    omega arith

-- The floors of rows, told and raised floor by floor.
use Rattle.std.proofs.Common.{◌≡◌, ℕ, zero, suc, ◌+◌, ◌-◌, ◌<◌, ◌≤◌, Bool, true, false, cond, List, [], ◌∷◌, ◌++◌, length, take, drop, get_or, ltb, Option, Some, None, refl, sym, ap, ◌∙◌, arith, append_assoc, append-nil}
use Rattle.std.specs.Prelude.{slice_get, slice_index, slice_set, IfSome}
use Rattle.std.proofs.lemmas.List.{drop_more, get_or-drop, length-drop, length-set, length-take, take_all, take_more}
use Rattle.std.proofs.lemmas.Option.{slice_get_within}
use Rattle.floor_port.specs.Rows.{after_floor, after_floors, is_fresh, is_news, named_floors, news, not_fresh, raised, rows_of}
use Rattle.named_port.proofs.NamesLemmas.{name_of_number}
use Rattle.named_port.specs.Names.{number_of}
use Rattle.floor_port.specs.declared.floor.NamedFloor.{NamedFloor}

-- a row of a name is within the names
pub row_within : (names : List (List ℕ)) (name : List ℕ) (row : Option ℕ) → IfSome row (λ n. slice_get names n ≡ Some name)
    → IfSome row (λ n. n < length names)
row_within names name None at = tt
row_within names name (Some n) at = slice_get_within names n name at

-- ---- the rows of floors

rows_len : (names : List (List ℕ)) (floors : List NamedFloor) → length (rows_of names floors) ≡ length floors
rows_len names [] = refl
rows_len names (floor ∷ floors) = let rest = rows_len names floors in omega (arith, rest)

-- there is a row for each floor
pub rows_within : (names : List (List ℕ)) (rows : List (Option ℕ)) (floors : List NamedFloor) (place : ℕ) → rows ≡ rows_of names floors → place < length floors → place < length rows
rows_within names rows floors place are low =
    let len = ap (λ (l : List (Option ℕ)). length l) are ∙ rows_len names floors in omega (arith, len, low)

row_there : (names : List (List ℕ)) (floors : List NamedFloor) (place : ℕ) (floor : NamedFloor) → place < length floors → get_or floors place floor ≡ floor
    → get_or (rows_of names floors) place None ≡ number_of names floor.name
row_there names [] place floor low at = absurd (omega (arith, low))
row_there names (one ∷ floors) zero floor low at = ap (λ (f : NamedFloor). number_of names f.name) at
row_there names (one ∷ floors) (suc place) floor low at = row_there names floors place floor (omega (arith, low)) at

-- the row at a place is that of the floor there
pub row_at : (names : List (List ℕ)) (rows : List (Option ℕ)) (floors : List NamedFloor) (place : ℕ) (floor : NamedFloor) → rows ≡ rows_of names floors → place < length floors
    → get_or floors place floor ≡ floor → get_or rows place None ≡ number_of names floor.name
row_at names rows floors place floor are low at = ap (λ (l : List (Option ℕ)). get_or l place None) are ∙ row_there names floors place floor low at

-- a row of a name is within a list with as many elements as names
pub number_within : (names : List (List ℕ)) (name : List ℕ) (row : Option ℕ) (len : ℕ) → row ≡ number_of names name → len ≡ length names → IfSome row (λ n. n < len)
number_within names name None len is same = tt
number_within names name (Some n) len is same =
    let low = slice_get_within names n name (name_of_number names n name (sym is)) in omega (arith, low, same)

-- one more row
pub rows_more : (names : List (List ℕ)) (floors : List NamedFloor) (place : ℕ) (floor : NamedFloor) → place < length floors → get_or floors place floor ≡ floor
    → rows_of names (take (place + 1) floors) ≡ rows_of names (take place floors) ++ number_of names floor.name ∷ []
rows_more names [] place floor low at = absurd (omega (arith, low))
rows_more names (one ∷ floors) zero floor low at = ap (λ (f : NamedFloor). number_of names f.name ∷ []) at
rows_more names (one ∷ floors) (suc place) floor low at =
    let next : suc place + 1 ≡ suc (place + 1) = omega arith in
    ap (λ (n : ℕ). rows_of names (take n (one ∷ floors))) next
    ∙ ap (λ (l : List (Option ℕ)). number_of names one.name ∷ l) (rows_more names floors place floor (omega (arith, low)) at)

-- ---- news

pub raised_len : (floors : List ℕ) (row : Option ℕ) (next : ℕ) → length (raised floors row next) ≡ length floors
raised_len floors None next = refl
raised_len floors (Some row) next = go (ltb (slice_index floors row) next)
  where
    go : (above : Bool) → length (cond above (slice_set floors row next) floors) ≡ length floors
    go true = length-set floors row next
    go false = refl

left : (floors : List NamedFloor) (place : ℕ) (floor : NamedFloor) → place < length floors → get_or floors place floor ≡ floor
    → drop place floors ≡ floor ∷ drop (place + 1) floors
left floors place floor low at = drop_more floors place floor low ∙ ap (λ (f : NamedFloor). f ∷ drop (place + 1) floors) at

-- one more floor is told
pub raised_more : (names : List (List ℕ)) (known : List ℕ) (floors : List NamedFloor) (place : ℕ) (floor : NamedFloor) → place < length floors → get_or floors place floor ≡ floor
    → after_floors names known (drop place floors) ≡ after_floors names (after_floor names known floor) (drop (place + 1) floors)
raised_more names known floors place floor low at = ap (after_floors names known) (left floors place floor low at)

-- it is news
pub news_more : (names : List (List ℕ)) (known : List ℕ) (floors : List NamedFloor) (place : ℕ) (floor : NamedFloor) (out : List NamedFloor) → place < length floors → get_or floors place floor ≡ floor
    → is_news names known floor ≡ true
    → out ++ news names known (drop place floors) ≡ (out ++ floor ∷ []) ++ news names (after_floor names known floor) (drop (place + 1) floors)
news_more names known floors place floor out low at new =
    let rest = news names (after_floor names known floor) (drop (place + 1) floors) in
    ap (λ (l : List NamedFloor). out ++ news names known l) (left floors place floor low at)
    ∙ ap (λ (t : Bool). out ++ cond t (floor ∷ rest) rest) new
    ∙ sym (append_assoc out (floor ∷ []) rest)

-- it is no news
pub news_less : (names : List (List ℕ)) (known : List ℕ) (floors : List NamedFloor) (place : ℕ) (floor : NamedFloor) (out : List NamedFloor) → place < length floors → get_or floors place floor ≡ floor
    → is_news names known floor ≡ false
    → out ++ news names known (drop place floors) ≡ out ++ news names (after_floor names known floor) (drop (place + 1) floors)
news_less names known floors place floor out low at old =
    let rest = news names (after_floor names known floor) (drop (place + 1) floors) in
    ap (λ (l : List NamedFloor). out ++ news names known l) (left floors place floor low at)
    ∙ ap (λ (t : Bool). out ++ cond t (floor ∷ rest) rest) old

-- ---- rows in turn

abbrev pub named : List ℕ → ℕ → NamedFloor
named name next = record { name = name; next = next }

named_len : (names : List (List ℕ)) (told : List ℕ) → length told ≡ length names → length (named_floors names told) ≡ length names
named_len [] told len = refl
named_len (name ∷ names) [] len = absurd (omega (arith, len))
named_len (name ∷ names) (next ∷ told) len =
    let rest = named_len names told (omega (arith, len)) in omega (arith, rest)

named_at : (names : List (List ℕ)) (told : List ℕ) (row : ℕ) (name : List ℕ) (d : NamedFloor) → slice_get names row ≡ Some name → row < length told
    → get_or (named_floors names told) row d ≡ named name (get_or told row 0)
named_at [] told row name d at low = absurd cc
named_at (one ∷ names) [] row name d at low = absurd (omega (arith, low))
named_at (one ∷ names) (next ∷ told) zero name d at low = cc
named_at (one ∷ names) (next ∷ told) (suc row) name d at low = named_at names told row name d at (omega (arith, low))

-- the floor of one more row
turn_more : (names : List (List ℕ)) (told : List ℕ) (first row : ℕ) (name : List ℕ) → length told ≡ length names → first ≤ row → row < length told
    → slice_get names row ≡ Some name
    → take (row + 1 - first) (drop first (named_floors names told))
    ≡ take (row - first) (drop first (named_floors names told)) ++ named name (get_or told row 0) ∷ []
turn_more names told first row name len from low at =
    let d = named name 0 in
    let all = named_floors names told in
    let k = row - first in
    let next : row + 1 - first ≡ k + 1 = omega (arith, from) in
    let place : first + k ≡ row = omega (arith, from) in
    let whole = named_len names told len in
    let within : k < length (drop first all) = omega (arith, length-drop first all, whole, len, from, low) in
    ap (λ (n : ℕ). take n (drop first all)) next
    ∙ take_more (drop first all) k d within
    ∙ ap (λ (f : NamedFloor). take k (drop first all) ++ f ∷ []) (get_or-drop first all k d ∙ ap (λ (n : ℕ). get_or all n d) place ∙ named_at names told row name d at low)

-- the floors of the last rows
pub turn_last : (names : List (List ℕ)) (told : List ℕ) (turn : ℕ) → length told ≡ length names → length told ≤ turn + 20
    → take (length told - turn) (drop turn (named_floors names told)) ≡ take 20 (drop turn (named_floors names told))
turn_last names told turn len end =
    let all = named_floors names told in
    let whole = named_len names told len in
    let rest = length-drop turn all in
    take_all (length told - turn) (drop turn all) (omega (arith, rest, whole, len))
    ∙ sym (take_all 20 (drop turn all) (omega (arith, rest, whole, len, end)))

-- ---- rows that aren't fresh

fresh_more : (fresh : List ℕ) (row : ℕ) (floors : List NamedFloor) (floor : NamedFloor)
    → not_fresh fresh row (floors ++ floor ∷ []) ≡ not_fresh fresh row floors ++ cond (is_fresh fresh (row + length floors)) [] (floor ∷ [])
fresh_more fresh row [] floor =
    let same : row ≡ row + 0 = omega arith in
    ap (λ (n : ℕ). cond (is_fresh fresh n) [] (floor ∷ [])) same
fresh_more fresh row (one ∷ floors) floor = go (is_fresh fresh row) (fresh_more fresh (row + 1) floors floor)
  where
    last : List NamedFloor
    last = cond (is_fresh fresh (row + length (one ∷ floors))) [] (floor ∷ [])

    same : row + 1 + length floors ≡ row + length (one ∷ floors)
    same = omega arith

    go : (is : Bool) → not_fresh fresh (row + 1) (floors ++ floor ∷ []) ≡ not_fresh fresh (row + 1) floors ++ cond (is_fresh fresh (row + 1 + length floors)) [] (floor ∷ [])
        → cond is (not_fresh fresh (row + 1) (floors ++ floor ∷ [])) (one ∷ not_fresh fresh (row + 1) (floors ++ floor ∷ []))
        ≡ cond is (not_fresh fresh (row + 1) floors) (one ∷ not_fresh fresh (row + 1) floors) ++ last
    go true rest = rest ∙ ap (λ (n : ℕ). not_fresh fresh (row + 1) floors ++ cond (is_fresh fresh n) [] (floor ∷ [])) same
    go false rest =
        ap (λ (l : List NamedFloor). one ∷ l) (rest ∙ ap (λ (n : ℕ). not_fresh fresh (row + 1) floors ++ cond (is_fresh fresh n) [] (floor ∷ [])) same)

-- the floors of the rows from a first one up to another that aren't fresh
abbrev pub told_upto : List (List ℕ) → List ℕ → List ℕ → ℕ → ℕ → List NamedFloor
told_upto names told fresh first row = not_fresh fresh first (take (row - first) (drop first (named_floors names told)))

upto_more : (names : List (List ℕ)) (told fresh : List ℕ) (first row : ℕ) (name : List ℕ) → length told ≡ length names → first ≤ row → row < length told → slice_get names row ≡ Some name
    → told_upto names told fresh first (row + 1) ≡ told_upto names told fresh first row ++ cond (is_fresh fresh row) [] (named name (get_or told row 0) ∷ [])
upto_more names told fresh first row name len from low at =
    let all = drop first (named_floors names told) in
    let floor = named name (get_or told row 0) in
    let whole = named_len names told len in
    let place : first + length (take (row - first) all) ≡ row =
    omega (arith, length-take (row - first) all, length-drop first (named_floors names told), whole, len, from, low) in
    ap (not_fresh fresh first) (turn_more names told first row name len from low at)
    ∙ fresh_more fresh first (take (row - first) all) floor
    ∙ ap (λ (n : ℕ). told_upto names told fresh first row ++ cond (is_fresh fresh n) [] (floor ∷ [])) place

-- one more row is fresh
pub upto_fresh : (names : List (List ℕ)) (told fresh : List ℕ) (first row : ℕ) (name : List ℕ) → length told ≡ length names → first ≤ row → row < length told → slice_get names row ≡ Some name
    → is_fresh fresh row ≡ true → told_upto names told fresh first (row + 1) ≡ told_upto names told fresh first row
upto_fresh names told fresh first row name len from low at is =
    upto_more names told fresh first row name len from low at
    ∙ ap (λ (b : Bool). told_upto names told fresh first row ++ cond b [] (named name (get_or told row 0) ∷ [])) is
    ∙ append-nil (told_upto names told fresh first row)

-- one more row isn't
pub upto_other : (names : List (List ℕ)) (told fresh : List ℕ) (first row : ℕ) (name : List ℕ) → length told ≡ length names → first ≤ row → row < length told → slice_get names row ≡ Some name
    → is_fresh fresh row ≡ false → told_upto names told fresh first (row + 1) ≡ told_upto names told fresh first row ++ named name (get_or told row 0) ∷ []
upto_other names told fresh first row name len from low at is =
    upto_more names told fresh first row name len from low at
    ∙ ap (λ (b : Bool). told_upto names told fresh first row ++ cond b [] (named name (get_or told row 0) ∷ [])) is

-- ---- the number of names

none_past : (names : List (List ℕ)) (row : ℕ) → slice_get names row ≡ None → length names ≤ row
none_past [] row none = omega arith
none_past (name ∷ names) zero none = absurd cc
none_past (name ∷ names) (suc row) none = let rest = none_past names row none in omega (arith, rest)

-- the last row has a name, and the next has none
pub rows_are : (names : List (List ℕ)) (rows : ℕ) (name : List ℕ) → 1 ≤ rows → slice_get names (rows - 1) ≡ Some name → slice_get names rows ≡ None → length names ≡ rows
rows_are names rows name some last none =
    let within = slice_get_within names (rows - 1) name last in
    let past = none_past names rows none in
    omega (arith, some, within, past)

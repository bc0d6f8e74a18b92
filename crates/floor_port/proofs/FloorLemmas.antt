-- Bodies of floors, read and written floor by floor.
use Rattle.std.proofs.Common.{◌≡◌, ℕ, zero, suc, ◌+◌, ◌*◌, ◌-◌, ◌<◌, ◌≤◌, List, [], ◌∷◌, ◌++◌, length, take, drop, get_or, Option, Some, None, refl, sym, ap, ◌∙◌, arith, append_assoc, append-nil}
use Rattle.std.proofs.lemmas.List.{drop-drop, length-drop, take_all}
use Rattle.floor_port.specs.Floors.{all_bytes, floor_at, floor_bytes, floors_from, with_first}
use Rattle.floor_port.specs.declared.floor.NamedFloor.{NamedFloor}

-- ---- written

all_upto : (floors : List NamedFloor) (place : ℕ) (d : NamedFloor) → place < length floors
    → all_bytes (take (suc place) floors) ≡ all_bytes (take place floors) ++ floor_bytes (get_or floors place d)
all_upto [] place d low = absurd (omega (arith, low))
all_upto (floor ∷ floors) zero d low = append-nil (floor_bytes floor)
all_upto (floor ∷ floors) (suc place) d low =
    ap (λ (l : List ℕ). floor_bytes floor ++ l) (all_upto floors place d (omega (arith, low)))
    ∙ sym (append_assoc (floor_bytes floor) (all_bytes (take place floors)) (floor_bytes (get_or floors place d)))

-- the bytes of one more floor
pub all_more : (floors : List NamedFloor) (place : ℕ) (d : NamedFloor) → place < length floors
    → all_bytes (take (place + 1) floors) ≡ all_bytes (take place floors) ++ floor_bytes (get_or floors place d)
all_more floors place d low =
    let next : place + 1 ≡ suc place = omega arith in
    ap (λ (n : ℕ). all_bytes (take n floors)) next ∙ all_upto floors place d low

-- ---- read

-- the rest of the bytes from a place on
pub tail_is : (place : ℕ) (bytes : List ℕ) → take (length bytes - place) (drop place bytes) ≡ drop place bytes
tail_is place bytes = take_all (length bytes - place) (drop place bytes) (omega (arith, length-drop place bytes))

-- floors before others, if there are others
abbrev pub before : List NamedFloor → Option (List NamedFloor) → Option (List NamedFloor)
before floors None = None
before floors (Some others) = Some (floors ++ others)

-- the floors so far, and what is read of the bytes that are left
abbrev pub read_on : ℕ → List ℕ → ℕ → List NamedFloor → Option (List NamedFloor)
read_on count bytes place floors = before floors (floors_from (count - place) (drop (place * 24) bytes))

first_before : (floors : List NamedFloor) (floor : NamedFloor) (others : Option (List NamedFloor))
    → before floors (with_first (Some floor) others) ≡ before (floors ++ floor ∷ []) others
first_before floors floor None = refl
first_before floors floor (Some others) = ap (λ (l : List NamedFloor). Some l) (sym (append_assoc floors (floor ∷ []) others))

read_step : (count place : ℕ) (bytes : List ℕ) → place < count
    → floors_from (count - place) (drop (place * 24) bytes)
    ≡ with_first (floor_at (drop (place * 24) bytes)) (floors_from (count - (place + 1)) (drop ((place + 1) * 24) bytes))
read_step count place bytes low =
    let left : count - place ≡ suc (count - (place + 1)) = omega (arith, low) in
    let after : place * 24 + 24 ≡ (place + 1) * 24 = omega arith in
    ap (λ (n : ℕ). floors_from n (drop (place * 24) bytes)) left
    ∙ ap (λ (l : List ℕ). with_first (floor_at (drop (place * 24) bytes)) (floors_from (count - (place + 1)) l))
    (drop-drop 24 (place * 24) bytes ∙ ap (λ (n : ℕ). drop n bytes) after)

-- one more floor is read
pub one_more : (count place : ℕ) (bytes : List ℕ) (floors : List NamedFloor) (floor : NamedFloor) → place < count
    → Some floor ≡ floor_at (drop (place * 24) bytes)
    → read_on count bytes place floors ≡ read_on count bytes (place + 1) (floors ++ floor ∷ [])
one_more count place bytes floors floor low at =
    ap (before floors) (read_step count place bytes low
    ∙ ap (λ (o : Option NamedFloor). with_first o (floors_from (count - (place + 1)) (drop ((place + 1) * 24) bytes))) (sym at))
    ∙ first_before floors floor (floors_from (count - (place + 1)) (drop ((place + 1) * 24) bytes))

-- no floor is read
pub no_more : (count place : ℕ) (bytes : List ℕ) (floors : List NamedFloor) → place < count
    → None ≡ floor_at (drop (place * 24) bytes) → read_on count bytes place floors ≡ None
no_more count place bytes floors low at =
    ap (before floors) (read_step count place bytes low
    ∙ ap (λ (o : Option NamedFloor). with_first o (floors_from (count - (place + 1)) (drop ((place + 1) * 24) bytes))) (sym at))

-- all floors are read
pub read_all : (count place : ℕ) (bytes : List ℕ) (floors : List NamedFloor) → count ≤ place
    → read_on count bytes place floors ≡ Some floors
read_all count place bytes floors end =
    let none : count - place ≡ 0 = omega (arith, end) in
    ap (λ (n : ℕ). before floors (floors_from n (drop (place * 24) bytes))) none
    ∙ ap (λ (l : List NamedFloor). Some l) (append-nil floors)

-- no floor is read yet
pub read_none : (count : ℕ) (bytes : List ℕ) → read_on count bytes 0 [] ≡ floors_from count bytes
read_none count bytes =
    let all : count - 0 ≡ count = omega arith in
    ap (λ (n : ℕ). before [] (floors_from n bytes)) all ∙ go (floors_from count bytes)
  where
    go : (o : Option (List NamedFloor)) → before [] o ≡ o
    go None = refl
    go (Some floors) = refl

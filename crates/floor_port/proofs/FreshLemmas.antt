-- No turn tells the floor of a fresh row.
use Rattle.std.proofs.Common.{◌≡◌, ℕ, zero, suc, ◌+◌, ◌<◌, Bool, true, false, cond, eqb, leb, List, [], ◌∷◌, ◌++◌, length, take, drop, Option, Some, refl, ap, ◌∙◌, arith, eq-eqb, inl, inr}
use Rattle.std.specs.Prelude.{◌||◌, slice_get, slice_index}
use Rattle.std.proofs.lemmas.Bool.{lt-ltb, lt-leb}
use Rattle.named_port.specs.Names.{number_of}
use Rattle.floor_port.specs.Promises.{Among, IsNotFresh}
use Rattle.floor_port.specs.Rows.{RowsRecord, after_witness, is_above, is_fresh, named_floors, next_floors, not_fresh, with_fresh}
use Rattle.floor_port.specs.declared.floor.NamedFloor.{NamedFloor}

abbrev present : {A : Type 0} → A → Option A
present x = Some x

some_is : {A : Type 0} (x y : A) → present x ≡ present y → x ≡ y
some_is x y e = cc

-- ---- the place of a floor

-- the floor is at a place of the floors, and the row there isn't fresh
record IsPlaced (fresh : List ℕ) (row : ℕ) (floors : List NamedFloor) (floor : NamedFloor) : Type 0 where
  place : ℕ
  at : slice_get floors place ≡ Some floor
  other : is_fresh fresh (row + place) ≡ false

placed_later : (fresh : List ℕ) (row : ℕ) (one : NamedFloor) (floors : List NamedFloor) (floor : NamedFloor) → IsPlaced fresh (row + 1) floors floor → IsPlaced fresh row (one ∷ floors) floor
placed_later fresh row one floors floor p =
    let same : row + suc p.place ≡ row + 1 + p.place = omega arith in
    record { place = suc p.place; at = p.at; other = ap (is_fresh fresh) same ∙ p.other }

placed : (fresh : List ℕ) (row : ℕ) (floors : List NamedFloor) (floor : NamedFloor) → Among (not_fresh fresh row floors) floor → IsPlaced fresh row floors floor
placed fresh row [] floor h = absurd h
placed fresh row (one ∷ floors) floor h = go (is_fresh fresh row) refl (placed fresh (row + 1) floors floor) h
  where
    same : row + 0 ≡ row
    same = omega arith

    go : (is : Bool) → is_fresh fresh row ≡ is → (Among (not_fresh fresh (row + 1) floors) floor → IsPlaced fresh (row + 1) floors floor)
        → Among (cond is (not_fresh fresh (row + 1) floors) (one ∷ not_fresh fresh (row + 1) floors)) floor → IsPlaced fresh row (one ∷ floors) floor
    go true is rest later = placed_later fresh row one floors floor (rest later)
    go false is rest (inl first) = record { place = 0; at = ap present first; other = ap (is_fresh fresh) same ∙ is }
    go false is rest (inr later) = placed_later fresh row one floors floor (rest later)

get_take : (count : ℕ) (floors : List NamedFloor) (place : ℕ) (floor : NamedFloor) → slice_get (take count floors) place ≡ Some floor → slice_get floors place ≡ Some floor
get_take zero floors place floor at = absurd cc
get_take (suc count) [] place floor at = absurd cc
get_take (suc count) (one ∷ floors) zero floor at = at
get_take (suc count) (one ∷ floors) (suc place) floor at = get_take count floors place floor at

get_drop : (count : ℕ) (floors : List NamedFloor) (place row : ℕ) (floor : NamedFloor) → row ≡ count + place → slice_get (drop count floors) place ≡ Some floor → slice_get floors row ≡ Some floor
get_drop zero floors place row floor is at =
    let same : row ≡ place = omega (arith, is) in ap (slice_get floors) same ∙ at
get_drop (suc count) [] place row floor is at = absurd cc
get_drop (suc count) (one ∷ floors) place zero floor is at = absurd (omega (arith, is))
get_drop (suc count) (one ∷ floors) place (suc row) floor is at = get_drop count floors place row floor (omega (arith, is)) at

get_named : (names : List (List ℕ)) (told : List ℕ) (row : ℕ) (floor : NamedFloor) → slice_get (named_floors names told) row ≡ Some floor → (slice_get names row ≡ Some floor.name) × (slice_get told row ≡ Some floor.next)
get_named [] told row floor at = absurd cc
get_named (name ∷ names) [] row floor at = absurd cc
get_named (name ∷ names) (next ∷ told) zero floor at =
    let is = some_is (record { name = name; next = next }) floor at in (ap (λ (f : NamedFloor). present f.name) is, ap (λ (f : NamedFloor). present f.next) is)
get_named (name ∷ names) (next ∷ told) (suc row) floor at = get_named names told row floor at

-- a floor that is told next is that of a row that isn't fresh
pub next_waits : (rows : RowsRecord) (floor : NamedFloor) → Among (next_floors rows) floor → IsNotFresh rows floor
next_waits rows floor h =
    let all = named_floors rows.names rows.told in
    let p = placed rows.fresh rows.turn (take 20 (drop rows.turn all)) floor h in
    let row = rows.turn + p.place in
    let at = get_drop rows.turn all p.place row floor refl (get_take 20 (drop rows.turn all) p.place floor p.at) in
    let parts = get_named rows.names rows.told row floor at in
    record { row = row; name_is = parts.0; next_is = parts.1; is_other = p.other }

-- ---- a floor that is raised is fresh

last_fresh : (fresh : List ℕ) (row : ℕ) → is_fresh (fresh ++ row ∷ []) row ≡ true
last_fresh [] row = ap (λ (b : Bool). b || false) (eq-eqb row row refl)
last_fresh (one ∷ fresh) row = go (eqb one row) (last_fresh fresh row)
  where
    go : (is : Bool) → is_fresh (fresh ++ row ∷ []) row ≡ true → (is || is_fresh (fresh ++ row ∷ []) row) ≡ true
    go true rest = refl
    go false rest = rest

more_fresh : (fresh : List ℕ) (row : ℕ) → leb 64 (length fresh) ≡ false → is_fresh (with_fresh fresh (Some row)) row ≡ true
more_fresh fresh row room = go (is_fresh fresh row) refl
  where
    go : (is : Bool) → is_fresh fresh row ≡ is → is_fresh (cond (is || leb 64 (length fresh)) fresh (fresh ++ row ∷ [])) row ≡ true
    go true is = is
    go false is = ap (λ (b : Bool). is_fresh (cond b fresh (fresh ++ row ∷ [])) row) room ∙ last_fresh fresh row

pub raised_waits : (rows : RowsRecord) (floor : NamedFloor) (row : ℕ) → number_of rows.names floor.name ≡ Some row → slice_index rows.told row < floor.next → length rows.fresh < 64
    → is_fresh (after_witness rows (Some floor)).fresh row ≡ true
raised_waits rows floor row at above room =
    ap (λ (o : Option ℕ). is_fresh (cond (is_above rows.told o floor.next) (with_fresh rows.fresh o) rows.fresh) row) at
    ∙ ap (λ (b : Bool). is_fresh (cond b (with_fresh rows.fresh (Some row)) rows.fresh) row) (lt-ltb (slice_index rows.told row) floor.next above)
    ∙ more_fresh rows.fresh row (lt-leb 64 (length rows.fresh) room)

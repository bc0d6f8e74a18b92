-- The rows that stay keep the greatest floor of each seed.
use Rattle.std.proofs.Common.{◌≡◌, ◌⊎◌, ℕ, ◌+◌, ◌-◌, ◌<◌, ◌≤◌, Bool, true, false, cond, ◌&&◌, ◌||◌, List, [], ◌∷◌, slice_get, Option, Some, None, inl, inr, refl, sym, ap, subst, ◌∙◌, arith}
use Rattle.std.specs.Prelude.{filter, not, option_map}
use Rattle.std.specs.Str.{bytes_eq}
use Rattle.std.proofs.lemmas.Bool.{and_parts, cases_lt, leb-true, ltb-true, not-false, or_cases, true≢false}
use Rattle.std.proofs.lemmas.Option.{slice_get-map}
use Rattle.std.proofs.lemmas.Slice.Eq.{bytes_eq-Decides}
use Rattle.named_store.specs.Floors.{lifted_by, raised_floor}
use Rattle.named_store.proofs.FloorLemmas.{row_kept}
use Rattle.retired_rows.specs.declared.row.NumberedRow.{NumberedRow}
use Rattle.retired_rows.specs.Staying.{can_go, entries_in, floors_in, goes, greatest, is_above, named_rows, reaches, staying}
use Rattle.retired_rows.proofs.GreatestLemmas.{lift_is, raised_is}

-- ---- the height of a floor: None is below each floor

abbrev height : Option ℕ → ℕ
height None = 0
height (Some floor) = floor + 1

same_height : (a b : Option ℕ) → height a ≡ height b → a ≡ b
same_height None None is = refl
same_height None (Some b) is = absurd (omega (arith, is))
same_height (Some a) None is = absurd (omega (arith, is))
same_height (Some a) (Some b) is = let same : a ≡ b = omega (arith, is) in ap Some same

-- a lifted floor is as high as one of both, and no lower than either
lift_high : (top : Option ℕ) (floor : ℕ) → (height top ≤ lifted_by top floor + 1) × (floor < lifted_by top floor + 1)
    × ((lifted_by top floor + 1 ≡ height top) ⊎ (lifted_by top floor ≡ floor))
lift_high None floor = (omega arith, omega arith, inr refl)
lift_high (Some top) floor = let it = lift_is top floor in (
  omega (arith, it.1),
  omega (arith, it.0),
  elim it.2 [
    | inl is ↦ inl (ap (λ (n : ℕ). n + 1) is)
    | inr is ↦ inr is
  ],
)

module _ (seed : List ℕ) where
  -- how high the greatest floor of the rows is
  abbrev top : List NumberedRow → ℕ
  top rows = height (greatest rows seed)

  -- one row more
  with_row : (t : Bool) (row : NumberedRow) (rows : List NumberedRow) → bytes_eq row.entry.seed seed ≡ t
      → top (row ∷ rows) ≡ height (cond t (Some (lifted_by (greatest rows seed) row.row.next)) (greatest rows seed))
  with_row t row rows is =
      let lifted : Option ℕ = Some (lifted_by (greatest rows seed) row.row.next) in
      ap (λ (u : Bool). height (cond u lifted (greatest rows seed))) is

  row_low : (t : Bool) (row : NumberedRow) (rows : List NumberedRow) → bytes_eq row.entry.seed seed ≡ t
      → top rows ≤ top (row ∷ rows)
  row_low true row rows is =
      let it = lift_high (greatest rows seed) row.row.next in
      let at = with_row true row rows is in
      omega (arith, it.0, at)
  row_low false row rows is = let at = with_row false row rows is in omega (arith, at)

  -- the heights of two lists with one row more
  row_same : (t : Bool) (row : NumberedRow) (less more : List NumberedRow) → bytes_eq row.entry.seed seed ≡ t
      → top less ≤ top more
      → top (row ∷ less) ≤ top (row ∷ more)
  row_same true row less more is low =
      let a = lift_high (greatest less seed) row.row.next in
      let b = lift_high (greatest more seed) row.row.next in
      let at_a = with_row true row less is in
      let at_b = with_row true row more is in
      omega (arith, a.0, a.1, a.2, b.0, b.1, b.2, at_a, at_b, low)
  row_same false row less more is low =
      let at_a = with_row false row less is in let at_b = with_row false row more is in omega (arith, at_a, at_b, low)

  -- some of the rows are no higher than all
  some_low : (keeps : NumberedRow → Bool) (rows : List NumberedRow) → top (filter keeps rows) ≤ top rows
  some_low keeps [] = omega arith
  some_low keeps (row ∷ rows) = step (keeps row) (some_low keeps rows)
    where
      step : (t : Bool) → top (filter keeps rows) ≤ top rows
          → top (cond t (row ∷ filter keeps rows) (filter keeps rows)) ≤ top (row ∷ rows)
      step true rest = row_same (bytes_eq row.entry.seed seed) row (filter keeps rows) rows refl rest
      step false rest = let one = row_low (bytes_eq row.entry.seed seed) row rows refl in omega (arith, rest, one)

  -- a row is no higher than a bound
  row_below : (t : Bool) (row : NumberedRow) (rows : List NumberedRow) (bound : ℕ) → bytes_eq row.entry.seed seed ≡ t
      → (bytes_eq row.entry.seed seed ≡ true → row.row.next < bound) → top rows ≤ bound → top (row ∷ rows) ≤ bound
  row_below true row rows bound is low rest =
      let it = lift_high (greatest rows seed) row.row.next in
      let at = with_row true row rows is in
      let own = low is in
      omega (arith, it.2, at, own, rest)
  row_below false row rows bound is low rest = let at = with_row false row rows is in omega (arith, at, rest)

  -- a row that is no higher than a bound is lower than it
  row_above : (t : Bool) (row : NumberedRow) (rows : List NumberedRow) (bound : ℕ) → bytes_eq row.entry.seed seed ≡ t
      → top (row ∷ rows) ≤ bound → t ≡ true → row.row.next < bound
  row_above true row rows bound is high same =
      let it = lift_high (greatest rows seed) row.row.next in
      let at = with_row true row rows is in
      omega (arith, it.1, at, high)
  row_above false row rows bound is high same = absurd cc

  -- all rows are within a bound, if some are and each other is
  all_below : (keeps : NumberedRow → Bool) (bound : ℕ)
      → ((row : NumberedRow) → keeps row ≡ false → bytes_eq row.entry.seed seed ≡ true → row.row.next < bound)
      → (rows : List NumberedRow) → top (filter keeps rows) ≤ bound → top rows ≤ bound
  all_below keeps bound others [] low = low
  all_below keeps bound others (row ∷ rows) low = step (keeps row) (all_below keeps bound others rows) refl low
    where
      step : (t : Bool) → (top (filter keeps rows) ≤ bound → top rows ≤ bound) → keeps row ≡ t
          → top (cond t (row ∷ filter keeps rows) (filter keeps rows)) ≤ bound → top (row ∷ rows) ≤ bound
      step true rest is high =
          let first = row_low (bytes_eq row.entry.seed seed) row (filter keeps rows) refl in
          row_below (bytes_eq row.entry.seed seed) row rows bound refl
          (λ same. row_above (bytes_eq row.entry.seed seed) row (filter keeps rows) bound refl high same)
          (rest (omega (arith, first, high)))
      step false rest is high = row_below (bytes_eq row.entry.seed seed) row rows bound refl (others row is) (rest high)

-- ---- the rows that the users file has

-- what passes one test of those that pass another, where each that passes the first passes the other
filter_inner : (inner outer : NumberedRow → Bool) → ((row : NumberedRow) → inner row ≡ true → outer row ≡ true)
    → (rows : List NumberedRow) → filter inner (filter outer rows) ≡ filter inner rows
filter_inner inner outer each [] = refl
filter_inner inner outer each (row ∷ rows) = step (outer row) (inner row) (filter_inner inner outer each rows) refl refl
  where
    step : (t u : Bool) → filter inner (filter outer rows) ≡ filter inner rows → outer row ≡ t → inner row ≡ u
        → filter inner (cond t (row ∷ filter outer rows) (filter outer rows))
        ≡ cond u (row ∷ filter inner rows) (filter inner rows)
    step true u rest is at = λ i. cond (at i) (row ∷ rest i) (rest i)
    step false true rest is at = absurd (true≢false (sym (each row at) ∙ is))
    step false false rest is at = rest

stays_named : (rows : List NumberedRow) (row : NumberedRow) → row.is_named ≡ true → not (goes rows row) ≡ true
stays_named rows row is =
    let all : Bool = is_above (greatest rows row.entry.seed) row.row.next in
    let named : Bool = reaches (greatest (named_rows rows) row.entry.seed) row.row.next in
    ap (λ (t : Bool). not (not t && (all || named))) is

-- the rows that the users file has stay, in order
pub named_stay : (rows : List NumberedRow) → named_rows (staying rows) ≡ named_rows rows
named_stay rows = filter_inner (λ row. row.is_named) (λ row. not (goes rows row)) (stays_named rows) rows

-- ---- the greatest floors

above_high : (all : Option ℕ) (floor : ℕ) → is_above all floor ≡ true → floor + 1 < height all
above_high None floor is = absurd cc
above_high (Some top) floor is = let low = ltb-true floor top is in omega (arith, low)

reached_high : (named : Option ℕ) (floor : ℕ) → reaches named floor ≡ true → floor < height named
reached_high None floor is = absurd cc
reached_high (Some top) floor is = let low = leb-true floor top is in omega (arith, low)

-- a row that goes is lower than all rows of its seed, or no higher than those that the users file has
goes_low : (all named : Option ℕ) (row : NumberedRow) → can_go all named row ≡ true
    → (row.row.next + 1 < height all) ⊎ (row.row.next < height named)
goes_low all named row is =
    elim (or_cases (is_above all row.row.next) (reaches named row.row.next)
    (and_parts (not row.is_named) (is_above all row.row.next || reaches named row.row.next) is).1) [
      | inl above ↦ inl (above_high all row.row.next above)
      | inr reached ↦ inr (reached_high named row.row.next reached)
    ]

goes_below : (rows : List NumberedRow) (seed : List ℕ) (row : NumberedRow) → not (goes rows row) ≡ false
    → bytes_eq row.entry.seed seed ≡ true
    → (row.row.next + 1 < top seed rows) ⊎ (row.row.next < top seed (named_rows rows))
goes_below rows seed row gone same =
    subst (λ (s : List ℕ). (row.row.next + 1 < top s rows) ⊎ (row.row.next < top s (named_rows rows)))
    ((bytes_eq-Decides row.entry.seed seed).0 same)
    (goes_low (greatest rows row.entry.seed) (greatest (named_rows rows) row.entry.seed) row
    (not-false (goes rows row) gone))

top_stays : (rows : List NumberedRow) (seed : List ℕ) → top seed (staying rows) ≡ top seed rows
top_stays rows seed =
    let keeps : NumberedRow → Bool = λ row. not (goes rows row) in
    let low : top seed (staying rows) ≤ top seed rows = some_low seed keeps rows in
    let named : top seed (named_rows rows) ≤ top seed (staying rows) =
    subst (λ (l : List NumberedRow). top seed l ≤ top seed (staying rows)) (named_stay rows)
    (some_low seed (λ row. row.is_named) (staying rows)) in
    elim (cases_lt (top seed (staying rows)) (top seed rows)) [
      | inl less ↦
          let bound : ℕ = top seed rows - 1 in
          let others : (row : NumberedRow) → keeps row ≡ false → bytes_eq row.entry.seed seed ≡ true
          → row.row.next < bound =
          λ row gone same. elim (goes_below rows seed row gone same) [
            | inl above ↦ omega (arith, above)
            | inr reached ↦ omega (arith, reached, named, less)
          ] in
          let all = all_below seed keeps bound others rows (omega (arith, less)) in
          absurd (omega (arith, all, less))
      | inr more ↦ omega (arith, low, more)
    ]

-- the greatest floor of each seed stays
pub greatest_stays : (rows : List NumberedRow) (seed : List ℕ) → greatest (staying rows) seed ≡ greatest rows seed
greatest_stays rows seed = same_height (greatest (staying rows) seed) (greatest rows seed) (top_stays rows seed)

-- ---- enrolments

-- a floor is raised by the rows that stay as by all rows
pub raised_stays : (rows : List NumberedRow) (seed : List ℕ) (floor : ℕ)
    → raised_floor (entries_in (staying rows)) (floors_in (staying rows)) seed floor
    ≡ raised_floor (entries_in rows) (floors_in rows) seed floor
raised_stays rows seed floor =
    raised_is (staying rows) seed floor ∙ ap (λ (g : Option ℕ). lifted_by g floor) (greatest_stays rows seed)
    ∙ sym (raised_is rows seed floor)

-- a token of a row that stays or goes is enrolled with at least the row's floor
pub returns_no_lower : (rows : List NumberedRow) (place floor : ℕ) (row : NumberedRow) → slice_get rows place ≡ Some row
    → row.row.next ≤ raised_floor (entries_in (staying rows)) (floors_in (staying rows)) row.entry.seed floor
returns_no_lower rows place floor row at =
    let entry : slice_get (entries_in rows) place ≡ Some row.entry =
    slice_get-map (λ (r : NumberedRow). r.entry) rows place
    ∙ ap (λ (o : Option NumberedRow). option_map (λ (r : NumberedRow). r.entry) o) at in
    let next : slice_get (floors_in rows) place ≡ Some row.row.next =
    slice_get-map (λ (r : NumberedRow). r.row.next) rows place
    ∙ ap (λ (o : Option NumberedRow). option_map (λ (r : NumberedRow). r.row.next) o) at in
    let low =
    row_kept (entries_in rows) (floors_in rows) row.entry.seed floor place row.row.next row.entry entry next refl in
    let same = raised_stays rows row.entry.seed floor in
    omega (arith, low, same)

-- ---- dropping twice

filter_same : (one other : NumberedRow → Bool) → ((row : NumberedRow) → one row ≡ other row) → (rows : List NumberedRow)
    → filter one rows ≡ filter other rows
filter_same one other each [] = refl
filter_same one other each (row ∷ rows) =
    λ i. cond (each row i) (row ∷ filter_same one other each rows i) (filter_same one other each rows i)

-- the rows that stay all stay again
pub stays_again : (rows : List NumberedRow) → staying (staying rows) ≡ staying rows
stays_again rows =
    filter_same (λ row. not (goes (staying rows) row)) (λ row. not (goes rows row))
    (λ row. λ i. not (can_go (greatest_stays rows row.entry.seed i) (greatest (named_stay rows i) row.entry.seed) row))
    (staying rows)
    ∙ filter_inner (λ row. not (goes rows row)) (λ row. not (goes rows row)) (λ row is. is) rows

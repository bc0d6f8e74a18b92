-- After the rows of seats were raised, each of them has the greatest floor of its seed.
use Rattle.std.proofs.Common.{◌≡◌, ◌≤◌, ◌<◌, ◌⊎◌, ℕ, zero, suc, ◌+◌, Bool, true, false, cond, ◌&&◌, nat_lt, List, [], ◌∷◌, ◌++◌, length, map, get_or, slice_get, slice_set, slice_index_or, Option, None, Some, inl, inr, refl, sym, ap, subst, ◌∙◌, arith}
use Rattle.std.specs.List.{cons_option, filter_map}
use Rattle.std.specs.Str.{bytes_eq}
use Rattle.std.proofs.lemmas.Bool.{cases_lt, cases_order, ltb-true, lt-ltb}
use Rattle.std.proofs.lemmas.List.{get_or-set_same, get_or-set_other}
use Rattle.std.proofs.lemmas.Option.{get_or_from_slice_get, slice_get_within}
use Rattle.std.proofs.lemmas.Slice.Eq.{bytes_eq-Decides}
use Rattle.floor_store.specs.Content.{Content, opening_row, with_row}
use Rattle.floor_store.specs.Records.{RowRecord}
use Rattle.floor_sql.specs.Staged.{with_puts}
use Rattle.floor_sql.specs.declared.put.Put.{Put}
use Rattle.floor_sql.proofs.ContentLemmas.{length_set}
use Rattle.seated_store.specs.Seats.{row_at}
use Rattle.roster_sql.specs.Enrolled.{with_floors}
use Rattle.roster_sql.specs.declared.entry.Entry.{Entry}
use Rattle.named_store.specs.Floors.{no_entry, raised_floor, rise}
use Rattle.named_store.specs.Opened.{AreGreatest, floors_in, rises, seat_rise}
use Rattle.named_store.proofs.FloorLemmas.{own_kept, row_kept}

-- a floor that is raised has no greater bound than the floors that raise it
raised_below : (roster : List Entry) (held seed : List ℕ) (floor bound : ℕ) → floor ≤ bound
    → ((row next : ℕ) (e : Entry) → slice_get roster row ≡ Some e → slice_get held row ≡ Some next → e.seed ≡ seed → next ≤ bound)
    → raised_floor roster held seed floor ≤ bound
raised_below [] held seed floor bound low each = low
raised_below (x ∷ roster) [] seed floor bound low each = low
raised_below (x ∷ roster) (h ∷ held) seed floor bound low each =
    raised_below roster held seed (cond (bytes_eq x.seed seed && nat_lt floor h) h floor) bound (step (bytes_eq x.seed seed) (nat_lt floor h) refl)
    (λ row next e at got same. each (suc row) next e at got same)
  where
    step : (t u : Bool) → bytes_eq x.seed seed ≡ t → cond (t && u) h floor ≤ bound
    step true true is = each 0 h x refl refl ((bytes_eq-Decides x.seed seed).0 is)
    step true false is = low
    step false u is = low

module _ (roster : List Entry) (c : Content) (counted : length c.rows ≡ length roster) where
  abbrev next_in : Content → ℕ → ℕ
  next_in d t = (row_at d.rows t).next

  -- the greatest floor of a row's seed
  abbrev top : ℕ → ℕ
  top t = raised_floor roster (floors_in c) (slice_index_or roster t no_entry).seed (next_in c t)

  -- the rows are between their floors before and the greatest ones
  record IsBetween (d : Content) : Type 0 where
    long : length d.rows ≡ length roster
    low : (t : ℕ) → next_in c t ≤ next_in d t
    high : (t : ℕ) → t < length roster → next_in d t ≤ top t

  -- one row is put
  put_same : (d : Content) (t : ℕ) (row : RowRecord) → t < length d.rows → next_in (with_row d t row None) t ≡ row.next
  put_same d t row low = ap (λ (r : RowRecord). r.next) (get_or-set_same d.rows t row (opening_row 0) low)

  put_other : (d : Content) (t u : ℕ) (row : RowRecord) → (u ≡ t → ⊥) → next_in (with_row d t row None) u ≡ next_in d u
  put_other d t u row apart = ap (λ (r : RowRecord). r.next) (get_or-set_other d.rows t u row (opening_row 0) apart)

  abbrev raised_row : ℕ → RowRecord
  raised_row t = record (row_at c.rows t) { next = top t }

  between_put : (d : Content) (t : ℕ) → t < length roster → IsBetween d → IsBetween (with_row d t (raised_row t) None)
  between_put d t inside it = record {
    long = length_set d.rows t (raised_row t) ∙ it.long;
    low = λ u. elim (cases_order u t) [
      | inl same ↦
          let kept = own_kept roster (floors_in c) (slice_index_or roster t no_entry).seed (next_in c t) in
          let is = put_same d t (raised_row t) (omega (arith, inside, it.long)) in
          subst (λ (x : ℕ). next_in c x ≤ next_in (with_row d t (raised_row t) None) x) (sym same) (omega (arith, kept, is))
      | inr (inl less) ↦ let is = put_other d t u (raised_row t) (λ e. omega (arith, less, e)) in omega (arith, is, it.low u)
      | inr (inr more) ↦ let is = put_other d t u (raised_row t) (λ e. omega (arith, more, e)) in omega (arith, is, it.low u)
    ];
    high = λ u within. elim (cases_order u t) [
      | inl same ↦
          let is = put_same d t (raised_row t) (omega (arith, inside, it.long)) in
          subst (λ (x : ℕ). next_in (with_row d t (raised_row t) None) x ≤ top x) (sym same) (omega (arith, is))
      | inr (inl less) ↦ let is = put_other d t u (raised_row t) (λ e. omega (arith, less, e)) in omega (arith, is, it.high u within)
      | inr (inr more) ↦ let is = put_other d t u (raised_row t) (λ e. omega (arith, more, e)) in omega (arith, is, it.high u within)
    ];
  }

  -- a row that has its greatest floor keeps it
  top_put : (d : Content) (t s : ℕ) → t < length d.rows → top s ≤ next_in d s → top s ≤ next_in (with_row d t (raised_row t) None) s
  top_put d t s inside had =
      elim (cases_order s t) [
        | inl same ↦ let is = put_same d t (raised_row t) inside in
            subst (λ (x : ℕ). top x ≤ next_in (with_row d t (raised_row t) None) x) (sym same) (omega (arith, is))
        | inr (inl less) ↦ let is = put_other d t s (raised_row t) (λ e. omega (arith, less, e)) in omega (arith, is, had)
        | inr (inr more) ↦ let is = put_other d t s (raised_row t) (λ e. omega (arith, more, e)) in omega (arith, is, had)
      ]

  -- the content after the rise of one seat, by its two tests
  abbrev after_rise : Content → ℕ → Bool → Bool → List Put → Content
  after_rise d t a b puts = with_puts d (cons_option (cond a (cond b (Some (record { token = t; row = raised_row t; pass = None })) None) None) puts)

  abbrev Reaches : ℕ → Content → List ℕ → Type 0
  Reaches s d seats = IsBetween (with_puts d (rises roster seats c)) × (top s ≤ next_in d s → top s ≤ next_in (with_puts d (rises roster seats c)) s)

  all_between : (seats : List ℕ) (s : ℕ) (d : Content) → IsBetween d → Reaches s d seats
  all_between [] s d it = (it, λ had. had)
  all_between (t ∷ seats) s d it = go (all_between seats s) (nat_lt t (length roster)) (nat_lt (next_in c t) (top t)) refl
    where
      go : ((e : Content) → IsBetween e → Reaches s e seats) → (a b : Bool) → nat_lt t (length roster) ≡ a
          → IsBetween (after_rise d t a b (rises roster seats c)) × (top s ≤ next_in d s → top s ≤ next_in (after_rise d t a b (rises roster seats c)) s)
      go more true true is =
          let inside = ltb-true t (length roster) is in
          let rest = more (with_row d t (raised_row t) None) (between_put d t inside it) in
          (rest.0, λ had. rest.1 (top_put d t s (omega (arith, inside, it.long)) had))
      go more true false is = more d it
      go more false b is = more d it

  -- the row of a seat reaches the greatest floor of its seed
  reached : (seats : List ℕ) (i s : ℕ) (d : Content) → slice_get seats i ≡ Some s → s < length roster → IsBetween d
      → top s ≤ next_in (with_puts d (rises roster seats c)) s
  reached [] i s d at inside it = absurd cc
  reached (t ∷ seats) zero s d at inside it =
      let same : t ≡ s = cc in
      subst (λ (x : ℕ). top x ≤ next_in (with_puts d (rises roster (t ∷ seats) c)) x) same
      (go (nat_lt t (length roster)) (nat_lt (next_in c t) (top t)) refl refl (subst (λ (x : ℕ). x < length roster) (sym same) inside))
    where
      go : (a b : Bool) → nat_lt t (length roster) ≡ a → nat_lt (next_in c t) (top t) ≡ b → t < length roster
          → top t ≤ next_in (after_rise d t a b (rises roster seats c)) t
      go true true is less within =
          let put = put_same d t (raised_row t) (omega (arith, within, it.long)) in
          (all_between seats t (with_row d t (raised_row t) None) (between_put d t within it)).1 (omega (arith, put))
      go true false is less within =
          let here : top t ≤ next_in c t =
          elim (cases_lt (next_in c t) (top t)) [
            | inl low ↦ let x : true ≡ false = sym (lt-ltb (next_in c t) (top t) low) ∙ less in absurd cc
            | inr high ↦ high
          ] in
          (all_between seats t d it).1 (omega (arith, here, it.low t))
      go false b is less within = let x : true ≡ false = sym (lt-ltb t (length roster) within) ∙ is in absurd cc
  reached (t ∷ seats) (suc i) s d at inside it =
      go (λ e between. reached seats i s e at inside between) (nat_lt t (length roster)) (nat_lt (next_in c t) (top t)) refl
    where
      go : ((e : Content) → IsBetween e → top s ≤ next_in (with_puts e (rises roster seats c)) s) → (a b : Bool) → nat_lt t (length roster) ≡ a
          → top s ≤ next_in (after_rise d t a b (rises roster seats c)) s
      go more true true is = more (with_row d t (raised_row t) None) (between_put d t (ltb-true t (length roster) is) it)
      go more true false is = more d it
      go more false b is = more d it

  at_first : IsBetween c
  at_first = record { long = counted; low = λ t. omega arith; high = λ t inside. own_kept roster (floors_in c) (slice_index_or roster t no_entry).seed (next_in c t) }

  floor_at : (rows : List RowRecord) (t : ℕ) → t < length rows → slice_get (map (λ r. r.next) rows) t ≡ Some (row_at rows t).next
  floor_at [] t inside = absurd (omega (arith, inside))
  floor_at (r ∷ rows) zero inside = refl
  floor_at (r ∷ rows) (suc t) inside = floor_at rows t (omega (arith, inside))

  seed_at : (t : ℕ) (e : Entry) → slice_get roster t ≡ Some e → (slice_index_or roster t no_entry).seed ≡ e.seed
  seed_at t e at = ap (λ (x : Entry). x.seed) (get_or_from_slice_get roster t e no_entry at)

  -- the greatest floors of two rows with one seed are the same
  top_below : (row seat : ℕ) (own other : Entry) → slice_get roster seat ≡ Some own → slice_get roster row ≡ Some other → other.seed ≡ own.seed → top row ≤ top seat
  top_below row seat own other at_own at_other same =
      let seed : (slice_index_or roster row no_entry).seed ≡ (slice_index_or roster seat no_entry).seed = seed_at row other at_other ∙ same ∙ sym (seed_at seat own at_own) in
      let within = slice_get_within roster row other at_other in
      let here = row_kept roster (floors_in c) (slice_index_or roster seat no_entry).seed (next_in c seat) row (next_in c row) other at_other
      (floor_at c.rows row (omega (arith, within, counted))) (same ∙ sym (seed_at seat own at_own)) in
      subst (λ (s : List ℕ). raised_floor roster (floors_in c) s (next_in c row) ≤ top seat) (sym seed)
      (raised_below roster (floors_in c) (slice_index_or roster seat no_entry).seed (next_in c row) (top seat) here
      (λ r next e at got is. row_kept roster (floors_in c) (slice_index_or roster seat no_entry).seed (next_in c seat) r next e at got is))

  row_front : (xs ys : List RowRecord) (t : ℕ) → t < length xs → row_at (xs ++ ys) t ≡ row_at xs t
  row_front [] ys t inside = absurd (omega (arith, inside))
  row_front (x ∷ xs) ys zero inside = refl
  row_front (x ∷ xs) ys (suc t) inside = row_front xs ys t (omega (arith, inside))

  pub are_greatest : (seats floors : List ℕ) → AreGreatest roster seats (with_floors floors (with_puts c (rises roster seats c)))
  are_greatest seats floors i seat row own other at at_own at_other same =
      let d : Content = with_puts c (rises roster seats c) in
      let here = slice_get_within roster seat own at_own in
      let there = slice_get_within roster row other at_other in
      let whole = (all_between seats seat c at_first).0 in
      let more = map opening_row floors in
      let seat_is = ap (λ (r : RowRecord). r.next) (row_front d.rows more seat (omega (arith, here, whole.long))) in
      let row_is = ap (λ (r : RowRecord). r.next) (row_front d.rows more row (omega (arith, there, whole.long))) in
      let reaches = reached seats i seat c at here at_first in
      let below = whole.high row there in
      let tops = top_below row seat own other at_own at_other same in
      omega (arith, seat_is, row_is, reaches, below, tops)

-- The rows of a users file that an opening by names leaves have the greatest floors of their devices.
use Rattle.std.proofs.Common.{◌≡◌, ◌≤◌, ◌<◌, ℕ, zero, suc, ◌+◌, Bool, true, false, cond, not, ◌&&◌, nat_lt, List, [], ◌∷◌, ◌++◌, length, map, slice_index_or, Option, Some, None, inl, inr, refl, sym, ap, subst, ◌∙◌, ⊎_elim, arith}
use Rattle.std.specs.Prelude.{slice_get}
use Rattle.std.specs.List.{cons_option}
use Rattle.std.specs.Option.{option_map}
use Rattle.std.specs.Str.{bytes_eq}
use Rattle.std.proofs.lemmas.Bool.{cases_lt, cases_order, ltb-true}
use Rattle.std.proofs.lemmas.List.{get_or-set_same, get_or-set_other}
use Rattle.std.proofs.lemmas.Option.{get_or_from_slice_get, none-some, same_Some, slice_get-get_or, slice_get-map, slice_get_within}
use Rattle.std.proofs.lemmas.Slice.Eq.{bytes_eq-Decides}
use Rattle.floor_store.specs.Content.{Content, opening_row, with_row}
use Rattle.floor_store.specs.Records.{RowRecord}
use Rattle.floor_sql.specs.Staged.{with_puts}
use Rattle.floor_sql.specs.declared.put.Put.{Put}
use Rattle.floor_sql.proofs.ContentLemmas.{length_set}
use Rattle.roster_sql.specs.declared.entry.Entry.{Entry}
use Rattle.seated_store.specs.Seats.{row_at}
use Rattle.named_store.specs.Floors.{no_entry, raised_floor, seeded_floor}
use Rattle.named_store.specs.Opened.{floors_in, new_floors, rises, with_new}
use Rattle.named_store.specs.Opened as named
use Rattle.named_store.specs.Seating.{AreSeatsOf, has_name, name_at, new_entries, new_from, new_places, rows_after}
use Rattle.named_store.proofs.FloorLemmas.{row_kept}
use Rattle.vote_core.specs.Rows.{row}
use Rattle.seat_law.specs.Seats.{seat_name}
use Rattle.seat_law.proofs.Relation.{number_there, option_cases}
use Rattle.book_law.specs.Lives.{Enrols, Raises, Setting, Store, floor_in_row, floor_of, row_of, store_under}
use Rattle.book_law.specs.Seeds.{AreGreatest, HaveSeedsOnce, UsesGreatest}
use Rattle.book_law.specs.Uses.{Serves, ServesInParts, StoreUse, Writes, store_after, written_store}
use Rattle.name_law.specs.Datagrams.{AreNames}
use Rattle.served_law.specs.Devices.{HaveOneSeed}
use Rattle.served_law.specs.Enrolled.{enrolments, opening_uses, raises}
use Rattle.served_law.specs.Seated.{AreKnown, row_names, store_by_names, token_of, tokens_of}
use Rattle.served_law.proofs.Rows.{AreApart}
use Rattle.served_law.proofs.Seated.{known_names, once, row_name}
use Rattle.served_law.proofs.Tokens.{token_place}

-- ---- elements of lists

record IsMapped {A B : Type 0} (f : A → B) (xs : List A) (i : ℕ) (y : B) : Type 0 where
  of : A
  at : slice_get xs i ≡ Some of
  is : f of ≡ y

mapped : {A B : Type 0} (f : A → B) (xs : List A) (i : ℕ) (y : B) → slice_get (map f xs) i ≡ Some y → IsMapped f xs i y
mapped f [] i y at = absurd (none-some y at)
mapped f (x ∷ xs) zero y at = record { of = x; at = refl; is = same_Some (f x) y at }
mapped f (x ∷ xs) (suc i) y at = let it = mapped f xs i y at in record { of = it.of; at = it.at; is = it.is }

map_at : {A B : Type 0} (f : A → B) (xs : List A) (i : ℕ) (x : A) → slice_get xs i ≡ Some x → slice_get (map f xs) i ≡ Some (f x)
map_at f xs i x at = slice_get-map f xs i ∙ ap (option_map f) at

get_front : (xs ys : List Entry) (i : ℕ) (x : Entry) → i < length xs → slice_get (xs ++ ys) i ≡ Some x → slice_get xs i ≡ Some x
get_front [] ys i x low at = absurd (omega (arith, low))
get_front (y ∷ xs) ys zero x low at = at
get_front (y ∷ xs) ys (suc i) x low at = get_front xs ys i x (omega (arith, low)) at

record IsBehind (xs ys : List Entry) (i : ℕ) (x : Entry) : Type 0 where
  place : ℕ
  at : slice_get ys place ≡ Some x
  is : i ≡ length xs + place

get_behind : (xs ys : List Entry) (i : ℕ) (x : Entry) → length xs ≤ i → slice_get (xs ++ ys) i ≡ Some x → IsBehind xs ys i x
get_behind [] ys i x high at = record { place = i; at = at; is = omega arith }
get_behind (y ∷ xs) ys zero x high at = absurd (omega (arith, high))
get_behind (y ∷ xs) ys (suc i) x high at =
    let it = get_behind xs ys i x (omega (arith, high)) at in
    record { place = it.place; at = it.at; is = (let e = it.is in omega (arith, e)) }

row_front : (xs ys : List RowRecord) (t : ℕ) → t < length xs → row_at (xs ++ ys) t ≡ row_at xs t
row_front [] ys t inside = absurd (omega (arith, inside))
row_front (x ∷ xs) ys zero inside = refl
row_front (x ∷ xs) ys (suc t) inside = row_front xs ys t (omega (arith, inside))

row_behind : (xs : List RowRecord) (floors : List ℕ) (k floor : ℕ) → slice_get floors k ≡ Some floor → row_at (xs ++ map opening_row floors) (length xs + k) ≡ opening_row floor
row_behind [] floors k floor at =
    let start : 0 + k ≡ k = omega arith in
    ap (row_at (map opening_row floors)) start ∙ get_or_from_slice_get (map opening_row floors) k (opening_row floor) (opening_row 0) (map_at opening_row floors k floor at)
row_behind (x ∷ xs) floors k floor at =
    let next : suc (length xs) + k ≡ suc (length xs + k) = omega arith in
    ap (row_at (x ∷ (xs ++ map opening_row floors))) next ∙ row_behind xs floors k floor at

named_entry : (rows : List Entry) (seat : ℕ) (name : List ℕ) → name_at rows seat ≡ Some name → IsMapped (λ (e : Entry). e.name) rows seat name
named_entry rows seat name at = mapped (λ (e : Entry). e.name) rows seat name (slice_get-map (λ (e : Entry). e.name) rows seat ∙ at)

-- ---- the places of new entries

record IsNewAt (n : ℕ) (places : List ℕ) (entries : List Entry) (k : ℕ) (x : Entry) : Type 0 where
  place : ℕ
  at : slice_get places k ≡ Some (n + place)
  there : slice_get entries place ≡ Some x

new_there : (roster entries : List Entry) (n k : ℕ) (x : Entry) → slice_get (new_entries roster entries) k ≡ Some x → IsNewAt n (new_from n roster entries) entries k x
new_there roster [] n k x at = absurd (none-some x at)
new_there roster (e ∷ entries) n k x at = go (has_name roster e.name) k at (λ j got. new_there roster entries (n + 1) j x got)
  where
    go : (b : Bool) (k : ℕ) → slice_get (cond (not b) (e ∷ new_entries roster entries) (new_entries roster entries)) k ≡ Some x
        → ((j : ℕ) → slice_get (new_entries roster entries) j ≡ Some x → IsNewAt (n + 1) (new_from (n + 1) roster entries) entries j x)
        → IsNewAt n (cond b (new_from (n + 1) roster entries) (n ∷ new_from (n + 1) roster entries)) (e ∷ entries) k x
    go true k got more =
        let it = more k got in
        let next : n + 1 + it.place ≡ n + suc it.place = omega arith in
        record { place = suc it.place; at = it.at ∙ ap (λ m. Some m) next; there = it.there }
    go false zero got more = let same : n ≡ n + 0 = omega arith in record { place = 0; at = ap (λ m. Some m) same; there = got }
    go false (suc k) got more =
        let it = more k got in
        let next : n + 1 + it.place ≡ n + suc it.place = omega arith in
        record { place = suc it.place; at = it.at ∙ ap (λ m. Some m) next; there = it.there }

-- ---- rows of a seed

raised_below : (roster : List Entry) (held seed : List ℕ) (floor bound : ℕ) → floor ≤ bound
    → ((row next : ℕ) (e : Entry) → slice_get roster row ≡ Some e → slice_get held row ≡ Some next → e.seed ≡ seed → next ≤ bound)
    → raised_floor roster held seed floor ≤ bound
raised_below [] held seed floor bound low each = low
raised_below (x ∷ roster) [] seed floor bound low each = low
raised_below (x ∷ roster) (h ∷ held) seed floor bound low each =
    raised_below roster held seed (cond (bytes_eq x.seed seed && nat_lt floor h) h floor) bound (step (bytes_eq x.seed seed) (nat_lt floor h) refl)
    (λ row next e at got same. each (suc row) next e at got same)
  where
    step : (t u : Bool) → bytes_eq x.seed seed ≡ t → cond (t && u) h floor ≤ bound
    step true true is = each 0 h x refl refl ((bytes_eq-Decides x.seed seed).0 is)
    step true false is = low
    step false u is = low

floor_at : (rows : List RowRecord) (t : ℕ) → t < length rows → slice_get (map (λ r. r.next) rows) t ≡ Some (row_at rows t).next
floor_at [] t inside = absurd (omega (arith, inside))
floor_at (r ∷ rows) zero inside = refl
floor_at (r ∷ rows) (suc t) inside = floor_at rows t (omega (arith, inside))

-- the rows of a seed stay at or below a floor that all of them are at or below
module _ (roster : List Entry) (c : Content) (counted : length c.rows ≡ length roster) (seed : List ℕ) (bound : ℕ)
    (each : (t next : ℕ) (e : Entry) → slice_get roster t ≡ Some e → slice_get (floors_in c) t ≡ Some next → e.seed ≡ seed → next ≤ bound) where
  record IsBounded (d : Content) : Type 0 where
    long : length d.rows ≡ length roster
    low : (t : ℕ) (e : Entry) → slice_get roster t ≡ Some e → e.seed ≡ seed → (row_at d.rows t).next ≤ bound

  abbrev top : ℕ → ℕ
  top t = raised_floor roster (floors_in c) (slice_index_or roster t no_entry).seed (row_at c.rows t).next

  abbrev raised_row : ℕ → RowRecord
  raised_row t = record (row_at c.rows t) { next = top t }

  first_low : (t : ℕ) (e : Entry) → slice_get roster t ≡ Some e → e.seed ≡ seed → (row_at c.rows t).next ≤ bound
  first_low t e at is =
      let inside = slice_get_within roster t e at in each t (row_at c.rows t).next e at (floor_at c.rows t (omega (arith, inside, counted))) is

  top_low : (t : ℕ) (e : Entry) → slice_get roster t ≡ Some e → e.seed ≡ seed → top t ≤ bound
  top_low t e at is =
      let own : (slice_index_or roster t no_entry).seed ≡ seed = ap (λ (x : Entry). x.seed) (get_or_from_slice_get roster t e no_entry at) ∙ is in
      raised_below roster (floors_in c) (slice_index_or roster t no_entry).seed (row_at c.rows t).next bound (first_low t e at is)
      (λ r next x there got same. each r next x there got (same ∙ own))

  bounded_put : (d : Content) (t : ℕ) → t < length roster → IsBounded d → IsBounded (with_row d t (raised_row t) None)
  bounded_put d t inside it = record {
    long = length_set d.rows t (raised_row t) ∙ it.long;
    low = λ u e at is.
        let other : (u ≡ t → ⊥) → (row_at (with_row d t (raised_row t) None).rows u).next ≤ bound =
        (λ apart. let same = ap (λ (r : RowRecord). r.next) (get_or-set_other d.rows t u (raised_row t) (opening_row 0) apart) in let low = it.low u e at is in omega (arith, same, low)) in
        elim (cases_order u t) [
          | inl same ↦
              (let put = ap (λ (r : RowRecord). r.next) (get_or-set_same d.rows t (raised_row t) (opening_row 0) (omega (arith, inside, it.long))) in
              let low = top_low t e (subst (λ (x : ℕ). slice_get roster x ≡ Some e) same at) is in
              subst (λ (x : ℕ). (row_at (with_row d t (raised_row t) None).rows x).next ≤ bound) (sym same) (omega (arith, put, low)))
          | inr (inl less) ↦ other (λ e. omega (arith, less, e))
          | inr (inr more) ↦ other (λ e. omega (arith, more, e))
        ];
  }

  bounded : (seats : List ℕ) (d : Content) → IsBounded d → IsBounded (with_puts d (rises roster seats c))
  bounded [] d it = it
  bounded (t ∷ seats) d it = go (bounded seats) (nat_lt t (length roster)) (nat_lt (row_at c.rows t).next (top t)) refl
    where
      go : ((e : Content) → IsBounded e → IsBounded (with_puts e (rises roster seats c))) → (a b : Bool) → nat_lt t (length roster) ≡ a
          → IsBounded (with_puts d (cons_option (cond a (cond b (Some (record { token = t; row = raised_row t; pass = None })) None) None) (rises roster seats c)))
      go more true true is = more (with_row d t (raised_row t) None) (bounded_put d t (ltb-true t (length roster) is) it)
      go more true false is = more d it
      go more false b is = more d it

  all_bounded : (seats : List ℕ) → IsBounded (with_puts c (rises roster seats c))
  all_bounded seats = bounded seats c (record { long = counted; low = first_low })

-- ---- the opened store

module _ (seed : ℕ → ℕ) (names : List (List ℕ)) (roster entries : List Entry) (c : Content) (seats floors : List ℕ)
    (are : AreNames names) (known : AreKnown names (rows_after roster entries)) (apart : AreApart (rows_after roster entries)) (counted : length c.rows ≡ length roster)
    (seated : AreSeatsOf roster entries seats) (greatest : named.AreGreatest roster seats (with_new roster entries floors seats c))
    (seeds : HaveOneSeed seed names (rows_after roster entries)) where
  abbrev rows : List Entry
  rows = rows_after roster entries

  abbrev all : Content
  all = with_new roster entries floors seats c

  abbrev found : Store
  found = store_by_names names rows all

  -- a seated row is at or above each row that was there and has its seed
  seat_above : (i s r : ℕ) (own other : Entry) → slice_get seats i ≡ Some s → slice_get rows s ≡ Some own → slice_get rows r ≡ Some other → r < length roster
      → other.seed ≡ own.seed → (row all r).next ≤ (row all s).next
  seat_above i s r own other at at_own at_other low same =
      elim (cases_lt s (length roster)) [
        | inl inside ↦ greatest i s r own other at (get_front roster (new_entries roster entries) s own inside at_own) former same
        | inr past ↦ new_above (get_behind roster (new_entries roster entries) s own past at_own)
      ]
    where
      former : slice_get roster r ≡ Some other
      former = get_front roster (new_entries roster entries) r other low at_other

      new_above : IsBehind roster (new_entries roster entries) s own → (row all r).next ≤ (row all s).next
      new_above behind =
          let place = new_there roster entries 0 behind.place own behind.at in
          let from_first : 0 + place.place ≡ place.place = omega arith in
          let start : ℕ = slice_index_or floors place.place 0 in
          let floor : ℕ = seeded_floor roster (floors_in c) entries floors place.place in
          let own_seed : (slice_index_or entries place.place no_entry).seed ≡ own.seed = ap (λ (x : Entry). x.seed) (get_or_from_slice_get entries place.place own no_entry place.there) in
          let it = all_bounded roster c counted own.seed floor
          (λ t next e at got is. row_kept roster (floors_in c) (slice_index_or entries place.place no_entry).seed start t next e at got (is ∙ sym own_seed)) seats in
          let put : Content = with_puts c (rises roster seats c) in
          let low = it.low r other former same in
          let other_is = ap (λ (x : RowRecord). x.next) (row_front put.rows (map opening_row (new_floors roster entries floors c)) r (omega (arith, low_row, it.long))) in
          let floor_is = map_at (seeded_floor roster (floors_in c) entries floors) (new_places roster entries) behind.place place.place (place.at ∙ ap (λ n. Some n) from_first) in
          let seat_is : s ≡ length put.rows + behind.place = (let e = behind.is in omega (arith, e, it.long)) in
          let own_is = ap (λ (x : RowRecord). x.next) (ap (row_at all.rows) seat_is ∙ row_behind put.rows (new_floors roster entries floors c) behind.place floor floor_is) in
          omega (arith, low, other_is, own_is)
        where
          low_row : r < length roster
          low_row = low

  -- a seat of a token, and the row there
  record IsSeat (i token : ℕ) : Type 0 where
    entry : Entry
    there : slice_get entries i ≡ Some entry
    is : token_of names entry.name ≡ token
    seat : ℕ
    at : slice_get seats i ≡ Some seat
    own : Entry
    at_own : slice_get rows seat ≡ Some own
    named : own.name ≡ entry.name
    row : row_of found token ≡ Some seat

  is_seat : (i token : ℕ) → slice_get (tokens_of names (row_names entries)) i ≡ Some token → IsSeat i token
  is_seat i token at =
      let name = mapped (token_of names) (row_names entries) i token at in
      let entry = mapped (λ (e : Entry). e.name) entries i name.of name.at in
      let is : token_of names entry.of.name ≡ token = ap (token_of names) entry.is ∙ name.is in
      let both : slice_get (map (name_at rows) seats) i ≡ Some (Some entry.of.name) =
      ap (λ (l : List (Option (List ℕ))). slice_get l i) seated.named ∙ map_at (λ (e : Entry). Some e.name) entries i entry.of entry.at in
      let seat = mapped (name_at rows) seats i (Some entry.of.name) both in
      let own = named_entry rows seat.of entry.of.name seat.is in
      record {
        entry = entry.of;
        there = entry.at;
        is = is;
        seat = seat.of;
        at = seat.at;
        own = own.of;
        at_own = own.at;
        named = own.is;
        row = ap (row_of found) (sym is)
            ∙ token_place names (row_names rows) seat.of entry.of.name are (known_names names rows known) (once rows apart) (row_name rows seat.of ∙ seat.is);
      }

  -- the row of a token that has one
  record IsRow (token r : ℕ) : Type 0 where
    own : Entry
    at : slice_get rows r ≡ Some own
    is : token_of names own.name ≡ token

  is_row : (token r : ℕ) → row_of found token ≡ Some r → IsRow token r
  is_row token r has =
      let tokens : List ℕ = tokens_of names (row_names rows) in
      let k = number_there (length tokens) (seat_name tokens) token r has in
      let name = mapped (token_of names) (row_names rows) r (seat_name tokens r) (slice_get-get_or tokens r 0 k.0) in
      let own = mapped (λ (e : Entry). e.name) rows r name.of name.at in
      record { own = own.of; at = own.at; is = ap (token_of names) own.is ∙ name.is ∙ k.1 }

  pub opened_greatest : HaveSeedsOnce seed (tokens_of names (row_names entries)) → AreGreatest seed (tokens_of names (row_names entries)) found
  opened_greatest seeds_once i token other at same =
      let seat = is_seat i token at in
      let own_floor : floor_of found token ≡ (row all seat.seat).next = ap (floor_in_row all) seat.row in
      ⊎_elim
      (λ (none : row_of found other ≡ None). let e : floor_of found other ≡ 0 = ap (floor_in_row all) none in omega (arith, e))
      (λ (some : (r : ℕ) × (row_of found other ≡ Some r)).
      let its = is_row other some.0 some.1 in
      let floor : floor_of found other ≡ (row all some.0).next = ap (floor_in_row all) some.1 in
      elim (cases_lt some.0 (length roster)) [
        | inl low ↦
            (let tokens : seed (token_of names its.own.name) ≡ seed (token_of names seat.own.name) =
            ap seed its.is ∙ same ∙ ap seed (sym (ap (token_of names) seat.named ∙ seat.is)) in
            let above = seat_above i seat.seat some.0 seat.own its.own seat.at seat.at_own its.at low (seeds some.0 seat.seat its.own seat.own its.at seat.at_own tokens) in
            omega (arith, above, own_floor, floor))
        | inr past ↦
            (let behind = get_behind roster (new_entries roster entries) some.0 its.own past its.at in
            let place = new_there roster entries 0 behind.place its.own behind.at in
            let also : slice_get (tokens_of names (row_names entries)) place.place ≡ Some other =
            map_at (token_of names) (row_names entries) place.place its.own.name (map_at (λ (e : Entry). e.name) entries place.place its.own place.there)
            ∙ ap (λ n. Some n) its.is in
            let e : i ≡ place.place = seeds_once i place.place token other at also (sym same) in
            let one : token ≡ other = same_Some token other (sym at ∙ ap (slice_get (tokens_of names (row_names entries))) e ∙ also) in
            let floors_are = ap (floor_of found) one in
            omega (arith, floors_are))
      ])
      (option_cases (row_of found other))

-- ---- uses that keep the rule of openings

pub greatest_append : (seed : ℕ → ℕ) (setting : Setting) (first rest : List StoreUse) (store : Store) → UsesGreatest seed setting store first
    → UsesGreatest seed setting (store_after setting first store) rest → UsesGreatest seed setting store (first ++ rest)
greatest_append seed setting [] rest store one other = other
greatest_append seed setting (Serves terms port taken entries left ∷ first) rest store one other =
    (one.0, one.1, greatest_append seed setting first rest (store_under terms.seats left store) one.2 other)
greatest_append seed setting (ServesInParts terms port parts left ∷ first) rest store one other =
    (one.0, one.1, greatest_append seed setting first rest (store_under terms.seats left store) one.2 other)
greatest_append seed setting (Writes action ∷ first) rest store one other = greatest_append seed setting first rest (written_store setting action store) one other

raises_greatest : (seed : ℕ → ℕ) (setting : Setting) (node : ℕ) (names : List (List ℕ)) (former : List Entry) (puts : List Put) (store : Store)
    → UsesGreatest seed setting store (raises node names former puts)
raises_greatest seed setting node names former [] store = tt
raises_greatest seed setting node names former (put ∷ puts) store =
    raises_greatest seed setting node names former puts
    (written_store setting (Raises node (token_of names (slice_index_or former put.token no_entry).name) put.row.next) store)

enrolments_greatest : (seed : ℕ → ℕ) (setting : Setting) (node : ℕ) (names : List (List ℕ)) (new : List Entry) (floors : List ℕ) (store : Store)
    → UsesGreatest seed setting store (enrolments node names new floors)
enrolments_greatest seed setting node names [] floors store = tt
enrolments_greatest seed setting node names (e ∷ new) [] store = tt
enrolments_greatest seed setting node names (e ∷ new) (floor ∷ floors) store =
    enrolments_greatest seed setting node names new floors (written_store setting (Enrols node (token_of names e.name) floor) store)

-- an opening has no process
pub opening_greatest : (seed : ℕ → ℕ) (setting : Setting) (node : ℕ) (names : List (List ℕ)) (former : List Entry) (puts : List Put) (new : List Entry) (floors : List ℕ) (store : Store)
    → UsesGreatest seed setting store (opening_uses node names former puts new floors)
opening_greatest seed setting node names former puts new floors store =
    greatest_append seed setting (raises node names former puts) (enrolments node names new floors) store (raises_greatest seed setting node names former puts store)
    (enrolments_greatest seed setting node names new floors (store_after setting (raises node names former puts) store))

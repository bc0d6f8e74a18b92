-- What a process sees of a store, put back under it, is the store that the process left.
use Rattle.std.proofs.Common.{◌≡◌, ℕ, zero, suc, ◌+◌, ◌<◌, eqb, ltb, true, List, [], ◌∷◌, length, map, Option, Some, None, refl, sym, ap, ◌∙◌, subst, arith, get_or, set}
use Rattle.std.specs.Prelude.{option_map}
use Rattle.std.specs.List.{list_all, position_or_len, slice_get}
use Rattle.std.specs.Option.{option_and_then, option_or}
use Rattle.std.proofs.lemmas.Bool.{and_parts, cond_both, eqb-true, ltb-true, false≢true}
use Rattle.std.proofs.lemmas.List.{get_or-set_other, get_or-set_same, length-set, set-get_or, set-set, set_comm}
use Rattle.std.proofs.lemmas.List.Sums.{passes_at_first}
use Rattle.std.proofs.lemmas.Option.{get_or_from_slice_get, none-some, same_Some, slice_get-get_or, slice_get-map, slice_get_within}
use Rattle.floor_store.specs.Content.{Content, opening_row, with_next_boot}
use Rattle.floor_store.specs.Records.{PassRecord, RowRecord}
use Rattle.seated_store.specs.Seats.{AreSeats, pass_above, pass_below, row_at, seated_content, seated_rows, token_of, with_token}
use Rattle.seated_store.proofs.SeatLemmas.{no_seat, pass_seen}
use Rattle.vote_core.specs.Books.{are_apart, is_number}
use Rattle.seat_law.specs.Seats.{seat_name}
use Rattle.seat_law.proofs.Relation.{number_there}
use Rattle.seat_law.proofs.Stores.{names_apart}
use Rattle.book_law.specs.Lives.{Store, content_under, has_row, places_of, row_of, row_or_first, rows_under}

-- ---- rows

pub rows_size : (places : List ℕ) (seen below : List RowRecord) → length (rows_under places seen below) ≡ length below
rows_size [] seen below = refl
rows_size (p ∷ places) [] below = refl
rows_size (p ∷ places) (x ∷ seen) below = length-set (rows_under places seen below) p x ∙ rows_size places seen below

-- a row that is not seen stays
pub row_off : (places : List ℕ) (seen below : List RowRecord) (k : ℕ) (d : RowRecord) → ((m : ℕ) → slice_get places m ≡ Some k → ⊥) → get_or (rows_under places seen below) k d ≡ get_or below k d
row_off [] seen below k d h = refl
row_off (p ∷ places) [] below k d h = refl
row_off (p ∷ places) (x ∷ seen) below k d h =
    get_or-set_other (rows_under places seen below) p k x d (λ same. h 0 (ap Some (sym same))) ∙ row_off places seen below k d (λ m at. h (suc m) at)

abbrev pub Apart : List ℕ → Type 0
Apart places = (i j k : ℕ) → slice_get places i ≡ Some k → slice_get places j ≡ Some k → i ≡ j

rest_apart : (p : ℕ) (places : List ℕ) → Apart (p ∷ places) → Apart places
rest_apart p places h i j k at there = let e = h (suc i) (suc j) k at there in omega (arith, e)

pub map_same : (f g : ℕ → RowRecord) (places : List ℕ) → ((m k : ℕ) → slice_get places m ≡ Some k → f k ≡ g k) → map f places ≡ map g places
map_same f g [] h = refl
map_same f g (p ∷ places) h = ap (λ y. y ∷ map f places) (h 0 p refl) ∙ ap (λ l. g p ∷ l) (map_same f g places (λ m k at. h (suc m) k at))

-- the rows that are put back are seen
pub rows_seen : (places : List ℕ) (seen below : List RowRecord) → Apart places → ((m k : ℕ) → slice_get places m ≡ Some k → k < length below) → length seen ≡ length places
    → seated_rows places (rows_under places seen below) ≡ seen
rows_seen [] [] below apart within same = refl
rows_seen [] (x ∷ seen) below apart within same = absurd (omega (arith, same))
rows_seen (p ∷ places) [] below apart within same = absurd (omega (arith, same))
rows_seen (p ∷ places) (x ∷ seen) below apart within same =
    let rest = rows_under places seen below in
    let size = rows_size places seen below in
    let low = within 0 p refl in
    ap (λ y. y ∷ map (row_at (set rest p x)) places) (get_or-set_same rest p x (opening_row 0) (omega (arith, low, size)))
    ∙ ap (λ l. x ∷ l)
    (map_same (row_at (set rest p x)) (row_at rest) places
    (λ m k at. get_or-set_other rest p k x (opening_row 0) (λ e. let z = apart 0 (suc m) p refl (at ∙ ap Some e) in omega (arith, z)))
    ∙ rows_seen places seen below (rest_apart p places apart) (λ m k at. within (suc m) k at) (omega (arith, same)))

-- a seen row that is written is written at its place
pub rows_put : (places : List ℕ) (seen below : List RowRecord) (m : ℕ) (y : RowRecord) → Apart places → m < length places → length seen ≡ length places
    → rows_under places (set seen m y) below ≡ set (rows_under places seen below) (get_or places m 0) y
rows_put [] seen below m y apart lt same = absurd (omega (arith, lt))
rows_put (p ∷ places) [] below m y apart lt same = absurd (omega (arith, same))
rows_put (p ∷ places) (x ∷ seen) below zero y apart lt same = sym (set-set (rows_under places seen below) p x y)
rows_put (p ∷ places) (x ∷ seen) below (suc m) y apart lt same =
    let rest = rows_under places seen below in
    let k = get_or places m 0 in
    let low : m < length places = omega (arith, lt) in
    let there = slice_get-get_or places m 0 low in
    ap (λ l. set l p x) (rows_put places seen below m y (rest_apart p places apart) low (omega (arith, same)))
    ∙ set_comm rest k p y x (λ e. let z = apart 0 (suc m) p refl (there ∙ ap Some e) in omega (arith, z))

-- the rows that are seen, put back, change nothing
rows_back : (places : List ℕ) (below : List RowRecord) → rows_under places (seated_rows places below) below ≡ below
rows_back [] below = refl
rows_back (p ∷ places) below = ap (λ l. set l p (row_at below p)) (rows_back places below) ∙ set-get_or below p (opening_row 0)

-- ---- passes

-- the place of a row that is seen
pub place_at : (places : List ℕ) (k m : ℕ) → token_of places k ≡ Some m → slice_get places m ≡ Some k
place_at places k m is =
    let place = position_or_len (λ other. eqb other k) places in
    cond_both (ltb place (length places)) (Some place) None (λ o. o ≡ Some m → slice_get places m ≡ Some k)
    (λ q e.
    let lt = ltb-true place (length places) q in
    let same = same_Some place m e in
    subst (λ z. slice_get places z ≡ Some k) same
    (slice_get-get_or places place 0 lt ∙ ap Some (eqb-true (get_or places place 0) k (passes_at_first (λ other. eqb other k) places 0 lt))))
    (λ _ e. absurd (none-some m e)) is

pass_put : (rows : ℕ) (places : List ℕ) (p : PassRecord) (below : Option PassRecord) (o : Option PassRecord) → AreSeats rows places → pass_below places p ≡ o → p.token < length places
    → option_and_then (pass_above places) (option_or o below) ≡ Some p
pass_put rows places p below None are is low = absurd (no_seat places p is low)
pass_put rows places p below (Some z) are is low = pass_seen rows places p z are is

last_seen : (rows : ℕ) (places : List ℕ) (seen below : Option PassRecord) → AreSeats rows places → ((z : PassRecord) → seen ≡ Some z → z.token < length places)
    → (seen ≡ None → option_and_then (pass_above places) below ≡ None)
    → option_and_then (pass_above places) (option_or (option_and_then (pass_below places) seen) below) ≡ seen
last_seen rows places None below are known none = none refl
last_seen rows places (Some p) below are known none = pass_put rows places p below (pass_below places p) are refl (known p refl)

pass_back : (places : List ℕ) (p : PassRecord) (o : Option ℕ) → token_of places p.token ≡ o
    → option_or (option_and_then (pass_below places) (option_map (with_token p) o)) (Some p) ≡ Some p
pass_back places p None is = refl
pass_back places p (Some m) is = ap (λ s. option_or (option_map (with_token (with_token p m)) s) (Some p)) (place_at places p.token m is)

last_back : (places : List ℕ) (o : Option PassRecord) → option_or (option_and_then (pass_below places) (option_and_then (pass_above places) o)) o ≡ o
last_back places None = refl
last_back places (Some p) = pass_back places p (token_of places p.token) refl

-- ---- contents

pub seen_under : (places : List ℕ) (seen below : Content) → AreSeats (length below.rows) places → length seen.rows ≡ length places → ((z : PassRecord) → seen.last ≡ Some z → z.token < length places)
    → (seen.last ≡ None → option_and_then (pass_above places) below.last ≡ None)
    → seated_content places (content_under places seen below) ≡ seen
seen_under places seen below are same known none =
    ap (λ (rs : List RowRecord). record { rows = rs; boot = seen.boot; last = option_and_then (pass_above places) (content_under places seen below).last })
    (rows_seen places seen.rows below.rows are.apart are.within same)
    ∙ ap (λ (l : Option PassRecord). record { rows = seen.rows; boot = seen.boot; last = l }) (last_seen (length below.rows) places seen.last below.last are known none)

-- a process that opened the store has changed nothing but the boot
pub opened_under : (places : List ℕ) (c : Content) → content_under places (with_next_boot (seated_content places c)) c ≡ with_next_boot c
opened_under places c =
    ap (λ (rs : List RowRecord). record { rows = rs; boot = c.boot + 1; last = (content_under places (seated_content places c) c).last }) (rows_back places c.rows)
    ∙ ap (λ (l : Option PassRecord). record { rows = c.rows; boot = c.boot + 1; last = l }) (last_back places c.last)

-- ---- the places of seats

-- the row of a token that has one
pub placed : (store : Store) (t : ℕ) → has_row store t ≡ true → (row_or_first (row_of store t) < length store.names) × (seat_name store.names (row_or_first (row_of store t)) ≡ t)
placed store t has = at (row_of store t) refl has
  where
    at : (o : Option ℕ) → row_of store t ≡ o → is_number o ≡ true → (row_or_first o < length store.names) × (seat_name store.names (row_or_first o) ≡ t)
    at None is h = absurd (false≢true h)
    at (Some k) is h = number_there (length store.names) (seat_name store.names) t k is

each_placed : (store : Store) (seats : List ℕ) → list_all (has_row store) seats ≡ true → (i t : ℕ) → slice_get seats i ≡ Some t → has_row store t ≡ true
each_placed store [] all i t at = absurd (none-some t at)
each_placed store (x ∷ seats) all zero t at = subst (λ z. has_row store z ≡ true) (same_Some x t at) (and_parts (has_row store x) (list_all (has_row store) seats) all).0
each_placed store (x ∷ seats) all (suc i) t at = each_placed store seats (and_parts (has_row store x) (list_all (has_row store) seats) all).1 i t at

-- an element of a mapped list
mapped : (f : ℕ → ℕ) (xs : List ℕ) (i y : ℕ) → slice_get (map f xs) i ≡ Some y → (x : ℕ) × (slice_get xs i ≡ Some x) × (f x ≡ y)
mapped f xs i y at = one (slice_get xs i) refl (sym (slice_get-map f xs i) ∙ at)
  where
    one : (o : Option ℕ) → slice_get xs i ≡ o → option_map f o ≡ Some y → (x : ℕ) × (slice_get xs i ≡ Some x) × (f x ≡ y)
    one None is e = absurd (none-some y e)
    one (Some x) is e = (x, is, same_Some (f x) y e)

module _ (store : Store) (seats : List ℕ) (all : list_all (has_row store) seats ≡ true) where
  place : ℕ → ℕ
  place t = row_or_first (row_of store t)

  pub named_places : map (seat_name store.names) (places_of store seats) ≡ seats
  named_places = each seats (λ i t at. (placed store t (each_placed store seats all i t at)).1)
    where
      each : (xs : List ℕ) → ((i t : ℕ) → slice_get xs i ≡ Some t → seat_name store.names (row_or_first (row_of store t)) ≡ t) → map (seat_name store.names) (places_of store xs) ≡ xs
      each [] h = refl
      each (x ∷ xs) h = ap (λ y. y ∷ map (seat_name store.names) (places_of store xs)) (h 0 x refl) ∙ ap (λ l. x ∷ l) (each xs (λ i t at. h (suc i) t at))

  pub are_places : are_apart (length seats) (seat_name seats) ≡ true → AreSeats (length store.names) (places_of store seats)
  are_places apart = record {
    within = λ i k at.
        let m = mapped (λ t. row_or_first (row_of store t)) seats i k at in
        subst (λ z. z < length store.names) m.2 (placed store m.0 (each_placed store seats all i m.0 m.1)).0;
    apart = λ i j k at there.
        let m = mapped (λ t. row_or_first (row_of store t)) seats i k at in
        let l = mapped (λ t. row_or_first (row_of store t)) seats j k there in
        let same : m.0 ≡ l.0 =
        sym (placed store m.0 (each_placed store seats all i m.0 m.1)).1 ∙ ap (seat_name store.names) (m.2 ∙ sym l.2) ∙ (placed store l.0 (each_placed store seats all j l.0 l.1)).1 in
        names_apart (length seats) (seat_name seats) i j apart (slice_get_within seats i m.0 m.1) (slice_get_within seats j l.0 l.1)
        (get_or_from_slice_get seats i m.0 0 m.1 ∙ same ∙ sym (get_or_from_slice_get seats j l.0 0 l.1));
  }

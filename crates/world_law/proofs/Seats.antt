-- A store whose rows are the tokens in order, and what a process with those seats sees of it.
use Rattle.std.proofs.Common.{◌≡◌, ℕ, zero, suc, ◌+◌, ◌<◌, ◌≤◌, inl, inr, ⊎_elim, Bool, true, false, not, ◌&&◌, List, [], ◌∷◌, ◌++◌, length, get_or, map, Option, Some, None, refl, sym, ap, ◌∙◌, subst, arith, eqb}
use Rattle.std.specs.Prelude.{option_map}
use Rattle.std.specs.List.{list_all, range_with_len}
use Rattle.std.specs.Option.{option_and_then}
use Rattle.std.proofs.lemmas.Bool.{cases_lt, eq-eqb}
use Rattle.std.proofs.lemmas.List.{get_or_past, length-map}
use Rattle.std.proofs.lemmas.List.FromFn.{get_or-range_with_len, length-range_with_len}
use Rattle.std.proofs.lemmas.Option.{none-some, same_Some, slice_get_within}
use Rattle.floor_store.specs.Content.{Content, opening_row}
use Rattle.floor_store.specs.Records.{PassRecord, RowRecord}
use Rattle.seated_store.specs.Places.{own_seats}
use Rattle.seated_store.specs.Seats.{AreSeats, pass_above, seated_rows, token_of, with_token}
use Rattle.seated_store.proofs.PlaceLemmas.{one_more, own_rows, own_seats_are}
use Rattle.vote_core.specs.Books.{are_apart, is_number, number_of}
use Rattle.vote_core.specs.Rows.{no_row, row}
use Rattle.vote_core.specs.Schedule.{opening_rows}
use Rattle.seat_law.specs.Seats.{seat_name}
use Rattle.seat_law.proofs.Relation.{number_lacks, number_there, option_cases}
use Rattle.book_law.specs.Lives.{Store, Terms, do_fit, floor_in_row, floor_of, has_row, places_of, row_of, row_or_first, seen_in, store_under, store_with_rows}
use Rattle.book_law.proofs.Under.{place_at, rows_size, seen_under}

-- ---- the tokens in order

pub own_name : (n i : ℕ) → i < n → seat_name (own_seats n) i ≡ i
own_name n i low = let own = get_or-range_with_len 0 n i 0 low in omega (arith, own)

number_is : (n c t : ℕ) → c ≤ n → t < c → number_of c (seat_name (own_seats n)) t ≡ Some t
number_is n c t within low = elim (option_cases (number_of c (seat_name (own_seats n)) t)) [
  | inl none ↦ absurd (number_lacks c (seat_name (own_seats n)) t none t low (own_name n t (omega (arith, within, low))))
  | inr some ↦
      let there = number_there c (seat_name (own_seats n)) t some.0 some.1 in
      let own = own_name n some.0 (let less = there.0 in omega (arith, less, within)) in
      some.1 ∙ ap Some (sym own ∙ there.1)
]

pub number_none : (n c t : ℕ) → c ≤ n → c ≤ t → number_of c (seat_name (own_seats n)) t ≡ None
number_none n c t within high = elim (option_cases (number_of c (seat_name (own_seats n)) t)) [
  | inl none ↦ none
  | inr some ↦
      let there = number_there c (seat_name (own_seats n)) t some.0 some.1 in
      let less = there.0 in
      let own = own_name n some.0 (omega (arith, less, within)) in
      let same : some.0 ≡ t = sym own ∙ there.1 in
      absurd (omega (arith, less, same, high))
]

-- no earlier seat is the same
none_before : (n c : ℕ) → c < n → is_number (number_of c (seat_name (own_seats n)) (seat_name (own_seats n) c)) ≡ false
none_before n c low = elim (option_cases (number_of c (seat_name (own_seats n)) (seat_name (own_seats n) c))) [
  | inl none ↦ ap is_number none
  | inr some ↦
      let there = number_there c (seat_name (own_seats n)) (seat_name (own_seats n) c) some.0 some.1 in
      let less = there.0 in
      let one = own_name n some.0 (omega (arith, less, low)) in
      let other = own_name n c low in
      let same : some.0 ≡ c = sym one ∙ there.1 ∙ other in
      absurd (omega (arith, less, same))
]

apart : (n c : ℕ) → c ≤ n → are_apart c (seat_name (own_seats n)) ≡ true
apart n zero within = refl
apart n (suc c) within =
    ap (λ (b : Bool). not b && are_apart c (seat_name (own_seats n))) (none_before n c (omega (arith, within))) ∙ apart n c (omega (arith, within))

-- ---- a store with the tokens in order

-- the store has a row for each of the tokens, in order
pub record IsKept (tokens : ℕ) (store : Store) : Type 0 where
  pub names : store.names ≡ own_seats tokens
  pub size : length store.content.rows ≡ tokens

module _ (m : ℕ) (store : Store) (kept : IsKept m store) where
  row_is : (t : ℕ) → t < m → row_of store t ≡ Some t
  row_is t low =
      subst (λ (l : List ℕ). number_of (length l) (seat_name l) t ≡ Some t) (sym kept.names)
      (subst (λ (k : ℕ). number_of k (seat_name (own_seats m)) t ≡ Some t) (sym (length-range_with_len 0 m)) (number_is m m t (omega arith) low))

  row_none : (t : ℕ) → m ≤ t → row_of store t ≡ None
  row_none t high =
      subst (λ (l : List ℕ). number_of (length l) (seat_name l) t ≡ None) (sym kept.names)
      (subst (λ (k : ℕ). number_of k (seat_name (own_seats m)) t ≡ None) (sym (length-range_with_len 0 m)) (number_none m m t (omega arith) high))

  have_rows : (a k : ℕ) → a + k ≤ m → list_all (has_row store) (range_with_len a k) ≡ true
  have_rows a zero within = refl
  have_rows a (suc k) within =
      ap (λ (o : Option ℕ). is_number o && list_all (has_row store) (range_with_len (a + 1) k)) (row_is a (omega (arith, within)))
      ∙ have_rows (a + 1) k (omega (arith, within))

  are_places : (a k : ℕ) → a + k ≤ m → places_of store (range_with_len a k) ≡ range_with_len a k
  are_places a zero within = refl
  are_places a (suc k) within =
      ap (λ (o : Option ℕ). row_or_first o ∷ places_of store (range_with_len (a + 1) k)) (row_is a (omega (arith, within)))
      ∙ ap (λ (l : List ℕ). a ∷ l) (are_places (a + 1) k (omega (arith, within)))

  places : places_of store (own_seats m) ≡ own_seats m
  places = are_places 0 m (omega arith)

  -- terms with these seats fit it
  pub fits : (terms : Terms) → terms.seats ≡ own_seats m → length terms.config.book ≡ m → do_fit terms store ≡ true
  fits terms seats book =
      let len = length-range_with_len 0 m in
      let sized : (eqb (length (own_seats m)) m) ≡ true = eq-eqb (length (own_seats m)) m len in
      let own : are_apart (length (own_seats m)) (seat_name (own_seats m)) ≡ true =
      subst (λ (k : ℕ). are_apart k (seat_name (own_seats m)) ≡ true) (sym len) (apart m m (omega arith)) in
      let whole : ((eqb (length (own_seats m)) m) && (are_apart (length (own_seats m)) (seat_name (own_seats m)) && list_all (has_row store) (own_seats m))) ≡ true =
      ap (λ (b : Bool). b && (are_apart (length (own_seats m)) (seat_name (own_seats m)) && list_all (has_row store) (own_seats m))) sized
      ∙ ap (λ (b : Bool). b && list_all (has_row store) (own_seats m)) own ∙ have_rows 0 m (omega arith) in
      subst (λ (k : ℕ). ((eqb (length terms.seats) k) && (are_apart (length terms.seats) (seat_name terms.seats) && list_all (has_row store) terms.seats)) ≡ true) (sym book)
      (subst (λ (l : List ℕ). ((eqb (length l) m) && (are_apart (length l) (seat_name l) && list_all (has_row store) l)) ≡ true) (sym seats) whole)

  -- its rows are seen as they are
  pub seen_rows : (seen_in store (own_seats m)).rows ≡ store.content.rows
  seen_rows =
      ap (λ (l : List ℕ). seated_rows l store.content.rows) places
      ∙ ap (λ (k : ℕ). seated_rows (own_seats k) store.content.rows) (sym kept.size)
      ∙ own_rows store.content.rows

  pub seen_size : length (seen_in store (own_seats m)).rows ≡ m
  seen_size = ap (λ (rows : List RowRecord). length rows) seen_rows ∙ kept.size

  -- the floor that is seen is the store's
  pub seen_next : (t : ℕ) → (row (seen_in store (own_seats m)) t).next ≡ floor_of store t
  seen_next t =
      ap (λ (rows : List RowRecord). (get_or rows t no_row).next) seen_rows
      ∙ ⊎_elim
      (λ (low : t < m). sym (ap (floor_in_row store.content) (row_is t low)))
      (λ (high : m ≤ t).
      ap (λ (r : RowRecord). r.next) (get_or_past store.content.rows t no_row (subst (λ k. k ≤ t) (sym kept.size) high))
      ∙ sym (ap (floor_in_row store.content) (row_none t high)))
      (cases_lt t m)

  are_seats : AreSeats (length store.content.rows) (places_of store (own_seats m))
  are_seats =
      subst (λ (k : ℕ). AreSeats k (places_of store (own_seats m))) (sym kept.size)
      (subst (λ (l : List ℕ). AreSeats m l) (sym places) (own_seats_are m))

  pub places_size : length (places_of store (own_seats m)) ≡ m
  places_size = ap (λ (l : List ℕ). length l) places ∙ length-range_with_len 0 m

  -- a store is seen as the process left it
  pub seen_put : (seen : Content) → length seen.rows ≡ m → ((z : PassRecord) → seen.last ≡ Some z → z.token < m)
      → (seen.last ≡ None → option_and_then (pass_above (places_of store (own_seats m))) store.content.last ≡ None)
      → seen_in (store_under (own_seats m) seen store) (own_seats m) ≡ seen
  seen_put seen size known none =
      seen_under (places_of store (own_seats m)) seen store.content are_seats (size ∙ sym places_size)
      (λ z at. subst (λ k. z.token < k) (sym places_size) (known z at)) none

  -- the store that the process left has its rows
  pub under_kept : (seen : Content) → IsKept m (store_under (own_seats m) seen store)
  under_kept seen = record { names = kept.names; size = rows_size (places_of store (own_seats m)) seen.rows store.content.rows ∙ kept.size }

-- the last pass that is seen is of a seat
pub above_low : (seen : List ℕ) (o : Option PassRecord) (z : PassRecord) → option_and_then (pass_above seen) o ≡ Some z → z.token < length seen
above_low seen None z e = absurd (none-some z e)
above_low seen (Some p) z e = by_seat (token_of seen p.token) refl e
  where
    by_seat : (o : Option ℕ) → token_of seen p.token ≡ o → option_map (with_token p) o ≡ Some z → z.token < length seen
    by_seat None is q = absurd (none-some z q)
    by_seat (Some k) is q =
        let within = slice_get_within seen k p.token (place_at seen p.token k is) in
        subst (λ (y : PassRecord). y.token < length seen) (same_Some (with_token p k) z q) within

-- ---- a store as it is created

map_append : {A B : Type 0} (f : A → B) (xs ys : List A) → map f (xs ++ ys) ≡ map f xs ++ map f ys
map_append f [] ys = refl
map_append f (x ∷ xs) ys = ap (λ l. f x ∷ l) (map_append f xs ys)

opening_is : (m : ℕ) (floor : ℕ → ℕ) → map opening_row (map floor (own_seats m)) ≡ opening_rows m floor
opening_is zero floor = refl
opening_is (suc m) floor =
    let same : suc m ≡ m + 1 = omega arith in
    ap (λ (k : ℕ). map opening_row (map floor (own_seats k))) same
    ∙ ap (λ (l : List ℕ). map opening_row (map floor l)) (one_more m)
    ∙ ap (map opening_row) (map_append floor (own_seats m) (m ∷ []))
    ∙ map_append opening_row (map floor (own_seats m)) (floor m ∷ [])
    ∙ ap (λ (l : List RowRecord). l ++ opening_row (floor m) ∷ []) (opening_is m floor)

pub created_kept : (m boot : ℕ) (floor : ℕ → ℕ) → IsKept m (store_with_rows boot (own_seats m) floor)
created_kept m boot floor = record {
  names = refl;
  size = length-map (map floor (own_seats m)) opening_row ∙ length-map (own_seats m) floor ∙ length-range_with_len 0 m;
}

-- its rows are seen as the world opens them
pub created_seen : (m boot : ℕ) (floor : ℕ → ℕ) → seen_in (store_with_rows boot (own_seats m) floor) (own_seats m) ≡ record { rows = opening_rows m floor; boot = boot; last = None }
created_seen m boot floor =
    ap (λ (rows : List RowRecord). record { rows = rows; boot = boot; last = None })
    (seen_rows m (store_with_rows boot (own_seats m) floor) (created_kept m boot floor) ∙ opening_is m floor)

pub opening_same : (k : ℕ) (one other : ℕ → ℕ) → ((t : ℕ) → t < k → one t ≡ other t) → opening_rows k one ≡ opening_rows k other
opening_same zero one other h = refl
opening_same (suc k) one other h =
    ap (λ (l : List RowRecord). l ++ opening_row (one k) ∷ []) (opening_same k one other (λ t low. h t (omega (arith, low))))
    ∙ ap (λ (next : ℕ). opening_rows k other ++ opening_row next ∷ []) (h k (omega arith))

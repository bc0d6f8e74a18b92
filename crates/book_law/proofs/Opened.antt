-- A site whose store a process has open, and one whose store no process has open.
use Rattle.std.proofs.Common.{◌≡◌, ℕ, ◌<◌, Bool, true, List, length, map, Option, Some, None, refl, sym, ap, ◌∙◌, subst, get_or}
use Rattle.std.specs.Prelude.{option_map}
use Rattle.std.specs.List.{slice_get}
use Rattle.std.specs.Option.{option_and_then, option_or}
use Rattle.std.proofs.lemmas.List.{length-map}
use Rattle.std.proofs.lemmas.Option.{none-some, same_Some, slice_get-get_or}
use Rattle.floor_store.specs.Content.{Content}
use Rattle.floor_store.specs.Records.{PassRecord, RowRecord}
use Rattle.seated_store.specs.Seats.{AreSeats, pass_above, pass_below, row_at, token_of, with_token}
use Rattle.seated_store.proofs.SeatLemmas.{token_of_seat}
use Rattle.vote_core.specs.Books.{are_apart, is_number, number_of}
use Rattle.vote_core.specs.Numbers.{named_pass}
use Rattle.vote_core.specs.Rows.{no_row, row}
use Rattle.vote_core.specs.Schedule.{Member}
use Rattle.oath_node.specs.Machine.{NodeState}
use Rattle.seat_law.specs.Below.{IsBelow, Site}
use Rattle.seat_law.specs.Seats.{seat_name}
use Rattle.book_law.specs.Lives.{Store, Terms, content_under, places_of, store_under}
use Rattle.book_law.proofs.Under.{row_off, rows_size, seen_under}

-- no process has the store open
pub record IsStored (x : Site) (store : Store) : Type 0 where
  pub seats : List ℕ
  pub below : IsBelow x (seat_name store.names) seats store.content
  pub size : length store.names ≡ length store.content.rows

-- a process with the terms opened the store `below`, and its machine has what it sees of it
pub record IsOpen (x : Site) (terms : Terms) (below : Store) (state : NodeState) : Type 0 where
  pub known : IsBelow x (seat_name below.names) (places_of below terms.seats) (content_under (places_of below terms.seats) state.content below.content)
  pub size : length below.names ≡ length below.content.rows
  pub member : x.member ≡ record { content = state.content; voter = state.voter; running = true }
  pub name : x.name ≡ seat_name terms.seats
  pub book : length terms.seats ≡ length terms.config.book
  pub named : map (seat_name below.names) (places_of below terms.seats) ≡ terms.seats
  pub apart : are_apart (length terms.seats) (seat_name terms.seats) ≡ true
  pub last : x.last ≡ option_map (named_pass (seat_name below.names)) below.content.last
  pub last_known : (pass : PassRecord) → below.content.last ≡ Some pass → pass.token < length below.content.rows
  pub unseen : state.content.last ≡ None → option_and_then (pass_above (places_of below terms.seats)) below.content.last ≡ None

-- its store, when it ends
pub open_stored : (x : Site) (terms : Terms) (below : Store) (state : NodeState) → IsOpen x terms below state → IsStored x (store_under terms.seats state.content below)
open_stored x terms below state h = record {
  seats = places_of below terms.seats;
  below = h.known;
  size = h.size ∙ sym (rows_size (places_of below terms.seats) state.content.rows below.content.rows);
}

-- as many rows are seen as there are seats
pub seen_size : {x : Site} {terms : Terms} {below : Store} {state : NodeState} → IsOpen x terms below state → length state.content.rows ≡ length terms.seats
seen_size {x} {terms} {below} {state} h =
    let places = places_of below terms.seats in
    ap (λ (m : Member). length m.content.rows) (sym h.member) ∙ ap (λ (c : Content). length c.rows) h.known.seen
    ∙ length-map places (row_at (content_under places state.content below.content).rows)
    ∙ length-map terms.seats _

-- ---- a step

named_last : (name own : ℕ → ℕ) (places : List ℕ) (seen below : Option PassRecord) → ((seat : ℕ) → seat < length places → own seat ≡ name (seat_name places seat)) → ((z : PassRecord) → seen ≡ Some z → z.token < length places)
    → option_map (named_pass name) (option_or (option_and_then (pass_below places) seen) below) ≡ option_or (option_map (named_pass own) seen) (option_map (named_pass name) below)
named_last name own places None below names known = refl
named_last name own places (Some p) below names known =
    let low = known p refl in
    ap (λ o. option_map (named_pass name) (option_or (option_map (with_token p) o) below)) (slice_get-get_or places p.token 0 low)
    ∙ ap (λ m. Some (with_token p m)) (sym (names p.token low))

last_within : (rows : ℕ) (places : List ℕ) (seen below : Option PassRecord) → AreSeats rows places → ((z : PassRecord) → seen ≡ Some z → z.token < length places) → ((z : PassRecord) → below ≡ Some z → z.token < rows)
    → (z : PassRecord) → option_or (option_and_then (pass_below places) seen) below ≡ Some z → z.token < rows
last_within rows places None below are known low z e = low z e
last_within rows places (Some p) below are known low z e =
    let at = slice_get-get_or places p.token 0 (known p refl) in
    subst (λ (y : PassRecord). y.token < rows) (same_Some (with_token p (get_or places p.token 0)) z (sym (ap (λ o. option_or (option_map (with_token p) o) below) at) ∙ e))
    (are.within p.token (get_or places p.token 0) at)

module _ (x : Site) (terms : Terms) (below : Store) (state : NodeState) (h : IsOpen x terms below state)
    (x' : Site) (state' : NodeState)
    (name : x'.name ≡ x.name) (enrolled : x'.enrolled ≡ x.enrolled) (aside : x'.aside ≡ x.aside) (last : x'.last ≡ x.last)
    (member : x'.member ≡ record { content = state'.content; voter = state'.voter; running = true })
    (size : length state'.content.rows ≡ length state.content.rows)
    (known : (pass : PassRecord) → state'.content.last ≡ Some pass → pass.token < length state'.content.rows)
    (grows : state'.content.last ≡ None → state.content.last ≡ None) where
  abbrev places : List ℕ
  places = places_of below terms.seats

  abbrev old : Content
  old = content_under places state.content below.content

  abbrev new : Content
  new = content_under places state'.content below.content

  many : length new.rows ≡ length old.rows
  many = rows_size places state'.content.rows below.content.rows ∙ sym (rows_size places state.content.rows below.content.rows)

  base : length below.content.rows ≡ length old.rows
  base = sym (rows_size places state.content.rows below.content.rows)

  long : length state'.content.rows ≡ length places
  long = size ∙ seen_size h ∙ sym (length-map terms.seats _)

  are : AreSeats (length below.content.rows) places
  are = subst (λ n. AreSeats n places) (sym base) h.known.are

  last_low : (pass : PassRecord) → state'.content.last ≡ Some pass → pass.token < length places
  last_low pass e = subst (λ n. pass.token < n) long (known pass e)

  own_name : (seat : ℕ) → seat < length places → x'.name seat ≡ seat_name below.names (seat_name places seat)
  own_name seat lt = ap (λ (f : ℕ → ℕ). f seat) name ∙ h.known.names seat lt

  off : (k : ℕ) → token_of places k ≡ None → row new k ≡ row old k
  off k none =
      let hidden : (m : ℕ) → slice_get places m ≡ Some k → ⊥ = λ m at. none-some m (sym none ∙ token_of_seat (length below.content.rows) places m k are at) in
      row_off places state'.content.rows below.content.rows k no_row hidden ∙ sym (row_off places state.content.rows below.content.rows k no_row hidden)

  new_below : IsBelow x' (seat_name below.names) places new
  new_below = record {
    are = subst (λ n. AreSeats n places) (sym many) h.known.are;
    one = λ j k a b e. h.known.one j k (subst (λ n. j < n) many a) (subst (λ n. k < n) many b) e;
    seen = ap (λ (m : Member). m.content) member ∙ sym (seen_under places state'.content below.content are long last_low (λ none. h.unseen (grows none)));
    names = own_name;
    aside = λ k a none. off k none ∙ h.known.aside k (subst (λ n. k < n) many a) none ∙ ap (λ (f : ℕ → RowRecord). f (seat_name below.names k)) (sym aside);
    enrolled = λ t. ap (λ (f : ℕ → Bool). f t) enrolled ∙ h.known.enrolled t ∙ ap (λ n. is_number (number_of n (seat_name below.names) t)) (sym many);
    last = named_last (seat_name below.names) x'.name places state'.content.last below.content.last own_name last_low
        ∙ ap (option_or (option_map (named_pass x'.name) state'.content.last)) (sym h.last ∙ sym last)
        ∙ ap (λ (m : Member). option_or (option_map (named_pass x'.name) m.content.last) x'.last) (sym member);
    last_known = λ z e. subst (λ n. z.token < n) (base ∙ sym many) (last_within (length below.content.rows) places state'.content.last below.content.last are last_low h.last_known z e);
  }

  pub step_open : IsOpen x' terms below state'
  step_open = record {
    known = new_below;
    size = h.size;
    member = member;
    name = name ∙ h.name;
    book = h.book;
    named = h.named;
    apart = h.apart;
    last = last ∙ h.last;
    last_known = h.last_known;
    unseen = λ none. h.unseen (grows none);
  }

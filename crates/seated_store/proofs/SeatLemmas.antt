-- Rows and passes seen through seats.
use Rattle.std.proofs.Common.{◌≡◌, ◌||◌, ℕ, suc, ◌<◌, ◌≤◌, ◌==◌, List, [], ◌∷◌, length, cond, eqb, nat_lt, true, Option, Some, None, ap, ◌∙◌, refl, sym, subst, slice_get, get_or, set, option_map, arith, inl, inr}
use Rattle.std.specs.List.{list_any, position_or_len}
use Rattle.std.proofs.lemmas.Bool.{lt-ltb, ne_eqb}
use Rattle.std.proofs.lemmas.Bool.Decides.{eqb_tells}
use Rattle.std.proofs.lemmas.List.{ext_get_or, get_or-map, get_or-set_other, get_or-set_same, length-map, length-set}
use Rattle.std.proofs.lemmas.List.Sums.{position_or_len_is}
use Rattle.std.proofs.lemmas.Grind.{get_or-set_at}
use Rattle.std.proofs.lemmas.Map.Keys.{IsDistinct-from_apart}
use Rattle.std.proofs.lemmas.Map.Steps.{length-le_from_distinct_below}
use Rattle.std.proofs.lemmas.Option.{slice_get-map, slice_get-get_or, slice_get_read, slice_get_within, get_or_from_slice_get}
use Rattle.floor_store.specs.Content.{Content, opening_row, with_row}
use Rattle.floor_store.specs.Records.{PassRecord, RowRecord}
use Rattle.seated_store.specs.Seats.{AreSeats, pass_above, pass_below, row_at, seated_content, seated_rows, token_of, with_token}

-- the row of a seat is what the store below has there
pub seated_row : (seats : List ℕ) (rows : List RowRecord) (i seat : ℕ) (row : RowRecord) → slice_get seats i ≡ Some seat
    → slice_get rows seat ≡ Some row → slice_get (seated_rows seats rows) i ≡ Some row
seated_row seats rows i seat row at there =
    slice_get-map (row_at rows) seats i ∙ ap (option_map (row_at rows)) at
    ∙ ap Some (get_or_from_slice_get rows seat row (opening_row 0) there)

-- a number that is among others is below what they are below
below_all : (rows q : ℕ) (seats : List ℕ) → ((i seat : ℕ) → slice_get seats i ≡ Some seat → seat < rows)
    → list_any (eqb q) seats ≡ true → q < rows
below_all rows q [] within among = absurd cc
below_all rows q (seat ∷ seats) within among =
    elim (eqb_tells q seat) [
      | inl e ↦ subst (λ n. n < rows) (sym e.1) (within 0 seat refl)
      | inr e ↦ below_all rows q seats (λ i other at. within (suc i) other at)
          (sym (ap (λ b. b || list_any (eqb q) seats) e.0) ∙ among)
    ]

-- there are at most as many seats as rows
pub few_seats : (rows : ℕ) (seats : List ℕ) → AreSeats rows seats → length seats ≤ rows
few_seats rows seats are =
    length-le_from_distinct_below seats rows
    (IsDistinct-from_apart eqb seats (λ i j d before low.
    let first = slice_get-get_or seats i d (omega (arith, before, low)) in
    let second = slice_get-get_or seats j d low in
    ne_eqb (get_or seats i d) (get_or seats j d) (λ same.
    let e = are.apart i j (get_or seats j d) (first ∙ ap Some same) second in omega (arith, before, e))))
    (λ q among. below_all rows q seats are.within among)

-- a row after a write to the row of a token's seat
set_seated_at : (seats : List ℕ) (rows : List RowRecord) (token seat i : ℕ) (row : RowRecord)
    → AreSeats (length rows) seats → slice_get seats token ≡ Some seat → i < length seats
    → get_or (seated_rows seats (set rows seat row)) i (opening_row 0)
    ≡ get_or (set (seated_rows seats rows) token row) i (opening_row 0)
set_seated_at seats rows token seat i row are at low =
    let d : RowRecord = opening_row 0 in
    let here = slice_get-get_or seats i 0 low in
    let left = get_or-map (row_at (set rows seat row)) seats i 0 d low in
    let known = slice_get_within seats token seat at in
    let long = length-map seats (row_at rows) in
    elim (eqb_tells i token) [
      | inl e ↦ left ∙ ap (λ k. get_or (set rows seat row) k d) (get_or_from_slice_get seats i seat 0 (ap (slice_get seats) e.1 ∙ at))
          ∙ get_or-set_same rows seat row d (are.within token seat at)
          ∙ sym (get_or-set_at (seated_rows seats rows) token i row d e.1 (omega (arith, known, long)))
      | inr e ↦ left
          ∙ get_or-set_other rows seat (get_or seats i 0) row d (λ same. e.1 (are.apart i token seat (here ∙ ap Some same) at))
          ∙ sym (get_or-map (row_at rows) seats i 0 d low)
          ∙ sym (get_or-set_other (seated_rows seats rows) token i row d e.1)
    ]

-- a write to the row of a token's seat is one to the token's row
pub set_seated : (seats : List ℕ) (rows : List RowRecord) (token seat : ℕ) (row : RowRecord)
    → AreSeats (length rows) seats → slice_get seats token ≡ Some seat
    → seated_rows seats (set rows seat row) ≡ set (seated_rows seats rows) token row
set_seated seats rows token seat row are at =
    let long = length-map seats (row_at (set rows seat row)) in
    ext_get_or (opening_row 0) _ _
    (long ∙ sym (length-set (seated_rows seats rows) token row ∙ length-map seats (row_at rows)))
    (λ i low. set_seated_at seats rows token seat i row are at (omega (arith, low, long)))

-- the token of a token's seat
pub token_of_seat : (rows : ℕ) (seats : List ℕ) (token seat : ℕ) → AreSeats rows seats
    → slice_get seats token ≡ Some seat → token_of seats seat ≡ Some token
token_of_seat rows seats token seat are at =
    let low = slice_get_within seats token seat at in
    let place : position_or_len (λ other. other == seat) seats ≡ token =
    position_or_len_is (λ other. other == seat) seats token 0 (omega (arith, low))
    (λ k below. ne_eqb (get_or seats k 0) seat (λ same.
    let e = are.apart k token seat (slice_get-get_or seats k 0 (omega (arith, below, low)) ∙ ap Some same) at in
    omega (arith, below, e)))
    (λ _. elim (eqb_tells (get_or seats token 0) seat) [
      | inl e ↦ e.0
      | inr e ↦ absurd (e.1 (get_or_from_slice_get seats token seat 0 at))
    ]) in
    ap (λ n. cond (nat_lt n (length seats)) (Some n) None) place
    ∙ ap (λ b. cond b (Some token) None) (lt-ltb token (length seats) low)

-- a pass that was put by its token's seat is seen as it was
pass_seen_at : (rows : ℕ) (seats : List ℕ) (pass below : PassRecord) (seat : Option ℕ) → AreSeats rows seats
    → slice_get seats pass.token ≡ seat → option_map (with_token pass) seat ≡ Some below → pass_above seats below ≡ Some pass
pass_seen_at rows seats pass below None are at is = absurd cc
pass_seen_at rows seats pass below (Some seat) are at is =
    let same : with_token pass seat ≡ below = search is in
    subst (λ (p : PassRecord). pass_above seats p ≡ Some pass) same
    (ap (option_map (with_token (with_token pass seat))) (token_of_seat rows seats pass.token seat are at))

pub pass_seen : (rows : ℕ) (seats : List ℕ) (pass below : PassRecord) → AreSeats rows seats
    → pass_below seats pass ≡ Some below → pass_above seats below ≡ Some pass
pass_seen rows seats pass below are is = pass_seen_at rows seats pass below (slice_get seats pass.token) are refl is

-- a token without a seat is past the last one
past_seats : (seats : List ℕ) (pass : PassRecord) (seat : Option ℕ) → slice_get seats pass.token ≡ seat
    → option_map (with_token pass) seat ≡ None → pass.token < length seats → ⊥
past_seats seats pass None at is low =
    let x : Some (get_or seats pass.token 0) ≡ None = sym (slice_get-get_or seats pass.token 0 low) ∙ at in absurd cc
past_seats seats pass (Some seat) at is low = absurd cc

pub no_seat : (seats : List ℕ) (pass : PassRecord) → pass_below seats pass ≡ None → pass.token < length seats → ⊥
no_seat seats pass is low = past_seats seats pass (slice_get seats pass.token) refl is low

seat_within : (seats : List ℕ) (pass below : PassRecord) (seat : Option ℕ) → slice_get seats pass.token ≡ seat
    → option_map (with_token pass) seat ≡ Some below → pass.token < length seats
seat_within seats pass below None at is = absurd cc
seat_within seats pass below (Some seat) at is = slice_get_within seats pass.token seat at

-- a token that has a seat is one that is seen
pub has_seat : (seats : List ℕ) (pass below : PassRecord) → pass_below seats pass ≡ Some below → pass.token < length seats
has_seat seats pass below is = seat_within seats pass below (slice_get seats pass.token) refl is

-- what is seen after a put below, without a pass and with one
pub seen_put : (seats : List ℕ) (c : Content) (token seat : ℕ) (row : RowRecord) → AreSeats (length c.rows) seats
    → slice_get seats token ≡ Some seat
    → seated_content seats (with_row c seat row None) ≡ with_row (seated_content seats c) token row None
seen_put seats c token seat row are at =
    let shown : List RowRecord → Content = λ rows. record (seated_content seats c) { rows = rows } in
    ap shown (set_seated seats c.rows token seat row are at)

pub seen_pass_put : (seats : List ℕ) (c : Content) (token seat : ℕ) (row : RowRecord) (pass below : PassRecord)
    → AreSeats (length c.rows) seats → slice_get seats token ≡ Some seat → pass_below seats pass ≡ Some below
    → seated_content seats (with_row c seat row (Some below)) ≡ with_row (seated_content seats c) token row (Some pass)
seen_pass_put seats c token seat row pass below are at is =
    let shown : List RowRecord → Content = λ rows. record { rows = rows; boot = c.boot; last = pass_above seats below } in
    let passed : Option PassRecord → Content = λ last. record { rows = set (seated_rows seats c.rows) token row; boot = c.boot; last = last } in
    ap shown (set_seated seats c.rows token seat row are at)
    ∙ ap passed (pass_seen (length c.rows) seats pass below are is)

-- the seat that a token of a row has
pub seat_is : (seats : List ℕ) (rows : List RowRecord) (token seat : ℕ) → token < length (seated_rows seats rows)
    → seat ≡ get_or seats token seat → slice_get seats token ≡ Some seat
seat_is seats rows token seat low is =
    let long = length-map seats (row_at rows) in
    slice_get_read seats (length seats) token seat refl (omega (arith, low, long)) is

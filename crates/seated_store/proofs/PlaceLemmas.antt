-- Rows and passes that are seen through own seats.
use Rattle.std.proofs.Common.{◌≡◌, ℕ, ◌+◌, ◌<◌, List, [], ◌∷◌, ◌++◌, length, Option, Some, None, ap, ◌∙◌, refl, sym, slice_get, get_or, arith}
use Rattle.std.specs.Prelude.{IfSome, option_map}
use Rattle.std.specs.Option.{option_and_then}
use Rattle.std.proofs.lemmas.List.{ext_get_or, map-id}
use Rattle.std.proofs.lemmas.List.FromFn.{get_or-map-range_with_len, get_or-range_with_len, length-map-range_with_len, length-range_with_len, map-range_with_len_more}
use Rattle.std.proofs.lemmas.Option.{slice_get-get_or, slice_get_within, get_or_from_slice_get}
use Rattle.floor_store.specs.Content.{Content, opening_row}
use Rattle.floor_store.specs.Records.{PassRecord, RowRecord}
use Rattle.seated_store.specs.Seats.{AreSeats, pass_above, row_at, seated_content, seated_rows, with_token}
use Rattle.seated_store.proofs.SeatLemmas.{token_of_seat}
use Rattle.seated_store.specs.Places.{HasOwnPass, own_seats}

-- the seat of a token is the token
pub own_seat : (tokens token seat : ℕ) → slice_get (own_seats tokens) token ≡ Some seat → seat ≡ token
own_seat tokens token seat at =
    let low = slice_get_within (own_seats tokens) token seat at in
    let len = length-range_with_len 0 tokens in
    let is = get_or_from_slice_get (own_seats tokens) token seat 0 at in
    let own = get_or-range_with_len 0 tokens token 0 (omega (arith, low, len)) in omega (arith, is, own)

pub own_seat_within : (tokens token seat : ℕ) → slice_get (own_seats tokens) token ≡ Some seat → seat < tokens
own_seat_within tokens token seat at =
    let low = slice_get_within (own_seats tokens) token seat at in
    let len = length-range_with_len 0 tokens in
    let is = own_seat tokens token seat at in omega (arith, low, len, is)

pub own_seats_are : (tokens : ℕ) → AreSeats tokens (own_seats tokens)
own_seats_are tokens = record {
  within = own_seat_within tokens;
  apart = λ i j seat at other. sym (own_seat tokens i seat at) ∙ own_seat tokens j seat other;
}

-- the rows are seen as they are
pub own_rows : (rows : List RowRecord) → seated_rows (own_seats (length rows)) rows ≡ rows
own_rows rows =
    let len = length-map-range_with_len (row_at rows) 0 (length rows) in
    ext_get_or (opening_row 0) _ _ len
    (λ i low. get_or-map-range_with_len (row_at rows) 0 (length rows) i i (opening_row 0) (omega (arith, low, len)) (omega arith))

own_number : (tokens token : ℕ) → token < tokens → get_or (own_seats tokens) token 0 ≡ token
own_number tokens token low = let own = get_or-range_with_len 0 tokens token 0 low in omega (arith, own)

-- a pass of a token is seen as it is
own_pass : (tokens : ℕ) (pass : PassRecord) → pass.token < tokens → pass_above (own_seats tokens) pass ≡ Some pass
own_pass tokens pass low =
    let len = length-range_with_len 0 tokens in
    let at : slice_get (own_seats tokens) pass.token ≡ Some pass.token =
    slice_get-get_or (own_seats tokens) pass.token 0 (omega (arith, low, len))
    ∙ ap Some (own_number tokens pass.token low) in
    ap (λ (t : Option ℕ). option_map (with_token pass) t)
    (token_of_seat tokens (own_seats tokens) pass.token pass.token (own_seats_are tokens) at)

own_last : (tokens : ℕ) (last : Option PassRecord) → IfSome last (λ pass. pass.token < tokens)
    → option_and_then (pass_above (own_seats tokens)) last ≡ last
own_last tokens None has = refl
own_last tokens (Some pass) has = own_pass tokens pass has

pub own_content : (c : Content) → HasOwnPass c → seated_content (own_seats (length c.rows)) c ≡ c
own_content c has =
    let shown : List RowRecord → Option PassRecord → Content = λ rows last. record c { rows = rows; last = last } in
    ap (λ (rows : List RowRecord). shown rows (option_and_then (pass_above (own_seats (length c.rows))) c.last)) (own_rows c.rows)
    ∙ ap (shown c.rows) (own_last (length c.rows) c.last has)

-- the seats of one token more
pub one_more : (tokens : ℕ) → own_seats (tokens + 1) ≡ own_seats tokens ++ tokens ∷ []
one_more tokens =
    sym (map-id (own_seats (tokens + 1))) ∙ map-range_with_len_more (λ (n : ℕ). n) 0 tokens tokens (omega arith)
    ∙ ap (λ (l : List ℕ). l ++ tokens ∷ []) (map-id (own_seats tokens))

-- Rows that are seen in another order than a store has them. The seat of a token is its row in the store below.
use Rattle.std.specs.Prelude.{◌≡◌, ℕ, ◌==◌, ◌<◌, List, length, map, Option, Some, IfSome, slice_get, slice_index_or, option_map}
use Rattle.std.specs.List.{position}
use Rattle.std.specs.Option.{option_and_then}
use Rattle.floor_store.specs.Content.{Content, opening_row}
use Rattle.floor_store.specs.Records.{RowRecord, PassRecord}

-- each seat is one of the given number of rows, and no two are the same
pub record AreSeats (rows : ℕ) (seats : List ℕ) : Type 0 where
  pub within : (i seat : ℕ) → slice_get seats i ≡ Some seat → seat < rows
  pub apart : (i j seat : ℕ) → slice_get seats i ≡ Some seat → slice_get seats j ≡ Some seat → i ≡ j

-- the row of a seat
abbrev pub row_at : List RowRecord → ℕ → RowRecord
row_at rows seat = slice_index_or rows seat (opening_row 0)

-- the rows of the seats
abbrev pub seated_rows : List ℕ → List RowRecord → List RowRecord
seated_rows seats rows = map (row_at rows) seats

-- the token of a seat, or None if the row isn't seen
abbrev pub token_of : List ℕ → ℕ → Option ℕ
token_of seats seat = position (λ other. other == seat) seats

-- a pass of another token
abbrev pub with_token : PassRecord → ℕ → PassRecord
with_token pass token = record pass { token = token }

-- a pass below, by the token that is seen, or None if its row isn't seen
abbrev pub pass_above : List ℕ → PassRecord → Option PassRecord
pass_above seats pass = option_map (with_token pass) (token_of seats pass.token)

-- a pass above, by its seat, or None if its token has no seat
abbrev pub pass_below : List ℕ → PassRecord → Option PassRecord
pass_below seats pass = option_map (with_token pass) (slice_get seats pass.token)

-- what is seen of a content
abbrev pub seated_content : List ℕ → Content → Content
seated_content seats c =
    record c { rows = seated_rows seats c.rows; last = option_and_then (pass_above seats) c.last }

-- the token of the pass has a seat
abbrev pub IsSeen : List ℕ → Option PassRecord → Type 0
IsSeen seats pass = IfSome pass (λ p. p.token < length seats)

-- A node alone, and a device with the rows 0 and 1.
use Rattle.std.specs.Prelude.{ℕ, zero, suc, List, [], ◌∷◌}
use Rattle.floor_store.specs.Content.{opening_row}
use Rattle.floor_store.specs.Records.{ProposalRecord, RowRecord}
use Rattle.otp_core.specs.Acceptance.{Acceptance}
use Rattle.vote_core.specs.Rows.{granted_row}
use Rattle.seat_law.specs.Examples.{adds}
use Rattle.seat_law.specs.Seats.{Course, Sites, Starts, blank_sites, go}

-- all tokens are of one device
abbrev pub all_one : ℕ → ℕ
all_one token = 0

-- each token is of a device of its own
abbrev pub all_apart : ℕ → ℕ
all_apart token = token

-- factor 0 is taken in a row, in an event
abbrev pub taken : ℕ → ℕ → Acceptance
taken event token = record { began = event; ended = event; node = 1; token = token; lo = 0; hi = 0 }

-- factor 0 is taken in row 0, and later in row 1
abbrev pub renamed_back : List Acceptance
renamed_back = taken 0 0 ∷ taken 1 1 ∷ []

-- ---- Floors

-- the floors of a node whose row 1 comes back with the floor that it had
abbrev pub lower_row : ℕ → ℕ → ℕ → ℕ
lower_row node zero zero = 0
lower_row node zero (suc event) = 1
lower_row node (suc other) zero = 0
lower_row node (suc other) (suc zero) = 0
lower_row node (suc other) (suc (suc event)) = 1

-- the floors of a node that raised row 1 before it takes a factor in it
abbrev pub raised_row : ℕ → ℕ → ℕ → ℕ
raised_row node token zero = 0
raised_row node token (suc event) = 1

-- the floors of a node that has both rows in seats, and takes the factor in both in one event
abbrev pub both_at_once : ℕ → ℕ → ℕ → ℕ
both_at_once node token zero = 0
both_at_once node token (suc zero) = 0
both_at_once node token (suc (suc event)) = 1

-- ---- Rows

-- the first proposal of node 1
abbrev pub first_proposal : ProposalRecord
first_proposal = record { node = 1; boot = 1; seq = 0 }

-- a new row, after a grant of factor 0
abbrev pub row_after_vote : RowRecord
row_after_vote = granted_row first_proposal 0 0 (opening_row 0)

-- rows of which row 0 of node 1 is one row before event 0 and another row after it
abbrev pub rows_from : RowRecord → RowRecord → ℕ → ℕ → ℕ → RowRecord
rows_from before after (suc zero) zero zero = before
rows_from before after (suc zero) zero (suc event) = after
rows_from before after node token event = opening_row 0

-- node 1 votes for factor 0 of row 0 in event 0
abbrev pub votes_once : ℕ → ℕ → ℕ → RowRecord
votes_once = rows_from (opening_row 0) row_after_vote

-- its row is raised past the factor, and gets no grant
abbrev pub raised_once : ℕ → ℕ → ℕ → RowRecord
raised_once = rows_from (opening_row 0) (opening_row 1)

-- its row has the grant before, and is raised
abbrev pub granted_earlier : ℕ → ℕ → ℕ → RowRecord
granted_earlier = rows_from (record row_after_vote { next = 0 }) row_after_vote

-- every row gets the grant in event 0
abbrev pub all_granted : ℕ → ℕ → ℕ → RowRecord
all_granted node token zero = opening_row 0
all_granted node token (suc event) = row_after_vote

-- ---- Seats

-- a node alone with both rows, at the given floors, and with the given seats
abbrev pub seats_at : ℕ → ℕ → List ℕ → List Course
seats_at one other seats = adds 1 0 one ∷ adds 1 1 other ∷ Starts 1 seats ∷ []

-- the node before all events
abbrev pub lone : Sites
lone = blank_sites 1 2 (λ node. 1) []

-- the node after them
abbrev pub seated_at : ℕ → ℕ → List ℕ → Sites
seated_at one other seats = go 0 (seats_at one other seats) lone

-- a node that has both rows in seats, and starts with them again
abbrev pub starts_again : List Course
starts_again = Starts 1 (0 ∷ 1 ∷ []) ∷ []

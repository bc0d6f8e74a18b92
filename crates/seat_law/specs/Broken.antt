-- A node alone with one token, and starts that break a rule. No contract cites them.
use Rattle.std.specs.Prelude.{ℕ, pos, Bool, List, [], ◌∷◌, Some}
use Rattle.floor_store.specs.Content.{Content, opening_row}
use Rattle.floor_store.specs.Records.{ProposalRecord, span_of}
use Rattle.otp_core.specs.Acceptance.{Acceptance}
use Rattle.vote_core.specs.Books.{Begins}
use Rattle.vote_core.specs.Cases.{accepted}
use Rattle.vote_core.specs.Voting.{pass_of}
use Rattle.seat_law.specs.Examples.{adds, begins}
use Rattle.seat_law.specs.Seats.{Breaks, Course, Remade, Sites, Starts, blank_sites, go, with_seats}

-- the sites of a node alone, after the events
abbrev pub one_of : List Course → Sites
one_of courses = go 0 courses (blank_sites 1 1 (λ node. 1) [])

-- the acceptances of later events, the first of which has the given number
abbrev pub accepted_from : ℕ → Sites → List Course → List Acceptance
accepted_from first sites courses = (go first courses sites).seen.own.accepted

-- the node takes factor 0, and its user goes
abbrev pub takes_and_goes : List Course
takes_and_goes = adds 1 0 0 ∷ Starts 1 (0 ∷ []) ∷ begins 1 0 0 ∷ Starts 1 [] ∷ []

-- the user comes back, and the node proposes the factor again
abbrev pub comes_and_takes : List Course
comes_and_takes = Starts 1 (0 ∷ []) ∷ begins 1 0 0 ∷ []

-- the sites with opening rows in place of the rows aside
abbrev pub forgetting : Sites → Sites
forgetting sites = record sites { aside = λ node token. opening_row 0 }

-- the content of the node's store after it took factor 0, at its third boot
abbrev pub taken_content : Content
taken_content =
    let proposal : ProposalRecord = record { node = 1; boot = 2; seq = 0 } in
    record {
      rows = record (opening_row 1) { grant = Some (proposal, span_of 0 0) } ∷ [];
      boot = 3;
      last = Some (pass_of 0 0 0 2 0);
    }

-- a start with the token in two seats
abbrev pub two_seats : Sites
two_seats = with_seats 1 (0 ∷ 0 ∷ []) (one_of (adds 1 0 0 ∷ []))

-- a start with a token that the store has no row for
abbrev pub no_row : Sites
no_row = with_seats 1 (0 ∷ []) (one_of [])

-- The factor is taken in the seat without a row. The store has kept nothing, gets a row, and the factor is taken again.
abbrev pub takes_without_a_row : List Course
takes_without_a_row = begins 1 0 0 ∷ Starts 1 [] ∷ adds 1 0 0 ∷ comes_and_takes

-- the acceptance of factor 0 at the node
abbrev pub first_taken : Acceptance
first_taken = accepted 2 2 1 0 0 0

-- names by seats
abbrev pub in_order_of_seats : ℕ → ℕ → ℕ
in_order_of_seats node seat = seat

-- a stop in the proposal of factor 0
abbrev pub begins_in_a_stop : Bool → Course
begins_in_a_stop kept = Breaks kept (Begins 1 0 0 0 (pos 0))

-- a replacement store with the floor 4
abbrev pub replacement : Course
replacement = Remade 1 3 (0 ∷ []) (λ token. 4)

-- Worked sites: three members and two tokens. The stores of members 1 and 2 have both, and member 3's has none. Member
-- 1's users file has them in their order, member 2's in reverse.
use Rattle.std.specs.Prelude.{ℕ, pos, ◌-◌, Bool, List, [], ◌∷◌, ◌++◌, length, map, Option}
use Rattle.floor_store.specs.Records.{PassRecord}
use Rattle.otp_core.specs.Gate.{GateRecord}
use Rattle.vote_core.specs.Books.{Adds, Begins, Gets, Shuts, Speaks, Turns}
use Rattle.vote_core.specs.Examples.{Outcome}
use Rattle.vote_core.specs.Schedule.{last_boot}
use Rattle.seat_law.specs.Seats.{Breaks, Course, Gone, Remade, Runs, Sites, Starts, blank_sites, free_of, go}

-- the sites of three members that open at boot 1, after the events
abbrev pub sites_of : List Course → Sites
sites_of courses = go 0 courses (blank_sites 3 2 (λ node. 1) [])

-- the acceptances of the events, and the number of messages sent
abbrev pub outcome_at : List Course → Outcome
outcome_at courses = record {
  accepted = (sites_of courses).seen.own.accepted;
  sent = length (sites_of courses).seen.own.sent;
}

-- the floors of tokens 0 and 1 in the node's store after the events
abbrev pub floors_at : ℕ → List Course → List ℕ
floors_at node courses = map (free_of (sites_of courses) node) (0 ∷ 1 ∷ [])

-- the node's store gets a row for the token, with the given floor
abbrev pub adds : ℕ → ℕ → ℕ → Course
adds node token floor = Runs (Adds node token floor)

-- the node proposes a factor of the token in its seat
abbrev pub begins : ℕ → ℕ → ℕ → Course
begins node seat factor = Runs (Begins node seat factor factor (pos 0))

abbrev pub gets : ℕ → Course
gets message = Runs (Gets message)

-- both users are in both files, in two orders (events 0 to 5)
abbrev pub opens : List Course
opens =
    adds 1 0 0 ∷ adds 1 1 0 ∷ adds 2 0 0 ∷ adds 2 1 0 ∷ Starts 1 (0 ∷ 1 ∷ []) ∷ Starts 2 (1 ∷ 0 ∷ []) ∷ []

-- member 1 takes factor 0 of token 0, its seat 0, with member 2's grant (events 6 to 8)
abbrev pub takes_first : List Course
takes_first = begins 1 0 0 ∷ gets 0 ∷ gets 2 ∷ []

-- the same, after which member 2 takes factor 3 of token 1, its seat 0
abbrev pub both_take : List Course
both_take = opens ++ takes_first ++ begins 2 0 3 ∷ gets 3 ∷ gets 5 ∷ []

-- Member 2 restarts without user 0. It neither proposes the token nor answers member 1. Member 3's store has no row.
abbrev pub goes_unheard : List Course
goes_unheard = opens ++ Starts 2 (1 ∷ []) ∷ begins 2 1 0 ∷ begins 1 0 0 ∷ gets 0 ∷ gets 1 ∷ []

-- User 0 comes back at member 2. It grants the factor to member 1, and proposes the next one.
abbrev pub comes_back : List Course
comes_back =
    goes_unheard ++ Starts 2 (1 ∷ 0 ∷ []) ∷ gets 0 ∷ gets 2 ∷ begins 2 1 0 ∷ begins 2 1 1 ∷ gets 3 ∷ gets 5 ∷ []

-- User 0 goes at member 1, which has granted factor 0 to member 2, and comes back in the other seat.
abbrev pub granted_before : List Course
granted_before =
    opens ++ begins 2 1 0 ∷ gets 0 ∷ gets 2 ∷ Starts 1 (1 ∷ []) ∷ Starts 1 (1 ∷ 0 ∷ []) ∷ begins 1 1 0 ∷ begins 1 1 1
    ∷ []

-- Each member has user 0, who goes at member 1. Member 2 takes factor 0 with member 3's grant.
abbrev pub used_elsewhere : List Course
used_elsewhere =
    adds 1 0 0 ∷ adds 2 0 0 ∷ adds 3 0 0 ∷ Starts 1 (0 ∷ []) ∷ Starts 2 (0 ∷ []) ∷ Starts 3 (0 ∷ []) ∷ Starts 1 []
    ∷ begins 2 0 0 ∷ gets 0 ∷ gets 1 ∷ gets 2 ∷ []

-- Then the user comes back at member 1, whose row is as it was. The others deny factor 0, and member 2 grants factor 1.
abbrev pub asked_again : List Course
asked_again =
    used_elsewhere ++ Starts 1 (0 ∷ []) ∷ begins 1 0 0 ∷ gets 3 ∷ gets 4 ∷ gets 5 ∷ gets 6 ∷ begins 1 0 1 ∷ gets 7
    ∷ gets 9 ∷ []

-- A start with a token without a row, or with one token in two seats, is one with the seats that the node had.
abbrev pub starts_wrongly : List Course
starts_wrongly =
    opens ++ Starts 3 (0 ∷ []) ∷ begins 3 0 0 ∷ Starts 1 (0 ∷ 0 ∷ []) ∷ begins 1 1 7 ∷ gets 0 ∷ gets 2 ∷ []

-- No row is added for a token that has one, or for an unknown token.
abbrev pub adds_again : List Course
adds_again =
    opens ++ takes_first ++ Starts 1 [] ∷ adds 1 0 0 ∷ adds 1 2 0 ∷ Starts 1 (0 ∷ []) ∷ Starts 1 (2 ∷ []) ∷ begins 1 0 0
    ∷ begins 1 0 1 ∷ []

-- a stop in the step that adds a row, or that proposes a factor, whose change is kept or dropped
abbrev pub adds_at_a_stop : Bool → List Course
adds_at_a_stop kept = Breaks kept (Adds 1 0 4) ∷ []

abbrev pub begins_at_a_stop : Bool → List Course
begins_at_a_stop kept = opens ++ Breaks kept (Begins 1 0 0 0 (pos 0)) ∷ []

-- A tick tells the floor of the token in the seat whose turn it is, here 4 of token 1. Member 2 also tells the floor of
-- token 0, its seat 1, and none of a missing seat.
abbrev pub tells : List Course
tells =
    adds 1 1 0 ∷ adds 2 0 0 ∷ adds 2 1 4 ∷ Starts 1 (1 ∷ []) ∷ Starts 2 (1 ∷ 0 ∷ []) ∷ Runs (Turns 2) ∷ gets 0
    ∷ Runs (Speaks 2 (1 ∷ 5 ∷ [])) ∷ []

-- a gate with failures
abbrev pub shut_gate : GateRecord
shut_gate = record { fails = 3; until = 90 }

-- member 1 shuts the gate of token 0, whose user goes and comes back in the other seat
abbrev pub shuts : List Course
shuts = opens ++ Runs (Shuts 1 0 shut_gate) ∷ Starts 1 (1 ∷ []) ∷ []

abbrev pub shuts_and_returns : List Course
shuts_and_returns = shuts ++ Starts 1 (1 ∷ 0 ∷ []) ∷ []

-- the last pass that the node's process sees after the events
abbrev pub last_at : ℕ → List Course → Option PassRecord
last_at node courses = ((sites_of courses).seen.own.nodes node).content.last

-- Member 1 is lost after it took factor 0, when user 0 has gone at member 2. Its store is replaced with the given
-- tokens and floor, and it proposes before and after its next start.
abbrev pub remade_with : List ℕ → ℕ → List Course
remade_with given floor =
    opens ++ takes_first ++ Starts 2 (1 ∷ []) ∷ Gone 1 ∷ Remade 1 3 given (λ token. floor) ∷ begins 1 0 1
    ∷ Starts 1 (0 ∷ []) ∷ begins 1 0 1 ∷ []

-- a lost node doesn't start
abbrev pub starts_lost : List Course
starts_lost = opens ++ Gone 1 ∷ Starts 1 (1 ∷ 0 ∷ []) ∷ []

-- a member that starts twice with the last boot but one: the second start stops it
abbrev pub at_the_last_boot : Sites
at_the_last_boot =
    go 0 (adds 1 0 0 ∷ adds 1 1 0 ∷ Starts 1 (0 ∷ 1 ∷ []) ∷ Starts 1 (1 ∷ 0 ∷ []) ∷ [])
    (blank_sites 3 2 (λ node. last_boot - 1) [])

-- Worked rosters: members that open with the bound 0 of one token, which no member has enrolled. Floor: the first free
-- factor of a token at a node.
use Rattle.std.specs.Prelude.{ℕ, pos, Bool, true, false, List, [], ◌∷◌, ◌++◌, length}
use Rattle.vote_core.specs.Examples.{Outcome, all_free}
use Rattle.vote_core.specs.Roster.{Happening, Does, Stops, Loses, Renews, Deed, Proposes, Hears, Ticks, Tells, Enrols, taken, posted}
use Rattle.vote_core.specs.Schedule.{first_opening}

-- no token is enrolled
abbrev pub none_enrolled : ℕ → ℕ → Bool
none_enrolled node token = false

-- the outcome of three members
abbrev pub outcome_over : List Happening → Outcome
outcome_over happenings = record {
  accepted = taken 3 1 (first_opening all_free) none_enrolled happenings;
  sent = length (posted 3 1 (first_opening all_free) none_enrolled happenings);
}

-- the enrolment of token 0 at the node with the given floor
abbrev pub enrolment : ℕ → ℕ → Deed
enrolment node floor = Enrols node (λ token. true) (λ token. floor)

abbrev pub enrols : ℕ → ℕ → Happening
enrols node floor = Does (enrolment node floor)

-- the node proposes one factor of token 0
abbrev pub asks_for : ℕ → ℕ → Happening
asks_for node factor = Does (Proposes node 0 factor factor (pos 0))

-- the node takes the message of that number
abbrev pub comes : ℕ → Happening
comes number = Does (Hears number)

-- the node's store is replaced at boot 2, with token 0 and its floor, or without the token
abbrev pub made_with : ℕ → ℕ → Happening
made_with node floor = Renews node 2 (λ token. true) (λ token. floor)

abbrev pub made_without : ℕ → Happening
made_without node = Renews node 2 (λ token. false) (λ token. 0)

-- node 1 takes factor 0 with node 2, in events 2 to 4; node 3 doesn't have the token
abbrev pub taken_by_two : List Happening
taken_by_two = enrols 1 0 ∷ enrols 2 0 ∷ asks_for 1 0 ∷ comes 0 ∷ comes 2 ∷ []

-- then node 3 enrols the token, and asks node 2 for the same factor
abbrev pub third_asks_second : List Happening
third_asks_second = enrols 3 0 ∷ asks_for 3 0 ∷ comes 4 ∷ []

-- node 3, which doesn't have the token, drops the messages about it
abbrev pub dropped_where_unknown : List Happening
dropped_where_unknown = enrols 1 0 ∷ enrols 2 0 ∷ asks_for 1 0 ∷ comes 1 ∷ comes 0 ∷ comes 2 ∷ []

-- node 3 has enrolled the token with a higher floor, and denies
abbrev pub enrolled_higher : List Happening
enrolled_higher =
    enrols 1 0 ∷ enrols 2 0 ∷ enrols 3 5 ∷ asks_for 1 0 ∷ comes 1 ∷ comes 0 ∷ comes 2 ∷ comes 3 ∷ []

-- a node doesn't propose a token that it hasn't enrolled
abbrev pub unknown_asked_for : List Happening
unknown_asked_for = enrols 2 0 ∷ asks_for 1 0 ∷ []

-- node 2 enrols the token again with a lower floor
abbrev pub enrolled_again : List Happening
enrolled_again = taken_by_two ++ enrols 2 0 ∷ third_asks_second

-- or with a higher floor, which changes nothing either: node 2 grants the next factor
abbrev pub enrolled_again_higher : List Happening
enrolled_again_higher = taken_by_two ++ enrols 2 7 ∷ enrols 3 0 ∷ asks_for 3 1 ∷ comes 4 ∷ comes 5 ∷ []

-- node 2's store is replaced with the token at the given floor
abbrev pub made_anew_with : ℕ → List Happening
made_anew_with floor = taken_by_two ++ Loses 2 ∷ made_with 2 floor ∷ third_asks_second

-- node 2's store is replaced without the token, which node 2 enrols later with the given floor
abbrev pub made_anew_without : ℕ → List Happening
made_anew_without floor = taken_by_two ++ Loses 2 ∷ made_without 2 ∷ enrols 2 floor ∷ third_asks_second

-- Node 1's store is replaced without the token. Then node 2's is replaced with it at the given floor, when no other
-- node has it.
abbrev pub both_made_anew : ℕ → List Happening
both_made_anew floor = taken_by_two ++ Loses 1 ∷ made_without 1 ∷ Loses 2 ∷ made_with 2 floor ∷ third_asks_second

-- nodes 1 and 2 of three are lost
abbrev pub two_made_anew : List Happening
two_made_anew = taken_by_two ++ Loses 1 ∷ Loses 2 ∷ made_with 2 9 ∷ third_asks_second

-- A tick tells the floor of the token, and a node without the token tells none. Node 2 enrols the token and hears the
-- floor, and so doesn't ask below it.
abbrev pub floors_told : List Happening
floors_told =
    enrols 1 4 ∷ Does (Ticks 1 (0 ∷ [])) ∷ Does (Ticks 1 []) ∷ Does (Tells 3 (0 ∷ [])) ∷ enrols 2 0 ∷ comes 0
    ∷ asks_for 2 3 ∷ Does (Tells 2 (0 ∷ 0 ∷ [])) ∷ []

-- a stop inside an enrolment that is kept, and inside one that is dropped
abbrev pub stopped_enrolments : List Happening
stopped_enrolments = Stops true (enrolment 1 0) ∷ Stops false (enrolment 2 0) ∷ asks_for 1 0 ∷ comes 0 ∷ []

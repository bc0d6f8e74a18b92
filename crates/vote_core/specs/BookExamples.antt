-- Worked books: three members and two names. Members 1 and 2 add the same tokens in different orders; member 3 adds
-- none. Floor: the first free factor of a token at a node.
use Rattle.std.specs.Prelude.{ℕ, pos, ◌==◌, if◌then◌else◌, List, [], ◌∷◌, ◌++◌, length}
use Rattle.vote_core.specs.Books.{Course, Runs, Gone, Remade, Begins, Gets, Turns, Speaks, Adds, blank_books, go}
use Rattle.vote_core.specs.Examples.{Outcome}

-- the outcome of three members that open at boot 1
abbrev pub outcome_in : List Course → Outcome
outcome_in courses = record {
  accepted = (go 0 courses (blank_books 3 2 (λ node. 1) [])).own.accepted;
  sent = length (go 0 courses (blank_books 3 2 (λ node. 1) [])).own.sent;
}

-- the node adds a row for the token `token`, with the given floor
abbrev pub adds : ℕ → ℕ → ℕ → Course
adds node token floor = Runs (Adds node token floor)

-- the node proposes a factor of its row `number`
abbrev pub begins_own : ℕ → ℕ → ℕ → Course
begins_own node number factor = Runs (Begins node number factor factor (pos 0))

abbrev pub gets : ℕ → Course
gets message = Runs (Gets message)

-- member 1 numbers names 0 and 1 in their order, member 2 in reverse; member 1 takes factor 0 of name 0
abbrev pub crossed : List Course
crossed =
    adds 1 0 0 ∷ adds 1 1 0 ∷ adds 2 1 0 ∷ adds 2 0 0 ∷ begins_own 1 0 0 ∷ gets 1 ∷ gets 0 ∷ gets 2 ∷ []

-- the same, after which member 2 takes factor 3 of name 1, its row 0
abbrev pub crossed_both : List Course
crossed_both = crossed ++ begins_own 2 0 3 ∷ gets 3 ∷ gets 5 ∷ []

-- or member 2 asks for factor 0 of name 0 again, its row 1
abbrev pub crossed_again : List Course
crossed_again = crossed ++ begins_own 2 1 0 ∷ []

-- a row is added neither for a name that has a row nor for an unknown name
abbrev pub added_twice : List Course
added_twice = crossed ++ adds 1 0 7 ∷ adds 1 2 0 ∷ begins_own 1 2 7 ∷ []

-- a tick tells the name of the row whose turn it is
abbrev pub turns_told : List Course
turns_told = adds 2 1 4 ∷ adds 1 1 0 ∷ Runs (Turns 2) ∷ gets 0 ∷ begins_own 1 0 3 ∷ begins_own 1 0 4 ∷ []

-- a member tells the floors of its rows 0 and 1, 4 of name 1 and 5 of name 0, and of a missing row
abbrev pub rows_told : List Course
rows_told =
    adds 2 1 4 ∷ adds 2 0 5 ∷ adds 1 0 0 ∷ Runs (Speaks 2 (0 ∷ 1 ∷ 2 ∷ [])) ∷ gets 0 ∷ gets 2 ∷ begins_own 1 0 4
    ∷ begins_own 1 0 5 ∷ Runs (Speaks 1 (0 ∷ [])) ∷ []

-- names 0 and 1 in reverse
abbrev pub other_way : ℕ → ℕ
other_way number = if number == 0 then 1 else 0

-- Member 2's store is replaced with `count` rows of the names in reverse, each with the given floor. Then member 2 asks
-- for factor 1 of its row 1, of name 0.
abbrev pub remade_with : ℕ → ℕ → List Course
remade_with count floor =
    crossed ++ Gone 2 ∷ Remade 2 2 count other_way (λ token. floor) ∷ begins_own 2 1 1 ∷ gets 3 ∷ gets 5 ∷ []

-- Worked cases: floors files and their content.
use Rattle.std.specs.Prelude.{ℕ, List, [], ◌∷◌, ◌++◌, replicate, codes, Result}
use Rattle.std.specs.List.{flat_map}
use Rattle.token_file.specs.Credential.{Credential}
use Rattle.token_file.specs.Examples.{event_token}
use Rattle.floors_file.specs.declared.fault.LineFault.{LineFault}
use Rattle.floors_file.specs.declared.floors.Head.{Head}
use Rattle.floors_file.specs.declared.gathered.Asked.{Asked}
use Rattle.floors_file.specs.Floors.{FloorRecord, FloorsRecord}
use Rattle.floors_file.specs.Reading.{floors_of}

-- a text of lines, each with an LF
abbrev pub text_of : List (List ℕ) → List ℕ
text_of lines = flat_map (λ line. line ++ 10 ∷ []) lines

-- the content of a text of lines
abbrev pub said_by : List (List ℕ) → Result FloorsRecord (ℕ × LineFault)
said_by lines = floors_of (text_of lines)

-- the content of a first line without rows
abbrev pub said_by_first : List ℕ → Result FloorsRecord (ℕ × LineFault)
said_by_first line = said_by (line ∷ [])

-- the content of the row of one user
abbrev pub said_by_row : List ℕ → Result FloorsRecord (ℕ × LineFault)
said_by_row row = said_by (codes "floors 1 2 3 7 5 1" ∷ row ∷ [])

-- `len` bytes `u`
abbrev pub word_of : ℕ → List ℕ
word_of len = replicate len 117

-- a row
abbrev pub row : List ℕ → ℕ → FloorRecord
row user next = record { user = user; next = next }

-- the floors of a node of three at a moment, with the given rows, at boot 7
abbrev pub floors_at : ℕ → ℕ → List FloorRecord → FloorsRecord
floors_at node moment rows =
    record { head = record { node = node; members = 3; boot = 7; moment = moment }; rows = rows }

-- the head of a node of `members` members, at boot 7 and moment 5
abbrev pub head_of_node : ℕ → ℕ → Head
head_of_node node members = record { node = node; members = members; boot = 7; moment = 5 }

-- two users
abbrev pub two_users : List Credential
two_users = event_token (codes "a") ∷ event_token (codes "b") ∷ []

-- the floors of node 1, node 2 and node 3
abbrev pub first_floors : FloorsRecord
first_floors = floors_at 1 100 (row (codes "a") 5 ∷ row (codes "b") 0 ∷ [])

-- the same users in another order
abbrev pub second_floors : FloorsRecord
second_floors = floors_at 2 101 (row (codes "b") 3 ∷ row (codes "a") 4 ∷ [])

abbrev pub third_floors : FloorsRecord
third_floors = floors_at 3 102 (row (codes "a") 6 ∷ row (codes "b") 2 ∷ [])

-- the conditions on files: read from moment 100 on, for a new boot of 8
abbrev pub asked : Asked
asked = record { since = 100; boot = 8 }

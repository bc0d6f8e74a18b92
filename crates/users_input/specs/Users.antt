-- The users file of an input, which is read line by line, and the lines after it.
use Rattle.std.specs.Prelude.{◌≡◌, ℕ, ◌+◌, ◌<◌, Bool, true, false, List, [], ◌∷◌, ◌++◌, length, Option, Some}
use Rattle.users_input.specs.Input.{TextLine, rest_part, lines_of, users_file, users_part}
use Rattle.users_input.specs.declared.users.Stage.{Stage}
use Rattle.users_input.specs.declared.users.Stage.TheVariants.{Users, Rest, Failed}

-- the number of a line of an input, from 1, and the line
abbrev pub NumberedLine : Type 0
NumberedLine = ℕ × TextLine

-- lines that are numbered from `number`
abbrev pub numbered : ℕ → List TextLine → List NumberedLine
numbered number [] = []
numbered number (line ∷ more) = (number, line) ∷ numbered (number + 1) more

-- the users file in a text with `room` bytes within the limit
abbrev pub users_text : ℕ → List ℕ → List ℕ
users_text room text = users_file (lines_of room text) text

-- the lines after the users file and `%%`, in the lines of a text that follow `taken` lines
abbrev pub rest_behind : ℕ → List TextLine → List NumberedLine
rest_behind taken lines = numbered (taken + length (users_part lines) + 2) (rest_part lines)

-- The rest of a users file: the unpulled part of a line, and the text after it. After a failure of the input, the line
-- is the part that was read before the failure.
abbrev pub users_left : Stage → ℕ → List ℕ → List ℕ → List ℕ
users_left Users room line text = line ++ users_text room text
users_left Rest room line text = line
users_left (Failed fault) room line text = users_text room (line ++ text)

-- the lines after the users file
abbrev pub rest_left : Stage → ℕ → ℕ → List ℕ → List ℕ → List NumberedLine
rest_left Users taken room line text = rest_behind taken (lines_of room text)
rest_left Rest taken room line text = numbered (taken + 1) (lines_of room text)
rest_left (Failed fault) taken room line text = rest_behind taken (lines_of room (line ++ text))

-- whether the input failed
abbrev pub is_failed : Stage → Bool
is_failed Users = false
is_failed Rest = false
is_failed (Failed fault) = true

-- a line is ready if lines of the users file may follow
abbrev pub IsFilled : Stage → List ℕ → Type 0
IsFilled Users line = 0 < length line
IsFilled Rest line = Unit {0}
IsFilled (Failed fault) line = Unit {0}

-- The lines are the rest of an input, from the line `first` on.
pub record HasRest (rest : List NumberedLine) (first room : ℕ) (left : Option (List ℕ)) : Type 0 where
  pub text : List ℕ
  pub left_is : left ≡ Some text
  pub read : numbered first (lines_of room text) ≡ rest

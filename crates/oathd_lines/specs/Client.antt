-- The lines of clients.
use Rattle.std.specs.Prelude.{ℕ, ◌+◌, List, [], ◌∷◌, Option, Some, None}
use Rattle.field_text.specs.Number.{number_of}
use Rattle.oath_node.specs.ReferenceServer.{Line}
use Rattle.field_text.specs.Cut.{Halves, halves_of}
use Rattle.users_input.specs.Input.{TextLine}

-- a client's line, if the client and the moment are numbers
abbrev pub line_of_numbers : Option ℕ → Option ℕ → List ℕ → Option Line
line_of_numbers (Some client) (Some moment) text = Some (record { client = client; moment = moment; text = text })
line_of_numbers _ _ text = None

-- a client's line, from the client's text and the halves of the rest: the moment and the line
abbrev pub moment_and_text : List ℕ → Option Halves → Option Line
moment_and_text client None = None
moment_and_text client (Some halves) = line_of_numbers (number_of client) (number_of halves.before) halves.behind

-- a client's line, from the halves of a line: the client and the rest
abbrev pub client_and_rest : Option Halves → Option Line
client_and_rest None = None
client_and_rest (Some halves) = moment_and_text halves.before (halves_of 32 halves.behind)

-- a client's number, a space, a moment, a space, and the client's line
abbrev pub client_line_of : List ℕ → Option Line
client_line_of line = client_and_rest (halves_of 32 line)

-- the client's line in a line of the input; a line that continues past the limit is bad
abbrev pub client_line_at : TextLine → Option Line
client_line_at None = None
client_line_at (Some line) = client_line_of line

-- the lines of clients before the first bad line, and the number of the bad line
pub record LinesRead : Type 0 where
  pub good : List Line
  pub bad : Option ℕ

-- a line followed by others; a bad line ends them
abbrev pub with_line : ℕ → Option Line → LinesRead → LinesRead
with_line number None rest = record { good = []; bad = Some number }
with_line number (Some line) rest = record { good = line ∷ rest.good; bad = rest.bad }

-- the lines of clients in lines that are numbered from `number`
abbrev pub client_lines : ℕ → List TextLine → LinesRead
client_lines number [] = record { good = []; bad = None }
client_lines number (line ∷ rest) = with_line number (client_line_at line) (client_lines (number + 1) rest)

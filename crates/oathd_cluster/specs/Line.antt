-- The lines for a cluster.
use Rattle.std.specs.Prelude.{ℕ, ◌+◌, ◌&&◌, nat_le, if◌then◌else◌, List, [], ◌∷◌, Option, Some, None}
use Rattle.field_text.specs.Cut.{Halves, halves_of}
use Rattle.field_text.specs.Number.{number_of}
use Rattle.users_input.specs.Input.{TextLine}

-- a client's line for a node, and the moment of its arrival
pub record NodeLine : Type 0 where
  pub node : ℕ
  pub moment : ℕ
  pub text : List ℕ

-- a line for a node from 1 to `nodes`
abbrev pub line_of_numbers : ℕ → Option ℕ → Option ℕ → List ℕ → Option NodeLine
line_of_numbers nodes (Some node) (Some moment) text =
    if nat_le 1 node && nat_le node nodes then Some (record { node = node; moment = moment; text = text }) else None
line_of_numbers nodes _ _ text = None

-- a line, from the node's text and the halves of the rest: the moment and the client's line
abbrev pub moment_and_text : ℕ → List ℕ → Option Halves → Option NodeLine
moment_and_text nodes node None = None
moment_and_text nodes node (Some halves) =
    line_of_numbers nodes (number_of node) (number_of halves.before) halves.behind

-- a line, from its halves: the node and the rest
abbrev pub node_and_rest : ℕ → Option Halves → Option NodeLine
node_and_rest nodes None = None
node_and_rest nodes (Some halves) = moment_and_text nodes halves.before (halves_of 32 halves.behind)

-- a node's number, from 1 to `nodes`, a space, a moment, a space, and the client's line
abbrev pub node_line_of : ℕ → List ℕ → Option NodeLine
node_line_of nodes line = node_and_rest nodes (halves_of 32 line)

-- the line for a node in a line of the input; a line that continues past the limit is bad
abbrev pub node_line_at : ℕ → TextLine → Option NodeLine
node_line_at nodes None = None
node_line_at nodes (Some line) = node_line_of nodes line

-- the lines before the first bad line, and the number of the bad line
pub record LinesRead : Type 0 where
  pub good : List NodeLine
  pub bad : Option ℕ

-- a line followed by others; a bad line ends them
abbrev pub with_line : ℕ → Option NodeLine → LinesRead → LinesRead
with_line number None rest = record { good = []; bad = Some number }
with_line number (Some line) rest = record { good = line ∷ rest.good; bad = rest.bad }

-- the lines for `nodes` nodes in lines that are numbered from `number`
abbrev pub node_lines : ℕ → ℕ → List TextLine → LinesRead
node_lines nodes number [] = record { good = []; bad = None }
node_lines nodes number (line ∷ rest) =
    with_line number (node_line_at nodes line) (node_lines nodes (number + 1) rest)

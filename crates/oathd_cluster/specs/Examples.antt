-- Lines for a cluster in the worked cases.
use Rattle.std.specs.Prelude.{ℕ, List}
use Rattle.users_input.specs.Input.{TextLine}
use Rattle.oathd_cluster.specs.Line.{LinesRead, NodeLine, node_lines}

-- a line for a node
abbrev pub line_for : ℕ → ℕ → List ℕ → NodeLine
line_for node moment text = record { node = node; moment = moment; text = text }

-- the lines for two nodes
abbrev pub read_for_two : ℕ → List TextLine → LinesRead
read_for_two number lines = node_lines 2 number lines

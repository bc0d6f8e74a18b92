-- Worked sweeps and rounds of three nodes with the one token of RFC 4226, Appendix D.
use Rattle.std.specs.Prelude.{ℕ, List, [], ◌∷◌, ◌++◌, length, codes}
use Rattle.oath_node.specs.Machine.{Config}
use Rattle.oath_node.specs.ReferenceServer.{Server, server_at}
use Rattle.cluster_sim.specs.Examples.{clock_config, clock_three, config, three, line_at, delivery, tick_of, first_at_1}
use Rattle.cluster_sim.specs.FrontEnds.{FrontedServer, fronted_after, server_at_front, service_at_front}
use Rattle.cluster_sim.specs.Rounds.{RoundLine, as_line, events_with_rounds, server_of, sweep_events}
use Rattle.cluster_sim.specs.World.{Start, WorldEvent, first_start, world_of}

-- a client's line at a node, at a moment
abbrev pub round_at : ℕ → ℕ → ℕ → List ℕ → RoundLine
round_at node client moment line = record { node = node; client = client; moment = moment; line = line }

-- the first code at node 1, and the second at node 2
abbrev pub two_lines : List RoundLine
two_lines =
    round_at 1 7 1000 (codes "CHECK a silver 755224 -") ∷ round_at 2 8 1000 (codes "CHECK b silver 287082 -") ∷ []

-- the same lines, and the first one again
abbrev pub three_lines : List RoundLine
three_lines = two_lines ++ round_at 1 9 1000 (codes "CHECK c silver 755224 -") ∷ []

-- rounds for the lines, without earlier events
abbrev pub rounds_from_start : List ℕ → List RoundLine → List WorldEvent
rounds_from_start live lines = events_with_rounds config three [] live lines

-- the first code at node 1
abbrev pub one_line : List RoundLine
one_line = round_at 1 7 1000 (codes "CHECK a silver 755224 -") ∷ []

-- Node 2 has granted the first code to node 1, which is lost. A tick of node 2 tells node 3 the floor (first free
-- factor).
abbrev pub one_lost : List WorldEvent
one_lost = first_at_1 ∷ delivery 2 0 ∷ tick_of 2 ∷ delivery 3 4 ∷ []

-- nodes 2 and 3 serve: the first code is used, the second one isn't
abbrev pub lines_after_loss : List RoundLine
lines_after_loss =
    round_at 3 8 1000 (codes "CHECK b silver 755224 -") ∷ round_at 3 8 1005 (codes "CHECK c silver 287082 -") ∷ []

-- node 1 is lost before any tick, and a line waits at node 3
abbrev pub one_waits : List WorldEvent
one_waits = first_at_1 ∷ delivery 2 0 ∷ line_at 3 8 1000 (codes "CHECK b silver 755224 -") ∷ []

-- the same, followed by a sweep of nodes 2 and 3
abbrev pub swept : List WorldEvent
swept = one_waits ++ sweep_events config (2 ∷ 3 ∷ []) (length one_waits) (world_of config three one_waits)

-- a line of the second code
abbrev pub line_after_sweep : List RoundLine
line_after_sweep = round_at 3 8 1005 (codes "CHECK c silver 287082 -") ∷ []

-- the code of the step before the present one at node 1, and of two steps before at nodes 2 and 1
abbrev pub lines_of_a_clock : List RoundLine
lines_of_a_clock =
    round_at 1 7 120 (codes "CHECK 1 silver 969429 -") ∷ round_at 2 7 180 (codes "CHECK 2 silver 338314 -")
    ∷ round_at 1 7 180 (codes "CHECK 2 silver 338314 -") ∷ []

-- rounds for the lines, under a drift of up to ten steps
abbrev pub clock_rounds : List WorldEvent
clock_rounds = events_with_rounds (clock_config 10) clock_three [] (1 ∷ 2 ∷ []) lines_of_a_clock

-- three nodes, the second of which has used up the first factor
abbrev pub not_level : Start
not_level = first_start ((0 ∷ []) ∷ (1 ∷ []) ∷ (0 ∷ []) ∷ [])

-- ---- Front ends

-- a server whose front ends have had no line
abbrev pub fronted_at : List ℕ → FrontedServer
fronted_at floors = record { floors = floors; fronts = λ place. (server_at floors).front }

-- its answers to the lines, one after another, each at its node's place
abbrev pub told_at_fronts : Config → FrontedServer → List RoundLine → List (List ℕ)
told_at_fronts given fronted [] = []
told_at_fronts given fronted (line ∷ lines) =
    (service_at_front given fronted line.node (as_line line)).told.bytes
    ∷ told_at_fronts given (fronted_after given fronted line.node (as_line line)) lines

-- the first code at place 1, again at place 2, and again at place 1
abbrev pub lines_again : List RoundLine
lines_again = one_line ++ round_at 2 7 1000 (codes "CHECK a silver 755224 -") ∷ one_line

-- a wrong code at place 1, and the first one there and at place 2
abbrev pub lines_after_failure : List RoundLine
lines_after_failure =
    round_at 1 7 1000 (codes "CHECK a silver 000000 -") ∷ round_at 1 7 1000 (codes "CHECK b silver 755224 -")
    ∷ round_at 2 7 1000 (codes "CHECK c silver 755224 -") ∷ []

-- the server of nodes 1 and 2 after two rounds, with the front end of node 2
abbrev pub server_after_rounds : Server
server_after_rounds =
    server_at_front (server_of (1 ∷ 2 ∷ []) (world_of config three (rounds_from_start (1 ∷ 2 ∷ []) two_lines))) 2

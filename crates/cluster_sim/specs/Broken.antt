-- Small worlds, each of which breaks one field of a promise about rounds. No contract cites them.
use Rattle.std.specs.Prelude.{ℕ, ◌^◌, List, [], ◌∷◌, codes}
use Rattle.vote_core.specs.Broken.{small_ballot}
use Rattle.vote_core.specs.State.{ballot_of}
use Rattle.client_lines.specs.declared.answer.Outcome.TheVariants.{Accepted}
use Rattle.oath_node.specs.Machine.{NodeState, stopped_node}
use Rattle.cluster_sim.specs.Examples.{config, line_at, three, told_outcome}
use Rattle.cluster_sim.specs.RoundExamples.{round_at}
use Rattle.cluster_sim.specs.Rounds.{RoundLine}
use Rattle.cluster_sim.specs.World.{Start, Answer, World, WorldEvent, first_start, opening_world, with_state}

-- three nodes at the start, and the first two of them
abbrev pub start_world : World
start_world = opening_world config three

abbrev pub first_two : List ℕ
first_two = 1 ∷ 2 ∷ []

-- the same nodes, with another second node
abbrev pub with_second : NodeState → World
with_second node = record start_world { nodes = with_state 2 node start_world.nodes }

-- the second node stopped
abbrev pub second_stopped : World
second_stopped = with_second (stopped_node (start_world.nodes 2))

-- the second node with a pending proposal
abbrev pub second_waiting : World
second_waiting =
    let node = start_world.nodes 2 in
    with_second (record node { voter = record node.voter { pending = ballot_of small_ballot ∷ [] } })

-- the second node with a waiting line
abbrev pub second_line_waiting : World
second_line_waiting =
    let node = start_world.nodes 2 in
    with_second (record node { owners = record { seq = 0; client = 7; line = []; nonce = [] } ∷ [] })

-- the second node without a number left
abbrev pub second_spent : World
second_spent =
    let node = start_world.nodes 2 in
    with_second (record node { voter = record node.voter { seq = 2 ^ 62 } })

-- three nodes whose floor (first free factor) is 1
abbrev pub raised : Start
raised = first_start ((1 ∷ []) ∷ (1 ∷ []) ∷ (1 ∷ []) ∷ [])

-- a line of client 7 at node 1, and the server's service of it
abbrev pub round_line : RoundLine
round_line = round_at 1 7 1000 (codes "CHECK a silver 755224 -")

abbrev pub first_ok : Answer
first_ok = told_outcome 2 1 7 (codes "a") (Accepted 0)

abbrev pub ok_given : List ℕ
ok_given = first_ok.bytes

-- a text that is not a line, at node 1
abbrev pub no_line_at_1 : List WorldEvent
no_line_at_1 = line_at 1 7 1000 (codes "CHECK") ∷ []

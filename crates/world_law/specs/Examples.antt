-- Worked histories of one node and of three, with the one token of RFC 4226, Appendix D. Floor: the first free factor
-- of a token at a node.
use Rattle.std.specs.Prelude.{ℕ, Bool, true, false, List, [], ◌∷◌, ◌++◌, replicate, Some, codes}
use Rattle.floor_store.specs.Records.{ProposalRecord, span_of}
use Rattle.vote_core.specs.Schedule.{Envelope}
use Rattle.vote_core.specs.declared.message.Message.{Message}
use Rattle.vote_core.specs.declared.message.Message.TheVariants.{Ask, Grant, Floor}
use Rattle.oath_node.specs.Machine.{NodeEvent, Client, Peer}
use Rattle.client_lines.specs.declared.answer.Outcome.TheVariants.{Accepted}
use Rattle.cluster_sim.specs.Examples.{config, told_outcome}
use Rattle.cluster_sim.specs.World.{Answer}
use Rattle.book_law.specs.Lives.{Action, Enrols, FailsToOpen, Offers, Opens, Output, State, Stops, StopsIn, Takes, Terms, ToPeer, state_of}
use Rattle.world_law.specs.SingleNode.{cluster_of_one, reference_of}
use Rattle.world_law.specs.Steady.{SteadyCluster, new_cluster, sealed_by, setting_of, terms_of}

-- ---- One node

-- one node
abbrev pub one_node : SteadyCluster
one_node = cluster_of_one config [] (0 ∷ [])

-- the terms of its processes
abbrev pub one_terms : Terms
one_terms = terms_of one_node

-- its store gets a row (action 0)
abbrev pub one_row : List Action
one_row = Enrols 1 0 0 ∷ []

-- a process opens its store
abbrev pub opens_one : Action
opens_one = Opens 1 one_terms

-- a right line of client 7
abbrev pub right_line : NodeEvent
right_line = Client 7 100 (codes "CHECK 1 silver 755224 -")

-- a process takes the line, and answers (actions 1 to 3)
abbrev pub answers_once : List Action
answers_once = opens_one ∷ Takes 1 right_line ∷ Offers 1 ∷ []

-- the acceptance's answer
abbrev pub first_ok : Answer
first_ok = told_outcome 2 1 7 (codes "1") (Accepted 0)

-- a process takes the line, and ends before it answers; the next process takes the line again
abbrev pub ends_before_the_answer : List Action
ends_before_the_answer =
    opens_one ∷ Takes 1 right_line ∷ Stops 1 ∷ Offers 1 ∷ opens_one ∷ Takes 1 right_line ∷ Offers 1 ∷ []

-- A process ends inside the step. Two more end while they open: one has raised the boot, and one hasn't. The next
-- process takes the line again.
abbrev pub ends_in_the_step : Bool → List Action
ends_in_the_step kept =
    opens_one ∷ StopsIn 1 kept right_line ∷ FailsToOpen 1 true ∷ FailsToOpen 1 false ∷ opens_one ∷ Takes 1 right_line
    ∷ Offers 1 ∷ []

-- a line arrives at a node without a process
abbrev pub comes_to_nobody : List Action
comes_to_nobody = Takes 1 right_line ∷ Offers 1 ∷ FailsToOpen 1 true ∷ Takes 1 right_line ∷ Offers 1 ∷ []

-- a process takes the right line twice
abbrev pub takes_twice : List Action
takes_twice = opens_one ∷ Takes 1 right_line ∷ Takes 1 right_line ∷ []

-- another node's actions between the single node's
abbrev pub among_strangers : List Action
among_strangers = Opens 2 one_terms ∷ opens_one ∷ Takes 2 right_line ∷ Takes 1 right_line ∷ Stops 2 ∷ []

-- the answers of the reference server to the actions of the single node
abbrev pub told_by_reference : List Action → List Answer
told_by_reference actions = reference_of config [] (0 ∷ []) one_row actions

-- the single node with a process
abbrev pub one_open : State
one_open = state_of (setting_of one_node) (one_row ++ opens_one ∷ [])

-- ---- Three nodes

-- three nodes with the floor 0
abbrev pub three_nodes : SteadyCluster
three_nodes = new_cluster config (replicate 32 1) (replicate 3 (0 ∷ []))

-- the terms of their processes
abbrev pub three_terms : Terms
three_terms = terms_of three_nodes

-- their stores get a row each (actions 0 to 2)
abbrev pub three_rows : List Action
three_rows = Enrols 1 0 0 ∷ Enrols 2 0 0 ∷ Enrols 3 0 0 ∷ []

-- the first proposal of node 1, in its first boot
abbrev pub first_proposal : ProposalRecord
first_proposal = record { node = 1; boot = 1; seq = 0 }

-- an envelope of one node to another
abbrev pub envelope_of : ℕ → ℕ → Message → Envelope
envelope_of sender receiver message = record { sender = sender; receiver = receiver; message = message }

-- node 1 asks node 2 for the first factor
abbrev pub ask : Envelope
ask = envelope_of 1 2 (Ask first_proposal 0 (span_of 0 0))

-- node 2 grants the factor
abbrev pub grant : Envelope
grant = envelope_of 2 1 (Grant first_proposal 0 (span_of 0 0))

-- the envelope alone was offered, under the cluster's key
abbrev pub offered_by : SteadyCluster → Envelope → List Output
offered_by cluster envelope = ToPeer (sealed_by cluster envelope) ∷ []

-- the arrival of an envelope from its sender
abbrev pub comes : Envelope → NodeEvent
comes envelope = Peer envelope.sender (Some envelope)

-- Node 3 has no process. Node 1 takes a line, and offers its Ask to node 2. Node 2 takes the Ask and offers its Grant,
-- which node 1 takes. Node 1 offers its Ask to node 3, and at last its answer (actions 3 to 11).
abbrev pub granted_by_two : List Action
granted_by_two =
    Opens 1 three_terms ∷ Opens 2 three_terms ∷ Takes 1 right_line ∷ Offers 1 ∷ Takes 2 (comes ask) ∷ Offers 2
    ∷ Takes 1 (comes grant) ∷ Offers 1 ∷ Offers 1 ∷ []

-- the Grant arrives after node 2 made it and before node 2 offered it
abbrev pub grant_before_its_offer : List Action
grant_before_its_offer =
    Opens 1 three_terms ∷ Opens 2 three_terms ∷ Takes 1 right_line ∷ Offers 1 ∷ Takes 2 (comes ask)
    ∷ Takes 1 (comes grant) ∷ Offers 2 ∷ []

-- a Grant that node 2 never made arrives at node 1 from the address of the node `from`
abbrev pub grant_from : ℕ → List Action
grant_from from = Opens 1 three_terms ∷ Takes 1 (Peer from (Some grant)) ∷ []

-- a process ends inside the step that takes such a Grant
abbrev pub stop_in_a_forged_grant : List Action
stop_in_a_forged_grant = Opens 1 three_terms ∷ StopsIn 1 true (comes grant) ∷ []

-- node 1 takes a line, and a Grant that node 2 never made
abbrev pub forged_grant_comes : List Action
forged_grant_comes = Opens 1 three_terms ∷ Takes 1 right_line ∷ Takes 1 (comes grant) ∷ []

-- node 2 tells node 1 the floor, which no process of node 2 offered
abbrev pub floor_from_nobody : List Action
floor_from_nobody = Opens 1 three_terms ∷ Takes 1 (comes (envelope_of 2 1 (Floor 0 4))) ∷ []

-- two of the three nodes with processes
abbrev pub two_open : State
two_open = state_of (setting_of three_nodes) (three_rows ++ Opens 1 three_terms ∷ Opens 2 three_terms ∷ [])

-- node 1 tells node 2 its floor 0
abbrev pub floor_comes : NodeEvent
floor_comes = comes (envelope_of 1 2 (Floor 0 0))

-- three nodes whose first stores had the given boots, after an envelope of a former time
abbrev pub nodes_after : List ℕ → Envelope → SteadyCluster
nodes_after boots envelope = record three_nodes { boots = boots; old = envelope ∷ [] }

-- three nodes, the second of which is one factor ahead
abbrev pub uneven_nodes : SteadyCluster
uneven_nodes = record three_nodes { floors = (0 ∷ []) ∷ (1 ∷ []) ∷ (0 ∷ []) ∷ [] }

-- their stores get their rows
abbrev pub uneven_rows : List Action
uneven_rows = Enrols 1 0 0 ∷ Enrols 2 0 1 ∷ Enrols 3 0 0 ∷ []

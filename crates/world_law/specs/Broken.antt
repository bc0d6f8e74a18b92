-- States and runs, each of which breaks one field of a promise. No contract cites them.
use Rattle.std.specs.Prelude.{List, [], ◌∷◌, ◌++◌, replicate, codes}
use Rattle.vote_core.specs.Broken.{small_ballot}
use Rattle.vote_core.specs.State.{ballot_of}
use Rattle.vote_core.specs.Voting.{fresh_voter}
use Rattle.vote_core.specs.declared.message.Message.TheVariants.{Floor}
use Rattle.oath_node.specs.Machine.{Config, NodeState, Client, opened_node}
use Rattle.cluster_sim.specs.Examples.{config_with, user_named}
use Rattle.cluster_sim.specs.World.{Deliver, Happens, Restart, Says, WorldEvent}
use Rattle.book_law.specs.Lives.{Action, Enrols, Offers, Opens, State, Takes, Terms, Up, state_of, seen_in}
use Rattle.world_law.specs.Examples.{comes, envelope_of, one_node, one_open, one_terms, three_nodes, uneven_nodes, uneven_rows}
use Rattle.world_law.specs.Steady.{SteadyCluster, enrolled_store, new_cluster, setting_of, terms_of}
use Rattle.world_law.specs.Worlds.{nothing}

-- ---- Terms and rows

-- the terms of one node, with another key
abbrev pub other_key : Terms
other_key = record one_terms { key = 1 ∷ [] }

-- two users
abbrev pub two_users : Config
two_users = config_with (user_named (codes "silver") ∷ user_named (codes "maple") ∷ [])

-- one node with both users
abbrev pub both_users : SteadyCluster
both_users = new_cluster two_users [] ((0 ∷ 0 ∷ []) ∷ [])

-- ---- States

-- the machine of the process that opened the first store of the one node
abbrev pub opened_machine : NodeState
opened_machine = opened_node (seen_in (enrolled_store one_node 1) (0 ∷ []))

-- a process with the machine, at every node
abbrev pub with_machine : NodeState → State
with_machine machine = record one_open { processes = λ node. Up one_terms (enrolled_store one_node 1) machine [] }

-- a machine with a pending proposal
abbrev pub pending_machine : NodeState
pending_machine = record opened_machine { voter = record fresh_voter { pending = ballot_of small_ballot ∷ [] } }

-- a machine with a waiting line
abbrev pub owning_machine : NodeState
owning_machine = record opened_machine { owners = record { seq = 0; client = 7; line = []; nonce = [] } ∷ [] }

-- three nodes, of which node 2 is one factor ahead, with processes at the nodes 1 and 2
abbrev pub uneven_open : State
uneven_open =
    state_of (setting_of uneven_nodes) (uneven_rows ++ Opens 1 (terms_of uneven_nodes) ∷ Opens 2 (terms_of uneven_nodes)
    ∷ [])

-- three nodes with two tokens, of which node 2 is one factor ahead in the second
abbrev pub uneven_tokens : SteadyCluster
uneven_tokens =
    new_cluster two_users (replicate 32 1) ((0 ∷ 0 ∷ []) ∷ (0 ∷ 1 ∷ []) ∷ (0 ∷ 0 ∷ []) ∷ [])

-- the same, with rows and with processes at the nodes 1 and 2
abbrev pub tokens_open : State
tokens_open =
    state_of (setting_of uneven_tokens) (Enrols 1 0 0 ∷ Enrols 1 1 0 ∷ Enrols 2 0 0 ∷ Enrols 2 1 1
    ∷ Opens 1 (terms_of uneven_tokens) ∷ Opens 2 (terms_of uneven_tokens) ∷ [])

-- ---- Runs

-- three nodes after node 2 told node 1 two floors (first free factors) in a former time
abbrev pub two_floors : SteadyCluster
two_floors =
    record three_nodes { old = envelope_of 2 1 (Floor 0 1) ∷ envelope_of 2 1 (Floor 0 2) ∷ [] }

-- the first of these floors arrives at node 1
abbrev pub old_floor_comes : List Action
old_floor_comes = Opens 1 (terms_of three_nodes) ∷ Takes 1 (comes (envelope_of 2 1 (Floor 0 1))) ∷ []

-- the run in which the second floor arrives there
abbrev pub second_floor_comes : List WorldEvent
second_floor_comes = nothing ∷ nothing ∷ nothing ∷ nothing ∷ Happens (Deliver 1 1) ∷ []

-- one node whose first store is at the boot before the last
abbrev pub late_node : SteadyCluster
late_node = record one_node { boots = 4611686018427387902 ∷ [] }

-- a process opens the store in the last boot, takes a bad line, and answers; a second process doesn't open it
abbrev pub answers_late : List Action
answers_late = Opens 1 one_terms ∷ Opens 1 one_terms ∷ Takes 1 (Client 7 100 []) ∷ Offers 1 ∷ []

-- the run in which the second process restarts the node, which stops
abbrev pub stops_late : List WorldEvent
stops_late = nothing ∷ nothing ∷ Restart 1 ∷ Happens (Says 1 7 100 []) ∷ nothing ∷ []

-- the process takes a second bad line after a second process failed to open the store
abbrev pub answers_twice_late : List Action
answers_twice_late =
    Opens 1 one_terms ∷ Takes 1 (Client 7 100 []) ∷ Offers 1 ∷ Opens 1 one_terms ∷ Takes 1 (Client 7 100 [])
    ∷ Offers 1 ∷ []

-- the run in which the node stops after its first answer
abbrev pub stops_between : List WorldEvent
stops_between =
    nothing ∷ nothing ∷ Happens (Says 1 7 100 []) ∷ nothing ∷ Restart 1 ∷ Happens (Says 1 7 100 []) ∷ nothing ∷ []

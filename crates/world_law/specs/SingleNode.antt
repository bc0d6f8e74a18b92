-- A cluster of one node and the reference server, over the same history.
use Rattle.std.specs.Prelude.{◌≡◌, ◌⊎◌, ◌==◌, ℕ, suc, Bool, true, false, if◌then◌else◌, List, [], ◌∷◌, ◌++◌, length}
use Rattle.oath_node.specs.Machine.{Config, Client}
use Rattle.oath_node.specs.ReferenceServer.{Server, restarted_server}
use Rattle.cluster_sim.specs.SingleNode.{opening_server, service_to, told_of_line}
use Rattle.cluster_sim.specs.World.{Answer}
use Rattle.book_law.specs.Lives.{Action, Opens, Takes, StopsIn, Loses, Remakes, Process, Down, Up, node_of_action, process_after}
use Rattle.world_law.specs.Steady.{SteadyCluster, enrolled_store, new_cluster, setting_of}

-- The server after an action at the node with the given process. The server takes each line that a process took and
-- whose change was kept, also if the process ended inside that step. A process that opens has lost the kept answers.
abbrev pub server_after_action : Config → Action → Process → Server → Server
server_after_action config (Opens node terms) (Down store) server = restarted_server server
server_after_action config (Takes node (Client client moment text)) (Up terms below state waiting) server =
    (service_to config server client moment text).server
server_after_action config (StopsIn node true (Client client moment text)) (Up terms below state waiting) server =
    (service_to config server client moment text).server
server_after_action config action process server = server

-- the answer to the client of a line that a process took in the action
abbrev pub answers_to_action : Config → ℕ → Action → Process → Server → List Answer
answers_to_action config event (Takes node (Client client moment text)) (Up terms below state waiting) server =
    told_of_line config event server client moment text ∷ []
answers_to_action config event action process server = []

-- the action loses the single node's store; it gets no replacement, because it was a majority
abbrev pub is_end : Action → Bool
is_end (Loses node) = node == 1
is_end action = false

-- the action is the single node's; while the node has its store it gets no replacement
abbrev pub is_of_one : Action → Bool
is_of_one (Remakes node boot given floor) = false
is_of_one action = 1 == node_of_action action

-- The server's answers in the actions, from the given process and server on. The first action has the given number.
-- There is none after the loss of the store. Actions of other nodes have no effect.
unfoldable pub answers_to_actions : SteadyCluster → ℕ → List Action → Process → Server → List Answer
answers_to_actions cluster first [] process server = []
answers_to_actions cluster first (action ∷ actions) process server =
    if is_end action then []
    else if is_of_one action
    then answers_to_action cluster.config first action process server
    ++ answers_to_actions cluster (suc first) actions (process_after (setting_of cluster) first action process)
    (server_after_action cluster.config action process server)
    else answers_to_actions cluster (suc first) actions process server

-- a new cluster of one node with the given floors (first free factors)
abbrev pub cluster_of_one : Config → List ℕ → List ℕ → SteadyCluster
cluster_of_one config key floors = new_cluster config key (floors ∷ [])

-- the answers of the server with the given floors in the actions of the single node, after the enrolments
abbrev pub reference_of : Config → List ℕ → List ℕ → List Action → List Action → List Answer
reference_of config key floors before actions =
    let cluster = cluster_of_one config key floors in
    answers_to_actions cluster (length before) actions (Down (enrolled_store cluster 1)) (opening_server config floors)

-- the first list is a subsequence of the second
abbrev pub IsPartOf : List Answer → List Answer → Type 0
IsPartOf [] all = Unit {0}
IsPartOf (answer ∷ part) [] = ⊥
IsPartOf (answer ∷ part) (first ∷ all) = ((answer ≡ first) × IsPartOf part all) ⊎ IsPartOf (answer ∷ part) all

-- The recovery after faults: a part of a history in which live members tick and take each other's floors, and take
-- nothing else. Floor: the first free factor of a token at a node.
use Rattle.std.specs.Prelude.{◌≡◌, ℕ, zero, suc, ◌+◌, ◌&&◌, ◌<◌, max, not, Bool, true, false, List, [], ◌∷◌, ◌++◌, length, map, Some}
use Rattle.std.specs.List.{filter}
use Rattle.vote_core.specs.Schedule.{Envelope, envelope_from, is_member}
use Rattle.oath_node.specs.Machine.{NodeState, Peer, Tick}
use Rattle.cluster_sim.specs.Rounds.{is_floor_to, is_live}
use Rattle.book_law.specs.Lives.{Action, Takes, Offers, Output, Process, State, Store, Terms, Down, Up, floor_of, made_by_input, node_of_action, state_after, state_of, store_at}
use Rattle.world_law.specs.Steady.{IsSteady, SteadyCluster, nodes_of, setting_of, tokens_of}

-- ---- Live members

-- a member with a running process
pub record IsLive (cluster : SteadyCluster) (state : State) (node : ℕ) : Type 0 where
  pub member : is_member (nodes_of cluster) node ≡ true
  pub terms : Terms
  pub below : Store
  pub machine : NodeState
  pub waiting : List Output
  pub is_up : state.processes node ≡ Up terms below machine waiting
  pub running : machine.running ≡ true

-- each of the nodes is a member with a running process
abbrev pub AreLive : SteadyCluster → List ℕ → State → Type 0
AreLive cluster live state = (node : ℕ) → is_live live node ≡ true → IsLive cluster state node

-- the floor of a token in the node's store
abbrev pub next_in : State → ℕ → ℕ → ℕ
next_in state node token = floor_of (store_at (state.processes node)) token

-- the greatest floor of a token in the stores of the nodes
abbrev pub greatest_in : List ℕ → State → ℕ → ℕ
greatest_in [] state token = 0
greatest_in (node ∷ nodes) state token = max (next_in state node token) (greatest_in nodes state token)

-- ---- A sweep

-- the action is an offer
abbrev pub is_offer : Action → Bool
is_offer (Offers node) = true
is_offer action = false

-- the action is a live member's, and not an offer
abbrev pub is_step_of : List ℕ → Action → Bool
is_step_of live action = is_live live (node_of_action action) && not (is_offer action)

-- the envelopes that the process sends in a tick
abbrev pub sent_by_tick : SteadyCluster → ℕ → Process → List Envelope
sent_by_tick cluster node (Down store) = []
sent_by_tick cluster node (Up terms below state waiting) =
    map (envelope_from node) (made_by_input (setting_of cluster) terms node Tick state).sends

-- the actions are the receivers of the envelopes taking them, in turn, from the node's address
abbrev pub AreTaken : ℕ → List Envelope → List Action → Type 0
AreTaken node [] actions = actions ≡ []
AreTaken node (envelope ∷ envelopes) actions =
    (rest : List Action) × (actions ≡ Takes envelope.receiver (Peer node (Some envelope)) ∷ rest)
    × AreTaken node envelopes rest

-- the actions are a tick of the node, and live members taking the floors that it tells them
abbrev pub IsTick : SteadyCluster → List ℕ → State → ℕ → List Action → Type 0
IsTick cluster live state node actions =
    (taken : List Action) × (actions ≡ Takes node Tick ∷ taken)
    × AreTaken node (filter (is_floor_to live) (sent_by_tick cluster node (state.processes node))) taken

-- `actions`, numbered from `first`, are the given number of ticks of `node`
abbrev pub IsTurn : SteadyCluster → List ℕ → ℕ → ℕ → State → ℕ → List Action → Type 0
IsTurn cluster live zero first state node actions = actions ≡ []
IsTurn cluster live (suc ticks) first state node actions =
    (one : List Action) × (rest : List Action) × (actions ≡ one ++ rest) × IsTick cluster live state node one
    × IsTurn cluster live ticks (length one + first) (state_after (setting_of cluster) first one state) node rest

-- the actions are a turn of each of the nodes: one tick for each token, and at least 8 ticks
abbrev pub AreTurns : SteadyCluster → List ℕ → ℕ → State → List ℕ → List Action → Type 0
AreTurns cluster live first state [] actions = actions ≡ []
AreTurns cluster live first state (node ∷ nodes) actions =
    (one : List Action) × (rest : List Action) × (actions ≡ one ++ rest)
    × IsTurn cluster live (max (tokens_of cluster) 8) first state node one
    × AreTurns cluster live (length one + first) (state_after (setting_of cluster) first one state) nodes rest

-- A sweep: without offers, the actions of live members are a turn of each of them. Other nodes may do anything.
abbrev pub IsSweep : SteadyCluster → List ℕ → State → List Action → Type 0
IsSweep cluster live state stretch = AreTurns cluster live 0 state live (filter (is_step_of live) stretch)

-- ---- The effect of a sweep

-- The node is live, and neither a proposal nor a line waits there. For each token its store has the greatest floor that
-- a live member had.
pub record IsSwept (cluster : SteadyCluster) (live : List ℕ) (old new : State) (node : ℕ) : Type 0 where
  pub is_live : IsLive cluster new node
  pub pending : is_live.machine.voter.pending ≡ []
  pub owners : is_live.machine.owners ≡ []
  pub next : (token : ℕ) → token < tokens_of cluster → next_in new node token ≡ greatest_in live old token

-- after any history of a cluster whose users file never changes, a sweep leaves each live member swept
abbrev pub SweepsLevel : Type 0
SweepsLevel =
    (cluster : SteadyCluster) (before actions stretch : List Action) (live : List ℕ) → IsSteady cluster before actions
    → let old = state_of (setting_of cluster) (before ++ actions) in
    AreLive cluster live old → IsSweep cluster live old stretch
    → (node : ℕ) → is_live live node ≡ true
    → IsSwept cluster live old (state_of (setting_of cluster) (before ++ actions ++ stretch)) node

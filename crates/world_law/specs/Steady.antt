-- Histories of a cluster whose users file, limits and key never change. Floor: the first free factor of a token at a
-- node.
use Rattle.std.specs.Prelude.{◌≡◌, ℕ, zero, suc, ◌+◌, ◌<◌, true, List, [], ◌∷◌, ◌++◌, length, map, Some}
use Rattle.seated_store.specs.Places.{own_seats}
use Rattle.vote_core.specs.Books.{blank_opening}
use Rattle.vote_core.specs.Safety.{MayOpen}
use Rattle.vote_core.specs.Schedule.{Envelope, is_member, last_boot}
use Rattle.oath_node.specs.Machine.{Config, NodeEvent, Peer}
use Rattle.cluster_sim.specs.World.{Start, floor_at}
use Rattle.book_law.specs.Lives.{Action, Enrols, OpensGate, Opens, Raises, Remakes, StopsIn, Takes, Unlocks, Output, Process, Sealed, Setting, State, Store, Terms, Down, Up, WasOffered, made_boot, state_after_action, state_of, store_with_rows}

-- A cluster whose users file, limits and key never change. It has the floors and the boots of the first stores of the
-- nodes 1, 2 .., 0 for a missing boot. It also has the envelopes of former times that may still arrive.
pub record SteadyCluster : Type 0 where
  pub config : Config
  pub key : List ℕ
  pub floors : List (List ℕ)
  pub boots : List ℕ
  pub old : List Envelope

-- a new cluster: its stores are at boot 0, and nothing was sent
abbrev pub new_cluster : Config → List ℕ → List (List ℕ) → SteadyCluster
new_cluster config key floors = record { config = config; key = key; floors = floors; boots = []; old = [] }

-- the number of nodes
abbrev pub nodes_of : SteadyCluster → ℕ
nodes_of cluster = length cluster.floors

-- the number of tokens
abbrev pub tokens_of : SteadyCluster → ℕ
tokens_of cluster = length cluster.config.book

-- the terms of each process: the token of a row of the users file is its place there
abbrev pub terms_of : SteadyCluster → Terms
terms_of cluster =
    record { config = cluster.config; key = cluster.key; seats = own_seats (tokens_of cluster) }

-- the envelope under the cluster's key
abbrev pub sealed_by : SteadyCluster → Envelope → Sealed
sealed_by cluster envelope = record { key = cluster.key; envelope = envelope }

-- the setting of its histories
abbrev pub setting_of : SteadyCluster → Setting
setting_of cluster = record {
  n = nodes_of cluster;
  tokens = tokens_of cluster;
  boots = cluster.boots;
  old = map (sealed_by cluster) cluster.old;
}

-- the node's store with a row for each token, in the order of the users file
abbrev pub enrolled_store : SteadyCluster → ℕ → Store
enrolled_store cluster node =
    store_with_rows (made_boot (setting_of cluster) node) (own_seats (tokens_of cluster)) (floor_at cluster.floors node)

-- the start of the world: each node is open in the boot after its first store's boot
abbrev pub start_of : SteadyCluster → Start
start_of cluster = record {
  n = nodes_of cluster;
  opening = record {
    boot = λ node. made_boot (setting_of cluster) node + 1;
    floor = floor_at cluster.floors;
    old = cluster.old;
  };
}

-- the action gives a store a row
abbrev pub IsEnrolment : Action → Type 0
IsEnrolment (Enrols node token floor) = Unit {0}
IsEnrolment action = ⊥

-- each of the actions does
abbrev pub AreEnrolments : List Action → Type 0
AreEnrolments [] = Unit {0}
AreEnrolments (action ∷ actions) = IsEnrolment action × AreEnrolments actions

-- The actions give each member's store its rows, and do nothing else.
pub record AreEnrolled (cluster : SteadyCluster) (before : List Action) : Type 0 where
  pub only : AreEnrolments before
  pub stores : (node : ℕ) → is_member (nodes_of cluster) node ≡ true
      → (state_of (setting_of cluster) before).processes node ≡ Down (enrolled_store cluster node)

-- the enrolments of a node's rows, in the order of the users file
abbrev pub rows_of : SteadyCluster → ℕ → List Action
rows_of cluster node =
    map (λ token. Enrols node token (floor_at cluster.floors node token)) (own_seats (tokens_of cluster))

-- the enrolments of the nodes from 1 up to the given one
abbrev pub enrolments_up_to : SteadyCluster → ℕ → List Action
enrolments_up_to cluster zero = []
enrolments_up_to cluster (suc node) = enrolments_up_to cluster node ++ rows_of cluster (suc node)

-- the enrolments of all nodes
abbrev pub enrolments_of : SteadyCluster → List Action
enrolments_of cluster = enrolments_up_to cluster (nodes_of cluster)

-- A process opens under the terms, and a replacement store gets the same rows and has a boot left. Nothing else writes
-- a row: no command, no enrolment and no operator.
abbrev pub IsSteadyAction : Terms → Action → Type 0
IsSteadyAction terms (Opens node own) = own ≡ terms
IsSteadyAction terms (Remakes node boot given floor) = (given ≡ terms.seats) × (boot < last_boot)
IsSteadyAction terms (Enrols node token floor) = ⊥
IsSteadyAction terms (Unlocks node token) = ⊥
IsSteadyAction terms (OpensGate node token) = ⊥
IsSteadyAction terms (Raises node token floor) = ⊥
IsSteadyAction terms action = Unit {0}

-- each of the actions is such an action
abbrev pub AreSteady : Terms → List Action → Type 0
AreSteady terms [] = Unit {0}
AreSteady terms (action ∷ actions) = IsSteadyAction terms action × AreSteady terms actions

-- An envelope that a process reads from its sender's own address was offered before, under its key. This is also asked
-- of an envelope that only tells a floor.
abbrev pub WasSent : Terms → List Output → NodeEvent → Type 0
WasSent terms offered (Peer from (Some envelope)) =
    envelope.sender ≡ from → WasOffered offered (record { key = terms.key; envelope = envelope })
WasSent terms offered input = Unit {0}

-- an input at a process was sent; without a process it is lost
abbrev pub WasSentTo : Process → List Output → NodeEvent → Type 0
WasSentTo (Down store) offered input = Unit {0}
WasSentTo (Up terms below state waiting) offered input = WasSent terms offered input

-- the action's input, if any, was sent, also inside a stop
abbrev pub WasSentIn : State → Action → Type 0
WasSentIn state (Takes node input) = WasSentTo (state.processes node) state.offered input
WasSentIn state (StopsIn node kept input) = WasSentTo (state.processes node) state.offered input
WasSentIn state action = Unit {0}

-- each of the actions has an input that was sent, if any; the first of them has the given number
unfoldable pub AreSent : Setting → ℕ → List Action → State → Type 0
AreSent setting first [] state = Unit {0}
AreSent setting first (action ∷ actions) state =
    WasSentIn state action × AreSent setting (suc first) actions (state_after_action setting first action state)

-- A history of a cluster whose users file never changes. First the stores get their rows. Then processes act.
-- Envelopes from before fit, and are of boots before those of the first stores.
pub record IsSteady (cluster : SteadyCluster) (before actions : List Action) : Type 0 where
  pub starts : MayOpen (nodes_of cluster) (tokens_of cluster)
      (blank_opening (made_boot (setting_of cluster)) cluster.old)
  pub enrolled : AreEnrolled cluster before
  pub steady : AreSteady (terms_of cluster) actions
  pub sent : AreSent (setting_of cluster) (length before) actions (state_of (setting_of cluster) before)

-- The assumption about the network, byte for byte. Floor: the first free factor of a token at a node.
use Rattle.std.specs.Prelude.{◌≡◌, ℕ, suc, ◌+◌, ◌^◌, ◌<◌, ◌≤◌, List, [], ◌∷◌, length, Option, Some, slice_get}
use Rattle.vote_core.specs.Books.{blank_opening}
use Rattle.vote_core.specs.Safety.{MayOpen}
use Rattle.vote_core.specs.Schedule.{Envelope}
use Rattle.vote_wire.specs.Body.{HasSpelling}
use Rattle.vote_wire.specs.Datagram.{datagram_bytes}
use Rattle.oath_node.specs.Hosted.{envelope_at}
use Rattle.oath_node.specs.Machine.{NodeEvent, Peer}
use Rattle.cluster_sim.specs.World.{floor_at}
use Rattle.book_law.specs.Lives.{Action, Remakes, StopsIn, Takes, Output, Process, Setting, State, Terms, ToPeer, Down, Up, made_boot, state_after_action, state_of}
use Rattle.world_law.specs.Steady.{AreEnrolled, AreSteady, SteadyCluster, nodes_of, setting_of, terms_of, tokens_of}

-- the ranges of a cluster
pub record IsSized (cluster : SteadyCluster) : Type 0 where
  pub tokens : tokens_of cluster ≤ 10000
  pub nodes : nodes_of cluster ≤ 9
  pub floors : (node token : ℕ) → floor_at cluster.floors node token ≤ 2 ^ 62
  pub boots : (node : ℕ) → made_boot (setting_of cluster) node + 1 < 2 ^ 62
  -- the envelopes of former times have spellings
  pub old : (i : ℕ) (envelope : Envelope) → slice_get cluster.old i ≡ Some envelope
      → HasSpelling envelope.sender envelope.receiver envelope.message

-- the bytes are a datagram that was offered before under the key, byte for byte
pub record WereOffered (key : List ℕ) (offered : List Output) (bytes : List ℕ) : Type 0 where
  pub place : ℕ
  pub envelope : Envelope
  pub is_there : slice_get offered place ≡ Some (ToPeer (record { key = key; envelope = envelope }))
  pub bytes_are : bytes ≡ datagram_bytes key envelope.sender envelope.receiver envelope.message

-- Bytes from an address are read. With a valid tag, from the address of the sender that they name, they were offered
-- before, byte for byte.
pub record IsUnforgedRead (key : List ℕ) (offered : List Output) (from : ℕ) (read : Option Envelope) : Type 0 where
  pub bytes : List ℕ
  pub reads : envelope_at key bytes ≡ read
  pub offers : (envelope : Envelope) → read ≡ Some envelope → envelope.sender ≡ from → WereOffered key offered bytes

-- the input is unforged, if it is a datagram
abbrev pub IsUnforged : Terms → List Output → NodeEvent → Type 0
IsUnforged terms offered (Peer from read) = IsUnforgedRead terms.key offered from read
IsUnforged terms offered input = Unit {0}

-- an input at a process is unforged; without a process it is lost
abbrev pub IsUnforgedAt : Process → List Output → NodeEvent → Type 0
IsUnforgedAt (Down store) offered input = Unit {0}
IsUnforgedAt (Up terms below state waiting) offered input = IsUnforged terms offered input

-- The action's input, if any, is unforged, also inside a stop. The floors of a replacement store are in range.
abbrev pub IsUnforgedAction : State → Action → Type 0
IsUnforgedAction state (Takes node input) = IsUnforgedAt (state.processes node) state.offered input
IsUnforgedAction state (StopsIn node kept input) = IsUnforgedAt (state.processes node) state.offered input
IsUnforgedAction state (Remakes node boot given floor) = (token : ℕ) → floor token ≤ 2 ^ 62
IsUnforgedAction state action = Unit {0}

-- each of the actions is unforged; the first of them has the given number
unfoldable pub AreUnforged : Setting → ℕ → List Action → State → Type 0
AreUnforged setting first [] state = Unit {0}
AreUnforged setting first (action ∷ actions) state =
    IsUnforgedAction state action
    × AreUnforged setting (suc first) actions (state_after_action setting first action state)

-- a history of a cluster whose users file never changes, in which no datagram is forged
pub record IsUnforgedHistory (cluster : SteadyCluster) (before actions : List Action) : Type 0 where
  pub starts : MayOpen (nodes_of cluster) (tokens_of cluster)
      (blank_opening (made_boot (setting_of cluster)) cluster.old)
  pub enrolled : AreEnrolled cluster before
  pub steady : AreSteady (terms_of cluster) actions
  pub unforged : AreUnforged (setting_of cluster) (length before) actions (state_of (setting_of cluster) before)

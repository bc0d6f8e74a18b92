-- Nodes over stores in memory, and a server that answers line by line, beside the reference server.
use Rattle.std.specs.Prelude.{◌≡◌, ℕ, ◌+◌, ◌^◌, ◌≤◌, List, Result, IfErr, IfOk, OnOk}
use Rattle.otp_core.specs.Limits.{Limits}
use Rattle.token_file.specs.Credential.{Credential}
use Rattle.floor_store.specs.Content.{Content, opening_content_at}
use Rattle.vote_core.specs.NodeSet.{PlaceRecord}
use Rattle.vote_core.specs.State.{voter_of}
use Rattle.oath_node.specs.Alone.{IsAlone, alone_place}
use Rattle.oath_node.specs.Hosted.{Hosted}
use Rattle.oath_node.specs.Machine.{NodeState, opened_node}
use Rattle.oath_node.specs.ReferenceServer.{Line, Server, service_of}
use Rattle.oath_node.specs.declared.fault.NodeFault.{NodeFault}

-- a node over a store in memory, as a server has it
abbrev pub Serving : Type 0
Serving = Hosted Content

-- the machine of the node
abbrev pub state_in_memory : Serving → NodeState
state_in_memory node = record {
  content = node.store;
  voter = voter_of node.voter;
  owners = node.owners;
  answers = node.answers;
  running = node.running;
}

-- a node of the place, open on a store in memory that was created at the boot with the given floors (first free
-- factors)
pub record IsInMemoryAt (boot : ℕ) (book : List Credential) (limits : Limits) (place : PlaceRecord)
    (key floors : List ℕ) (node : Serving) : Type 0 where
  pub state : state_in_memory node ≡ opened_node (opening_content_at boot floors)
  pub book_is : node.book ≡ book
  pub limits_are : node.limits ≡ limits
  pub key_is : node.key ≡ key
  pub place_is : node.voter.place ≡ place

-- a node of the place over a fresh store in memory with the given floors
abbrev pub IsInMemory : List Credential → Limits → PlaceRecord → List ℕ → List ℕ → Serving → Type 0
IsInMemory = IsInMemoryAt 0

-- the node is alone and in the state of the reference server over a book, after `count` lines
pub record IsServing (node : Serving) (book : List Credential) (limits : Limits) (count : ℕ)
    (server : Server) : Type 0 where
  pub book_is : node.book ≡ book
  pub limits_are : node.limits ≡ limits
  pub place_is : node.voter.place ≡ alone_place
  pub alone : IsAlone count (state_in_memory node) server

-- the node is in a state of the reference server over some book, after `count` lines
pub record IsServerAfter (node : Serving) (count : ℕ) : Type 0 where
  pub book : List Credential
  pub limits : Limits
  pub server : Server
  pub serving : IsServing node book limits count server

-- An answer with the bytes of the reference server's answer to the line. The node is then in the server's next state.
-- The first 2^62 lines are answered.
pub record IsAnswered {A : Type 0} (node : Serving) (book : List Credential) (limits : Limits) (count : ℕ)
    (server : Server) (line : Line) (bytes_in : A → List ℕ) (result : Result A NodeFault) : Type 0 where
  pub answer : IfOk result (λ value. bytes_in value ≡ (service_of book limits server line).told.bytes)
  pub serving : OnOk result
      (IsServing node book limits (count + 1) (service_of book limits server line).server)
  pub refused : IfErr result (λ fault. 2 ^ 62 ≤ count)

-- The view of a node over a store in contracts, and its machine.
use Rattle.std.specs.Prelude.{◌≡◌, ◌≢◌, ◌==◌, ℕ, ◌<◌, Bool, not, true, List, [], ◌∷◌, length, Option, None}
use Rattle.std.specs.Option.{option_map}
use Rattle.otp_core.specs.Limits.{Limits}
use Rattle.token_file.specs.Credential.{Credential}
use Rattle.floor_store.specs.Content.{Content}
use Rattle.floor_store.specs.Held.{Held}
use Rattle.vote_core.specs.Calls.{IsStoreOf}
use Rattle.vote_core.specs.Schedule.{Envelope}
use Rattle.vote_core.specs.State.{VoterRecord, voter_of}
use Rattle.vote_core.specs.Voting.{Ballot}
use Rattle.vote_wire.specs.Datagram.{datagram_at}
use Rattle.answer_ring.specs.Answers.{KeptAnswer}
use Rattle.oath_node.specs.Machine.{Config, Made, NodeEvent, NodeState, Owner, Client, Peer, Tick, is_pending, made_by_event}
use Rattle.oath_node.specs.declared.event.Event.{Event}
use Rattle.oath_node.specs.declared.event.Event.TheVariants.{Client as ClientEvent, Peer as PeerEvent, Tick as TickEvent}

-- a node: the store itself, beside the other parts as plain data
pub record Hosted (S : Type 0) : Type 0 where
  pub store : S
  pub book : List Credential
  pub limits : Limits
  -- the key of the cluster
  pub key : List ℕ
  pub voter : VoterRecord
  -- the owners of the pending proposals
  pub owners : List Owner
  pub answers : List KeptAnswer
  pub running : Bool

-- ---- The machine

-- the machine over the content, running
abbrev pub running_state : Content → VoterRecord → List Owner → List KeptAnswer → NodeState
running_state content voter owners answers =
    record { content = content; voter = voter_of voter; owners = owners; answers = answers; running = true }

-- the machine of the node, with its store's content
abbrev pub state_of : {S : Type 0} → (S → Held) → Hosted S → NodeState
state_of held node = record {
  content = (held node.store).content;
  voter = voter_of node.voter;
  owners = node.owners;
  answers = node.answers;
  running = node.running;
}

-- a client's line waits for votes
abbrev pub is_waiting : {S : Type 0} → Hosted S → Bool
is_waiting node = not (length node.owners == 0)

-- the configuration of the machine
abbrev pub config_of : {S : Type 0} → Hosted S → Config
config_of node = record { book = node.book; limits = node.limits }

-- the envelope of a datagram's bytes under the key
abbrev pub envelope_at : List ℕ → List ℕ → Option Envelope
envelope_at key bytes =
    option_map (λ read. record { sender = read.0; receiver = read.1; message = read.2 }) (datagram_at key bytes)

-- an event of the code, its datagram decoded under the key
abbrev pub event_of : List ℕ → Event → NodeEvent
event_of key (ClientEvent client moment line) = Client client moment line.now
event_of key (PeerEvent from bytes) = Peer from (envelope_at key bytes.now)
event_of key TickEvent = Tick

-- the result of the event at the node
abbrev pub made_of : {S : Type 0} → (S → Held) → Hosted S → NodeEvent → Made
made_of held node event = made_by_event (config_of node) node.voter.place event (state_of held node)

-- ---- The invariant of a node

-- none of the owners has the number `seq`
abbrev pub NotAmong : ℕ → List Owner → Type 0
NotAmong seq [] = Unit {0}
NotAmong seq (owner ∷ owners) = (owner.seq ≢ seq) × NotAmong seq owners

-- the owners have different numbers below `end`
abbrev pub AreApart : ℕ → List Owner → Type 0
AreApart end [] = Unit {0}
AreApart end (owner ∷ owners) = (owner.seq < end) × NotAmong owner.seq owners × AreApart end owners

-- the owners' proposals are pending
abbrev pub ArePending : List Ballot → List Owner → Type 0
ArePending ballots [] = Unit {0}
ArePending ballots (owner ∷ owners) = (is_pending ballots owner.seq ≡ true) × ArePending ballots owners

-- each waiting line has a proposal of its own
pub record IsOwned (node : NodeState) : Type 0 where
  pub apart : AreApart node.voter.seq node.owners
  pub pending : ArePending node.voter.pending node.owners

-- The invariant of every node. A stopped node only has a store with a row for each token.
pub record IsNode {S : Type 0} (held : S → Held) (node : Hosted S) : Type 0 where
  pub tokens : length (held node.store).content.rows ≡ length node.book
  -- the store is not broken, and the voter was opened on it
  pub works : node.running ≡ true → (held node.store).fault ≡ None
  pub store : node.running ≡ true → IsStoreOf node.voter (held node.store)
  pub owned : node.running ≡ true → (held node.store).is_clean → IsOwned (state_of held node)

-- the parts of a node that no call changes
pub record IsSameNode {S : Type 0} (old new : Hosted S) : Type 0 where
  pub book : new.book ≡ old.book
  pub limits : new.limits ≡ old.limits
  pub key : new.key ≡ old.key
  pub place : new.voter.place ≡ old.voter.place

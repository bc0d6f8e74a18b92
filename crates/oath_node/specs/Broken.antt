-- Small nodes, each of which breaks one field of a promise. No contract cites them.
use Rattle.std.specs.Prelude.{ℕ, ℤ, true, false, List, [], ◌∷◌, None, replicate, Result, Ok, Err, codes}
use Rattle.otp_core.specs.Limits.{default_limits}
use Rattle.floor_store.specs.Broken.{SmallStore, broken_at, fallen_at, holding, small_held, store_at}
use Rattle.floor_store.specs.Content.{opening_content}
use Rattle.floor_store.specs.declared.fault.StoreFault.TheVariants.{Disk}
use Rattle.vote_core.specs.Broken.{lone_voter, small_ballot}
use Rattle.vote_core.specs.Cases.{place}
use Rattle.vote_core.specs.State.{ballot_of}
use Rattle.oath_node.specs.Cases.{config, content_with, rows_at_start}
use Rattle.oath_node.specs.Examples.{narrow_limits, standing_with, three_tokens}
use Rattle.oath_node.specs.Grounds.{IsFitting}
use Rattle.oath_node.specs.Hosted.{Hosted, made_of, state_of}
use Rattle.oath_node.specs.Machine.{NodeEvent, NodeState, Owner, Peer, Tick, opened_node}
use Rattle.oath_node.specs.Outputs.{OutputsRecord, no_outputs, outputs_of}
use Rattle.oath_node.specs.ReferenceServer.{Line}
use Rattle.oath_node.specs.Rules.{Standing}
use Rattle.oath_node.specs.Serving.{Serving}
use Rattle.oath_node.specs.declared.fault.NodeFault.{NodeFault}
use Rattle.oath_node.specs.declared.fault.NodeFault.TheVariants.{Store, Stopped, Spent}

-- ---- Nodes over a store

-- a node that is alone over a small store, with the given key
abbrev pub node_over : SmallStore → List ℕ → Hosted SmallStore
node_over store key = record {
  store = store;
  book = [];
  limits = default_limits;
  key = key;
  voter = lone_voter;
  owners = [];
  answers = [];
  running = true;
}

-- the node at boot 0
abbrev pub small_node : Hosted SmallStore
small_node = node_over (store_at 0) []

-- the node over a disk that returned other bytes
abbrev pub fallen_node : Hosted SmallStore
fallen_node = node_over (fallen_at 0) []

-- the node, stopped
abbrev pub stopped : Hosted SmallStore → Hosted SmallStore
stopped node = record node { running = false }

-- the node after a failure of the disk
abbrev pub failed_node : Hosted SmallStore
failed_node = stopped (node_over (broken_at 0) [])

-- the node with one kept answer
abbrev pub answering : Hosted SmallStore → Hosted SmallStore
answering node = record node { answers = record { client = 7; line = codes "a"; text = codes "b" } ∷ [] }

-- the node with another key
abbrev pub keyed : Hosted SmallStore → Hosted SmallStore
keyed node = record node { key = 7 ∷ [] }

-- the node of the worked steps, with the number of its next proposal
abbrev pub node_of_three : ℕ → Hosted SmallStore
node_of_three seq = record (node_over (holding (content_with rows_at_start)) []) {
  book = config.book;
  limits = config.limits;
  voter = record lone_voter { tokens = 3; boot = 1; seq = seq };
}

-- the node under a key
abbrev pub under : List ℕ → Hosted SmallStore → Hosted SmallStore
under key node = record node { key = key }

-- node 1 of nine with 34 pending proposals, which no call leaves there
abbrev pub crowded_node : Hosted SmallStore
crowded_node = record small_node {
  voter = record lone_voter { place = place 1 9; ballots = replicate 34 small_ballot };
}

-- the node over the store at the next boot, after its opening
abbrev pub opened_at_1 : Hosted SmallStore
opened_at_1 = record (node_over (store_at 1) []) { voter = record lone_voter { boot = 1 } }

-- ---- Events and results

-- a datagram outside the format, which has no effect on a node
abbrev pub noise : NodeEvent
noise = Peer 2 None

-- the result of a call without messages and replies
abbrev pub quiet : Result OutputsRecord NodeFault
quiet = Ok no_outputs

-- a commit or a restart that succeeded
abbrev pub done : Result ℕ NodeFault
done = Ok 0

-- a commit or a restart that met a disk failure
abbrev pub failed : Result ℕ NodeFault
failed = Err (Store Disk)

-- a commit or a restart of a stopped node
abbrev pub was_stopped : Result ℕ NodeFault
was_stopped = Err Stopped

-- a call that found no number for a proposal
abbrev pub number_spent : Result ℕ NodeFault
number_spent = Err Spent

-- all messages and replies of a tick
abbrev pub all_of_a_tick : Hosted SmallStore → Result OutputsRecord NodeFault
all_of_a_tick node = Ok (outputs_of node.key node.voter.place (made_of small_held node Tick))

-- the owner of the proposal `seq`
abbrev pub owner_of : ℕ → Owner
owner_of seq = record { seq = seq; client = 7; line = codes "a"; nonce = codes "b" }

-- the machine of the small node with the owners, and the number of its next proposal
abbrev pub owning : List Owner → ℕ → NodeState
owning owners seq = record (state_of small_held small_node) {
  voter = record { pending = []; seq = seq; turn = 0 };
  owners = owners;
}

-- the machine of the small node with the owners and the next number, in which proposal 0 is pending
abbrev pub waiting : List Owner → ℕ → NodeState
waiting owners seq = record (owning owners seq) {
  voter = record { pending = ballot_of small_ballot ∷ []; seq = seq; turn = 0 };
}

-- ---- A node in memory

-- the machine of a node in memory with one token, whose floor (first free factor) is 5
abbrev pub first_state : NodeState
first_state = opened_node (opening_content (5 ∷ []))

-- the node, without a book
abbrev pub serving_node : Serving
serving_node = record {
  store = first_state.content;
  book = [];
  limits = default_limits;
  key = [];
  voter = record lone_voter { tokens = 1; boot = 1 };
  owners = [];
  answers = [];
  running = true;
}

-- ---- A line whose factors are proposed

-- the conditions on a proposed line, for one of three tokens under the narrow settings
abbrev pub IsProposed : Standing → ℕ → List ℕ → List ℕ → ℕ → ℕ → ℕ → ℤ → Type 0
IsProposed = IsFitting three_tokens narrow_limits

-- each of the three tokens is open, and has factor 0 free
abbrev pub all_free : Standing
all_free = record (standing_with 0 0) { next = λ token. 0 }

-- a text that is not a line
abbrev pub no_line : Line
no_line = record { client = 7; moment = 0; text = codes "CHECK" }

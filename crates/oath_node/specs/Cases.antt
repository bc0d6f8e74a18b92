-- Worked steps of a node: their views, and the nodes that they start from. The codes are from RFC 4226, Appendix D.
-- Floor: the first free factor of a token.
use Rattle.std.specs.Prelude.{ℕ, ℤ, pos, Bool, true, List, [], ◌∷◌, map, replicate, Option, Some, None, codes}
use Rattle.floor_store.specs.Content.{Content}
use Rattle.floor_store.specs.Records.{PassRecord, RowRecord, span_of}
use Rattle.vote_core.specs.Cases.{BallotView, ballot, free_row, open_row, place, proposal, voter, voter_seen}
use Rattle.vote_core.specs.declared.message.Message.{Message}
use Rattle.vote_core.specs.declared.message.Message.TheVariants.{Deny, Grant}
use Rattle.oath_node.specs.Examples.{drifting, narrow_limits, one_clock, three_tokens}
use Rattle.oath_node.specs.Machine.{Beginning, Config, Made, NodeEvent, NodeState, Client, Peer, made_by_event}

-- The view of a step: the replies by client, the messages by receiver, and parts of the next state. For each token
-- these are the floor, the failures and the drift. The other parts are the numbers of pending proposals and of waiting
-- owners, the kept texts, and whether the node runs.
pub record StepView : Type 0 where
  pub replies : List (ℕ × List ℕ)
  pub sends : List (ℕ × Message)
  pub floors : List ℕ
  pub fails : List ℕ
  pub drifts : List ℤ
  pub pending : List ℕ
  pub owners : List ℕ
  pub kept : List (List ℕ)
  pub running : Bool

-- the view of a step
abbrev pub step_view : Made → StepView
step_view made = record {
  replies = map (λ reply. (reply.client, reply.bytes)) made.replies;
  sends = made.sends;
  floors = map (λ row. row.next) made.state.content.rows;
  fails = map (λ row. row.gate.fails) made.state.content.rows;
  drifts = map (λ row. row.drift) made.state.content.rows;
  pending = map (λ ballot. ballot.seq) made.state.voter.pending;
  owners = map (λ owner. owner.seq) made.state.owners;
  kept = map (λ answer. answer.text) made.state.answers;
  running = made.state.running;
}

-- three tokens, a look-ahead of 5 and a range of 9
abbrev pub config : Config
config = record { book = three_tokens; limits = narrow_limits }

-- silver at 0, gold at 3, and iron without a factor left
abbrev pub rows_at_start : List RowRecord
rows_at_start = free_row 0 ∷ free_row 3 ∷ free_row 4611686018427387904 ∷ []

-- the rows at boot 1
abbrev pub content_with : List RowRecord → Content
content_with rows = record { rows = rows; boot = 1; last = None }

-- a node at the start, with the number of its next proposal
abbrev pub idle_node : ℕ → NodeState
idle_node seq = record {
  content = content_with rows_at_start;
  voter = voter_seen (voter [] seq 0);
  owners = [];
  answers = [];
  running = true;
}

-- silver's first code
abbrev pub first_line : List ℕ
first_line = codes "CHECK a silver 755224 -"

-- a node that has kept the answer to the line of client 7
abbrev pub node_with_kept : List ℕ → NodeState
node_with_kept text =
    record (idle_node 0) { answers = record { client = 7; line = first_line; text = text } ∷ [] }

-- the ballot of proposal 0 of node 1 for silver's factor 0, at the given age, with the nodes that denied it
abbrev pub first_ballot : ℕ → List ℕ → BallotView
first_ballot age denying = ballot 0 0 0 0 age (1 ∷ []) denying

-- node 1 of three after the line of client 7, with the ballot
abbrev pub asking_node : ℕ → List ℕ → NodeState
asking_node age denying = record {
  content = content_with (open_row 1 (proposal 1 1 0) 0 0 ∷ free_row 3 ∷ free_row 4611686018427387904 ∷ []);
  voter = voter_seen (voter (first_ballot age denying ∷ []) 1 0);
  owners = record { seq = 0; client = 7; line = first_line; nonce = codes "a" } ∷ [];
  answers = [];
  running = true;
}

-- a node with 32 waiting lines
abbrev pub full_node : NodeState
full_node = record (idle_node 32) { voter = voter_seen (voter (replicate 32 (first_ballot 0 [])) 32 0) }

-- the view of a step of node 1 of three
abbrev pub step_among : NodeEvent → NodeState → StepView
step_among event node = step_view (made_by_event config (place 1 3) event node)

-- the view of a step of a node alone
abbrev pub step_alone : NodeEvent → NodeState → StepView
step_alone event node = step_view (made_by_event config (place 1 1) event node)

-- a line of client 7 at moment 100
abbrev pub line : List ℕ → NodeEvent
line text = Client 7 100 text

-- a datagram of the message from the member's address
abbrev pub datagram : ℕ → ℕ → ℕ → Message → NodeEvent
datagram from sender receiver message =
    Peer from (Some (record { sender = sender; receiver = receiver; message = message }))

-- a Grant of node 1's first proposal
abbrev pub grant : Message
grant = Grant (proposal 1 1 0) 0 (span_of 0 0)

-- a Deny of the proposal, with silver's floor
abbrev pub denial : ℕ → Message
denial next = Deny (proposal 1 1 0) 0 next

-- the view of a step of a node at the start that sends, replies and changes nothing
abbrev pub nothing_at_start : StepView
nothing_at_start = record {
  replies = [];
  sends = [];
  floors = 0 ∷ 3 ∷ 4611686018427387904 ∷ [];
  fails = 0 ∷ 0 ∷ 0 ∷ [];
  drifts = pos 0 ∷ pos 0 ∷ pos 0 ∷ [];
  pending = [];
  owners = [];
  kept = [];
  running = true;
}

-- the view of such a step of a node that asks
abbrev pub nothing_of_asking : StepView
nothing_of_asking = record nothing_at_start {
  floors = 1 ∷ 3 ∷ 4611686018427387904 ∷ [];
  pending = 0 ∷ [];
  owners = 0 ∷ [];
}

-- a node at the start replies the text to client 7, and keeps it
abbrev pub told_at_start : List ℕ → StepView
told_at_start text = record nothing_at_start { replies = (7, text) ∷ []; kept = text ∷ [] }

-- a node that asked replies the text to client 7, keeps it, and no longer waits
abbrev pub told_of_asking : List ℕ → StepView
told_of_asking text = record nothing_of_asking {
  replies = (7, text) ∷ [];
  pending = [];
  owners = [];
  kept = text ∷ [];
}

-- the other parts of a step: the proposal that was begun, the pass, and the failure
abbrev pub facts_of : Made → Option Beginning × Option PassRecord × Option (ℕ × ℕ)
facts_of made = (made.began, made.pass, made.failed)

-- ---- drifts

-- a node with a token of 30 seconds, with the floor 4 and the given drift
abbrev pub clock_node : ℤ → NodeState
clock_node drift = record (idle_node 0) { content = content_with (record (free_row 4) { drift = drift } ∷ []) }

-- The drifts that the line with the code of step 4 leaves in step 6 at node 1 of `n`: in the rows, and in the pending
-- proposals.
abbrev pub drifts_left : ℕ → ℤ → List ℤ × List ℤ
drifts_left n drift =
    let clock : Config = record { book = one_clock; limits = drifting 10 } in
    let text = codes "CHECK a silver 338314 -" in
    let left = (made_by_event clock (place 1 n) (Client 7 180 text) (clock_node drift)).state in
    (map (λ row. row.drift) left.content.rows, map (λ ballot. ballot.drift) left.voter.pending)

-- The machine of a node. The rules answer a client's line. The node's voter, whose three calls are part of the machine,
-- takes proposals of the rules and messages of the other members. A datagram is represented by its envelope, or by None
-- if its bytes are outside the peer format.
use Rattle.std.specs.Prelude.{ℕ, ℤ, ◌-◌, ◌^◌, ◌==◌, ◌&&◌, nat_le, nat_lt, not, Bool, true, false, if◌then◌else◌, List, [], ◌∷◌, ◌++◌, length, map, filter, Option, Some, None}
use Rattle.std.specs.List.{flat_map, list_any}
use Rattle.std.specs.Str.{bytes_eq}
use Rattle.otp_core.specs.Limits.{Limits}
use Rattle.token_file.specs.Credential.{Credential}
use Rattle.otp_core.specs.Gate.{GateRecord, with_failure}
use Rattle.floor_store.specs.Content.{Content, with_next_boot}
use Rattle.floor_store.specs.Records.{ProposalRecord, PassRecord}
use Rattle.vote_core.specs.NodeSet.{PlaceRecord}
use Rattle.vote_core.specs.Rows.{row}
use Rattle.vote_core.specs.Schedule.{Envelope, content_with_gate, is_member, last_boot}
use Rattle.vote_core.specs.Voting.{Ballot, VoterState, Voted, fresh_voter, on_message, pass_in, proposal_of, propose, tick}
use Rattle.vote_core.specs.declared.message.Message.{Message}
use Rattle.vote_core.specs.declared.message.Message.TheVariants.{Ask, Grant, Deny, Floor}
use Rattle.vote_core.specs.declared.step.Decision.{Decision}
use Rattle.vote_core.specs.declared.step.Decision.TheVariants.{Accepted as Won, Spent as Lost, Timeout as Late}
use Rattle.client_lines.specs.Answer.{answer_bytes}
use Rattle.client_lines.specs.Request.{without_lf}
use Rattle.client_lines.specs.declared.answer.Answer.TheVariants.{BadLine, Reply as ReplyAnswer}
use Rattle.client_lines.specs.declared.answer.Outcome.{Outcome}
use Rattle.client_lines.specs.declared.answer.Outcome.TheVariants.{Accepted, Refused}
use Rattle.client_lines.specs.declared.answer.Reason.TheVariants.{Spent, Timeout}
use Rattle.answer_ring.specs.Answers.{KeptAnswer, kept_answer, kept_with}
use Rattle.oath_node.specs.Rules.{Standing, ruling}
use Rattle.oath_node.specs.declared.ruling.Ruling.{Ruling}
use Rattle.oath_node.specs.declared.ruling.Ruling.TheVariants.{Outside, Again, Waiting, Denied, Wrong, Fitting}

-- the configuration: the parts that are the same at all events and at all members
pub record Config : Type 0 where
  pub book : List Credential
  pub limits : Limits

-- the owner of a pending proposal: its client and line; the line has no LF at its end
pub record Owner : Type 0 where
  pub seq : ℕ
  pub client : ℕ
  pub line : List ℕ
  pub nonce : List ℕ

-- A node: its store's content, its voter, the owners of the pending proposals, the kept answers, and whether it runs.
pub record NodeState : Type 0 where
  pub content : Content
  pub voter : VoterState
  pub owners : List Owner
  pub answers : List KeptAnswer
  pub running : Bool

-- an event at a node: a client's line with its moment, a datagram from a member's address, or the passage of time
pub data NodeEvent : Type 0 where
  Client : (client moment : ℕ) (line : List ℕ) → NodeEvent
  Peer : (from : ℕ) (read : Option Envelope) → NodeEvent
  Tick : NodeEvent

-- a reply to a client
pub record Reply : Type 0 where
  pub client : ℕ
  pub bytes : List ℕ

-- a proposal, with its token and factors
pub record Beginning : Type 0 where
  pub proposal : ProposalRecord
  pub token : ℕ
  pub lo : ℕ
  pub hi : ℕ

-- The result of one event. It has the node's next state, each message beside its receiver, and the replies. It also has
-- the proposal that was begun, the pass that was written, and the failed token with its moment.
pub record Made : Type 0 where
  pub state : NodeState
  pub sends : List (ℕ × Message)
  pub replies : List Reply
  pub began : Option Beginning
  pub pass : Option PassRecord
  pub failed : Option (ℕ × ℕ)

-- the result without messages and replies
abbrev pub quiet_made : NodeState → Made
quiet_made node = record { state = node; sends = []; replies = []; began = None; pass = None; failed = None }

-- the result of one reply and at most one failure
abbrev pub reply_made : ℕ → List ℕ → Option (ℕ × ℕ) → NodeState → Made
reply_made client bytes failed node = record {
  state = node;
  sends = [];
  replies = record { client = client; bytes = bytes } ∷ [];
  began = None;
  pass = None;
  failed = failed;
}

-- the node, stopped
abbrev pub stopped_node : NodeState → NodeState
stopped_node node = record node { running = false }

-- the node with another kept answer
abbrev pub node_with_answer : ℕ → List ℕ → List ℕ → NodeState → NodeState
node_with_answer client line text node =
    record node { answers = kept_with node.answers (record { client = client; line = line; text = text }) }

-- the kept answers with other answers added, in order
abbrev pub kept_with_all : List KeptAnswer → List KeptAnswer → List KeptAnswer
kept_with_all kept [] = kept
kept_with_all kept (answer ∷ more) = kept_with_all (kept_with kept answer) more

-- ---- Before the rules

-- the line of the client waits for votes
abbrev pub is_owned : List Owner → ℕ → List ℕ → Bool
is_owned owners client line =
    list_any (λ (owner : Owner). (owner.client == client) && bytes_eq owner.line line) owners

-- the standing of the node that the rules ask about, for a client's line at a moment
abbrev pub standing_at : NodeState → ℕ → ℕ → List ℕ → Standing
standing_at node client moment line = record {
  kept = kept_answer node.answers client line;
  is_waiting = is_owned node.owners client line;
  is_full = nat_le 32 (length node.voter.pending);
  next = λ token. (row node.content token).next;
  drift = λ token. (row node.content token).drift;
  wait = λ token. (row node.content token).gate.until - moment;
}

-- the ruling on a client's line
abbrev pub ruling_at : Config → NodeState → ℕ → ℕ → List ℕ → Ruling
ruling_at config node client moment text =
    ruling config.book config.limits (standing_at node client moment (without_lf text)) moment text

-- ---- A failure

-- the gate of the token with another failure
abbrev pub gate_with_failure : Content → ℕ → ℕ → GateRecord
gate_with_failure content token moment = with_failure (row content token).gate moment

-- the content with a failure of the token, which changes only its gate
abbrev pub content_with_failure : ℕ → ℕ → Content → Content
content_with_failure token moment content = content_with_gate token (gate_with_failure content token moment) content

-- the node with a failure of the token
abbrev pub node_with_failure : ℕ → ℕ → NodeState → NodeState
node_with_failure token moment node = record node { content = content_with_failure token moment node.content }

-- ---- A call of the voter

-- the owner of the proposal `seq`
abbrev pub owner_with : ℕ → List Owner → Option Owner
owner_with seq [] = None
owner_with seq (owner ∷ owners) = if owner.seq == seq then Some owner else owner_with seq owners

-- the outcome that the owner of a decided proposal gets
abbrev pub outcome_of : Decision → Outcome
outcome_of (Won pass) = Accepted pass.hi
outcome_of Lost = Refused Spent
outcome_of Late = Refused Timeout

-- the answer to a decision, if its proposal has an owner
abbrev pub answer_to_decision : Decision → Option Owner → List KeptAnswer
answer_to_decision decision None = []
answer_to_decision decision (Some owner) = record {
  client = owner.client;
  line = owner.line;
  text = answer_bytes (ReplyAnswer owner.nonce (outcome_of decision));
} ∷ []

-- the answers to the decisions, in order
abbrev pub answers_to_decisions : List Owner → List (ℕ × Decision) → List KeptAnswer
answers_to_decisions owners decisions =
    flat_map (λ (made : ℕ × Decision). answer_to_decision made.1 (owner_with made.0 owners)) decisions

-- the proposal `seq` is pending
abbrev pub is_pending : List Ballot → ℕ → Bool
is_pending ballots seq = list_any (λ (ballot : Ballot). ballot.seq == seq) ballots

-- the owners whose proposals are pending
abbrev pub owners_of_pending : List Ballot → List Owner → List Owner
owners_of_pending ballots owners = filter (λ (owner : Owner). is_pending ballots owner.seq) owners

-- the reply that gives an answer
abbrev pub reply_with : KeptAnswer → Reply
reply_with answer = record { client = answer.client; bytes = answer.text }

-- The result of a call of the voter, with the given owners. The node sends the voter's messages, and answers and keeps
-- the voter's decisions.
abbrev pub made_by_vote : List Owner → Option Beginning → Voted → NodeState → Made
made_by_vote owners began voted node =
    let told = answers_to_decisions owners voted.decisions in
    record {
      state = record {
        content = voted.content;
        voter = voted.voter;
        owners = owners_of_pending voted.voter.pending owners;
        answers = kept_with_all node.answers told;
        running = node.running;
      };
      sends = voted.sends;
      replies = map reply_with told;
      began = began;
      pass = pass_in voted.decisions;
      failed = None;
    }

-- ---- A client's line

-- the node's next proposal, for the factors of the token
abbrev pub next_beginning : PlaceRecord → ℕ → ℕ → ℕ → NodeState → Beginning
next_beginning place token lo hi node =
    record { proposal = proposal_of place node.content node.voter; token = token; lo = lo; hi = hi }

-- the owner of the node's next proposal
abbrev pub next_owner : ℕ → List ℕ → List ℕ → NodeState → Owner
next_owner client line nonce node = record { seq = node.voter.seq; client = client; line = line; nonce = nonce }

-- the result of proposing the factors of the token, with the drift, for a client's line; a node without a number left
-- stops
unfoldable pub made_by_proposal : PlaceRecord → ℕ → List ℕ → List ℕ → ℕ → ℕ → ℕ → ℤ → NodeState → Made
made_by_proposal place client line nonce token lo hi drift node =
    let owners = node.owners ++ next_owner client line nonce node ∷ [] in
    let voted = propose place token lo hi drift node.content node.voter in
    if nat_lt node.voter.seq (2 ^ 62)
    then made_by_vote owners (Some (next_beginning place token lo hi node)) voted node
    else quiet_made (stopped_node node)

-- the result of a ruling on a client's line; every answer is kept, except the answer to a bad line
unfoldable pub made_by_ruling : PlaceRecord → ℕ → ℕ → List ℕ → Ruling → NodeState → Made
made_by_ruling place client moment line Outside node = reply_made client (answer_bytes BadLine) None node
made_by_ruling place client moment line (Again text) node = reply_made client text None node
made_by_ruling place client moment line Waiting node = quiet_made node
made_by_ruling place client moment line (Denied nonce reason) node =
    let text = answer_bytes (ReplyAnswer nonce (Refused reason)) in
    reply_made client text None (node_with_answer client line text node)
made_by_ruling place client moment line (Wrong nonce reason token) node =
    let text = answer_bytes (ReplyAnswer nonce (Refused reason)) in
    reply_made client text (Some (token, moment))
    (node_with_answer client line text (node_with_failure token moment node))
made_by_ruling place client moment line (Fitting nonce token span drift) node =
    made_by_proposal place client line nonce token span.lo span.hi drift node

-- the result of a client's line
abbrev pub made_by_line : Config → PlaceRecord → ℕ → ℕ → List ℕ → NodeState → Made
made_by_line config place client moment text node =
    made_by_ruling place client moment (without_lf text) (ruling_at config node client moment text) node

-- ---- A member's datagram

-- the token of a message
abbrev pub token_of : Message → ℕ
token_of (Ask proposal token span) = token
token_of (Grant proposal token span) = token
token_of (Deny proposal token next) = token
token_of (Floor token next) = token

-- the envelope is from the member that sent it, which is another member, for this node, and about a token of the book
abbrev pub is_heard : Config → PlaceRecord → ℕ → Envelope → Bool
is_heard config place from envelope =
    (envelope.sender == from)
    && ((envelope.receiver == place.me)
    && (not (envelope.sender == place.me)
    && (is_member place.n envelope.sender && nat_lt (token_of envelope.message) (length config.book))))

-- the result of a message of another member
abbrev pub made_by_message : PlaceRecord → ℕ → Message → NodeState → Made
made_by_message place from message node =
    made_by_vote node.owners None (on_message place from message node.content node.voter) node

-- the result of a datagram; one that is outside the format or not heard is dropped
unfoldable pub made_by_datagram : Config → PlaceRecord → ℕ → Option Envelope → NodeState → Made
made_by_datagram config place from None node = quiet_made node
made_by_datagram config place from (Some envelope) node =
    if is_heard config place from envelope then made_by_message place from envelope.message node else quiet_made node

-- ---- Each event

-- the result of a tick
abbrev pub made_by_tick : PlaceRecord → NodeState → Made
made_by_tick place node = made_by_vote node.owners None (tick place node.content node.voter) node

-- the result of an event at a running node
unfoldable pub made_while_running : Config → PlaceRecord → NodeEvent → NodeState → Made
made_while_running config place (Client client moment text) node = made_by_line config place client moment text node
made_while_running config place (Peer from read) node = made_by_datagram config place from read node
made_while_running config place Tick node = made_by_tick place node

-- the result of an event at a node; nothing at a stopped one
unfoldable pub made_by_event : Config → PlaceRecord → NodeEvent → NodeState → Made
made_by_event config place event node =
    if node.running then made_while_running config place event node else quiet_made node

-- ---- Opening and restart

-- a node over the content in a new boot: nothing waits, and no answer is kept
abbrev pub opened_node : Content → NodeState
opened_node content = record {
  content = with_next_boot content;
  voter = fresh_voter;
  owners = [];
  answers = [];
  running = true;
}

-- a node after a restart; at the last boot it stops
abbrev pub restarted_node : NodeState → NodeState
restarted_node node = if nat_lt node.content.boot last_boot then opened_node node.content else stopped_node node

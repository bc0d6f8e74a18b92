-- Views of a step and of a cluster, and the contents, voters and members of worked cases.
use Rattle.std.specs.Prelude.{ℕ, ℤ, pos, negsuc, zero, suc, ◌+◌, ◌==◌, nat_lt, Bool, true, false, ◌||◌, ◌&&◌, List, [], ◌∷◌, map, Option, Some, None, if◌then◌else◌, slice_index_or}
use Rattle.std.specs.List.{filter, flat_map}
use Rattle.floor_store.specs.Content.{Content}
use Rattle.floor_store.specs.Records.{ProposalRecord, RowRecord, PassRecord, span_of}
use Rattle.otp_core.specs.Acceptance.{Acceptance}
use Rattle.vote_core.specs.NodeSet.{PlaceRecord}
use Rattle.vote_core.specs.Schedule.{Act, Begin, Begun, Cluster, Cut, Envelope, Event, Happens, Member, Tick, after_event, may_begin, run}
use Rattle.vote_core.specs.Voting.{Ballot, VoterState, Voted, on_message, propose, tick}
use Rattle.vote_core.specs.declared.message.Message.{Message}
use Rattle.vote_core.specs.declared.message.Message.TheVariants.{Ask, Floor, Grant}
use Rattle.vote_core.specs.declared.step.Decision.{Decision}

-- ---- views

-- a ballot, with lists of the nodes that have granted and denied it
pub record BallotView : Type 0 where
  pub seq : ℕ
  pub token : ℕ
  pub lo : ℕ
  pub hi : ℕ
  pub drift : ℤ
  pub age : ℕ
  pub granting : List ℕ
  pub denying : List ℕ

-- a voter with views of its ballots
pub record VoterView : Type 0 where
  pub pending : List BallotView
  pub seq : ℕ
  pub turn : ℕ

-- a step with a view of the voter that it leaves
pub record StepView : Type 0 where
  pub content : Content
  pub voter : VoterView
  pub sends : List (ℕ × Message)
  pub begun : Option ProposalRecord
  pub decisions : List (ℕ × Decision)

-- a member with a view of its voter
pub record MemberView : Type 0 where
  pub content : Content
  pub voter : VoterView
  pub running : Bool

-- a cluster: the nodes 0 to 3 in order, and the proposals on record as begun
pub record ClusterView : Type 0 where
  pub n : ℕ
  pub nodes : List MemberView
  pub sent : List Envelope
  pub begun : List (ProposalRecord × Begun)
  pub accepted : List Acceptance

-- the set of the nodes in the list
abbrev pub set_of : List ℕ → ℕ → Bool
set_of [] node = false
set_of (first ∷ rest) node = (node == first) || set_of rest node

-- the nodes from 0 to 6 that are in the set
abbrev pub nodes_in : (ℕ → Bool) → List ℕ
nodes_in set = filter set (0 ∷ 1 ∷ 2 ∷ 3 ∷ 4 ∷ 5 ∷ 6 ∷ [])

-- the ballot of a view
abbrev pub ballot_seen : BallotView → Ballot
ballot_seen view = record {
  seq = view.seq;
  token = view.token;
  lo = view.lo;
  hi = view.hi;
  drift = view.drift;
  age = view.age;
  granting = set_of view.granting;
  denying = set_of view.denying;
}

-- the view of a ballot
abbrev pub ballot_view : Ballot → BallotView
ballot_view ballot = record {
  seq = ballot.seq;
  token = ballot.token;
  lo = ballot.lo;
  hi = ballot.hi;
  drift = ballot.drift;
  age = ballot.age;
  granting = nodes_in ballot.granting;
  denying = nodes_in ballot.denying;
}

-- the voter of a view
abbrev pub voter_seen : VoterView → VoterState
voter_seen view = record { pending = map ballot_seen view.pending; seq = view.seq; turn = view.turn }

-- the view of a voter
abbrev pub voter_view : VoterState → VoterView
voter_view voter = record { pending = map ballot_view voter.pending; seq = voter.seq; turn = voter.turn }

-- the view of a step
abbrev pub step_view : Voted → StepView
step_view step = record {
  content = step.content;
  voter = voter_view step.voter;
  sends = step.sends;
  begun = step.begun;
  decisions = step.decisions;
}

-- the member of a view
abbrev pub member_seen : MemberView → Member
member_seen view = record { content = view.content; voter = voter_seen view.voter; running = view.running }

-- the view of a member
abbrev pub member_view : Member → MemberView
member_view member =
    record { content = member.content; voter = voter_view member.voter; running = member.running }

-- ---- rows, contents, ballots and voters

-- the place of a node among `n` members
abbrev pub place : ℕ → ℕ → PlaceRecord
place me n = record { me = me; n = n }

-- the proposal of the node, boot and number
abbrev pub proposal : ℕ → ℕ → ℕ → ProposalRecord
proposal node boot seq = record { node = node; boot = boot; seq = seq }

-- the pass of a token's factors, of the boot and number
abbrev pub pass : ℕ → ℕ → ℕ → ℕ → ℕ → PassRecord
pass token lo hi boot seq = record { token = token; lo = lo; hi = hi; boot = boot; seq = seq }

-- a row without a grant, with a clear gate
abbrev pub free_row : ℕ → RowRecord
free_row next = record { next = next; grant = None; gate = record { fails = 0; until = 0 }; drift = pos 0 }

-- a row with a grant and a clear gate, of a token without drift
abbrev pub open_row : ℕ → ProposalRecord → ℕ → ℕ → RowRecord
open_row next by lo hi = record (free_row next) { grant = Some (by, span_of lo hi) }

-- a row with a grant and a clear gate, of a token whose clock is three time steps ahead
abbrev pub fast_row : ℕ → ProposalRecord → ℕ → ℕ → RowRecord
fast_row next by lo hi = record (open_row next by lo hi) { drift = pos 3 }

-- the row after two failures
abbrev pub with_failures : RowRecord → RowRecord
with_failures old = record old { gate = record { fails = 2; until = 130 } }

-- a row with a grant, after two failures, of a token whose clock is two time steps late
abbrev pub shut_row : ℕ → ProposalRecord → ℕ → ℕ → RowRecord
shut_row next by lo hi = record (with_failures (open_row next by lo hi)) { drift = negsuc 1 }

-- two rows at boot 7, after the given pass
abbrev pub two_rows : RowRecord → RowRecord → PassRecord → Content
two_rows first second last = record { rows = first ∷ second ∷ []; boot = 7; last = Some last }

-- factor 5 of token 0 granted to the fourth proposal of node 2
abbrev pub granted : Content
granted = two_rows (shut_row 6 (proposal 2 7 3) 5 5) (free_row 3) (pass 1 2 2 6 1)

-- factors 5 and 6 of token 0 granted to the fourth proposal of node 1, and factor 3 of token 1 to its fifth
abbrev pub proposed : Content
proposed = two_rows (shut_row 7 (proposal 1 7 3) 5 6) (open_row 4 (proposal 1 7 4) 3 3) (pass 1 2 2 6 1)

-- a ballot that keeps a drift of three, with the nodes that have granted and denied it
abbrev pub ballot : ℕ → ℕ → ℕ → ℕ → ℕ → List ℕ → List ℕ → BallotView
ballot seq token lo hi age granting denying = record {
  seq = seq;
  token = token;
  lo = lo;
  hi = hi;
  drift = pos 3;
  age = age;
  granting = granting;
  denying = denying;
}

-- a voter with the ballots, the next number and the token for the next Floor
abbrev pub voter : List BallotView → ℕ → ℕ → VoterView
voter pending seq turn = record { pending = pending; seq = seq; turn = turn }

-- a voter without ballots
abbrev pub idle_voter : VoterView
idle_voter = voter [] 4 1

-- the ballot of the fourth proposal of node 1, with the given answers
abbrev pub fourth : List ℕ → List ℕ → BallotView
fourth granting denying = ballot 3 0 5 6 2 granting denying

-- the ballot of the fifth proposal of node 1
abbrev pub fifth : BallotView
fifth = ballot 4 1 3 3 0 (1 ∷ []) []

-- node 1 with both ballots, after the given answers to the fourth
abbrev pub asking : List ℕ → List ℕ → VoterView
asking granting denying = voter (fourth granting denying ∷ fifth ∷ []) 5 1

-- ---- steps

-- the view of the step in which a node proposes factors of token 0, for a drift of three
abbrev pub proposed_at : PlaceRecord → ℕ → ℕ → Content → VoterView → StepView
proposed_at place lo hi content voter = step_view (propose place 0 lo hi (pos 3) content (voter_seen voter))

-- the view of the step of a node that takes a message
abbrev pub heard_at : PlaceRecord → ℕ → Message → Content → VoterView → StepView
heard_at place from message content voter = step_view (on_message place from message content (voter_seen voter))

-- the view of the step of node 1 of three, without ballots, on an Ask of the node `from`
abbrev pub asked_by : ℕ → Message → StepView
asked_by from message = heard_at (place 1 3) from message granted idle_voter

-- the view of the step of node 1 of five, which asks and has the given answers, on a message
abbrev pub heard_of_five : ℕ → Message → List ℕ → List ℕ → StepView
heard_of_five from message granting denying = heard_at (place 1 5) from message proposed (asking granting denying)

-- the decisions of node 1 of `n`, which asks and has the given answers, on a message
abbrev pub decided_of : ℕ → ℕ → Message → List ℕ → List ℕ → List (ℕ × Decision)
decided_of n from message granting denying =
    (heard_at (place 1 n) from message proposed (asking granting denying)).decisions

-- the view of a tick at node 1 of `n`
abbrev pub ticked_of : ℕ → Content → VoterView → StepView
ticked_of n content voter = step_view (tick (place 1 n) content (voter_seen voter))

-- a step that leaves the content and the voter, sends the messages, and decides nothing
abbrev pub telling : List (ℕ × Message) → Content → VoterView → StepView
telling sends content voter =
    record { content = content; voter = voter; sends = sends; begun = None; decisions = [] }

-- a Grant of node 1's fourth proposal
abbrev pub grant : Message
grant = Grant (proposal 1 7 3) 0 (span_of 5 6)

-- ---- clusters

-- equal proposals
abbrev pub is_proposal : ProposalRecord → ProposalRecord → Bool
is_proposal one other = (one.node == other.node) && ((one.boot == other.boot) && (one.seq == other.seq))

-- the record of a proposal in a list of begun proposals
abbrev pub begun_of : List (ProposalRecord × Begun) → ProposalRecord → Option Begun
begun_of [] proposal = None
begun_of (first ∷ rest) proposal = if is_proposal first.0 proposal then Some first.1 else begun_of rest proposal

-- the proposal beside its record, if it is on record
abbrev pub on_record : ProposalRecord → Option Begun → List (ProposalRecord × Begun)
on_record proposal None = []
on_record proposal (Some begun) = (proposal, begun) ∷ []

-- proposals with close nodes, boots and numbers
abbrev pub near_proposals : List ProposalRecord
near_proposals =
    proposal 1 3 3 ∷ proposal 1 3 4 ∷ proposal 1 3 5 ∷ proposal 1 4 4 ∷ proposal 2 3 4 ∷ proposal 1 1 0 ∷ proposal 1 1 1
    ∷ []

-- a node that is in none of the clusters below
abbrev pub outsider : MemberView
outsider = record {
  content = record { rows = free_row 5 ∷ free_row 0 ∷ []; boot = 8; last = None };
  voter = voter [] 0 1;
  running = true;
}

-- the cluster of a view
abbrev pub cluster_seen : ClusterView → Cluster
cluster_seen view = record {
  n = view.n;
  nodes = λ node. slice_index_or (map member_seen view.nodes) node (member_seen outsider);
  lost = λ node. false;
  least = λ token. 0;
  sent = view.sent;
  begun = begun_of view.begun;
  accepted = view.accepted;
}

-- the view of a cluster
abbrev pub cluster_view : Cluster → ClusterView
cluster_view cluster = record {
  n = cluster.n;
  nodes = map (λ (node : ℕ). member_view (cluster.nodes node)) (0 ∷ 1 ∷ 2 ∷ 3 ∷ []);
  sent = cluster.sent;
  begun = flat_map (λ (proposal : ProposalRecord). on_record proposal (cluster.begun proposal)) near_proposals;
  accepted = cluster.accepted;
}

-- the record of a proposal: the token, the factors, and the event in which it was begun
abbrev pub begun : ℕ → ℕ → ℕ → ℕ → Begun
begun token lo hi event = record { token = token; lo = lo; hi = hi; event = event }

-- a message on its way
abbrev pub envelope : ℕ → ℕ → Message → Envelope
envelope sender receiver message = record { sender = sender; receiver = receiver; message = message }

-- an acceptance of a token's factors at a node, with the events in which it began and ended
abbrev pub accepted : ℕ → ℕ → ℕ → ℕ → ℕ → ℕ → Acceptance
accepted began ended node token lo hi =
    record { began = began; ended = ended; node = node; token = token; lo = lo; hi = hi }

-- a content of two rows at a boot, after a pass of an earlier boot
abbrev pub content_at : ℕ → RowRecord → RowRecord → Content
content_at boot first second =
    record { rows = first ∷ second ∷ []; boot = boot; last = Some (pass 1 9 9 0 1) }

-- a content of two rows after the first opening
abbrev pub new_content : RowRecord → RowRecord → Content
new_content first second = record { rows = first ∷ second ∷ []; boot = 1; last = None }

-- a node that runs
abbrev pub runner : Content → VoterView → MemberView
runner content voter = record { content = content; voter = voter; running = true }

-- a stopped node
abbrev pub stopped : Content → VoterView → MemberView
stopped content voter = record { content = content; voter = voter; running = false }

-- the content of node 1 at boot 3, after node 2 asked it and it proposed
abbrev pub first_content : Content
first_content = content_at 3 (shut_row 5 (proposal 2 1 0) 4 4) (open_row 1 (proposal 1 3 3) 0 0)

-- the content after the acceptance of its proposal
abbrev pub accepted_content : Content
accepted_content = record first_content {
  rows = shut_row 5 (proposal 2 1 0) 4 4 ∷ fast_row 1 (proposal 1 3 3) 0 0 ∷ [];
  last = Some (pass 1 0 0 3 3);
}

-- the voter of node 1
abbrev pub first_voter : VoterView
first_voter = voter (ballot 3 1 0 0 2 (1 ∷ []) [] ∷ []) 4 0

-- the content of node 2
abbrev pub second_content : Content
second_content = content_at 1 (free_row 5) (free_row 0)

-- the voter of node 2
abbrev pub second_voter : VoterView
second_voter = voter [] 1 1

-- a fresh voter
abbrev pub new_voter : VoterView
new_voter = voter [] 0 0

-- the messages that nodes 1 and 2 have sent: an Ask, a Floor and a Grant
abbrev pub three_sent : List Envelope
three_sent =
    envelope 1 2 (Ask (proposal 1 3 3) 1 (span_of 0 0)) ∷ envelope 2 1 (Floor 0 9)
    ∷ envelope 2 1 (Grant (proposal 1 3 3) 1 (span_of 0 0)) ∷ []

-- Nodes 1 and 2 after these messages. Node 2 has accepted factor 4 of token 0. Node 1 has asked for factor 0 of token 1
-- since event 4.
abbrev pub pair_of : MemberView → MemberView → ClusterView
pair_of first second = record {
  n = 2;
  nodes = outsider ∷ first ∷ second ∷ outsider ∷ [];
  sent = three_sent;
  begun = (proposal 1 3 3, begun 1 0 0 4) ∷ [];
  accepted = accepted 0 1 2 0 4 4 ∷ [];
}

-- both nodes, running
abbrev pub pair : ClusterView
pair = pair_of (runner first_content first_voter) (runner second_content second_voter)

-- both nodes, with another content and voter of node 1
abbrev pub pair_with : Content → VoterView → ClusterView
pair_with content voter = pair_of (runner content voter) (runner second_content second_voter)

-- both nodes, with node 1 stopped
abbrev pub stopped_pair : Content → VoterView → ClusterView
stopped_pair content voter = pair_of (stopped content voter) (runner second_content second_voter)

-- the view of a cluster after event 7
abbrev pub after : Event → ClusterView → ClusterView
after event view = cluster_view (after_event 7 event (cluster_seen view))

-- the view of a cluster after the events, the first of which is event 7
abbrev pub after_all : List Event → ClusterView → ClusterView
after_all events view = cluster_view (run 7 events (cluster_seen view))

-- the act in which a node proposes factors of a token, for a drift of three
abbrev pub begin : ℕ → ℕ → ℕ → ℕ → Act
begin node token lo hi = Begin node token lo hi (pos 3)

-- whether a node may propose these factors
abbrev pub may_propose : ClusterView → ℕ → ℕ → ℕ → ℕ → Bool
may_propose view node token lo hi = may_begin (cluster_seen view) node token lo hi

-- the given number of ballots
abbrev pub ballots : ℕ → List BallotView
ballots zero = []
ballots (suc count) = ballot count 1 0 0 0 (1 ∷ []) [] ∷ ballots count

-- node 1 with the given number of ballots
abbrev pub pair_waiting : ℕ → ClusterView
pair_waiting count = pair_with first_content (voter (ballots count) 32 0)

-- floors that differ by node, from 0 to 3, and by token, 0 and 1
abbrev pub own_floors : ℕ → ℕ → ℕ
own_floors node token = slice_index_or (0 ∷ 10 ∷ 20 ∷ 30 ∷ []) node 90 + token

-- a schedule of a single node: one factor, a tick, two factors, a stop that drops the next factor, and the next factor
-- again
abbrev pub alone : List Event
alone =
    Happens (Begin 1 0 10 10 (negsuc 0)) ∷ Happens (Tick 1) ∷ Happens (Begin 1 0 11 12 (pos 3))
    ∷ Cut false (Begin 1 0 13 13 (pos 4)) ∷ Happens (Begin 1 0 13 13 (pos 4)) ∷ []

-- A node takes factor 5 of each token in event 1, and the other nodes keep it.
abbrev pub taken_at : ℕ → ℕ → ℕ → ℕ → ℕ
taken_at taker node token event = if (node == taker) && nat_lt 1 event then 6 else 5

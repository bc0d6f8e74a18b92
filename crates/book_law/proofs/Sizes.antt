-- No event of a node changes its number of rows. The lemmas about votes are also in cluster_sim.
use Rattle.std.proofs.Common.{◌≡◌, ℕ, ℤ, ◌^◌, cond, List, [], ◌∷◌, length, Option, Some, None, refl, ◌∙◌, eqb, leb, ltb}
use Rattle.std.proofs.lemmas.Bool.{cond_both}
use Rattle.floor_store.specs.Content.{Content, with_row}
use Rattle.floor_store.specs.Records.{ProposalRecord, span_of}
use Rattle.otp_core.specs.Acceptance.{size, majority_of}
use Rattle.vote_core.specs.NodeSet.{PlaceRecord, with_node}
use Rattle.vote_core.specs.Rows.{row, row_with_gate, granted_row, row_with_next}
use Rattle.vote_core.specs.Schedule.{Envelope}
use Rattle.vote_core.specs.Voting.{VoterState, Voted, Ballot, with_pending, replace, with_granting, accept, granted_one, of_this_boot, denied_one, propose_alone, propose_among, propose, is_grant, reply_step, on_ask, count_grant, on_grant, raise, count_deny, on_deny, on_floor, on_message, tick, quiet_step}
use Rattle.vote_core.proofs.Basics.{put_size}
use Rattle.vote_core.specs.declared.message.Message.{Message}
use Rattle.vote_core.specs.declared.message.Message.TheVariants.{Ask, Grant, Deny, Floor}
use Rattle.oath_node.specs.Machine.{Config, NodeEvent, NodeState, Client, Peer, Tick, Made, gate_with_failure, is_heard, made_by_datagram, made_by_event, made_by_message, made_by_proposal, made_by_ruling, made_while_running, quiet_made, ruling_at, stopped_node}
use Rattle.oath_node.specs.Turns.{Member, run_with_event, run_with_events, Run}
use Rattle.oath_node.specs.declared.ruling.Ruling.{Ruling}
use Rattle.oath_node.specs.declared.ruling.Ruling.TheVariants.{Outside, Again, Waiting, Denied, Wrong, Fitting}
use Rattle.client_lines.specs.Request.{without_lf}

abbrev Same : Content → Voted → Type 0
Same c s = length s.content.rows ≡ length c.rows

ask_size : (from : ℕ) (p : ProposalRecord) (t lo hi : ℕ) (c : Content) (v : VoterState) → Same c (on_ask from p t lo hi c v)
unfolding on_ask
ask_size from p t lo hi c v =
    let grants = reply_step from (Grant p t (span_of lo hi)) (with_row c t (granted_row p lo hi (row c t)) None) v in
    let denies = reply_step from (Deny p t (row c t).next) c v in
    cond_both (is_grant p lo hi (row c t).grant) (reply_step from (Grant p t (span_of lo hi)) c v) (cond (leb (row c t).next lo) grants denies) (λ s. Same c s)
    (λ _. refl)
    (λ _. cond_both (leb (row c t).next lo) grants denies (λ s. Same c s) (λ _. put_size c t (granted_row p lo hi (row c t)) None) (λ _. refl))

count_size : (place : PlaceRecord) (from : ℕ) (c : Content) (v : VoterState) (o : Option Ballot) → Same c (count_grant place from c v o)
unfolding count_grant accept
count_size place from c v None = refl
count_size place from c v (Some q) =
    cond_both (leb (majority_of place.n) (size place.n (with_node from q.granting))) (accept (with_granting from q) c v) (quiet_step c (with_pending (replace (with_granting from q) v.pending) v)) (λ s. Same c s)
    (λ _. put_size c q.token _ None) (λ _. refl)

grant_size : (place : PlaceRecord) (from : ℕ) (p : ProposalRecord) (t lo hi : ℕ) (c : Content) (v : VoterState) → Same c (on_grant place from p t lo hi c v)
unfolding on_grant
grant_size place from p t lo hi c v = count_size place from c v (granted_one from t lo hi (of_this_boot c p v))

raise_size : (t next : ℕ) (c : Content) → length (raise t next c).rows ≡ length c.rows
unfolding raise
raise_size t next c = cond_both (ltb (row c t).next next) (with_row c t (row_with_next next (row c t)) None) c (λ d. length d.rows ≡ length c.rows) (λ _. put_size c t _ None) (λ _. refl)

discount_size : (place : PlaceRecord) (from : ℕ) (c : Content) (v : VoterState) (o : Option Ballot) → Same c (count_deny place from c v o)
unfolding count_deny
discount_size place from c v None = refl
discount_size place from c v (Some q) = cond_both _ _ _ (λ s. Same c s) (λ _. refl) (λ _. refl)

deny_size : (place : PlaceRecord) (from : ℕ) (p : ProposalRecord) (t next : ℕ) (c : Content) (v : VoterState) → Same c (on_deny place from p t next c v)
unfolding on_deny
deny_size place from p t next c v = discount_size place from (raise t next c) v (denied_one from t (of_this_boot c p v)) ∙ raise_size t next c

message_size : (place : PlaceRecord) (from : ℕ) (m : Message) (c : Content) (v : VoterState) → Same c (on_message place from m c v)
unfolding on_message on_floor
message_size place from (Ask p t span) c v = ask_size from p t span.lo span.hi c v
message_size place from (Grant p t span) c v = grant_size place from p t span.lo span.hi c v
message_size place from (Deny p t next) c v = deny_size place from p t next c v
message_size place from (Floor t next) c v = raise_size t next c

propose_size : (place : PlaceRecord) (t lo hi : ℕ) (drift : ℤ) (c : Content) (v : VoterState) → Same c (propose place t lo hi drift c v)
unfolding propose propose_alone propose_among
propose_size place t lo hi drift c v =
    cond_both (eqb place.n 1) (propose_alone place t lo hi drift c v) (propose_among place t lo hi drift c v) (λ s. Same c s) (λ _. put_size c t _ None) (λ _. put_size c t _ None)

tick_size : (place : PlaceRecord) (c : Content) (v : VoterState) → Same c (tick place c v)
unfolding tick
tick_size place c v = refl

-- ---- a node's events

abbrev Made_same : NodeState → Made → Type 0
Made_same node made = length made.state.content.rows ≡ length node.content.rows

proposal_size : (place : PlaceRecord) (client : ℕ) (line nonce : List ℕ) (token lo hi : ℕ) (drift : ℤ) (node : NodeState) → Made_same node (made_by_proposal place client line nonce token lo hi drift node)
unfolding made_by_proposal
proposal_size place client line nonce token lo hi drift node =
    cond_both (ltb node.voter.seq (2 ^ 62)) _ (quiet_made (stopped_node node)) (λ made. Made_same node made)
    (λ _. propose_size place token lo hi drift node.content node.voter) (λ _. refl)

ruling_size : (place : PlaceRecord) (client moment : ℕ) (line : List ℕ) (ruling : Ruling) (node : NodeState) → Made_same node (made_by_ruling place client moment line ruling node)
unfolding made_by_ruling
ruling_size place client moment line Outside node = refl
ruling_size place client moment line (Again text) node = refl
ruling_size place client moment line Waiting node = refl
ruling_size place client moment line (Denied nonce reason) node = refl
ruling_size place client moment line (Wrong nonce reason token) node = put_size node.content token (row_with_gate (gate_with_failure node.content token moment) (row node.content token)) None
ruling_size place client moment line (Fitting nonce token span drift) node = proposal_size place client line nonce token span.lo span.hi drift node

datagram_size : (config : Config) (place : PlaceRecord) (from : ℕ) (read : Option Envelope) (node : NodeState) → Made_same node (made_by_datagram config place from read node)
unfolding made_by_datagram
datagram_size config place from None node = refl
datagram_size config place from (Some envelope) node =
    cond_both (is_heard config place from envelope) (made_by_message place from envelope.message node) (quiet_made node) (λ made. Made_same node made)
    (λ _. message_size place from envelope.message node.content node.voter) (λ _. refl)

running_size : (config : Config) (place : PlaceRecord) (event : NodeEvent) (node : NodeState) → Made_same node (made_while_running config place event node)
unfolding made_while_running
running_size config place (Client client moment text) node = ruling_size place client moment (without_lf text) (ruling_at config node client moment text) node
running_size config place (Peer from read) node = datagram_size config place from read node
running_size config place Tick node = tick_size place node.content node.voter

event_size : (config : Config) (place : PlaceRecord) (event : NodeEvent) (node : NodeState) → Made_same node (made_by_event config place event node)
unfolding made_by_event
event_size config place event node =
    cond_both node.running (made_while_running config place event node) (quiet_made node) (λ made. Made_same node made) (λ _. running_size config place event node) (λ _. refl)

pub events_size : (m : Member) (events : List NodeEvent) (run : Run) → length (run_with_events m events run).node.content.rows ≡ length run.node.content.rows
events_size m [] run = refl
events_size m (event ∷ events) run = events_size m events (run_with_event m event run) ∙ event_size m.config m.place event run.node

-- After each event each line that waits still has a proposal of its own.
use Rattle.std.proofs.Common.{◌≡◌, ℕ, ℤ, ◌+◌, ◌-◌, ◌^◌, Bool, true, false, cond, List, [], ◌∷◌, ◌++◌, Option, Some, None, refl, sym, subst, ◌∙◌}
use Rattle.std.specs.Prelude.{◌==◌, nat_le, nat_lt}
use Rattle.std.proofs.lemmas.Bool.{cond_both}
use Rattle.floor_store.specs.Content.{Content}
use Rattle.floor_store.specs.Records.{ProposalRecord}
use Rattle.otp_core.specs.Acceptance.{majority_of, size}
use Rattle.vote_core.specs.NodeSet.{PlaceRecord, with_node}
use Rattle.vote_core.specs.Rows.{row}
use Rattle.vote_core.specs.Schedule.{Envelope}
use Rattle.vote_core.specs.Voting.{Ballot, VoterState, Voted, accept, count_deny, count_grant, is_grant, on_ask, on_deny, on_floor, on_grant, on_message, propose, propose_alone, propose_among, raise, tick}
use Rattle.vote_core.specs.declared.message.Message.{Message}
use Rattle.vote_core.specs.declared.message.Message.TheVariants.{Ask, Grant, Deny, Floor}
use Rattle.oath_node.specs.Hosted.{AreApart, IsOwned}
use Rattle.oath_node.specs.Calls.{IsProposal, IsProposing}
use Rattle.oath_node.specs.Machine.{Beginning, Config, Made, NodeEvent, Client, Peer, Tick, NodeState, Owner, is_heard, is_pending, made_by_datagram, made_by_event, made_by_line, made_by_message, made_by_proposal, made_by_ruling, made_by_tick, made_by_vote, made_while_running, next_beginning, next_owner, quiet_made, ruling_at, stopped_node}
use Rattle.oath_node.specs.declared.ruling.Ruling.{Ruling}
use Rattle.oath_node.specs.declared.ruling.Ruling.TheVariants.{Outside, Again, Waiting, Denied, Wrong, Fitting}
use Rattle.oath_node.proofs.OwnerLemmas.{apart_filter, apart_push, pending_filter}
use Rattle.client_lines.specs.Request.{without_lf}

-- ---- the number of the next proposal

ask_seq : (from : ℕ) (p : ProposalRecord) (t lo hi : ℕ) (c : Content) (v : VoterState) → v.seq ≡ (on_ask from p t lo hi c v).voter.seq
unfolding on_ask
ask_seq from p t lo hi c v =
    cond_both (is_grant p lo hi (row c t).grant) _ _ (λ (s : Voted). v.seq ≡ s.voter.seq) (λ _. refl)
    (λ _. cond_both (nat_le (row c t).next lo) _ _ (λ (s : Voted). v.seq ≡ s.voter.seq) (λ _. refl) (λ _. refl))

grant_seq : (place : PlaceRecord) (from : ℕ) (c : Content) (v : VoterState) (o : Option Ballot) → v.seq ≡ (count_grant place from c v o).voter.seq
unfolding count_grant accept
grant_seq place from c v None = refl
grant_seq place from c v (Some q) =
    cond_both (nat_le (majority_of place.n) (size place.n (with_node from q.granting))) _ _ (λ (s : Voted). v.seq ≡ s.voter.seq) (λ _. refl) (λ _. refl)

deny_seq : (place : PlaceRecord) (from : ℕ) (c : Content) (v : VoterState) (o : Option Ballot) → v.seq ≡ (count_deny place from c v o).voter.seq
unfolding count_deny
deny_seq place from c v None = refl
deny_seq place from c v (Some q) =
    cond_both (nat_lt (place.n - size place.n (with_node from q.denying)) (majority_of place.n)) _ _ (λ (s : Voted). v.seq ≡ s.voter.seq) (λ _. refl) (λ _. refl)

message_seq : (place : PlaceRecord) (from : ℕ) (m : Message) (c : Content) (v : VoterState) → v.seq ≡ (on_message place from m c v).voter.seq
unfolding on_message on_grant on_deny on_floor
message_seq place from (Ask p t span) c v = ask_seq from p t span.lo span.hi c v
message_seq place from (Grant p t span) c v = grant_seq place from c v _
message_seq place from (Deny p t next) c v = deny_seq place from (raise t next c) v _
message_seq place from (Floor t next) c v = refl

propose_seq : (place : PlaceRecord) (t lo hi : ℕ) (drift : ℤ) (c : Content) (v : VoterState) → v.seq + 1 ≡ (propose place t lo hi drift c v).voter.seq
unfolding propose propose_alone propose_among
propose_seq place t lo hi drift c v = cond_both (place.n == 1) _ _ (λ (s : Voted). v.seq + 1 ≡ s.voter.seq) (λ _. refl) (λ _. refl)

tick_seq : (place : PlaceRecord) (c : Content) (v : VoterState) → v.seq ≡ (tick place c v).voter.seq
unfolding tick
tick_seq place c v = refl

-- ---- each event

vote_owned : (x : NodeState) (owners : List Owner) (began : Option Beginning) (v : Voted) → AreApart v.voter.seq owners → IsOwned (made_by_vote owners began v x).state
vote_owned x owners began v h = record {
  apart = apart_filter (λ (o : Owner). is_pending v.voter.pending o.seq) v.voter.seq owners h;
  pending = pending_filter v.voter.pending owners;
}

proposal_owned : (place : PlaceRecord) (client : ℕ) (line nonce : List ℕ) (t lo hi : ℕ) (drift : ℤ) (x : NodeState) → IsOwned x → IsOwned (made_by_proposal place client line nonce t lo hi drift x).state
unfolding made_by_proposal
proposal_owned place client line nonce t lo hi drift x h =
    let owners = x.owners ++ next_owner client line nonce x ∷ [] in
    let began = Some (next_beginning place t lo hi x) in
    let v = propose place t lo hi drift x.content x.voter in
    cond_both (nat_lt x.voter.seq (2 ^ 62)) (made_by_vote owners began v x) (quiet_made (stopped_node x))
    (λ (m : Made). IsOwned m.state)
    (λ _. vote_owned x owners began v
    (subst (λ n. AreApart n owners) (propose_seq place t lo hi drift x.content x.voter) (apart_push x.voter.seq (next_owner client line nonce x) x.owners refl h.apart)))
    (λ _. record { apart = h.apart; pending = h.pending })

ruling_owned : (place : PlaceRecord) (client moment : ℕ) (line : List ℕ) (r : Ruling) (x : NodeState) → IsOwned x → IsOwned (made_by_ruling place client moment line r x).state
unfolding made_by_ruling
ruling_owned place client moment line Outside x h = h
ruling_owned place client moment line (Again text) x h = h
ruling_owned place client moment line Waiting x h = h
ruling_owned place client moment line (Denied nonce reason) x h = record { apart = h.apart; pending = h.pending }
ruling_owned place client moment line (Wrong nonce reason token) x h = record { apart = h.apart; pending = h.pending }
ruling_owned place client moment line (Fitting nonce token span drift) x h = proposal_owned place client line nonce token span.lo span.hi drift x h

datagram_owned : (config : Config) (place : PlaceRecord) (from : ℕ) (read : Option Envelope) (x : NodeState) → IsOwned x → IsOwned (made_by_datagram config place from read x).state
unfolding made_by_datagram
datagram_owned config place from None x h = h
datagram_owned config place from (Some l) x h =
    cond_both (is_heard config place from l) (made_by_message place from l.message x) (quiet_made x)
    (λ (m : Made). IsOwned m.state)
    (λ _. vote_owned x x.owners None (on_message place from l.message x.content x.voter)
    (subst (λ n. AreApart n x.owners) (message_seq place from l.message x.content x.voter) h.apart))
    (λ _. h)

event_owned : (config : Config) (place : PlaceRecord) (event : NodeEvent) (x : NodeState) → IsOwned x → IsOwned (made_while_running config place event x).state
unfolding made_while_running
event_owned config place (Client client moment text) x h = ruling_owned place client moment (without_lf text) (ruling_at config x client moment text) x h
event_owned config place (Peer from read) x h = datagram_owned config place from read x h
event_owned config place Tick x h =
    vote_owned x x.owners None (tick place x.content x.voter) (subst (λ n. AreApart n x.owners) (tick_seq place x.content x.voter) h.apart)

pub after_owned : (config : Config) (place : PlaceRecord) (event : NodeEvent) (x : NodeState) → IsOwned x → IsOwned (made_by_event config place event x).state
unfolding made_by_event
after_owned config place event x h =
    cond_both x.running (made_while_running config place event x) (quiet_made x) (λ (m : Made). IsOwned m.state) (λ _. event_owned config place event x h) (λ _. h)

-- ---- a running node's event

pub line_event : (config : Config) (place : PlaceRecord) (client moment : ℕ) (text : List ℕ) (x : NodeState) → x.running ≡ true
    → made_by_event config place (Client client moment text) x ≡ made_by_line config place client moment text x
unfolding made_by_event made_while_running
line_event config place client moment text x e = rw e refl

pub datagram_event : (config : Config) (place : PlaceRecord) (from : ℕ) (read : Option Envelope) (x : NodeState) → x.running ≡ true
    → made_by_event config place (Peer from read) x ≡ made_by_datagram config place from read x
unfolding made_by_event made_while_running
datagram_event config place from read x e = rw e refl

pub tick_event : (config : Config) (place : PlaceRecord) (x : NodeState) → x.running ≡ true
    → made_by_event config place Tick x ≡ made_by_tick place x
unfolding made_by_event made_while_running
tick_event config place x e = rw e refl

-- ---- what stops a node that runs

ruling_stops : (place : PlaceRecord) (client moment : ℕ) (line : List ℕ) (r : Ruling) (x : NodeState) → x.running ≡ true
    → (made_by_ruling place client moment line r x).state.running ≡ false → IsProposal r
unfolding made_by_ruling
ruling_stops place client moment line Outside x on off = absurd (let t = sym on ∙ off in cc)
ruling_stops place client moment line (Again text) x on off = absurd (let t = sym on ∙ off in cc)
ruling_stops place client moment line Waiting x on off = absurd (let t = sym on ∙ off in cc)
ruling_stops place client moment line (Denied nonce reason) x on off = absurd (let t = sym on ∙ off in cc)
ruling_stops place client moment line (Wrong nonce reason token) x on off = absurd (let t = sym on ∙ off in cc)
ruling_stops place client moment line (Fitting nonce token span drift) x on off = tt

datagram_runs : (config : Config) (place : PlaceRecord) (from : ℕ) (read : Option Envelope) (x : NodeState)
    → (made_by_datagram config place from read x).state.running ≡ x.running
unfolding made_by_datagram
datagram_runs config place from None x = refl
datagram_runs config place from (Some l) x =
    cond_both (is_heard config place from l) (made_by_message place from l.message x) (quiet_made x)
    (λ (m : Made). m.state.running ≡ x.running) (λ _. refl) (λ _. refl)

running_stops : (config : Config) (place : PlaceRecord) (event : NodeEvent) (x : NodeState) → x.running ≡ true
    → (made_while_running config place event x).state.running ≡ false → IsProposing config x event
unfolding made_while_running
running_stops config place (Client client moment text) x on off =
    ruling_stops place client moment (without_lf text) (ruling_at config x client moment text) x on off
running_stops config place (Peer from read) x on off = absurd (let t = sym on ∙ sym (datagram_runs config place from read x) ∙ off in cc)
running_stops config place Tick x on off = absurd (let t = sym on ∙ off in cc)

-- it is a line whose factors are proposed
pub event_stops : (config : Config) (place : PlaceRecord) (event : NodeEvent) (x : NodeState) → x.running ≡ true
    → (made_by_event config place event x).state.running ≡ false → IsProposing config x event
unfolding made_by_event
event_stops config place event x on off =
    running_stops config place event x on (subst (λ (b : Bool). (cond b (made_while_running config place event x) (quiet_made x)).state.running ≡ false) on off)

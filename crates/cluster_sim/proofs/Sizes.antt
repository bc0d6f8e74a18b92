-- In every cluster of voters each node keeps its number of rows.
use Rattle.std.proofs.Common.{◌≡◌, ℕ, ℤ, ◌^◌, true, false, cond, List, length, Option, Some, None, refl, ◌∙◌, eqb, leb, ltb}
use Rattle.std.specs.List.{slice_get}
use Rattle.std.proofs.lemmas.Bool.{cond_both}
use Rattle.floor_store.specs.Content.{Content, with_row}
use Rattle.floor_store.specs.Records.{ProposalRecord, span_of}
use Rattle.otp_core.specs.Acceptance.{size, majority_of}
use Rattle.vote_core.specs.NodeSet.{PlaceRecord, with_node}
use Rattle.vote_core.specs.Rows.{row, granted_row, row_with_next}
use Rattle.vote_core.specs.Voting.{VoterState, Voted, Ballot, with_pending, replace, with_granting, accept, granted_one, of_this_boot, denied_one, propose_alone, propose_among, propose, is_grant, reply_step, on_ask, count_grant, on_grant, raise, count_deny, on_deny, on_floor, on_message, tick, tick_telling, tell, quiet_step}
use Rattle.vote_core.specs.Schedule.{Member, Envelope, Cluster, Act, Begin, Deliver, Tick, Throttle, Idle, TickTelling, Tell, Raise, raised_member, Event, Happens, Cut, Restart, Lost, Replaced, opening_member, may_replace, after_loss, after_replacement, lost_member, has_store, is_running, place_of, set_node, cluster_after, with_proposal_begun, with_member, stopped_member, may_begin, after_proposal, after_delivery, content_with_gate, after_act, node_of, restarted_member, last_boot, after_restart, with_sent_of, after_event}
use Rattle.vote_core.proofs.Basics.{put_size, opening_size}
use Rattle.vote_core.proofs.Rows.{raise_all_size}
use Rattle.vote_core.specs.declared.message.Message.{Message}
use Rattle.vote_core.specs.declared.message.Message.TheVariants.{Ask, Grant, Deny, Floor}

abbrev Same : Content → Voted → Type 0
Same c s = length s.content.rows ≡ length c.rows

ask_size : (from : ℕ) (p : ProposalRecord) (t lo hi : ℕ) (c : Content) (v : VoterState) → Same c (on_ask from p t lo hi c v)
unfolding on_ask
ask_size from p t lo hi c v =
    let grants = reply_step from (Grant p t (span_of lo hi)) (with_row c t (granted_row p lo hi (row c t)) None) v in
    let denies = reply_step from (Deny p t (row c t).next) c v in
    cond_both (is_grant p lo hi (row c t).grant) (reply_step from (Grant p t (span_of lo hi)) c v) (cond (leb (row c t).next lo) grants denies) (λ s. Same c s)
    (λ _. refl)
    (λ _. cond_both (leb (row c t).next lo) grants denies (λ s. Same c s) (λ _. put_size c t (granted_row p lo hi (row c t)) None) (λ _. refl))

count_size : (place : PlaceRecord) (from : ℕ) (c : Content) (v : VoterState) (o : Option Ballot) → Same c (count_grant place from c v o)
unfolding count_grant accept
count_size place from c v None = refl
count_size place from c v (Some q) =
    cond_both (leb (majority_of place.n) (size place.n (with_node from q.granting))) (accept (with_granting from q) c v) (quiet_step c (with_pending (replace (with_granting from q) v.pending) v)) (λ s. Same c s)
    (λ _. put_size c q.token _ None) (λ _. refl)

grant_size : (place : PlaceRecord) (from : ℕ) (p : ProposalRecord) (t lo hi : ℕ) (c : Content) (v : VoterState) → Same c (on_grant place from p t lo hi c v)
unfolding on_grant
grant_size place from p t lo hi c v = count_size place from c v (granted_one from t lo hi (of_this_boot c p v))

raise_size : (t next : ℕ) (c : Content) → length (raise t next c).rows ≡ length c.rows
unfolding raise
raise_size t next c = cond_both (ltb (row c t).next next) (with_row c t (row_with_next next (row c t)) None) c (λ d. length d.rows ≡ length c.rows) (λ _. put_size c t _ None) (λ _. refl)

discount_size : (place : PlaceRecord) (from : ℕ) (c : Content) (v : VoterState) (o : Option Ballot) → Same c (count_deny place from c v o)
unfolding count_deny
discount_size place from c v None = refl
discount_size place from c v (Some q) = cond_both _ _ _ (λ s. Same c s) (λ _. refl) (λ _. refl)

deny_size : (place : PlaceRecord) (from : ℕ) (p : ProposalRecord) (t next : ℕ) (c : Content) (v : VoterState) → Same c (on_deny place from p t next c v)
unfolding on_deny
deny_size place from p t next c v = discount_size place from (raise t next c) v (denied_one from t (of_this_boot c p v)) ∙ raise_size t next c

message_size : (place : PlaceRecord) (from : ℕ) (m : Message) (c : Content) (v : VoterState) → Same c (on_message place from m c v)
unfolding on_message on_floor
message_size place from (Ask p t span) c v = ask_size from p t span.lo span.hi c v
message_size place from (Grant p t span) c v = grant_size place from p t span.lo span.hi c v
message_size place from (Deny p t next) c v = deny_size place from p t next c v
message_size place from (Floor t next) c v = raise_size t next c

propose_size : (place : PlaceRecord) (t lo hi : ℕ) (drift : ℤ) (c : Content) (v : VoterState) → Same c (propose place t lo hi drift c v)
unfolding propose propose_alone propose_among
propose_size place t lo hi drift c v =
    cond_both (eqb place.n 1) (propose_alone place t lo hi drift c v) (propose_among place t lo hi drift c v) (λ s. Same c s) (λ _. put_size c t _ None) (λ _. put_size c t _ None)

tick_size : (place : PlaceRecord) (c : Content) (v : VoterState) → Same c (tick place c v)
unfolding tick
tick_size place c v = refl

telling_size : (place : PlaceRecord) (told : List ℕ) (c : Content) (v : VoterState) → Same c (tick_telling place told c v)
unfolding tick_telling
telling_size place told c v = refl

tell_size : (place : PlaceRecord) (told : List ℕ) (c : Content) (v : VoterState) → Same c (tell place told c v)
unfolding tell
tell_size place told c v = refl

-- ---- worlds

-- each node has `k` rows
abbrev pub Sized : ℕ → Cluster → Type 0
Sized k w = (i : ℕ) → length (w.nodes i).content.rows ≡ k

set_sized : (k : ℕ) (w : Cluster) (i : ℕ) (x : Member) → Sized k w → length x.content.rows ≡ length (w.nodes i).content.rows → (j : ℕ) → length (set_node i x w.nodes j).content.rows ≡ k
set_sized k w i x h same j = cond_both (eqb j i) x (w.nodes j) (λ (y : Member). length y.content.rows ≡ k) (λ _. same ∙ h i) (λ _. h j)

after_sized : (k e i : ℕ) (s : Voted) (w : Cluster) → Sized k w → Same (w.nodes i).content s → Sized k (cluster_after e i s w)
unfolding cluster_after
after_sized k e i s w h same = set_sized k w i (record { content = s.content; voter = s.voter; running = true }) h same

delivered_sized : (k e : ℕ) (o : Option Envelope) (w : Cluster) → Sized k w → Sized k (after_delivery e o w)
unfolding after_delivery
delivered_sized k e None w h = h
delivered_sized k e (Some l) w h =
    let i = l.receiver in
    let s = on_message (place_of w i) l.sender l.message (w.nodes i).content (w.nodes i).voter in
    cond_both (is_running w i) (cluster_after e i s w) w (λ x. Sized k x)
    (λ _. after_sized k e i s w h (message_size (place_of w i) l.sender l.message (w.nodes i).content (w.nodes i).voter)) (λ _. h)

proposed_sized : (k e i t lo hi : ℕ) (drift : ℤ) (w : Cluster) → Sized k w → Sized k (after_proposal e i t lo hi drift w)
unfolding after_proposal with_proposal_begun
proposed_sized k e i t lo hi drift w h =
    let s = propose (place_of w i) t lo hi drift (w.nodes i).content (w.nodes i).voter in
    cond_both (ltb (w.nodes i).voter.seq (2 ^ 62)) (cluster_after e i s (with_proposal_begun e i t lo hi w)) (with_member i (stopped_member (w.nodes i)) w) (λ x. Sized k x)
    (λ _. after_sized k e i s (with_proposal_begun e i t lo hi w) h (propose_size (place_of w i) t lo hi drift (w.nodes i).content (w.nodes i).voter))
    (λ _. set_sized k w i (stopped_member (w.nodes i)) h refl)

act_sized : (k e : ℕ) (a : Act) (w : Cluster) → Sized k w → Sized k (after_act e a w)
unfolding after_act
act_sized k e (Begin i t lo hi drift) w h = cond_both (may_begin w i t lo hi) (after_proposal e i t lo hi drift w) w (λ x. Sized k x) (λ _. proposed_sized k e i t lo hi drift w h) (λ _. h)
act_sized k e (Deliver m) w h = delivered_sized k e (slice_get w.sent m) w h
act_sized k e (Tick i) w h =
    let s = tick (place_of w i) (w.nodes i).content (w.nodes i).voter in
    cond_both (is_running w i) (cluster_after e i s w) w (λ x. Sized k x) (λ _. after_sized k e i s w h (tick_size (place_of w i) (w.nodes i).content (w.nodes i).voter)) (λ _. h)
act_sized k e (Idle i) w h = h
act_sized k e (TickTelling i told) w h =
    let s = tick_telling (place_of w i) told (w.nodes i).content (w.nodes i).voter in
    cond_both (is_running w i) (cluster_after e i s w) w (λ x. Sized k x) (λ _. after_sized k e i s w h (telling_size (place_of w i) told (w.nodes i).content (w.nodes i).voter)) (λ _. h)
act_sized k e (Tell i told) w h =
    let s = tell (place_of w i) told (w.nodes i).content (w.nodes i).voter in
    cond_both (is_running w i) (cluster_after e i s w) w (λ x. Sized k x) (λ _. after_sized k e i s w h (tell_size (place_of w i) told (w.nodes i).content (w.nodes i).voter)) (λ _. h)
act_sized k e (Raise i floor) w h =
    cond_both (has_store w i) (with_member i (raised_member floor (w.nodes i)) w) w (λ x. Sized k x)
    (λ _. set_sized k w i (raised_member floor (w.nodes i)) h (raise_all_size (length (w.nodes i).content.rows) floor (w.nodes i).content)) (λ _. h)
act_sized k e (Throttle i t gate) w h =
    let s = quiet_step (content_with_gate t gate (w.nodes i).content) (w.nodes i).voter in
    cond_both (is_running w i) (cluster_after e i s w) w (λ x. Sized k x) (λ _. after_sized k e i s w h (put_size (w.nodes i).content t _ None)) (λ _. h)

restarted_size : (x : Member) → length (restarted_member x).content.rows ≡ length x.content.rows
restarted_size x = cond_both (ltb x.content.boot last_boot) _ (stopped_member x) (λ (y : Member). length y.content.rows ≡ length x.content.rows) (λ _. refl) (λ _. refl)

restart_sized : (k : ℕ) (o : Option ℕ) (w : Cluster) → Sized k w → Sized k (after_restart o w)
unfolding after_restart
restart_sized k None w h = h
restart_sized k (Some i) w h =
    cond_both (has_store w i) (with_member i (restarted_member (w.nodes i)) w) w (λ x. Sized k x) (λ _. set_sized k w i (restarted_member (w.nodes i)) h (restarted_size (w.nodes i))) (λ _. h)

loss_sized : (k i : ℕ) (w : Cluster) → Sized k w → Sized k (after_loss i w)
unfolding after_loss
loss_sized k i w h = cond_both (has_store w i) _ w (λ x. Sized k x) (λ _. set_sized k w i (lost_member (w.nodes i)) h refl) (λ _. h)

replacement_sized : (k i boot : ℕ) (floor : ℕ → ℕ) (w : Cluster) → Sized k w → Sized k (after_replacement i boot floor w)
unfolding after_replacement
replacement_sized k i boot floor w h =
    let count = length (w.nodes i).content.rows in
    cond_both (may_replace w i boot floor) _ w (λ x. Sized k x) (λ _. set_sized k w i (opening_member boot count floor) h (opening_size count floor)) (λ _. h)

pub happens_sized : (k e : ℕ) (x : Event) (w : Cluster) → Sized k w → Sized k (after_event e x w)
unfolding after_event
happens_sized k e (Happens a) w h = act_sized k e a w h
happens_sized k e (Cut true a) w h = restart_sized k (node_of a w) (with_sent_of w (after_act e a w)) (act_sized k e a w h)
happens_sized k e (Cut false a) w h = restart_sized k (node_of a w) w h
happens_sized k e (Restart i) w h = restart_sized k (Some i) w h
happens_sized k e (Lost i) w h = loss_sized k i w h
happens_sized k e (Replaced i boot floor) w h = replacement_sized k i boot floor w h

-- A run uses up at most one number for each event.
use Rattle.std.proofs.Common.{◌≡◌, ℕ, ℤ, suc, ◌+◌, ◌^◌, ◌≤◌, true, false, cond, List, [], ◌∷◌, ◌++◌, length, map, Option, Some, None, refl, sym, ap, ◌∙◌, arith, eqb, leb, ltb}
use Rattle.std.proofs.lemmas.Bool.{cond_both}
use Rattle.std.proofs.lemmas.List.{append-nil, append_assoc}
use Rattle.cluster_sim.proofs.Waves.{set_all}
use Rattle.cluster_sim.specs.World.{Anew, Cut, Happens, Lost, Restart, World, WorldEvent, floor_in, has_store, lost_node, may_be_anew, opening_node, world_after_anew, world_after_loss, acting_node, node_event_of, node_of, place_at, with_told_of, world_after_act, world_after_event, world_after_events, world_after_restart, world_after_turn, world_with_made}
use Rattle.floor_store.specs.Content.{Content, with_row}
use Rattle.floor_store.specs.Records.{ProposalRecord, span_of}
use Rattle.oath_node.specs.Machine.{Client, Config, Made, NodeEvent, NodeState, Peer, Tick, is_heard, made_by_datagram, made_by_event, made_by_proposal, made_by_ruling, made_by_vote, made_while_running, next_beginning, quiet_made, restarted_node, ruling_at, stopped_node}
use Rattle.oath_node.specs.declared.ruling.Ruling.{Ruling}
use Rattle.oath_node.specs.declared.ruling.Ruling.TheVariants.{Again, Denied, Fitting, Outside, Waiting, Wrong}
use Rattle.otp_core.specs.Acceptance.{majority_of, size}
use Rattle.vote_core.specs.NodeSet.{PlaceRecord, with_node}
use Rattle.vote_core.specs.Rows.{granted_row, row}
use Rattle.vote_core.specs.Schedule.{Envelope, envelope_from, last_boot}
use Rattle.vote_core.specs.Voting.{Ballot, Voted, VoterState, accept, count_deny, count_grant, denied_one, granted_one, is_grant, of_this_boot, on_ask, on_deny, on_floor, on_grant, on_message, propose, propose_alone, propose_among, quiet_step, raise, replace, reply_step, tick, with_granting, with_pending}
use Rattle.vote_core.specs.declared.message.Message.{Message}
use Rattle.vote_core.specs.declared.message.Message.TheVariants.{Ask, Deny, Floor, Grant}
use Rattle.client_lines.specs.Request.{without_lf}

-- at most one more
abbrev OneMore : ℕ → Voted → Type 0
OneMore seq s = s.voter.seq ≤ seq + 1

ask_seq : (from : ℕ) (p : ProposalRecord) (t lo hi : ℕ) (c : Content) (v : VoterState) → OneMore v.seq (on_ask from p t lo hi c v)
unfolding on_ask
ask_seq from p t lo hi c v =
    let grants = reply_step from (Grant p t (span_of lo hi)) (with_row c t (granted_row p lo hi (row c t)) None) v in
    let denies = reply_step from (Deny p t (row c t).next) c v in
    cond_both (is_grant p lo hi (row c t).grant) (reply_step from (Grant p t (span_of lo hi)) c v) (cond (leb (row c t).next lo) grants denies) (λ s. OneMore v.seq s) (λ _. omega arith)
    (λ _. cond_both (leb (row c t).next lo) grants denies (λ s. OneMore v.seq s) (λ _. omega arith) (λ _. omega arith))

count_seq : (place : PlaceRecord) (from : ℕ) (c : Content) (v : VoterState) (o : Option Ballot) → OneMore v.seq (count_grant place from c v o)
unfolding count_grant accept
count_seq place from c v None = omega arith
count_seq place from c v (Some q) =
    cond_both (leb (majority_of place.n) (size place.n (with_node from q.granting))) (accept (with_granting from q) c v) (quiet_step c (with_pending (replace (with_granting from q) v.pending) v)) (λ s. OneMore v.seq s) (λ _. omega arith) (λ _. omega arith)

discount_seq : (place : PlaceRecord) (from : ℕ) (c : Content) (v : VoterState) (o : Option Ballot) → OneMore v.seq (count_deny place from c v o)
unfolding count_deny
discount_seq place from c v None = omega arith
discount_seq place from c v (Some q) =
    cond_both _ _ _ (λ s. OneMore v.seq s) (λ _. one_more v.seq) (λ _. one_more v.seq)
  where
    one_more : (a : ℕ) → a ≤ a + 1
    one_more a = omega arith

message_seq : (place : PlaceRecord) (from : ℕ) (m : Message) (c : Content) (v : VoterState) → OneMore v.seq (on_message place from m c v)
unfolding on_message on_grant on_deny on_floor
message_seq place from (Ask p t span) c v = ask_seq from p t span.lo span.hi c v
message_seq place from (Grant p t span) c v = count_seq place from c v (granted_one from t span.lo span.hi (of_this_boot c p v))
message_seq place from (Deny p t next) c v = discount_seq place from (raise t next c) v (denied_one from t (of_this_boot c p v))
message_seq place from (Floor t next) c v = omega arith

propose_seq : (place : PlaceRecord) (t lo hi : ℕ) (drift : ℤ) (c : Content) (v : VoterState) → OneMore v.seq (propose place t lo hi drift c v)
unfolding propose propose_alone propose_among
propose_seq place t lo hi drift c v = cond_both (eqb place.n 1) (propose_alone place t lo hi drift c v) (propose_among place t lo hi drift c v) (λ s. OneMore v.seq s) (λ _. omega arith) (λ _. omega arith)

tick_seq : (place : PlaceRecord) (c : Content) (v : VoterState) → OneMore v.seq (tick place c v)
unfolding tick
tick_seq place c v = omega arith

-- ---- nodes and worlds

abbrev MadeOne : NodeState → Made → Type 0
MadeOne x o = o.state.voter.seq ≤ x.voter.seq + 1

ruled_seq : (place : PlaceRecord) (x : NodeState) (client moment : ℕ) (line : List ℕ) (v : Ruling) → MadeOne x (made_by_ruling place client moment line v x)
unfolding made_by_ruling made_by_proposal
ruled_seq place x client moment line Outside = omega arith
ruled_seq place x client moment line (Again answer) = omega arith
ruled_seq place x client moment line Waiting = omega arith
ruled_seq place x client moment line (Denied nonce reason) = omega arith
ruled_seq place x client moment line (Wrong nonce reason token) = omega arith
ruled_seq place x client moment line (Fitting nonce t span drift) =
    cond_both (ltb x.voter.seq (2 ^ 62)) (made_by_vote (x.owners ++ record { seq = x.voter.seq; client = client; line = line; nonce = nonce } ∷ []) (Some (next_beginning place t span.lo span.hi x)) (propose place t span.lo span.hi drift x.content x.voter) x) (quiet_made (stopped_node x)) (λ o. MadeOne x o)
    (λ _. propose_seq place t span.lo span.hi drift x.content x.voter) (λ _. omega arith)

event_seq : (config : Config) (place : PlaceRecord) (x : NodeState) (v : NodeEvent) → MadeOne x (made_while_running config place v x)
unfolding made_while_running made_by_datagram
event_seq config place x (Client client moment text) = ruled_seq place x client moment (without_lf text) (ruling_at config x client moment text)
event_seq config place x (Peer from None) = omega arith
event_seq config place x (Peer from (Some l)) =
    cond_both (is_heard config place from l) (made_by_vote x.owners None (on_message place from l.message x.content x.voter) x) (quiet_made x) (λ o. MadeOne x o) (λ _. message_seq place from l.message x.content x.voter) (λ _. omega arith)
event_seq config place x Tick = tick_seq place x.content x.voter

abbrev pub SeqsWithin : ℕ → World → Type 0
SeqsWithin e w = (i : ℕ) → (w.nodes i).voter.seq ≤ e

pub turned_seq : (config : Config) (e i : ℕ) (o : Option NodeEvent) (w : World) (k : ℕ) → SeqsWithin k w → SeqsWithin (suc k) (world_after_turn config e i o w)
unfolding world_after_turn made_by_event world_with_made
turned_seq config e i None w k h = λ j. omega (arith, h j)
turned_seq config e i (Some v) w k h =
    let place = place_at w i in
    let x = w.nodes i in
    cond_both (has_store w i) (world_with_made e i (made_by_event config place v x) w) w (λ z. SeqsWithin (suc k) z)
    (λ _ j. set_all (λ m y. y.voter.seq ≤ suc k) i (made_by_event config place v x).state w.nodes
    (cond_both x.running (made_while_running config place v x) (quiet_made x) (λ (o : Made). o.state.voter.seq ≤ suc k) (λ _. omega (arith, event_seq config place x v, h i)) (λ _. omega (arith, h i))) (λ m. omega (arith, h m)) j)
    (λ _ j. omega (arith, h j))

reopened_seq : (x : NodeState) (k : ℕ) → x.voter.seq ≤ k → (restarted_node x).voter.seq ≤ k
reopened_seq x k h = cond_both {A = NodeState} (ltb x.content.boot last_boot) _ (stopped_node x) (λ y. y.voter.seq ≤ k) (λ _. omega arith) (λ _. h)

pub restart_seq : (o : Option ℕ) (w : World) (k : ℕ) → SeqsWithin k w → SeqsWithin k (world_after_restart o w)
unfolding world_after_restart
restart_seq None w k h = h
restart_seq (Some i) w k h = cond_both {A = World} (has_store w i) _ w (λ z. SeqsWithin k z) (λ _ j. set_all (λ m y. y.voter.seq ≤ k) i (restarted_node (w.nodes i)) w.nodes (reopened_seq (w.nodes i) k (h i)) h j) (λ _. h)

loss_seq : (i : ℕ) (w : World) (k : ℕ) → SeqsWithin k w → SeqsWithin k (world_after_loss i w)
unfolding world_after_loss
loss_seq i w k h = cond_both {A = World} (has_store w i) _ w (λ z. SeqsWithin k z) (λ _ j. set_all (λ m y. y.voter.seq ≤ k) i (lost_node (w.nodes i)) w.nodes (omega arith) h j) (λ _. h)

anew_seq : (e i boot : ℕ) (floor : ℕ → ℕ) (w : World) (k : ℕ) → SeqsWithin k w → SeqsWithin k (world_after_anew e i boot floor w)
unfolding world_after_anew
anew_seq e i boot floor w k h =
    cond_both {A = World} (may_be_anew w i boot floor) _ w (λ z. SeqsWithin k z)
    (λ _ j. set_all (λ m y. y.voter.seq ≤ k) i (opening_node boot (length (w.nodes i).content.rows) floor) w.nodes (omega arith) h j) (λ _. h)

pub happens_seq : (config : Config) (e : ℕ) (x : WorldEvent) (w : World) (k : ℕ) → SeqsWithin k w → SeqsWithin (suc k) (world_after_event config e x w)
unfolding world_after_event world_after_act
happens_seq config e (Happens a) w k h = turned_seq config e (acting_node a) (node_event_of w.sent a) w k h
happens_seq config e (Cut true a) w k h = restart_seq (node_of a w) (with_told_of w (world_after_act config e a w)) (suc k) (turned_seq config e (acting_node a) (node_event_of w.sent a) w k h)
happens_seq config e (Cut false a) w k h = restart_seq (node_of a w) w (suc k) (λ i. omega (arith, h i))
happens_seq config e (Restart i) w k h = restart_seq (Some i) w (suc k) (λ i. omega (arith, h i))
happens_seq config e (Lost i) w k h = loss_seq i w (suc k) (λ i. omega (arith, h i))
happens_seq config e (Anew i boot floors) w k h = anew_seq e i boot (floor_in floors) w (suc k) (λ i. omega (arith, h i))

pub run_seq : (config : Config) (e : ℕ) (xs : List WorldEvent) (w : World) (k : ℕ) → SeqsWithin k w → SeqsWithin (length xs + k) (world_after_events config e xs w)
unfolding world_after_events
run_seq config e [] w k h = λ i. omega (arith, h i)
run_seq config e (x ∷ xs) w k h = λ i. let z = run_seq config (suc e) xs (world_after_event config e x w) (suc k) (happens_seq config e x w k h) i in omega (arith, z)

-- ---- the number of members stays, and what was sent stands

pub turned_n : (config : Config) (e i : ℕ) (o : Option NodeEvent) (w : World) → (world_after_turn config e i o w).n ≡ w.n
unfolding world_after_turn world_with_made
turned_n config e i None w = refl
turned_n config e i (Some v) w = cond_both (has_store w i) (world_with_made e i (made_by_event config (place_at w i) v (w.nodes i)) w) w (λ (z : World). z.n ≡ w.n) (λ _. refl) (λ _. refl)

pub restart_n : (o : Option ℕ) (w : World) → (world_after_restart o w).n ≡ w.n
unfolding world_after_restart
restart_n None w = refl
restart_n (Some i) w = cond_both {A = World} (has_store w i) _ w (λ z. z.n ≡ w.n) (λ _. refl) (λ _. refl)

loss_n : (i : ℕ) (w : World) → (world_after_loss i w).n ≡ w.n
unfolding world_after_loss
loss_n i w = cond_both {A = World} (has_store w i) _ w (λ z. z.n ≡ w.n) (λ _. refl) (λ _. refl)

anew_n : (e i boot : ℕ) (floor : ℕ → ℕ) (w : World) → (world_after_anew e i boot floor w).n ≡ w.n
unfolding world_after_anew
anew_n e i boot floor w = cond_both {A = World} (may_be_anew w i boot floor) _ w (λ z. z.n ≡ w.n) (λ _. refl) (λ _. refl)

pub happens_n : (config : Config) (e : ℕ) (x : WorldEvent) (w : World) → (world_after_event config e x w).n ≡ w.n
unfolding world_after_event world_after_act
happens_n config e (Happens a) w = turned_n config e (acting_node a) (node_event_of w.sent a) w
happens_n config e (Cut true a) w = restart_n (node_of a w) (with_told_of w (world_after_act config e a w)) ∙ turned_n config e (acting_node a) (node_event_of w.sent a) w
happens_n config e (Cut false a) w = restart_n (node_of a w) w
happens_n config e (Restart i) w = restart_n (Some i) w
happens_n config e (Lost i) w = loss_n i w
happens_n config e (Anew i boot floors) w = anew_n e i boot (floor_in floors) w

pub run_n : (config : Config) (e : ℕ) (xs : List WorldEvent) (w : World) → (world_after_events config e xs w).n ≡ w.n
unfolding world_after_events
run_n config e [] w = refl
run_n config e (x ∷ xs) w = run_n config (suc e) xs (world_after_event config e x w) ∙ happens_n config e x w

abbrev pub Longer : World → World → Type 0
Longer w v = (more : List Envelope) × (v.sent ≡ w.sent ++ more)

turned_longer : (config : Config) (e i : ℕ) (o : Option NodeEvent) (w : World) → Longer w (world_after_turn config e i o w)
unfolding world_after_turn world_with_made
turned_longer config e i None w = ([], sym (append-nil w.sent))
turned_longer config e i (Some v) w =
    let o = made_by_event config (place_at w i) v (w.nodes i) in
    cond_both (has_store w i) (world_with_made e i o w) w (λ (z : World). Longer w z) (λ _. (map (envelope_from i) o.sends, refl)) (λ _. ([], sym (append-nil w.sent)))

restart_sent : (o : Option ℕ) (w : World) → (world_after_restart o w).sent ≡ w.sent
unfolding world_after_restart
restart_sent None w = refl
restart_sent (Some i) w = cond_both {A = World} (has_store w i) _ w (λ z. z.sent ≡ w.sent) (λ _. refl) (λ _. refl)

loss_sent : (i : ℕ) (w : World) → (world_after_loss i w).sent ≡ w.sent
unfolding world_after_loss
loss_sent i w = cond_both {A = World} (has_store w i) _ w (λ z. z.sent ≡ w.sent) (λ _. refl) (λ _. refl)

anew_sent : (e i boot : ℕ) (floor : ℕ → ℕ) (w : World) → (world_after_anew e i boot floor w).sent ≡ w.sent
unfolding world_after_anew
anew_sent e i boot floor w = cond_both {A = World} (may_be_anew w i boot floor) _ w (λ z. z.sent ≡ w.sent) (λ _. refl) (λ _. refl)

pub happens_longer : (config : Config) (e : ℕ) (x : WorldEvent) (w : World) → Longer w (world_after_event config e x w)
unfolding world_after_event world_after_act
happens_longer config e (Happens a) w = turned_longer config e (acting_node a) (node_event_of w.sent a) w
happens_longer config e (Cut true a) w = ([], restart_sent (node_of a w) (with_told_of w (world_after_act config e a w)) ∙ sym (append-nil w.sent))
happens_longer config e (Cut false a) w = ([], restart_sent (node_of a w) w ∙ sym (append-nil w.sent))
happens_longer config e (Restart i) w = ([], restart_sent (Some i) w ∙ sym (append-nil w.sent))
happens_longer config e (Lost i) w = ([], loss_sent i w ∙ sym (append-nil w.sent))
happens_longer config e (Anew i boot floors) w = ([], anew_sent e i boot (floor_in floors) w ∙ sym (append-nil w.sent))

pub run_longer : (config : Config) (e : ℕ) (xs : List WorldEvent) (w : World) → Longer w (world_after_events config e xs w)
unfolding world_after_events
run_longer config e [] w = ([], sym (append-nil w.sent))
run_longer config e (x ∷ xs) w =
    let a = happens_longer config e x w in
    let b = run_longer config (suc e) xs (world_after_event config e x w) in
    (a.0 ++ b.0, b.1 ∙ ap (λ s. s ++ b.0) a.1 ∙ append_assoc w.sent a.0 b.0)

-- Each acceptance has its votes: events in which a row gets a grant of its factors, and no other row of the node changes.
use Rattle.std.proofs.Common.{◌≡◌, ◌≢◌, ℕ, ℤ, zero, suc, ◌+◌, ◌^◌, ◌<◌, ◌≤◌, ⊎_elim, true, false, List, [], ◌∷◌, length, take, Option, Some, None, refl, sym, ap, ◌∙◌, subst, arith, cond, ◌&&◌, eqb, leb, ltb}
use Rattle.std.specs.List.{slice_get}
use Rattle.std.proofs.lemmas.Bool.{and_parts, cases_lt, cond_both, eqb-true, false≢true, ltb-true}
use Rattle.std.proofs.lemmas.Option.{none-some, same_Some}
use Rattle.floor_store.specs.Content.{Content, accepted_row, with_row}
use Rattle.floor_store.specs.Records.{PassRecord, ProposalRecord, RowRecord, SpanRecord, span_of}
use Rattle.otp_core.specs.Acceptance.{majority_of, size}
use Rattle.otp_core.specs.Gate.{GateRecord}
use Rattle.vote_core.specs.NodeSet.{PlaceRecord, with_node}
use Rattle.vote_core.specs.Roster.{token_of}
use Rattle.vote_core.specs.Rows.{granted_row, row, row_with_gate, row_with_next}
use Rattle.vote_core.specs.Safety.{MayOpen}
use Rattle.vote_core.specs.Schedule.{Act, Begin, Cluster, Cut, Deliver, Envelope, Event, Happens, Idle, Lost, Member, Opening, Raise, Replaced, Restart, Tell, Throttle, Tick, TickTelling, acceptances, after_act, after_delivery, after_event, after_loss, after_proposal, after_replacement, after_restart, cluster_after, content_with_gate, has_store, is_member, is_running, lost_member, may_begin, may_replace, node_of, opening_member, place_of, raised_member, run, start, stopped_member, with_member, with_proposal_begun, with_sent_of}
use Rattle.vote_core.specs.Voting.{Ballot, VoterState, Voted, accept, count_grant, denied_one, granted_one, is_grant, of_this_boot, on_ask, on_deny, on_floor, on_grant, on_message, pass_of, propose, propose_alone, propose_among, quiet_step, raise, raise_all, replace, reply_step, tell, tick, tick_telling, with_granting, with_pending}
use Rattle.vote_core.specs.declared.message.Message.{Message}
use Rattle.vote_core.specs.declared.message.Message.TheVariants.{Ask, Deny, Floor, Grant}
use Rattle.vote_core.proofs.After.{stepped}
use Rattle.vote_core.proofs.Basics.{each_get, opening_grant, row_cases}
use Rattle.vote_core.proofs.Frames.{act_row}
use Rattle.vote_core.proofs.Kept.{PassKept}
use Rattle.vote_core.proofs.Passes.{rise_holds}
use Rattle.vote_core.proofs.Runs.{all_kept, all_members, history_of, rows_restart}
use Rattle.vote_core.proofs.StepLemmas.{count_deny_content}
use Rattle.seat_law.specs.Votes.{HaveVotes, row_before}

-- ---- what the puts of a step keep, every step of a voter keeps

module _ (P : Content → Type 0) (Q : RowRecord → Type 0) (at : (c : Content) (t : ℕ) → P c → Q (row c t)) (put : (c : Content) (t : ℕ) (r : RowRecord) (p : Option PassRecord) → P c → Q r → P (with_row c t r p))
    (granted : (p : ProposalRecord) (lo hi : ℕ) (r : RowRecord) → Q (granted_row p lo hi r)) (more : (r r' : RowRecord) → r'.grant ≡ r.grant → r.next ≤ r'.next → Q r → Q r') where
  pub step_raise : (t next : ℕ) (c : Content) → P c → P (raise t next c)
  unfolding raise
  step_raise t next c h =
      let r = row_with_next next (row c t) in
      cond_both (ltb (row c t).next next) (with_row c t r None) c P
      (λ q. let low = ltb-true (row c t).next next q in put c t r None h (more (row c t) r refl (omega (arith, low)) (at c t h))) (λ _. h)

  pub step_raise_all : (k : ℕ) (floor : ℕ → ℕ) (c : Content) → P c → P (raise_all k floor c)
  step_raise_all zero floor c h = h
  step_raise_all (suc k) floor c h = step_raise k (floor k) (raise_all k floor c) (step_raise_all k floor c h)

  pub step_gate : (t : ℕ) (gate : GateRecord) (c : Content) → P c → P (content_with_gate t gate c)
  step_gate t gate c h = put c t (row_with_gate gate (row c t)) None h (more (row c t) (row_with_gate gate (row c t)) refl (omega arith) (at c t h))

  step_ask : (from : ℕ) (p : ProposalRecord) (t lo hi : ℕ) (c : Content) (v : VoterState) → P c → P (on_ask from p t lo hi c v).content
  unfolding on_ask
  step_ask from p t lo hi c v h =
      let r = granted_row p lo hi (row c t) in
      let take = reply_step from (Grant p t (span_of lo hi)) (with_row c t r None) v in
      let no = reply_step from (Deny p t (row c t).next) c v in
      cond_both (is_grant p lo hi (row c t).grant) (reply_step from (Grant p t (span_of lo hi)) c v) (cond (leb (row c t).next lo) take no) (λ s. P s.content)
      (λ _. h)
      (λ _. cond_both (leb (row c t).next lo) take no (λ s. P s.content) (λ _. put c t r None h (granted p lo hi (row c t))) (λ _. h))

  step_grant : (place : PlaceRecord) (from : ℕ) (c : Content) (v : VoterState) (o : Option Ballot) → P c → P (count_grant place from c v o).content
  unfolding count_grant accept
  step_grant place from c v None h = h
  step_grant place from c v (Some q) h =
      let q' = with_granting from q in
      let r = row c q.token in
      cond_both (leb (majority_of place.n) (size place.n (with_node from q.granting))) (accept q' c v) (quiet_step c (with_pending (replace q' v.pending) v)) (λ s. P s.content)
      (λ _. put c q.token (accepted_row q.drift r) (Some (pass_of q.token q.lo q.hi c.boot q.seq)) h (more r (accepted_row q.drift r) refl (omega arith) (at c q.token h)))
      (λ _. h)

  pub step_message : (place : PlaceRecord) (from : ℕ) (m : Message) (c : Content) (v : VoterState) → P c → P (on_message place from m c v).content
  unfolding on_message on_grant on_deny on_floor
  step_message place from (Ask p t span) c v h = step_ask from p t span.lo span.hi c v h
  step_message place from (Grant p t span) c v h = step_grant place from c v (granted_one from t span.lo span.hi (of_this_boot c p v)) h
  step_message place from (Deny p t next) c v h =
      subst P (sym (count_deny_content place from (raise t next c) v (denied_one from t (of_this_boot c p v)))) (step_raise t next c h)
  step_message place from (Floor t next) c v h = step_raise t next c h

  pub step_propose : (place : PlaceRecord) (t lo hi : ℕ) (drift : ℤ) (c : Content) (v : VoterState) → P c → P (propose place t lo hi drift c v).content
  unfolding propose propose_alone propose_among
  step_propose place t lo hi drift c v h =
      let p : ProposalRecord = record { node = place.me; boot = c.boot; seq = v.seq } in
      let r = granted_row p lo hi (row c t) in
      let new = granted p lo hi (row c t) in
      cond_both (eqb place.n 1) (propose_alone place t lo hi drift c v) (propose_among place t lo hi drift c v) (λ s. P s.content)
      (λ _. put c t (accepted_row drift r) (Some (pass_of t lo hi c.boot v.seq)) h (more r (accepted_row drift r) refl (omega arith) new))
      (λ _. put c t r None h new)

-- ---- a stored grant lies below the floor of its row

abbrev Used : RowRecord → Type 0
Used r = (p : ProposalRecord) (lo hi : ℕ) → r.grant ≡ Some (p, span_of lo hi) → hi < r.next

abbrev AllUsed : Content → Type 0
AllUsed c = (t : ℕ) → Used (row c t)

used_at : (c : Content) (t : ℕ) → AllUsed c → Used (row c t)
used_at c t h = h t

used_granted : (p : ProposalRecord) (lo hi : ℕ) (r : RowRecord) → Used (granted_row p lo hi r)
used_granted p lo hi r q l h e =
    let same = ap (λ (z : ProposalRecord × SpanRecord). z.1.hi) (same_Some (p, span_of lo hi) (q, span_of l h) e) in
    omega (arith, same)

used_more : (r r' : RowRecord) → r'.grant ≡ r.grant → r.next ≤ r'.next → Used r → Used r'
used_more r r' same more k p lo hi e = let low = k p lo hi (sym same ∙ e) in omega (arith, low, more)

used_put : (c : Content) (t : ℕ) (r : RowRecord) (p : Option PassRecord) → AllUsed c → Used r → AllUsed (with_row c t r p)
used_put c t r p h k u =
    ⊎_elim (λ (e : row (with_row c t r p) u ≡ row c u). subst Used (sym e) (h u)) (λ (e : (u ≡ t) × (row (with_row c t r p) u ≡ r)). subst Used (sym e.1) k) (row_cases c t r p u)

-- ---- so it is in every cluster of a schedule

abbrev NodesUsed : Cluster → Type 0
NodesUsed w = (i : ℕ) → AllUsed (w.nodes i).content

used_node : (i : ℕ) (x : Member) (w : Cluster) → NodesUsed w → AllUsed x.content → NodesUsed (with_member i x w)
used_node i x w h k j = cond_both (eqb j i) x (w.nodes j) (λ (y : Member). AllUsed y.content) (λ _. k) (λ _. h j)

used_step : (e i : ℕ) (s : Voted) (w : Cluster) → NodesUsed w → AllUsed s.content → NodesUsed (cluster_after e i s w)
unfolding cluster_after
used_step e i s w h k j = cond_both (eqb j i) (stepped s) (w.nodes j) (λ (y : Member). AllUsed y.content) (λ _. k) (λ _. h j)

used_delivery : (e : ℕ) (o : Option Envelope) (w : Cluster) → NodesUsed w → NodesUsed (after_delivery e o w)
unfolding after_delivery
used_delivery e None w h = h
used_delivery e (Some l) w h =
    let i = l.receiver in
    let s = on_message (place_of w i) l.sender l.message (w.nodes i).content (w.nodes i).voter in
    cond_both (is_running w i) (cluster_after e i s w) w NodesUsed
    (λ _. used_step e i s w h (step_message AllUsed Used used_at used_put used_granted used_more (place_of w i) l.sender l.message (w.nodes i).content (w.nodes i).voter (h i))) (λ _. h)

used_proposal : (e i t lo hi : ℕ) (drift : ℤ) (w : Cluster) → NodesUsed w → NodesUsed (after_proposal e i t lo hi drift w)
unfolding after_proposal with_proposal_begun
used_proposal e i t lo hi drift w h =
    let c = (w.nodes i).content in
    let v = (w.nodes i).voter in
    let s = propose (place_of w i) t lo hi drift c v in
    let begun = with_proposal_begun e i t lo hi w in
    cond_both (ltb v.seq (2 ^ 62)) (cluster_after e i s begun) (with_member i (stopped_member (w.nodes i)) w) NodesUsed
    (λ _. used_step e i s begun h (step_propose AllUsed Used used_at used_put used_granted used_more (place_of w i) t lo hi drift c v (h i)))
    (λ _. used_node i (stopped_member (w.nodes i)) w h (h i))

used_act : (e : ℕ) (a : Act) (w : Cluster) → NodesUsed w → NodesUsed (after_act e a w)
unfolding after_act tick tick_telling tell
used_act e (Begin i t lo hi drift) w h =
    cond_both (may_begin w i t lo hi) (after_proposal e i t lo hi drift w) w NodesUsed (λ _. used_proposal e i t lo hi drift w h) (λ _. h)
used_act e (Deliver k) w h = used_delivery e (slice_get w.sent k) w h
used_act e (Tick i) w h =
    let s = tick (place_of w i) (w.nodes i).content (w.nodes i).voter in
    cond_both (is_running w i) (cluster_after e i s w) w NodesUsed (λ _. used_step e i s w h (h i)) (λ _. h)
used_act e (Throttle i t gate) w h =
    let c = (w.nodes i).content in
    let s = quiet_step (content_with_gate t gate c) (w.nodes i).voter in
    cond_both (is_running w i) (cluster_after e i s w) w NodesUsed
    (λ _. used_step e i s w h (step_gate AllUsed Used used_at used_put used_granted used_more t gate c (h i))) (λ _. h)
used_act e (Idle i) w h = h
used_act e (TickTelling i told) w h =
    let s = tick_telling (place_of w i) told (w.nodes i).content (w.nodes i).voter in
    cond_both (is_running w i) (cluster_after e i s w) w NodesUsed (λ _. used_step e i s w h (h i)) (λ _. h)
used_act e (Tell i told) w h =
    let s = tell (place_of w i) told (w.nodes i).content (w.nodes i).voter in
    cond_both (is_running w i) (cluster_after e i s w) w NodesUsed (λ _. used_step e i s w h (h i)) (λ _. h)
used_act e (Raise i floor) w h =
    let c = (w.nodes i).content in
    cond_both (has_store w i) (with_member i (raised_member floor (w.nodes i)) w) w NodesUsed
    (λ _. used_node i (raised_member floor (w.nodes i)) w h (step_raise_all AllUsed Used used_at used_put used_granted used_more (length c.rows) floor c (h i))) (λ _. h)

used_restart : (o : Option ℕ) (w : Cluster) → NodesUsed w → NodesUsed (after_restart o w)
used_restart o w h i t = subst Used (sym (rows_restart w o i t)) (h i t)

-- a loss leaves every row
pub rows_loss : (k : ℕ) (w : Cluster) (j t : ℕ) → row ((after_loss k w).nodes j).content t ≡ row (w.nodes j).content t
unfolding after_loss
rows_loss k w j t =
    cond_both (has_store w k) _ w (λ (x : Cluster). row (x.nodes j).content t ≡ row (w.nodes j).content t)
    (λ _. cond_both (eqb j k) (lost_member (w.nodes k)) (w.nodes j) (λ (y : Member). row y.content t ≡ row (w.nodes j).content t)
    (λ q. ap (λ m. row (w.nodes m).content t) (sym (eqb-true j k q))) (λ _. refl))
    (λ _. refl)

-- a replacement store has no grants
pub grants_replaced : (k boot : ℕ) (floor : ℕ → ℕ) (w : Cluster) (j t : ℕ) (x : ProposalRecord × SpanRecord) → (row ((after_replacement k boot floor w).nodes j).content t).grant ≡ Some x
    → row ((after_replacement k boot floor w).nodes j).content ≡ row (w.nodes j).content
unfolding after_replacement
grants_replaced k boot floor w j t x =
    let new = opening_member boot (length (w.nodes k).content.rows) floor in
    cond_both (may_replace w k boot floor) _ w (λ (z : Cluster). (row (z.nodes j).content t).grant ≡ Some x → row (z.nodes j).content ≡ row (w.nodes j).content)
    (λ _. cond_both (eqb j k) new (w.nodes j) (λ (y : Member). (row y.content t).grant ≡ Some x → row y.content ≡ row (w.nodes j).content)
    (λ _ e. absurd (none-some x (sym (opening_grant (length (w.nodes k).content.rows) floor t) ∙ e))) (λ _ _. refl))
    (λ _ _. refl)

used_replacement : (k boot : ℕ) (floor : ℕ → ℕ) (w : Cluster) → NodesUsed w → NodesUsed (after_replacement k boot floor w)
used_replacement k boot floor w h j t p lo hi e =
    let same = grants_replaced k boot floor w j t (p, span_of lo hi) e in
    subst (λ (r : RowRecord). hi < r.next) (sym (ap (λ (f : ℕ → RowRecord). f t) same)) (h j t p lo hi (ap (λ (f : ℕ → RowRecord). (f t).grant) (sym same) ∙ e))

used_event : (e : ℕ) (x : Event) (w : Cluster) → NodesUsed w → NodesUsed (after_event e x w)
unfolding after_event
used_event e (Happens a) w h = used_act e a w h
used_event e (Cut true a) w h = used_restart (node_of a w) (with_sent_of w (after_act e a w)) (used_act e a w h)
used_event e (Cut false a) w h = used_restart (node_of a w) w h
used_event e (Restart i) w h = used_restart (Some i) w h
used_event e (Lost i) w h = λ j t. subst Used (sym (rows_loss i w j t)) (h j t)
used_event e (Replaced i boot floor) w h = used_replacement i boot floor w h

used_run : (xs : List Event) (e : ℕ) (w : Cluster) → NodesUsed w → NodesUsed (run e xs w)
unfolding run
used_run [] e w h = h
used_run (x ∷ xs) e w h = used_run xs (suc e) (after_event e x w) (used_event e x w h)

used_start : (n tokens : ℕ) (opening : Opening) → NodesUsed (start n tokens opening)
used_start n tokens opening i t p lo hi e = absurd (none-some (p, span_of lo hi) (sym (opening_grant tokens (opening.floor i) t) ∙ e))

-- ---- an event in which a row gets a grant changes no other row of its node

raise_grant : (t next : ℕ) (c : Content) (u : ℕ) → (row (raise t next c) u).grant ≡ (row c u).grant
unfolding raise
raise_grant t next c u =
    let r = row_with_next next (row c t) in
    cond_both (ltb (row c t).next next) (with_row c t r None) c (λ (d : Content). (row d u).grant ≡ (row c u).grant)
    (λ _. ⊎_elim (λ (e : row (with_row c t r None) u ≡ row c u). ap (λ (z : RowRecord). z.grant) e)
    (λ (e : (u ≡ t) × (row (with_row c t r None) u ≡ r)). ap (λ (z : RowRecord). z.grant) e.1 ∙ ap (λ m. (row c m).grant) (sym e.0)) (row_cases c t r None u))
    (λ _. refl)

raise_all_grant : (k : ℕ) (floor : ℕ → ℕ) (c : Content) (u : ℕ) → (row (raise_all k floor c) u).grant ≡ (row c u).grant
raise_all_grant zero floor c u = refl
raise_all_grant (suc k) floor c u = raise_grant k (floor k) (raise_all k floor c) u ∙ raise_all_grant k floor c u

raised_grant : (i : ℕ) (floor : ℕ → ℕ) (w : Cluster) (j t : ℕ) → (row ((cond (has_store w i) (with_member i (raised_member floor (w.nodes i)) w) w).nodes j).content t).grant ≡ (row (w.nodes j).content t).grant
raised_grant i floor w j t =
    let c = (w.nodes i).content in
    cond_both (has_store w i) (with_member i (raised_member floor (w.nodes i)) w) w (λ (x : Cluster). (row (x.nodes j).content t).grant ≡ (row (w.nodes j).content t).grant)
    (λ _. cond_both (eqb j i) (raised_member floor (w.nodes i)) (w.nodes j) (λ (y : Member). (row y.content t).grant ≡ (row (w.nodes j).content t).grant)
    (λ q. raise_all_grant (length c.rows) floor c t ∙ ap (λ m. (row (w.nodes m).content t).grant) (sym (eqb-true j i q))) (λ _. refl))
    (λ _. refl)

-- the row of the token at the node gets a grant that it did not have
pub record Votes (w w' : Cluster) (g t : ℕ) : Type 0 where
  pub grant : ProposalRecord × SpanRecord
  pub is_new : (row (w.nodes g).content t).grant ≢ Some grant
  pub granted : (row (w'.nodes g).content t).grant ≡ Some grant

pub differs : (w w' : Cluster) (g t : ℕ) → Votes w w' g t → (row (w'.nodes g).content t).grant ≡ (row (w.nodes g).content t).grant → ⊥
differs w w' g t v same = v.is_new (sym same ∙ v.granted)

-- all other rows of the node stay
abbrev Others : Cluster → Cluster → ℕ → ℕ → Type 0
Others w w' g t = (u : ℕ) → (u ≡ t → ⊥) → row (w'.nodes g).content u ≡ row (w.nodes g).content u

pub raise_act : (e i : ℕ) (floor : ℕ → ℕ) (w : Cluster) (g t : ℕ) → (row ((after_act e (Raise i floor) w).nodes g).content t).grant ≡ (row (w.nodes g).content t).grant
unfolding after_act
raise_act e i floor w g t = raised_grant i floor w g t

act_alone : (e : ℕ) (a : Act) (w : Cluster) (g t : ℕ) → Votes w (after_act e a w) g t → Others w (after_act e a w) g t
act_alone e (Begin i t' lo hi drift) w g t v u ne =
    let a = Begin i t' lo hi drift in
    act_row e a w g u (λ at is. differs w (after_act e a w) g t v (ap (λ (r : RowRecord). r.grant) (act_row e a w g t (λ _ other. ne (is ∙ sym other)))))
act_alone e (Deliver k) w g t v u ne =
    act_row e (Deliver k) w g u (λ l found at is.
    differs w (after_act e (Deliver k) w) g t v (ap (λ (r : RowRecord). r.grant) (act_row e (Deliver k) w g t (λ l' found' _ other.
    ne (is ∙ ap (λ (z : Envelope). token_of z.message) (same_Some l l' (sym found ∙ found')) ∙ sym other)))))
act_alone e (Tick i) w g t v u ne = act_row e (Tick i) w g u tt
act_alone e (Throttle i t' gate) w g t v u ne =
    let a = Throttle i t' gate in
    act_row e a w g u (λ at is. differs w (after_act e a w) g t v (ap (λ (r : RowRecord). r.grant) (act_row e a w g t (λ _ other. ne (is ∙ sym other)))))
act_alone e (Idle i) w g t v u ne = act_row e (Idle i) w g u tt
act_alone e (TickTelling i told) w g t v u ne = act_row e (TickTelling i told) w g u tt
act_alone e (Tell i told) w g t v u ne = act_row e (Tell i told) w g u tt
act_alone e (Raise i floor) w g t v u ne = absurd (differs w (after_act e (Raise i floor) w) g t v (raise_act e i floor w g t))

restart_alone : (o : Option ℕ) (w : Cluster) (g t : ℕ) → Votes w (after_restart o w) g t → ⊥
restart_alone o w g t v = differs w (after_restart o w) g t v (ap (λ (r : RowRecord). r.grant) (rows_restart w o g t))

pub event_alone : (e : ℕ) (x : Event) (w : Cluster) (g t : ℕ) → Votes w (after_event e x w) g t → Others w (after_event e x w) g t
unfolding after_event
event_alone e (Happens a) w g t v = act_alone e a w g t v
event_alone e (Cut true a) w g t v =
    let acted = after_act e a w in
    let unsent = with_sent_of w acted in
    λ u ne. rows_restart unsent (node_of a w) g u
    ∙ act_alone e a w g t (record { grant = v.grant; is_new = v.is_new; granted = ap (λ (r : RowRecord). r.grant) (sym (rows_restart unsent (node_of a w) g t)) ∙ v.granted }) u ne
event_alone e (Cut false a) w g t v = absurd (restart_alone (node_of a w) w g t v)
event_alone e (Restart i) w g t v = absurd (restart_alone (Some i) w g t v)
event_alone e (Lost i) w g t v = absurd (differs w (after_loss i w) g t v (ap (λ (r : RowRecord). r.grant) (rows_loss i w g t)))
event_alone e (Replaced i boot floor) w g t v =
    λ u ne. ap (λ (f : ℕ → RowRecord). f u) (grants_replaced i boot floor w g t v.grant v.granted)

-- ---- the votes of an acceptance

run_next : (xs : List Event) (k e y : ℕ) (x : Event) (w : Cluster) → y ≡ e + k → slice_get xs k ≡ Some x → run e (take (suc k) xs) w ≡ after_event y x (run e (take k xs) w)
unfolding run
run_next [] k e y x w at is = absurd (none-some x is)
run_next (z ∷ xs) zero e y x w at is =
    let here : e ≡ y = omega (arith, at) in
    ap (λ o. after_event e o w) (same_Some z x is) ∙ ap (λ m. after_event m x w) here
run_next (z ∷ xs) (suc k) e y x w at is = run_next xs k (suc e) y x (after_event e z w) (omega (arith, at)) is

get_there : {A : Type 0} (xs : List A) (k : ℕ) → k < length xs → (x : A) × (slice_get xs k ≡ Some x)
get_there [] k lt = absurd (omega (arith, lt))
get_there (x ∷ xs) zero lt = (x, refl)
get_there (x ∷ xs) (suc k) lt = get_there xs k (omega (arith, lt))

take_all : (k : ℕ) (xs : List Event) → length xs ≤ k → take k xs ≡ xs
take_all zero [] h = refl
take_all (suc k) [] h = refl
take_all zero (x ∷ xs) h = absurd (omega arith)
take_all (suc k) (x ∷ xs) h = ap (λ l. x ∷ l) (take_all k xs (omega (arith, h)))

-- after the end of a run its rows stay
past_end : (n tokens : ℕ) (opening : Opening) (events : List Event) (i t y : ℕ) → length events ≤ y → row_before n tokens opening events i t y ≡ row_before n tokens opening events i t (length events)
past_end n tokens opening events i t y le =
    let same : take y events ≡ take (length events) events = take_all y events le ∙ sym (take_all (length events) events (omega arith)) in
    ap (λ l. row ((run 0 l (start n tokens opening)).nodes i).content t) same

pub votes_hold : (n tokens : ℕ) (opening : Opening) (events : List Event) → MayOpen n tokens opening → HaveVotes n (row_before n tokens opening events) (acceptances n tokens opening events)
votes_hold n tokens opening events may i p a =
    let R = history_of n tokens opening events in
    let first = start n tokens opening in
    let w = run 0 events first in
    let k = all_kept n tokens opening events may in
    let kp = each_get (PassKept R (length events) w.n w.begun w.nodes) w.accepted i p k.accepted a in
    let ordered : p.lo ≤ p.hi = k.book.span kp.proposal (record { token = p.token; lo = p.lo; hi = p.hi; event = p.began }) kp.begun in
    record {
      nodes = kp.voters;
      many = subst (λ m. majority_of m ≤ size m kp.voters) (all_members n tokens opening events) kp.enough;
      each = λ g m.
          let x = kp.marks g m in
          let event = get_there events x.event x.ago in
          let before = run 0 (take x.event events) first in
          let after = run 0 (take (suc x.event) events) first in
          let is : after ≡ after_event x.event event.0 before = run_next events x.event 0 x.event event.0 first (omega arith) event.1 in
          let fresh : (row (before.nodes g).content p.token).grant ≢ Some (kp.proposal, span_of p.lo p.hi) =
          λ e. let low = used_run (take x.event events) 0 first (used_start n tokens opening) g p.token kp.proposal p.lo p.hi e in omega (arith, low, ordered, x.free) in (
            x.event,
            record {
              lets = record {
                after_it_began = x.since;
                before_it_ended = omega (arith, x.before);
                free = x.free;
                used = λ y lt.
                    ⊎_elim
                    (λ (inside : y < length events). x.stays y lt (omega (arith, inside)))
                    (λ (past : length events ≤ y). subst (λ (r : RowRecord). p.hi < r.next) (sym (past_end n tokens opening events g p.token y past)) (x.stays (length events) x.ago (omega arith)))
                    (cases_lt y (length events));
              };
              proposal = kp.proposal;
              is_new = fresh;
              granted = x.stored;
              alone = λ other ne. subst (λ (z : Cluster). row (z.nodes g).content other ≡ row (before.nodes g).content other) (sym is)
                  (event_alone x.event event.0 before g p.token
                  (record { grant = (kp.proposal, span_of p.lo p.hi); is_new = fresh; granted = subst (λ (z : Cluster). (row (z.nodes g).content p.token).grant ≡ Some (kp.proposal, span_of p.lo p.hi)) is x.stored })
                  other ne);
            },
          );
    }

-- ---- the floors of a node that has its store rise

abbrev IsReplacing : Event → Type 0
IsReplacing (Happens a) = ⊥
IsReplacing (Cut kept a) = ⊥
IsReplacing (Restart i) = ⊥
IsReplacing (Lost i) = ⊥
IsReplacing (Replaced i boot floor) = Unit {0}

-- no store is replaced for a node that has its store
unreplaced : (k boot : ℕ) (floor : ℕ → ℕ) (w : Cluster) (j t : ℕ) → w.lost j ≡ false → (row (w.nodes j).content t).next ≤ (row ((after_replacement k boot floor w).nodes j).content t).next
unfolding after_replacement
unreplaced k boot floor w j t has =
    let new = opening_member boot (length (w.nodes k).content.rows) floor in
    cond_both (may_replace w k boot floor) _ w (λ (z : Cluster). (row (w.nodes j).content t).next ≤ (row (z.nodes j).content t).next)
    (λ may. cond_both (eqb j k) new (w.nodes j) (λ (y : Member). (row (w.nodes j).content t).next ≤ (row y.content t).next)
    (λ q.
    let lost = (and_parts (is_member w.n k) (w.lost k) (and_parts (is_member w.n k && w.lost k) _ may).0).1 in
    absurd (false≢true (sym has ∙ ap w.lost (eqb-true j k q) ∙ lost)))
    (λ _. omega arith))
    (λ _. omega arith)

replaced_rise : (e k boot : ℕ) (floor : ℕ → ℕ) (w : Cluster) (j t : ℕ) → w.lost j ≡ false → (row (w.nodes j).content t).next ≤ (row ((after_event e (Replaced k boot floor) w).nodes j).content t).next
unfolding after_event
replaced_rise e k boot floor w j t has = unreplaced k boot floor w j t has

pub kept_rise : (n tokens : ℕ) (opening : Opening) (events : List Event) → MayOpen n tokens opening → (i t y : ℕ) → (run 0 (take y events) (start n tokens opening)).lost i ≡ false
    → (row_before n tokens opening events i t y).next ≤ (row_before n tokens opening events i t (suc y)).next
kept_rise n tokens opening events may i t y has = by (slice_get events y) refl
  where
    spared : ((boot : ℕ) (floor : ℕ → ℕ) → slice_get events y ≡ Some (Replaced i boot floor) → ⊥) → (row_before n tokens opening events i t y).next ≤ (row_before n tokens opening events i t (suc y)).next
    spared none =
        rise_holds n tokens opening events may i t y (suc y) (omega arith)
        (λ event boot floor low high is. let same : event ≡ y = omega (arith, low, high) in none boot floor (subst (λ m. slice_get events m ≡ Some (Replaced i boot floor)) same is))

    other : (x : Event) → slice_get events y ≡ Some x → (IsReplacing x → ⊥) → (row_before n tokens opening events i t y).next ≤ (row_before n tokens opening events i t (suc y)).next
    other x at keeps = spared (λ boot floor is. keeps (subst IsReplacing (same_Some (Replaced i boot floor) x (sym is ∙ at)) tt))

    by : (o : Option Event) → slice_get events y ≡ o → (row_before n tokens opening events i t y).next ≤ (row_before n tokens opening events i t (suc y)).next
    by None at = spared (λ boot floor is. none-some (Replaced i boot floor) (sym at ∙ is))
    by (Some (Happens a)) at = other (Happens a) at (λ q. q)
    by (Some (Cut kept a)) at = other (Cut kept a) at (λ q. q)
    by (Some (Restart j)) at = other (Restart j) at (λ q. q)
    by (Some (Lost j)) at = other (Lost j) at (λ q. q)
    by (Some (Replaced j boot floor)) at =
        let first = start n tokens opening in
        let w = run 0 (take y events) first in
        subst (λ (z : Cluster). (row (w.nodes i).content t).next ≤ (row (z.nodes i).content t).next)
        (sym (run_next events y 0 y (Replaced j boot floor) first (omega arith) at))
        (replaced_rise y j boot floor w i t has)

-- What no store's loss changes: floors rise, and the lost stay the lost.
use Rattle.std.proofs.Common.{◌≡◌, ℕ, ℤ, suc, ◌+◌, ◌^◌, ◌≤◌, ⊎_elim, true, ◌&&◌, ◌||◌, cond, List, length, Option, Some, None, refl, sym, ◌∙◌, subst, arith, eqb, leb, ltb}
use Rattle.std.specs.List.{slice_get}
use Rattle.std.proofs.lemmas.Bool.{cond_both, eqb-true, leb-true, and_parts, or_cases}
use Rattle.floor_store.specs.Content.{Content, accepted_row, with_row}
use Rattle.floor_store.specs.Records.{ProposalRecord, RowRecord, span_of}
use Rattle.otp_core.specs.Acceptance.{majority_of, size}
use Rattle.vote_core.specs.NodeSet.{PlaceRecord, with_node}
use Rattle.vote_core.specs.Rows.{row, granted_row, row_with_gate}
use Rattle.vote_core.specs.Schedule.{Member, Envelope, Cluster, Act, Begin, Deliver, Tick, Throttle, Idle, TickTelling, Tell, Raise, raised_member, has_store, is_running, place_of, cluster_after, with_proposal_begun, with_member, stopped_member, may_begin, after_proposal, after_delivery, content_with_gate, after_act, restarted_member, last_boot, after_restart, with_sent_of}
use Rattle.vote_core.specs.Voting.{Ballot, VoterState, Voted, quiet_step, reply_step, with_pending, replace, with_granting, propose, propose_alone, propose_among, pass_of, is_grant, on_ask, granted_one, of_this_boot, accept, count_grant, on_grant, raise, denied_one, on_deny, on_floor, on_message, tick, tick_telling, tell}
use Rattle.vote_core.specs.declared.message.Message.{Message}
use Rattle.vote_core.specs.declared.message.Message.TheVariants.{Ask, Grant, Deny, Floor}
use Rattle.vote_core.proofs.Basics.{Each, each_get, same_size}
use Rattle.vote_core.proofs.Kept.{History, Book, LetterAgrees, At, Calm}
use Rattle.vote_core.proofs.Rows.{rise_put, raise_rises, raise_all_rises}
use Rattle.vote_core.proofs.StepLemmas.{count_deny_content}

abbrev pub Rises : Content → Content → Type 0
Rises c c' = (t : ℕ) → (row c t).next ≤ (row c' t).next

-- the factors that are asked for are in order
abbrev pub Ordered : Message → Type 0
Ordered (Ask p t span) = span.lo ≤ span.hi
Ordered (Grant p t span) = Unit {0}
Ordered (Deny p t next) = Unit {0}
Ordered (Floor t next) = Unit {0}

pub ordered : (R : History) (e : ℕ) (B : Book) (l : Envelope) → LetterAgrees R e B l → Ordered l.message
ordered R e B l h = of l.message h
  where
    of : (m : Message) → LetterAgrees R e B (record l { message = m }) → Ordered m
    of (Ask p t span) k = k.1
    of (Grant p t span) k = tt
    of (Deny p t next) k = tt
    of (Floor t next) k = tt

ask_rises : (from : ℕ) (p : ProposalRecord) (t lo hi : ℕ) (c : Content) (v : VoterState) → lo ≤ hi → Rises c (on_ask from p t lo hi c v).content
unfolding on_ask
ask_rises from p t lo hi c v span =
    let granted = with_row c t (granted_row p lo hi (row c t)) None in
    let take = reply_step from (Grant p t (span_of lo hi)) granted v in
    let no = reply_step from (Deny p t (row c t).next) c v in
    cond_both (is_grant p lo hi (row c t).grant) (reply_step from (Grant p t (span_of lo hi)) c v) (cond (leb (row c t).next lo) take no) (λ s. Rises c s.content)
    (λ _ u. omega arith)
    (λ _. cond_both (leb (row c t).next lo) take no (λ s. Rises c s.content)
    (λ q. let le = leb-true (row c t).next lo q in rise_put c t (granted_row p lo hi (row c t)) None (omega (arith, le, span)))
    (λ _ u. omega arith))

grant_rises : (place : PlaceRecord) (from : ℕ) (c : Content) (v : VoterState) (o : Option Ballot) → Rises c (count_grant place from c v o).content
unfolding count_grant accept
grant_rises place from c v None = λ u. omega arith
grant_rises place from c v (Some q) =
    let q' = with_granting from q in
    cond_both (leb (majority_of place.n) (size place.n (with_node from q.granting))) (accept q' c v) (quiet_step c (with_pending (replace q' v.pending) v)) (λ s. Rises c s.content)
    (λ _. rise_put c q.token (accepted_row q.drift (row c q.token)) (Some (pass_of q.token q.lo q.hi c.boot q.seq)) (omega arith))
    (λ _ u. omega arith)

message_rises : (place : PlaceRecord) (from : ℕ) (m : Message) (c : Content) (v : VoterState) → Ordered m → Rises c (on_message place from m c v).content
unfolding on_message on_grant on_deny on_floor
message_rises place from (Ask p t span) c v h = ask_rises from p t span.lo span.hi c v h
message_rises place from (Grant p t span) c v h = grant_rises place from c v (granted_one from t span.lo span.hi (of_this_boot c p v))
message_rises place from (Deny p t next) c v h =
    subst (λ c'. Rises c c') (sym (count_deny_content place from (raise t next c) v (denied_one from t (of_this_boot c p v)))) (raise_rises t next c)
message_rises place from (Floor t next) c v h = raise_rises t next c

propose_rises : (place : PlaceRecord) (t lo hi : ℕ) (drift : ℤ) (c : Content) (v : VoterState) → (row c t).next ≤ lo → lo ≤ hi → Rises c (propose place t lo hi drift c v).content
unfolding propose propose_alone propose_among
propose_rises place t lo hi drift c v le span =
    let granted = granted_row (record { node = place.me; boot = c.boot; seq = v.seq }) lo hi (row c t) in
    cond_both (eqb place.n 1) (propose_alone place t lo hi drift c v) (propose_among place t lo hi drift c v) (λ s. Rises c s.content)
    (λ _. rise_put c t (accepted_row drift granted) (Some (pass_of t lo hi c.boot v.seq)) (omega (arith, le, span)))
    (λ _. rise_put c t granted None (omega (arith, le, span)))

-- the new cluster has higher floors, and the same are lost
pub record Leaves (w new : Cluster) : Type 0 where
  pub rise : (i : ℕ) → Rises (w.nodes i).content (new.nodes i).content
  pub lost : (i : ℕ) → new.lost i ≡ w.lost i
  pub least : (t : ℕ) → new.least t ≡ w.least t

leaves_same : (w : Cluster) → Leaves w w
leaves_same w = record { rise = λ i t. omega arith; lost = λ i. refl; least = λ t. refl }

leaves_swap : (w : Cluster) (i : ℕ) (x : Member) → Rises (w.nodes i).content x.content → Leaves w (with_member i x w)
leaves_swap w i x h = record {
  rise = λ j.
      cond_both (eqb j i) x (w.nodes j) (λ (y : Member). Rises (w.nodes j).content y.content)
      (λ q. subst (λ m. Rises (w.nodes m).content x.content) (sym (eqb-true j i q)) h) (λ _ t. omega arith);
  lost = λ j. refl;
  least = λ t. refl;
}

leaves_step : (e i : ℕ) (s : Voted) (w : Cluster) → Rises (w.nodes i).content s.content → Leaves w (cluster_after e i s w)
unfolding cluster_after
leaves_step e i s w h =
    let k = leaves_swap w i (record { content = s.content; voter = s.voter; running = true }) h in
    record { rise = k.rise; lost = k.lost; least = k.least }

delivery_leaves : (e : ℕ) (o : Option Envelope) (w : Cluster) → ((l : Envelope) → o ≡ Some l → Ordered l.message) → Leaves w (after_delivery e o w)
unfolding after_delivery
delivery_leaves e None w h = leaves_same w
delivery_leaves e (Some l) w h =
    let i = l.receiver in
    let s = on_message (place_of w i) l.sender l.message (w.nodes i).content (w.nodes i).voter in
    cond_both (is_running w i) (cluster_after e i s w) w (λ x. Leaves w x)
    (λ _. leaves_step e i s w (message_rises (place_of w i) l.sender l.message (w.nodes i).content (w.nodes i).voter (h l refl))) (λ _. leaves_same w)

proposal_leaves : (e i t lo hi : ℕ) (drift : ℤ) (w : Cluster) → (row (w.nodes i).content t).next ≤ lo → lo ≤ hi → Leaves w (after_proposal e i t lo hi drift w)
unfolding after_proposal with_proposal_begun
proposal_leaves e i t lo hi drift w le span =
    let member = w.nodes i in
    let s = propose (place_of w i) t lo hi drift member.content member.voter in
    let begun = with_proposal_begun e i t lo hi w in
    cond_both (ltb member.voter.seq (2 ^ 62)) (cluster_after e i s begun) (with_member i (stopped_member member) w) (λ x. Leaves w x)
    (λ _.
    let k = leaves_step e i s begun (propose_rises (place_of w i) t lo hi drift member.content member.voter le span) in
    record { rise = k.rise; lost = k.lost; least = k.least })
    (λ _. leaves_swap w i (stopped_member member) (λ t. omega arith))

tick_rises : (place : PlaceRecord) (c : Content) (v : VoterState) → Rises c (tick place c v).content
unfolding tick
tick_rises place c v t = omega arith

telling_rises : (place : PlaceRecord) (ts : List ℕ) (c : Content) (v : VoterState) → Rises c (tick_telling place ts c v).content
unfolding tick_telling
telling_rises place ts c v t = omega arith

tell_rises : (place : PlaceRecord) (ts : List ℕ) (c : Content) (v : VoterState) → Rises c (tell place ts c v).content
unfolding tell
tell_rises place ts c v t = omega arith

pub act_leaves : (e : ℕ) (a : Act) (w : Cluster) → ((k : ℕ) (l : Envelope) → slice_get w.sent k ≡ Some l → Ordered l.message) → Leaves w (after_act e a w)
unfolding after_act
act_leaves e (Begin i t lo hi drift) w h =
    cond_both (may_begin w i t lo hi) (after_proposal e i t lo hi drift w) w (λ x. Leaves w x)
    (λ q.
    let c = (w.nodes i).content in
    let span = eqb hi lo || eqb hi (lo + 1) in
    let few = ltb (length (w.nodes i).voter.pending) 32 in
    let a = and_parts (is_running w i) (ltb t (length c.rows) && (leb (row c t).next lo && (span && few))) q in
    let b = and_parts (ltb t (length c.rows)) (leb (row c t).next lo && (span && few)) a.1 in
    let d = and_parts (leb (row c t).next lo) (span && few) b.1 in
    let f = and_parts span few d.1 in
    let order : lo ≤ hi = ⊎_elim (λ (x : eqb hi lo ≡ true). let r : lo ≤ hi = omega (arith, eqb-true hi lo x) in r) (λ (x : eqb hi (lo + 1) ≡ true). let r : lo ≤ hi = omega (arith, eqb-true hi (lo + 1) x) in r) (or_cases (eqb hi lo) (eqb hi (lo + 1)) f.0) in
    proposal_leaves e i t lo hi drift w (leb-true (row c t).next lo d.0) order)
    (λ _. leaves_same w)
act_leaves e (Deliver k) w h = delivery_leaves e (slice_get w.sent k) w (h k)
act_leaves e (Tick i) w h =
    cond_both (is_running w i) (cluster_after e i (tick (place_of w i) (w.nodes i).content (w.nodes i).voter) w) w (λ x. Leaves w x)
    (λ _. leaves_step e i (tick (place_of w i) (w.nodes i).content (w.nodes i).voter) w (tick_rises (place_of w i) (w.nodes i).content (w.nodes i).voter)) (λ _. leaves_same w)
act_leaves e (Throttle i t gate) w h =
    let s = quiet_step (content_with_gate t gate (w.nodes i).content) (w.nodes i).voter in
    cond_both (is_running w i) (cluster_after e i s w) w (λ x. Leaves w x)
    (λ _. leaves_step e i s w (rise_put (w.nodes i).content t (row_with_gate gate (row (w.nodes i).content t)) None (omega arith))) (λ _. leaves_same w)
act_leaves e (Idle i) w h = leaves_same w
act_leaves e (TickTelling i ts) w h =
    cond_both (is_running w i) (cluster_after e i (tick_telling (place_of w i) ts (w.nodes i).content (w.nodes i).voter) w) w (λ x. Leaves w x)
    (λ _. leaves_step e i (tick_telling (place_of w i) ts (w.nodes i).content (w.nodes i).voter) w (telling_rises (place_of w i) ts (w.nodes i).content (w.nodes i).voter)) (λ _. leaves_same w)
act_leaves e (Tell i ts) w h =
    cond_both (is_running w i) (cluster_after e i (tell (place_of w i) ts (w.nodes i).content (w.nodes i).voter) w) w (λ x. Leaves w x)
    (λ _. leaves_step e i (tell (place_of w i) ts (w.nodes i).content (w.nodes i).voter) w (tell_rises (place_of w i) ts (w.nodes i).content (w.nodes i).voter)) (λ _. leaves_same w)
act_leaves e (Raise i floor) w h =
    cond_both (has_store w i) (with_member i (raised_member floor (w.nodes i)) w) w (λ x. Leaves w x)
    (λ _. leaves_swap w i (raised_member floor (w.nodes i)) (raise_all_rises (length (w.nodes i).content.rows) floor (w.nodes i).content)) (λ _. leaves_same w)

pub restart_leaves : (w : Cluster) (o : Option ℕ) → Leaves w (after_restart o w)
unfolding after_restart
restart_leaves w None = leaves_same w
restart_leaves w (Some i) =
    cond_both (has_store w i) (with_member i (restarted_member (w.nodes i)) w) w (λ x. Leaves w x)
    (λ _. leaves_swap w i (restarted_member (w.nodes i))
    (cond_both (ltb (w.nodes i).content.boot last_boot) _ (stopped_member (w.nodes i)) (λ (y : Member). Rises (w.nodes i).content y.content) (λ _ t. omega arith) (λ _ t. omega arith)))
    (λ _. leaves_same w)

pub leaves_both : (a b d : Cluster) → Leaves a b → Leaves b d → Leaves a d
leaves_both a b d h k = record {
  rise = λ i t. omega (arith, h.rise i t, k.rise i t);
  lost = λ i. k.lost i ∙ h.lost i;
  least = λ t. k.least t ∙ h.least t;
}

pub acts_leave : (R : History) (e : ℕ) (a : Act) (w : Cluster) → Each (LetterAgrees R e w.begun) w.sent → Leaves w (after_act e a w)
acts_leave R e a w sent = act_leaves e a w (λ k l at. ordered R e w.begun l (each_get (LetterAgrees R e w.begun) w.sent k l sent at))

pub unsent_leaves : (w new : Cluster) → Leaves w new → Leaves w (with_sent_of w new)
unsent_leaves w new h = record { rise = h.rise; lost = h.lost; least = h.least }

pub calm_of : (R : History) (e : ℕ) (w new : Cluster) → At R e w → At R (suc e) new → Leaves w new → ((i : ℕ) → R.born i (suc e) ≡ R.born i e) → Calm R e
calm_of R e w new now then h born = record {
  rise = λ i t.
      subst (λ (r : RowRecord). r.next ≤ (R.at i t (suc e)).next) (sym (now.rows i t))
      (subst (λ (r : RowRecord). (row (w.nodes i).content t).next ≤ r.next) (sym (then.rows i t)) (h.rise i t));
  born = born;
  lost = lost;
  least = λ t. then.least t ∙ h.least t ∙ sym (now.least t);
  few = λ few. omega (arith, few, same_size R.n (λ i. R.lost i (suc e)) (λ i. R.lost i e) lost);
}
  where
    lost : (i : ℕ) → R.lost i (suc e) ≡ R.lost i e
    lost i = then.lost i ∙ h.lost i ∙ sym (now.lost i)

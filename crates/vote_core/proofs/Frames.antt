-- What is about a token leaves the rows of all others as they are.
use Rattle.std.proofs.Common.{◌≡◌, ℕ, ℤ, zero, suc, ◌^◌, ◌<◌, ◌≤◌, ◌⊎◌, inl, inr, ⊎_elim, true, false, cond, length, Option, Some, None, refl, sym, ap, ◌∙◌, subst, arith, eqb, leb, ltb}
use Rattle.std.specs.List.{slice_get}
use Rattle.std.proofs.lemmas.Bool.{cond_both, eqb-true, ltb-true, ltb-false}
use Rattle.floor_store.specs.Content.{Content, accepted_row, with_row}
use Rattle.floor_store.specs.Records.{ProposalRecord, RowRecord, PassRecord, span_of}
use Rattle.otp_core.specs.Acceptance.{majority_of, size}
use Rattle.vote_core.specs.NodeSet.{PlaceRecord, with_node}
use Rattle.vote_core.specs.Roster.{token_of}
use Rattle.vote_core.specs.Rows.{row, granted_row, row_with_gate, row_with_next}
use Rattle.vote_core.specs.Schedule.{Member, Envelope, Cluster, Act, Begin, Deliver, Tick, Throttle, Idle, TickTelling, Tell, Raise, raised_member, has_store, is_running, place_of, cluster_after, with_proposal_begun, with_member, stopped_member, may_begin, after_proposal, after_delivery, content_with_gate, after_act}
use Rattle.vote_core.specs.Voting.{Ballot, VoterState, Voted, quiet_step, reply_step, with_pending, replace, with_granting, propose, propose_alone, propose_among, pass_of, is_grant, on_ask, granted_one, of_this_boot, accept, count_grant, on_grant, raise, raise_all, denied_one, on_deny, on_floor, on_message, tick, tick_telling, tell}
use Rattle.vote_core.specs.declared.message.Message.{Message}
use Rattle.vote_core.specs.declared.message.Message.TheVariants.{Ask, Grant, Deny, Floor}
use Rattle.vote_core.proofs.Basics.{row_cases, row_here}
use Rattle.vote_core.proofs.After.{stepped}
use Rattle.vote_core.proofs.Lists.{grant_fits}
use Rattle.vote_core.proofs.Rows.{raise_all_size}
use Rattle.vote_core.proofs.StepLemmas.{count_deny_content}

-- the rows of all other tokens are the same
abbrev pub Only : ℕ → Content → Content → Type 0
Only t c c' = (u : ℕ) → (u ≡ t → ⊥) → row c' u ≡ row c u

pub only_put : (c : Content) (t : ℕ) (r : RowRecord) (p : Option PassRecord) → Only t c (with_row c t r p)
only_put c t r p u ne =
    ⊎_elim (λ (e : row (with_row c t r p) u ≡ row c u). e) (λ (e : (u ≡ t) × (row (with_row c t r p) u ≡ r)). absurd (ne e.0)) (row_cases c t r p u)

pub only_raise : (t next : ℕ) (c : Content) → Only t c (raise t next c)
unfolding raise
only_raise t next c =
    cond_both (ltb (row c t).next next) (with_row c t (row_with_next next (row c t)) None) c (λ c'. Only t c c')
    (λ _. only_put c t (row_with_next next (row c t)) None) (λ _ _ _. refl)

only_ask : (from : ℕ) (p : ProposalRecord) (t lo hi : ℕ) (c : Content) (v : VoterState) → Only t c (on_ask from p t lo hi c v).content
unfolding on_ask
only_ask from p t lo hi c v =
    let granted = with_row c t (granted_row p lo hi (row c t)) None in
    let take = reply_step from (Grant p t (span_of lo hi)) granted v in
    let no = reply_step from (Deny p t (row c t).next) c v in
    cond_both (is_grant p lo hi (row c t).grant) (reply_step from (Grant p t (span_of lo hi)) c v) (cond (leb (row c t).next lo) take no) (λ s. Only t c s.content)
    (λ _ _ _. refl)
    (λ _. cond_both (leb (row c t).next lo) take no (λ s. Only t c s.content)
    (λ _. only_put c t (granted_row p lo hi (row c t)) None) (λ _ _ _. refl))

only_grant : (place : PlaceRecord) (from : ℕ) (p : ProposalRecord) (t lo hi : ℕ) (c : Content) (v : VoterState) (o : Option Ballot) → granted_one from t lo hi (of_this_boot c p v) ≡ o
    → Only t c (count_grant place from c v o).content
unfolding count_grant accept
only_grant place from p t lo hi c v None is = λ _ _. refl
only_grant place from p t lo hi c v (Some q) is =
    let q' = with_granting from q in
    let token = (grant_fits place.me from t lo hi p c v q is).token in
    cond_both (leb (majority_of place.n) (size place.n (with_node from q.granting))) (accept q' c v) (quiet_step c (with_pending (replace q' v.pending) v)) (λ s. Only t c s.content)
    (λ _. subst (λ m. Only m c (with_row c q.token (accepted_row q.drift (row c q.token)) (Some (pass_of q.token q.lo q.hi c.boot q.seq)))) token
    (only_put c q.token (accepted_row q.drift (row c q.token)) (Some (pass_of q.token q.lo q.hi c.boot q.seq))))
    (λ _ _ _. refl)

pub only_message : (place : PlaceRecord) (from : ℕ) (m : Message) (c : Content) (v : VoterState) → Only (token_of m) c (on_message place from m c v).content
unfolding on_message on_grant on_deny on_floor
only_message place from (Ask p t span) c v = only_ask from p t span.lo span.hi c v
only_message place from (Grant p t span) c v = only_grant place from p t span.lo span.hi c v (granted_one from t span.lo span.hi (of_this_boot c p v)) refl
only_message place from (Deny p t next) c v =
    subst (λ c'. Only t c c') (sym (count_deny_content place from (raise t next c) v (denied_one from t (of_this_boot c p v)))) (only_raise t next c)
only_message place from (Floor t next) c v = only_raise t next c

pub only_propose : (place : PlaceRecord) (t lo hi : ℕ) (drift : ℤ) (c : Content) (v : VoterState) → Only t c (propose place t lo hi drift c v).content
unfolding propose propose_alone propose_among
only_propose place t lo hi drift c v =
    let granted = granted_row (record { node = place.me; boot = c.boot; seq = v.seq }) lo hi (row c t) in
    cond_both (eqb place.n 1) (propose_alone place t lo hi drift c v) (propose_among place t lo hi drift c v) (λ s. Only t c s.content)
    (λ _. only_put c t (accepted_row drift granted) (Some (pass_of t lo hi c.boot v.seq)))
    (λ _. only_put c t granted None)

-- ---- floors that are raised

-- a row whose floor is raised
abbrev pub raised_row : ℕ → RowRecord → RowRecord
raised_row next old = cond (ltb old.next next) (row_with_next next old) old

raise_here : (t next : ℕ) (c : Content) → t < length c.rows → row (raise t next c) t ≡ raised_row next (row c t)
unfolding raise
raise_here t next c within =
    cond_both (ltb (row c t).next next) (with_row c t (row_with_next next (row c t)) None) c (λ c'. row c' t ≡ raised_row next (row c t))
    (λ q. row_here c t (row_with_next next (row c t)) None within
    ∙ cond_both (ltb (row c t).next next) (row_with_next next (row c t)) (row c t) (λ r. row_with_next next (row c t) ≡ r) (λ _. refl) (λ p. absurd (both_ways (row c t).next next q p)))
    (λ p. cond_both (ltb (row c t).next next) (row_with_next next (row c t)) (row c t) (λ r. row c t ≡ r) (λ q. absurd (both_ways (row c t).next next q p)) (λ _. refl))
  where
    both_ways : (a b : ℕ) → ltb a b ≡ true → ltb a b ≡ false → ⊥
    both_ways a b q p = omega (arith, ltb-true a b q, ltb-false a b p)

raise_above : (k u : ℕ) (floor : ℕ → ℕ) (c : Content) → k ≤ u → row (raise_all k floor c) u ≡ row c u
raise_above zero u floor c h = refl
raise_above (suc k) u floor c h = only_raise k (floor k) (raise_all k floor c) u (λ e. omega (arith, e, h)) ∙ raise_above k u floor c (omega (arith, h))

pub raise_row : (k u : ℕ) (floor : ℕ → ℕ) (c : Content) → u < k → k ≤ length c.rows → row (raise_all k floor c) u ≡ raised_row (floor u) (row c u)
raise_row zero u floor c h le = absurd (omega (arith, h))
raise_row (suc k) u floor c h le =
    let last : u ≡ k → row (raise_all (suc k) floor c) u ≡ raised_row (floor u) (row c u) =
    λ e.
    (let size = raise_all_size k floor c in
    subst (λ m. row (raise k (floor k) (raise_all k floor c)) m ≡ raised_row (floor m) (row c m)) (sym e)
    (raise_here k (floor k) (raise_all k floor c) (omega (arith, size, le)) ∙ ap (raised_row (floor k)) (raise_above k k floor c (omega arith)))) in
    let before : u < k → row (raise_all (suc k) floor c) u ≡ raised_row (floor u) (row c u) =
    λ lt. only_raise k (floor k) (raise_all k floor c) u (λ e. omega (arith, e, lt)) ∙ raise_row k u floor c lt (omega (arith, le)) in
    ⊎_elim last before (cases u k h)
  where
    cases : (a b : ℕ) → a < suc b → (a ≡ b) ⊎ (a < b)
    cases a b l = grind arith

-- a row that is raised to 0 stays
pub raise_none : (k u : ℕ) (floor : ℕ → ℕ) (c : Content) → floor u ≡ 0 → row (raise_all k floor c) u ≡ row c u
unfolding raise
raise_none zero u floor c h = refl
raise_none (suc k) u floor c h =
    ⊎_elim
    (λ (e : u ≡ k). raise_zero k (floor k) (raise_all k floor c) (ap floor (sym e) ∙ h) u ∙ raise_none k u floor c h)
    (λ (ne : u ≡ k → ⊥). only_raise k (floor k) (raise_all k floor c) u ne ∙ raise_none k u floor c h)
    (cases u k)
  where
    cases : (a b : ℕ) → (a ≡ b) ⊎ (a ≡ b → ⊥)
    cases zero zero = inl refl
    cases zero (suc b) = inr (λ e. omega (arith, e))
    cases (suc a) zero = inr (λ e. omega (arith, e))
    cases (suc a) (suc b) = ⊎_elim (λ (e : a ≡ b). inl (ap suc e)) (λ (ne : a ≡ b → ⊥). inr (λ e. ne (omega (arith, e)))) (cases a b)

    raise_zero : (t next : ℕ) (x : Content) → next ≡ 0 → (m : ℕ) → row (raise t next x) m ≡ row x m
    raise_zero t next x z m =
        cond_both (ltb (row x t).next next) (with_row x t (row_with_next next (row x t)) None) x (λ (y : Content). row y m ≡ row x m)
        (λ q. let above = ltb-true (row x t).next next q in absurd (omega (arith, above, z))) (λ _. refl)

-- ---- the events

step_row : (e i : ℕ) (s : Voted) (w : Cluster) (j u : ℕ) → (j ≡ i → row s.content u ≡ row (w.nodes i).content u) → row ((cluster_after e i s w).nodes j).content u ≡ row (w.nodes j).content u
unfolding cluster_after
step_row e i s w j u h =
    cond_both (eqb j i) (stepped s) (w.nodes j) (λ (y : Member). row y.content u ≡ row (w.nodes j).content u)
    (λ q. let is = eqb-true j i q in h is ∙ ap (λ m. row (w.nodes m).content u) (sym is)) (λ _. refl)

pub swap_row : (i : ℕ) (x : Member) (w : Cluster) (j u : ℕ) → (j ≡ i → row x.content u ≡ row (w.nodes i).content u) → row ((with_member i x w).nodes j).content u ≡ row (w.nodes j).content u
swap_row i x w j u h =
    cond_both (eqb j i) x (w.nodes j) (λ (y : Member). row y.content u ≡ row (w.nodes j).content u)
    (λ q. let is = eqb-true j i q in h is ∙ ap (λ m. row (w.nodes m).content u) (sym is)) (λ _. refl)

-- the act is not about this row
abbrev pub Spared : Act → Cluster → ℕ → ℕ → Type 0
Spared (Begin i t lo hi drift) w j u = j ≡ i → u ≡ t → ⊥
Spared (Deliver k) w j u = (l : Envelope) → slice_get w.sent k ≡ Some l → j ≡ l.receiver → u ≡ token_of l.message → ⊥
Spared (Tick i) w j u = Unit {0}
Spared (Throttle i t gate) w j u = j ≡ i → u ≡ t → ⊥
Spared (Idle i) w j u = Unit {0}
Spared (TickTelling i told) w j u = Unit {0}
Spared (Tell i told) w j u = Unit {0}
Spared (Raise i floor) w j u = has_store w i ≡ true → j ≡ i → floor u ≡ 0

delivery_row : (e : ℕ) (o : Option Envelope) (w : Cluster) (j u : ℕ) → ((l : Envelope) → o ≡ Some l → j ≡ l.receiver → u ≡ token_of l.message → ⊥) → row ((after_delivery e o w).nodes j).content u ≡ row (w.nodes j).content u
unfolding after_delivery
delivery_row e None w j u h = refl
delivery_row e (Some l) w j u h =
    let i = l.receiver in
    let s = on_message (place_of w i) l.sender l.message (w.nodes i).content (w.nodes i).voter in
    cond_both (is_running w i) (cluster_after e i s w) w (λ (x : Cluster). row (x.nodes j).content u ≡ row (w.nodes j).content u)
    (λ _. step_row e i s w j u (λ is. only_message (place_of w i) l.sender l.message (w.nodes i).content (w.nodes i).voter u (h l refl is)))
    (λ _. refl)

proposal_row : (e i t lo hi : ℕ) (drift : ℤ) (w : Cluster) (j u : ℕ) → (j ≡ i → u ≡ t → ⊥) → row ((after_proposal e i t lo hi drift w).nodes j).content u ≡ row (w.nodes j).content u
unfolding after_proposal with_proposal_begun
proposal_row e i t lo hi drift w j u h =
    let c = (w.nodes i).content in
    let v = (w.nodes i).voter in
    let s = propose (place_of w i) t lo hi drift c v in
    let begun = with_proposal_begun e i t lo hi w in
    cond_both (ltb v.seq (2 ^ 62)) (cluster_after e i s begun) (with_member i (stopped_member (w.nodes i)) w) (λ (x : Cluster). row (x.nodes j).content u ≡ row (w.nodes j).content u)
    (λ _. step_row e i s begun j u (λ is. only_propose (place_of w i) t lo hi drift c v u (h is)))
    (λ _. swap_row i (stopped_member (w.nodes i)) w j u (λ _. refl))

tick_row : (place : PlaceRecord) (c : Content) (v : VoterState) (u : ℕ) → row (tick place c v).content u ≡ row c u
unfolding tick
tick_row place c v u = refl

pub act_row : (e : ℕ) (a : Act) (w : Cluster) (j u : ℕ) → Spared a w j u → row ((after_act e a w).nodes j).content u ≡ row (w.nodes j).content u
unfolding after_act tick tick_telling tell
act_row e (Begin i t lo hi drift) w j u h =
    cond_both (may_begin w i t lo hi) (after_proposal e i t lo hi drift w) w (λ (x : Cluster). row (x.nodes j).content u ≡ row (w.nodes j).content u)
    (λ _. proposal_row e i t lo hi drift w j u h) (λ _. refl)
act_row e (Deliver k) w j u h = delivery_row e (slice_get w.sent k) w j u h
act_row e (Tick i) w j u h =
    let s = tick (place_of w i) (w.nodes i).content (w.nodes i).voter in
    cond_both (is_running w i) (cluster_after e i s w) w (λ (x : Cluster). row (x.nodes j).content u ≡ row (w.nodes j).content u)
    (λ _. step_row e i s w j u (λ _. refl)) (λ _. refl)
act_row e (Throttle i t gate) w j u h =
    let c = (w.nodes i).content in
    let s = quiet_step (content_with_gate t gate c) (w.nodes i).voter in
    cond_both (is_running w i) (cluster_after e i s w) w (λ (x : Cluster). row (x.nodes j).content u ≡ row (w.nodes j).content u)
    (λ _. step_row e i s w j u (λ is. only_put c t (row_with_gate gate (row c t)) None u (h is))) (λ _. refl)
act_row e (Idle i) w j u h = refl
act_row e (TickTelling i told) w j u h =
    let s = tick_telling (place_of w i) told (w.nodes i).content (w.nodes i).voter in
    cond_both (is_running w i) (cluster_after e i s w) w (λ (x : Cluster). row (x.nodes j).content u ≡ row (w.nodes j).content u)
    (λ _. step_row e i s w j u (λ _. refl)) (λ _. refl)
act_row e (Tell i told) w j u h =
    let s = tell (place_of w i) told (w.nodes i).content (w.nodes i).voter in
    cond_both (is_running w i) (cluster_after e i s w) w (λ (x : Cluster). row (x.nodes j).content u ≡ row (w.nodes j).content u)
    (λ _. step_row e i s w j u (λ _. refl)) (λ _. refl)
act_row e (Raise i floor) w j u h =
    let c = (w.nodes i).content in
    cond_both (has_store w i) (with_member i (raised_member floor (w.nodes i)) w) w (λ (x : Cluster). row (x.nodes j).content u ≡ row (w.nodes j).content u)
    (λ q. swap_row i (raised_member floor (w.nodes i)) w j u (λ is. raise_none (length c.rows) u floor c (h q is))) (λ _. refl)

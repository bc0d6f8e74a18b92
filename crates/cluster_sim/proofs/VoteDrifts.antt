-- A voter's step leaves each drift, but for the pass that puts its ballot's.
use Rattle.std.proofs.Common.{◌≡◌, ℕ, ℤ, ◌-◌, ◌<◌, ◌≤◌, [], ◌∷◌, ⊎_elim, cond, length, Option, Some, None, refl, sym, ap, ◌∙◌, subst, arith, eqb, leb, ltb, not, filter}
use Rattle.std.proofs.lemmas.Bool.{cond_both, eqb-true, eqb-false}
use Rattle.floor_store.specs.Content.{Content, accepted_row, with_row}
use Rattle.floor_store.specs.Records.{ProposalRecord, RowRecord, PassRecord, span_of}
use Rattle.otp_core.specs.Acceptance.{size, majority_of}
use Rattle.vote_core.specs.NodeSet.{PlaceRecord, with_node}
use Rattle.vote_core.specs.Rows.{row, granted_row, row_with_next}
use Rattle.vote_core.specs.Voting.{VoterState, Voted, Ballot, with_pending, remove, replace, with_granting, with_denying, accept, granted_one, of_this_boot, denied_one, propose_alone, propose_among, propose, proposal_of, is_grant, reply_step, on_ask, count_grant, on_grant, raise, count_deny, on_deny, on_floor, on_message, older_ballot, older_ballots, is_young, tick, quiet_step, pass_in}
use Rattle.vote_core.specs.declared.message.Message.{Message}
use Rattle.vote_core.specs.declared.message.Message.TheVariants.{Ask, Grant, Deny, Floor}
use Rattle.vote_core.specs.declared.step.Decision.TheVariants.{Spent}
use Rattle.vote_core.proofs.Basics.{Each, each_append, each_filter, each_map, row_cases, row_here}
use Rattle.vote_core.proofs.Lists.{deny_found, each_remove, each_replace, find_each, grant_fits, pass_in-timeouts}
use Rattle.cluster_sim.proofs.VoteSteps.{raise_boot}

-- what holds of a number, its token, its last factor and its drift
abbrev pub Keeping : Type 1
Keeping = ℕ → ℕ → ℕ → ℤ → Type 0

-- it holds of a ballot
abbrev pub IsKept : Keeping → Ballot → Type 0
IsKept P q = P q.seq q.token q.hi q.drift

-- a pass of this boot puts a drift with which it holds
pub record PutsDrift (P : Keeping) (c d : Content) (p : PassRecord) : Type 0 where
  pub drift : ℤ
  pub boot : p.boot ≡ c.boot
  pub keeps : P p.seq p.token p.hi drift
  pub rows : (u : ℕ) → u < length c.rows → (row d u).drift ≡ cond (eqb p.token u) drift (row c u).drift

abbrev pub LeavesDrifts : Keeping → Content → Content → Option PassRecord → Type 0
LeavesDrifts P c d None = (u : ℕ) → (row d u).drift ≡ (row c u).drift
LeavesDrifts P c d (Some p) = PutsDrift P c d p

pub record IsDriftStep (P : Keeping) (c : Content) (v : VoterState) (s : Voted) : Type 0 where
  pub boot : s.content.boot ≡ c.boot
  pub seq : v.seq ≤ s.voter.seq
  pub pending : Each (IsKept P) s.voter.pending
  pub drifts : LeavesDrifts P c s.content (pass_in s.decisions)

put_drift : (c : Content) (t : ℕ) (r : RowRecord) (p : Option PassRecord) (u : ℕ) → u < length c.rows → (row (with_row c t r p) u).drift ≡ cond (eqb t u) r.drift (row c u).drift
put_drift c t r p u h =
    cond_both (eqb t u) r.drift (row c u).drift (λ d. (row (with_row c t r p) u).drift ≡ d)
    (λ q. ap (λ m. (row (with_row c t r p) m).drift) (sym (eqb-true t u q)) ∙ ap (λ (x : RowRecord). x.drift) (row_here c t r p (subst (λ m. m < length c.rows) (sym (eqb-true t u q)) h)))
    (λ q. ⊎_elim (λ (e : row (with_row c t r p) u ≡ row c u). ap (λ (x : RowRecord). x.drift) e) (λ (w : (u ≡ t) × (row (with_row c t r p) u ≡ r)). absurd (eqb-false t u q (sym w.0))) (row_cases c t r p u))

pub same_drift : (c : Content) (t : ℕ) (r : RowRecord) (p : Option PassRecord) (u : ℕ) → r.drift ≡ (row c t).drift → (row (with_row c t r p) u).drift ≡ (row c u).drift
same_drift c t r p u same =
    ⊎_elim (λ (e : row (with_row c t r p) u ≡ row c u). ap (λ (x : RowRecord). x.drift) e)
    (λ (w : (u ≡ t) × (row (with_row c t r p) u ≡ r)). ap (λ (x : RowRecord). x.drift) w.1 ∙ same ∙ ap (λ m. (row c m).drift) (sym w.0)) (row_cases c t r p u)

ask_drift : (P : Keeping) (from : ℕ) (p : ProposalRecord) (t lo hi : ℕ) (c : Content) (v : VoterState) → Each (IsKept P) v.pending → IsDriftStep P c v (on_ask from p t lo hi c v)
unfolding on_ask
ask_drift P from p t lo hi c v h =
    let grants = reply_step from (Grant p t (span_of lo hi)) (with_row c t (granted_row p lo hi (row c t)) None) v in
    let denies = reply_step from (Deny p t (row c t).next) c v in
    cond_both (is_grant p lo hi (row c t).grant) (reply_step from (Grant p t (span_of lo hi)) c v) (cond (leb (row c t).next lo) grants denies) (λ s. IsDriftStep P c v s)
    (λ _. record { boot = refl; seq = omega arith; pending = h; drifts = λ u. refl })
    (λ _. cond_both (leb (row c t).next lo) grants denies (λ s. IsDriftStep P c v s)
    (λ _. record { boot = refl; seq = omega arith; pending = h; drifts = λ u. same_drift c t (granted_row p lo hi (row c t)) None u refl })
    (λ _. record { boot = refl; seq = omega arith; pending = h; drifts = λ u. refl }))

count_drift : (P : Keeping) (place : PlaceRecord) (from : ℕ) (c : Content) (v : VoterState) (o : Option Ballot) → Each (IsKept P) v.pending → ((q : Ballot) → o ≡ Some q → IsKept P q)
    → IsDriftStep P c v (count_grant place from c v o)
unfolding count_grant accept
count_drift P place from c v None h ok = record { boot = refl; seq = omega arith; pending = h; drifts = λ u. refl }
count_drift P place from c v (Some q) h ok =
    cond_both (leb (majority_of place.n) (size place.n (with_node from q.granting))) (accept (with_granting from q) c v) (quiet_step c (with_pending (replace (with_granting from q) v.pending) v)) (λ s. IsDriftStep P c v s)
    (λ _. record {
      boot = refl;
      seq = omega arith;
      pending = each_remove (IsKept P) q.seq v.pending h;
      drifts = record { drift = q.drift; boot = refl; keeps = ok q refl; rows = λ u lt. put_drift c q.token (accepted_row q.drift (row c q.token)) None u lt };
    })
    (λ _. record { boot = refl; seq = omega arith; pending = each_replace (IsKept P) (with_granting from q) v.pending (ok q refl) h; drifts = λ u. refl })

raise_drift : (t next : ℕ) (c : Content) (u : ℕ) → (row (raise t next c) u).drift ≡ (row c u).drift
unfolding raise
raise_drift t next c u =
    cond_both (ltb (row c t).next next) (with_row c t (row_with_next next (row c t)) None) c (λ d. (row d u).drift ≡ (row c u).drift) (λ _. same_drift c t (row_with_next next (row c t)) None u refl) (λ _. refl)

discount_drift : (P : Keeping) (place : PlaceRecord) (from : ℕ) (c d : Content) (v : VoterState) (o : Option Ballot) → d.boot ≡ c.boot → ((u : ℕ) → (row d u).drift ≡ (row c u).drift)
    → Each (IsKept P) v.pending → ((q : Ballot) → o ≡ Some q → IsKept P q) → IsDriftStep P c v (count_deny place from d v o)
unfolding count_deny
discount_drift P place from c d v None same rows h ok = record { boot = same; seq = omega arith; pending = h; drifts = rows }
discount_drift P place from c d v (Some q) same rows h ok =
    let gone : Voted = record { content = d; voter = with_pending (remove q.seq v.pending) v; sends = []; begun = None; decisions = (q.seq, Spent) ∷ [] } in
    cond_both (ltb (place.n - size place.n (with_node from q.denying)) (majority_of place.n)) gone (quiet_step d (with_pending (replace (with_denying from q) v.pending) v)) (λ s. IsDriftStep P c v s)
    (λ _. record { boot = same; seq = omega arith; pending = each_remove (IsKept P) q.seq v.pending h; drifts = rows })
    (λ _. record { boot = same; seq = omega arith; pending = each_replace (IsKept P) (with_denying from q) v.pending (ok q refl) h; drifts = rows })

pub message_drift : (P : Keeping) (place : PlaceRecord) (from : ℕ) (m : Message) (c : Content) (v : VoterState) → Each (IsKept P) v.pending → IsDriftStep P c v (on_message place from m c v)
unfolding on_message on_grant on_deny on_floor
message_drift P place from (Ask p t span) c v h = ask_drift P from p t span.lo span.hi c v h
message_drift P place from (Grant p t span) c v h =
    count_drift P place from c v (granted_one from t span.lo span.hi (of_this_boot c p v)) h
    (λ q e. find_each (IsKept P) p.seq v.pending q h (grant_fits place.me from t span.lo span.hi p c v q e).found)
message_drift P place from (Deny p t next) c v h =
    discount_drift P place from c (raise t next c) v (denied_one from t (of_this_boot c p v)) (raise_boot t next c) (raise_drift t next c) h
    (λ q e. find_each (IsKept P) p.seq v.pending q h (deny_found from t p c v q e))
message_drift P place from (Floor t next) c v h = record { boot = raise_boot t next c; seq = omega arith; pending = h; drifts = raise_drift t next c }

pub tick_drift : (P : Keeping) (place : PlaceRecord) (c : Content) (v : VoterState) → Each (IsKept P) v.pending → IsDriftStep P c v (tick place c v)
unfolding tick
tick_drift P place c v h = record {
  boot = refl;
  seq = omega arith;
  pending = each_filter (IsKept P) is_young (older_ballots v.pending) (each_map (IsKept P) older_ballot v.pending h);
  drifts = subst (λ o. LeavesDrifts P c c o) (sym (pass_in-timeouts (filter (λ q. not (is_young q)) (older_ballots v.pending)))) (λ u. refl);
}

pub propose_drift : (P : Keeping) (place : PlaceRecord) (t lo hi : ℕ) (drift : ℤ) (c : Content) (v : VoterState) → Each (IsKept P) v.pending → P v.seq t hi drift
    → IsDriftStep P c v (propose place t lo hi drift c v)
unfolding propose propose_alone propose_among
propose_drift P place t lo hi drift c v h new =
    cond_both (eqb place.n 1) (propose_alone place t lo hi drift c v) (propose_among place t lo hi drift c v) (λ s. IsDriftStep P c v s)
    (λ _. record {
      boot = refl;
      seq = omega arith;
      pending = h;
      drifts = record { drift = drift; boot = refl; keeps = new; rows = λ u lt. put_drift c t (accepted_row drift (granted_row (proposal_of place c v) lo hi (row c t))) None u lt };
    })
    (λ _. record {
      boot = refl;
      seq = omega arith;
      pending = each_append (IsKept P) v.pending _ h (new, tt);
      drifts = λ u. same_drift c t (granted_row (proposal_of place c v) lo hi (row c t)) None u refl;
    })

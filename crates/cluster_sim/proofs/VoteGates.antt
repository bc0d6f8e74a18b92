-- A voter's step leaves each gate, but for the pass that clears its token's.
use Rattle.vote_core.proofs.Lists.{pass_in-timeouts}
use Rattle.std.proofs.Common.{◌≡◌, ℕ, ℤ, ◌-◌, ◌<◌, [], ◌∷◌, ⊎_elim, cond, length, Option, Some, None, refl, sym, ap, ◌∙◌, subst, eqb, leb, ltb, not, filter}
use Rattle.std.proofs.lemmas.Bool.{cond_both, eqb-true, eqb-false}
use Rattle.otp_core.specs.Gate.{GateRecord, clear_gate}
use Rattle.floor_store.specs.Content.{Content, accepted_row, with_row}
use Rattle.floor_store.specs.Records.{ProposalRecord, RowRecord, PassRecord, span_of}
use Rattle.otp_core.specs.Acceptance.{size, majority_of}
use Rattle.vote_core.specs.NodeSet.{PlaceRecord, with_node}
use Rattle.vote_core.specs.Rows.{row, granted_row, row_with_next}
use Rattle.vote_core.specs.Voting.{VoterState, Voted, Ballot, with_pending, remove, replace, with_granting, with_denying, accept, granted_one, of_this_boot, denied_one, propose_alone, propose_among, propose, is_grant, reply_step, on_ask, count_grant, on_grant, raise, count_deny, on_deny, on_floor, on_message, tick, quiet_step, pass_in, is_young, older_ballots}
use Rattle.vote_core.specs.declared.step.Decision.TheVariants.{Spent}
use Rattle.vote_core.proofs.Basics.{row_cases, row_here}
use Rattle.vote_core.specs.declared.message.Message.{Message}
use Rattle.vote_core.specs.declared.message.Message.TheVariants.{Ask, Grant, Deny, Floor}

abbrev pub gate_by : Option PassRecord → ℕ → GateRecord → GateRecord
gate_by None u g = g
gate_by (Some p) u g = cond (eqb p.token u) clear_gate g

abbrev pub GateStep : Content → Voted → Type 0
GateStep c s = (u : ℕ) → u < length c.rows → (row s.content u).gate ≡ gate_by (pass_in s.decisions) u (row c u).gate

pub put_gate : (c : Content) (t : ℕ) (r : RowRecord) (p : Option PassRecord) (u : ℕ) → u < length c.rows → (row (with_row c t r p) u).gate ≡ cond (eqb t u) r.gate (row c u).gate
put_gate c t r p u h =
    cond_both (eqb t u) r.gate (row c u).gate (λ g. (row (with_row c t r p) u).gate ≡ g)
    (λ q. ap (λ m. (row (with_row c t r p) m).gate) (sym (eqb-true t u q)) ∙ ap (λ (x : RowRecord). x.gate) (row_here c t r p (subst (λ m. m < length c.rows) (sym (eqb-true t u q)) h)))
    (λ q. ⊎_elim (λ (e : row (with_row c t r p) u ≡ row c u). ap (λ (x : RowRecord). x.gate) e) (λ (w : (u ≡ t) × (row (with_row c t r p) u ≡ r)). absurd (eqb-false t u q (sym w.0))) (row_cases c t r p u))

same_gate : (c : Content) (t : ℕ) (r : RowRecord) (p : Option PassRecord) (u : ℕ) → r.gate ≡ (row c t).gate → (row (with_row c t r p) u).gate ≡ (row c u).gate
same_gate c t r p u same =
    ⊎_elim (λ (e : row (with_row c t r p) u ≡ row c u). ap (λ (x : RowRecord). x.gate) e)
    (λ (w : (u ≡ t) × (row (with_row c t r p) u ≡ r)). ap (λ (x : RowRecord). x.gate) w.1 ∙ same ∙ ap (λ m. (row c m).gate) (sym w.0)) (row_cases c t r p u)

ask_gate : (from : ℕ) (p : ProposalRecord) (t lo hi : ℕ) (c : Content) (v : VoterState) → GateStep c (on_ask from p t lo hi c v)
unfolding on_ask
ask_gate from p t lo hi c v =
    let grants = reply_step from (Grant p t (span_of lo hi)) (with_row c t (granted_row p lo hi (row c t)) None) v in
    let denies = reply_step from (Deny p t (row c t).next) c v in
    cond_both (is_grant p lo hi (row c t).grant) (reply_step from (Grant p t (span_of lo hi)) c v) (cond (leb (row c t).next lo) grants denies) (λ s. GateStep c s)
    (λ _ u h. refl)
    (λ _. cond_both (leb (row c t).next lo) grants denies (λ s. GateStep c s) (λ _ u h. same_gate c t (granted_row p lo hi (row c t)) None u refl) (λ _ u h. refl))

count_gate : (place : PlaceRecord) (from : ℕ) (c : Content) (v : VoterState) (o : Option Ballot) → GateStep c (count_grant place from c v o)
unfolding count_grant accept
count_gate place from c v None = λ u h. refl
count_gate place from c v (Some q) =
    cond_both (leb (majority_of place.n) (size place.n (with_node from q.granting))) (accept (with_granting from q) c v) (quiet_step c (with_pending (replace (with_granting from q) v.pending) v)) (λ s. GateStep c s)
    (λ _ u h. put_gate c q.token (accepted_row q.drift (row c q.token)) None u h) (λ _ u h. refl)

grant_gate : (place : PlaceRecord) (from : ℕ) (p : ProposalRecord) (t lo hi : ℕ) (c : Content) (v : VoterState) → GateStep c (on_grant place from p t lo hi c v)
unfolding on_grant
grant_gate place from p t lo hi c v = count_gate place from c v (granted_one from t lo hi (of_this_boot c p v))

raise_gate : (t next : ℕ) (c : Content) (u : ℕ) → (row (raise t next c) u).gate ≡ (row c u).gate
unfolding raise
raise_gate t next c u = cond_both (ltb (row c t).next next) (with_row c t (row_with_next next (row c t)) None) c (λ d. (row d u).gate ≡ (row c u).gate) (λ _. same_gate c t (row_with_next next (row c t)) None u refl) (λ _. refl)

abbrev Plain : Content → Voted → Type 0
Plain c s = (u : ℕ) → (row s.content u).gate ≡ gate_by (pass_in s.decisions) u (row c u).gate

discount_gate : (place : PlaceRecord) (from : ℕ) (c : Content) (v : VoterState) (o : Option Ballot) → Plain c (count_deny place from c v o)
unfolding count_deny
discount_gate place from c v None = λ u. refl
discount_gate place from c v (Some q) = cond_both (ltb (place.n - size place.n (with_node from q.denying)) (majority_of place.n)) (record { content = c; voter = with_pending (remove q.seq v.pending) v; sends = []; begun = None; decisions = (q.seq, Spent) ∷ [] }) (quiet_step c (with_pending (replace (with_denying from q) v.pending) v)) (λ s. Plain c s) (λ _ u. refl) (λ _ u. refl)

deny_gate : (place : PlaceRecord) (from : ℕ) (p : ProposalRecord) (t next : ℕ) (c : Content) (v : VoterState) → GateStep c (on_deny place from p t next c v)
unfolding on_deny
deny_gate place from p t next c v u h =
    discount_gate place from (raise t next c) v (denied_one from t (of_this_boot c p v)) u
    ∙ ap (λ g. gate_by (pass_in (count_deny place from (raise t next c) v (denied_one from t (of_this_boot c p v))).decisions) u g) (raise_gate t next c u)

pub message_gate : (place : PlaceRecord) (from : ℕ) (m : Message) (c : Content) (v : VoterState) → GateStep c (on_message place from m c v)
unfolding on_message on_floor
message_gate place from (Ask p t span) c v = ask_gate from p t span.lo span.hi c v
message_gate place from (Grant p t span) c v = grant_gate place from p t span.lo span.hi c v
message_gate place from (Deny p t next) c v = deny_gate place from p t next c v
message_gate place from (Floor t next) c v = λ u h. raise_gate t next c u

pub propose_gate : (place : PlaceRecord) (t lo hi : ℕ) (drift : ℤ) (c : Content) (v : VoterState) → GateStep c (propose place t lo hi drift c v)
unfolding propose propose_alone propose_among
propose_gate place t lo hi drift c v =
    cond_both (eqb place.n 1) (propose_alone place t lo hi drift c v) (propose_among place t lo hi drift c v) (λ s. GateStep c s)
    (λ _ u h. put_gate c t (accepted_row drift (granted_row (record { node = place.me; boot = c.boot; seq = v.seq }) lo hi (row c t))) None u h)
    (λ _ u h. same_gate c t (granted_row (record { node = place.me; boot = c.boot; seq = v.seq }) lo hi (row c t)) None u refl)

pub tick_gate : (place : PlaceRecord) (c : Content) (v : VoterState) → GateStep c (tick place c v)
unfolding tick
tick_gate place c v u h = ap (λ o. gate_by o u (row c u).gate) (sym (pass_in-timeouts (filter (λ q. not (is_young q)) (older_ballots v.pending))))

-- What a voter's step decides, by the numbers of what is pending.
use Rattle.vote_core.proofs.Lists.{pass_in-timeouts}
use Rattle.std.proofs.Common.{◌≡◌, ℕ, ℤ, ◌+◌, ◌-◌, ◌≤◌, List, [], ◌∷◌, cond, not, Option, Some, None, refl, arith, eqb, leb, ltb, subst, sym}
use Rattle.std.specs.List.{filter}
use Rattle.std.proofs.lemmas.Bool.{cond_both}
use Rattle.floor_store.specs.Content.{Content, with_row}
use Rattle.floor_store.specs.Records.{ProposalRecord, PassRecord, span_of}
use Rattle.otp_core.specs.Acceptance.{size, majority_of}
use Rattle.vote_core.specs.NodeSet.{PlaceRecord, with_node}
use Rattle.vote_core.specs.Rows.{row, granted_row, row_with_next}
use Rattle.vote_core.specs.Voting.{VoterState, Voted, Ballot, find, with_pending, remove, replace, with_granting, with_denying, accept, granted_one, of_this_boot, denied_one, propose_alone, propose_among, propose, is_grant, reply_step, on_ask, count_grant, on_grant, raise, count_deny, on_deny, on_floor, on_message, older_ballot, older_ballots, is_young, tick, quiet_step, pass_in}
use Rattle.vote_core.specs.declared.message.Message.{Message}
use Rattle.vote_core.specs.declared.message.Message.TheVariants.{Ask, Grant, Deny, Floor}
use Rattle.vote_core.specs.declared.step.Decision.{Decision}
use Rattle.vote_core.specs.declared.step.Decision.TheVariants.{Accepted, Spent, Timeout}
use Rattle.vote_core.proofs.Basics.{Each, each_all, each_append, each_filter, each_map}

-- a property of the number of each
abbrev pub Numbered : (ℕ → Type 0) → List Ballot → Type 0
Numbered P ballots = Each (λ (q : Ballot). P q.seq) ballots

abbrev pub IsNoAcceptance : Decision → Type 0
IsNoAcceptance (Accepted pass) = ⊥
IsNoAcceptance Spent = Unit {0}
IsNoAcceptance Timeout = Unit {0}

-- a pass is of this boot, and what is decided is that it was accepted; without one nothing is accepted
abbrev pub Settled : ℕ → (ℕ → Type 0) → Option PassRecord → List (ℕ × Decision) → Type 0
Settled boot P None decisions = Each (λ (d : ℕ × Decision). IsNoAcceptance d.1) decisions
Settled boot P (Some p) decisions = (p.boot ≡ boot) × P p.seq × (decisions ≡ (p.seq, Accepted p) ∷ [])

pub record IsStep (P : ℕ → Type 0) (c : Content) (v : VoterState) (s : Voted) : Type 0 where
  pub boot : s.content.boot ≡ c.boot
  pub seq : v.seq ≤ s.voter.seq
  pub pending : Numbered P s.voter.pending
  pub settled : Settled c.boot P (pass_in s.decisions) s.decisions

only_step : (P : ℕ → Type 0) (c d : Content) (v : VoterState) → d.boot ≡ c.boot → Numbered P v.pending → IsStep P c v (quiet_step d v)
only_step P c d v same h = record { boot = same; seq = omega arith; pending = h; settled = tt }

answer_step : (P : ℕ → Type 0) (to : ℕ) (m : Message) (c d : Content) (v : VoterState) → d.boot ≡ c.boot → Numbered P v.pending → IsStep P c v (reply_step to m d v)
answer_step P to m c d v same h = record { boot = same; seq = omega arith; pending = h; settled = tt }

ask_step : (P : ℕ → Type 0) (from : ℕ) (p : ProposalRecord) (t lo hi : ℕ) (c : Content) (v : VoterState) → Numbered P v.pending → IsStep P c v (on_ask from p t lo hi c v)
unfolding on_ask
ask_step P from p t lo hi c v h =
    let grants = reply_step from (Grant p t (span_of lo hi)) (with_row c t (granted_row p lo hi (row c t)) None) v in
    let denies = reply_step from (Deny p t (row c t).next) c v in
    cond_both (is_grant p lo hi (row c t).grant) (reply_step from (Grant p t (span_of lo hi)) c v) (cond (leb (row c t).next lo) grants denies) (λ s. IsStep P c v s)
    (λ _. answer_step P from _ c c v refl h)
    (λ _. cond_both (leb (row c t).next lo) grants denies (λ s. IsStep P c v s)
    (λ _. answer_step P from _ c (with_row c t (granted_row p lo hi (row c t)) None) v refl h) (λ _. answer_step P from _ c c v refl h))

-- ---- the pending one that a vote is for

abbrev Found : (ℕ → Type 0) → Option Ballot → Type 0
Found P None = Unit {0}
Found P (Some q) = P q.seq

found : (P : ℕ → Type 0) (s : ℕ) (qs : List Ballot) → Numbered P qs → Found P (find s qs)
found P s [] h = tt
found P s (q ∷ qs) h = cond_both (eqb q.seq s) (Some q) (find s qs) (λ o. Found P o) (λ _. h.0) (λ _. found P s qs h.1)

found_here : (P : ℕ → Type 0) (c : Content) (p : ProposalRecord) (v : VoterState) → Numbered P v.pending → Found P (of_this_boot c p v)
found_here P c p v h = cond_both (eqb p.boot c.boot) (find p.seq v.pending) None (λ o. Found P o) (λ _. found P p.seq v.pending h) (λ _. tt)

found_granted : (P : ℕ → Type 0) (from t lo hi : ℕ) (o : Option Ballot) → Found P o → Found P (granted_one from t lo hi o)
found_granted P from t lo hi None h = tt
found_granted P from t lo hi (Some q) h = cond_both _ (Some q) None (λ o. Found P o) (λ _. h) (λ _. tt)

found_denied : (P : ℕ → Type 0) (from t : ℕ) (o : Option Ballot) → Found P o → Found P (denied_one from t o)
found_denied P from t None h = tt
found_denied P from t (Some q) h = cond_both _ (Some q) None (λ o. Found P o) (λ _. h) (λ _. tt)

replaced : (P : ℕ → Type 0) (q : Ballot) (qs : List Ballot) → P q.seq → Numbered P qs → Numbered P (replace q qs)
replaced P q [] new h = tt
replaced P q (x ∷ qs) new h = (cond_both (eqb x.seq q.seq) q x (λ y. P y.seq) (λ _. new) (λ _. h.0), replaced P q qs new h.1)

grant_step : (P : ℕ → Type 0) (place : PlaceRecord) (from : ℕ) (c : Content) (v : VoterState) (o : Option Ballot) → Numbered P v.pending → Found P o → IsStep P c v (count_grant place from c v o)
unfolding count_grant accept
grant_step P place from c v None h f = only_step P c c v refl h
grant_step P place from c v (Some q) h f =
    cond_both (leb (majority_of place.n) (size place.n (with_node from q.granting))) (accept (with_granting from q) c v) (quiet_step c (with_pending (replace (with_granting from q) v.pending) v)) (λ s. IsStep P c v s)
    (λ _. record { boot = refl; seq = omega arith; pending = each_filter (λ (b : Ballot). P b.seq) _ v.pending h; settled = (refl, f, refl) })
    (λ _. record { boot = refl; seq = omega arith; pending = replaced P (with_granting from q) v.pending f h; settled = tt })

pub raise_boot : (t next : ℕ) (c : Content) → (raise t next c).boot ≡ c.boot
unfolding raise
raise_boot t next c = cond_both (ltb (row c t).next next) (with_row c t (row_with_next next (row c t)) None) c (λ d. d.boot ≡ c.boot) (λ _. refl) (λ _. refl)

deny_step : (P : ℕ → Type 0) (place : PlaceRecord) (from : ℕ) (c d : Content) (v : VoterState) (o : Option Ballot) → d.boot ≡ c.boot → Numbered P v.pending → Found P o → IsStep P c v (count_deny place from d v o)
unfolding count_deny
deny_step P place from c d v None same h f = only_step P c d v same h
deny_step P place from c d v (Some q) same h f =
    let gone : Voted = record { content = d; voter = with_pending (remove q.seq v.pending) v; sends = []; begun = None; decisions = (q.seq, Spent) ∷ [] } in
    cond_both (ltb (place.n - size place.n (with_node from q.denying)) (majority_of place.n)) gone (quiet_step d (with_pending (replace (with_denying from q) v.pending) v)) (λ s. IsStep P c v s)
    (λ _. record { boot = same; seq = omega arith; pending = each_filter (λ (b : Ballot). P b.seq) _ v.pending h; settled = (tt, tt) })
    (λ _. record { boot = same; seq = omega arith; pending = replaced P (with_denying from q) v.pending f h; settled = tt })

pub message_step : (P : ℕ → Type 0) (place : PlaceRecord) (from : ℕ) (m : Message) (c : Content) (v : VoterState) → Numbered P v.pending → IsStep P c v (on_message place from m c v)
unfolding on_message on_grant on_deny on_floor
message_step P place from (Ask p t span) c v h = ask_step P from p t span.lo span.hi c v h
message_step P place from (Grant p t span) c v h = grant_step P place from c v _ h (found_granted P from t span.lo span.hi (of_this_boot c p v) (found_here P c p v h))
message_step P place from (Deny p t next) c v h = deny_step P place from c (raise t next c) v _ (raise_boot t next c) h (found_denied P from t (of_this_boot c p v) (found_here P c p v h))
message_step P place from (Floor t next) c v h = only_step P c (raise t next c) v (raise_boot t next c) h

pub tick_step : (P : ℕ → Type 0) (place : PlaceRecord) (c : Content) (v : VoterState) → Numbered P v.pending → IsStep P c v (tick place c v)
unfolding tick
tick_step P place c v h = record {
  boot = refl;
  seq = omega arith;
  pending = each_filter (λ (q : Ballot). P q.seq) is_young (older_ballots v.pending) (each_map (λ (q : Ballot). P q.seq) older_ballot v.pending h);
  settled = subst (λ o. Settled c.boot P o (tick place c v).decisions) (sym (pass_in-timeouts (filter (λ q. not (is_young q)) (older_ballots v.pending))))
      (each_map (λ (d : ℕ × Decision). IsNoAcceptance d.1) (λ (q : Ballot). (q.seq, Timeout)) (filter (λ q. not (is_young q)) (older_ballots v.pending)) (each_all (λ (q : Ballot). Unit {0}) (λ _. tt) (filter (λ q. not (is_young q)) (older_ballots v.pending))));
}

-- a proposal takes the next number
pub propose_step : (P : ℕ → Type 0) (place : PlaceRecord) (t lo hi : ℕ) (drift : ℤ) (c : Content) (v : VoterState) → Numbered P v.pending → P v.seq → IsStep P c v (propose place t lo hi drift c v)
unfolding propose propose_alone propose_among
propose_step P place t lo hi drift c v h new =
    cond_both (eqb place.n 1) (propose_alone place t lo hi drift c v) (propose_among place t lo hi drift c v) (λ s. IsStep P c v s)
    (λ _. record { boot = refl; seq = omega arith; pending = h; settled = (refl, new, refl) })
    (λ _. record { boot = refl; seq = omega arith; pending = each_append (λ (q : Ballot). P q.seq) v.pending _ h (new, tt); settled = tt })

pub propose_seq : (place : PlaceRecord) (t lo hi : ℕ) (drift : ℤ) (c : Content) (v : VoterState) → (propose place t lo hi drift c v).voter.seq ≡ v.seq + 1
unfolding propose propose_alone propose_among
propose_seq place t lo hi drift c v = cond_both (eqb place.n 1) (propose_alone place t lo hi drift c v) (propose_among place t lo hi drift c v) (λ s. s.voter.seq ≡ v.seq + 1) (λ _. refl) (λ _. refl)

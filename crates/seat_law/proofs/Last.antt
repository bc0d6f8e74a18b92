-- A step changes its outputs, its voter and its rows in the same way whatever the last pass of its content is.
use Rattle.std.proofs.Common.{◌≡◌, ℕ, ℤ, ◌-◌, Bool, not, cond, List, [], ◌∷◌, map, Option, Some, None, refl, sym, ap, ◌∙◌, eqb, leb, ltb}
use Rattle.std.specs.Option.{option_or}
use Rattle.otp_core.specs.Acceptance.{majority_of, size}
use Rattle.otp_core.specs.Gate.{GateRecord}
use Rattle.std.specs.List.{filter}
use Rattle.floor_store.specs.Content.{Content, with_row}
use Rattle.floor_store.specs.Records.{PassRecord, ProposalRecord, span_of}
use Rattle.vote_core.specs.NodeSet.{PlaceRecord, with_node}
use Rattle.vote_core.specs.Rows.{row, granted_row, row_with_next}
use Rattle.vote_core.specs.Schedule.{content_with_gate}
use Rattle.vote_core.specs.Voting.{Ballot, VoterState, Voted, quiet_step, reply_step, with_pending, remove, replace, pass_in, propose, propose_alone, propose_among, is_grant, on_ask, granted_one, of_this_boot, with_granting, accept, count_grant, on_grant, raise, denied_one, with_denying, count_deny, on_deny, on_floor, on_message, is_young, older_ballots, tick_telling, tell}
use Rattle.vote_core.specs.declared.message.Message.{Message}
use Rattle.vote_core.specs.declared.message.Message.TheVariants.{Ask, Grant, Deny, Floor}
use Rattle.vote_core.specs.declared.step.Decision.TheVariants.{Spent, Timeout}
use Rattle.vote_core.proofs.Names.{by_test}

-- the content with another last pass
abbrev pub relast : Option PassRecord → Content → Content
relast l c = record c { last = l }

-- the step as it is over a content with another last pass
abbrev pub relasted : Option PassRecord → Voted → Voted
relasted l s = record s { content = relast (option_or (pass_in s.decisions) l) s.content }

abbrev pub IsBlind : (Content → Voted) → Type 0
IsBlind f = (c : Content) (l : Option PassRecord) → f (relast l c) ≡ relasted l (f c)

-- both of a choice by the same test
two_blind : (l : Option PassRecord) (b : Bool) (x y x' y' : Voted) → x' ≡ relasted l x → y' ≡ relasted l y → cond b x' y' ≡ relasted l (cond b x y)
two_blind l b x y x' y' h k = by_test (λ (s s' : Voted). s' ≡ relasted l s) b x y x' y' (λ _. h) (λ _. k)

pub blind_propose : (place : PlaceRecord) (t lo hi : ℕ) (drift : ℤ) (v : VoterState) → IsBlind (λ c. propose place t lo hi drift c v)
unfolding propose propose_alone propose_among
blind_propose place t lo hi drift v c l =
    two_blind l (eqb place.n 1) (propose_alone place t lo hi drift c v) (propose_among place t lo hi drift c v) _ _ refl refl

blind_ask : (from : ℕ) (p : ProposalRecord) (t lo hi : ℕ) (v : VoterState) → IsBlind (λ c. on_ask from p t lo hi c v)
unfolding on_ask
blind_ask from p t lo hi v c l =
    let x = row c t in
    let again = reply_step from (Grant p t (span_of lo hi)) c v in
    let take = reply_step from (Grant p t (span_of lo hi)) (with_row c t (granted_row p lo hi x) None) v in
    let no = reply_step from (Deny p t x.next) c v in
    two_blind l (is_grant p lo hi x.grant) again (cond (leb x.next lo) take no) _ _ refl
    (two_blind l (leb x.next lo) take no _ _ refl refl)

blind_count : (place : PlaceRecord) (from : ℕ) (v : VoterState) (c : Content) (l : Option PassRecord) (o : Option Ballot) → count_grant place from (relast l c) v o ≡ relasted l (count_grant place from c v o)
unfolding count_grant accept
blind_count place from v c l None = refl
blind_count place from v c l (Some q) =
    two_blind l (leb (majority_of place.n) (size place.n (with_node from q.granting))) (accept (with_granting from q) c v)
    (quiet_step c (with_pending (replace (with_granting from q) v.pending) v)) _ _ refl refl

blind_grant : (place : PlaceRecord) (from : ℕ) (p : ProposalRecord) (t lo hi : ℕ) (v : VoterState) → IsBlind (λ c. on_grant place from p t lo hi c v)
unfolding on_grant
blind_grant place from p t lo hi v c l = blind_count place from v c l (granted_one from t lo hi (of_this_boot c p v))

blind_raise : (t next : ℕ) (c : Content) (l : Option PassRecord) → raise t next (relast l c) ≡ relast l (raise t next c)
unfolding raise
blind_raise t next c l =
    by_test (λ (d d' : Content). d' ≡ relast l d) (ltb (row c t).next next) (with_row c t (row_with_next next (row c t)) None) c
    (with_row (relast l c) t (row_with_next next (row c t)) None) (relast l c) (λ _. refl) (λ _. refl)

blind_deny_count : (place : PlaceRecord) (from : ℕ) (v : VoterState) (c : Content) (l : Option PassRecord) (o : Option Ballot) → count_deny place from (relast l c) v o ≡ relasted l (count_deny place from c v o)
unfolding count_deny
blind_deny_count place from v c l None = refl
blind_deny_count place from v c l (Some q) =
    two_blind l (ltb (place.n - size place.n (with_node from q.denying)) (majority_of place.n))
    (record (quiet_step c (with_pending (remove q.seq v.pending) v)) { decisions = (q.seq, Spent) ∷ [] })
    (quiet_step c (with_pending (replace (with_denying from q) v.pending) v)) _ _ refl refl

blind_deny : (place : PlaceRecord) (from : ℕ) (p : ProposalRecord) (t next : ℕ) (v : VoterState) → IsBlind (λ c. on_deny place from p t next c v)
unfolding on_deny
blind_deny place from p t next v c l =
    let o = denied_one from t (of_this_boot c p v) in
    ap (λ d. count_deny place from d v o) (blind_raise t next c l) ∙ blind_deny_count place from v (raise t next c) l o

blind_floor : (t next : ℕ) (v : VoterState) → IsBlind (λ c. on_floor t next c v)
unfolding on_floor
blind_floor t next v c l = ap (λ d. quiet_step d v) (blind_raise t next c l)

pub blind_message : (place : PlaceRecord) (from : ℕ) (m : Message) (v : VoterState) → IsBlind (λ c. on_message place from m c v)
unfolding on_message
blind_message place from (Ask p t span) v = blind_ask from p t span.lo span.hi v
blind_message place from (Grant p t span) v = blind_grant place from p t span.lo span.hi v
blind_message place from (Deny p t next) v = blind_deny place from p t next v
blind_message place from (Floor t next) v = blind_floor t next v

no_pass : (qs : List Ballot) → pass_in (map (λ (q : Ballot). (q.seq, Timeout)) qs) ≡ None
no_pass [] = refl
no_pass (q ∷ qs) = no_pass qs

pub blind_tick : (place : PlaceRecord) (told : List ℕ) (v : VoterState) → IsBlind (λ c. tick_telling place told c v)
unfolding tick_telling
blind_tick place told v c l =
    ap (λ o. record (tick_telling place told c v) { content = relast (option_or o l) c }) (sym (no_pass (filter (λ (q : Ballot). not (is_young q)) (older_ballots v.pending))))

pub blind_tell : (place : PlaceRecord) (told : List ℕ) (v : VoterState) → IsBlind (λ c. tell place told c v)
unfolding tell
blind_tell place told v c l = refl

pub blind_gate : (t : ℕ) (gate : GateRecord) (v : VoterState) → IsBlind (λ c. quiet_step (content_with_gate t gate c) v)
blind_gate t gate v c l = refl

-- Each message that is sent is one that its receiver may take.
use Rattle.std.proofs.Common.{◌≡◌, ◌≢◌, ℕ, ℤ, zero, suc, ◌+◌, ◌-◌, ◌^◌, ◌<◌, ◌≤◌, ⊎_elim, true, false, not, ◌&&◌, ◌||◌, cond, List, [], ◌∷◌, length, map, Option, Some, None, refl, sym, ◌∙◌, subst, arith, eqb, leb, ltb}
use Rattle.std.specs.List.{flat_map, slice_get}
use Rattle.std.proofs.lemmas.Bool.{cond_both, eqb-true, eqb-false, ltb-true, leb-true, and_parts, or_cases, not-true}
use Rattle.floor_store.specs.Content.{Content, with_row}
use Rattle.floor_store.specs.Range.{IsSpan}
use Rattle.floor_store.specs.Records.{ProposalRecord, span_of}
use Rattle.otp_core.specs.Acceptance.{size, majority_of}
use Rattle.vote_core.specs.Calls.{IsOther, FitsVoter}
use Rattle.vote_core.specs.NodeSet.{PlaceRecord, with_node, members, others}
use Rattle.vote_core.specs.Rows.{row, granted_row, row_with_next}
use Rattle.vote_core.specs.Safety.{IsDeliverable, AreDeliverable, MayOpen}
use Rattle.vote_core.specs.Schedule.{Member, Envelope, Cluster, Act, Begin, Deliver, Tick, Throttle, Idle, TickTelling, Tell, Raise, raised_member, Event, Happens, Cut, Restart, Lost, Replaced, Opening, is_member, has_store, is_running, place_of, envelope_from, cluster_after, with_proposal_begun, with_member, stopped_member, may_begin, after_proposal, after_delivery, content_with_gate, after_act, node_of, restarted_member, last_boot, after_restart, lost_member, after_loss, opening_member, may_replace, after_replacement, with_sent_of, after_event, run, start, envelopes}
use Rattle.vote_core.specs.Voting.{Ballot, VoterState, Voted, quiet_step, reply_step, to_each, remove, replace, with_pending, propose, propose_alone, propose_among, is_grant, on_ask, granted_one, of_this_boot, with_granting, accept, count_grant, on_grant, raise, denied_one, with_denying, count_deny, on_deny, on_floor, on_message, older_ballot, older_ballots, is_young, young_ballots, asks_again, floor_sends, tick, tells, tick_telling, tell}
use Rattle.vote_core.specs.declared.message.Message.{Message}
use Rattle.vote_core.specs.declared.message.Message.TheVariants.{Ask, Grant, Deny, Floor}
use Rattle.vote_core.proofs.Basics.{Each, each_all, each_get, each_append, each_weaker, each_map, each_filter, each_passes, each_flat_map, put_size, opening_size}
use Rattle.vote_core.proofs.Rows.{raise_all_size}
use Rattle.vote_core.proofs.Lists.{find_each, each_replace, each_remove, grant_fits, deny_found}
use Rattle.vote_core.proofs.Runs.{act_n, all_members}

-- what a ballot may ask for
pub record MayAsk (tokens : ℕ) (ballot : Ballot) : Type 0 where
  pub token : ballot.token < tokens
  pub span : IsSpan ballot.lo ballot.hi

-- the node is one of the members
pub record IsMember (place : PlaceRecord) : Type 0 where
  pub first : 1 ≤ place.me
  pub last : place.me ≤ place.n

-- what a node sends
abbrev pub Reaches : PlaceRecord → ℕ → ℕ × Message → Type 0
Reaches place tokens send = IsDeliverable place.n tokens (envelope_from place.me send)

-- what a node holds: its rows are all there, and what waits may be asked for
pub record NodeFits (tokens : ℕ) (content : Content) (voter : VoterState) : Type 0 where
  pub rows : length content.rows ≡ tokens
  pub pending : Each (MayAsk tokens) voter.pending

-- a step that keeps `NodeFits`, and sends messages that their receivers may take
pub record StepFits (place : PlaceRecord) (tokens : ℕ) (step : Voted) : Type 0 where
  pub node : NodeFits tokens step.content step.voter
  pub sends : Each (Reaches place tokens) step.sends

-- what holds of a cluster before each event
pub record Posts (tokens : ℕ) (cluster : Cluster) : Type 0 where
  pub nodes : (node : ℕ) → NodeFits tokens (cluster.nodes node).content (cluster.nodes node).voter
  pub sent : Each (IsDeliverable cluster.n tokens) cluster.sent

-- ---- the others

each_both : {A : Type 0} (P Q : A → Type 0) (xs : List A) → Each P xs → Each Q xs → Each (λ x. P x × Q x) xs
each_both P Q [] h k = tt
each_both P Q (x ∷ xs) h k = ((h.0, k.0), each_both P Q xs h.1 k.1)

-- one of the members 1 to n
abbrev Among : ℕ → ℕ → Type 0
Among n node = (1 ≤ node) × (node ≤ n)

members_among : (n : ℕ) → Each (Among n) (members n)
members_among zero = tt
members_among (suc n) =
    each_append (Among (suc n)) (members n) (suc n ∷ [])
    (each_weaker (Among n) (Among (suc n)) (λ node h. (h.0, omega (arith, h.1))) (members n) (members_among n))
    ((omega arith, omega arith), tt)

-- the node may receive from the node at the given place
abbrev pub Hears : PlaceRecord → ℕ → Type 0
Hears place node = Among place.n node × (node ≢ place.me)

pub others_hear : (place : PlaceRecord) → Each (Hears place) (others place)
others_hear place =
    let test = λ (node : ℕ). not (eqb node place.me) in
    each_weaker (λ node. Among place.n node × (test node ≡ true)) (Hears place)
    (λ node h. (h.0, eqb-false node place.me (not-true (eqb node place.me) h.1))) (others place)
    (each_both (Among place.n) (λ node. test node ≡ true) (others place)
    (each_filter (Among place.n) test (members place.n) (members_among place.n)) (each_passes test (members place.n)))

-- a message from this place to one that hears it
reaches : (place : PlaceRecord) (tokens node : ℕ) (message : Message) → IsMember place → Hears place node
    → FitsVoter (record { me = node; n = place.n }) tokens place.me message → Reaches place tokens (node, message)
reaches place tokens node message member hears fits = record {
  first = hears.0.0;
  last = hears.0.1;
  other = record { first = member.first; last = member.last; other = λ same. hears.1 (sym same) };
  fits = fits;
}

each_reaches : (place : PlaceRecord) (tokens : ℕ) (message : Message) (nodes : List ℕ) → IsMember place → Each (Hears place) nodes
    → ((node : ℕ) → FitsVoter (record { me = node; n = place.n }) tokens place.me message) → Each (Reaches place tokens) (to_each message nodes)
each_reaches place tokens message nodes member hear fits =
    each_map (Reaches place tokens) (λ node. (node, message)) nodes
    (each_weaker (Hears place) (λ node. Reaches place tokens (node, message)) (λ node h. reaches place tokens node message member h (fits node)) nodes hear)

-- ---- the steps

raise_size : (token next : ℕ) (c : Content) → length (raise token next c).rows ≡ length c.rows
unfolding raise
raise_size token next c =
    cond_both (ltb (row c token).next next) (with_row c token (row_with_next next (row c token)) None) c (λ (x : Content). length x.rows ≡ length c.rows)
    (λ _. put_size c token (row_with_next next (row c token)) None) (λ _. refl)

-- one that heard a message may answer it
answerer_hears : (place : PlaceRecord) (from : ℕ) → IsOther place from → Hears place from
answerer_hears place from other = ((other.first, other.last), other.other)

ask_fits : (place : PlaceRecord) (tokens from : ℕ) (p : ProposalRecord) (t lo hi : ℕ) (c : Content) (v : VoterState)
    → IsMember place → IsOther place from → FitsVoter place tokens from (Ask p t (span_of lo hi)) → NodeFits tokens c v → StepFits place tokens (on_ask from p t lo hi c v)
unfolding on_ask
ask_fits place tokens from p t lo hi c v member other fits k =
    let hears = answerer_hears place from other in
    let grant_put = with_row c t (granted_row p lo hi (row c t)) None in
    let yes = reply_step from (Grant p t (span_of lo hi)) c v in
    let take = reply_step from (Grant p t (span_of lo hi)) grant_put v in
    let no = reply_step from (Deny p t (row c t).next) c v in
    let granted = reaches place tokens from (Grant p t (span_of lo hi)) member hears fits in
    let denied = reaches place tokens from (Deny p t (row c t).next) member hears (fits.0, fits.2) in
    cond_both (is_grant p lo hi (row c t).grant) yes (cond (leb (row c t).next lo) take no) (λ s. StepFits place tokens s)
    (λ _. record { node = k; sends = (granted, tt) })
    (λ _. cond_both (leb (row c t).next lo) take no (λ s. StepFits place tokens s)
    (λ _. record { node = record { rows = put_size c t _ None ∙ k.rows; pending = k.pending }; sends = (granted, tt) })
    (λ _. record { node = k; sends = (denied, tt) }))

removed_fits : (tokens seq : ℕ) (c : Content) (v : VoterState) → NodeFits tokens c v → NodeFits tokens c (with_pending (remove seq v.pending) v)
removed_fits tokens seq c v k = record { rows = k.rows; pending = each_remove (MayAsk tokens) seq v.pending k.pending }

replaced_fits : (tokens : ℕ) (q : Ballot) (c : Content) (v : VoterState) → MayAsk tokens q → NodeFits tokens c v → NodeFits tokens c (with_pending (replace q v.pending) v)
replaced_fits tokens q c v may k = record { rows = k.rows; pending = each_replace (MayAsk tokens) q v.pending may k.pending }

accept_fits : (place : PlaceRecord) (tokens : ℕ) (q : Ballot) (c : Content) (v : VoterState) → NodeFits tokens c v → StepFits place tokens (accept q c v)
unfolding accept
accept_fits place tokens q c v k = record {
  node = record { rows = put_size c q.token _ None ∙ k.rows; pending = each_remove (MayAsk tokens) q.seq v.pending k.pending };
  sends = tt;
}

count_grant_fits : (place : PlaceRecord) (tokens from : ℕ) (p : ProposalRecord) (t lo hi : ℕ) (c : Content) (v : VoterState) → NodeFits tokens c v
    → (o : Option Ballot) → granted_one from t lo hi (of_this_boot c p v) ≡ o → StepFits place tokens (count_grant place from c v o)
unfolding count_grant
count_grant_fits place tokens from p t lo hi c v k None is = record { node = k; sends = tt }
count_grant_fits place tokens from p t lo hi c v k (Some q) is =
    let q' = with_granting from q in
    let found = (grant_fits place.me from t lo hi p c v q is).found in
    let may = find_each (MayAsk tokens) p.seq v.pending q k.pending found in
    cond_both (leb (majority_of place.n) (size place.n (with_node from q.granting))) (accept q' c v) (quiet_step c (with_pending (replace q' v.pending) v)) (λ s. StepFits place tokens s)
    (λ _. accept_fits place tokens q' c v k)
    (λ _. record { node = replaced_fits tokens q' c v (record { token = may.token; span = may.span }) k; sends = tt })

count_deny_fits : (place : PlaceRecord) (tokens from : ℕ) (p : ProposalRecord) (t : ℕ) (c c' : Content) (v : VoterState) → NodeFits tokens c' v
    → (o : Option Ballot) → denied_one from t (of_this_boot c p v) ≡ o → StepFits place tokens (count_deny place from c' v o)
unfolding count_deny
count_deny_fits place tokens from p t c c' v k None is = record { node = k; sends = tt }
count_deny_fits place tokens from p t c c' v k (Some q) is =
    let q' = with_denying from q in
    let may = find_each (MayAsk tokens) p.seq v.pending q k.pending (deny_found from t p c v q is) in
    cond_both (ltb (place.n - size place.n (with_node from q.denying)) (majority_of place.n)) _ (quiet_step c' (with_pending (replace q' v.pending) v)) (λ s. StepFits place tokens s)
    (λ _. record { node = removed_fits tokens q.seq c' v k; sends = tt })
    (λ _. record { node = replaced_fits tokens q' c' v (record { token = may.token; span = may.span }) k; sends = tt })

raised_fits : (tokens token next : ℕ) (c : Content) (v : VoterState) → NodeFits tokens c v → NodeFits tokens (raise token next c) v
raised_fits tokens token next c v k = record { rows = raise_size token next c ∙ k.rows; pending = k.pending }

message_fits : (place : PlaceRecord) (tokens from : ℕ) (m : Message) (c : Content) (v : VoterState)
    → IsMember place → IsOther place from → FitsVoter place tokens from m → NodeFits tokens c v → StepFits place tokens (on_message place from m c v)
unfolding on_message on_grant on_deny on_floor
message_fits place tokens from (Ask p t span) c v member other fits k = ask_fits place tokens from p t span.lo span.hi c v member other fits k
message_fits place tokens from (Grant p t span) c v member other fits k = count_grant_fits place tokens from p t span.lo span.hi c v k (granted_one from t span.lo span.hi (of_this_boot c p v)) refl
message_fits place tokens from (Deny p t next) c v member other fits k =
    count_deny_fits place tokens from p t c (raise t next c) v (raised_fits tokens t next c v k) (denied_one from t (of_this_boot c p v)) refl
message_fits place tokens from (Floor t next) c v member other fits k = record { node = raised_fits tokens t next c v k; sends = tt }

asks_reach : (place : PlaceRecord) (tokens boot : ℕ) (q : Ballot) → IsMember place → MayAsk tokens q → Each (Reaches place tokens) (asks_again place boot q)
asks_reach place tokens boot q member may =
    each_reaches place tokens _ _ member (each_filter (Hears place) _ (others place) (others_hear place)) (λ node. (may.token, may.span, refl))

floors_reach : (place : PlaceRecord) (tokens : ℕ) (c : Content) (t : ℕ) → IsMember place → length c.rows ≡ tokens → Each (Reaches place tokens) (floor_sends place c t)
floors_reach place tokens c t member rows =
    cond_both (ltb t (length c.rows)) (to_each (Floor t (row c t).next) (others place)) [] (Each (Reaches place tokens))
    (λ q. each_reaches place tokens (Floor t (row c t).next) (others place) member (others_hear place) (λ node. omega (arith, ltb-true t (length c.rows) q, rows)))
    (λ _. tt)

young_fits : (tokens : ℕ) (v : VoterState) → Each (MayAsk tokens) v.pending → Each (MayAsk tokens) (young_ballots v.pending)
young_fits tokens v h =
    let older = each_map (MayAsk tokens) older_ballot v.pending (each_weaker (MayAsk tokens) (λ q. MayAsk tokens (older_ballot q)) (λ q may. record { token = may.token; span = may.span }) v.pending h) in
    each_filter (MayAsk tokens) is_young (older_ballots v.pending) older

young_reach : (place : PlaceRecord) (tokens boot : ℕ) (v : VoterState) → IsMember place → Each (MayAsk tokens) (young_ballots v.pending) → Each (Reaches place tokens) (flat_map (asks_again place boot) (young_ballots v.pending))
young_reach place tokens boot v member young =
    each_flat_map (Reaches place tokens) (asks_again place boot) (young_ballots v.pending)
    (each_weaker (MayAsk tokens) (λ q. Each (Reaches place tokens) (asks_again place boot q)) (λ q may. asks_reach place tokens boot q member may) (young_ballots v.pending) young)

tells_reach : (place : PlaceRecord) (tokens : ℕ) (ts : List ℕ) (c : Content) → IsMember place → length c.rows ≡ tokens → Each (Reaches place tokens) (tells place c ts)
tells_reach place tokens ts c member rows =
    each_flat_map (Reaches place tokens) (floor_sends place c) ts (each_all (λ t. Each (Reaches place tokens) (floor_sends place c t)) (λ t. floors_reach place tokens c t member rows) ts)

tick_fits : (place : PlaceRecord) (tokens : ℕ) (c : Content) (v : VoterState) → IsMember place → NodeFits tokens c v → StepFits place tokens (tick place c v)
unfolding tick
tick_fits place tokens c v member k =
    let young = young_fits tokens v k.pending in
    record {
      node = record { rows = k.rows; pending = young };
      sends = each_append (Reaches place tokens) (flat_map (asks_again place c.boot) (young_ballots v.pending)) (floor_sends place c v.turn)
          (young_reach place tokens c.boot v member young) (floors_reach place tokens c v.turn member k.rows);
    }

telling_fits : (place : PlaceRecord) (tokens : ℕ) (ts : List ℕ) (c : Content) (v : VoterState) → IsMember place → NodeFits tokens c v → StepFits place tokens (tick_telling place ts c v)
unfolding tick_telling
telling_fits place tokens ts c v member k =
    let young = young_fits tokens v k.pending in
    record {
      node = record { rows = k.rows; pending = young };
      sends = each_append (Reaches place tokens) (flat_map (asks_again place c.boot) (young_ballots v.pending)) (tells place c ts)
          (young_reach place tokens c.boot v member young) (tells_reach place tokens ts c member k.rows);
    }

tell_fits : (place : PlaceRecord) (tokens : ℕ) (ts : List ℕ) (c : Content) (v : VoterState) → IsMember place → NodeFits tokens c v → StepFits place tokens (tell place ts c v)
unfolding tell
tell_fits place tokens ts c v member k = record { node = record { rows = k.rows; pending = k.pending }; sends = tells_reach place tokens ts c member k.rows }

propose_fits : (place : PlaceRecord) (tokens t lo hi : ℕ) (drift : ℤ) (c : Content) (v : VoterState) → IsMember place → t < tokens → IsSpan lo hi → NodeFits tokens c v → StepFits place tokens (propose place t lo hi drift c v)
unfolding propose propose_alone propose_among
propose_fits place tokens t lo hi drift c v member within span k =
    cond_both (eqb place.n 1) (propose_alone place t lo hi drift c v) (propose_among place t lo hi drift c v) (λ s. StepFits place tokens s)
    (λ _. record { node = record { rows = put_size c t _ None ∙ k.rows; pending = k.pending }; sends = tt })
    (λ _. record {
      node = record { rows = put_size c t _ None ∙ k.rows; pending = each_append (MayAsk tokens) v.pending _ k.pending (record { token = within; span = span }, tt) };
      sends = each_reaches place tokens _ (others place) member (others_hear place) (λ node. (within, span, refl));
    })

-- ---- the events

step_posts : (tokens event i : ℕ) (s : Voted) (w : Cluster) → Posts tokens w → StepFits (place_of w i) tokens s → Posts tokens (cluster_after event i s w)
unfolding cluster_after
step_posts tokens event i s w k h = record {
  nodes = λ j. cond_both (eqb j i) (record { content = s.content; voter = s.voter; running = true }) (w.nodes j) (λ (y : Member). NodeFits tokens y.content y.voter) (λ _. h.node) (λ _. k.nodes j);
  sent = each_append (IsDeliverable w.n tokens) w.sent (map (envelope_from i) s.sends) k.sent (each_map (IsDeliverable w.n tokens) (envelope_from i) s.sends h.sends);
}

runs_member : (w : Cluster) (i : ℕ) → is_running w i ≡ true → IsMember (place_of w i)
runs_member w i q =
    let store = and_parts (not (w.lost i)) (is_member w.n i) (and_parts (has_store w i) (w.nodes i).running q).0 in
    let member = and_parts (leb 1 i) (leb i w.n) store.1 in
    record { first = leb-true 1 i member.0; last = leb-true i w.n member.1 }

delivery_posts : (tokens event : ℕ) (o : Option Envelope) (w : Cluster) → Posts tokens w → ((l : Envelope) → o ≡ Some l → IsDeliverable w.n tokens l) → Posts tokens (after_delivery event o w)
unfolding after_delivery
delivery_posts tokens event None w k h = k
delivery_posts tokens event (Some l) w k h =
    let i = l.receiver in
    let s = on_message (place_of w i) l.sender l.message (w.nodes i).content (w.nodes i).voter in
    let d = h l refl in
    cond_both (is_running w i) (cluster_after event i s w) w (λ x. Posts tokens x)
    (λ q. step_posts tokens event i s w k (message_fits (place_of w i) tokens l.sender l.message (w.nodes i).content (w.nodes i).voter (runs_member w i q) d.other d.fits (k.nodes i)))
    (λ _. k)

swap_posts : (tokens i : ℕ) (x : Member) (w : Cluster) → Posts tokens w → NodeFits tokens x.content x.voter → Posts tokens (with_member i x w)
swap_posts tokens i x w k h = record {
  nodes = λ j. cond_both (eqb j i) x (w.nodes j) (λ (y : Member). NodeFits tokens y.content y.voter) (λ _. h) (λ _. k.nodes j);
  sent = k.sent;
}

span_holds : (lo hi : ℕ) → eqb hi lo || eqb hi (lo + 1) ≡ true → IsSpan lo hi
span_holds lo hi q =
    ⊎_elim (λ (x : eqb hi lo ≡ true). let e = eqb-true hi lo x in record { ordered = omega (arith, e); short = omega (arith, e) })
    (λ (x : eqb hi (lo + 1) ≡ true). let e = eqb-true hi (lo + 1) x in record { ordered = omega (arith, e); short = omega (arith, e) })
    (or_cases (eqb hi lo) (eqb hi (lo + 1)) q)

proposal_posts : (tokens event i t lo hi : ℕ) (drift : ℤ) (w : Cluster) → Posts tokens w → is_running w i ≡ true → t < tokens → IsSpan lo hi → Posts tokens (after_proposal event i t lo hi drift w)
unfolding after_proposal with_proposal_begun
proposal_posts tokens event i t lo hi drift w k runs within span =
    let c = (w.nodes i).content in
    let v = (w.nodes i).voter in
    let s = propose (place_of w i) t lo hi drift c v in
    let begun = with_proposal_begun event i t lo hi w in
    cond_both (ltb v.seq (2 ^ 62)) (cluster_after event i s begun) (with_member i (stopped_member (w.nodes i)) w) (λ x. Posts tokens x)
    (λ _. step_posts tokens event i s begun (record { nodes = k.nodes; sent = k.sent }) (propose_fits (place_of w i) tokens t lo hi drift c v (runs_member w i runs) within span (k.nodes i)))
    (λ _. swap_posts tokens i (stopped_member (w.nodes i)) w k (k.nodes i))

begin_posts : (tokens event i t lo hi : ℕ) (drift : ℤ) (w : Cluster) → Posts tokens w → may_begin w i t lo hi ≡ true → Posts tokens (after_proposal event i t lo hi drift w)
begin_posts tokens event i t lo hi drift w k q =
    let c = (w.nodes i).content in
    let span = eqb hi lo || eqb hi (lo + 1) in
    let few = ltb (length (w.nodes i).voter.pending) 32 in
    let a = and_parts (is_running w i) (ltb t (length c.rows) && (leb (row c t).next lo && (span && few))) q in
    let b = and_parts (ltb t (length c.rows)) (leb (row c t).next lo && (span && few)) a.1 in
    let d = and_parts (leb (row c t).next lo) (span && few) b.1 in
    let f = and_parts span few d.1 in
    proposal_posts tokens event i t lo hi drift w k a.0 (omega (arith, ltb-true t (length c.rows) b.0, (k.nodes i).rows)) (span_holds lo hi f.0)

act_posts : (tokens event : ℕ) (a : Act) (w : Cluster) → Posts tokens w → Posts tokens (after_act event a w)
unfolding after_act
act_posts tokens event (Begin i t lo hi drift) w k = cond_both (may_begin w i t lo hi) (after_proposal event i t lo hi drift w) w (λ x. Posts tokens x) (λ q. begin_posts tokens event i t lo hi drift w k q) (λ _. k)
act_posts tokens event (Deliver j) w k = delivery_posts tokens event (slice_get w.sent j) w k (λ l at. each_get (IsDeliverable w.n tokens) w.sent j l k.sent at)
act_posts tokens event (Tick i) w k =
    let s = tick (place_of w i) (w.nodes i).content (w.nodes i).voter in
    cond_both (is_running w i) (cluster_after event i s w) w (λ x. Posts tokens x)
    (λ q. step_posts tokens event i s w k (tick_fits (place_of w i) tokens (w.nodes i).content (w.nodes i).voter (runs_member w i q) (k.nodes i)))
    (λ _. k)
act_posts tokens event (Throttle i t gate) w k =
    let c = (w.nodes i).content in
    let s = quiet_step (content_with_gate t gate c) (w.nodes i).voter in
    cond_both (is_running w i) (cluster_after event i s w) w (λ x. Posts tokens x)
    (λ _. step_posts tokens event i s w k (record { node = record { rows = put_size c t _ None ∙ (k.nodes i).rows; pending = (k.nodes i).pending }; sends = tt }))
    (λ _. k)
act_posts tokens event (Idle i) w k = k
act_posts tokens event (TickTelling i ts) w k =
    let s = tick_telling (place_of w i) ts (w.nodes i).content (w.nodes i).voter in
    cond_both (is_running w i) (cluster_after event i s w) w (λ x. Posts tokens x)
    (λ q. step_posts tokens event i s w k (telling_fits (place_of w i) tokens ts (w.nodes i).content (w.nodes i).voter (runs_member w i q) (k.nodes i)))
    (λ _. k)
act_posts tokens event (Tell i ts) w k =
    let s = tell (place_of w i) ts (w.nodes i).content (w.nodes i).voter in
    cond_both (is_running w i) (cluster_after event i s w) w (λ x. Posts tokens x)
    (λ q. step_posts tokens event i s w k (tell_fits (place_of w i) tokens ts (w.nodes i).content (w.nodes i).voter (runs_member w i q) (k.nodes i)))
    (λ _. k)
act_posts tokens event (Raise i floor) w k =
    let x = raised_member floor (w.nodes i) in
    cond_both (has_store w i) (with_member i x w) w (λ y. Posts tokens y)
    (λ _. swap_posts tokens i x w k (record { rows = raise_all_size (length (w.nodes i).content.rows) floor (w.nodes i).content ∙ (k.nodes i).rows; pending = (k.nodes i).pending }))
    (λ _. k)

restart_posts : (tokens : ℕ) (o : Option ℕ) (w : Cluster) → Posts tokens w → Posts tokens (after_restart o w)
unfolding after_restart
restart_posts tokens None w k = k
restart_posts tokens (Some i) w k =
    cond_both (has_store w i) (with_member i (restarted_member (w.nodes i)) w) w (λ x. Posts tokens x)
    (λ _. cond_both (ltb (w.nodes i).content.boot last_boot) _ (stopped_member (w.nodes i)) (λ y. Posts tokens (with_member i y w))
    (λ _. swap_posts tokens i _ w k (record { rows = (k.nodes i).rows; pending = tt })) (λ _. swap_posts tokens i (stopped_member (w.nodes i)) w k (k.nodes i)))
    (λ _. k)

-- an act keeps the number of members
same_n : (tokens event : ℕ) (a : Act) (w : Cluster) → Posts tokens w → Posts tokens (after_act event a w) → Posts tokens (with_sent_of w (after_act event a w))
same_n tokens event a w k new = record { nodes = new.nodes; sent = subst (λ n. Each (IsDeliverable n tokens) w.sent) (sym (act_n event a w)) k.sent }

loss_posts : (tokens i : ℕ) (w : Cluster) → Posts tokens w → Posts tokens (after_loss i w)
unfolding after_loss
loss_posts tokens i w k =
    let new = swap_posts tokens i (lost_member (w.nodes i)) w k (record { rows = (k.nodes i).rows; pending = tt }) in
    cond_both (has_store w i) _ w (λ x. Posts tokens x) (λ _. record { nodes = new.nodes; sent = k.sent }) (λ _. k)

replacement_posts : (tokens i boot : ℕ) (floor : ℕ → ℕ) (w : Cluster) → Posts tokens w → Posts tokens (after_replacement i boot floor w)
unfolding after_replacement
replacement_posts tokens i boot floor w k =
    let size = length (w.nodes i).content.rows in
    let new = swap_posts tokens i (opening_member boot size floor) w k (record { rows = opening_size size floor ∙ (k.nodes i).rows; pending = tt }) in
    cond_both (may_replace w i boot floor) _ w (λ x. Posts tokens x) (λ _. record { nodes = new.nodes; sent = k.sent }) (λ _. k)

pub all_deliverable : (n tokens : ℕ) (ls : List Envelope) → ((i : ℕ) (l : Envelope) → slice_get ls i ≡ Some l → IsDeliverable n tokens l) → Each (IsDeliverable n tokens) ls
all_deliverable n tokens [] h = tt
all_deliverable n tokens (l ∷ ls) h = (h 0 l refl, all_deliverable n tokens ls (λ i m at. h (suc i) m at))

pub event_posts : (tokens event : ℕ) (x : Event) (w : Cluster) → Posts tokens w → Posts tokens (after_event event x w)
unfolding after_event
event_posts tokens event (Happens a) w k = act_posts tokens event a w k
event_posts tokens event (Cut true a) w k = restart_posts tokens (node_of a w) (with_sent_of w (after_act event a w)) (same_n tokens event a w k (act_posts tokens event a w k))
event_posts tokens event (Cut false a) w k = restart_posts tokens (node_of a w) w k
event_posts tokens event (Restart i) w k = restart_posts tokens (Some i) w k
event_posts tokens event (Lost i) w k = loss_posts tokens i w k
event_posts tokens event (Replaced i boot floor) w k = replacement_posts tokens i boot floor w k

run_posts : (tokens : ℕ) (events : List Event) (first : ℕ) (w : Cluster) → Posts tokens w → Posts tokens (run first events w)
unfolding run
run_posts tokens [] first w k = k
run_posts tokens (x ∷ xs) first w k = run_posts tokens xs (suc first) (after_event first x w) (event_posts tokens first x w k)

pub envelopes_hold : (n tokens : ℕ) (opening : Opening) (events : List Event) → MayOpen n tokens opening → AreDeliverable n tokens (envelopes n tokens opening events)
envelopes_hold n tokens opening events may i l at =
    let w = run 0 events (start n tokens opening) in
    let k = run_posts tokens events 0 (start n tokens opening) (record {
      nodes = λ node. record { rows = opening_size tokens (opening.floor node); pending = tt };
      sent = all_deliverable n tokens opening.old (λ j m is. (may j m is).0);
    }) in
    subst (λ m. IsDeliverable m tokens l) (all_members n tokens opening events) (each_get (IsDeliverable w.n tokens) w.sent i l k.sent at)

-- Each message that is sent speaks of a proposal of a boot that its node had.
use Rattle.std.proofs.Common.{◌≡◌, ℕ, ℤ, suc, ◌-◌, ◌^◌, ◌≤◌, true, false, ◌&&◌, cond, List, [], ◌∷◌, length, map, Option, Some, None, refl, ap, arith, eqb, leb, ltb}
use Rattle.std.specs.List.{flat_map, slice_get}
use Rattle.std.proofs.lemmas.Bool.{cond_both, eqb-true, leb-true, and_parts}
use Rattle.floor_store.specs.Content.{Content, with_next_boot, with_row}
use Rattle.floor_store.specs.Records.{ProposalRecord, span_of}
use Rattle.otp_core.specs.Acceptance.{majority_of, size}
use Rattle.vote_core.specs.NodeSet.{PlaceRecord, others, with_node}
use Rattle.vote_core.specs.Rows.{granted_row, row, row_with_next}
use Rattle.vote_core.specs.Safety.{IsOfEarlierBoot, MayOpen}
use Rattle.vote_core.specs.Schedule.{Member, Envelope, Cluster, Act, Begin, Deliver, Tick, Throttle, Idle, TickTelling, Tell, Raise, raised_member, Event, Happens, Cut, Restart, Lost, Replaced, Opening, after_act, after_delivery, after_event, after_loss, after_proposal, after_replacement, after_restart, all_most, cluster_after, content_with_gate, envelope_from, envelopes, has_store, is_member, is_running, last_boot, lost_member, may_begin, may_replace, node_of, opening_member, place_of, restarted_member, run, set_node, start, stopped_member, with_member, with_proposal_begun, with_sent_of}
use Rattle.vote_core.specs.Voting.{Ballot, VoterState, Voted, accept, asks_again, count_deny, count_grant, denied_one, floor_sends, fresh_voter, granted_one, is_grant, of_this_boot, on_ask, on_deny, on_floor, on_grant, on_message, proposal_of, propose, propose_alone, propose_among, quiet_step, raise, replace, reply_step, tell, tells, tick, tick_telling, to_each, with_denying, with_granting, with_pending, young_ballots}
use Rattle.vote_core.specs.declared.message.Message.{Message}
use Rattle.vote_core.specs.declared.message.Message.TheVariants.{Ask, Grant, Deny, Floor}
use Rattle.vote_core.proofs.Basics.{Each, each_all, each_append, each_flat_map, each_get, each_map, each_weaker}
use Rattle.vote_core.proofs.Rows.{raise_all_boot}

-- the proposal that the message names has a boot of its node up to `boot`
abbrev pub IsOfBoot : (ℕ → ℕ) → Message → Type 0
IsOfBoot boot (Ask proposal token span) = proposal.boot ≤ boot proposal.node
IsOfBoot boot (Grant proposal token span) = proposal.boot ≤ boot proposal.node
IsOfBoot boot (Deny proposal token next) = proposal.boot ≤ boot proposal.node
IsOfBoot boot (Floor token next) = Unit {0}

-- the boot of each node
abbrev pub boots_of : Cluster → ℕ → ℕ
boots_of w node = (w.nodes node).content.boot

-- the same of what a step sends, and of what is on its way
abbrev SendIsOf : (ℕ → ℕ) → ℕ × Message → Type 0
SendIsOf boot send = IsOfBoot boot send.1

abbrev pub LetterIsOf : (ℕ → ℕ) → Envelope → Type 0
LetterIsOf boot letter = IsOfBoot boot letter.message

-- each message that was sent is of a boot that was there
abbrev pub IsDated : Cluster → Type 0
IsDated w = Each (LetterIsOf (boots_of w)) w.sent

of_more : (one other : ℕ → ℕ) → ((i : ℕ) → one i ≤ other i) → (m : Message) → IsOfBoot one m → IsOfBoot other m
of_more one other more (Ask p t span) h = omega (arith, h, more p.node)
of_more one other more (Grant p t span) h = omega (arith, h, more p.node)
of_more one other more (Deny p t next) h = omega (arith, h, more p.node)
of_more one other more (Floor t next) h = tt

-- ---- the steps

-- a step that keeps the boot, and sends messages with boots up to `boot`
record StepDated (boot : ℕ → ℕ) (c : Content) (s : Voted) : Type 0 where
  same : s.content.boot ≡ c.boot
  sends : Each (SendIsOf boot) s.sends

ask_dated : (boot : ℕ → ℕ) (from : ℕ) (p : ProposalRecord) (t lo hi : ℕ) (c : Content) (v : VoterState) → p.boot ≤ boot p.node → StepDated boot c (on_ask from p t lo hi c v)
unfolding on_ask
ask_dated boot from p t lo hi c v h =
    let grant_put = with_row c t (granted_row p lo hi (row c t)) None in
    let yes = reply_step from (Grant p t (span_of lo hi)) c v in
    let take = reply_step from (Grant p t (span_of lo hi)) grant_put v in
    let no = reply_step from (Deny p t (row c t).next) c v in
    cond_both (is_grant p lo hi (row c t).grant) yes (cond (leb (row c t).next lo) take no) (λ s. StepDated boot c s)
    (λ _. record { same = refl; sends = (h, tt) })
    (λ _. cond_both (leb (row c t).next lo) take no (λ s. StepDated boot c s)
    (λ _. record { same = refl; sends = (h, tt) }) (λ _. record { same = refl; sends = (h, tt) }))

count_grant_dated : (boot : ℕ → ℕ) (place : PlaceRecord) (from : ℕ) (c : Content) (v : VoterState) (o : Option Ballot) → StepDated boot c (count_grant place from c v o)
unfolding count_grant accept
count_grant_dated boot place from c v None = record { same = refl; sends = tt }
count_grant_dated boot place from c v (Some q) =
    let q' = with_granting from q in
    cond_both (leb (majority_of place.n) (size place.n (with_node from q.granting))) (accept q' c v) (quiet_step c (with_pending (replace q' v.pending) v)) (λ s. StepDated boot c s)
    (λ _. record { same = refl; sends = tt }) (λ _. record { same = refl; sends = tt })

raise_boot : (token next : ℕ) (c : Content) → (raise token next c).boot ≡ c.boot
unfolding raise
raise_boot token next c =
    cond_both (ltb (row c token).next next) (with_row c token (row_with_next next (row c token)) None) c (λ (x : Content). x.boot ≡ c.boot) (λ _. refl) (λ _. refl)

count_deny_dated : (boot : ℕ → ℕ) (place : PlaceRecord) (from : ℕ) (c c' : Content) (v : VoterState) (o : Option Ballot) → c'.boot ≡ c.boot → StepDated boot c (count_deny place from c' v o)
unfolding count_deny
count_deny_dated boot place from c c' v None same = record { same = same; sends = tt }
count_deny_dated boot place from c c' v (Some q) same =
    cond_both (ltb (place.n - size place.n (with_node from q.denying)) (majority_of place.n)) _ (quiet_step c' (with_pending (replace (with_denying from q) v.pending) v)) (λ s. StepDated boot c s)
    (λ _. record { same = same; sends = tt }) (λ _. record { same = same; sends = tt })

message_dated : (boot : ℕ → ℕ) (place : PlaceRecord) (from : ℕ) (m : Message) (c : Content) (v : VoterState) → IsOfBoot boot m → StepDated boot c (on_message place from m c v)
unfolding on_message on_grant on_deny on_floor
message_dated boot place from (Ask p t span) c v h = ask_dated boot from p t span.lo span.hi c v h
message_dated boot place from (Grant p t span) c v h = count_grant_dated boot place from c v (granted_one from t span.lo span.hi (of_this_boot c p v))
message_dated boot place from (Deny p t next) c v h = count_deny_dated boot place from c (raise t next c) v (denied_one from t (of_this_boot c p v)) (raise_boot t next c)
message_dated boot place from (Floor t next) c v h = record { same = raise_boot t next c; sends = tt }

to_each_dated : (boot : ℕ → ℕ) (m : Message) (nodes : List ℕ) → IsOfBoot boot m → Each (SendIsOf boot) (to_each m nodes)
to_each_dated boot m nodes h = each_map (SendIsOf boot) (λ (node : ℕ). (node, m)) nodes (each_all (λ (node : ℕ). IsOfBoot boot m) (λ _. h) nodes)

floors_dated : (boot : ℕ → ℕ) (place : PlaceRecord) (c : Content) (t : ℕ) → Each (SendIsOf boot) (floor_sends place c t)
floors_dated boot place c t =
    cond_both (ltb t (length c.rows)) (to_each (Floor t (row c t).next) (others place)) [] (Each (SendIsOf boot))
    (λ _. to_each_dated boot (Floor t (row c t).next) (others place) tt) (λ _. tt)

tick_dated : (boot : ℕ → ℕ) (place : PlaceRecord) (c : Content) (v : VoterState) → c.boot ≤ boot place.me → StepDated boot c (tick place c v)
unfolding tick
tick_dated boot place c v h =
    let young = young_ballots v.pending in
    let asks : Each (λ (q : Ballot). Each (SendIsOf boot) (asks_again place c.boot q)) young =
    each_all (λ (q : Ballot). Each (SendIsOf boot) (asks_again place c.boot q)) (λ q. to_each_dated boot (Ask (record { node = place.me; boot = c.boot; seq = q.seq }) q.token (span_of q.lo q.hi)) _ h) young in
    record {
      same = refl;
      sends = each_append (SendIsOf boot) (flat_map (asks_again place c.boot) young) (floor_sends place c v.turn)
          (each_flat_map (SendIsOf boot) (asks_again place c.boot) young asks) (floors_dated boot place c v.turn);
    }

tells_dated : (boot : ℕ → ℕ) (place : PlaceRecord) (c : Content) (told : List ℕ) → Each (SendIsOf boot) (tells place c told)
tells_dated boot place c told =
    each_flat_map (SendIsOf boot) (floor_sends place c) told (each_all (λ t. Each (SendIsOf boot) (floor_sends place c t)) (floors_dated boot place c) told)

telling_dated : (boot : ℕ → ℕ) (place : PlaceRecord) (told : List ℕ) (c : Content) (v : VoterState) → c.boot ≤ boot place.me → StepDated boot c (tick_telling place told c v)
unfolding tick_telling
telling_dated boot place told c v h =
    let young = young_ballots v.pending in
    let asks : Each (λ (q : Ballot). Each (SendIsOf boot) (asks_again place c.boot q)) young =
    each_all (λ (q : Ballot). Each (SendIsOf boot) (asks_again place c.boot q)) (λ q. to_each_dated boot (Ask (record { node = place.me; boot = c.boot; seq = q.seq }) q.token (span_of q.lo q.hi)) _ h) young in
    record {
      same = refl;
      sends = each_append (SendIsOf boot) (flat_map (asks_again place c.boot) young) (tells place c told)
          (each_flat_map (SendIsOf boot) (asks_again place c.boot) young asks) (tells_dated boot place c told);
    }

tell_dated : (boot : ℕ → ℕ) (place : PlaceRecord) (told : List ℕ) (c : Content) (v : VoterState) → StepDated boot c (tell place told c v)
unfolding tell
tell_dated boot place told c v = record { same = refl; sends = tells_dated boot place c told }

propose_dated : (boot : ℕ → ℕ) (place : PlaceRecord) (t lo hi : ℕ) (drift : ℤ) (c : Content) (v : VoterState) → c.boot ≤ boot place.me → StepDated boot c (propose place t lo hi drift c v)
unfolding propose propose_alone propose_among
propose_dated boot place t lo hi drift c v h =
    cond_both (eqb place.n 1) (propose_alone place t lo hi drift c v) (propose_among place t lo hi drift c v) (λ s. StepDated boot c s)
    (λ _. record { same = refl; sends = tt })
    (λ _. record { same = refl; sends = to_each_dated boot (Ask (proposal_of place c v) t (span_of lo hi)) (others place) h })

-- ---- the events

-- no boot fell, and each message is of a boot that was there
record Goes (w new : Cluster) : Type 0 where
  rise : (node : ℕ) → boots_of w node ≤ boots_of new node
  dated : IsDated new

stays : (w : Cluster) → IsDated w → Goes w w
stays w k = record { rise = λ node. omega arith; dated = k }

letters_more : (one other : ℕ → ℕ) → ((i : ℕ) → one i ≤ other i) → (sent : List Envelope) → Each (LetterIsOf one) sent → Each (LetterIsOf other) sent
letters_more one other more sent k = each_weaker (LetterIsOf one) (LetterIsOf other) (λ (l : Envelope). of_more one other more l.message) sent k

-- a node with a boot that is no earlier
boots_rise : (i : ℕ) (x : Member) (w : Cluster) → (w.nodes i).content.boot ≤ x.content.boot → (j : ℕ) → (w.nodes j).content.boot ≤ (set_node i x w.nodes j).content.boot
boots_rise i x w h j =
    cond_both (eqb j i) x (w.nodes j) (λ (y : Member). (w.nodes j).content.boot ≤ y.content.boot)
    (λ q. let is : (w.nodes j).content.boot ≡ (w.nodes i).content.boot = ap (λ m. (w.nodes m).content.boot) (eqb-true j i q) in omega (arith, is, h)) (λ _. omega arith)

step_goes : (event i : ℕ) (s : Voted) (w : Cluster) → IsDated w → StepDated (boots_of w) (w.nodes i).content s → Goes w (cluster_after event i s w)
unfolding cluster_after
step_goes event i s w k h =
    let x : Member = record { content = s.content; voter = s.voter; running = true } in
    let rise : (j : ℕ) → (w.nodes j).content.boot ≤ (set_node i x w.nodes j).content.boot = boots_rise i x w (omega (arith, h.same)) in
    let new = λ (j : ℕ). (set_node i x w.nodes j).content.boot in
    record {
      rise = rise;
      dated = each_append (LetterIsOf new) w.sent (map (envelope_from i) s.sends) (letters_more (boots_of w) new rise w.sent k)
          (each_map (LetterIsOf new) (envelope_from i) s.sends
          (each_weaker (SendIsOf (boots_of w)) (SendIsOf new) (λ (send : ℕ × Message). of_more (boots_of w) new rise send.1) s.sends h.sends));
    }

swap_goes : (i : ℕ) (x : Member) (w : Cluster) → IsDated w → (w.nodes i).content.boot ≤ x.content.boot → Goes w (with_member i x w)
swap_goes i x w k h =
    let rise = boots_rise i x w h in
    record { rise = rise; dated = letters_more (boots_of w) (λ (j : ℕ). (set_node i x w.nodes j).content.boot) rise w.sent k }

delivery_goes : (event : ℕ) (o : Option Envelope) (w : Cluster) → IsDated w → ((l : Envelope) → o ≡ Some l → LetterIsOf (boots_of w) l) → Goes w (after_delivery event o w)
unfolding after_delivery
delivery_goes event None w k h = stays w k
delivery_goes event (Some l) w k h =
    let i = l.receiver in
    let s = on_message (place_of w i) l.sender l.message (w.nodes i).content (w.nodes i).voter in
    cond_both (is_running w i) (cluster_after event i s w) w (λ x. Goes w x)
    (λ _. step_goes event i s w k (message_dated (boots_of w) (place_of w i) l.sender l.message (w.nodes i).content (w.nodes i).voter (h l refl)))
    (λ _. stays w k)

proposal_goes : (event i t lo hi : ℕ) (drift : ℤ) (w : Cluster) → IsDated w → Goes w (after_proposal event i t lo hi drift w)
unfolding after_proposal with_proposal_begun
proposal_goes event i t lo hi drift w k =
    let c = (w.nodes i).content in
    let v = (w.nodes i).voter in
    let s = propose (place_of w i) t lo hi drift c v in
    let begun = with_proposal_begun event i t lo hi w in
    cond_both (ltb v.seq (2 ^ 62)) (cluster_after event i s begun) (with_member i (stopped_member (w.nodes i)) w) (λ x. Goes w x)
    (λ _. let new = step_goes event i s begun k (propose_dated (boots_of w) (place_of w i) t lo hi drift c v (omega arith)) in record { rise = new.rise; dated = new.dated })
    (λ _. swap_goes i (stopped_member (w.nodes i)) w k (omega arith))

act_goes : (event : ℕ) (a : Act) (w : Cluster) → IsDated w → Goes w (after_act event a w)
unfolding after_act
act_goes event (Begin i t lo hi drift) w k =
    cond_both (may_begin w i t lo hi) (after_proposal event i t lo hi drift w) w (λ x. Goes w x) (λ _. proposal_goes event i t lo hi drift w k) (λ _. stays w k)
act_goes event (Deliver j) w k = delivery_goes event (slice_get w.sent j) w k (λ l at. each_get (LetterIsOf (boots_of w)) w.sent j l k at)
act_goes event (Tick i) w k =
    let s = tick (place_of w i) (w.nodes i).content (w.nodes i).voter in
    cond_both (is_running w i) (cluster_after event i s w) w (λ x. Goes w x)
    (λ _. step_goes event i s w k (tick_dated (boots_of w) (place_of w i) (w.nodes i).content (w.nodes i).voter (omega arith))) (λ _. stays w k)
act_goes event (Throttle i t gate) w k =
    let s = quiet_step (content_with_gate t gate (w.nodes i).content) (w.nodes i).voter in
    cond_both (is_running w i) (cluster_after event i s w) w (λ x. Goes w x) (λ _. step_goes event i s w k (record { same = refl; sends = tt })) (λ _. stays w k)
act_goes event (Idle i) w k = stays w k
act_goes event (TickTelling i told) w k =
    let s = tick_telling (place_of w i) told (w.nodes i).content (w.nodes i).voter in
    cond_both (is_running w i) (cluster_after event i s w) w (λ x. Goes w x)
    (λ _. step_goes event i s w k (telling_dated (boots_of w) (place_of w i) told (w.nodes i).content (w.nodes i).voter (omega arith))) (λ _. stays w k)
act_goes event (Tell i told) w k =
    let s = tell (place_of w i) told (w.nodes i).content (w.nodes i).voter in
    cond_both (is_running w i) (cluster_after event i s w) w (λ x. Goes w x)
    (λ _. step_goes event i s w k (tell_dated (boots_of w) (place_of w i) told (w.nodes i).content (w.nodes i).voter)) (λ _. stays w k)
act_goes event (Raise i floor) w k =
    let same = raise_all_boot (length (w.nodes i).content.rows) floor (w.nodes i).content in
    cond_both (has_store w i) (with_member i (raised_member floor (w.nodes i)) w) w (λ x. Goes w x)
    (λ _. swap_goes i (raised_member floor (w.nodes i)) w k (omega (arith, same))) (λ _. stays w k)

restart_goes : (o : Option ℕ) (w : Cluster) → IsDated w → Goes w (after_restart o w)
unfolding after_restart
restart_goes None w k = stays w k
restart_goes (Some i) w k =
    cond_both (has_store w i) (with_member i (restarted_member (w.nodes i)) w) w (λ x. Goes w x)
    (λ _. cond_both (ltb (w.nodes i).content.boot last_boot) (record { content = with_next_boot (w.nodes i).content; voter = fresh_voter; running = true }) (stopped_member (w.nodes i)) (λ y. Goes w (with_member i y w))
    (λ _. swap_goes i _ w k (omega arith)) (λ _. swap_goes i (stopped_member (w.nodes i)) w k (omega arith)))
    (λ _. stays w k)

loss_goes : (i : ℕ) (w : Cluster) → IsDated w → Goes w (after_loss i w)
unfolding after_loss
loss_goes i w k =
    let new = swap_goes i (lost_member (w.nodes i)) w k (omega arith) in
    cond_both (has_store w i) _ w (λ x. Goes w x) (λ _. record { rise = new.rise; dated = new.dated }) (λ _. stays w k)

replacement_goes : (i boot : ℕ) (floor : ℕ → ℕ) (w : Cluster) → IsDated w → Goes w (after_replacement i boot floor w)
unfolding after_replacement
replacement_goes i boot floor w k =
    let count = length (w.nodes i).content.rows in
    cond_both (may_replace w i boot floor) _ w (λ x. Goes w x)
    (λ may.
    let a = and_parts (is_member w.n i && w.lost i) _ may in
    let b = and_parts (ltb (size w.n w.lost) (majority_of w.n)) _ a.1 in
    let c = and_parts (leb (w.nodes i).content.boot boot) (leb boot last_boot && all_most count w.least floor) b.1 in
    let new = swap_goes i (opening_member boot count floor) w k (leb-true (w.nodes i).content.boot boot c.0) in
    record { rise = new.rise; dated = new.dated })
    (λ _. stays w k)

event_dated : (event : ℕ) (x : Event) (w : Cluster) → IsDated w → IsDated (after_event event x w)
unfolding after_event
event_dated event (Happens a) w k = (act_goes event a w k).dated
event_dated event (Cut true a) w k =
    let acted = after_act event a w in
    (restart_goes (node_of a w) (with_sent_of w acted) (letters_more (boots_of w) (boots_of acted) (act_goes event a w k).rise w.sent k)).dated
event_dated event (Cut false a) w k = (restart_goes (node_of a w) w k).dated
event_dated event (Restart i) w k = (restart_goes (Some i) w k).dated
event_dated event (Lost i) w k = (loss_goes i w k).dated
event_dated event (Replaced i boot floor) w k = (replacement_goes i boot floor w k).dated

run_dated : (events : List Event) (first : ℕ) (w : Cluster) → IsDated w → IsDated (run first events w)
unfolding run
run_dated [] first w k = k
run_dated (x ∷ xs) first w k = run_dated xs (suc first) (after_event first x w) (event_dated first x w k)

-- ---- from the opening on

old_dated : (boot : ℕ → ℕ) (m : Message) → IsOfEarlierBoot boot m → IsOfBoot boot m
old_dated boot (Ask p t span) h = omega (arith, h)
old_dated boot (Grant p t span) h = omega (arith, h)
old_dated boot (Deny p t next) h = omega (arith, h)
old_dated boot (Floor t next) h = tt

all_dated : (boot : ℕ → ℕ) (sent : List Envelope) → ((i : ℕ) (l : Envelope) → slice_get sent i ≡ Some l → IsOfEarlierBoot boot l.message) → Each (LetterIsOf boot) sent
all_dated boot [] h = tt
all_dated boot (l ∷ ls) h = (old_dated boot l.message (h 0 l refl), all_dated boot ls (λ i m at. h (suc i) m at))

pub sent_dated : (n tokens : ℕ) (opening : Opening) (events : List Event) → MayOpen n tokens opening → (number : ℕ) (l : Envelope)
    → slice_get (envelopes n tokens opening events) number ≡ Some l → IsOfBoot (boots_of (run 0 events (start n tokens opening))) l.message
sent_dated n tokens opening events may number l at =
    let w = run 0 events (start n tokens opening) in
    let dated : IsDated w = run_dated events 0 (start n tokens opening) (all_dated opening.boot opening.old (λ i m is. (may i m is).1)) in
    each_get (LetterIsOf (boots_of w)) w.sent number l dated at

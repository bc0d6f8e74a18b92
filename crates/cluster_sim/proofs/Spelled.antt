-- Each datagram that a node sends is in the peer format, in every history.
use Rattle.std.proofs.Common.{true≢false, ◌≡◌, ◌≢◌, ℕ, zero, suc, ◌+◌, ◌-◌, ◌^◌, ◌<◌, ◌≤◌, Bool, true, false, ◌&&◌, ◌||◌, cond, not, ⊎_elim, List, [], ◌∷◌, ◌++◌, length, map, Option, Some, None, refl, sym, ap, ◌∙◌, subst, arith, eqb, leb, ltb, take, ℤ}
use Rattle.std.specs.Prelude.{filter}
use Rattle.std.specs.List.{slice_get}
use Rattle.std.proofs.lemmas.Bool.{cond_both, eqb-true, eqb-false, and_parts, not-true, ltb-true, leb-true}
use Rattle.std.proofs.lemmas.Option.{none-some, same_Some}
use Rattle.admit_core.specs.Window.{InWindow}
use Rattle.floor_store.specs.Content.{Content, accepted_row, with_row, with_next_boot}
use Rattle.floor_store.specs.Range.{IsProposal, IsSpan}
use Rattle.floor_store.specs.Records.{PassRecord, ProposalRecord, RowRecord, span_of}
use Rattle.otp_core.specs.Acceptance.{majority_of, size}
use Rattle.otp_core.specs.Limits.{Limits}
use Rattle.token_file.specs.declared.token.Kind.{Kind}
use Rattle.token_file.specs.declared.token.Kind.TheVariants.{Event, Time30, Time60}
use Rattle.vote_core.specs.NodeSet.{PlaceRecord, members, others, with_node}
use Rattle.vote_core.specs.Rows.{no_row, granted_row, row_with_next, row}
use Rattle.vote_core.specs.Schedule.{Envelope, envelope_from, is_member, last_boot, opening_rows}
use Rattle.vote_core.specs.State.{IsPlace}
use Rattle.vote_core.specs.Voting.{Ballot, VoterState, Voted, accept, reply_step, has_answered, asks_again, count_deny, count_grant, with_denying, denied_one, floor_sends, fresh_voter, with_granting, granted_one, is_grant, is_young, of_this_boot, older_ballot, on_ask, on_deny, on_floor, on_grant, on_message, quiet_step, pass_of, with_pending, proposal_of, propose, propose_alone, propose_among, raise, replace, tick, to_each}
use Rattle.vote_core.specs.declared.message.Message.{Message}
use Rattle.vote_core.specs.declared.message.Message.TheVariants.{Ask, Grant, Deny, Floor}
use Rattle.vote_core.proofs.Basics.{Each, each_append, each_filter, each_flat_map, each_get, each_get_or, each_map, opening_size, each_weaker, put_size, row_cases}
use Rattle.vote_core.proofs.Lists.{deny_found, each_remove, each_replace, find_each, grant_fits}
use Rattle.vote_wire.specs.Body.{HasEnds, HasSpelling, IsVoteOn}
use Rattle.client_lines.specs.Request.{without_lf}
use Rattle.oath_node.specs.Grounds.{HasGrounds}
use Rattle.oath_node.specs.Machine.{Config, Made, NodeEvent, NodeState, Client, Peer, Tick, made_by_event, made_by_datagram, made_by_ruling, stopped_node, is_heard, made_while_running, opened_node, made_by_proposal, quiet_made, restarted_node, standing_at, made_by_vote}
use Rattle.oath_node.specs.declared.ruling.Ruling.{Ruling}
use Rattle.oath_node.specs.declared.ruling.Ruling.TheVariants.{Outside, Again, Waiting, Denied, Wrong, Fitting}
use Rattle.cluster_sim.specs.World.{World, floor_at, opening_world, world_after_events, Act, Says, Deliver, Ticks, Noise, WorldEvent, Happens, Cut, Restart, Lost, Anew, floor_in, has_store, lost_node, may_be_anew, opening_node, world_after_anew, world_after_loss, world_after_act, delivered_event, world_after_event, world_with_made, node_of, noise_event, place_at, world_after_restart, with_state, world_after_turn, with_told_of, Start, first_start}
use Rattle.cluster_sim.specs.Journal.{AreSpelled, AreSpelledAlong}
use Rattle.cluster_sim.specs.RoundRun.{AreActs}
use Rattle.cluster_sim.specs.Run.{HasFloorsInRange, HaveFloorsInRange}
use Rattle.cluster_sim.proofs.Acts.{noise_cases, unheard}
use Rattle.cluster_sim.proofs.BelowLaws.{GroundLaw}

-- ---- ranges

pub record IsBallotIn (q : Ballot) : Type 0 where
  pub seq : q.seq < 2 ^ 62
  pub token : q.token < 10000
  pub lo : q.lo < 2 ^ 62
  pub hi : q.hi < 2 ^ 62
  pub span : IsSpan q.lo q.hi

pub record IsFine (c : Content) (v : VoterState) : Type 0 where
  pub boot : c.boot < 2 ^ 62
  pub next : (t : ℕ) → (row c t).next ≤ 2 ^ 62
  pub tokens : length c.rows ≤ 10000
  pub seq : v.seq ≤ 2 ^ 62
  pub pending : Each IsBallotIn v.pending

abbrev pub IsSpelledFrom : ℕ → ℕ × Message → Type 0
IsSpelledFrom me x = HasSpelling me x.0 x.1

pub record IsFineStep (me : ℕ) (s : Voted) : Type 0 where
  pub fine : IsFine s.content s.voter
  pub sends : Each (IsSpelledFrom me) s.sends

-- a row whose next is in range
put_fine : (c : Content) (v : VoterState) (t : ℕ) (r : RowRecord) (p : Option PassRecord) → IsFine c v → r.next ≤ 2 ^ 62 → IsFine (with_row c t r p) v
put_fine c v t r p h small = record {
  boot = h.boot;
  next = λ u. ⊎_elim (λ (e : row (with_row c t r p) u ≡ row c u). subst (λ (x : RowRecord). x.next ≤ 2 ^ 62) (sym e) (h.next u))
      (λ (e : (u ≡ t) × (row (with_row c t r p) u ≡ r)). subst (λ (x : RowRecord). x.next ≤ 2 ^ 62) (sym e.1) small) (row_cases c t r p u);
  tokens = subst (λ n. n ≤ 10000) (sym (put_size c t r p)) h.tokens;
  seq = h.seq;
  pending = h.pending;
}

-- other ballots, and another turn
ballots_fine : (c : Content) (v : VoterState) (qs : List Ballot) (s turn : ℕ) → IsFine c v → s ≤ 2 ^ 62 → Each IsBallotIn qs → IsFine c (record { pending = qs; seq = s; turn = turn })
ballots_fine c v qs s turn h small each = record { boot = h.boot; next = h.next; tokens = h.tokens; seq = small; pending = each }

-- ---- the other members

record IsOtherThan (me n g : ℕ) : Type 0 where
  pub first : 1 ≤ g
  pub last : g ≤ n
  pub apart : me ≢ g

abbrev InRange : ℕ → ℕ → Type 0
InRange n g = (1 ≤ g) × (g ≤ n)

all_members : (n : ℕ) → Each (InRange n) (members n)
all_members zero = tt
all_members (suc n) =
    each_append (InRange (suc n)) (members n) (suc n ∷ [])
    (each_weaker (InRange n) (InRange (suc n)) (λ g h. (h.0, omega (arith, h.1))) (members n) (all_members n))
    ((omega arith, omega arith), tt)

among : (me n : ℕ) (gs : List ℕ) → Each (InRange n) gs → Each (IsOtherThan me n) (filter (λ g. not (eqb g me)) gs)
among me n [] h = tt
among me n (g ∷ gs) h =
    cond_both (not (eqb g me)) (g ∷ filter (λ k. not (eqb k me)) gs) (filter (λ k. not (eqb k me)) gs) (λ l. Each (IsOtherThan me n) l)
    (λ b. (record { first = h.0.0; last = h.0.1; apart = λ e. eqb-false g me (not-true (eqb g me) b) (sym e) }, among me n gs h.1))
    (λ _. among me n gs h.1)

all_others : (place : PlaceRecord) → Each (IsOtherThan place.me place.n) (others place)
all_others place = among place.me place.n (members place.n) (all_members place.n)

ends : (place : PlaceRecord) (g token : ℕ) → IsPlace place → IsOtherThan place.me place.n g → token < 10000 → HasEnds place.me g token
ends place g token p o small = record {
  from_first = p.first;
  from_last = omega (arith, p.last, p.few);
  to_first = o.first;
  to_last = omega (arith, o.last, p.few);
  apart = o.apart;
  token_below = small;
}

-- one message to some of the others
to_others : (place : PlaceRecord) (m : Message) (gs : List ℕ) → Each (IsOtherThan place.me place.n) gs
    → ((g : ℕ) → IsOtherThan place.me place.n g → HasSpelling place.me g m) → Each (IsSpelledFrom place.me) (to_each m gs)
to_others place m gs h spelled =
    each_map (IsSpelledFrom place.me) (λ g. (g, m)) gs (each_weaker (IsOtherThan place.me place.n) (λ g. HasSpelling place.me g m) spelled gs h)

proposal_in : (place : PlaceRecord) (boot seq : ℕ) → IsPlace place → boot < 2 ^ 62 → seq < 2 ^ 62 → IsProposal (record { node = place.me; boot = boot; seq = seq })
proposal_in place boot seq p b s = record { first = p.first; last = omega (arith, p.last, p.few); boot = b; seq = s }

-- ---- a voter's calls

proposed : (place : PlaceRecord) (t lo hi : ℕ) (drift : ℤ) (c : Content) (v : VoterState) → IsPlace place → IsFine c v → v.seq < 2 ^ 62 → t < 10000 → lo < 2 ^ 62 → hi < 2 ^ 62 → IsSpan lo hi
    → IsFineStep place.me (propose place t lo hi drift c v)
unfolding propose propose_alone propose_among
proposed place t lo hi drift c v p h room small l u span =
    cond_both (eqb place.n 1) (propose_alone place t lo hi drift c v) (propose_among place t lo hi drift c v) (λ s. IsFineStep place.me s)
    (λ _. record {
      fine = (let x = put_fine c v t (accepted_row drift (granted_row (proposal_of place c v) lo hi (row c t))) (Some (pass_of t lo hi c.boot v.seq)) h (omega (arith, u)) in
          ballots_fine _ v v.pending (v.seq + 1) v.turn x (omega (arith, room)) h.pending);
      sends = tt;
    })
    (λ _. record {
      fine = (let x = put_fine c v t (granted_row (proposal_of place c v) lo hi (row c t)) None h (omega (arith, u)) in
          ballots_fine _ v _ (v.seq + 1) v.turn x (omega (arith, room))
          (each_append IsBallotIn v.pending _ h.pending (record { seq = room; token = small; lo = l; hi = u; span = span }, tt)));
      sends = to_others place _ (others place) (all_others place)
          (λ g o. (ends place g t p o small, record { in_range = proposal_in place c.boot v.seq p h.boot room; of_node = refl; lo_below = l; hi_below = u; spanned = span }));
    })

-- a message comes back to where it came from
back : (from me token : ℕ) → HasEnds from me token → HasEnds me from token
back from me token h = record {
  from_first = h.to_first;
  from_last = h.to_last;
  to_first = h.from_first;
  to_last = h.from_last;
  apart = λ e. h.apart (sym e);
  token_below = h.token_below;
}

asked : (me from : ℕ) (p : ProposalRecord) (t lo hi : ℕ) (c : Content) (v : VoterState) → IsFine c v → HasEnds from me t → IsVoteOn from p (span_of lo hi) → IsFineStep me (on_ask from p t lo hi c v)
unfolding on_ask
asked me from p t lo hi c v h e vote =
    let grants = reply_step from (Grant p t (span_of lo hi)) (with_row c t (granted_row p lo hi (row c t)) None) v in
    let denies = reply_step from (Deny p t (row c t).next) c v in
    cond_both (is_grant p lo hi (row c t).grant) (reply_step from (Grant p t (span_of lo hi)) c v) (cond (leb (row c t).next lo) grants denies) (λ s. IsFineStep me s)
    (λ _. record { fine = h; sends = ((back from me t e, vote), tt) })
    (λ _. cond_both (leb (row c t).next lo) grants denies (λ s. IsFineStep me s)
    (λ _. record { fine = put_fine c v t _ None h (omega (arith, vote.hi_below)); sends = ((back from me t e, vote), tt) })
    (λ _. record { fine = h; sends = ((back from me t e, record { in_range = vote.in_range; of_node = vote.of_node; next_below = h.next t }), tt) }))

counted : (place : PlaceRecord) (from : ℕ) (c : Content) (v : VoterState) (o : Option Ballot) → IsFine c v → ((q : Ballot) → o ≡ Some q → IsBallotIn q) → IsFineStep place.me (count_grant place from c v o)
unfolding count_grant accept
counted place from c v None h ok = record { fine = h; sends = tt }
counted place from c v (Some q) h ok =
    let b = ok q refl in
    cond_both (leb (majority_of place.n) (size place.n (with_node from q.granting))) (accept (with_granting from q) c v) (quiet_step c (with_pending (replace (with_granting from q) v.pending) v)) (λ s. IsFineStep place.me s)
    (λ _. record {
      fine = ballots_fine _ v _ v.seq v.turn (put_fine c v q.token _ (Some (pass_of q.token q.lo q.hi c.boot q.seq)) h (h.next q.token)) h.seq (each_remove IsBallotIn q.seq v.pending h.pending);
      sends = tt;
    })
    (λ _. record {
      fine = ballots_fine c v _ v.seq v.turn h h.seq
          (each_replace IsBallotIn (with_granting from q) v.pending (record { seq = b.seq; token = b.token; lo = b.lo; hi = b.hi; span = b.span }) h.pending);
      sends = tt;
    })

raised_fine : (t next : ℕ) (c : Content) (v : VoterState) → IsFine c v → next ≤ 2 ^ 62 → IsFine (raise t next c) v
unfolding raise
raised_fine t next c v h small =
    cond_both (ltb (row c t).next next) (with_row c t (row_with_next next (row c t)) None) c (λ d. IsFine d v) (λ _. put_fine c v t _ None h small) (λ _. h)

discounted : (place : PlaceRecord) (from : ℕ) (c : Content) (v : VoterState) (o : Option Ballot) → IsFine c v → ((q : Ballot) → o ≡ Some q → IsBallotIn q) → IsFineStep place.me (count_deny place from c v o)
unfolding count_deny
discounted place from c v None h ok = record { fine = h; sends = tt }
discounted place from c v (Some q) h ok =
    let b = ok q refl in
    cond_both (ltb (place.n - size place.n (with_node from q.denying)) (majority_of place.n)) _ _ (λ s. IsFineStep place.me s)
    (λ _. record { fine = ballots_fine c v _ v.seq v.turn h h.seq (each_remove IsBallotIn q.seq v.pending h.pending); sends = tt })
    (λ _. record {
      fine = ballots_fine c v _ v.seq v.turn h h.seq
          (each_replace IsBallotIn (with_denying from q) v.pending (record { seq = b.seq; token = b.token; lo = b.lo; hi = b.hi; span = b.span }) h.pending);
      sends = tt;
    })

heard : (place : PlaceRecord) (from : ℕ) (m : Message) (c : Content) (v : VoterState) → IsFine c v → HasSpelling from place.me m → IsFineStep place.me (on_message place from m c v)
unfolding on_message on_grant on_deny on_floor
heard place from (Ask p t span) c v h m = asked place.me from p t span.lo span.hi c v h m.0 m.1
heard place from (Grant p t span) c v h m =
    counted place from c v (granted_one from t span.lo span.hi (of_this_boot c p v)) h
    (λ q e. find_each IsBallotIn p.seq v.pending q h.pending (grant_fits place.me from t span.lo span.hi p c v q e).found)
heard place from (Deny p t next) c v h m =
    discounted place from (raise t next c) v (denied_one from t (of_this_boot c p v)) (raised_fine t next c v h m.1.next_below)
    (λ q e. find_each IsBallotIn p.seq v.pending q h.pending (deny_found from t p c v q e))
heard place from (Floor t next) c v h m = record { fine = raised_fine t next c v h m.1; sends = tt }

ticked : (place : PlaceRecord) (c : Content) (v : VoterState) → IsPlace place → IsFine c v → IsFineStep place.me (tick place c v)
unfolding tick
ticked place c v p h =
    let old = each_map IsBallotIn older_ballot v.pending (each_weaker IsBallotIn (λ q. IsBallotIn (older_ballot q)) (λ q b. record { seq = b.seq; token = b.token; lo = b.lo; hi = b.hi; span = b.span }) v.pending h.pending) in
    let young = each_filter IsBallotIn is_young (map older_ballot v.pending) old in
    record {
      fine = ballots_fine c v _ v.seq _ h h.seq young;
      sends = each_append (IsSpelledFrom place.me) _ (floor_sends place c v.turn)
          (each_flat_map (IsSpelledFrom place.me) (asks_again place c.boot) _
          (each_weaker IsBallotIn (λ q. Each (IsSpelledFrom place.me) (asks_again place c.boot q))
          (λ q b. to_others place _ _ (each_filter (IsOtherThan place.me place.n) (λ g. not (has_answered q g)) (others place) (all_others place))
          (λ g o. (ends place g q.token p o b.token, record { in_range = proposal_in place c.boot q.seq p h.boot b.seq; of_node = refl; lo_below = b.lo; hi_below = b.hi; spanned = b.span })))
          _ young))
          (cond_both (ltb v.turn (length c.rows)) (to_each (Floor v.turn (row c v.turn).next) (others place)) [] (λ l. Each (IsSpelledFrom place.me) l)
          (λ b. to_others place (Floor v.turn (row c v.turn).next) (others place) (all_others place)
          (λ g o. (ends place g v.turn p o (omega (arith, ltb-true v.turn (length c.rows) b, h.tokens)), h.next v.turn)))
          (λ _. tt));
    }

-- ---- the machine

pub record IsFineMade (me : ℕ) (m : Made) : Type 0 where
  pub fine : IsFine m.state.content m.state.voter
  pub sends : Each (IsSpelledFrom me) m.sends

abbrev pub IsFineEvent : NodeEvent → Type 0
IsFineEvent (Client client moment line) = Unit {0}
IsFineEvent (Peer from None) = Unit {0}
IsFineEvent (Peer from (Some l)) = HasSpelling l.sender l.receiver l.message
IsFineEvent Tick = Unit {0}

window_factor : (k : Kind) (reach : ℕ) (limits : Limits) (next : ℕ) (drift : ℤ) (moment m : ℕ) → InWindow k reach limits next drift moment m → m < 2 ^ 62
window_factor Event reach limits next drift moment m h = h.factor
window_factor Time30 reach limits next drift moment m h = h.factor
window_factor Time60 reach limits next drift moment m h = h.factor

still : (me : ℕ) (x : NodeState) → IsFine x.content x.voter → IsFineMade me (quiet_made x)
still me x h = record { fine = h; sends = tt }

ruled : (config : Config) (place : PlaceRecord) (x : NodeState) (client moment : ℕ) (text line : List ℕ) (r : Ruling) → length config.book ≤ 10000 → IsPlace place → IsFine x.content x.voter
    → HasGrounds config.book config.limits (standing_at x client moment line) moment text r → IsFineMade place.me (made_by_ruling place client moment line r x)
unfolding made_by_ruling made_by_proposal
ruled config place x client moment text line Outside few p h g = record { fine = h; sends = tt }
ruled config place x client moment text line (Again kept) few p h g = record { fine = h; sends = tt }
ruled config place x client moment text line Waiting few p h g = record { fine = h; sends = tt }
ruled config place x client moment text line (Denied nonce reason) few p h g = record { fine = h; sends = tt }
ruled config place x client moment text line (Wrong nonce reason token) few p h g =
    record { fine = put_fine x.content x.voter token _ None h (h.next token); sends = tt }
ruled config place x client moment text line (Fitting nonce token span drift) few p h g =
    cond_both (ltb x.voter.seq (2 ^ 62)) _ (quiet_made (stopped_node x)) (λ m. IsFineMade place.me m)
    (λ b. (let s = proposed place token span.lo span.hi drift x.content x.voter p h (ltb-true x.voter.seq (2 ^ 62) b) (omega (arith, g.within, few))
    (window_factor g.credential.kind _ config.limits _ _ moment span.lo g.fit.first) (window_factor g.credential.kind _ config.limits _ _ moment span.hi g.fit.last) g.span in
    record { fine = s.fine; sends = s.sends }))
    (λ _. record { fine = h; sends = tt })

from_peer : (config : Config) (place : PlaceRecord) (x : NodeState) (from : ℕ) (o : Option Envelope) → IsFine x.content x.voter → IsFineEvent (Peer from o) → IsFineMade place.me (made_by_datagram config place from o x)
unfolding made_by_datagram
from_peer config place x from None h l = still place.me x h
from_peer config place x from (Some l) h spelled =
    cond_both (is_heard config place from l) (made_by_vote x.owners None (on_message place from l.message x.content x.voter) x) (quiet_made x) (λ m. IsFineMade place.me m)
    (λ b. (let a = and_parts (eqb l.sender from) _ b in
    let d = and_parts (eqb l.receiver place.me) _ a.1 in
    let s = heard place from l.message x.content x.voter h (subst (λ k. HasSpelling from k l.message) (eqb-true l.receiver place.me d.0) (subst (λ k. HasSpelling k l.receiver l.message) (eqb-true l.sender from a.0) spelled)) in
    record { fine = s.fine; sends = s.sends }))
    (λ _. still place.me x h)

pub after_fine : GroundLaw → (config : Config) (place : PlaceRecord) (x : NodeState) (e : NodeEvent) → length config.book ≤ 10000 → IsPlace place → IsFine x.content x.voter → IsFineEvent e
    → IsFineMade place.me (made_by_event config place e x)
unfolding made_by_event made_while_running
after_fine grounds config place x (Client client moment text) few p h ok =
    cond_both x.running (made_while_running config place (Client client moment text) x) (quiet_made x) (λ m. IsFineMade place.me m)
    (λ _. ruled config place x client moment text (without_lf text) _ few p h (grounds config.book config.limits (standing_at x client moment (without_lf text)) moment text))
    (λ _. still place.me x h)
after_fine grounds config place x (Peer from o) few p h ok =
    cond_both x.running (made_while_running config place (Peer from o) x) (quiet_made x) (λ m. IsFineMade place.me m) (λ _. from_peer config place x from o h ok) (λ _. still place.me x h)
after_fine grounds config place x Tick few p h ok =
    cond_both x.running (made_while_running config place Tick x) (quiet_made x) (λ m. IsFineMade place.me m)
    (λ _. (let s = ticked place x.content x.voter p h in record { fine = s.fine; sends = s.sends })) (λ _. still place.me x h)

-- ---- the world

abbrev pub IsSpelled : Envelope → Type 0
IsSpelled l = HasSpelling l.sender l.receiver l.message

abbrev pub IsFineNode : NodeState → Type 0
IsFineNode x = IsFine x.content x.voter

-- a node that lost its store may be past the last boot
pub record IsFineWorld (w : World) : Type 0 where
  pub few : w.n ≤ 9
  pub nodes : (i : ℕ) → w.lost i ≡ false → IsFineNode (w.nodes i)
  pub tokens : (i : ℕ) → length (w.nodes i).content.rows ≤ 10000
  pub sent : Each IsSpelled w.sent

set_fine : (i : ℕ) (x : NodeState) (lost : ℕ → Bool) (nodes : ℕ → NodeState) → IsFineNode x → ((j : ℕ) → lost j ≡ false → IsFineNode (nodes j)) → (j : ℕ) → lost j ≡ false → IsFineNode (with_state i x nodes j)
set_fine i x lost nodes hx h j at = cond_both (eqb j i) x (nodes j) IsFineNode (λ _. hx) (λ _. h j at)

set_tokens : (i : ℕ) (x : NodeState) (nodes : ℕ → NodeState) → length x.content.rows ≤ 10000 → ((j : ℕ) → length (nodes j).content.rows ≤ 10000) → (j : ℕ) → length (with_state i x nodes j).content.rows ≤ 10000
set_tokens i x nodes hx h j = cond_both (eqb j i) x (nodes j) (λ (y : NodeState). length y.content.rows ≤ 10000) (λ _. hx) (λ _. h j)

-- a node that has its store is fine
there : (i : ℕ) (w : World) → IsFineWorld w → has_store w i ≡ true → IsFineNode (w.nodes i)
there i w h b = h.nodes i (not-true (w.lost i) (and_parts (not (w.lost i)) (is_member w.n i) b).0)

made_fine : (e i : ℕ) (m : Made) (w : World) → IsFineWorld w → IsFineMade i m → IsFineWorld (world_with_made e i m w)
unfolding world_with_made
made_fine e i m w h f = record {
  few = h.few;
  nodes = set_fine i m.state w.lost w.nodes f.fine h.nodes;
  tokens = set_tokens i m.state w.nodes f.fine.tokens h.tokens;
  sent = each_append IsSpelled w.sent _ h.sent (each_map IsSpelled (envelope_from i) m.sends f.sends);
}

turned_fine : GroundLaw → (config : Config) (e i : ℕ) (o : Option NodeEvent) (w : World) → length config.book ≤ 10000 → IsFineWorld w → ((x : NodeEvent) → o ≡ Some x → IsFineEvent x) → IsFineWorld (world_after_turn config e i o w)
unfolding world_after_turn
turned_fine grounds config e i None w few h ok = h
turned_fine grounds config e i (Some x) w few h ok =
    cond_both (has_store w i) (world_with_made e i (made_by_event config (place_at w i) x (w.nodes i)) w) w (λ y. IsFineWorld y)
    (λ b. (let a = and_parts (leb 1 i) (leb i w.n) (and_parts (not (w.lost i)) (is_member w.n i) b).1 in
    made_fine e i _ w h (after_fine grounds config (place_at w i) (w.nodes i) x few (record { first = leb-true 1 i a.0; last = leb-true i w.n a.1; few = h.few }) (there i w h b) (ok x refl))))
    (λ _. h)

-- what is not heard leaves the node as it was
dropped_made : (config : Config) (place : PlaceRecord) (x : NodeState) (from : ℕ) (l : Envelope) → eqb l.sender from ≡ false → IsFine x.content x.voter → IsFineMade place.me (made_by_event config place (Peer from (Some l)) x)
unfolding made_by_event made_while_running
dropped_made config place x from l other h =
    cond_both x.running (made_by_datagram config place from (Some l) x) (quiet_made x) (λ m. IsFineMade place.me m)
    (λ _. subst (IsFineMade place.me) (sym (unheard config place from l x other)) (still place.me x h)) (λ _. still place.me x h)

dropped_fine : (config : Config) (e i from : ℕ) (l : Envelope) (w : World) → eqb l.sender from ≡ false → IsFineWorld w → IsFineWorld (world_after_turn config e i (Some (Peer from (Some l))) w)
unfolding world_after_turn
dropped_fine config e i from l w other h =
    cond_both (has_store w i) (world_with_made e i (made_by_event config (place_at w i) (Peer from (Some l)) (w.nodes i)) w) w (λ y. IsFineWorld y)
    (λ b. made_fine e i _ w h (dropped_made config (place_at w i) (w.nodes i) from l other (there i w h b))) (λ _. h)

letter_event : (ls : List Envelope) (o : Option Envelope) → ((l : Envelope) → o ≡ Some l → IsSpelled l) → (x : NodeEvent) → delivered_event o ≡ Some x → IsFineEvent x
letter_event ls None h x e = absurd (none-some x e)
letter_event ls (Some l) h x e = subst IsFineEvent (same_Some (Peer l.sender (Some l)) x e) (h l refl)

-- noise, if what it says is dropped
noise_turn : GroundLaw → (config : Config) (e i from : ℕ) (o : Option Envelope) (w : World) → length config.book ≤ 10000 → IsFineWorld w → IsFineWorld (world_after_turn config e i (noise_event from o) w)
noise_turn grounds config e i from o w few h =
    noise_cases (λ z. IsFineWorld (world_after_turn config e i z w)) from o
    (turned_fine grounds config e i None w few h (λ x k. absurd (none-some x k)))
    (turned_fine grounds config e i (Some (Peer from None)) w few h (λ x k. subst IsFineEvent (same_Some (Peer from None) x k) tt))
    (λ l other. dropped_fine config e i from l w other h)

acted_fine : GroundLaw → (config : Config) (e : ℕ) (a : Act) (w : World) → length config.book ≤ 10000 → IsFineWorld w → IsFineWorld (world_after_act config e a w)
unfolding world_after_act
acted_fine grounds config e (Says i client moment text) w few h =
    turned_fine grounds config e i _ w few h (λ x k. subst IsFineEvent (same_Some (Client client moment text) x k) tt)
acted_fine grounds config e (Deliver i k) w few h =
    turned_fine grounds config e i _ w few h (letter_event w.sent (slice_get w.sent k) (λ l s. each_get IsSpelled w.sent k l h.sent s))
acted_fine grounds config e (Ticks i) w few h = turned_fine grounds config e i _ w few h (λ x k. subst IsFineEvent (same_Some Tick x k) tt)
acted_fine grounds config e (Noise i from read) w few h = noise_turn grounds config e i from read w few h

fresh_fine : (c : Content) (v : VoterState) → IsFine c v → c.boot + 1 < 2 ^ 62 → IsFine (with_next_boot c) fresh_voter
fresh_fine c v h small = record { boot = small; next = h.next; tokens = h.tokens; seq = omega arith; pending = tt }

restarted_fine : (x : NodeState) → IsFine x.content x.voter → IsFine (restarted_node x).content (restarted_node x).voter
restarted_fine x h =
    cond_both (ltb x.content.boot last_boot) (opened_node x.content) (stopped_node x) (λ (y : NodeState). IsFine y.content y.voter)
    (λ b. fresh_fine x.content x.voter h (omega (arith, ltb-true x.content.boot last_boot b))) (λ _. h)

restart_fine : (o : Option ℕ) (w : World) → IsFineWorld w → IsFineWorld (world_after_restart o w)
unfolding world_after_restart
restart_fine None w h = h
restart_fine (Some i) w h =
    let x = restarted_node (w.nodes i) in
    cond_both (has_store w i) _ w (λ y. IsFineWorld y)
    (λ b. (let f = restarted_fine (w.nodes i) (there i w h b) in
    record { few = h.few; nodes = set_fine i x w.lost w.nodes f h.nodes; tokens = set_tokens i x w.nodes f.tokens h.tokens; sent = h.sent }))
    (λ _. h)

-- ---- lost and replaced stores

loss_fine : (i : ℕ) (w : World) → IsFineWorld w → IsFineWorld (world_after_loss i w)
unfolding world_after_loss
loss_fine i w h =
    let x = lost_node (w.nodes i) in
    cond_both (has_store w i) _ w (λ y. IsFineWorld y)
    (λ b. record {
      few = h.few;
      nodes = λ j at. cond_both (eqb j i) x (w.nodes j) (λ y. eqb j i || w.lost j ≡ false → IsFineNode y)
          (λ q gone. absurd (true≢false (sym (ap (λ z. z || w.lost j) q) ∙ gone)))
          (λ q kept. h.nodes j (sym (ap (λ z. z || w.lost j) q) ∙ kept)) at;
      tokens = set_tokens i x w.nodes (h.tokens i) h.tokens;
      sent = h.sent;
    })
    (λ _. h)

-- the rows of a node that opens
abbrev HasNext : RowRecord → Type 0
HasNext r = r.next ≤ 2 ^ 62

opening_rows_fine : (k : ℕ) (floor : ℕ → ℕ) → ((t : ℕ) → floor t ≤ 2 ^ 62) → Each HasNext (opening_rows k floor)
opening_rows_fine zero floor h = tt
opening_rows_fine (suc k) floor h = each_append HasNext (opening_rows k floor) _ (opening_rows_fine k floor h) (h k, tt)

opening_fine : (boot k : ℕ) (floor : ℕ → ℕ) → boot < 2 ^ 62 → k ≤ 10000 → ((t : ℕ) → floor t ≤ 2 ^ 62) → IsFineNode (opening_node boot k floor)
opening_fine boot k floor low few h = record {
  boot = low;
  next = λ t. each_get_or HasNext (opening_rows k floor) t no_row (opening_rows_fine k floor h) (omega arith);
  tokens = subst (λ m. m ≤ 10000) (sym (opening_size k floor)) few;
  seq = omega arith;
  pending = tt;
}

anew_fine : (e i boot : ℕ) (floor : ℕ → ℕ) (w : World) → ((t : ℕ) → floor t ≤ 2 ^ 62) → IsFineWorld w → IsFineWorld (world_after_anew e i boot floor w)
unfolding world_after_anew
anew_fine e i boot floor w range h =
    let k = length (w.nodes i).content.rows in
    let x = opening_node boot k floor in
    let f : boot < 2 ^ 62 → IsFineNode x = λ low. opening_fine boot k floor low (h.tokens i) range in
    cond_both (may_be_anew w i boot floor) _ w (λ y. IsFineWorld y)
    (λ may. (let low = low_boot w i boot floor may in
    record {
      few = h.few;
      nodes = λ j at. cond_both (eqb j i) x (w.nodes j) (λ y. (not (eqb j i) && w.lost j) ≡ false → IsFineNode y)
          (λ _ _. f low)
          (λ q kept. h.nodes j (sym (ap (λ z. not z && w.lost j) q) ∙ kept)) at;
      tokens = set_tokens i x w.nodes (f low).tokens h.tokens;
      sent = h.sent;
    }))
    (λ _. h)
  where
    low_boot : (w : World) (i boot : ℕ) (floor : ℕ → ℕ) → may_be_anew w i boot floor ≡ true → boot < 2 ^ 62
    low_boot w i boot floor may =
        let a = and_parts (is_member w.n i && w.lost i) _ may in
        let b = and_parts (ltb (size w.n w.lost) (majority_of w.n)) _ a.1 in
        let c = and_parts (leb (w.nodes i).content.boot boot) _ b.1 in
        let d = and_parts (leb boot last_boot) _ c.1 in
        omega (arith, leb-true boot last_boot d.0)

pub happens_fine : GroundLaw → (config : Config) (e : ℕ) (x : WorldEvent) (w : World) → length config.book ≤ 10000 → HasFloorsInRange x → IsFineWorld w → IsFineWorld (world_after_event config e x w)
unfolding world_after_event
happens_fine grounds config e (Happens a) w few range h = acted_fine grounds config e a w few h
happens_fine grounds config e (Cut true a) w few range h =
    let k = acted_fine grounds config e a w few h in
    restart_fine (node_of a w) (with_told_of w (world_after_act config e a w)) (record { few = k.few; nodes = k.nodes; tokens = k.tokens; sent = h.sent })
happens_fine grounds config e (Cut false a) w few range h = restart_fine (node_of a w) w h
happens_fine grounds config e (Restart i) w few range h = restart_fine (Some i) w h
happens_fine grounds config e (Lost i) w few range h = loss_fine i w h
happens_fine grounds config e (Anew i boot floors) w few range h = anew_fine e i boot (floor_in floors) w range h

pub are_spelled : (w : World) → IsFineWorld w → AreSpelled w
are_spelled w h k l e = each_get IsSpelled w.sent k l h.sent e

-- ---- runs

abbrev pub AreInRange : List WorldEvent → Type 0
AreInRange xs = Each HasFloorsInRange xs

in_range : (xs : List WorldEvent) → HaveFloorsInRange xs → AreInRange xs
in_range [] h = tt
in_range (x ∷ xs) h = (h 0 x refl, in_range xs (λ k. h (suc k)))

pub acts_in_range : (xs : List WorldEvent) → AreActs xs → AreInRange xs
acts_in_range [] h = tt
acts_in_range (Happens a ∷ xs) h = (tt, acts_in_range xs h)
acts_in_range (Cut kept a ∷ xs) h = absurd h
acts_in_range (Restart i ∷ xs) h = absurd h
acts_in_range (Lost i ∷ xs) h = absurd h
acts_in_range (Anew i boot floors ∷ xs) h = absurd h

taken_in_range : (k : ℕ) (xs : List WorldEvent) → AreInRange xs → AreInRange (take k xs)
taken_in_range zero [] h = tt
taken_in_range zero (x ∷ xs) h = tt
taken_in_range (suc k) [] h = tt
taken_in_range (suc k) (x ∷ xs) h = (h.0, taken_in_range k xs h.1)

run_fine : GroundLaw → (config : Config) (e : ℕ) (xs : List WorldEvent) (w : World) → length config.book ≤ 10000 → AreInRange xs → IsFineWorld w → IsFineWorld (world_after_events config e xs w)
unfolding world_after_events
run_fine grounds config e [] w few range h = h
run_fine grounds config e (x ∷ xs) w few range h = run_fine grounds config (suc e) xs (world_after_event config e x w) few range.1 (happens_fine grounds config e x w few range.0 h)

-- a start in range
pub record IsFineStart (config : Config) (start : Start) : Type 0 where
  pub tokens : length config.book ≤ 10000
  pub nodes : start.n ≤ 9
  pub boots : (i : ℕ) → start.opening.boot i < 2 ^ 62
  pub floors : (i t : ℕ) → start.opening.floor i t ≤ 2 ^ 62
  pub old : Each IsSpelled start.opening.old

-- the start of nodes that open for the first time
pub first_fine : (config : Config) (floors : List (List ℕ)) → length config.book ≤ 10000 → length floors ≤ 9 → ((i t : ℕ) → floor_at floors i t ≤ 2 ^ 62) → IsFineStart config (first_start floors)
first_fine config floors few n h = record { tokens = few; nodes = n; boots = λ i. omega arith; floors = h; old = tt }

pub start_fine : (config : Config) (start : Start) → IsFineStart config start → IsFineWorld (opening_world config start)
start_fine config start h =
    let node : (i : ℕ) → IsFineNode (opening_node (start.opening.boot i) (length config.book) (start.opening.floor i)) =
    λ i. opening_fine (start.opening.boot i) (length config.book) (start.opening.floor i) (h.boots i) h.tokens (h.floors i) in
    record { few = h.nodes; nodes = λ i _. node i; tokens = λ i. (node i).tokens; sent = h.old }

spelled_in_range : GroundLaw → (config : Config) (start : Start) (events : List WorldEvent) → IsFineStart config start → AreInRange events → AreSpelledAlong config events (opening_world config start)
spelled_in_range grounds config start events h range k =
    are_spelled (world_after_events config 0 (take k events) (opening_world config start))
    (run_fine grounds config 0 (take k events) (opening_world config start) h.tokens (taken_in_range k events range) (start_fine config start h))

pub all_spelled : GroundLaw → (config : Config) (start : Start) (events : List WorldEvent) → IsFineStart config start → HaveFloorsInRange events → AreSpelledAlong config events (opening_world config start)
all_spelled grounds config start events h range = spelled_in_range grounds config start events h (in_range events range)

-- after further events in range the world stays spelled
pub then_spelled : GroundLaw → (config : Config) (start : Start) (events more : List WorldEvent) → IsFineStart config start
    → HaveFloorsInRange events → AreInRange more → AreSpelledAlong config (events ++ more) (opening_world config start)
then_spelled grounds config start events more h range later =
    spelled_in_range grounds config start (events ++ more) h (each_append HasFloorsInRange events more (in_range events range) later)

-- How much one event sends and replies.
use Rattle.std.proofs.Common.{◌≡◌, ℕ, ℤ, zero, suc, ◌+◌, ◌*◌, ◌-◌, ◌^◌, ◌≤◌, Bool, true, false, cond, List, [], ◌∷◌, ◌++◌, length, map, Option, Some, None, refl, ap, ◌∙◌, inl, inr, arith, length-append}
use Rattle.std.specs.Prelude.{◌==◌, filter, nat_le, nat_lt, not}
use Rattle.std.specs.List.{flat_map}
use Rattle.std.proofs.lemmas.Bool.{cond_both, cases_eq, eq-eqb}
use Rattle.std.proofs.lemmas.List.{length-map}
use Rattle.std.proofs.lemmas.List.Elements.{filter-append}
use Rattle.std.proofs.lemmas.List.Filters.{length-filter_both}
use Rattle.floor_store.specs.Content.{Content}
use Rattle.floor_store.specs.Records.{ProposalRecord, span_of}
use Rattle.otp_core.specs.Acceptance.{majority_of, size}
use Rattle.vote_core.specs.NodeSet.{PlaceRecord, members, others, with_node}
use Rattle.vote_core.specs.Rows.{row}
use Rattle.vote_core.specs.Schedule.{Envelope}
use Rattle.vote_core.specs.State.{IsPlace}
use Rattle.vote_core.specs.Voting.{Ballot, VoterState, Voted, accept, asks_again, count_deny, count_grant, floor_sends, has_answered, is_grant, is_young, older_ballot, older_ballots, on_ask, on_deny, on_floor, on_grant, on_message, propose, propose_alone, propose_among, raise, tick, to_each, young_ballots}
use Rattle.vote_core.specs.declared.message.Message.{Message}
use Rattle.vote_core.specs.declared.message.Message.TheVariants.{Ask, Grant, Deny, Floor}
use Rattle.vote_core.specs.declared.step.Decision.{Decision}
use Rattle.vote_core.specs.declared.step.Decision.TheVariants.{Timeout}
use Rattle.client_lines.specs.Request.{without_lf}
use Rattle.oath_node.specs.Machine.{Beginning, Config, Made, NodeEvent, Client, Peer, Tick, NodeState, Owner, answer_to_decision, answers_to_decisions, is_heard, made_by_datagram, made_by_event, made_by_message, made_by_proposal, made_by_ruling, made_by_vote, made_while_running, next_beginning, next_owner, owner_with, quiet_made, reply_with, ruling_at, stopped_node}
use Rattle.oath_node.specs.Outputs.{datagram_item, outputs_of, reply_item}
use Rattle.oath_node.specs.declared.ruling.Ruling.{Ruling}
use Rattle.oath_node.specs.declared.ruling.Ruling.TheVariants.{Outside, Again, Waiting, Denied, Wrong, Fitting}

filter_le : {X : Type 0} (p : X → Bool) (xs : List X) → length (filter p xs) ≤ length xs
filter_le p xs = omega (arith, length-filter_both p (λ x. not (p x)) (λ _. refl) xs)

abbrev but : ℕ → ℕ → Bool
but me node = not (node == me)

at_most_one : {X : Type 0} (t : Bool) (x : X) → length (cond t (x ∷ []) []) ≤ 1
at_most_one true x = omega arith
at_most_one false x = omega arith

last_one : (me n : ℕ) → length (filter (but me) (members (suc n))) ≡ length (filter (but me) (members n)) + length (cond (but me (suc n)) (suc n ∷ []) [])
last_one me n = ap (λ (l : List ℕ). length l) (filter-append (but me) (members n) (suc n ∷ [])) ∙ length-append (filter (but me) (members n)) (cond (but me (suc n)) (suc n ∷ []) [])

up_to : (me n : ℕ) → length (filter (but me) (members n)) ≤ n
up_to me zero = omega arith
up_to me (suc n) = omega (arith, last_one me n, up_to me n, at_most_one (but me (suc n)) (suc n))

one_less : (me n : ℕ) → 1 ≤ me → me ≤ n → length (filter (but me) (members n)) + 1 ≤ n
one_less me zero first last = absurd (omega arith)
one_less me (suc n) first last =
    elim (cases_eq (suc n) me) [
      | inl e ↦
          let gone : length (cond (but me (suc n)) (suc n ∷ []) []) ≡ 0 = rw (eq-eqb (suc n) me e) refl in
          omega (arith, last_one me n, up_to me n, gone)
      | inr ne ↦ omega (arith, last_one me n, one_less me n first (omega arith), at_most_one (but me (suc n)) (suc n))
    ]

others_few : (place : PlaceRecord) → IsPlace place → length (others place) ≤ 8
others_few place h = omega (arith, one_less place.me place.n h.first h.last, h.few)

flat_le : {X Y : Type 0} (f : X → List Y) (k : ℕ) (xs : List X) → ((x : X) → length (f x) ≤ k) → length (flat_map f xs) ≤ k * length xs
flat_le f k [] h = omega arith
flat_le f k (x ∷ xs) h = grind (arith, length-append (f x) (flat_map f xs), flat_le f k xs h, h x)

-- ---- the voter's part: the bounds of messages and decisions

abbrev Few : Voted → Type 0
Few v = length v.sends + length v.decisions ≤ 264

length-each : (m : Message) (to : List ℕ) → length (to_each m to) ≡ length to
length-each m [] = refl
length-each m (g ∷ to) = ap suc (length-each m to)

asks_few : (place : PlaceRecord) (boot : ℕ) (q : Ballot) → IsPlace place → length (asks_again place boot q) ≤ 8
asks_few place boot q h =
    let silent = filter (λ g. not (has_answered q g)) (others place) in
    omega (arith, length-each (Ask (record { node = place.me; boot = boot; seq = q.seq }) q.token (span_of q.lo q.hi)) silent, filter_le (λ g. not (has_answered q g)) (others place), others_few place h)

each_few : (place : PlaceRecord) (m : Message) → IsPlace place → length (to_each m (others place)) ≤ 8
each_few place m h = omega (arith, length-each m (others place), others_few place h)

floor_few : (place : PlaceRecord) (c : Content) (t : ℕ) → IsPlace place → length (floor_sends place c t) ≤ 8
floor_few place c t h =
    cond_both (nat_lt t (length c.rows)) (to_each (Floor t (row c t).next) (others place)) [] (λ (l : List (ℕ × Message)). length l ≤ 8)
    (λ _. each_few place (Floor t (row c t).next) h) (λ _. omega arith)

tick_few : (place : PlaceRecord) (c : Content) (v : VoterState) → IsPlace place → length v.pending ≤ 32 → Few (tick place c v)
unfolding tick
tick_few place c v h few =
    let older = older_ballots v.pending in
    let young = young_ballots v.pending in
    let late = filter (λ (q : Ballot). not (is_young q)) older in
    let asks = flat_map (asks_again place c.boot) young in
    let all : length older ≡ length v.pending = length-map v.pending older_ballot in
    let tell : Ballot → ℕ × Decision = λ q. (q.seq, Timeout) in
    let parts = length-filter_both is_young (λ (q : Ballot). not (is_young q)) (λ _. refl) older in
    let many : length asks ≤ 8 * length young = flat_le (asks_again place c.boot) 8 young (λ q. asks_few place c.boot q h) in
    omega (arith, length-append asks (floor_sends place c v.turn), floor_few place c v.turn h, many, parts, all, length-map late tell)

ask_few : (from : ℕ) (p : ProposalRecord) (t lo hi : ℕ) (c : Content) (v : VoterState) → Few (on_ask from p t lo hi c v)
unfolding on_ask
ask_few from p t lo hi c v =
    cond_both (is_grant p lo hi (row c t).grant) _ _ Few (λ _. omega arith) (λ _. cond_both (nat_le (row c t).next lo) _ _ Few (λ _. omega arith) (λ _. omega arith))

grant_few : (place : PlaceRecord) (from : ℕ) (c : Content) (v : VoterState) (o : Option Ballot) → Few (count_grant place from c v o)
unfolding count_grant accept
grant_few place from c v None = omega arith
grant_few place from c v (Some q) =
    cond_both (nat_le (majority_of place.n) (size place.n (with_node from q.granting))) _ _ Few (λ _. omega arith) (λ _. omega arith)

deny_few : (place : PlaceRecord) (from : ℕ) (c : Content) (v : VoterState) (o : Option Ballot) → Few (count_deny place from c v o)
unfolding count_deny
deny_few place from c v None = omega arith
deny_few place from c v (Some q) =
    cond_both (nat_lt (place.n - size place.n (with_node from q.denying)) (majority_of place.n)) _ _ Few (λ _. omega arith) (λ _. omega arith)

message_few : (place : PlaceRecord) (from : ℕ) (m : Message) (c : Content) (v : VoterState) → Few (on_message place from m c v)
unfolding on_message on_grant on_deny on_floor
message_few place from (Ask p t span) c v = ask_few from p t span.lo span.hi c v
message_few place from (Grant p t span) c v = grant_few place from c v _
message_few place from (Deny p t next) c v = deny_few place from (raise t next c) v _
message_few place from (Floor t next) c v = omega arith

propose_few : (place : PlaceRecord) (t lo hi : ℕ) (drift : ℤ) (c : Content) (v : VoterState) → IsPlace place → Few (propose place t lo hi drift c v)
unfolding propose propose_alone propose_among
propose_few place t lo hi drift c v h =
    cond_both (place.n == 1) _ _ Few (λ _. omega arith)
    (λ _. omega (arith, each_few place (Ask (record { node = place.me; boot = c.boot; seq = v.seq }) t (span_of lo hi)) h))

-- ---- the node's part: the bounds of messages and replies

abbrev IsBrief : Made → Type 0
IsBrief m = length m.sends + length m.replies ≤ 264

one_answer : (d : ℕ × Decision) (o : Option Owner) → length (answer_to_decision d.1 o) ≤ 1
one_answer d None = omega arith
one_answer d (Some o) = omega arith

vote_brief : (x : NodeState) (owners : List Owner) (began : Option Beginning) (v : Voted) → Few v → IsBrief (made_by_vote owners began v x)
vote_brief x owners began v h =
    let told = answers_to_decisions owners v.decisions in
    let fewer : length told ≤ 1 * length v.decisions =
    flat_le _ 1 v.decisions (λ (d : ℕ × Decision). one_answer d (owner_with d.0 owners)) in
    omega (arith, h, fewer, length-map told reply_with)

proposal_brief : (place : PlaceRecord) (client : ℕ) (line nonce : List ℕ) (t lo hi : ℕ) (drift : ℤ) (x : NodeState) → IsPlace place
    → IsBrief (made_by_proposal place client line nonce t lo hi drift x)
unfolding made_by_proposal
proposal_brief place client line nonce t lo hi drift x h =
    let owners = x.owners ++ next_owner client line nonce x ∷ [] in
    let began = Some (next_beginning place t lo hi x) in
    let v = propose place t lo hi drift x.content x.voter in
    cond_both (nat_lt x.voter.seq (2 ^ 62)) (made_by_vote owners began v x) (quiet_made (stopped_node x)) IsBrief
    (λ _. vote_brief x owners began v (propose_few place t lo hi drift x.content x.voter h))
    (λ _. omega arith)

ruling_brief : (place : PlaceRecord) (client moment : ℕ) (line : List ℕ) (r : Ruling) (x : NodeState) → IsPlace place
    → IsBrief (made_by_ruling place client moment line r x)
unfolding made_by_ruling
ruling_brief place client moment line Outside x h = omega arith
ruling_brief place client moment line (Again text) x h = omega arith
ruling_brief place client moment line Waiting x h = omega arith
ruling_brief place client moment line (Denied nonce reason) x h = omega arith
ruling_brief place client moment line (Wrong nonce reason token) x h = omega arith
ruling_brief place client moment line (Fitting nonce token span drift) x h = proposal_brief place client line nonce token span.lo span.hi drift x h

datagram_brief : (config : Config) (place : PlaceRecord) (from : ℕ) (read : Option Envelope) (x : NodeState) → IsBrief (made_by_datagram config place from read x)
unfolding made_by_datagram
datagram_brief config place from None x = omega arith
datagram_brief config place from (Some l) x =
    cond_both (is_heard config place from l) (made_by_message place from l.message x) (quiet_made x) IsBrief
    (λ _. vote_brief x x.owners None (on_message place from l.message x.content x.voter) (message_few place from l.message x.content x.voter)) (λ _. omega arith)

running_brief : (config : Config) (place : PlaceRecord) (event : NodeEvent) (x : NodeState) → IsPlace place → length x.voter.pending ≤ 32
    → IsBrief (made_while_running config place event x)
unfolding made_while_running
running_brief config place (Client client moment text) x h few = ruling_brief place client moment (without_lf text) (ruling_at config x client moment text) x h
running_brief config place (Peer from read) x h few = datagram_brief config place from read x
running_brief config place Tick x h few = vote_brief x x.owners None (tick place x.content x.voter) (tick_few place x.content x.voter h few)

event_brief : (config : Config) (place : PlaceRecord) (event : NodeEvent) (x : NodeState) → IsPlace place → length x.voter.pending ≤ 32
    → IsBrief (made_by_event config place event x)
unfolding made_by_event
event_brief config place event x h few =
    cond_both x.running (made_while_running config place event x) (quiet_made x) IsBrief (λ _. running_brief config place event x h few) (λ _. omega arith)

pub outputs_few : (key : List ℕ) (config : Config) (place : PlaceRecord) (x : NodeState) (event : NodeEvent) → IsPlace place → length x.voter.pending ≤ 32
    → length (outputs_of key place (made_by_event config place event x)).items ≤ 264
outputs_few key config place x event h few =
    let m = made_by_event config place event x in
    omega (
      arith,
      length-append (map (datagram_item key place.me) m.sends) (map reply_item m.replies),
      length-map m.sends (datagram_item key place.me),
      length-map m.replies reply_item,
      event_brief config place event x h few,
    )

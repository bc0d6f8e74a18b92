-- The parts that are offered to the port below are the offers of the node, in order.
use Rattle.std.proofs.Common.{◌≡◌, ◌≢◌, ℕ, zero, suc, ◌+◌, ◌-◌, ◌<◌, ◌≤◌, Bool, true, false, cond, eqb, leb, List, [], ◌∷◌, ◌++◌, get_or, Option, Some, None, is_some, refl, sym, ap, subst, ◌∙◌, arith, append_assoc, append-nil, true≢false, inl, inr, get_or-set_other, get_or-set_same}
use Rattle.std.specs.Prelude.{◌⊎◌, ◌&&◌, unwrap_or}
use Rattle.std.proofs.lemmas.Bool.{and_parts, eq-eqb, eqb-false, eqb-true, leb-false, ne_eqb}
use Rattle.datagram_port.specs.Port.{PortEvent, Received, Quiet, Faulted, Offered}
use Rattle.datagram_port.specs.declared.port.Sender.TheVariants.{Client, Peer}
use Rattle.bundle_port.specs.Bundle.{bundle_bytes, is_bundle, is_part, parts_at, parts_or_itself}
use Rattle.bundle_port.specs.Bundler.{BundlerRecord, LaneRecord, after_flush, after_offer, flush_offers, goes_at_once, has_room, is_member, lane_after, lane_offers, lanes_after, member_offers, new_bundler, new_lane, offers_at, offers_from, parts_after, parts_kept, parts_offer, room_offers, waiting_for}
use Rattle.bundle_port.specs.Promises.{Among, all_offered, own_of, own_offers, parts_offered}
use Rattle.bundle_port.specs.Runs.{Call, Flush, Left, Offer, Polls, Waits, after, after_calls, below, below_events, may_call, may_make}
use Rattle.bundle_port.proofs.FormatLemmas.{read_parts}
use Rattle.bundle_port.proofs.LaneLemmas.{HasLanes, IsLane, IsRow, lane_for, lane_of_member, lane_of_others, lanes_at_start, lanes_one, none_after_wait, none_at_start, none_waits, number_of, past_lanes, same_lanes}

abbrev Parts : Type 0
Parts = List (List ℕ)

-- ---- lists of events

offered_append : (member : ℕ) (first second : List PortEvent) → all_offered member (first ++ second) ≡ all_offered member first ++ all_offered member second
offered_append member [] second = refl
offered_append member (event ∷ first) second =
    ap (λ (l : Parts). parts_offered member event ++ l) (offered_append member first second)
    ∙ sym (append_assoc (parts_offered member event) (all_offered member first) (all_offered member second))

-- ---- offers to the member and to others

-- no offer to the member is a bundle
abbrev ArePlain : List Call → ℕ → Type 0
ArePlain all member = (bytes : List ℕ) → Among all (Offer (Peer member) bytes) → is_bundle bytes ≡ false

plain_itself : (bytes : List ℕ) → is_bundle bytes ≡ false → parts_or_itself bytes ≡ bytes ∷ []
plain_itself bytes plain = go (parts_at bytes) plain
  where
    go : (o : Option (List (List ℕ))) → is_some o ≡ false → unwrap_or o (bytes ∷ []) ≡ bytes ∷ []
    go None e = refl
    go (Some parts) e = absurd (true≢false e)

abbrev when_same : Parts → Bool → Parts
when_same parts same = cond same parts []

-- an offer to the member
one_same : (member number : ℕ) (bytes : List ℕ) → number ≡ member → parts_offered member (Offered (Peer number) bytes) ≡ parts_or_itself bytes
one_same member number bytes is = ap (when_same (parts_or_itself bytes)) (eq-eqb number member is)

-- an offer to another member
one_other : (member number : ℕ) (bytes : List ℕ) → number ≢ member → parts_offered member (Offered (Peer number) bytes) ≡ []
one_other member number bytes is = ap (when_same (parts_or_itself bytes)) (ne_eqb number member is)

-- an offer to the member that is no bundle
one_plain : (member : ℕ) (bytes : List ℕ) → is_bundle bytes ≡ false → all_offered member (Offered (Peer member) bytes ∷ []) ≡ bytes ∷ []
one_plain member bytes plain =
    append-nil (parts_offered member (Offered (Peer member) bytes)) ∙ one_same member member bytes refl ∙ plain_itself bytes plain

-- ---- what waited

row_sent : (all : List Call) (member : ℕ) (parts : List (List ℕ)) → IsRow all member parts → ArePlain all member → all_offered member (parts_offer member parts) ≡ parts
row_sent all member [] row plain = refl
row_sent all member (part ∷ []) row plain = one_plain member part (plain part (row.own part (inl refl)))
row_sent all member (part ∷ next ∷ parts) row plain =
    let joined = part ∷ next ∷ parts in
    append-nil (parts_offered member (Offered (Peer member) (bundle_bytes joined)))
    ∙ one_same member member (bundle_bytes joined) refl
    ∙ ap (λ (o : Option (List (List ℕ))). unwrap_or o (bundle_bytes joined ∷ [])) (read_parts joined row.are (omega arith) row.fits)

row_other : (member number : ℕ) (parts : List (List ℕ)) → number ≢ member → all_offered member (parts_offer number parts) ≡ []
row_other member number [] is = refl
row_other member number (part ∷ []) is = append-nil (parts_offered member (Offered (Peer number) part)) ∙ one_other member number part is
row_other member number (part ∷ next ∷ parts) is =
    append-nil (parts_offered member (Offered (Peer number) (bundle_bytes (part ∷ next ∷ parts)))) ∙ one_other member number (bundle_bytes (part ∷ next ∷ parts)) is

-- no lane is the member's
lanes_before : (member first : ℕ) (lanes : List LaneRecord) → member < first → all_offered member (offers_from first lanes) ≡ []
lanes_before member first [] h = refl
lanes_before member first (lane ∷ lanes) h =
    offered_append member (parts_offer first lane.parts) (offers_from (first + 1) lanes)
    ∙ ap (λ (l : Parts). l ++ all_offered member (offers_from (first + 1) lanes)) (row_other member first lane.parts (λ e. omega arith))
    ∙ lanes_before member (first + 1) lanes (omega arith)

-- the lane at a place is the member's
lanes_sent : (all : List Call) (member first k : ℕ) (lanes : List LaneRecord) → member ≡ first + k → IsRow all member (get_or lanes k new_lane).parts → ArePlain all member
    → all_offered member (offers_from first lanes) ≡ (get_or lanes k new_lane).parts
lanes_sent all member first k [] e row plain = refl
lanes_sent all member first zero (lane ∷ lanes) e row plain =
    let same : first ≡ member = omega arith in
    offered_append member (parts_offer first lane.parts) (offers_from (first + 1) lanes)
    ∙ ap (λ (l : Parts). all_offered member (parts_offer first lane.parts) ++ l) (lanes_before member (first + 1) lanes (omega arith))
    ∙ append-nil (all_offered member (parts_offer first lane.parts))
    ∙ ap (λ (n : ℕ). all_offered member (parts_offer n lane.parts)) same
    ∙ row_sent all member lane.parts row plain
lanes_sent all member first (suc k) (lane ∷ lanes) e row plain =
    offered_append member (parts_offer first lane.parts) (offers_from (first + 1) lanes)
    ∙ ap (λ (l : Parts). l ++ all_offered member (offers_from (first + 1) lanes)) (row_other member first lane.parts (λ d. omega arith))
    ∙ lanes_sent all member (first + 1) k lanes (omega arith) row plain

-- ---- the parts that wait for a member

-- the lane of a member is that at its place, and nothing waits for a member without a lane
waiting_is : (all : List Call) (b : BundlerRecord) (member : ℕ) → 1 ≤ member → HasLanes all b → waiting_for b member ≡ (get_or b.lanes (member - 1) new_lane).parts
waiting_is all b member low has = go (is_member member) refl
  where
    past : (one : Bool) → leb 1 member ≡ one → (one && leb member 9) ≡ false → 9 ≤ member - 1
    past false at e = absurd (let h = leb-false 1 member at in omega (arith, low, h))
    past true at e = let h = leb-false member 9 e in omega arith

    high : is_member member ≡ false → 9 ≤ member - 1
    high e = past (leb 1 member) refl e

    go : (is : Bool) → is_member member ≡ is → waiting_for b member ≡ (get_or b.lanes (member - 1) new_lane).parts
    go true e = lane_of_member b member e
    go false e =
        let far = high e in
        let count = has.count in
        lane_of_others b member e ∙ sym (ap (λ (l : LaneRecord). l.parts) (past_lanes b.lanes (member - 1) (omega arith)))

-- all that waited is offered
flush_sent : (all : List Call) (b : BundlerRecord) (member : ℕ) → HasLanes all b → ArePlain all member → all_offered member (flush_offers b) ≡ waiting_for b member
flush_sent all b zero has plain = lanes_before 0 1 b.lanes (omega arith)
flush_sent all b (suc k) has plain =
    let low : 1 ≤ suc k = omega arith in
    let same : 1 + (suc k - 1) ≡ suc k = omega arith in
    let row = subst (λ (m : ℕ). IsRow all m (get_or b.lanes (suc k - 1) new_lane).parts) same (has.lane (suc k - 1)).row in
    lanes_sent all (suc k) 1 (suc k - 1) b.lanes (sym same) row plain ∙ sym (waiting_is all b (suc k) low has)

-- nothing waits then
flush_none : (b : BundlerRecord) (member : ℕ) → waiting_for (after_flush b) member ≡ []
flush_none b member = go (is_member member)
  where
    go : (is : Bool) → cond is (get_or (after_flush b).lanes (member - 1) new_lane).parts [] ≡ []
    go true = none_after_wait b.lanes (member - 1)
    go false = refl

-- ---- one call

abbrev IsSent : ℕ → BundlerRecord → Call → Type 0
IsSent member b call = all_offered member (below b call) ++ waiting_for (after b call) member ≡ waiting_for b member ++ own_of member call

waiting_same : (b u : BundlerRecord) (member : ℕ) → u.lanes ≡ b.lanes → waiting_for u member ≡ waiting_for b member
waiting_same b u member e = ap (λ (l : List LaneRecord). cond (is_member member) (get_or l (member - 1) new_lane).parts []) e

-- an event that the port below received is no offer
event_none : (member : ℕ) (b : BundlerRecord) (event : PortEvent) → (may_call b (Waits event) ≡ true) ⊎ (may_call b (Polls event) ≡ true) → all_offered member (event ∷ []) ≡ []
event_none member b (Received sender bytes) may = refl
event_none member b Quiet may = refl
event_none member b Faulted may = refl
event_none member b (Offered to bytes) (inl may) = absurd (true≢false (sym may))
event_none member b (Offered to bytes) (inr may) = absurd (true≢false (sym may))

-- the offers to a member for an offer to it
member_sent : (all : List Call) (member : ℕ) (parts : List (List ℕ)) (bytes : List ℕ) → IsRow all member parts → ArePlain all member → is_bundle bytes ≡ false
    → all_offered member (member_offers member parts bytes) ++ parts_after parts bytes ≡ parts ++ bytes ∷ []
member_sent all member parts bytes row plain one = by_part (is_part bytes)
  where
    by_room : (room : Bool) → all_offered member (cond room [] (parts_offer member parts)) ++ (cond room parts [] ++ bytes ∷ []) ≡ parts ++ bytes ∷ []
    by_room true = refl
    by_room false = ap (λ (l : Parts). l ++ bytes ∷ []) (row_sent all member parts row plain)

    by_part : (part : Bool)
        → all_offered member (cond part (room_offers member parts bytes) (parts_offer member parts ++ Offered (Peer member) bytes ∷ [])) ++ cond part (parts_kept parts bytes ++ bytes ∷ []) []
        ≡ parts ++ bytes ∷ []
    by_part true = by_room (has_room parts bytes)
    by_part false =
        append-nil (all_offered member (parts_offer member parts ++ Offered (Peer member) bytes ∷ []))
        ∙ offered_append member (parts_offer member parts) (Offered (Peer member) bytes ∷ [])
        ∙ ap (λ (l : Parts). l ++ all_offered member (Offered (Peer member) bytes ∷ [])) (row_sent all member parts row plain)
        ∙ ap (λ (l : Parts). parts ++ l) (one_plain member bytes one)

-- a datagram that is sent at once comes after nothing that waits
lane_sent : (all : List Call) (member : ℕ) (lane : LaneRecord) (bytes : List ℕ) → IsLane all member lane → ArePlain all member → is_bundle bytes ≡ false
    → all_offered member (lane_offers member lane bytes) ++ (lane_after lane bytes).parts ≡ lane.parts ++ bytes ∷ []
lane_sent all member lane bytes is plain one = go (goes_at_once lane bytes) refl
  where
    go : (at_once : Bool) → goes_at_once lane bytes ≡ at_once
        → all_offered member (cond at_once (Offered (Peer member) bytes ∷ []) (member_offers member lane.parts bytes)) ++ cond at_once lane.parts (parts_after lane.parts bytes)
        ≡ lane.parts ++ bytes ∷ []
    go true e =
        let none = none_waits all member lane bytes is e in
        let sent = all_offered member (Offered (Peer member) bytes ∷ []) in
        ap (λ (l : Parts). sent ++ l) none ∙ append-nil sent ∙ one_plain member bytes one ∙ sym (ap (λ (l : Parts). l ++ bytes ∷ []) none)
    go false e = member_sent all member lane.parts bytes is.row plain one

-- the offers to another member for an offer to it
member_other : (member number : ℕ) (parts : List (List ℕ)) (bytes : List ℕ) → number ≢ member → all_offered member (member_offers number parts bytes) ≡ []
member_other member number parts bytes is = by_part (is_part bytes)
  where
    by_room : (room : Bool) → all_offered member (cond room [] (parts_offer number parts)) ≡ []
    by_room true = refl
    by_room false = row_other member number parts is

    by_part : (part : Bool) → all_offered member (cond part (room_offers number parts bytes) (parts_offer number parts ++ Offered (Peer number) bytes ∷ [])) ≡ []
    by_part true = by_room (has_room parts bytes)
    by_part false =
        offered_append member (parts_offer number parts) (Offered (Peer number) bytes ∷ [])
        ∙ ap (λ (l : Parts). l ++ all_offered member (Offered (Peer number) bytes ∷ [])) (row_other member number parts is)
        ∙ append-nil (parts_offered member (Offered (Peer number) bytes)) ∙ one_other member number bytes is

lane_other : (member number : ℕ) (lane : LaneRecord) (bytes : List ℕ) → number ≢ member → all_offered member (lane_offers number lane bytes) ≡ []
lane_other member number lane bytes is = go (goes_at_once lane bytes)
  where
    go : (at_once : Bool) → all_offered member (cond at_once (Offered (Peer number) bytes ∷ []) (member_offers number lane.parts bytes)) ≡ []
    go true = append-nil (parts_offered member (Offered (Peer number) bytes)) ∙ one_other member number bytes is
    go false = member_other member number lane.parts bytes is

-- an offer to the member
offer_same : (all : List Call) (b : BundlerRecord) (member : ℕ) (bytes : List ℕ) → HasLanes all b → ArePlain all member → is_bundle bytes ≡ false
    → all_offered member (offers_at b (Peer member) bytes) ++ waiting_for (after_offer b (Peer member) bytes) member ≡ waiting_for b member ++ bytes ∷ []
offer_same all b member bytes has plain one = go (is_member member) refl
  where
    go : (is : Bool) → is_member member ≡ is
        → all_offered member (cond is (lane_offers member (get_or b.lanes (member - 1) new_lane) bytes) (Offered (Peer member) bytes ∷ []))
        ++ cond is (get_or (cond is (record b { lanes = lanes_after b.lanes member bytes }) b).lanes (member - 1) new_lane).parts []
        ≡ cond is (get_or b.lanes (member - 1) new_lane).parts [] ++ bytes ∷ []
    go true is =
        let n = number_of member is in
        let low = n.low in
        let high = n.high in
        let count = has.count in
        let lane = get_or b.lanes (member - 1) new_lane in
        ap (λ (l : LaneRecord). all_offered member (lane_offers member lane bytes) ++ l.parts) (get_or-set_same b.lanes (member - 1) (lane_after lane bytes) new_lane (omega arith))
        ∙ lane_sent all member lane bytes (lane_for all b member is has) plain one
    go false is = append-nil (all_offered member (Offered (Peer member) bytes ∷ [])) ∙ one_plain member bytes one

-- an offer to another member
offer_other : (b : BundlerRecord) (member number : ℕ) (bytes : List ℕ) → number ≢ member
    → all_offered member (offers_at b (Peer number) bytes) ++ waiting_for (after_offer b (Peer number) bytes) member ≡ waiting_for b member
offer_other b member number bytes other = go (is_member number) refl
  where
    -- the lanes of two members are at two places
    apart : is_member number ≡ true → 1 ≤ member → (member - 1) ≢ (number - 1)
    apart is low = let n = number_of number is in let first = n.low in (λ e. other (omega (arith, first, low, e)))

    waits : is_member number ≡ true → (is : Bool) → is_member member ≡ is
        → cond is (get_or (lanes_after b.lanes number bytes) (member - 1) new_lane).parts [] ≡ cond is (get_or b.lanes (member - 1) new_lane).parts []
    waits here true is =
        let n = number_of member is in
        ap (λ (l : LaneRecord). l.parts)
        (get_or-set_other b.lanes (number - 1) (member - 1) (lane_after (get_or b.lanes (number - 1) new_lane) bytes) new_lane (apart here n.low))
    waits here false is = refl

    go : (is : Bool) → is_member number ≡ is
        → all_offered member (cond is (lane_offers number (get_or b.lanes (number - 1) new_lane) bytes) (Offered (Peer number) bytes ∷ []))
        ++ cond (is_member member) (get_or (cond is (record b { lanes = lanes_after b.lanes number bytes }) b).lanes (member - 1) new_lane).parts []
        ≡ cond (is_member member) (get_or b.lanes (member - 1) new_lane).parts []
    go true is =
        ap (λ (l : Parts). l ++ cond (is_member member) (get_or (lanes_after b.lanes number bytes) (member - 1) new_lane).parts [])
        (lane_other member number (get_or b.lanes (number - 1) new_lane) bytes other)
        ∙ waits is (is_member member) refl
    go false is =
        ap (λ (l : Parts). l ++ cond (is_member member) (get_or b.lanes (member - 1) new_lane).parts [])
        (append-nil (parts_offered member (Offered (Peer number) bytes)) ∙ one_other member number bytes other)

sent_one : (all : List Call) (member : ℕ) (b : BundlerRecord) (call : Call) → may_call b call ≡ true → Among all call → HasLanes all b → ArePlain all member → IsSent member b call
sent_one all member b (Waits event) may made has plain =
    let w = waiting_for b member in
    let u = after b (Waits event) in
    ap (λ (l : Parts). l ++ waiting_for u member)
    (offered_append member (flush_offers b) (event ∷ [])
    ∙ ap (λ (l : Parts). all_offered member (flush_offers b) ++ l) (event_none member b event (inl may))
    ∙ append-nil (all_offered member (flush_offers b))
    ∙ flush_sent all b member has plain)
    ∙ ap (λ (l : Parts). w ++ l) (waiting_same (after_flush b) u member (same_lanes (after_flush b) event) ∙ flush_none b member)
sent_one all member b (Polls event) may made has plain =
    ap (λ (l : Parts). l ++ waiting_for (after b (Polls event)) member) (event_none member b event (inr may))
    ∙ waiting_same b (after b (Polls event)) member (same_lanes b event)
    ∙ sym (append-nil (waiting_for b member))
sent_one all member b Left may made has plain = sym (append-nil (waiting_for b member))
sent_one all member b (Offer (Client number) bytes) may made has plain = sym (append-nil (waiting_for b member))
sent_one all member b (Offer (Peer number) bytes) may made has plain = go (eqb number member) refl
  where
    go : (same : Bool) → eqb number member ≡ same
        → all_offered member (offers_at b (Peer number) bytes) ++ waiting_for (after_offer b (Peer number) bytes) member ≡ waiting_for b member ++ cond same (bytes ∷ []) []
    go true e =
        let is = eqb-true number member e in
        subst (λ (n : ℕ). all_offered member (offers_at b (Peer n) bytes) ++ waiting_for (after_offer b (Peer n) bytes) member ≡ waiting_for b member ++ bytes ∷ []) (sym is)
        (offer_same all b member bytes has plain (plain bytes (subst (λ (n : ℕ). Among all (Offer (Peer n) bytes)) is made)))
    go false e = offer_other b member number bytes (eqb-false number member e) ∙ sym (append-nil (waiting_for b member))
sent_one all member b Flush may made has plain =
    ap (λ (l : Parts). l ++ waiting_for (after_flush b) member) (flush_sent all b member has plain)
    ∙ ap (λ (l : Parts). waiting_for b member ++ l) (flush_none b member)

-- ---- all calls

sent_over : (all : List Call) (member : ℕ) (b : BundlerRecord) (calls : List Call) → ((call : Call) → Among calls call → Among all call) → may_make b calls ≡ true → HasLanes all b → ArePlain all member
    → all_offered member (below_events b calls) ++ waiting_for (after_calls b calls) member ≡ waiting_for b member ++ own_offers member calls
sent_over all member b [] made may has plain = sym (append-nil (waiting_for b member))
sent_over all member b (call ∷ calls) made may has plain =
    let u = after b call in
    let both = and_parts (may_call b call) (may_make u calls) may in
    let here = made call (inl refl) in
    let one = all_offered member (below b call) in
    let last = waiting_for (after_calls u calls) member in
    ap (λ (l : Parts). l ++ last) (offered_append member (below b call) (below_events u calls))
    ∙ append_assoc one (all_offered member (below_events u calls)) last
    ∙ ap (λ (l : Parts). one ++ l) (sent_over all member u calls (λ c a. made c (inr a)) both.1 (lanes_one all b call here has) plain)
    ∙ sym (append_assoc one (waiting_for u member) (own_offers member calls))
    ∙ ap (λ (l : Parts). l ++ own_offers member calls) (sent_one all member b call both.0 here has plain)
    ∙ append_assoc (waiting_for b member) (own_of member call) (own_offers member calls)

start_none : (member : ℕ) → waiting_for new_bundler member ≡ []
start_none member = go (is_member member)
  where
    go : (is : Bool) → cond is (get_or new_bundler.lanes (member - 1) new_lane).parts [] ≡ []
    go true = ap (λ (l : LaneRecord). l.parts) (none_at_start (member - 1))
    go false = refl

pub sent_law : (member : ℕ) (calls : List Call) → may_make new_bundler calls ≡ true → ((bytes : List ℕ) → Among calls (Offer (Peer member) bytes) → is_bundle bytes ≡ false)
    → all_offered member (below_events new_bundler calls) ++ waiting_for (after_calls new_bundler calls) member ≡ own_offers member calls
sent_law member calls may plain =
    sent_over calls member new_bundler calls (λ call a. a) may (lanes_at_start calls) plain
    ∙ ap (λ (l : Parts). l ++ own_offers member calls) (start_none member)

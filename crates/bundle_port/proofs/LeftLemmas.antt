-- The parts that are handed in are those that came, in order.
use Rattle.std.proofs.Common.{◌≡◌, ℕ, ◌+◌, ◌-◌, ◌≤◌, Bool, true, false, cond, eqb, List, [], ◌∷◌, ◌++◌, length, drop, slice_index_or, Option, Some, None, refl, sym, ap, ◌∙◌, arith, append_assoc, append-nil, true≢false}
use Rattle.std.proofs.lemmas.Bool.{and_parts, eqb-true, leb-true}
use Rattle.std.specs.Prelude.{unwrap_or}
use Rattle.datagram_port.specs.Port.{PortEvent, Received, Quiet, Faulted, Offered}
use Rattle.datagram_port.specs.declared.port.Sender.{Sender}
use Rattle.datagram_port.specs.declared.port.Sender.TheVariants.{Client, Peer}
use Rattle.bundle_port.specs.Bundle.{is_part, parts_at}
use Rattle.bundle_port.specs.Bundler.{BundlerRecord, LaneRecord, LeftRecord, after_datagram, after_event, after_flush, datagram_of, first_or_itself, first_part, flush_offers, goes_at_once, handed_in, has_room, is_member, lane_offers, member_offers, new_bundler, new_lane, offer_of, offers_at, offers_from, parts_offer, room_offers}
use Rattle.bundle_port.specs.Promises.{all_received, datagram_from, datagrams_from, left_from, parts_received}
use Rattle.bundle_port.specs.Runs.{Call, Flush, Left, Offer, Polls, Waits, after, after_calls, below, below_events, handed, handed_events, is_none_left, may_call, may_make}
use Rattle.bundle_port.proofs.HandLemmas.{have_one, left_offer}

-- ---- offers are not received

received_append : (member : ℕ) (first second : List PortEvent) → all_received member (first ++ second) ≡ all_received member first ++ all_received member second
received_append member [] second = refl
received_append member (event ∷ first) second =
    ap (λ (l : List (List ℕ)). parts_received member event ++ l) (received_append member first second)
    ∙ sym (append_assoc (parts_received member event) (all_received member first) (all_received member second))

none_of_offer : (member number : ℕ) (o : Option (List ℕ)) → all_received member (offer_of number o) ≡ []
none_of_offer member number None = refl
none_of_offer member number (Some bytes) = refl

none_of_parts : (member number : ℕ) (parts : List (List ℕ)) → all_received member (parts_offer number parts) ≡ []
none_of_parts member number parts = none_of_offer member number (datagram_of parts)

none_of_lanes : (member first : ℕ) (lanes : List LaneRecord) → all_received member (offers_from first lanes) ≡ []
none_of_lanes member first [] = refl
none_of_lanes member first (lane ∷ lanes) =
    received_append member (parts_offer first lane.parts) (offers_from (first + 1) lanes)
    ∙ ap (λ (l : List (List ℕ)). l ++ all_received member (offers_from (first + 1) lanes)) (none_of_parts member first lane.parts)
    ∙ none_of_lanes member (first + 1) lanes

none_of_member : (member number : ℕ) (parts : List (List ℕ)) (bytes : List ℕ) → all_received member (member_offers number parts bytes) ≡ []
none_of_member member number parts bytes = by_part (is_part bytes)
  where
    by_room : (room : Bool) → all_received member (cond room [] (parts_offer number parts)) ≡ []
    by_room true = refl
    by_room false = none_of_parts member number parts

    by_part : (part : Bool) → all_received member (cond part (room_offers number parts bytes) (parts_offer number parts ++ Offered (Peer number) bytes ∷ [])) ≡ []
    by_part true = by_room (has_room parts bytes)
    by_part false =
        received_append member (parts_offer number parts) (Offered (Peer number) bytes ∷ [])
        ∙ ap (λ (l : List (List ℕ)). l ++ []) (none_of_parts member number parts)

none_of_lane : (member number : ℕ) (lane : LaneRecord) (bytes : List ℕ) → all_received member (lane_offers number lane bytes) ≡ []
none_of_lane member number lane bytes = go (goes_at_once lane bytes)
  where
    go : (at_once : Bool) → all_received member (cond at_once (Offered (Peer number) bytes ∷ []) (member_offers number lane.parts bytes)) ≡ []
    go true = refl
    go false = none_of_member member number lane.parts bytes

none_of_offers : (member : ℕ) (b : BundlerRecord) (to : Sender) (bytes : List ℕ) → all_received member (offers_at b to bytes) ≡ []
none_of_offers member b (Client number) bytes = refl
none_of_offers member b (Peer number) bytes = go (is_member number)
  where
    go : (is : Bool) → all_received member (cond is (lane_offers number (slice_index_or b.lanes (number - 1) new_lane) bytes) (Offered (Peer number) bytes ∷ [])) ≡ []
    go true = none_of_lane member number (slice_index_or b.lanes (number - 1) new_lane) bytes
    go false = refl

datagrams_append : (member : ℕ) (first second : List PortEvent) → datagrams_from member (first ++ second) ≡ datagrams_from member first ++ datagrams_from member second
datagrams_append member [] second = refl
datagrams_append member (event ∷ first) second =
    ap (λ (l : List (List ℕ)). datagram_from member event ++ l) (datagrams_append member first second)
    ∙ sym (append_assoc (datagram_from member event) (datagrams_from member first) (datagrams_from member second))

-- ---- one call

-- the parts that are left of a member
abbrev left_of : ℕ → LeftRecord → List (List ℕ)
left_of member left = cond (eqb left.from member) left.parts []

abbrev IsHanded : ℕ → BundlerRecord → Call → Type 0
IsHanded member b call =
    datagrams_from member (handed b call) ++ left_from (after b call) member ≡ left_from b member ++ all_received member (below b call)

none : (parts : List (List ℕ)) → eqb (length parts) 0 ≡ true → parts ≡ []
none [] e = refl
none (part ∷ parts) e = absurd (let h = eqb-true (length (part ∷ parts)) 0 e in omega (arith, h))

nothing_left : (b : BundlerRecord) (member : ℕ) → is_none_left b ≡ true → left_from b member ≡ []
nothing_left b member e = go (eqb b.left.from member)
  where
    go : (is : Bool) → cond is b.left.parts [] ≡ []
    go true = none b.left.parts e
    go false = refl

first_and_rest : (parts : List (List ℕ)) → 1 ≤ length parts → first_part parts ∷ drop 1 parts ≡ parts
first_and_rest [] h = absurd (omega arith)
first_and_rest (part ∷ parts) h = refl

-- a datagram of a member, when nothing was left
handed_datagram : (member : ℕ) (b : BundlerRecord) (number : ℕ) (bytes : List ℕ) (o : Option (List (List ℕ))) → parts_at bytes ≡ o → left_from b member ≡ []
    → cond (eqb number member) (first_or_itself o bytes ∷ []) [] ++ left_from (after_datagram b number o) member ≡ cond (eqb number member) (unwrap_or o (bytes ∷ [])) []
handed_datagram member b number bytes None e before =
    ap (λ (l : List (List ℕ)). cond (eqb number member) (bytes ∷ []) [] ++ l) before ∙ append-nil (cond (eqb number member) (bytes ∷ []) [])
handed_datagram member b number bytes (Some parts) e before = go (eqb number member)
  where
    go : (is : Bool) → cond is (first_part parts ∷ []) [] ++ cond is (drop 1 parts) [] ≡ cond is parts []
    go true = first_and_rest parts (have_one bytes parts e)
    go false = refl

-- an event of the port below, when nothing was left
handed_event : (member : ℕ) (b : BundlerRecord) (event : PortEvent) → left_from b member ≡ []
    → datagram_from member (handed_in event) ++ left_from (after_event b event) member ≡ parts_received member event ++ []
handed_event member b (Received (Peer number) bytes) before =
    handed_datagram member b number bytes (parts_at bytes) refl before
    ∙ sym (append-nil (cond (eqb number member) (unwrap_or (parts_at bytes) (bytes ∷ [])) []))
handed_event member b (Received (Client number) bytes) before = before
handed_event member b Quiet before = before
handed_event member b Faulted before = before
handed_event member b (Offered to bytes) before = before

-- a receive or a poll is made only if nothing is left
none_at_waits : (b : BundlerRecord) (event : PortEvent) → may_call b (Waits event) ≡ true → is_none_left b ≡ true
none_at_waits b (Received sender bytes) may = may
none_at_waits b Quiet may = may
none_at_waits b Faulted may = may
none_at_waits b (Offered to bytes) may = absurd (true≢false (sym may))

none_at_polls : (b : BundlerRecord) (event : PortEvent) → may_call b (Polls event) ≡ true → is_none_left b ≡ true
none_at_polls b (Received sender bytes) may = may
none_at_polls b Quiet may = absurd (true≢false (sym may))
none_at_polls b Faulted may = may
none_at_polls b (Offered to bytes) may = absurd (true≢false (sym may))

-- the datagrams of one event
one_datagram : (member : ℕ) (event : PortEvent) (rest : List (List ℕ)) → datagrams_from member (event ∷ []) ++ rest ≡ datagram_from member event ++ rest
one_datagram member event rest = ap (λ (l : List (List ℕ)). l ++ rest) (append-nil (datagram_from member event))

handed_one : (member : ℕ) (b : BundlerRecord) (call : Call) → may_call b call ≡ true → IsHanded member b call
handed_one member b (Waits event) may =
    let before = nothing_left b member (none_at_waits b event may) in
    one_datagram member (handed_in event) (left_from (after b (Waits event)) member)
    ∙ handed_event member (after_flush b) event before
    ∙ sym (ap (λ (l : List (List ℕ)). l ++ all_received member (flush_offers b ++ event ∷ [])) before
    ∙ received_append member (flush_offers b) (event ∷ [])
    ∙ ap (λ (l : List (List ℕ)). l ++ (parts_received member event ++ [])) (none_of_lanes member 1 b.lanes))
handed_one member b (Polls event) may =
    let before = nothing_left b member (none_at_polls b event may) in
    one_datagram member (handed_in event) (left_from (after b (Polls event)) member)
    ∙ handed_event member b event before ∙ sym (ap (λ (l : List (List ℕ)). l ++ (parts_received member event ++ [])) before)
handed_one member b Left may =
    one_datagram member (Received (Peer b.left.from) (first_part b.left.parts)) (left_from (after b Left) member)
    ∙ go (eqb b.left.from member) ∙ sym (append-nil (left_from b member))
  where
    go : (is : Bool) → cond is (first_part b.left.parts ∷ []) [] ++ cond is (drop 1 b.left.parts) [] ≡ cond is b.left.parts []
    go true = first_and_rest b.left.parts (leb-true 1 (length b.left.parts) may)
    go false = refl
handed_one member b (Offer to bytes) may =
    ap (left_of member) (left_offer b to bytes)
    ∙ sym (ap (λ (l : List (List ℕ)). left_from b member ++ l) (none_of_offers member b to bytes) ∙ append-nil (left_from b member))
handed_one member b Flush may =
    sym (ap (λ (l : List (List ℕ)). left_from b member ++ l) (none_of_lanes member 1 b.lanes) ∙ append-nil (left_from b member))

-- ---- all calls

handed_over : (member : ℕ) (b : BundlerRecord) (calls : List Call) → may_make b calls ≡ true
    → datagrams_from member (handed_events b calls) ++ left_from (after_calls b calls) member ≡ left_from b member ++ all_received member (below_events b calls)
handed_over member b [] may = sym (append-nil (left_from b member))
handed_over member b (call ∷ calls) may =
    let u = after b call in
    let both = and_parts (may_call b call) (may_make u calls) may in
    let one = datagrams_from member (handed b call) in
    ap (λ (l : List (List ℕ)). l ++ left_from (after_calls u calls) member) (datagrams_append member (handed b call) (handed_events u calls))
    ∙ append_assoc one (datagrams_from member (handed_events u calls)) (left_from (after_calls u calls) member)
    ∙ ap (λ (l : List (List ℕ)). one ++ l) (handed_over member u calls both.1)
    ∙ sym (append_assoc one (left_from u member) (all_received member (below_events u calls)))
    ∙ ap (λ (l : List (List ℕ)). l ++ all_received member (below_events u calls)) (handed_one member b call both.0)
    ∙ append_assoc (left_from b member) (all_received member (below b call)) (all_received member (below_events u calls))
    ∙ ap (λ (l : List (List ℕ)). left_from b member ++ l) (sym (received_append member (below b call) (below_events u calls)))

nothing_at_start : (member : ℕ) → left_from new_bundler member ≡ []
nothing_at_start member = nothing_left new_bundler member refl

pub handed_law : (member : ℕ) (calls : List Call) → may_make new_bundler calls ≡ true
    → datagrams_from member (handed_events new_bundler calls) ++ left_from (after_calls new_bundler calls) member ≡ all_received member (below_events new_bundler calls)
handed_law member calls may =
    handed_over member new_bundler calls may ∙ ap (λ (l : List (List ℕ)). l ++ all_received member (below_events new_bundler calls)) (nothing_at_start member)

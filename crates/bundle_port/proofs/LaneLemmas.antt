-- The parts that wait in a member's lane are offers of the node, and none waits in a calm lane.
use Rattle.std.proofs.Common.{◌≡◌, ℕ, zero, suc, ◌+◌, ◌-◌, ◌<◌, ◌≤◌, Bool, true, false, cond, eqb, leb, List, [], ◌∷◌, ◌++◌, length, map, get_or, Option, Some, None, refl, sym, ap, subst, ◌∙◌, arith, length-append, inl, inr, get_or-set_other, get_or-set_same}
use Rattle.std.specs.Prelude.{◌⊎◌, ◌&&◌, replicate, slice_index_or, slice_set}
use Rattle.std.proofs.lemmas.Bool.{and_parts, eqb-false, eqb-true, leb-true}
use Rattle.std.proofs.lemmas.List.{length-set}
use Rattle.datagram_port.specs.Port.{PortEvent, Received, Quiet, Faulted, Offered}
use Rattle.datagram_port.specs.declared.port.Sender.TheVariants.{Client, Peer}
use Rattle.bundle_port.specs.Bundle.{bundle_bytes, is_part, parts_at, parts_bytes}
use Rattle.bundle_port.specs.Bundler.{BundlerRecord, LaneRecord, after_datagram, after_event, after_flush, after_wait, calm_waits, goes_at_once, has_room, is_calm, is_member, lane_after, lanes_after, new_bundler, new_lane, one_more, parts_after, parts_kept, waiting_for}
use Rattle.bundle_port.specs.Promises.{Among, are_parts}
use Rattle.bundle_port.specs.Runs.{Call, Flush, Left, Offer, Polls, Waits, after}

-- ---- lanes

-- the parts that wait for a member: offers of the node to it, whose bundle fits a datagram
pub record IsRow (all : List Call) (member : ℕ) (parts : List (List ℕ)) : Type 0 where
  pub are : are_parts parts ≡ true
  pub fits : length (bundle_bytes parts) ≤ 512
  pub own : (part : List ℕ) → Among parts part → Among all (Offer (Peer member) part)

-- a member's lane: nothing waits if nothing was offered since the last wait
pub record IsLane (all : List Call) (member : ℕ) (lane : LaneRecord) : Type 0 where
  pub row : IsRow all member lane.parts
  pub none : lane.offered ≡ 0 → lane.parts ≡ []

-- a bundler with a lane for each member
pub record HasLanes (all : List Call) (b : BundlerRecord) : Type 0 where
  pub count : length b.lanes ≡ 9
  pub lane : (k : ℕ) → IsLane all (1 + k) (get_or b.lanes k new_lane)

empty_row : (all : List Call) (member : ℕ) → IsRow all member []
empty_row all member = record { are = refl; fits = omega arith; own = λ part h. absurd h }

-- a lane in which nothing waits
empty_lane : (all : List Call) (member offered calm : ℕ) → IsLane all member (record { parts = []; offered = offered; calm = calm })
empty_lane all member offered calm = record { row = empty_row all member; none = λ _. refl }

-- ---- members and lanes

-- the parts in the lane of a member, if it has one
abbrev when_member : BundlerRecord → ℕ → Bool → List (List ℕ)
when_member b member is = cond is (slice_index_or b.lanes (member - 1) new_lane).parts []

pub lane_of_member : (b : BundlerRecord) (member : ℕ) → is_member member ≡ true → waiting_for b member ≡ (get_or b.lanes (member - 1) new_lane).parts
lane_of_member b member is = ap (when_member b member) is

pub lane_of_others : (b : BundlerRecord) (member : ℕ) → is_member member ≡ false → waiting_for b member ≡ []
lane_of_others b member is = ap (when_member b member) is

pub past_lanes : (lanes : List LaneRecord) (k : ℕ) → length lanes ≤ k → get_or lanes k new_lane ≡ new_lane
past_lanes [] k h = refl
past_lanes (lane ∷ lanes) zero h = absurd (omega arith)
past_lanes (lane ∷ lanes) (suc k) h = past_lanes lanes k (omega arith)

-- a member's number from 1 to 9
pub record IsNumber (member : ℕ) : Type 0 where
  pub low : 1 ≤ member
  pub high : member ≤ 9

pub number_of : (member : ℕ) → is_member member ≡ true → IsNumber member
number_of member is =
    let both = and_parts (leb 1 member) (leb member 9) is in
    record { low = leb-true 1 member both.0; high = leb-true member 9 both.1 }

-- the lane of a member
pub lane_for : (all : List Call) (b : BundlerRecord) (member : ℕ) → is_member member ≡ true → HasLanes all b → IsLane all member (get_or b.lanes (member - 1) new_lane)
lane_for all b member is has =
    let n = number_of member is in
    let low = n.low in
    let same : 1 + (member - 1) ≡ member = omega arith in
    subst (λ (m : ℕ). IsLane all m (get_or b.lanes (member - 1) new_lane)) same (has.lane (member - 1))

-- nothing waits for a member if a datagram to it is sent at once
pub none_waits : (all : List Call) (member : ℕ) (lane : LaneRecord) (bytes : List ℕ) → IsLane all member lane → goes_at_once lane bytes ≡ true → lane.parts ≡ []
none_waits all member lane bytes is e =
    let calm = and_parts (is_calm lane) (is_part bytes) e in
    let both = and_parts (leb calm_waits lane.calm) (eqb lane.offered 0) calm.0 in
    is.none (eqb-true lane.offered 0 both.1)

-- ---- a lane after an offer

among_more : (parts : List (List ℕ)) (bytes part : List ℕ) → Among (parts ++ bytes ∷ []) part → Among parts part ⊎ (bytes ≡ part)
among_more [] bytes part (inl is) = inr is
among_more [] bytes part (inr h) = absurd h
among_more (first ∷ parts) bytes part (inl is) = inl (inl is)
among_more (first ∷ parts) bytes part (inr h) = go (among_more parts bytes part h)
  where
    go : Among parts part ⊎ (bytes ≡ part) → Among (first ∷ parts) part ⊎ (bytes ≡ part)
    go (inl a) = inl (inr a)
    go (inr is) = inr is

are_more : (parts : List (List ℕ)) (bytes : List ℕ) → are_parts parts ≡ true → is_part bytes ≡ true → are_parts (parts ++ bytes ∷ []) ≡ true
are_more [] bytes are is = ap (λ (x : Bool). x && true) is
are_more (part ∷ parts) bytes are is =
    let both = and_parts (is_part part) (are_parts parts) are in
    ap (λ (x : Bool). x && are_parts (parts ++ bytes ∷ [])) both.0 ∙ are_more parts bytes both.1 is

long_more : (parts : List (List ℕ)) (bytes : List ℕ) → length (parts_bytes (parts ++ bytes ∷ [])) ≡ length (parts_bytes parts) + 1 + length bytes
long_more [] bytes = let e = length-append (length bytes ∷ bytes) [] in omega (arith, e)
long_more (part ∷ parts) bytes =
    let one = length-append (length part ∷ part) (parts_bytes (parts ++ bytes ∷ [])) in
    let two = length-append (length part ∷ part) (parts_bytes parts) in
    let rest = long_more parts bytes in
    omega (arith, one, two, rest)

row_more : (all : List Call) (member : ℕ) (parts : List (List ℕ)) (bytes : List ℕ) → IsRow all member parts → Among all (Offer (Peer member) bytes) → is_part bytes ≡ true
    → length (bundle_bytes parts) + 1 + length bytes ≤ 512 → IsRow all member (parts ++ bytes ∷ [])
row_more all member parts bytes row made is room =
    let long = long_more parts bytes in
    record {
      are = are_more parts bytes row.are is;
      fits = omega (arith, long);
      own = λ part h. own part (among_more parts bytes part h);
    }
  where
    own : (part : List ℕ) → Among parts part ⊎ (bytes ≡ part) → Among all (Offer (Peer member) part)
    own part (inl a) = row.own part a
    own part (inr is) = subst (λ (p : List ℕ). Among all (Offer (Peer member) p)) is made

row_after : (all : List Call) (member : ℕ) (parts : List (List ℕ)) (bytes : List ℕ) → IsRow all member parts → Among all (Offer (Peer member) bytes) → IsRow all member (parts_after parts bytes)
row_after all member parts bytes row made = by_part (is_part bytes) refl
  where
    by_room : (room : Bool) → has_room parts bytes ≡ room → is_part bytes ≡ true → IsRow all member (cond room parts [] ++ bytes ∷ [])
    by_room true is part = row_more all member parts bytes row made part (leb-true (length (bundle_bytes parts) + 1 + length bytes) 512 is)
    by_room false is part =
        let short = leb-true (length bytes) 255 (and_parts (leb 32 (length bytes)) (leb (length bytes) 255) part).1 in
        row_more all member [] bytes (empty_row all member) made part (omega (arith, short))

    by_part : (part : Bool) → is_part bytes ≡ part → IsRow all member (cond part (parts_kept parts bytes ++ bytes ∷ []) [])
    by_part true is = by_room (has_room parts bytes) refl is
    by_part false is = empty_row all member

-- something was offered since the last wait
some_offered : (offered : ℕ) → one_more offered ≡ 0 → ⊥
some_offered offered = go (eqb offered 0)
  where
    count : Bool → ℕ
    count none = cond none 1 2

    go : (none : Bool) → count none ≡ 0 → ⊥
    go true e = omega (arith, e)
    go false e = omega (arith, e)

is_lane_after : (all : List Call) (member : ℕ) (lane : LaneRecord) (bytes : List ℕ) → IsLane all member lane → Among all (Offer (Peer member) bytes) → IsLane all member (lane_after lane bytes)
is_lane_after all member lane bytes is made = record { row = go (goes_at_once lane bytes); none = λ e. absurd (some_offered lane.offered e) }
  where
    go : (at_once : Bool) → IsRow all member (cond at_once lane.parts (parts_after lane.parts bytes))
    go true = is.row
    go false = row_after all member lane.parts bytes is.row made

-- ---- lanes after one call

-- nothing waits in a lane after a wait
pub none_after_wait : (lanes : List LaneRecord) (k : ℕ) → (get_or (map after_wait lanes) k new_lane).parts ≡ []
none_after_wait [] k = refl
none_after_wait (lane ∷ lanes) zero = refl
none_after_wait (lane ∷ lanes) (suc k) = none_after_wait lanes k

lanes_flush : (all : List Call) (b : BundlerRecord) → HasLanes all b → HasLanes all (after_flush b)
lanes_flush all b has = record {
  count = count b.lanes ∙ has.count;
  lane = λ k. record {
    row = subst (IsRow all (1 + k)) (sym (none_after_wait b.lanes k)) (empty_row all (1 + k));
    none = λ _. none_after_wait b.lanes k;
  };
}
  where
    count : (lanes : List LaneRecord) → length (map after_wait lanes) ≡ length lanes
    count [] = refl
    count (lane ∷ lanes) = ap suc (count lanes)

-- an event of the port below leaves the lanes
pub same_lanes : (b : BundlerRecord) (event : PortEvent) → (after_event b event).lanes ≡ b.lanes
same_lanes b (Received (Peer member) bytes) = go (parts_at bytes)
  where
    go : (o : Option (List (List ℕ))) → (after_datagram b member o).lanes ≡ b.lanes
    go None = refl
    go (Some parts) = refl
same_lanes b (Received (Client number) bytes) = refl
same_lanes b Quiet = refl
same_lanes b Faulted = refl
same_lanes b (Offered to bytes) = refl

lanes_with : (all : List Call) (b u : BundlerRecord) → u.lanes ≡ b.lanes → HasLanes all b → HasLanes all u
lanes_with all b u e has = record {
  count = ap length e ∙ has.count;
  lane = λ k. subst (λ (l : List LaneRecord). IsLane all (1 + k) (get_or l k new_lane)) (sym e) (has.lane k);
}

lane_with : (all : List Call) (b : BundlerRecord) (place : ℕ) (lane : LaneRecord) → place < length b.lanes → IsLane all (1 + place) lane → HasLanes all b
    → (k : ℕ) (same : Bool) → eqb k place ≡ same → IsLane all (1 + k) (get_or (slice_set b.lanes place lane) k new_lane)
lane_with all b place lane within new has k true e =
    let is = eqb-true k place e in
    subst (λ (n : ℕ). IsLane all (1 + n) (get_or (slice_set b.lanes place lane) n new_lane)) (sym is)
    (subst (IsLane all (1 + place)) (sym (get_or-set_same b.lanes place lane new_lane within)) new)
lane_with all b place lane within new has k false e =
    subst (IsLane all (1 + k)) (sym (get_or-set_other b.lanes place k lane new_lane (eqb-false k place e))) (has.lane k)

lanes_offer : (all : List Call) (b : BundlerRecord) (member : ℕ) (bytes : List ℕ) → is_member member ≡ true → Among all (Offer (Peer member) bytes) → HasLanes all b
    → HasLanes all (record b { lanes = lanes_after b.lanes member bytes })
lanes_offer all b member bytes is made has =
    let n = number_of member is in
    let low = n.low in
    let high = n.high in
    let count = has.count in
    let same : member ≡ 1 + (member - 1) = omega arith in
    let lane = lane_after (get_or b.lanes (member - 1) new_lane) bytes in
    let new = subst (λ (m : ℕ). IsLane all m lane) same (is_lane_after all member (get_or b.lanes (member - 1) new_lane) bytes (lane_for all b member is has) made) in
    record {
      count = length-set b.lanes (member - 1) lane ∙ count;
      lane = λ k. lane_with all b (member - 1) lane (omega arith) new has k (eqb k (member - 1)) refl;
    }

pub lanes_one : (all : List Call) (b : BundlerRecord) (call : Call) → Among all call → HasLanes all b → HasLanes all (after b call)
lanes_one all b (Waits event) made has = lanes_with all (after_flush b) (after_event (after_flush b) event) (same_lanes (after_flush b) event) (lanes_flush all b has)
lanes_one all b (Polls event) made has = lanes_with all b (after_event b event) (same_lanes b event) has
lanes_one all b Left made has = lanes_with all b (after b Left) refl has
lanes_one all b (Offer (Client number) bytes) made has = has
lanes_one all b (Offer (Peer member) bytes) made has = go (is_member member) refl
  where
    go : (is : Bool) → is_member member ≡ is → HasLanes all (cond is (record b { lanes = lanes_after b.lanes member bytes }) b)
    go true is = lanes_offer all b member bytes is made has
    go false is = has
lanes_one all b Flush made has = lanes_flush all b has

none_of : (n k : ℕ) → get_or (replicate n new_lane) k new_lane ≡ new_lane
none_of zero k = refl
none_of (suc n) zero = refl
none_of (suc n) (suc k) = none_of n k

-- nothing waits at the start
pub none_at_start : (k : ℕ) → get_or new_bundler.lanes k new_lane ≡ new_lane
none_at_start k = none_of 9 k

pub lanes_at_start : (all : List Call) → HasLanes all new_bundler
lanes_at_start all = record {
  count = refl;
  lane = λ k. subst (IsLane all (1 + k)) (sym (none_at_start k)) (empty_lane all (1 + k) 0 0);
}

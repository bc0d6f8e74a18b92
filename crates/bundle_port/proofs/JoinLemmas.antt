-- What is offered to the port below is an offer of the node, or a bundle of them.
use Rattle.std.proofs.Common.{◌≡◌, ℕ, suc, ◌+◌, ◌-◌, Bool, true, false, cond, List, [], ◌∷◌, ◌++◌, get_or, Some, refl, sym, subst, arith, true≢false, inl, inr}
use Rattle.std.specs.Prelude.{◌⊎◌}
use Rattle.std.proofs.lemmas.Bool.{and_parts}
use Rattle.datagram_port.specs.Port.{PortEvent, Received, Quiet, Faulted, Offered}
use Rattle.datagram_port.specs.declared.port.Sender.{Sender}
use Rattle.datagram_port.specs.declared.port.Sender.TheVariants.{Client, Peer}
use Rattle.bundle_port.specs.Bundle.{bundle_bytes, is_part, parts_at}
use Rattle.bundle_port.specs.Bundler.{BundlerRecord, LaneRecord, flush_offers, goes_at_once, has_room, is_member, lane_offers, member_offers, new_bundler, new_lane, offers_at, offers_from, parts_offer, room_offers}
use Rattle.bundle_port.specs.Promises.{Among, JoinsOffers}
use Rattle.bundle_port.specs.Runs.{Call, Flush, Left, Offer, Polls, Waits, after, below, below_events, may_call, may_make}
use Rattle.bundle_port.proofs.FormatLemmas.{read_parts}
use Rattle.bundle_port.proofs.HandLemmas.{among_either}
use Rattle.bundle_port.proofs.LaneLemmas.{HasLanes, IsLane, IsRow, lane_for, lanes_at_start, lanes_one}

-- an offer of the node, or a bundle of them
abbrev IsOwn : List Call → Sender → List ℕ → Type 0
IsOwn all to bytes = Among all (Offer to bytes) ⊎ JoinsOffers all to bytes

abbrev offered : Sender → List ℕ → PortEvent
offered to bytes = Offered to bytes

-- ---- what waited

own_parts : (all : List Call) (member : ℕ) (parts : List (List ℕ)) → IsRow all member parts → (to : Sender) (bytes : List ℕ) → Among (parts_offer member parts) (offered to bytes) → IsOwn all to bytes
own_parts all member [] row to bytes h = absurd h
own_parts all member (part ∷ []) row to bytes (inl is) =
    let to_is : Peer member ≡ to = cc in
    let bytes_are : part ≡ bytes = cc in
    inl (subst (λ (t : Sender). Among all (Offer t bytes)) to_is (subst (λ (l : List ℕ). Among all (Offer (Peer member) l)) bytes_are (row.own part (inl refl))))
own_parts all member (part ∷ []) row to bytes (inr h) = absurd h
own_parts all member (part ∷ next ∷ parts) row to bytes (inl is) =
    let joined = part ∷ next ∷ parts in
    let to_is : Peer member ≡ to = cc in
    let bytes_are : bundle_bytes joined ≡ bytes = cc in
    inr (record {
      member = member;
      to_is = sym to_is;
      parts = joined;
      parts_are = subst (λ (l : List ℕ). parts_at l ≡ Some joined) bytes_are (read_parts joined row.are (omega arith) row.fits);
      each = row.own;
    })
own_parts all member (part ∷ next ∷ parts) row to bytes (inr h) = absurd h

own_lanes : (all : List Call) (lanes : List LaneRecord) (first : ℕ) → ((k : ℕ) → IsLane all (first + k) (get_or lanes k new_lane)) → (to : Sender) (bytes : List ℕ)
    → Among (offers_from first lanes) (offered to bytes) → IsOwn all to bytes
own_lanes all [] first are to bytes h = absurd h
own_lanes all (lane ∷ lanes) first are to bytes h =
    go (among_either (parts_offer first lane.parts) (offers_from (first + 1) lanes) (offered to bytes) h) (own_lanes all lanes (first + 1) others to bytes)
  where
    others : (k : ℕ) → IsLane all (first + 1 + k) (get_or lanes k new_lane)
    others k = let next : first + suc k ≡ first + 1 + k = omega arith in subst (λ (m : ℕ). IsLane all m (get_or lanes k new_lane)) next (are (suc k))

    here : IsRow all first lane.parts
    here = let same : first + 0 ≡ first = omega arith in subst (λ (m : ℕ). IsRow all m lane.parts) same (are 0).row

    go : Among (parts_offer first lane.parts) (offered to bytes) ⊎ Among (offers_from (first + 1) lanes) (offered to bytes) → (Among (offers_from (first + 1) lanes) (offered to bytes) → IsOwn all to bytes)
        → IsOwn all to bytes
    go (inl a) rest = own_parts all first lane.parts here to bytes a
    go (inr a) rest = rest a

-- ---- an offer of the node

own_itself : (all : List Call) (own : Sender) (datagram : List ℕ) → Among all (Offer own datagram) → (to : Sender) (bytes : List ℕ) → Among (offered own datagram ∷ []) (offered to bytes) → IsOwn all to bytes
own_itself all own datagram made to bytes (inl is) =
    let to_is : own ≡ to = cc in
    let bytes_are : datagram ≡ bytes = cc in
    inl (subst (λ (t : Sender). Among all (Offer t bytes)) to_is (subst (λ (l : List ℕ). Among all (Offer own l)) bytes_are made))
own_itself all own datagram made to bytes (inr h) = absurd h

own_member : (all : List Call) (member : ℕ) (parts : List (List ℕ)) (datagram : List ℕ) → IsRow all member parts → Among all (Offer (Peer member) datagram) → (to : Sender) (bytes : List ℕ)
    → Among (member_offers member parts datagram) (offered to bytes) → IsOwn all to bytes
own_member all member parts datagram row made to bytes = by_part (is_part datagram)
  where
    by_room : (room : Bool) → Among (cond room [] (parts_offer member parts)) (offered to bytes) → IsOwn all to bytes
    by_room true h = absurd h
    by_room false h = own_parts all member parts row to bytes h

    either : Among (parts_offer member parts) (offered to bytes) ⊎ Among (offered (Peer member) datagram ∷ []) (offered to bytes) → IsOwn all to bytes
    either (inl a) = own_parts all member parts row to bytes a
    either (inr a) = own_itself all (Peer member) datagram made to bytes a

    by_part : (part : Bool) → Among (cond part (room_offers member parts datagram) (parts_offer member parts ++ offered (Peer member) datagram ∷ [])) (offered to bytes) → IsOwn all to bytes
    by_part true h = by_room (has_room parts datagram) h
    by_part false h = either (among_either (parts_offer member parts) (offered (Peer member) datagram ∷ []) (offered to bytes) h)

own_lane : (all : List Call) (member : ℕ) (lane : LaneRecord) (datagram : List ℕ) → IsLane all member lane → Among all (Offer (Peer member) datagram) → (to : Sender) (bytes : List ℕ)
    → Among (lane_offers member lane datagram) (offered to bytes) → IsOwn all to bytes
own_lane all member lane datagram is made to bytes = go (goes_at_once lane datagram)
  where
    go : (at_once : Bool) → Among (cond at_once (offered (Peer member) datagram ∷ []) (member_offers member lane.parts datagram)) (offered to bytes) → IsOwn all to bytes
    go true h = own_itself all (Peer member) datagram made to bytes h
    go false h = own_member all member lane.parts datagram is.row made to bytes h

own_offer : (all : List Call) (b : BundlerRecord) (own : Sender) (datagram : List ℕ) → HasLanes all b → Among all (Offer own datagram) → (to : Sender) (bytes : List ℕ)
    → Among (offers_at b own datagram) (offered to bytes) → IsOwn all to bytes
own_offer all b (Client number) datagram has made to bytes h = own_itself all (Client number) datagram made to bytes h
own_offer all b (Peer member) datagram has made to bytes h = go (is_member member) refl h
  where
    go : (is : Bool) → is_member member ≡ is
        → Among (cond is (lane_offers member (get_or b.lanes (member - 1) new_lane) datagram) (offered (Peer member) datagram ∷ [])) (offered to bytes) → IsOwn all to bytes
    go true is h = own_lane all member (get_or b.lanes (member - 1) new_lane) datagram (lane_for all b member is has) made to bytes h
    go false is h = own_itself all (Peer member) datagram made to bytes h

-- ---- one call

-- no event that came is an offer
no_offer : (b : BundlerRecord) (event : PortEvent) (to : Sender) (bytes : List ℕ) → (may_call b (Waits event) ≡ true) ⊎ (may_call b (Polls event) ≡ true) → Among (event ∷ []) (offered to bytes) → ⊥
no_offer b (Received sender datagram) to bytes may (inl is) = absurd cc
no_offer b Quiet to bytes may (inl is) = absurd cc
no_offer b Faulted to bytes may (inl is) = absurd cc
no_offer b (Offered own datagram) to bytes (inl may) (inl is) = true≢false (sym may)
no_offer b (Offered own datagram) to bytes (inr may) (inl is) = true≢false (sym may)
no_offer b event to bytes may (inr h) = h

own_one : (all : List Call) (b : BundlerRecord) (call : Call) → may_call b call ≡ true → Among all call → HasLanes all b → (to : Sender) (bytes : List ℕ) → Among (below b call) (offered to bytes) → IsOwn all to bytes
own_one all b (Waits event) may made has to bytes h = go (among_either (flush_offers b) (event ∷ []) (offered to bytes) h)
  where
    go : Among (flush_offers b) (offered to bytes) ⊎ Among (event ∷ []) (offered to bytes) → IsOwn all to bytes
    go (inl a) = own_lanes all b.lanes 1 has.lane to bytes a
    go (inr a) = absurd (no_offer b event to bytes (inl may) a)
own_one all b (Polls event) may made has to bytes h = absurd (no_offer b event to bytes (inr may) h)
own_one all b Left may made has to bytes h = absurd h
own_one all b (Offer own datagram) may made has to bytes h = own_offer all b own datagram has made to bytes h
own_one all b Flush may made has to bytes h = own_lanes all b.lanes 1 has.lane to bytes h

-- ---- all calls

own_over : (all : List Call) (b : BundlerRecord) (calls : List Call) → ((call : Call) → Among calls call → Among all call) → may_make b calls ≡ true → HasLanes all b
    → (to : Sender) (bytes : List ℕ) → Among (below_events b calls) (offered to bytes) → IsOwn all to bytes
own_over all b [] made may has to bytes h = absurd h
own_over all b (call ∷ calls) made may has to bytes h =
    let u = after b call in
    let both = and_parts (may_call b call) (may_make u calls) may in
    let one = made call (inl refl) in
    go (among_either (below b call) (below_events u calls) (offered to bytes) h) (own_one all b call both.0 one has to bytes)
    (own_over all u calls (λ c a. made c (inr a)) both.1 (lanes_one all b call one has) to bytes)
  where
    go : Among (below b call) (offered to bytes) ⊎ Among (below_events (after b call) calls) (offered to bytes) → (Among (below b call) (offered to bytes) → IsOwn all to bytes)
        → (Among (below_events (after b call) calls) (offered to bytes) → IsOwn all to bytes) → IsOwn all to bytes
    go (inl a) here later = here a
    go (inr a) here later = later a

pub join_law : (calls : List Call) (to : Sender) (bytes : List ℕ) → may_make new_bundler calls ≡ true → Among (below_events new_bundler calls) (Offered to bytes)
    → Among calls (Offer to bytes) ⊎ JoinsOffers calls to bytes
join_law calls to bytes may h = own_over calls new_bundler calls (λ call a. a) may (lanes_at_start calls) to bytes h

-- An event that didn't come, a part of another datagram, and a bundle of what was not offered.
use Rattle.std.proofs.Common.{◌≡◌, ℕ, List, [], ◌∷◌, None, get_or, refl, subst, ap, ◌∙◌, arith, inl, inr}
use Rattle.std.specs.Prelude.{Some, slice_index}
use Rattle.datagram_port.specs.Port.{PortEvent, Received}
use Rattle.datagram_port.specs.declared.port.Sender.{Sender}
use Rattle.datagram_port.specs.declared.port.Sender.TheVariants.{Peer}
use Rattle.bundle_port.specs.Bundle.{parts_at}
use Rattle.bundle_port.specs.Examples.{both, bundle_of_both, first, from_1, second}
use Rattle.bundle_port.specs.Promises.{Among, Came, IsOwnOffer, JoinsOffers}
use Rattle.bundle_port.specs.Runs.{Call, Offer, Waits}
use Rattle.bundle_port.proofs.worked.promises_can_be_broken.Goals as goal

pub returns-clause-received : goal.returns-clause-received
returns-clause-received c = inl (inl (inr (inl refl)))

pub returns-clause-polled : goal.returns-clause-polled
returns-clause-polled c = inl (inr (inr (inl refl)))

pub returns-clause-offered : goal.returns-clause-offered
returns-clause-offered c = inr (inl (record { to = Peer 2; bytes = first; event_is = refl; is_offered = inl refl }))

pub returns-clause-part : goal.returns-clause-part
returns-clause-part c =
    inr (inr (record {
      member = 1;
      bundle = bundle_of_both;
      parts = both;
      part = second;
      came = inl (inl refl);
      parts_are = refl;
      is_among = inr (inl refl);
      event_is = refl;
    }))

-- ---- what is handed in

some_none : (parts : List (List ℕ)) → None ≡ Some parts → ⊥
some_none parts e = absurd cc

-- what came is the one datagram
sender_is : (bytes : List ℕ) (member : ℕ) (other : List ℕ) → Came (Waits (from_1 bytes) ∷ []) (Received (Peer member) other) → 1 ≡ member
sender_is bytes member other (inl (inl is)) = cc
sender_is bytes member other (inl (inr h)) = absurd h
sender_is bytes member other (inr (inl is)) = absurd cc
sender_is bytes member other (inr (inr h)) = absurd h

bytes_are : (bytes : List ℕ) (member : ℕ) (other : List ℕ) → Came (Waits (from_1 bytes) ∷ []) (Received (Peer member) other) → bytes ≡ other
bytes_are bytes member other (inl (inl is)) = cc
bytes_are bytes member other (inl (inr h)) = absurd h
bytes_are bytes member other (inr (inl is)) = absurd cc
bytes_are bytes member other (inr (inr h)) = absurd h

member_is : (member number : ℕ) (bytes part : List ℕ) → Received (Peer member) bytes ≡ Received (Peer number) part → member ≡ number
member_is member number bytes part e = cc

not_own : (calls : List Call) (member : ℕ) (bytes : List ℕ) → IsOwnOffer calls (Received (Peer member) bytes) → ⊥
not_own calls member bytes own = let e = own.event_is in absurd cc

none_came : (event : PortEvent) → Came [] event → ⊥
none_came event (inl h) = h
none_came event (inr h) = h

pub returns-clause-not_received : goal.returns-clause-not_received
returns-clause-not_received c = λ h. elim h [
  | inl came ↦ none_came (from_1 first) came
  | inr others ↦ elim others [ inl own ↦ not_own [] 1 first own | inr part ↦ none_came (Received (Peer part.member) part.bundle) part.came ]
]

pub returns-clause-from_another : goal.returns-clause-from_another
returns-clause-from_another c = λ h. elim h [
  | inl came ↦ let e = sender_is bundle_of_both 3 first came in absurd (omega (arith, e))
  | inr others ↦ elim others [
    | inl own ↦ not_own (Waits (from_1 bundle_of_both) ∷ []) 3 first own
    | inr part ↦
        let one = sender_is bundle_of_both part.member part.bundle part.came in
        let three = member_is 3 part.member first part.part part.event_is in
        absurd (omega (arith, one, three))
  ]
]

pub returns-clause-no_part : goal.returns-clause-no_part
returns-clause-no_part c = λ h. elim h [
  | inl came ↦ let e : 1 ≡ 3 = ap (λ (l : List ℕ). slice_index l 0) (bytes_are first 1 second came) in absurd (omega (arith, e))
  | inr others ↦ elim others [
    | inl own ↦ not_own (Waits (from_1 first) ∷ []) 1 second own
    | inr part ↦ some_none part.parts (ap parts_at (bytes_are first part.member part.bundle part.came) ∙ part.parts_are)
  ]
]

-- ---- what is offered

pub returns-clause-joined : goal.returns-clause-joined
returns-clause-joined c = record { member = 2; to_is = refl; parts = both; parts_are = refl; each = each }
  where
    each : (part : List ℕ) → Among both part → Among (Offer (Peer 2) first ∷ Offer (Peer 2) second ∷ []) (Offer (Peer 2) part)
    each part (inl is) = inl (ap (λ (l : List ℕ). Offer (Peer 2) l) is)
    each part (inr (inl is)) = inr (inl (ap (λ (l : List ℕ). Offer (Peer 2) l) is))
    each part (inr (inr h)) = absurd h

some_is : (x y : List (List ℕ)) → Some x ≡ Some y → x ≡ y
some_is x y e = cc

-- each part of the bundle was offered
each_of_both : (calls : List Call) (to : Sender) (j : JoinsOffers calls to bundle_of_both) (part : List ℕ) → Among both part → Among calls (Offer (Peer j.member) part)
each_of_both calls to j part h = j.each part (subst (λ (l : List (List ℕ)). Among l part) (some_is both j.parts j.parts_are) h)

-- the one offer is of other bytes
one_offer : (own : List ℕ) (member : ℕ) (part : List ℕ) → Among (Offer (Peer 2) own ∷ []) (Offer (Peer member) part) → own ≡ part
one_offer own member part (inl is) = cc
one_offer own member part (inr h) = absurd h

pub returns-clause-first_not_offered : goal.returns-clause-first_not_offered
returns-clause-first_not_offered c = λ j.
    let same = one_offer second j.member first (each_of_both (Offer (Peer 2) second ∷ []) (Peer 2) j first (inl refl)) in
    let e : 3 ≡ 1 = ap (λ (l : List ℕ). slice_index l 0) same in
    absurd (omega (arith, e))

pub returns-clause-second_not_offered : goal.returns-clause-second_not_offered
returns-clause-second_not_offered c = λ j.
    let same = one_offer first j.member second (each_of_both (Offer (Peer 2) first ∷ []) (Peer 2) j second (inr (inl refl))) in
    let e : 1 ≡ 3 = ap (λ (l : List ℕ). slice_index l 0) same in
    absurd (omega (arith, e))

to_two : (member : ℕ) (part : List ℕ) → Among (Offer (Peer 2) first ∷ Offer (Peer 2) second ∷ []) (Offer (Peer member) part) → 2 ≡ member
to_two member part (inl is) = cc
to_two member part (inr (inl is)) = cc
to_two member part (inr (inr h)) = absurd h

peer_is : (member number : ℕ) → Peer member ≡ Peer number → member ≡ number
peer_is member number e = cc

pub returns-clause-to_another : goal.returns-clause-to_another
returns-clause-to_another c = λ j.
    let two = to_two j.member first (each_of_both (Offer (Peer 2) first ∷ Offer (Peer 2) second ∷ []) (Peer 3) j first (inl refl)) in
    let three = peer_is 3 j.member j.to_is in
    absurd (omega (arith, two, three))

pub returns-clause-to_a_client : goal.returns-clause-to_a_client
returns-clause-to_a_client c = λ j. (let e = j.to_is in absurd cc)

pub returns-clause-no_bundle : goal.returns-clause-no_bundle
returns-clause-no_bundle c = λ j. some_none j.parts j.parts_are

-- ---- in order

-- the first bytes of the first datagrams differ
first_differ : second ∷ first ∷ [] ≡ both → ⊥
first_differ e = (let same : 3 ≡ 1 = ap (λ (l : List (List ℕ)). slice_index (get_or l 0 []) 0) e in omega (arith, same))

pub returns-clause-in_order : goal.returns-clause-in_order
returns-clause-in_order c = refl

pub returns-clause-reordered : goal.returns-clause-reordered
returns-clause-reordered c = first_differ

pub returns-clause-at_once_while_others_wait : goal.returns-clause-at_once_while_others_wait
returns-clause-at_once_while_others_wait c = first_differ

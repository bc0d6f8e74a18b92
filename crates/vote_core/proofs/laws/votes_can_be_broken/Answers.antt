-- Each promise is asked about the one that breaks it.
use Rattle.std.specs.List.{slice_get}
use Rattle.std.proofs.Common.{◌≡◌, ℕ, zero, suc, ◌+◌, ◌<◌, ◌≤◌, Bool, true, false, [], ◌∷◌, Some, if◌then◌else◌, nat_lt, refl, ap, arith}
use Rattle.std.proofs.lemmas.Option.{same_Some}
use Rattle.floor_store.specs.Range.{IsSpan}
use Rattle.floor_store.specs.Records.{span_of}
use Rattle.otp_core.specs.Acceptance.{HasMajority}
use Rattle.vote_core.specs.Broken.{opening_with, replaced}
use Rattle.vote_core.specs.Calls.{FitsVoter}
use Rattle.vote_core.specs.Cases.{accepted, envelope, place, proposal, taken_at}
use Rattle.vote_core.specs.Safety.{IsDeliverable, IsOfEarlierBoot, MayOpen}
use Rattle.vote_core.specs.Schedule.{Event, Replaced}
use Rattle.vote_core.specs.declared.message.Message.{Message}
use Rattle.vote_core.specs.declared.message.Message.TheVariants.{Ask, Deny, Floor, Grant}
use Rattle.vote_core.proofs.Basics.{each_get}
use Rattle.vote_core.proofs.laws.votes_can_be_broken.Goals as goal

at_most_one : (is_there : Bool) → (if is_there then 1 else 0) + 0 ≤ 1
at_most_one true = omega arith
at_most_one false = omega arith

at_most_six : (is_taken : Bool) → (if is_taken then 6 else 5) ≤ 6
at_most_six true = omega arith
at_most_six false = omega arith

-- the first counted item is there if the rest are too few
is_counted : (is_there : Bool) (rest least : ℕ) → rest < least → least ≤ (if is_there then 1 else 0) + rest
    → is_there ≡ true
is_counted true rest least few many = refl
is_counted false rest least few many = absurd (omega (arith, few, many))

-- the node that a store is made for
abbrev made_for : Event → ℕ
made_for (Replaced node boot floor) = node
made_for _ = 0

-- a store is made for node 2 in event 1, and not for node 1
not_made : (event boot : ℕ) (floor : ℕ → ℕ) → 1 ≤ event → event < 2
    → slice_get (replaced 1 ∷ replaced 2 ∷ replaced 1 ∷ []) event ≡ Some (Replaced 1 boot floor) → ⊥
not_made zero boot floor from to at = omega (arith, from)
not_made (suc zero) boot floor from to at =
    let same : 2 ≡ 1 = ap made_for (same_Some (replaced 2) (Replaced 1 boot floor) at) in
    omega (arith, same)
not_made (suc (suc event)) boot floor from to at = omega (arith, to)

one_factor : IsSpan 5 5
one_factor = record { ordered = omega arith; short = omega arith }

-- one message from node 1 to node 2 that fits and is of an earlier boot may be on its way
opens_with : (message : Message) → FitsVoter (place 2 2) 1 1 message → IsOfEarlierBoot (λ node. node) message
    → MayOpen 2 1 (opening_with (envelope 1 2 message ∷ []))
opens_with message fits earlier i sent at =
    let deliverable : IsDeliverable 2 1 (envelope 1 2 message) = record {
      first = omega arith;
      last = omega arith;
      other = record {
        first = omega arith;
        last = omega arith;
        other = λ same. let same : 1 ≡ 2 = same in omega (arith, same);
      };
      fits = fits;
    } in
    each_get (λ sent. IsDeliverable 2 1 sent × IsOfEarlierBoot (λ node. node) sent.message)
    (envelope 1 2 message ∷ []) i sent ((deliverable, earlier), tt) at

pub returns-clause-kept : goal.returns-clause-kept
returns-clause-kept c h =
    let witnesses : HasMajority 1 (taken_at 1) (accepted 0 2 1 0 6 6) = h 1 (accepted 0 2 1 0 6 6) refl in
    let is_there = is_counted (witnesses.nodes 1) 0 1 (omega arith) witnesses.many in
    let letting = witnesses.each 1 is_there in
    let more : 6 < taken_at 1 1 0 (letting.0 + 1) = letting.1.used (letting.0 + 1) (omega arith) in
    omega (arith, more, at_most_six (nat_lt 1 (letting.0 + 1)))

pub returns-clause-half : goal.returns-clause-half
returns-clause-half c h =
    let witnesses : HasMajority 2 (taken_at 1) (accepted 0 2 1 0 5 5) = h 0 (accepted 0 2 1 0 5 5) refl in
    let few = at_most_one (witnesses.nodes 1) in
    let is_there = is_counted (witnesses.nodes 2) _ 2 (omega (arith, few)) witnesses.many in
    let letting = witnesses.each 2 is_there in
    let more : 5 < 5 = letting.1.used (letting.0 + 1) (omega arith) in
    omega (arith, more)

pub returns-clause-begun_lost : goal.returns-clause-begun_lost
returns-clause-begun_lost c h = h 0 (accepted 1 2 1 0 5 6) refl

pub returns-clause-begun_before : goal.returns-clause-begun_before
returns-clause-begun_before c h = h 0 (accepted 1 2 1 0 5 6) refl

pub returns-clause-begun_at_its_end : goal.returns-clause-begun_at_its_end
returns-clause-begun_at_its_end c h = h 0 (accepted 0 1 1 0 5 6) refl

pub returns-clause-begun_later : goal.returns-clause-begun_later
returns-clause-begun_later c h = h 0 (accepted 1 2 1 0 5 6) refl

pub returns-clause-second_not_begun : goal.returns-clause-second_not_begun
returns-clause-second_not_begun c h = h 1 (accepted 1 2 1 0 7 7) refl

pub returns-clause-other_node : goal.returns-clause-other_node
returns-clause-other_node c h =
    let same : 2 ≡ 1 = (h 0 (accepted 0 2 1 0 5 6) refl).0 in
    omega (arith, same)

pub returns-clause-other_token : goal.returns-clause-other_token
returns-clause-other_token c h =
    let same : 1 ≡ 0 = (h 0 (accepted 0 2 1 0 5 6) refl).1 in
    omega (arith, same)

pub returns-clause-other_lo : goal.returns-clause-other_lo
returns-clause-other_lo c h =
    let same : 6 ≡ 5 = (h 0 (accepted 0 2 1 0 5 6) refl).2 in
    omega (arith, same)

pub returns-clause-other_hi : goal.returns-clause-other_hi
returns-clause-other_hi c h =
    let same : 5 ≡ 6 = (h 0 (accepted 0 2 1 0 5 6) refl).3 in
    omega (arith, same)

pub returns-clause-other_kept : goal.returns-clause-other_kept
returns-clause-other_kept c h =
    let same : 5 ≡ 6 = (h 0 (accepted 0 2 1 0 5 6) refl).3 in
    omega (arith, same)

pub returns-clause-delivery : goal.returns-clause-delivery
returns-clause-delivery c h = h 0 (accepted 0 2 1 0 5 6) refl

pub returns-clause-tick : goal.returns-clause-tick
returns-clause-tick c h = h 0 (accepted 0 2 1 0 5 6) refl

pub returns-clause-throttle : goal.returns-clause-throttle
returns-clause-throttle c h = h 0 (accepted 0 2 1 0 5 6) refl

pub returns-clause-restart : goal.returns-clause-restart
returns-clause-restart c h = h 0 (accepted 0 2 1 0 5 6) refl

pub returns-clause-second_from_0 : goal.returns-clause-second_from_0
returns-clause-second_from_0 c h =
    let deliverable = h 1 (envelope 0 1 (Floor 1 5)) refl in
    let first : 1 ≤ 0 = deliverable.other.first in
    omega (arith, first)

pub returns-clause-lost : goal.returns-clause-lost
returns-clause-lost c h = h 0 (accepted 0 2 1 0 5 6) refl

pub returns-clause-replaced : goal.returns-clause-replaced
returns-clause-replaced c h = h 0 (accepted 0 2 1 0 5 6) refl

pub returns-clause-told_by_another : goal.returns-clause-told_by_another
returns-clause-told_by_another c h =
    let below : 5 < 5 = h 0 (accepted 0 2 1 0 5 5) refl in
    omega (arith, below)

pub returns-clause-told_before : goal.returns-clause-told_before
returns-clause-told_before c h =
    let below : 5 < 5 = h 0 (accepted 0 2 1 0 5 5) refl in
    omega (arith, below)

pub returns-clause-told_of_another_token : goal.returns-clause-told_of_another_token
returns-clause-told_of_another_token c h =
    let below : 10 < 10 = h 0 (accepted 0 2 1 0 10 10) refl in
    omega (arith, below)

pub returns-clause-told_lo_alone : goal.returns-clause-told_lo_alone
returns-clause-told_lo_alone c h =
    let below : 6 < 6 = h 0 (accepted 0 2 1 0 5 6) refl in
    omega (arith, below)

pub returns-clause-second_not_told : goal.returns-clause-second_not_told
returns-clause-second_not_told c h =
    let below : 6 < 6 = h 1 (accepted 0 2 1 0 6 6) refl in
    omega (arith, below)

pub returns-clause-second_from_below : goal.returns-clause-second_from_below
returns-clause-second_from_below c h =
    let above : 5 ≤ 4 = h 1 (accepted 0 2 1 0 4 5) refl refl in
    omega (arith, above)

pub returns-clause-keeps_no_store : goal.returns-clause-keeps_no_store
returns-clause-keeps_no_store c h = h 1 2 (λ token. 0) (omega arith) (omega arith) refl

pub returns-clause-ask_of_this_boot : goal.returns-clause-ask_of_this_boot
returns-clause-ask_of_this_boot c h =
    let earlier : 1 < 1 = (h 0 (envelope 1 2 (Ask (proposal 1 1 0) 0 (span_of 5 5))) refl).1 in
    omega (arith, earlier)

pub returns-clause-grant_of_this_boot : goal.returns-clause-grant_of_this_boot
returns-clause-grant_of_this_boot c h =
    let earlier : 2 < 2 = (h 0 (envelope 1 2 (Grant (proposal 2 2 0) 0 (span_of 5 5))) refl).1 in
    omega (arith, earlier)

pub returns-clause-deny_of_this_boot : goal.returns-clause-deny_of_this_boot
returns-clause-deny_of_this_boot c h =
    let earlier : 2 < 2 = (h 0 (envelope 1 2 (Deny (proposal 2 2 0) 0 5)) refl).1 in
    omega (arith, earlier)

pub returns-clause-second_of_this_boot : goal.returns-clause-second_of_this_boot
returns-clause-second_of_this_boot c h =
    let earlier : 2 < 2 = (h 1 (envelope 1 2 (Deny (proposal 2 2 0) 0 5)) refl).1 in
    omega (arith, earlier)

pub returns-clause-opens_with_unfit : goal.returns-clause-opens_with_unfit
returns-clause-opens_with_unfit c h =
    let fits : 1 < 1 = (h 0 (envelope 1 2 (Floor 1 5)) refl).0.fits in
    omega (arith, fits)

pub returns-clause-told : goal.returns-clause-told
returns-clause-told c i acceptance at =
    each_get (λ acceptance. acceptance.hi < 6) (accepted 0 2 1 0 5 5 ∷ []) i acceptance (omega arith, tt) at

pub returns-clause-from : goal.returns-clause-from
returns-clause-from c i acceptance at =
    each_get (λ acceptance. acceptance.token ≡ 0 → 5 ≤ acceptance.lo)
    (accepted 0 2 1 0 5 5 ∷ accepted 0 2 1 1 4 4 ∷ []) i acceptance
    ((λ same. omega arith), ((λ same. omega (arith, same)), tt)) at

pub returns-clause-keeps_store : goal.returns-clause-keeps_store
returns-clause-keeps_store c = not_made

pub returns-clause-opens_with_ask : goal.returns-clause-opens_with_ask
returns-clause-opens_with_ask c =
    let there : 0 < 1 = omega arith in
    opens_with (Ask (proposal 1 0 0) 0 (span_of 5 5)) (there, one_factor, refl) there

pub returns-clause-opens_with_grant : goal.returns-clause-opens_with_grant
returns-clause-opens_with_grant c =
    let there : 0 < 1 = omega arith in
    let earlier : 1 < 2 = omega arith in
    opens_with (Grant (proposal 2 1 0) 0 (span_of 5 5)) (there, one_factor, refl) earlier

pub returns-clause-opens_with_deny : goal.returns-clause-opens_with_deny
returns-clause-opens_with_deny c =
    let there : 0 < 1 = omega arith in
    let earlier : 1 < 2 = omega arith in
    opens_with (Deny (proposal 2 1 0) 0 5) (there, refl) earlier

pub returns-clause-opens_with_floor : goal.returns-clause-opens_with_floor
returns-clause-opens_with_floor c =
    let there : 0 < 1 = omega arith in
    opens_with (Floor 0 5) there tt

-- The offers of what waits, one member after the other.
use Rattle.std.proofs.Common.{◌≡◌, ℕ, zero, suc, ◌+◌, ◌<◌, ◌≤◌, List, [], ◌∷◌, ◌++◌, length, take, map, get_or, Option, Some, None, refl, sym, ap, subst, ◌∙◌, arith, append_assoc, append-nil, length-take, take_all}
use Rattle.std.specs.Prelude.{slice_set}
use Rattle.std.proofs.lemmas.List.{take_more}
use Rattle.datagram_port.specs.Port.{Grows, PortEvent}
use Rattle.bundle_port.specs.Bundler.{LaneRecord, after_wait, new_lane, offers_from, parts_offer}

abbrev Lanes : Type 0
Lanes = List LaneRecord

abbrev present : {A : Type 0} → A → Option A
present x = Some x

some_is : {A : Type 0} (x y : A) → present x ≡ present y → x ≡ y
some_is x y e = cc

-- ---- records that grow

pub grown : (old new : Option (List PortEvent)) (added now : List PortEvent) → Grows old new added → new ≡ Some now
    → (before : List PortEvent) × (old ≡ Some before) × (before ++ added ≡ now)
grown (Some before) (Some all) added now grows e = (before, refl, some_is (before ++ added) now (grows ∙ e))
grown None (Some all) added now grows e = absurd cc
grown old None added now grows e = absurd cc

pub grows_both : (old mid new : Option (List PortEvent)) (first second : List PortEvent) → Grows old mid first → Grows mid new second → Grows old new (first ++ second)
grows_both old mid None first second one two = tt
grows_both old None (Some now) first second one two = absurd cc
grows_both None (Some between) (Some now) first second one two = absurd cc
grows_both (Some before) (Some between) (Some now) first second one two =
    let b : before ++ first ≡ between = some_is (before ++ first) between one in
    let n : between ++ second ≡ now = some_is (between ++ second) now two in
    ap present (sym (append_assoc before first second) ∙ ap (λ (l : List PortEvent). l ++ second) b ∙ n)

pub grows_none : (events : Option (List PortEvent)) → Grows events events []
grows_none None = tt
grows_none (Some events) = ap present (append-nil events)

-- ---- lanes

-- lanes of which a number of the first ones are after a wait
abbrev pub waited : ℕ → List LaneRecord → List LaneRecord
waited zero lanes = lanes
waited (suc place) [] = []
waited (suc place) (lane ∷ lanes) = after_wait lane ∷ waited place lanes

pub length_waited : (place : ℕ) (lanes : List LaneRecord) → length (waited place lanes) ≡ length lanes
length_waited zero lanes = refl
length_waited (suc place) [] = refl
length_waited (suc place) (lane ∷ lanes) = ap suc (length_waited place lanes)

-- the next lane is as it was
lane_of_waited : (place : ℕ) (lanes : List LaneRecord) → get_or (waited place lanes) place new_lane ≡ get_or lanes place new_lane
lane_of_waited zero lanes = refl
lane_of_waited (suc place) [] = refl
lane_of_waited (suc place) (lane ∷ lanes) = lane_of_waited place lanes

waited_next : (place : ℕ) (lanes : List LaneRecord) → slice_set (waited place lanes) place (after_wait (get_or lanes place new_lane)) ≡ waited (suc place) lanes
waited_next zero [] = refl
waited_next zero (lane ∷ lanes) = refl
waited_next (suc place) [] = refl
waited_next (suc place) (lane ∷ lanes) = ap (λ (l : Lanes). after_wait lane ∷ l) (waited_next place lanes)

-- a wait of one more lane
pub waited_more : (place : ℕ) (now lanes : List LaneRecord) (lane new : LaneRecord) → now ≡ waited place lanes → lane ≡ get_or now place new_lane → new ≡ after_wait lane
    → slice_set now place new ≡ waited (place + 1) lanes
waited_more place now lanes lane new is at after =
    let next : suc place ≡ place + 1 = omega arith in
    let lane_is : lane ≡ get_or lanes place new_lane = at ∙ ap (λ (l : Lanes). get_or l place new_lane) is ∙ lane_of_waited place lanes in
    ap (λ (l : Lanes). slice_set l place new) is
    ∙ ap (slice_set (waited place lanes) place) (after ∙ ap after_wait lane_is)
    ∙ waited_next place lanes
    ∙ ap (λ (n : ℕ). waited n lanes) next

-- a wait of all lanes
pub waited_all : (place : ℕ) (lanes : List LaneRecord) → length lanes ≤ place → waited place lanes ≡ map after_wait lanes
waited_all zero [] h = refl
waited_all zero (lane ∷ lanes) h = absurd (omega arith)
waited_all (suc place) [] h = refl
waited_all (suc place) (lane ∷ lanes) h = ap (λ (l : Lanes). after_wait lane ∷ l) (waited_all place lanes (omega arith))

-- ---- offers

offers_more : (member : ℕ) (lanes : List LaneRecord) (lane : LaneRecord) → offers_from member (lanes ++ lane ∷ []) ≡ offers_from member lanes ++ parts_offer (member + length lanes) lane.parts
offers_more member [] lane =
    let same : member ≡ member + 0 = omega arith in
    append-nil (parts_offer member lane.parts) ∙ ap (λ (n : ℕ). parts_offer n lane.parts) same
offers_more member (first ∷ lanes) lane =
    let next : member + 1 + length lanes ≡ member + suc (length lanes) = omega arith in
    ap (λ (l : List PortEvent). parts_offer member first.parts ++ l) (offers_more (member + 1) lanes lane)
    ∙ ap (λ (n : ℕ). parts_offer member first.parts ++ (offers_from (member + 1) lanes ++ parts_offer n lane.parts)) next
    ∙ sym (append_assoc (parts_offer member first.parts) (offers_from (member + 1) lanes) (parts_offer (member + suc (length lanes)) lane.parts))

-- what waits in one more lane is offered
pub one_offer : (old mid new : Option (List PortEvent)) (lanes now : List LaneRecord) (lane : LaneRecord) (place : ℕ) → place < length lanes → now ≡ waited place lanes → lane ≡ get_or now place new_lane
    → Grows old mid (offers_from 1 (take place lanes)) → Grows mid new (parts_offer (place + 1) lane.parts) → Grows old new (offers_from 1 (take (place + 1) lanes))
one_offer old mid new lanes now lane place within is at before grows =
    let count : length (take place lanes) ≡ place = length-take place lanes ∙ (omega arith) in
    let next : place + 1 ≡ 1 + place = omega arith in
    let lane_is : lane ≡ get_or lanes place new_lane = at ∙ ap (λ (l : Lanes). get_or l place new_lane) is ∙ lane_of_waited place lanes in
    let both =
    ap (λ (n : ℕ). parts_offer n lane.parts) (next ∙ ap (λ (n : ℕ). 1 + n) (sym count))
    ∙ ap (λ (l : LaneRecord). parts_offer (1 + length (take place lanes)) l.parts) lane_is in
    let all = sym (offers_more 1 (take place lanes) (get_or lanes place new_lane)) ∙ ap (offers_from 1) (sym (take_more lanes place new_lane within)) in
    subst (Grows old new) all
    (grows_both old mid new (offers_from 1 (take place lanes)) (parts_offer (1 + length (take place lanes)) (get_or lanes place new_lane).parts) before
    (subst (Grows mid new) both grows))

-- what waits in all lanes is offered
pub all_offers : (old new : Option (List PortEvent)) (lanes : List LaneRecord) (place : ℕ) → length lanes ≤ place → Grows old new (offers_from 1 (take place lanes)) → Grows old new (offers_from 1 lanes)
all_offers old new lanes place h grows = subst (λ (l : Lanes). Grows old new (offers_from 1 l)) (take_all place lanes h) grows

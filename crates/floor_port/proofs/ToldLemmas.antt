-- What a port tells over its calls, and floors that rise.
use Rattle.std.proofs.Common.{◌≡◌, ℕ, zero, suc, ◌+◌, ◌<◌, ◌≤◌, Bool, true, false, cond, eqb, ltb, List, [], ◌∷◌, ◌++◌, length, take, drop, Option, Some, None, refl, sym, ap, subst, ◌∙◌, arith, true≢false, inl, inr}
use Rattle.std.specs.Prelude.{◌⊎◌, slice_get, slice_index, slice_set}
use Rattle.std.proofs.lemmas.Bool.{and_parts, eqb-false, ltb-true}
use Rattle.std.proofs.lemmas.List.{length-take}
use Rattle.datagram_port.specs.Port.{PortEvent, Received, Quiet, Faulted, Offered}
use Rattle.datagram_port.specs.declared.port.Sender.{Sender}
use Rattle.datagram_port.specs.declared.port.Sender.TheVariants.{Client, Peer}
use Rattle.named_port.specs.Names.{number_of}
use Rattle.named_wire.specs.declared.head.Head.{Head}
use Rattle.floor_port.specs.Floors.{floors_body}
use Rattle.floor_port.specs.Claims.{is_fallen}
use Rattle.floor_port.specs.Packer.{after_datagram, after_held, after_member, after_told, body_of, body_offers, fall_by, floor_head, floors_datagram, hearing, member_offer, new_packer, offers_of, PackerRecord, StartRecord, told_by, turn_offers, turns_due, with_claims, with_others}
use Rattle.floor_port.specs.Promises.{Among, IsOwnFloor, IsWitnessed, TellsFloors}
use Rattle.floor_port.specs.Rows.{RowsRecord, after_floor, after_floors, after_news, after_telling, after_turn, after_turns, after_witness, is_fresh, named_floors, news, next_floors, not_fresh, raised}
use Rattle.floor_port.specs.Runs.{Call, Came, Left, Offer, after, after_calls, below, below_events, may_call, may_make}
use Rattle.floor_port.specs.Witness.{witness_of}
use Rattle.floor_port.specs.declared.floor.NamedFloor.{NamedFloor}
use Rattle.floor_port.proofs.CallLemmas.{no_start, same_start}

abbrev present : {A : Type 0} → A → Option A
present x = Some x

some_is : {A : Type 0} (x y : A) → present x ≡ present y → x ≡ y
some_is x y e = cc

-- ---- floors rise

index_set : (floors : List ℕ) (place next row : ℕ) → slice_index floors place < next → slice_index floors row ≤ slice_index (slice_set floors place next) row
index_set [] place next row above = omega arith
index_set (one ∷ floors) zero next zero above = omega (arith, above)
index_set (one ∷ floors) zero next (suc row) above = omega arith
index_set (one ∷ floors) (suc place) next zero above = omega arith
index_set (one ∷ floors) (suc place) next (suc row) above = index_set floors place next row above

raised_rises : (floors : List ℕ) (place : Option ℕ) (next row : ℕ) → slice_index floors row ≤ slice_index (raised floors place next) row
raised_rises floors None next row = omega arith
raised_rises floors (Some place) next row = go (ltb (slice_index floors place) next) refl
  where
    go : (above : Bool) → ltb (slice_index floors place) next ≡ above → slice_index floors row ≤ slice_index (cond above (slice_set floors place next) floors) row
    go true is = index_set floors place next row (ltb-true (slice_index floors place) next is)
    go false is = omega arith

all_rise : (names : List (List ℕ)) (known : List ℕ) (floors : List NamedFloor) (row : ℕ) → slice_index known row ≤ slice_index (after_floors names known floors) row
all_rise names known [] row = omega arith
all_rise names known (floor ∷ floors) row =
    let first = raised_rises known (number_of names floor.name) floor.next row in
    let rest = all_rise names (after_floor names known floor) floors row in
    omega (arith, first, rest)

-- the floors of the rows, after and before
record HaveRisen (old new : RowsRecord) : Type 0 where
  told : (row : ℕ) → slice_index old.told row ≤ slice_index new.told row
  known : (row : ℕ) → slice_index old.known row ≤ slice_index new.known row

same_rise : (rows : RowsRecord) → HaveRisen rows rows
same_rise rows = record { told = λ row. omega arith; known = λ row. omega arith }

turns_rise : (rows : RowsRecord) (turns : ℕ) → HaveRisen rows (after_turns rows turns)
turns_rise rows zero = same_rise rows
turns_rise rows (suc turns) = let rest = turns_rise (after_turn rows) turns in record { told = rest.told; known = rest.known }

quiet_rise : (rows : RowsRecord) (turns : ℕ) → HaveRisen rows (after_telling (after_turns rows turns))
quiet_rise rows turns = let all = turns_rise rows turns in record { told = all.told; known = all.known }

member_rows : (p : PackerRecord) (member : ℕ) (told : Option (Head × List NamedFloor)) → (after_member p member told).rows ≡ p.rows
member_rows p member None = refl
member_rows p member (Some told) = refl

-- the news that are left change no row
others_rows : (p : PackerRecord) (head : Head) (others : List NamedFloor) → (with_others p head others).rows ≡ p.rows
others_rows p head [] = refl
others_rows p head (one ∷ others) = refl

news_rows : (p : PackerRecord) (told : Head × List NamedFloor) → (after_told p (Some told)).rows ≡ after_news p.rows told.1
news_rows p told = others_rows (record p { rows = after_news p.rows told.1 }) (floor_head told.0) (news p.rows.names p.rows.known told.1)

news_rise : (rows : RowsRecord) (floors : List NamedFloor) → HaveRisen rows (after_news rows floors)
news_rise rows floors = record { told = λ row. omega arith; known = λ row. all_rise rows.names rows.known floors row }

floors_rise : (p : PackerRecord) (told : Option (Head × List NamedFloor)) → HaveRisen p.rows (after_told p told).rows
floors_rise p None = same_rise p.rows
floors_rise p (Some told) = subst (HaveRisen p.rows) (sym (news_rows p told)) (news_rise p.rows told.1)

member_rise : (p : PackerRecord) (member : ℕ) (told : Option (Head × List NamedFloor)) → HaveRisen p.rows (after_told (after_member p member told) told).rows
member_rise p member told =
    subst (λ (rows : RowsRecord). HaveRisen rows (after_told (after_member p member told) told).rows) (member_rows p member told)
    (floors_rise (after_member p member told) told)

claims_rows : (p : PackerRecord) (member : ℕ) (told : Option (Head × List NamedFloor)) → (with_claims p member told).rows ≡ p.rows
claims_rows p member None = refl
claims_rows p member (Some told) = refl

fall_rise : (p : PackerRecord) (member : ℕ) (told : Option (Head × List NamedFloor)) (fall : Option NamedFloor) → HaveRisen p.rows (after_held p member told fall).rows
fall_rise p member told None = member_rise p member told
fall_rise p member told (Some floor) = same_rise p.rows

datagram_rise : (p : PackerRecord) (member : ℕ) (told : Option (Head × List NamedFloor)) → HaveRisen p.rows (after_datagram p member told).rows
datagram_rise p member told = go (is_fallen p.claims member)
  where
    go : (fallen : Bool) → HaveRisen p.rows (cond fallen p (after_held (with_claims p member told) member told (fall_by p member told))).rows
    go true = same_rise p.rows
    go false = subst (λ (rows : RowsRecord). HaveRisen rows (after_held (with_claims p member told) member told (fall_by p member told)).rows) (claims_rows p member told)
        (fall_rise (with_claims p member told) member told (fall_by p member told))

witness_rise : (rows : RowsRecord) (floor : Option NamedFloor) → HaveRisen rows (after_witness rows floor)
witness_rise rows None = same_rise rows
witness_rise rows (Some floor) = record {
  told = raised_rises rows.told (number_of rows.names floor.name) floor.next;
  known = raised_rises rows.known (number_of rows.names floor.name) floor.next;
}

call_rise : (p : PackerRecord) (call : Call) → HaveRisen p.rows (after p call).rows
call_rise p (Came (Received (Peer member) bytes)) = let heard = hearing p member bytes in datagram_rise heard member (told_by heard member bytes)
call_rise p (Came (Received (Client number) bytes)) = same_rise p.rows
call_rise p (Came Quiet) = quiet_rise p.rows (turns_due p)
call_rise p (Came Faulted) = same_rise p.rows
call_rise p (Came (Offered to bytes)) = same_rise p.rows
call_rise p Left = same_rise p.rows
call_rise p (Offer (Peer member) bytes) = witness_rise p.rows (witness_of bytes)
call_rise p (Offer (Client number) bytes) = same_rise p.rows

pub told_rise : (p : PackerRecord) (calls : List Call) (row : ℕ) → slice_index p.rows.told row ≤ slice_index (after_calls p calls).rows.told row
told_rise p [] row = omega arith
told_rise p (call ∷ calls) row =
    let first = (call_rise p call).told row in
    let rest = told_rise (after p call) calls row in
    omega (arith, first, rest)

pub known_rise : (p : PackerRecord) (calls : List Call) (row : ℕ) → slice_index p.rows.known row ≤ slice_index (after_calls p calls).rows.known row
known_rise p [] row = omega arith
known_rise p (call ∷ calls) row =
    let first = (call_rise p call).known row in
    let rest = known_rise (after p call) calls row in
    omega (arith, first, rest)

-- ---- floors that the node bears witness to

get_set : (floors : List ℕ) (place next row value : ℕ) → slice_get (slice_set floors place next) row ≡ Some value → (slice_get floors row ≡ Some value) ⊎ ((place ≡ row) × (next ≡ value))
get_set [] place next row value e = inl e
get_set (one ∷ floors) zero next zero value e = inr (refl, some_is next value e)
get_set (one ∷ floors) zero next (suc row) value e = inl e
get_set (one ∷ floors) (suc place) next zero value e = inl e
get_set (one ∷ floors) (suc place) next (suc row) value e = elim (get_set floors place next row value e) [
  | inl old ↦ inl old
  | inr new ↦ inr (ap (λ (n : ℕ). suc n) new.0, new.1)
]

get_raised : (floors : List ℕ) (place : Option ℕ) (next row value : ℕ) → slice_get (raised floors place next) row ≡ Some value → (slice_get floors row ≡ Some value) ⊎ ((place ≡ Some row) × (next ≡ value))
get_raised floors None next row value e = inl e
get_raised floors (Some place) next row value e = go (ltb (slice_index floors place) next) e
  where
    go : (above : Bool) → slice_get (cond above (slice_set floors place next) floors) row ≡ Some value → (slice_get floors row ≡ Some value) ⊎ ((Some place ≡ Some row) × (next ≡ value))
    go false is = inl is
    go true is = elim (get_set floors place next row value is) [
      | inl old ↦ inl old
      | inr new ↦ inr (ap present new.0, new.1)
    ]

-- each floor of a row was there at the start, or is witnessed
abbrev AreOwn : List (List ℕ) → List ℕ → List Call → List ℕ → Type 0
AreOwn names floors all told = (row value : ℕ) → slice_get told row ≡ Some value → (slice_get floors row ≡ Some value) ⊎ IsWitnessed names all row value

own_witness : (rows : RowsRecord) (floors : List ℕ) (all : List Call) (member : ℕ) (bytes : List ℕ) (floor : Option NamedFloor) → witness_of bytes ≡ floor → Among all (Offer (Peer member) bytes)
    → AreOwn rows.names floors all rows.told → AreOwn rows.names floors all (after_witness rows floor).told
own_witness rows floors all member bytes None e made own = own
own_witness rows floors all member bytes (Some floor) e made own = λ row value at.
    elim (get_raised rows.told (number_of rows.names floor.name) floor.next row value at) [
      | inl old ↦ own row value old
      | inr new ↦ inr (record { member = member; bytes = bytes; is_offered = made; floor = floor; witness_is = e; row_is = new.0; next_is = new.1 })
    ]

turns_told : (rows : RowsRecord) (turns : ℕ) → (after_turns rows turns).told ≡ rows.told
turns_told rows zero = refl
turns_told rows (suc turns) = turns_told (after_turn rows) turns

floors_told : (p : PackerRecord) (told : Option (Head × List NamedFloor)) → (after_told p told).rows.told ≡ p.rows.told
floors_told p None = refl
floors_told p (Some told) = ap (λ (rows : RowsRecord). rows.told) (news_rows p told)

fall_told : (p : PackerRecord) (member : ℕ) (told : Option (Head × List NamedFloor)) (fall : Option NamedFloor) → (after_held p member told fall).rows.told ≡ p.rows.told
fall_told p member told None = floors_told (after_member p member told) told ∙ ap (λ (rows : RowsRecord). rows.told) (member_rows p member told)
fall_told p member told (Some floor) = refl

datagram_told : (p : PackerRecord) (member : ℕ) (told : Option (Head × List NamedFloor)) → (after_datagram p member told).rows.told ≡ p.rows.told
datagram_told p member told = go (is_fallen p.claims member)
  where
    go : (fallen : Bool) → (cond fallen p (after_held (with_claims p member told) member told (fall_by p member told))).rows.told ≡ p.rows.told
    go true = refl
    go false = fall_told (with_claims p member told) member told (fall_by p member told) ∙ ap (λ (rows : RowsRecord). rows.told) (claims_rows p member told)

own_one : (p : PackerRecord) (floors : List ℕ) (all : List Call) (call : Call) → Among all call → AreOwn p.rows.names floors all p.rows.told → AreOwn p.rows.names floors all (after p call).rows.told
own_one p floors all (Came (Received (Peer member) bytes)) made own = subst (AreOwn p.rows.names floors all) (sym (let heard = hearing p member bytes in datagram_told heard member (told_by heard member bytes))) own
own_one p floors all (Came (Received (Client number) bytes)) made own = own
own_one p floors all (Came Quiet) made own = subst (AreOwn p.rows.names floors all) (sym (turns_told p.rows (turns_due p))) own
own_one p floors all (Came Faulted) made own = own
own_one p floors all (Came (Offered to bytes)) made own = own
own_one p floors all Left made own = own
own_one p floors all (Offer (Peer member) bytes) made own = own_witness p.rows floors all member bytes (witness_of bytes) refl made own
own_one p floors all (Offer (Client number) bytes) made own = own

-- ---- the floors of a datagram

among_take : (count : ℕ) (told : List NamedFloor) (floor : NamedFloor) → Among (take count told) floor → Among told floor
among_take zero told floor h = absurd h
among_take (suc count) [] floor h = absurd h
among_take (suc count) (one ∷ told) floor (inl is) = inl is
among_take (suc count) (one ∷ told) floor (inr later) = inr (among_take count told floor later)

among_drop : (count : ℕ) (told : List NamedFloor) (floor : NamedFloor) → Among (drop count told) floor → Among told floor
among_drop zero told floor h = h
among_drop (suc count) [] floor h = absurd h
among_drop (suc count) (one ∷ told) floor h = inr (among_drop count told floor h)

-- the floors of rows that aren't fresh are among the floors
among_fresh : (fresh : List ℕ) (row : ℕ) (floors : List NamedFloor) (floor : NamedFloor) → Among (not_fresh fresh row floors) floor → Among floors floor
among_fresh fresh row [] floor h = absurd h
among_fresh fresh row (one ∷ floors) floor h = go (is_fresh fresh row) (among_fresh fresh (row + 1) floors floor) h
  where
    go : (is : Bool) → (Among (not_fresh fresh (row + 1) floors) floor → Among floors floor)
        → Among (cond is (not_fresh fresh (row + 1) floors) (one ∷ not_fresh fresh (row + 1) floors)) floor → Among (one ∷ floors) floor
    go true rest later = inr (rest later)
    go false rest (inl same) = inl same
    go false rest (inr later) = inr (rest later)

fresh_len : (fresh : List ℕ) (row : ℕ) (floors : List NamedFloor) → length (not_fresh fresh row floors) ≤ length floors
fresh_len fresh row [] = omega arith
fresh_len fresh row (one ∷ floors) = go (is_fresh fresh row) (fresh_len fresh (row + 1) floors)
  where
    go : (is : Bool) → length (not_fresh fresh (row + 1) floors) ≤ length floors
        → length (cond is (not_fresh fresh (row + 1) floors) (one ∷ not_fresh fresh (row + 1) floors)) ≤ length (one ∷ floors)
    go true rest = omega (arith, rest)
    go false rest = omega (arith, rest)

among_named : (names : List (List ℕ)) (told : List ℕ) (floor : NamedFloor) → Among (named_floors names told) floor → (row : ℕ) × (slice_get names row ≡ Some floor.name) × (slice_get told row ≡ Some floor.next)
among_named [] told floor h = absurd h
among_named (name ∷ names) [] floor h = absurd h
among_named (name ∷ names) (next ∷ told) floor (inl is) = (0, ap (λ (f : NamedFloor). present f.name) is, ap (λ (f : NamedFloor). present f.next) is)
among_named (name ∷ names) (next ∷ told) floor (inr later) =
    let rest = among_named names told floor later in (suc rest.0, rest.1, rest.2)

own_floors : (rows : RowsRecord) (floors : List ℕ) (all : List Call) → AreOwn rows.names floors all rows.told → (floor : NamedFloor) → Among (next_floors rows) floor → IsOwnFloor rows.names floors all floor
own_floors rows floors all own floor h =
    let rest = drop rows.turn (named_floors rows.names rows.told) in
    let turn = among_take 20 rest floor (among_fresh rows.fresh rows.turn (take 20 rest) floor h) in
    let at = among_named rows.names rows.told floor (among_drop rows.turn (named_floors rows.names rows.told) floor turn) in
    record { row = at.0; name_is = at.1; next_is = own at.0 floor.next at.2 }

-- ---- the offers of a quiet turn

among_parts : (xs ys : List PortEvent) (one : PortEvent) → Among (xs ++ ys) one → Among xs one ⊎ Among ys one
among_parts [] ys one h = inr h
among_parts (x ∷ xs) ys one (inl is) = inl (inl is)
among_parts (x ∷ xs) ys one (inr later) = elim (among_parts xs ys one later) [
  | inl front ↦ inl (inr front)
  | inr back ↦ inr back
]

-- an event is the offer of a body to another member
record IsBodyOffer (p : PackerRecord) (body : List ℕ) (event : PortEvent) : Type 0 where
  member : ℕ
  is_other : member ≡ p.me → ⊥
  event_is : Offered (Peer member) (floors_datagram p member body) ≡ event

to_member : (p : PackerRecord) (body : List ℕ) (member : ℕ) (event : PortEvent) (me : Bool) → eqb member p.me ≡ me
    → Among (cond me [] (Offered (Peer member) (floors_datagram p member body) ∷ [])) event → IsBodyOffer p body event
to_member p body member event true is h = absurd h
to_member p body member event false is (inr none) = absurd none
to_member p body member event false is (inl same) = record { member = member; is_other = eqb-false member p.me is; event_is = same }

to_members : (p : PackerRecord) (body : List ℕ) (first count : ℕ) (event : PortEvent) → Among (body_offers p body first count) event → IsBodyOffer p body event
to_members p body first zero event h = absurd h
to_members p body first (suc count) event h = elim (among_parts (member_offer p body first) (body_offers p body (first + 1) count) event h) [
  | inl front ↦ to_member p body first event (eqb first p.me) refl front
  | inr back ↦ to_members p body (first + 1) count event back
]

-- the offers of the body of some floors
to_others : (p : PackerRecord) (floors : List NamedFloor) (event : PortEvent) → Among (offers_of p (body_of floors)) event → IsBodyOffer p (floors_body floors) event
to_others p [] event h = absurd h
to_others p (floor ∷ floors) event h = to_members p (floors_body (floor ∷ floors)) 1 p.members event h

-- the event tells floors of the node
record IsFloorsOffer (p : PackerRecord) (floors : List ℕ) (all : List Call) (event : PortEvent) : Type 0 where
  to : Sender
  bytes : List ℕ
  event_is : Offered to bytes ≡ event
  tells : TellsFloors p.key p.rows.names p.me p.boot floors all to bytes

few_next : (rows : RowsRecord) → length (next_floors rows) ≤ 20
few_next rows =
    let rest = drop rows.turn (named_floors rows.names rows.told) in
    let most = length-take 20 rest in
    let len = fresh_len rows.fresh rows.turn (take 20 rest) in
    omega (arith, most, len)

told_turn : (p : PackerRecord) (rows : RowsRecord) (floors : List ℕ) (all : List Call) (event : PortEvent) → rows.names ≡ p.rows.names → AreOwn p.rows.names floors all rows.told
    → IsBodyOffer p (floors_body (next_floors rows)) event → IsFloorsOffer p floors all event
told_turn p rows floors all event same own o = record {
  to = Peer o.member;
  bytes = floors_datagram p o.member (floors_body (next_floors rows));
  event_is = o.event_is;
  tells = record {
    member = o.member;
    to_is = refl;
    is_other = o.is_other;
    told = next_floors rows;
    most = few_next rows;
    each = λ floor h. subst (λ (names : List (List ℕ)). IsOwnFloor names floors all floor) same
        (own_floors rows floors all (subst (λ (names : List (List ℕ)). AreOwn names floors all rows.told) (sym same) own) floor h);
    bytes_are = refl;
  };
}

told_turns : (p : PackerRecord) (rows : RowsRecord) (turns : ℕ) (floors : List ℕ) (all : List Call) (event : PortEvent) → rows.names ≡ p.rows.names → AreOwn p.rows.names floors all rows.told
    → Among (turn_offers p rows turns) event → IsFloorsOffer p floors all event
told_turns p rows zero floors all event same own h = absurd h
told_turns p rows (suc turns) floors all event same own h =
    elim (among_parts (offers_of p (body_of (next_floors rows))) (turn_offers p (after_turn rows) turns) event h) [
      | inl front ↦ told_turn p rows floors all event same own (to_others p (next_floors rows) event front)
      | inr back ↦ told_turns p (after_turn rows) turns floors all event same own back
    ]

-- ---- all calls

abbrev IsOfNode : PackerRecord → List ℕ → List Call → Sender → List ℕ → Type 0
IsOfNode p floors all to bytes = Among all (Offer to bytes) ⊎ TellsFloors p.key p.rows.names p.me p.boot floors all to bytes

abbrev is_offer : PortEvent → Bool
is_offer (Offered to bytes) = true
is_offer (Received sender bytes) = false
is_offer Quiet = false
is_offer Faulted = false

abbrev to_of : PortEvent → Sender
to_of (Offered to bytes) = to
to_of (Received sender bytes) = Peer 0
to_of Quiet = Peer 0
to_of Faulted = Peer 0

abbrev bytes_of : PortEvent → List ℕ
bytes_of (Offered to bytes) = bytes
bytes_of (Received sender bytes) = []
bytes_of Quiet = []
bytes_of Faulted = []

no_offer : (event : PortEvent) (to : Sender) (bytes : List ℕ) → is_offer event ≡ false → event ≡ Offered to bytes → ⊥
no_offer event to bytes other e = true≢false (sym (ap is_offer e) ∙ other)

of_node : (p : PackerRecord) (floors : List ℕ) (all : List Call) (to : Sender) (bytes : List ℕ) → IsFloorsOffer p floors all (Offered to bytes) → IsOfNode p floors all to bytes
of_node p floors all to bytes o =
    let same_to : o.to ≡ to = ap to_of o.event_is in
    let same_bytes : o.bytes ≡ bytes = ap bytes_of o.event_is in
    inr (subst (λ (t : Sender). TellsFloors p.key p.rows.names p.me p.boot floors all t bytes) same_to
    (subst (λ (b : List ℕ). TellsFloors p.key p.rows.names p.me p.boot floors all o.to b) same_bytes o.tells))

offer_one : (p : PackerRecord) (floors : List ℕ) (all : List Call) (call : Call) → may_call p call ≡ true → Among all call → AreOwn p.rows.names floors all p.rows.told → (to : Sender) (bytes : List ℕ)
    → Among (below p call) (Offered to bytes) → IsOfNode p floors all to bytes
offer_one p floors all (Came (Received sender datagram)) may made own to bytes (inl e) = absurd (no_offer (Received sender datagram) to bytes refl e)
offer_one p floors all (Came (Received sender datagram)) may made own to bytes (inr none) = absurd none
offer_one p floors all (Came Quiet) may made own to bytes (inl e) = absurd (no_offer Quiet to bytes refl e)
offer_one p floors all (Came Quiet) may made own to bytes (inr h) = of_node p floors all to bytes (told_turns p p.rows (turns_due p) floors all (Offered to bytes) refl own h)
offer_one p floors all (Came Faulted) may made own to bytes (inl e) = absurd (no_offer Faulted to bytes refl e)
offer_one p floors all (Came Faulted) may made own to bytes (inr none) = absurd none
offer_one p floors all (Came (Offered other datagram)) may made own to bytes h = absurd (true≢false (sym may))
offer_one p floors all Left may made own to bytes h = absurd h
offer_one p floors all (Offer other datagram) may made own to bytes (inl e) =
    let same_to : other ≡ to = ap to_of e in
    let same_bytes : datagram ≡ bytes = ap bytes_of e in
    inl (subst (λ (t : Sender). Among all (Offer t bytes)) same_to (subst (λ (b : List ℕ). Among all (Offer other b)) same_bytes made))
offer_one p floors all (Offer other datagram) may made own to bytes (inr none) = absurd none

offers_over : (p : PackerRecord) (floors : List ℕ) (all calls : List Call) → ((call : Call) → Among calls call → Among all call) → may_make p calls ≡ true → AreOwn p.rows.names floors all p.rows.told
    → (to : Sender) (bytes : List ℕ) → Among (below_events p calls) (Offered to bytes) → IsOfNode p floors all to bytes
offers_over p floors all [] made may own to bytes h = absurd h
offers_over p floors all (call ∷ calls) made may own to bytes h = elim (among_parts (below p call) (below_events (after p call) calls) (Offered to bytes) h) [
  | inl front ↦ offer_one p floors all call (and_parts (may_call p call) (may_make (after p call) calls) may).0 (made call (inl refl)) own to bytes front
  | inr back ↦
      let u = after p call in
      let same = same_start p call no_start in
      let own_after : AreOwn u.rows.names floors all u.rows.told =
      subst (λ (s : PackerRecord). AreOwn s.rows.names floors all u.rows.told) (sym same) (own_one p floors all call (made call (inl refl)) own) in
      subst (λ (s : PackerRecord). IsOfNode s floors all to bytes) same
      (offers_over u floors all calls (λ one a. made one (inr a)) (and_parts (may_call p call) (may_make u calls) may).1 own_after to bytes back)
]

pub told_law : (key : List ℕ) (names : List (List ℕ)) (me boot members : ℕ) (start : StartRecord) (calls : List Call) (to : Sender) (bytes : List ℕ) → may_make (new_packer key names me boot members start) calls ≡ true
    → Among (below_events (new_packer key names me boot members start) calls) (Offered to bytes) → Among calls (Offer to bytes) ⊎ TellsFloors key names me boot start.floors calls to bytes
told_law key names me boot members start calls to bytes may h =
    offers_over (new_packer key names me boot members start) start.floors calls calls (λ call a. a) may (λ row value at. inl at) to bytes h

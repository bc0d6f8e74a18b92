-- The falls that a log is told of: there is room for each, and those that it wasn't told of are the last of all.
use Rattle.std.proofs.Common.{◌≡◌, ℕ, zero, suc, ◌+◌, ◌-◌, ◌<◌, ◌≤◌, Bool, true, false, cond, List, [], ◌∷◌, ◌++◌, length, drop, take, Option, Some, None, refl, sym, ap, subst, ◌∙◌, arith, true≢false, append_assoc, append-nil, length-append}
use Rattle.std.specs.Prelude.{slice_index_or, slice_set}
use Rattle.std.proofs.lemmas.Bool.{lt-leb}
use Rattle.std.proofs.lemmas.List.{drop_at, length-set, take-append-drop}
use Rattle.datagram_port.specs.Port.{PortEvent, Received, Quiet, Faulted, Offered}
use Rattle.datagram_port.specs.declared.port.Sender.TheVariants.{Client, Peer}
use Rattle.named_wire.specs.declared.head.Head.{Head}
use Rattle.gatekeeping.specs.declared.gatekeeper.Fell.{Fell}
use Rattle.floor_port.specs.Claims.{ClaimsRecord, claims_after, falls, fell_of, first_fall, is_fallen, is_older, kept_after, with_fallen, with_fell}
use Rattle.floor_port.specs.Packer.{PackerRecord, after_datagram, after_held, fall_by, fell_by, hearing, told_by, with_claims}
use Rattle.floor_port.specs.Runs.{AreUntold, Call, Came, IsAfter, Left, Offer, after, after_calls, at_start, fell_before, fell_in, fells_over}
use Rattle.floor_port.specs.declared.floor.NamedFloor.{NamedFloor}
use Rattle.floor_port.specs.declared.record.Record.{Record}
use Rattle.floor_port.proofs.CallLemmas.{same_start}
use Rattle.floor_port.proofs.ClaimLemmas.{sender_bounds}
use Rattle.floor_port.proofs.HandLemmas.{floors_claims, sent_parts}

-- ---- the number of fallen members

abbrev count : List Bool → ℕ
count [] = 0
count (false ∷ bs) = count bs
count (true ∷ bs) = suc (count bs)

count_most : (bs : List Bool) → count bs ≤ length bs
count_most [] = omega arith
count_most (false ∷ bs) = let rest = count_most bs in omega (arith, rest)
count_most (true ∷ bs) = let rest = count_most bs in omega (arith, rest)

count_set : (bs : List Bool) (m : ℕ) → m < length bs → slice_index_or bs m false ≡ false → count (slice_set bs m true) ≡ suc (count bs)
count_set [] m low is = absurd (omega (arith, low))
count_set (true ∷ bs) zero low is = absurd (true≢false is)
count_set (false ∷ bs) zero low is = refl
count_set (true ∷ bs) (suc m) low is = ap (λ (n : ℕ). suc n) (count_set bs m (omega (arith, low)) is)
count_set (false ∷ bs) (suc m) low is = count_set bs m (omega (arith, low)) is

-- the falls of a step, by one or none
abbrev number : Option Fell → ℕ
number None = 0
number (Some fell) = 1

-- each fall makes one more member fallen
record IsCounted (old new : List Bool) (fell : Option Fell) : Type 0 where
  places : length new ≡ 10
  counted : count new ≡ count old + number fell

counted_none : (fallen : List Bool) → length fallen ≡ 10 → IsCounted fallen fallen None
counted_none fallen ten = record { places = ten; counted = omega arith }

counted_set : (fallen : List Bool) (member : ℕ) (fall : Option NamedFloor) → length fallen ≡ 10 → member ≤ 9 → slice_index_or fallen member false ≡ false
    → IsCounted fallen (with_fallen fallen member fall) (fell_of member fall)
counted_set fallen member None ten low not_yet = counted_none fallen ten
counted_set fallen member (Some floor) ten low not_yet = record {
  places = length-set fallen member true ∙ ten;
  counted = (let one = count_set fallen member (omega (arith, ten, low)) not_yet in omega (arith, one));
}

counted_claims : (claims : ClaimsRecord) (names : List (List ℕ)) (member boot : ℕ) (floors : List NamedFloor) → length claims.fallen ≡ 10 → member ≤ 9 → is_fallen claims member ≡ false
    → IsCounted claims.fallen (claims_after claims names member boot floors).fallen (fell_of member (falls claims names member boot floors))
counted_claims claims names member boot floors ten low not_yet = go (is_older claims member boot)
  where
    fall : Option NamedFloor
    fall = first_fall names member boot claims.kept floors

    go : (older : Bool) → IsCounted claims.fallen
        (cond older claims (record { boots = slice_set claims.boots member boot; fallen = with_fallen claims.fallen member fall; kept = kept_after names member boot claims.kept floors })).fallen
        (fell_of member (cond older None fall))
    go true = counted_none claims.fallen ten
    go false = counted_set claims.fallen member fall ten low not_yet

counted_told : (p : PackerRecord) (member : ℕ) (bytes : List ℕ) (told : Option (Head × List NamedFloor)) → told_by p member bytes ≡ told → length p.claims.fallen ≡ 10 → is_fallen p.claims member ≡ false
    → IsCounted p.claims.fallen (with_claims p member told).claims.fallen (fell_of member (fall_by p member told))
counted_told p member bytes None e ten not_yet = counted_none p.claims.fallen ten
counted_told p member bytes (Some told) e ten not_yet =
    let s = sent_parts p.key p.heard member p.me bytes told e in
    let bounds = sender_bounds p.key bytes told.0 s.body s.reads in
    let high = bounds.1 in
    let from = s.from_is in
    counted_claims p.claims p.rows.names member told.0.boot told.1 ten (omega (arith, high, from)) not_yet

counted_datagram : (p : PackerRecord) (member : ℕ) (bytes : List ℕ) → length p.claims.fallen ≡ 10
    → IsCounted p.claims.fallen (after_datagram p member (told_by p member bytes)).claims.fallen (fell_by p member (told_by p member bytes))
counted_datagram p member bytes ten = go (is_fallen p.claims member) refl
  where
    told : Option (Head × List NamedFloor)
    told = told_by p member bytes

    go : (fallen : Bool) → is_fallen p.claims member ≡ fallen
        → IsCounted p.claims.fallen (cond fallen p (after_held (with_claims p member told) member told (fall_by p member told))).claims.fallen
        (cond fallen None (fell_of member (fall_by p member told)))
    go true is = counted_none p.claims.fallen ten
    go false is = subst (λ (c : ClaimsRecord). IsCounted p.claims.fallen c.fallen (fell_of member (fall_by p member told)))
        (sym (floors_claims (with_claims p member told) member told (fall_by p member told))) (counted_told p member bytes told refl ten is)

counted_one : (p : PackerRecord) (call : Call) → length p.claims.fallen ≡ 10 → IsCounted p.claims.fallen (after p call).claims.fallen (fell_in p call)
counted_one p (Came (Received (Peer member) bytes)) ten = counted_datagram (hearing p member bytes) member bytes ten
counted_one p (Came (Received (Client number) bytes)) ten = counted_none p.claims.fallen ten
counted_one p (Came Quiet) ten = counted_none p.claims.fallen ten
counted_one p (Came Faulted) ten = counted_none p.claims.fallen ten
counted_one p (Came (Offered to bytes)) ten = counted_none p.claims.fallen ten
counted_one p Left ten = counted_none p.claims.fallen ten
counted_one p (Offer (Peer member) bytes) ten = counted_none p.claims.fallen ten
counted_one p (Offer (Client number) bytes) ten = counted_none p.claims.fallen ten

before_len : (fell : Option Fell) (fells : List Fell) → length (fell_before fell fells) ≡ number fell + length fells
before_len None fells = omega arith
before_len (Some fell) fells = omega arith

-- all falls are counted
record AreCounted (p : PackerRecord) (calls : List Call) : Type 0 where
  places : length (after_calls p calls).claims.fallen ≡ 10
  counted : count (after_calls p calls).claims.fallen ≡ count p.claims.fallen + length (fells_over p calls)

counted_calls : (p : PackerRecord) (calls : List Call) → length p.claims.fallen ≡ 10 → AreCounted p calls
counted_calls p [] ten = record { places = ten; counted = omega arith }
counted_calls p (call ∷ calls) ten =
    let one = counted_one p call ten in
    let rest = counted_calls (after p call) calls one.places in
    let first = one.counted in
    let others = rest.counted in
    let len = before_len (fell_in p call) (fells_over (after p call) calls) in
    record { places = rest.places; counted = omega (arith, first, others, len) }

-- ---- one more call

before_more : (fell last : Option Fell) (fells : List Fell) → fell_before fell (fells ++ fell_before last []) ≡ fell_before fell fells ++ fell_before last []
before_more None last fells = refl
before_more (Some fell) last fells = refl

fells_more : (p : PackerRecord) (calls : List Call) (call : Call) → fells_over p (calls ++ call ∷ []) ≡ fells_over p calls ++ fell_before (fell_in (after_calls p calls) call) []
fells_more p [] call = refl
fells_more p (one ∷ calls) call =
    ap (fell_before (fell_in p one)) (fells_more (after p one) calls call)
    ∙ before_more (fell_in p one) (fell_in (after_calls (after p one) calls) call) (fells_over (after p one) calls)

with_room : (fells : List Fell) (fell : Option Fell) → length fells + number fell ≤ 10 → with_fell fells fell ≡ fells ++ fell_before fell []
with_room fells None room = sym (append-nil fells)
with_room fells (Some fell) room = ap (λ (full : Bool). cond full fells (fells ++ fell ∷ [])) (lt-leb 10 (length fells) (omega (arith, room)))

-- all falls are those that the log was told of, and the others
record HasTold (fells all : List Fell) : Type 0 where
  told : List Fell
  all_are : all ≡ told ++ fells

told_before : (fells all : List Fell) → AreUntold fells all → HasTold fells all
told_before fells all untold = record {
  told = take (length all - length fells) all;
  all_are = sym (take-append-drop (length all - length fells) all) ∙ ap (λ (l : List Fell). take (length all - length fells) all ++ l) (sym untold.last);
}

after_told_ones : (fells all : List Fell) → HasTold fells all → AreUntold fells all
after_told_ones fells all h =
    let len = ap (λ (l : List Fell). length l) h.all_are ∙ length-append h.told fells in
    record {
      few = omega (arith, len);
      last = sym (ap (drop (length all - length fells)) h.all_are ∙ drop_at h.told fells (length all - length fells) (omega (arith, len)));
    }

-- the falls that wait are no more than the members that may fall
room_for : (p : PackerRecord) (calls : List Call) (call : Call) (fells : List Fell) → length p.claims.fallen ≡ 10 → AreUntold fells (fells_over p calls)
    → length fells + number (fell_in (after_calls p calls) call) ≤ 10
room_for p calls call fells ten untold =
    let all = counted_calls p calls ten in
    let one = counted_one (after_calls p calls) call all.places in
    let first = all.counted in
    let last = one.counted in
    let most = count_most (after (after_calls p calls) call).claims.fallen in
    let places = one.places in
    let few = untold.few in
    omega (arith, first, last, most, places, few)

untold_more : (p : PackerRecord) (calls : List Call) (call : Call) (fells : List Fell) → length p.claims.fallen ≡ 10 → AreUntold fells (fells_over p calls)
    → AreUntold (with_fell fells (fell_in (after_calls p calls) call)) (fells_over p (calls ++ call ∷ []))
untold_more p calls call fells ten untold =
    let fell = fell_in (after_calls p calls) call in
    let before = told_before fells (fells_over p calls) untold in
    after_told_ones (with_fell fells fell) (fells_over p (calls ++ call ∷ [])) (record {
      told = before.told;
      all_are = fells_more p calls call ∙ ap (λ (l : List Fell). l ++ fell_before fell []) before.all_are ∙ append_assoc before.told fells (fell_before fell [])
          ∙ ap (λ (l : List Fell). before.told ++ l) (sym (with_room fells fell (room_for p calls call fells ten untold)));
    })

-- a call that the record of a port notes
pub untold_noted : (below : Option (List PortEvent)) (p u : PackerRecord) (before now : Record) (call : Call) (fells new : List Fell) → IsAfter below p (at_start p before.start) before.calls → length before.start.gone_back ≡ 10
    → AreUntold fells (fells_over (at_start p before.start) before.calls) → now ≡ record before { calls = before.calls ++ call ∷ [] } → u ≡ after p call → new ≡ with_fell fells (fell_in p call)
    → AreUntold new (fells_over (at_start u now.start) now.calls)
untold_noted below p u before now call fells new a ten untold noted is new_is =
    subst (λ (r : Record). AreUntold new (fells_over (at_start u r.start) r.calls)) (sym noted)
    (subst (λ (x : PackerRecord). AreUntold new (fells_over x (before.calls ++ call ∷ []))) (sym (ap (λ (x : PackerRecord). at_start x before.start) is ∙ same_start p call before.start))
    (subst (λ (l : List Fell). AreUntold l (fells_over (at_start p before.start) (before.calls ++ call ∷ []))) (sym (new_is ∙ ap (λ (x : PackerRecord). with_fell fells (fell_in x call)) a.packer_is))
    (untold_more (at_start p before.start) before.calls call fells ten untold)))

-- the members that are known at the start to have gone back stay the same
pub places_noted : (before now : Record) (calls : List Call) → length before.start.gone_back ≡ 10 → now ≡ record before { calls = calls } → length now.start.gone_back ≡ 10
places_noted before now calls ten noted = ap (λ (r : Record). length r.start.gone_back) noted ∙ ten

-- the log took the first of them
pub untold_taken : (fells all : List Fell) → AreUntold fells all → AreUntold (drop 1 fells) all
untold_taken [] all untold = untold
untold_taken (fell ∷ fells) all untold =
    let before = told_before (fell ∷ fells) all untold in
    after_told_ones fells all (record {
      told = before.told ++ fell ∷ [];
      all_are = before.all_are ∙ sym (append_assoc before.told (fell ∷ []) fells);
    })

-- at the start
pub untold_none : (p : PackerRecord) (calls : List Call) (fells : List Fell) → fells ≡ [] → calls ≡ [] → AreUntold fells (fells_over p calls)
untold_none p calls fells none no_calls =
    subst (λ (l : List Fell). AreUntold l (fells_over p calls)) (sym none)
    (subst (λ (c : List Call). AreUntold [] (fells_over p c)) (sym no_calls) (record { few = omega arith; last = refl }))

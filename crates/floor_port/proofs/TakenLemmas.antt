-- The translator above a port has heard no greater boots than the port.
use Rattle.std.proofs.Common.{◌≡◌, ◌∙◌, ℕ, ◌<◌, ◌≤◌, Bool, true, false, cond, eqb, leb, ltb, List, [], ◌∷◌, length, drop, Option, Some, None, refl, sym, ap, subst, arith, true≢false, inl, inr}
use Rattle.std.specs.Prelude.{◌⊎◌, ◌&&◌, slice_index, slice_index_or, slice_set}
use Rattle.std.proofs.lemmas.Bool.{and_parts, eq-eqb, eqb-true, le-leb, le-ltb, leb-true, ltb-false}
use Rattle.datagram_port.specs.Port.{PortEvent, Received, Quiet, Faulted, Offered}
use Rattle.datagram_port.specs.declared.port.Sender.TheVariants.{Client, Peer}
use Rattle.named_port.specs.Runs.{after_events, boot_of}
use Rattle.named_port.specs.Translator as translator
use Rattle.named_port.specs.Translator.{TranslatorRecord, after_read, between, is_older}
use Rattle.named_port.proofs.RunLemmas.{keeps_event}
use Rattle.named_wire.specs.Datagram.{datagram_at, datagram_bytes}
use Rattle.named_wire.specs.declared.head.Head.{Head}
use Rattle.floor_port.specs.Claims.{is_fallen}
use Rattle.floor_port.specs.Floors.{floor_bytes}
use Rattle.floor_port.specs.Pace.{after_heard}
use Rattle.floor_port.specs.Packer.{PackerRecord, StartRecord, after_datagram, after_event, after_held, bytes_of, bytes_or, fall_by, first_bytes, first_of, floor_head, hearing, member_bytes, new_packer, sent_by, told_by, with_boot, with_claims, with_others}
use Rattle.floor_port.specs.Promises.{IsInTime, above}
use Rattle.floor_port.specs.Rows.{after_news, news}
use Rattle.floor_port.specs.Runs.{Call, Came, Left, Offer, after, after_calls, handed, handed_events, may_call, may_make}
use Rattle.floor_port.specs.declared.floor.NamedFloor.{NamedFloor}
use Rattle.floor_port.proofs.BootLemmas.{boot_reached, boots_len, boots_rise, nothing_read, read_parts, written_boot}
use Rattle.floor_port.proofs.CallLemmas.{no_start, same_start}
use Rattle.floor_port.proofs.ClaimLemmas.{at_set, sender_bounds}
use Rattle.floor_port.proofs.HandLemmas.{sent_parts}

-- ---- the boots of a translator

-- each boot of some is at most that of the others
abbrev AreWithin : List ℕ → List ℕ → Type 0
AreWithin boots others = (m : ℕ) → slice_index boots m ≤ slice_index others m

-- a datagram of a member is read in no greater boot than the given one
abbrev IsWithin : List ℕ → ℕ → ℕ → List ℕ → ℕ → Type 0
IsWithin key me member bytes boot = (read : Head × List ℕ) → between member me (datagram_at key bytes) ≡ Some read → read.0.boot ≤ boot

-- the translator's boots after a datagram that was read
within_read : (t : TranslatorRecord) (member : ℕ) (read : Head × List ℕ) (boots : List ℕ) → AreWithin t.heard boots → read.0.from ≡ member → read.0.boot ≤ slice_index boots member
    → AreWithin (after_read t (Some read)).heard boots
within_read t member read boots within from most = go (is_older t.heard read.0)
  where
    set : (m : ℕ) → slice_index (slice_set t.heard read.0.from read.0.boot) m ≤ slice_index boots m
    set m = elim (at_set t.heard read.0.from m read.0.boot 0) [
      | inl same ↦ (let old = within m in omega (arith, same, old))
      | inr hit ↦
          let there : slice_index boots member ≡ slice_index boots m = ap (slice_index boots) (sym from ∙ hit.0) in
          let new = hit.1 in
          omega (arith, new, there, most)
    ]

    go : (older : Bool)
        → AreWithin (cond older (record t { older = Some (record { member = read.0.from; boot = read.0.boot }) }) (record t { heard = slice_set t.heard read.0.from read.0.boot })).heard boots
    go true = within
    go false = set

-- and after a datagram that came from a member's address
within_event : (t : TranslatorRecord) (member : ℕ) (bytes boots : List ℕ) → AreWithin t.heard boots → IsWithin t.key t.me member bytes (slice_index boots member)
    → AreWithin (translator.after_event t (Received (Peer member) bytes)).heard boots
within_event t member bytes boots within most = go (translator.sent_by t member bytes) refl
  where
    go : (o : Option (Head × List ℕ)) → translator.sent_by t member bytes ≡ o → AreWithin (after_read t o).heard boots
    go None e = within
    go (Some read) e = within_read t member read boots within (read_parts t.key member t.me bytes read e).from_is (most read e)

-- ---- the boots of the port

-- the port hears no lower boots than before
hearing_rises : (p : PackerRecord) (member : ℕ) (bytes : List ℕ) → AreWithin p.heard (hearing p member bytes).heard
hearing_rises p member bytes = go (is_fallen p.claims member)
  where
    go : (fallen : Bool) → AreWithin p.heard (cond fallen p.heard (with_boot p.heard member (boot_of (sent_by p member bytes))))
    go true = λ m. omega arith
    go false = λ m. boots_rise p.heard member (boot_of (sent_by p member bytes)) m

hearing_len : (p : PackerRecord) (member : ℕ) (bytes : List ℕ) → length (hearing p member bytes).heard ≡ length p.heard
hearing_len p member bytes = go (is_fallen p.claims member)
  where
    go : (fallen : Bool) → length (cond fallen p.heard (with_boot p.heard member (boot_of (sent_by p member bytes)))) ≡ length p.heard
    go true = refl
    go false = boots_len p.heard member (boot_of (sent_by p member bytes))

-- it hears the boot of what a member sent that hasn't fallen
hearing_reaches : (p : PackerRecord) (member : ℕ) (bytes : List ℕ) (read : Head × List ℕ) → length p.heard ≡ 10 → is_fallen p.claims member ≡ false → sent_by p member bytes ≡ Some read
    → read.0.boot ≤ slice_index (hearing p member bytes).heard member
hearing_reaches p member bytes read len is e =
    let r = read_parts p.key member p.me bytes read e in
    let high = (sender_bounds p.key bytes read.0 read.1 r.reads).1 in
    let from = r.from_is in
    let boot = ap boot_of e in
    let reached = boot_reached p.heard member (boot_of (sent_by p member bytes)) (omega (arith, high, from, len)) in
    subst (λ (b : Bool). read.0.boot ≤ slice_index (cond b p.heard (with_boot p.heard member (boot_of (sent_by p member bytes)))) member) (sym is)
    (omega (arith, boot, reached))

-- what a member told, it sent
told_sent : (p : PackerRecord) (member : ℕ) (bytes : List ℕ) (told : Head × List NamedFloor) → told_by p member bytes ≡ Some told → (body : List ℕ) × (sent_by p member bytes ≡ Some (told.0, body))
told_sent p member bytes told e =
    let s = sent_parts p.key p.heard member p.me bytes told e in (
      s.body,
      ap (between member p.me) s.reads
          ∙ ap (λ (b : Bool). cond (b && eqb told.0.to p.me) (Some (told.0, s.body)) None) (eq-eqb told.0.from member s.from_is)
          ∙ ap (λ (b : Bool). cond b (Some (told.0, s.body)) None) (eq-eqb told.0.to p.me s.to_is),
    )

-- what it told is of the greatest boot of the member that the port heard
record IsGreatest (heard : List ℕ) (member : ℕ) (head : Head) : Type 0 where
  from_is : head.from ≡ member
  boot_is : slice_index heard head.from ≡ head.boot

told_greatest : (p : PackerRecord) (member : ℕ) (bytes : List ℕ) (told : Head × List NamedFloor) → length p.heard ≡ 10 → is_fallen p.claims member ≡ false
    → told_by (hearing p member bytes) member bytes ≡ Some told → IsGreatest (hearing p member bytes).heard member told.0
told_greatest p member bytes told len is e =
    let h = hearing p member bytes in
    let s = sent_parts h.key h.heard member h.me bytes told e in
    let sent = told_sent h member bytes told e in
    let newer = ltb-false told.0.boot (slice_index h.heard told.0.from) s.newer in
    let reached = hearing_reaches p member bytes (told.0, sent.0) len is sent.1 in
    let there : slice_index h.heard told.0.from ≡ slice_index h.heard member = ap (slice_index h.heard) s.from_is in
    record { from_is = s.from_is; boot_is = omega (arith, newer, reached, there) }

-- ---- what is handed in of a datagram

-- no bytes tell a boot
none_within : (key : List ℕ) (me member boot : ℕ) → IsWithin key me member [] boot
none_within key me member boot = λ read e. absurd (nothing_read key read (read_parts key member me [] read e).reads)

-- the datagram of the first of some news, or the same one
first_within : (key : List ℕ) (me member boot : ℕ) (bytes : List ℕ) (head : Head) (floors : List NamedFloor) → IsWithin key me member bytes boot → head.boot ≤ boot
    → IsWithin key me member (bytes_or (first_of key head floors) bytes) boot
first_within key me member boot bytes head [] same most = same
first_within key me member boot bytes head (floor ∷ floors) same most = λ read e.
    let less = written_boot key (floor_bytes floor) head read (read_parts key member me (datagram_bytes key head (floor_bytes floor)) read e).reads in
    omega (arith, less, most)

-- the next floor that is left
next_within : (key : List ℕ) (me boot : ℕ) (head : Head) (floors : List NamedFloor) → head.boot ≤ boot → IsWithin key me head.from (first_bytes key head floors) boot
next_within key me boot head [] most = none_within key me head.from boot
next_within key me boot head (floor ∷ floors) most = λ read e.
    let less = written_boot key (floor_bytes floor) head read (read_parts key head.from me (datagram_bytes key head (floor_bytes floor)) read e).reads in
    omega (arith, less, most)

bytes_within : (p : PackerRecord) (member : ℕ) (bytes : List ℕ) → length p.heard ≡ 10
    → IsWithin p.key p.me member (member_bytes (hearing p member bytes) member bytes) (slice_index (hearing p member bytes).heard member)
bytes_within p member bytes len = by_fallen (is_fallen p.claims member) refl
  where
    h : PackerRecord
    h = hearing p member bytes

    greatest : ℕ
    greatest = slice_index h.heard member

    same : is_fallen p.claims member ≡ false → IsWithin p.key p.me member bytes greatest
    same is = λ read e. hearing_reaches p member bytes read len is e

    by_told : (told : Option (Head × List NamedFloor)) → told_by h member bytes ≡ told → (fall : Option NamedFloor) → is_fallen p.claims member ≡ false
        → IsWithin p.key p.me member (bytes_or (bytes_of h told fall) bytes) greatest
    by_told told e (Some floor) is = none_within p.key p.me member greatest
    by_told None e None is = same is
    by_told (Some told) e None is =
        let g = told_greatest p member bytes told len is e in
        let boot = g.boot_is in
        let there : slice_index h.heard told.0.from ≡ greatest = ap (slice_index h.heard) g.from_is in
        first_within p.key p.me member greatest bytes (floor_head told.0) (news h.rows.names h.rows.known told.1) (same is) (omega (arith, boot, there))

    by_fallen : (fallen : Bool) → is_fallen p.claims member ≡ fallen
        → IsWithin p.key p.me member (bytes_or (cond fallen (Some []) (bytes_of h (told_by h member bytes) (fall_by h member (told_by h member bytes)))) bytes) greatest
    by_fallen true is = none_within p.key p.me member greatest
    by_fallen false is = by_told (told_by h member bytes) refl (fall_by h member (told_by h member bytes)) is

-- ---- what a datagram leaves

-- the floors that are left are of the greatest boot of their member
abbrev AreOfGreatest : PackerRecord → Type 0
AreOfGreatest p = leb 1 (length p.pending.floors) ≡ true → slice_index p.heard p.pending.head.from ≡ p.pending.head.boot

others_heard : (p : PackerRecord) (head : Head) (floors : List NamedFloor) → (with_others p head floors).heard ≡ p.heard
others_heard p head [] = refl
others_heard p head (floor ∷ floors) = refl

claims_heard : (p : PackerRecord) (member : ℕ) (told : Option (Head × List NamedFloor)) → (with_claims p member told).heard ≡ p.heard
claims_heard p member None = refl
claims_heard p member (Some told) = refl

held_heard : (p : PackerRecord) (member : ℕ) (told : Option (Head × List NamedFloor)) (fall : Option NamedFloor) → (after_held p member told fall).heard ≡ p.heard
held_heard p member told (Some floor) = refl
held_heard p member None None = refl
held_heard p member (Some told) None =
    others_heard (record p { pace = after_heard p.pace member (length p.rows.told); rows = after_news p.rows told.1 }) (floor_head told.0) (news p.rows.names p.rows.known told.1)

datagram_heard : (p : PackerRecord) (member : ℕ) (told : Option (Head × List NamedFloor)) → (after_datagram p member told).heard ≡ p.heard
datagram_heard p member told = go (is_fallen p.claims member)
  where
    go : (fallen : Bool) → (cond fallen p (after_held (with_claims p member told) member told (fall_by p member told))).heard ≡ p.heard
    go true = refl
    go false = held_heard (with_claims p member told) member told (fall_by p member told) ∙ claims_heard p member told

nothing_left : (p : PackerRecord) → eqb (length p.pending.floors) 0 ≡ true → AreOfGreatest p
nothing_left p none = λ some.
    let zero_is = eqb-true (length p.pending.floors) 0 none in
    let one_is = leb-true 1 (length p.pending.floors) some in
    absurd (omega (arith, zero_is, one_is))

others_left : (p : PackerRecord) (head : Head) (floors : List NamedFloor) → AreOfGreatest p → slice_index p.heard head.from ≡ head.boot → AreOfGreatest (with_others p head floors)
others_left p head [] old new = old
others_left p head (floor ∷ floors) old new = λ some. new

datagram_left : (p : PackerRecord) (member : ℕ) (bytes : List ℕ) → length p.heard ≡ 10 → eqb (length p.pending.floors) 0 ≡ true
    → AreOfGreatest (after_datagram (hearing p member bytes) member (told_by (hearing p member bytes) member bytes))
datagram_left p member bytes len none = by_fallen (is_fallen p.claims member) refl
  where
    h : PackerRecord
    h = hearing p member bytes

    by_told : (told : Option (Head × List NamedFloor)) → told_by h member bytes ≡ told → (fall : Option NamedFloor) → is_fallen p.claims member ≡ false
        → AreOfGreatest (after_held (with_claims h member told) member told fall)
    by_told told e (Some floor) is = λ some. absurd (true≢false (sym some))
    by_told None e None is = nothing_left h none
    by_told (Some told) e None is =
        others_left (record (with_claims h member (Some told)) { pace = after_heard h.pace member (length h.rows.told); rows = after_news h.rows told.1 }) (floor_head told.0)
        (news h.rows.names h.rows.known told.1) (nothing_left h none) (told_greatest p member bytes told len is e).boot_is

    by_fallen : (fallen : Bool) → is_fallen p.claims member ≡ fallen
        → AreOfGreatest (cond fallen h (after_held (with_claims h member (told_by h member bytes)) member (told_by h member bytes) (fall_by h member (told_by h member bytes))))
    by_fallen true is = nothing_left h none
    by_fallen false is = by_told (told_by h member bytes) refl (fall_by h member (told_by h member bytes)) is

rest_left : (p : PackerRecord) → leb 1 (length p.pending.floors) ≡ true → AreOfGreatest p → AreOfGreatest (after p Left)
rest_left p some old = λ rest. old some

-- ---- a translator above a port

record IsAbove (t : TranslatorRecord) (p : PackerRecord) : Type 0 where
  key : t.key ≡ p.key
  me : t.me ≡ p.me
  places : length p.heard ≡ 10
  within : AreWithin t.heard p.heard
  left : AreOfGreatest p

-- what a call hands in
within_call : (t : TranslatorRecord) (p : PackerRecord) (call : Call) → may_call p call ≡ true → IsAbove t p → AreWithin (translator.after_event t (handed p call)).heard (after p call).heard
within_call t p (Came (Received (Peer member) bytes)) may a =
    let h = hearing p member bytes in
    let came = member_bytes h member bytes in
    let most : IsWithin t.key t.me member came (slice_index h.heard member) =
    subst (λ (k : List ℕ). IsWithin k t.me member came (slice_index h.heard member)) (sym a.key)
    (subst (λ (n : ℕ). IsWithin p.key n member came (slice_index h.heard member)) (sym a.me) (bytes_within p member bytes a.places)) in
    let all : AreWithin t.heard h.heard = λ m. (let one = a.within m in let two = hearing_rises p member bytes m in omega (arith, one, two)) in
    subst (AreWithin (translator.after_event t (Received (Peer member) came)).heard) (sym (datagram_heard h member (told_by h member bytes)))
    (within_event t member came h.heard all most)
within_call t p (Came (Received (Client number) bytes)) may a = a.within
within_call t p (Came Quiet) may a = a.within
within_call t p (Came Faulted) may a = a.within
within_call t p (Came (Offered to bytes)) may a = a.within
within_call t p Left may a =
    let head = p.pending.head in
    let next = first_bytes p.key head p.pending.floors in
    let same = a.left may in
    let most : IsWithin t.key t.me head.from next (slice_index p.heard head.from) =
    subst (λ (k : List ℕ). IsWithin k t.me head.from next (slice_index p.heard head.from)) (sym a.key)
    (next_within p.key t.me (slice_index p.heard head.from) head p.pending.floors (omega (arith, same))) in
    within_event t head.from next p.heard a.within most
within_call t p (Offer (Peer member) bytes) may a = a.within
within_call t p (Offer (Client number) bytes) may a = a.within

left_call : (p : PackerRecord) (call : Call) → may_call p call ≡ true → length p.heard ≡ 10 → AreOfGreatest p → AreOfGreatest (after p call)
left_call p (Came (Received (Peer member) bytes)) may len old = datagram_left p member bytes len may
left_call p (Came (Received (Client number) bytes)) may len old = old
left_call p (Came Quiet) may len old = old
left_call p (Came Faulted) may len old = old
left_call p (Came (Offered to bytes)) may len old = old
left_call p Left may len old = rest_left p may old
left_call p (Offer (Peer member) bytes) may len old = old
left_call p (Offer (Client number) bytes) may len old = old

len_call : (p : PackerRecord) (call : Call) → length (after p call).heard ≡ length p.heard
len_call p (Came (Received (Peer member) bytes)) =
    let h = hearing p member bytes in
    ap (λ (boots : List ℕ). length boots) (datagram_heard h member (told_by h member bytes)) ∙ hearing_len p member bytes
len_call p (Came (Received (Client number) bytes)) = refl
len_call p (Came Quiet) = refl
len_call p (Came Faulted) = refl
len_call p (Came (Offered to bytes)) = refl
len_call p Left = refl
len_call p (Offer (Peer member) bytes) = refl
len_call p (Offer (Client number) bytes) = refl

above_call : (t : TranslatorRecord) (p : PackerRecord) (call : Call) → may_call p call ≡ true → IsAbove t p → IsAbove (translator.after_event t (handed p call)) (after p call)
above_call t p call may a =
    let k = keeps_event t (handed p call) in
    record {
      key = k.key ∙ a.key ∙ sym (ap (λ (x : PackerRecord). x.key) (same_start p call no_start));
      me = k.me ∙ a.me ∙ sym (ap (λ (x : PackerRecord). x.me) (same_start p call no_start));
      places = len_call p call ∙ a.places;
      within = within_call t p call may a;
      left = left_call p call may a.places a.left;
    }

above_calls : (t : TranslatorRecord) (p : PackerRecord) (calls : List Call) → may_make p calls ≡ true → IsAbove t p → IsAbove (after_events t (handed_events p calls)) (after_calls p calls)
above_calls t p [] may a = a
above_calls t p (call ∷ calls) may a =
    let parts = and_parts (may_call p call) (may_make (after p call) calls) may in
    above_calls (translator.after_event t (handed p call)) (after p call) calls parts.1 (above_call t p call parts.0 a)

-- no call changes the key
key_over : (p : PackerRecord) (calls : List Call) → (after_calls p calls).key ≡ p.key
key_over p [] = refl
key_over p (call ∷ calls) = key_over (after p call) calls ∙ ap (λ (x : PackerRecord). x.key) (same_start p call no_start)

-- ---- from the start

above_start : (key : List ℕ) (names : List (List ℕ)) (me boot members : ℕ) (start : StartRecord) (calls : List Call) → length start.known ≡ 10 → may_make (new_packer key names me boot members start) calls ≡ true
    → IsAbove (above (new_packer key names me boot members start) calls) (after_calls (new_packer key names me boot members start) calls)
above_start key names me boot members start calls len may =
    above_calls (translator.new_translator key names me boot start.known) (new_packer key names me boot members start) calls may
    (record { key = refl; me = refl; places = len; within = λ m. omega arith; left = λ some. absurd (true≢false (sym some)) })

-- what raises a known floor tells floors, in a boot that the translator doesn't drop
noted : (t : TranslatorRecord) (p : PackerRecord) (member row : ℕ) (bytes : List ℕ) → IsAbove t p
    → slice_index p.rows.known row < slice_index (after_event p (Received (Peer member) bytes)).rows.known row → IsInTime p.key t bytes
noted t p member row bytes a less = by_told (told_by h member bytes) refl less
  where
    h : PackerRecord
    h = hearing p member bytes

    same : (fallen : Bool) → slice_index p.rows.known row < slice_index (cond fallen h h).rows.known row → ⊥
    same true more = omega (arith, more)
    same false more = omega (arith, more)

    by_told : (o : Option (Head × List NamedFloor)) → told_by h member bytes ≡ o → slice_index p.rows.known row < slice_index (after_datagram h member o).rows.known row → IsInTime p.key t bytes
    by_told None e more = absurd (same (is_fallen p.claims member) more)
    by_told (Some told) e more =
        let s = sent_parts p.key h.heard member p.me bytes told e in
        let newer = ltb-false told.0.boot (slice_index h.heard told.0.from) s.newer in
        let below = a.within told.0.from in
        let rises = hearing_rises p member bytes told.0.from in
        record { head = told.0; body = s.body; reads = s.reads; boot_is = le-ltb told.0.boot (slice_index t.heard told.0.from) (omega (arith, newer, below, rises)) }

pub noted_law : (key : List ℕ) (names : List (List ℕ)) (me boot members member row : ℕ) (start : StartRecord) (calls : List Call) (bytes : List ℕ) → length start.known ≡ 10
    → may_make (new_packer key names me boot members start) calls ≡ true
    → slice_index (after_calls (new_packer key names me boot members start) calls).rows.known row
    < slice_index (after_event (after_calls (new_packer key names me boot members start) calls) (Received (Peer member) bytes)).rows.known row
    → IsInTime key (above (new_packer key names me boot members start) calls) bytes
noted_law key names me boot members member row start calls bytes len may less =
    let p = after_calls (new_packer key names me boot members start) calls in
    let t = above (new_packer key names me boot members start) calls in
    subst (λ (k : List ℕ). IsInTime k t bytes) (key_over (new_packer key names me boot members start) calls)
    (noted t p member row bytes (above_start key names me boot members start calls len may) less)

pub left_law : (key : List ℕ) (names : List (List ℕ)) (me boot members : ℕ) (start : StartRecord) (calls : List Call) → length start.known ≡ 10
    → may_make (new_packer key names me boot members start) calls ≡ true → 1 ≤ length (after_calls (new_packer key names me boot members start) calls).pending.floors
    → is_older (above (new_packer key names me boot members start) calls).heard (after_calls (new_packer key names me boot members start) calls).pending.head ≡ false
left_law key names me boot members start calls len may some =
    let p = after_calls (new_packer key names me boot members start) calls in
    let t = above (new_packer key names me boot members start) calls in
    let a = above_start key names me boot members start calls len may in
    let same = a.left (le-leb 1 (length p.pending.floors) some) in
    let below = a.within p.pending.head.from in
    le-ltb p.pending.head.boot (slice_index t.heard p.pending.head.from) (omega (arith, same, below))

-- What a port hands in over its calls.
use Rattle.std.proofs.Common.{◌≡◌, ℕ, zero, suc, ◌*◌, Bool, true, false, cond, eqb, leb, ltb, List, [], ◌∷◌, length, drop, Option, Some, None, refl, sym, ap, subst, ◌∙◌, arith, true≢false, inl, inr}
use Rattle.std.specs.Prelude.{◌⊎◌, ◌&&◌, replicate, slice_index, slice_index_or}
use Rattle.std.proofs.lemmas.Bool.{and_parts, eqb-true, ltb-true, ltb-false}
use Rattle.std.proofs.lemmas.List.{get_or-replicate, get_or_past}
use Rattle.datagram_port.specs.Port.{PortEvent, Received, Quiet, Faulted, Offered}
use Rattle.datagram_port.specs.declared.port.Sender.TheVariants.{Client, Peer}
use Rattle.named_port.specs.Translator.{between, is_older}
use Rattle.named_wire.specs.Datagram.{datagram_at, datagram_bytes}
use Rattle.named_wire.specs.declared.head.Head.{Head}
use Rattle.floor_port.specs.Floors.{floor_bytes, told_in}
use Rattle.gatekeeping.specs.declared.gatekeeper.Fell.{Fell}
use Rattle.floor_port.specs.Claims.{ClaimsRecord, claims_after, fell_of, is_fallen, new_claims, no_claim, place_of}
use Rattle.floor_port.specs.Packer.{PackerRecord, StartRecord, after_datagram, after_held, bytes_of, bytes_or, fall_by, fell_by, first_bytes, first_of, first_told, floor_head, floors_read, hearing, in_time, member_bytes, new_packer, tells_floors, told_by, with_claims, with_head, with_others}
use Rattle.floor_port.specs.Pace.{after_heard}
use Rattle.floor_port.specs.Promises.{Among, HandsIn, HasGoneBack, IsTold, WentBack}
use Rattle.floor_port.specs.Rows.{after_floor, after_news, is_news, news}
use Rattle.floor_port.specs.Runs.{Call, Came, Left, Offer, after, fell_before, fell_in, fells_over, handed, handed_events, may_call, may_make}
use Rattle.floor_port.specs.declared.floor.NamedFloor.{NamedFloor}
use Rattle.floor_port.proofs.CallLemmas.{no_start, same_start}
use Rattle.floor_port.proofs.ClaimLemmas.{AreSound, AreTaken, IsBacked, sender_bounds, taken}

abbrev present : {A : Type 0} → A → Option A
present x = Some x

some_is : {A : Type 0} (x y : A) → present x ≡ present y → x ≡ y
some_is x y e = cc

abbrev present_fell : Fell → Option Fell
present_fell fell = Some fell

abbrev fell_with : ℕ → List ℕ → Fell
fell_with member name = record { member = member; name = name }

some_fell : (x y : Fell) → present_fell x ≡ present_fell y → x ≡ y
some_fell x y e = cc

-- ---- a datagram that tells floors

pub record IsSent (key heard : List ℕ) (member me : ℕ) (bytes : List ℕ) (told : Head × List NamedFloor) : Type 0 where
  pub body : List ℕ
  pub reads : datagram_at key bytes ≡ Some (told.0, body)
  pub from_is : told.0.from ≡ member
  pub to_is : told.0.to ≡ me
  pub newer : is_older heard told.0 ≡ false
  pub tells : told_in told.0.kind body ≡ Some told.1

pub sent_parts : (key heard : List ℕ) (member me : ℕ) (bytes : List ℕ) (told : Head × List NamedFloor)
    → cond (tells_floors bytes) (floors_read (in_time heard (between member me (datagram_at key bytes)))) None ≡ Some told → IsSent key heard member me bytes told
sent_parts key heard member me bytes told e = by_kind (tells_floors bytes) e
  where
    by_told : (read : Head × List ℕ) → datagram_at key bytes ≡ Some read → (eqb read.0.from member && eqb read.0.to me) ≡ true → is_older heard read.0 ≡ false → (o : Option (List NamedFloor)) → told_in read.0.kind read.1 ≡ o
        → with_head read.0 o ≡ Some told → IsSent key heard member me bytes told
    by_told read at ends newer None tells is = absurd cc
    by_told read at ends newer (Some floors) tells is =
        let parts = and_parts (eqb read.0.from member) (eqb read.0.to me) ends in
        let same : (read.0, floors) ≡ told = some_is (read.0, floors) told is in
        subst (λ (t : Head × List NamedFloor). IsSent key heard member me bytes t) same (record {
          body = read.1;
          reads = at;
          from_is = eqb-true read.0.from member parts.0;
          to_is = eqb-true read.0.to me parts.1;
          newer = newer;
          tells = tells;
        })

    by_boot : (read : Head × List ℕ) → datagram_at key bytes ≡ Some read → (eqb read.0.from member && eqb read.0.to me) ≡ true → (older : Bool) → is_older heard read.0 ≡ older
        → floors_read (cond older None (Some read)) ≡ Some told → IsSent key heard member me bytes told
    by_boot read at ends true older is = absurd cc
    by_boot read at ends false older is = by_told read at ends older (told_in read.0.kind read.1) refl is

    by_ends : (read : Head × List ℕ) → datagram_at key bytes ≡ Some read → (b : Bool) → (eqb read.0.from member && eqb read.0.to me) ≡ b
        → floors_read (in_time heard (cond b (Some read) None)) ≡ Some told → IsSent key heard member me bytes told
    by_ends read at false ends is = absurd cc
    by_ends read at true ends is = by_boot read at ends (is_older heard read.0) refl is

    by_read : (o : Option (Head × List ℕ)) → datagram_at key bytes ≡ o → floors_read (in_time heard (between member me o)) ≡ Some told → IsSent key heard member me bytes told
    by_read None at is = absurd cc
    by_read (Some read) at is = by_ends read at (eqb read.0.from member && eqb read.0.to me) refl is

    by_kind : (tells : Bool) → cond tells (floors_read (in_time heard (between member me (datagram_at key bytes)))) None ≡ Some told → IsSent key heard member me bytes told
    by_kind false is = absurd cc
    by_kind true is = by_read (datagram_at key bytes) refl is

-- ---- news are among the floors

news_among : (names : List (List ℕ)) (known : List ℕ) (floors : List NamedFloor) (floor : NamedFloor) → Among (news names known floors) floor → Among floors floor
news_among names known [] floor h = absurd h
news_among names known (one ∷ floors) floor h = go (is_news names known one) (news_among names (after_floor names known one) floors floor) h
  where
    go : (new : Bool) → (Among (news names (after_floor names known one) floors) floor → Among floors floor)
        → Among (cond new (one ∷ news names (after_floor names known one) floors) (news names (after_floor names known one) floors)) floor → Among (one ∷ floors) floor
    go true rest (inl is) = inl is
    go true rest (inr later) = inr (rest later)
    go false rest later = inr (rest later)

rest_among : (floors : List NamedFloor) (floor : NamedFloor) → Among (drop 1 floors) floor → Among floors floor
rest_among [] floor h = absurd h
rest_among (one ∷ floors) floor h = inr h

-- ---- floors that are left

abbrev AreTold : List ℕ → ℕ → List Call → Head → List NamedFloor → Type 0
AreTold key me all head floors = (floor : NamedFloor) → Among floors floor → IsTold key me all head floor

abbrev from_member : ℕ → List ℕ → PortEvent
from_member member bytes = Received (Peer member) bytes

-- the floors of a datagram that came are told
told_floors : (p : PackerRecord) (all : List Call) (member : ℕ) (bytes : List ℕ) (told : Head × List NamedFloor) → told_by p member bytes ≡ Some told → Among all (Came (from_member member bytes))
    → AreTold p.key p.me all (floor_head told.0) told.1
told_floors p all member bytes told e came = λ floor h.
    let s = sent_parts p.key p.heard member p.me bytes told e in
    record {
      datagram = bytes;
      came = subst (λ (n : ℕ). Among all (Came (from_member n bytes))) (sym s.from_is) came;
      sent = told.0;
      body = s.body;
      reads = s.reads;
      to_is = s.to_is;
      head_is = refl;
      floors = told.1;
      tells = s.tells;
      floor_is = h;
    }

-- its news are told
told_news : (p : PackerRecord) (all : List Call) (member : ℕ) (bytes : List ℕ) (told : Head × List NamedFloor) → told_by p member bytes ≡ Some told → Among all (Came (from_member member bytes))
    → AreTold p.key p.me all (floor_head told.0) (news p.rows.names p.rows.known told.1)
told_news p all member bytes told e came = λ floor h. told_floors p all member bytes told e came floor (news_among p.rows.names p.rows.known told.1 floor h)

-- ---- the claims after a datagram

others_claims : (p : PackerRecord) (head : Head) (floors : List NamedFloor) → (with_others p head floors).claims ≡ p.claims
others_claims p head [] = refl
others_claims p head (floor ∷ floors) = refl

pub floors_claims : (p : PackerRecord) (member : ℕ) (told : Option (Head × List NamedFloor)) (fall : Option NamedFloor) → (after_held p member told fall).claims ≡ p.claims
floors_claims p member told (Some floor) = refl
floors_claims p member None None = refl
floors_claims p member (Some told) None =
    others_claims (record p { pace = after_heard p.pace member (length p.rows.told); rows = after_news p.rows told.1 }) (floor_head told.0) (news p.rows.names p.rows.known told.1)

-- ---- members that went back

-- some members are known at the start to have gone back
module _ (known : List Bool) where
  abbrev IsSoundAt : PackerRecord → List Call → ClaimsRecord → Type 0
  IsSoundAt p all claims = AreSound p.key known p.rows.names p.me all claims

  -- the claims after the floors of a datagram that came
  taken_floors : (p : PackerRecord) (all : List Call) (member : ℕ) (bytes : List ℕ) (told : Option (Head × List NamedFloor)) → told_by p member bytes ≡ told → Among all (Came (from_member member bytes))
      → IsSoundAt p all p.claims → AreTaken p.key known p.rows.names p.me all member (with_claims p member told).claims (fall_by p member told)
  taken_floors p all member bytes None e came sound = record { sound = sound; fell = λ floor is. absurd cc }
  taken_floors p all member bytes (Some told) e came sound =
      let s = sent_parts p.key p.heard member p.me bytes told e in
      let bounds = sender_bounds p.key bytes told.0 s.body s.reads in
      let low = bounds.0 in
      let high = bounds.1 in
      let from = s.from_is in
      taken p.key known p.rows.names p.me all p.claims member (floor_head told.0) told.1 from (omega (arith, low, from)) (omega (arith, high, from)) (told_floors p all member bytes told e came) sound

  sound_datagram : (p : PackerRecord) (all : List Call) (member : ℕ) (bytes : List ℕ) → Among all (Came (from_member member bytes)) → IsSoundAt p all p.claims
      → IsSoundAt p all (after_datagram p member (told_by p member bytes)).claims
  sound_datagram p all member bytes came sound = go (is_fallen p.claims member)
    where
      told : Option (Head × List NamedFloor)
      told = told_by p member bytes

      go : (fallen : Bool) → IsSoundAt p all (cond fallen p (after_held (with_claims p member told) member told (fall_by p member told))).claims
      go true = sound
      go false = subst (IsSoundAt p all) (sym (floors_claims (with_claims p member told) member told (fall_by p member told))) (taken_floors p all member bytes told refl came sound).sound

  sound_one : (p : PackerRecord) (all : List Call) (call : Call) → Among all call → IsSoundAt p all p.claims → IsSoundAt p all (after p call).claims
  sound_one p all (Came (Received (Peer member) bytes)) made sound = sound_datagram (hearing p member bytes) all member bytes made sound
  sound_one p all (Came (Received (Client number) bytes)) made sound = sound
  sound_one p all (Came Quiet) made sound = sound
  sound_one p all (Came Faulted) made sound = sound
  sound_one p all (Came (Offered to bytes)) made sound = sound
  sound_one p all Left made sound = sound
  sound_one p all (Offer (Peer member) bytes) made sound = sound
  sound_one p all (Offer (Client number) bytes) made sound = sound

  sound_after : (p : PackerRecord) (all : List Call) (call : Call) → Among all call → IsSoundAt p all p.claims → IsSoundAt (after p call) all (after p call).claims
  sound_after p all call made sound =
      let u = after p call in
      let key : u.key ≡ p.key = ap (λ (x : PackerRecord). x.key) (same_start p call no_start) in
      let names : u.rows.names ≡ p.rows.names = ap (λ (x : PackerRecord). x.rows.names) (same_start p call no_start) in
      let me : u.me ≡ p.me = ap (λ (x : PackerRecord). x.me) (same_start p call no_start) in
      subst (λ (k : List ℕ). AreSound k known u.rows.names u.me all u.claims) (sym key)
      (subst (λ (n : List (List ℕ)). AreSound p.key known n u.me all u.claims) (sym names)
      (subst (λ (m : ℕ). AreSound p.key known p.rows.names m all u.claims) (sym me) (sound_one p all call made sound)))

  -- at the start
  none_kept : (count place : ℕ) → slice_index_or (replicate count no_claim) place no_claim ≡ no_claim
  none_kept zero place = refl
  none_kept (suc count) zero = refl
  none_kept (suc count) (suc place) = none_kept count place

  sound_start : (key : List ℕ) (names : List (List ℕ)) (me : ℕ) (all : List Call) (rows : ℕ) → AreSound key known names me all (new_claims known rows)
  sound_start key names me all rows = record {
    places = refl;
    backed = λ row member low high. subst (IsBacked key names me all row member (slice_index (replicate 10 0) member)) (sym (none_kept (9 * rows) (place_of row member)))
        (record { boot_is = omega arith; told = inl refl });
    fallen = λ member is. inl is;
  }

  -- ---- one call

  -- the first of some news is handed in, or the datagram itself
  hands_first : (key : List ℕ) (me : ℕ) (all : List Call) (member : ℕ) (bytes : List ℕ) (head : Head) (floors : List NamedFloor) → Among all (Came (from_member member bytes)) → head.from ≡ member
      → AreTold key me all head floors → HandsIn key known me all (from_member member (bytes_or (first_of key head floors) bytes))
  hands_first key me all member bytes head [] came from told = inl came
  hands_first key me all member bytes head (floor ∷ floors) came from told =
      inr (inr (inl (record {
        head = head;
        floor = floor;
        is_told = told floor (inl refl);
        event_is = ap (λ (n : ℕ). from_member n (datagram_bytes key head (floor_bytes floor))) (sym from);
      })))

  hands_told : (p : PackerRecord) (all : List Call) (member : ℕ) (bytes : List ℕ) (told : Option (Head × List NamedFloor)) → told_by p member bytes ≡ told → Among all (Came (from_member member bytes))
      → HandsIn p.key known p.me all (from_member member (bytes_or (first_told p told) bytes))
  hands_told p all member bytes None e came = inl came
  hands_told p all member bytes (Some told) e came =
      let s = sent_parts p.key p.heard member p.me bytes told e in
      hands_first p.key p.me all member bytes (floor_head told.0) (news p.rows.names p.rows.known told.1) came s.from_is (told_news p all member bytes told e came)

  -- a datagram of a member that went back
  hands_none : (key : List ℕ) (me : ℕ) (all : List Call) (member : ℕ) (bytes : List ℕ) → Among all (Came (from_member member bytes)) → HasGoneBack key known me all member → HandsIn key known me all (from_member member [])
  hands_none key me all member bytes came back =
      inr (inr (inr (record { member = member; datagram = bytes; came = came; went_back = back; event_is = refl })))

  hands_datagram : (p : PackerRecord) (all : List Call) (member : ℕ) (bytes : List ℕ) → Among all (Came (from_member member bytes)) → IsSoundAt p all p.claims
      → HandsIn p.key known p.me all (from_member member (member_bytes p member bytes))
  hands_datagram p all member bytes came sound = by_fallen (is_fallen p.claims member) refl
    where
      told : Option (Head × List NamedFloor)
      told = told_by p member bytes

      by_fall : (fall : Option NamedFloor) → fall_by p member told ≡ fall → HandsIn p.key known p.me all (from_member member (bytes_or (bytes_of p told fall) bytes))
      by_fall None is = hands_told p all member bytes told refl came
      by_fall (Some floor) is = hands_none p.key p.me all member bytes came (inr (floor.name, (taken_floors p all member bytes told refl came sound).fell floor is))

      by_fallen : (fallen : Bool) → is_fallen p.claims member ≡ fallen
          → HandsIn p.key known p.me all (from_member member (bytes_or (cond fallen (Some []) (bytes_of p told (fall_by p member told))) bytes))
      by_fallen true is = hands_none p.key p.me all member bytes came (sound.fallen member is)
      by_fallen false is = by_fall (fall_by p member told) refl

  hands_left : (key : List ℕ) (me : ℕ) (all : List Call) (head : Head) (floors : List NamedFloor) → leb 1 (length floors) ≡ true → AreTold key me all head floors
      → HandsIn key known me all (from_member head.from (first_bytes key head floors))
  hands_left key me all head [] some told = absurd (true≢false (sym some))
  hands_left key me all head (floor ∷ floors) some told = inr (inr (inl (record { head = head; floor = floor; is_told = told floor (inl refl); event_is = refl })))

  hands_one : (p : PackerRecord) (all : List Call) (call : Call) → may_call p call ≡ true → Among all call → IsSoundAt p all p.claims → AreTold p.key p.me all p.pending.head p.pending.floors
      → HandsIn p.key known p.me all (handed p call)
  hands_one p all (Came (Received (Peer member) bytes)) may made sound told = hands_datagram (hearing p member bytes) all member bytes made sound
  hands_one p all (Came (Received (Client number) bytes)) may made sound told = inl made
  hands_one p all (Came Quiet) may made sound told = inl made
  hands_one p all (Came Faulted) may made sound told = inl made
  hands_one p all (Came (Offered to bytes)) may made sound told = inl made
  hands_one p all Left may made sound told = hands_left p.key p.me all p.pending.head p.pending.floors may told
  hands_one p all (Offer to bytes) may made sound told = inr (inl (record { to = to; bytes = bytes; event_is = refl; is_offered = made }))

  -- ---- the floors that are left after one call

  abbrev KeepsTold : PackerRecord → List Call → PackerRecord → Type 0
  KeepsTold p all u = AreTold p.key p.me all u.pending.head u.pending.floors

  left_others : (p : PackerRecord) (key : List ℕ) (me : ℕ) (all : List Call) (head : Head) (floors : List NamedFloor) → AreTold key me all p.pending.head p.pending.floors → AreTold key me all head floors
      → AreTold key me all (with_others p head floors).pending.head (with_others p head floors).pending.floors
  left_others p key me all head [] old told = old
  left_others p key me all head (one ∷ floors) old told = λ floor h. told floor (inr h)

  left_told : (p : PackerRecord) (all : List Call) (member : ℕ) (bytes : List ℕ) (told : Option (Head × List NamedFloor)) (fall : Option NamedFloor) → told_by p member bytes ≡ told
      → Among all (Came (from_member member bytes)) → AreTold p.key p.me all p.pending.head p.pending.floors → KeepsTold p all (after_held (with_claims p member told) member told fall)
  left_told p all member bytes told (Some floor) e came old = λ one h. absurd h
  left_told p all member bytes None None e came old = old
  left_told p all member bytes (Some told) None e came old =
      left_others (record p {
        claims = claims_after p.claims p.rows.names member told.0.boot told.1;
        pace = after_heard p.pace member (length p.rows.told);
        rows = after_news p.rows told.1;
      }) p.key p.me all (floor_head told.0) (news p.rows.names p.rows.known told.1) old
      (told_news p all member bytes told e came)

  left_datagram : (p : PackerRecord) (all : List Call) (member : ℕ) (bytes : List ℕ) → Among all (Came (from_member member bytes)) → AreTold p.key p.me all p.pending.head p.pending.floors
      → KeepsTold p all (after_datagram p member (told_by p member bytes))
  left_datagram p all member bytes came old = go (is_fallen p.claims member)
    where
      told : Option (Head × List NamedFloor)
      told = told_by p member bytes

      go : (fallen : Bool) → KeepsTold p all (cond fallen p (after_held (with_claims p member told) member told (fall_by p member told)))
      go true = old
      go false = left_told p all member bytes told (fall_by p member told) refl came old

  left_one : (p : PackerRecord) (all : List Call) (call : Call) → Among all call → AreTold p.key p.me all p.pending.head p.pending.floors → KeepsTold p all (after p call)
  left_one p all (Came (Received (Peer member) bytes)) made told = left_datagram (hearing p member bytes) all member bytes made told
  left_one p all (Came (Received (Client number) bytes)) made told = told
  left_one p all (Came Quiet) made told = told
  left_one p all (Came Faulted) made told = told
  left_one p all (Came (Offered to bytes)) made told = told
  left_one p all Left made told = λ floor h. told floor (rest_among p.pending.floors floor h)
  left_one p all (Offer (Peer member) bytes) made told = told
  left_one p all (Offer (Client number) bytes) made told = told

  -- ---- all calls

  hands_over : (p : PackerRecord) (all calls : List Call) → ((call : Call) → Among calls call → Among all call) → may_make p calls ≡ true → IsSoundAt p all p.claims
      → AreTold p.key p.me all p.pending.head p.pending.floors → (event : PortEvent) → Among (handed_events p calls) event → HandsIn p.key known p.me all event
  hands_over p all [] made may sound told event h = absurd h
  hands_over p all (call ∷ calls) made may sound told event (inl is) =
      subst (HandsIn p.key known p.me all) is (hands_one p all call (and_parts (may_call p call) (may_make (after p call) calls) may).0 (made call (inl refl)) sound told)
  hands_over p all (call ∷ calls) made may sound told event (inr later) =
      let u = after p call in
      let key : u.key ≡ p.key = ap (λ (x : PackerRecord). x.key) (same_start p call no_start) in
      let me : u.me ≡ p.me = ap (λ (x : PackerRecord). x.me) (same_start p call no_start) in
      let left : AreTold u.key u.me all u.pending.head u.pending.floors =
      subst (λ (k : List ℕ). AreTold k u.me all u.pending.head u.pending.floors) (sym key)
      (subst (λ (m : ℕ). AreTold p.key m all u.pending.head u.pending.floors) (sym me) (left_one p all call (made call (inl refl)) told)) in
      let kept = sound_after p all call (made call (inl refl)) sound in
      subst (λ (k : List ℕ). HandsIn k known p.me all event) key
      (subst (λ (m : ℕ). HandsIn u.key known m all event) me
      (hands_over u all calls (λ one a. made one (inr a)) (and_parts (may_call p call) (may_make u calls) may).1 kept left event later))

  -- ---- the falls that a log is told of

  fell_one : (p : PackerRecord) (all : List Call) (member : ℕ) (bytes : List ℕ) → Among all (Came (from_member member bytes)) → IsSoundAt p all p.claims
      → (fell : Fell) → fell_by p member (told_by p member bytes) ≡ Some fell → WentBack p.key p.me all fell.member fell.name
  fell_one p all member bytes came sound fell e = by_fallen (is_fallen p.claims member) e
    where
      told : Option (Head × List NamedFloor)
      told = told_by p member bytes

      by_fall : (fall : Option NamedFloor) → fall_by p member told ≡ fall → fell_of member fall ≡ Some fell → WentBack p.key p.me all fell.member fell.name
      by_fall None is same = absurd cc
      by_fall (Some floor) is same =
          subst (λ (f : Fell). WentBack p.key p.me all f.member f.name) (some_fell (fell_with member floor.name) fell same)
          ((taken_floors p all member bytes told refl came sound).fell floor is)

      by_fallen : (fallen : Bool) → cond fallen None (fell_of member (fall_by p member told)) ≡ Some fell → WentBack p.key p.me all fell.member fell.name
      by_fallen true same = absurd cc
      by_fallen false same = by_fall (fall_by p member told) refl same

  fell_call : (p : PackerRecord) (all : List Call) (call : Call) → Among all call → IsSoundAt p all p.claims → (fell : Fell) → fell_in p call ≡ Some fell → WentBack p.key p.me all fell.member fell.name
  fell_call p all (Came (Received (Peer member) bytes)) made sound fell e = fell_one (hearing p member bytes) all member bytes made sound fell e
  fell_call p all (Came (Received (Client number) bytes)) made sound fell e = absurd cc
  fell_call p all (Came Quiet) made sound fell e = absurd cc
  fell_call p all (Came Faulted) made sound fell e = absurd cc
  fell_call p all (Came (Offered to bytes)) made sound fell e = absurd cc
  fell_call p all Left made sound fell e = absurd cc
  fell_call p all (Offer to bytes) made sound fell e = absurd cc

  fells_among : (first : Option Fell) (fells : List Fell) (fell : Fell) → Among (fell_before first fells) fell → (first ≡ Some fell) ⊎ Among fells fell
  fells_among None fells fell h = inr h
  fells_among (Some one) fells fell (inl is) = inl (ap present_fell is)
  fells_among (Some one) fells fell (inr later) = inr later

  fells_back : (p : PackerRecord) (all calls : List Call) → ((call : Call) → Among calls call → Among all call) → IsSoundAt p all p.claims → (fell : Fell) → Among (fells_over p calls) fell
      → WentBack p.key p.me all fell.member fell.name
  fells_back p all [] made sound fell h = absurd h
  fells_back p all (call ∷ calls) made sound fell h = elim (fells_among (fell_in p call) (fells_over (after p call) calls) fell h) [
    | inl is ↦ fell_call p all call (made call (inl refl)) sound fell is
    | inr later ↦
        let u = after p call in
        let key : u.key ≡ p.key = ap (λ (x : PackerRecord). x.key) (same_start p call no_start) in
        let me : u.me ≡ p.me = ap (λ (x : PackerRecord). x.me) (same_start p call no_start) in
        subst (λ (k : List ℕ). WentBack k p.me all fell.member fell.name) key
        (subst (λ (m : ℕ). WentBack u.key m all fell.member fell.name) me
        (fells_back u all calls (λ one a. made one (inr a)) (sound_after p all call (made call (inl refl)) sound) fell later))
  ]

-- ---- from the start

-- nobody is known to have gone back
pub none_known : (member : ℕ) → slice_index_or (replicate 10 false) member false ≡ false
none_known member = go (ltb member 10) refl
  where
    go : (low : Bool) → ltb member 10 ≡ low → slice_index_or (replicate 10 false) member false ≡ false
    go true is = get_or-replicate 10 member false false (ltb-true member 10 is)
    go false is = get_or_past (replicate 10 false) member false (ltb-false member 10 is)

pub hands_law : (key : List ℕ) (names : List (List ℕ)) (me boot members : ℕ) (start : StartRecord) (calls : List Call) (event : PortEvent) → may_make (new_packer key names me boot members start) calls ≡ true
    → Among (handed_events (new_packer key names me boot members start) calls) event → HandsIn key start.gone_back me calls event
hands_law key names me boot members start calls event may h =
    hands_over start.gone_back (new_packer key names me boot members start) calls calls (λ call a. a) may (sound_start start.gone_back key names me calls (length start.floors)) (λ floor a. absurd a) event h

pub fells_law : (key : List ℕ) (names : List (List ℕ)) (me boot members : ℕ) (start : StartRecord) (calls : List Call) (fell : Fell)
    → Among (fells_over (new_packer key names me boot members start) calls) fell → WentBack key me calls fell.member fell.name
fells_law key names me boot members start calls fell h =
    fells_back start.gone_back (new_packer key names me boot members start) calls calls (λ call a. a) (sound_start start.gone_back key names me calls (length start.floors)) fell h

-- A port and its packer after one more call.
use Rattle.std.proofs.Common.{◌≡◌, ℕ, zero, suc, Bool, true, false, cond, eqb, leb, List, [], ◌∷◌, ◌++◌, length, Option, Some, None, refl, sym, ap, subst, ◌∙◌, arith, append_assoc, append-nil}
use Rattle.std.proofs.lemmas.Bool.{and_parts, eqb-false, le-leb}
use Rattle.std.specs.Prelude.{◌&&◌, IfSome}
use Rattle.datagram_port.specs.Port.{Grows, PortEvent, Received, Quiet, Faulted, Offered, event_of_receive}
use Rattle.datagram_port.specs.declared.port.Received.{Received as Receive}
use Rattle.datagram_port.specs.declared.port.Received.TheVariants.{Datagram, Quiet as QuietReceive, Fault}
use Rattle.datagram_port.specs.declared.port.Sender.{Sender}
use Rattle.datagram_port.specs.declared.port.Sender.TheVariants.{Client, Peer}
use Rattle.named_wire.specs.declared.head.Head.{Head}
use Rattle.floor_port.specs.Claims.{is_fallen}
use Rattle.floor_port.specs.Packer.{PackerRecord, StartRecord, after_datagram, after_event, after_held, after_member, after_offer, after_told, fall_by, floor_head, hearing, new_packer, next_bytes, told_at, told_by, turns_due, with_claims, with_others}
use Rattle.floor_port.specs.Rows.{RowsRecord, after_news, after_turn, after_turns, after_witness, news}
use Rattle.floor_port.specs.Runs.{Call, Came, Left, Offer, IsAfter, may_call, may_make, after, after_calls, at_start, below, below_events, handed, handed_events}
use Rattle.floor_port.specs.declared.record.Record.{Record}
use Rattle.floor_port.specs.Witness.{witness_of}
use Rattle.floor_port.specs.declared.floor.NamedFloor.{NamedFloor}
use Rattle.floor_port.proofs.OfferLemmas.{grown, grows_both}

abbrev present : {A : Type 0} → A → Option A
present x = Some x

-- ---- one more call

after_more : (p : PackerRecord) (calls : List Call) (call : Call) → after_calls p (calls ++ call ∷ []) ≡ after (after_calls p calls) call
after_more p [] call = refl
after_more p (one ∷ calls) call = after_more (after p one) calls call

handed_more : (p : PackerRecord) (calls : List Call) (call : Call) → handed_events p (calls ++ call ∷ []) ≡ handed_events p calls ++ handed (after_calls p calls) call ∷ []
handed_more p [] call = refl
handed_more p (one ∷ calls) call = ap (λ (l : List PortEvent). handed p one ∷ l) (handed_more (after p one) calls call)

below_more : (p : PackerRecord) (calls : List Call) (call : Call) → below_events p (calls ++ call ∷ []) ≡ below_events p calls ++ below (after_calls p calls) call
below_more p [] call = append-nil (below p call)
below_more p (one ∷ calls) call =
    ap (λ (l : List PortEvent). below p one ++ l) (below_more (after p one) calls call)
    ∙ sym (append_assoc (below p one) (below_events (after p one) calls) (below (after_calls (after p one) calls) call))

may_more : (p : PackerRecord) (calls : List Call) (call : Call) → may_make p calls ≡ true → may_call (after_calls p calls) call ≡ true → may_make p (calls ++ call ∷ []) ≡ true
may_more p [] call may last = ap (λ (b : Bool). b && true) last
may_more p (one ∷ calls) call may last =
    let parts = and_parts (may_call p one) (may_make (after p one) calls) may in
    ap (λ (b : Bool). b && may_make (after p one) (calls ++ call ∷ [])) parts.0 ∙ may_more (after p one) calls call parts.1 last

-- a receive of the port below may be made if no floor is left
pub may_receive : (p : PackerRecord) (received : Receive) (buffer : List ℕ) → eqb (length p.pending.floors) 0 ≡ true → may_call p (Came (event_of_receive received buffer)) ≡ true
may_receive p (Datagram sender len) buffer none = none
may_receive p QuietReceive buffer none = none
may_receive p Fault buffer none = none

-- ---- no call changes the start

-- without members that went back, known boots and floors
abbrev pub no_start : StartRecord
no_start = record { gone_back = []; known = []; floors = [] }

turns_names : (rows : RowsRecord) (turns : ℕ) → (after_turns rows turns).names ≡ rows.names
turns_names rows zero = refl
turns_names rows (suc turns) = turns_names (after_turn rows) turns

start_member : (p : PackerRecord) (member : ℕ) (told : Option (Head × List NamedFloor)) (start : StartRecord) → at_start (after_member p member told) start ≡ at_start p start
start_member p member None start = refl
start_member p member (Some told) start = refl

start_others : (p : PackerRecord) (head : Head) (others : List NamedFloor) (start : StartRecord) → at_start (with_others p head others) start ≡ at_start p start
start_others p head [] start = refl
start_others p head (one ∷ others) start = refl

start_told : (p : PackerRecord) (told : Option (Head × List NamedFloor)) (start : StartRecord) → at_start (after_told p told) start ≡ at_start p start
start_told p None start = refl
start_told p (Some told) start =
    start_others (record p { rows = after_news p.rows told.1 }) (floor_head told.0) (news p.rows.names p.rows.known told.1) start

start_claims : (p : PackerRecord) (member : ℕ) (told : Option (Head × List NamedFloor)) (start : StartRecord) → at_start (with_claims p member told) start ≡ at_start p start
start_claims p member None start = refl
start_claims p member (Some told) start = refl

start_floors : (p : PackerRecord) (member : ℕ) (told : Option (Head × List NamedFloor)) (fall : Option NamedFloor) (start : StartRecord)
    → at_start (after_held p member told fall) start ≡ at_start p start
start_floors p member told None start = start_told (after_member p member told) told start ∙ start_member p member told start
start_floors p member told (Some floor) start = refl

start_datagram : (p : PackerRecord) (member : ℕ) (told : Option (Head × List NamedFloor)) (start : StartRecord) → at_start (after_datagram p member told) start ≡ at_start p start
start_datagram p member told start = go (is_fallen p.claims member)
  where
    go : (fallen : Bool) → at_start (cond fallen p (after_held (with_claims p member told) member told (fall_by p member told))) start ≡ at_start p start
    go true = refl
    go false = start_floors (with_claims p member told) member told (fall_by p member told) start ∙ start_claims p member told start

start_event : (p : PackerRecord) (event : PortEvent) (start : StartRecord) → at_start (after_event p event) start ≡ at_start p start
start_event p (Received (Peer member) bytes) start = let heard = hearing p member bytes in start_datagram heard member (told_by heard member bytes) start
start_event p (Received (Client number) bytes) start = refl
start_event p Quiet start = ap (λ (names : List (List ℕ)). new_packer p.key names p.me p.boot p.members start) (turns_names p.rows (turns_due p))
start_event p Faulted start = refl
start_event p (Offered to bytes) start = refl

start_witness : (p : PackerRecord) (floor : Option NamedFloor) (start : StartRecord) → at_start (record p { rows = after_witness p.rows floor }) start ≡ at_start p start
start_witness p None start = refl
start_witness p (Some floor) start = refl

start_offer : (p : PackerRecord) (to : Sender) (bytes : List ℕ) (start : StartRecord) → at_start (after_offer p to bytes) start ≡ at_start p start
start_offer p (Peer member) bytes start = start_witness p (witness_of bytes) start
start_offer p (Client number) bytes start = refl

pub same_start : (p : PackerRecord) (call : Call) (start : StartRecord) → at_start (after p call) start ≡ at_start p start
same_start p (Came event) start = start_event p event start
same_start p Left start = refl
same_start p (Offer to bytes) start = start_offer p to bytes start

-- ---- a port after calls

-- one more call of the port below
pub after_call : (old new : Option (List PortEvent)) (p u : PackerRecord) (start : StartRecord) (calls more : List Call) (call : Call)
    → IsAfter old p (at_start p start) calls → may_call p call ≡ true → more ≡ calls ++ call ∷ [] → u ≡ after p call → Grows old new (below p call)
    → IsAfter new u (at_start u start) more
after_call old new p u start calls more call a may noted is grows =
    subst (IsAfter new u (at_start u start)) (sym noted) (record { is_made = made; packer_is = packer; below_is = events })
  where
    made : may_make (at_start u start) (calls ++ call ∷ []) ≡ true
    made = subst (λ (x : PackerRecord). may_make x (calls ++ call ∷ []) ≡ true) (sym (ap (λ (x : PackerRecord). at_start x start) is ∙ same_start p call start))
        (may_more (at_start p start) calls call a.is_made (subst (λ (x : PackerRecord). may_call x call ≡ true) a.packer_is may))

    same : at_start u start ≡ at_start p start
    same = ap (λ (x : PackerRecord). at_start x start) is ∙ same_start p call start

    packer : u ≡ after_calls (at_start u start) (calls ++ call ∷ [])
    packer =
        is
        ∙ ap (λ (x : PackerRecord). after x call) a.packer_is
        ∙ sym (after_more (at_start p start) calls call)
        ∙ ap (λ (x : PackerRecord). after_calls x (calls ++ call ∷ [])) (sym same)

    events : (now : List PortEvent) → new ≡ Some now → now ≡ below_events (at_start u start) (calls ++ call ∷ [])
    events now e =
        let g = grown old new (below p call) now grows e in
        sym g.2
        ∙ ap (λ (x : List PortEvent). x ++ below p call) (a.below_is g.0 g.1)
        ∙ ap (λ (x : PackerRecord). below_events (at_start p start) calls ++ below x call) a.packer_is
        ∙ sym (below_more (at_start p start) calls call)
        ∙ ap (λ (x : PackerRecord). below_events x (calls ++ call ∷ [])) (sym same)

-- the events of the node's port for one more call
pub told_call : (below : Option (List PortEvent)) (p u : PackerRecord) (start : StartRecord) (calls more : List Call) (call : Call) (event : PortEvent)
    → IsAfter below p (at_start p start) calls → more ≡ calls ++ call ∷ [] → u ≡ after p call → event ≡ handed p call
    → Grows (Some (handed_events (at_start p start) calls)) (Some (handed_events (at_start u start) more)) (event ∷ [])
told_call below p u start calls more call event a noted is event_is =
    ap present
    (ap (λ (x : PortEvent). handed_events (at_start p start) calls ++ x ∷ []) event_is
    ∙ ap (λ (x : PackerRecord). handed_events (at_start p start) calls ++ handed x call ∷ []) a.packer_is
    ∙ sym (handed_more (at_start p start) calls call)
    ∙ ap (λ (x : PackerRecord). handed_events x (calls ++ call ∷ [])) (sym (same_start p call start) ∙ ap (λ (x : PackerRecord). at_start x start) (sym is))
    ∙ ap (λ (x : List Call). handed_events (at_start u start) x) (sym noted))

-- ---- calls that the record of a port notes

pub after_noted : (old new : Option (List PortEvent)) (p u : PackerRecord) (before now : Record) (call : Call) → IsAfter old p (at_start p before.start) before.calls → may_call p call ≡ true
    → now ≡ record before { calls = before.calls ++ call ∷ [] } → u ≡ after p call → Grows old new (below p call) → IsAfter new u (at_start u now.start) now.calls
after_noted old new p u before now call a may noted is grows =
    subst (λ (r : Record). IsAfter new u (at_start u r.start) r.calls) (sym noted)
    (after_call old new p u before.start before.calls (before.calls ++ call ∷ []) call a may refl is grows)

pub told_noted : (below : Option (List PortEvent)) (p u : PackerRecord) (before now : Record) (call : Call) (event : PortEvent) → IsAfter below p (at_start p before.start) before.calls
    → now ≡ record before { calls = before.calls ++ call ∷ [] } → u ≡ after p call → event ≡ handed p call
    → Grows (Some (handed_events (at_start p before.start) before.calls)) (Some (handed_events (at_start u now.start) now.calls)) (event ∷ [])
told_noted below p u before now call event a noted is event_is =
    subst (λ (r : Record). Grows (Some (handed_events (at_start p before.start) before.calls)) (Some (handed_events (at_start u r.start) r.calls)) (event ∷ [])) (sym noted)
    (told_call below p u before.start before.calls (before.calls ++ call ∷ []) call event a refl is event_is)

-- ---- the first floor that is left

-- the sender of the floors that are left
pub sender_is : (left from : ℕ) (sender : Sender) → Some sender ≡ cond (eqb left 0) None (Some (Peer from)) → sender ≡ Peer from
sender_is left from sender e = go (eqb left 0) e
  where
    go : (none : Bool) → Some sender ≡ cond none None (Some (Peer from)) → sender ≡ Peer from
    go true is = absurd cc
    go false is = cc

-- no floor is left
pub none_left : (left from : ℕ) → None ≡ cond (eqb left 0) None (Some (Peer from)) → eqb left 0 ≡ true
none_left left from e = go (eqb left 0) refl e
  where
    go : (none : Bool) → eqb left 0 ≡ none → None ≡ cond none None (Some (Peer from)) → eqb left 0 ≡ true
    go true is same = is
    go false is same = absurd cc

-- a floor is left
pub some_left : (left from : ℕ) (sender : Sender) → Some sender ≡ cond (eqb left 0) None (Some (Peer from)) → leb 1 left ≡ true
some_left left from sender e = go (eqb left 0) refl e
  where
    go : (none : Bool) → eqb left 0 ≡ none → Some sender ≡ cond none None (Some (Peer from)) → leb 1 left ≡ true
    go true is same = absurd cc
    go false is same = le-leb 1 left (let some = eqb-false left 0 is in omega (arith, some))

pub handed_left : (p : PackerRecord) (sender : Sender) (event : PortEvent) → Some sender ≡ cond (eqb (length p.pending.floors) 0) None (Some (Peer p.pending.head.from))
    → event ≡ Received sender (next_bytes p) → event ≡ handed p Left
handed_left p sender event some is = is ∙ ap (λ (s : Sender). Received s (next_bytes p)) (sender_is (length p.pending.floors) p.pending.head.from sender some)

-- nothing was queued
pub after_nothing : (old new : Option (List PortEvent)) (p start : PackerRecord) (calls : List Call) → IsAfter old p start calls → Grows old new [] → IsAfter new p start calls
after_nothing old new p start calls a grows = record {
  is_made = a.is_made;
  packer_is = a.packer_is;
  below_is = λ now e.
      let g = grown old new [] now grows e in
      sym g.2 ∙ append-nil g.0 ∙ a.below_is g.0 g.1;
}

-- what the port below received, and what it was offered
pub grows_came : (old mid new : Option (List PortEvent)) (p : PackerRecord) (event : PortEvent) → Grows old mid (event ∷ []) → Grows mid new (told_at p event) → Grows old new (below p (Came event))
grows_came old mid new p event one two = grows_both old mid new (event ∷ []) (told_at p event) one two

-- a port at its start
pub after_none : (below : Option (List PortEvent)) (p : PackerRecord) (key : List ℕ) (names : List (List ℕ)) (me boot members : ℕ) (start : StartRecord) (calls : List Call) → IfSome below (λ events. events ≡ [])
    → p ≡ new_packer key names me boot members start → calls ≡ [] → IsAfter below p (at_start p start) calls
after_none below p key names me boot members start calls fresh is none =
    subst (IsAfter below p (at_start p start)) (sym none) (subst (λ (x : PackerRecord). IsAfter below x (at_start x start) []) (sym is) (record {
      is_made = refl;
      packer_is = refl;
      below_is = λ events e. subst (λ (o : Option (List PortEvent)). IfSome o (λ l. l ≡ [])) e fresh;
    }))

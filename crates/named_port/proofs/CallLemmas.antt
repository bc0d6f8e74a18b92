-- A port and its translator after one more call.
use Rattle.std.proofs.Common.{◌≡◌, ℕ, Bool, true, false, cond, List, [], ◌∷◌, ◌++◌, Option, Some, None, refl, sym, ap, subst, ◌∙◌, append_assoc, append-nil}
use Rattle.std.specs.Prelude.{IfSome, slice_set}
use Rattle.datagram_port.specs.Port.{Grows, PortEvent, Received, Quiet, Faulted, Offered, event_of_receive}
use Rattle.datagram_port.specs.declared.port.Received.{Received as Receive}
use Rattle.datagram_port.specs.declared.port.Received.TheVariants.{Datagram, Quiet as QuietReceive, Fault}
use Rattle.datagram_port.specs.declared.port.Sender.{Sender}
use Rattle.datagram_port.specs.declared.port.Sender.TheVariants.{Client, Peer}
use Rattle.named_wire.specs.declared.head.Head.{Head}
use Rattle.named_port.specs.Runs.{IsAfter, after_events, at_start, below_event, below_events, handed_events}
use Rattle.named_port.specs.Translator.{TranslatorRecord, after_event, after_read, bytes_or_none, handed_in, is_older, new_translator, offered, sent_by, translated}
use Rattle.gatekeeping.specs.declared.gatekeeper.Older.{Older}
use Rattle.named_port.proofs.RunLemmas.{keeps_event, keeps_events}

abbrev present : {A : Type 0} → A → Option A
present x = Some x

some_is : {A : Type 0} (x y : A) → present x ≡ present y → x ≡ y
some_is x y e = cc

-- ---- one more call

after_more : (t : TranslatorRecord) (calls : List PortEvent) (call : PortEvent) → after_events t (calls ++ call ∷ []) ≡ after_event (after_events t calls) call
after_more t [] call = refl
after_more t (event ∷ calls) call = after_more (after_event t event) calls call

handed_more : (t : TranslatorRecord) (calls : List PortEvent) (call : PortEvent) → handed_events t (calls ++ call ∷ []) ≡ handed_events t calls ++ handed_in (after_events t calls) call ∷ []
handed_more t [] call = refl
handed_more t (event ∷ calls) call = ap (λ (l : List PortEvent). handed_in t event ∷ l) (handed_more (after_event t event) calls call)

below_more : (t : TranslatorRecord) (calls : List PortEvent) (call : PortEvent) → below_events t (calls ++ call ∷ []) ≡ below_events t calls ++ below_event (after_events t calls) call
below_more t [] call = append-nil (below_event t call)
below_more t (event ∷ calls) call =
    ap (λ (l : List PortEvent). below_event t event ++ l) (below_more (after_event t event) calls call)
    ∙ sym (append_assoc (below_event t event) (below_events (after_event t event) calls) (below_event (after_events (after_event t event) calls) call))

-- ---- a translator, but for what it tells a log

abbrev with_told : TranslatorRecord → Option Older → List Bool → TranslatorRecord
with_told t older differing = record t { older = older; differing = differing }

abbrev made : List ℕ → List (List ℕ) → ℕ → ℕ → List ℕ → List ℕ → Option Older → List Bool → TranslatorRecord
made key names me boot known heard older differing =
    record { key = key; names = names; me = me; boot = boot; known = known; heard = heard; older = older; differing = differing }

is_with : (t w : TranslatorRecord) → w.key ≡ t.key → w.names ≡ t.names → w.me ≡ t.me → w.boot ≡ t.boot → w.known ≡ t.known → t.heard ≡ w.heard → t ≡ with_told w t.older t.differing
is_with t w key names me boot known heard =
    ap (λ (x : List ℕ). made x t.names t.me t.boot t.known t.heard t.older t.differing) (sym key)
    ∙ ap (λ (x : List (List ℕ)). made w.key x t.me t.boot t.known t.heard t.older t.differing) (sym names)
    ∙ ap (λ (x : ℕ). made w.key w.names x t.boot t.known t.heard t.older t.differing) (sym me)
    ∙ ap (λ (x : ℕ). made w.key w.names w.me x t.known t.heard t.older t.differing) (sym boot)
    ∙ ap (λ (x : List ℕ). made w.key w.names w.me w.boot x t.heard t.older t.differing) (sym known)
    ∙ ap (λ (x : List ℕ). made w.key w.names w.me w.boot w.known x t.older t.differing) heard

read_with : (w : TranslatorRecord) (older : Option Older) (differing : List Bool) (read : Option (Head × List ℕ))
    → (after_read (with_told w older differing) read).heard ≡ (after_read w read).heard
read_with w older differing None = refl
read_with w older differing (Some read) = go (is_older w.heard read.0)
  where
    go : (b : Bool) → (cond b (record (with_told w older differing) { older = Some (record { member = read.0.from; boot = read.0.boot }) })
        (record (with_told w older differing) { heard = slice_set w.heard read.0.from read.0.boot })).heard
        ≡ (cond b (record w { older = Some (record { member = read.0.from; boot = read.0.boot }) }) (record w { heard = slice_set w.heard read.0.from read.0.boot })).heard
    go true = refl
    go false = refl

event_with : (w : TranslatorRecord) (older : Option Older) (differing : List Bool) (event : PortEvent)
    → (after_event (with_told w older differing) event).heard ≡ (after_event w event).heard
event_with w older differing (Received (Peer number) bytes) = read_with w older differing (sent_by w number bytes)
event_with w older differing (Received (Client number) bytes) = refl
event_with w older differing Quiet = refl
event_with w older differing Faulted = refl
event_with w older differing (Offered to bytes) = refl

handed_with : (w : TranslatorRecord) (older : Option Older) (differing : List Bool) (event : PortEvent) → handed_in (with_told w older differing) event ≡ handed_in w event
handed_with w older differing (Received (Peer number) bytes) = go (sent_by w number bytes)
  where
    go : (read : Option (Head × List ℕ))
        → Received (Peer number) (bytes_or_none (translated (with_told w older differing) read)) ≡ Received (Peer number) (bytes_or_none (translated w read))
    go None = refl
    go (Some read) = refl
handed_with w older differing (Received (Client number) bytes) = refl
handed_with w older differing Quiet = refl
handed_with w older differing Faulted = refl
handed_with w older differing (Offered to bytes) = refl

below_with : (w : TranslatorRecord) (older : Option Older) (differing : List Bool) (event : PortEvent) → below_event (with_told w older differing) event ≡ below_event w event
below_with w older differing (Received sender bytes) = refl
below_with w older differing Quiet = refl
below_with w older differing Faulted = refl
below_with w older differing (Offered (Peer member) bytes) = refl
below_with w older differing (Offered (Client number) bytes) = refl

-- ---- a port after calls

-- the translator is that after the calls, but for what it tells a log
is_after : (below : Option (List PortEvent)) (t : TranslatorRecord) (calls : List PortEvent) → IsAfter below t calls → t ≡ with_told (after_events (at_start t) calls) t.older t.differing
is_after below t calls a =
    let k = keeps_events (at_start t) calls in
    is_with t (after_events (at_start t) calls) k.key k.names k.me k.boot k.known a.heard_is

same_start : (t : TranslatorRecord) (call : PortEvent) → at_start (after_event t call) ≡ at_start t
same_start t call =
    let k = keeps_event t call in
    let u = after_event t call in
    ap (λ (x : List ℕ). new_translator x u.names u.me u.boot u.known) k.key
    ∙ ap (λ (x : List (List ℕ)). new_translator t.key x u.me u.boot u.known) k.names
    ∙ ap (λ (x : ℕ). new_translator t.key t.names x u.boot u.known) k.me
    ∙ ap (λ (x : ℕ). new_translator t.key t.names t.me x u.known) k.boot
    ∙ ap (λ (x : List ℕ). new_translator t.key t.names t.me t.boot x) k.known

grown : (old new : Option (List PortEvent)) (added now : List PortEvent) → Grows old new added → new ≡ Some now → (before : List PortEvent) × (old ≡ Some before) × (before ++ added ≡ now)
grown (Some before) (Some all) added now grows e = (before, refl, some_is (before ++ added) now (grows ∙ e))
grown None (Some all) added now grows e = absurd cc
grown old None added now grows e = absurd cc

-- one more call of the port below
after_call : (old new : Option (List PortEvent)) (t u : TranslatorRecord) (calls : List PortEvent) (call : PortEvent) → IsAfter old t calls → u ≡ after_event t call
    → Grows old new (below_event t call) → IsAfter new u (calls ++ call ∷ [])
after_call old new t u calls call a is grows = subst (λ (x : TranslatorRecord). IsAfter new x (calls ++ call ∷ [])) (sym is) (record {
  heard_is = heard;
  below_is = below;
})
  where
    heard : (after_event t call).heard ≡ (after_events (at_start (after_event t call)) (calls ++ call ∷ [])).heard
    heard =
        ap (λ (x : TranslatorRecord). (after_event x call).heard) (is_after old t calls a)
        ∙ event_with (after_events (at_start t) calls) t.older t.differing call
        ∙ ap (λ (x : TranslatorRecord). x.heard) (sym (after_more (at_start t) calls call))
        ∙ ap (λ (x : TranslatorRecord). (after_events x (calls ++ call ∷ [])).heard) (sym (same_start t call))

    below : (events : List PortEvent) → new ≡ Some events → events ≡ below_events (at_start (after_event t call)) (calls ++ call ∷ [])
    below events e =
        let g = grown old new (below_event t call) events grows e in
        sym g.2
        ∙ ap (λ (x : List PortEvent). x ++ below_event t call) (a.below_is g.0 g.1)
        ∙ ap (λ (x : TranslatorRecord). below_events (at_start t) calls ++ below_event x call) (is_after old t calls a)
        ∙ ap (λ (x : List PortEvent). below_events (at_start t) calls ++ x) (below_with (after_events (at_start t) calls) t.older t.differing call)
        ∙ sym (below_more (at_start t) calls call)
        ∙ ap (λ (x : TranslatorRecord). below_events x (calls ++ call ∷ [])) (sym (same_start t call))

-- the events of the node's port for one more call
told_call : (below : Option (List PortEvent)) (t u : TranslatorRecord) (calls : List PortEvent) (call : PortEvent) → IsAfter below t calls → u ≡ after_event t call
    → Grows (Some (handed_events (at_start t) calls)) (Some (handed_events (at_start u) (calls ++ call ∷ []))) (handed_in t call ∷ [])
told_call below t u calls call a is =
    subst (λ (x : TranslatorRecord). present (handed_events (at_start t) calls ++ handed_in t call ∷ []) ≡ Some (handed_events (at_start x) (calls ++ call ∷ []))) (sym is)
    (ap present
    (ap (λ (x : TranslatorRecord). handed_events (at_start t) calls ++ handed_in x call ∷ []) (is_after below t calls a)
    ∙ ap (λ (x : PortEvent). handed_events (at_start t) calls ++ x ∷ []) (handed_with (after_events (at_start t) calls) t.older t.differing call)
    ∙ sym (handed_more (at_start t) calls call)
    ∙ ap (λ (x : TranslatorRecord). handed_events x (calls ++ call ∷ [])) (sym (same_start t call))))

-- ---- receives, polls and offers

below_receive : (t : TranslatorRecord) (received : Receive) (buffer : List ℕ) → below_event t (event_of_receive received buffer) ≡ event_of_receive received buffer ∷ []
below_receive t (Datagram sender len) buffer = refl
below_receive t QuietReceive buffer = refl
below_receive t Fault buffer = refl

pub after_receive : (old new : Option (List PortEvent)) (t u : TranslatorRecord) (calls more : List PortEvent) (received : Receive) (buffer : List ℕ) → IsAfter old t calls
    → more ≡ calls ++ event_of_receive received buffer ∷ [] → u ≡ after_event t (event_of_receive received buffer) → Grows old new (event_of_receive received buffer ∷ []) → IsAfter new u more
after_receive old new t u calls more received buffer a noted is grows =
    subst (IsAfter new u) (sym noted)
    (after_call old new t u calls (event_of_receive received buffer) a is (subst (Grows old new) (sym (below_receive t received buffer)) grows))

pub told_receive : (below : Option (List PortEvent)) (t u : TranslatorRecord) (calls more : List PortEvent) (call handed : PortEvent) → IsAfter below t calls
    → more ≡ calls ++ call ∷ [] → u ≡ after_event t call → handed ≡ handed_in t call
    → Grows (Some (handed_events (at_start t) calls)) (Some (handed_events (at_start u) more)) (handed ∷ [])
told_receive below t u calls more call handed a noted is handed_is =
    subst (λ (l : List PortEvent). Grows (Some (handed_events (at_start t) calls)) (Some (handed_events (at_start u) l)) (handed ∷ [])) (sym noted)
    (subst (λ (x : PortEvent). Grows (Some (handed_events (at_start t) calls)) (Some (handed_events (at_start u) (calls ++ call ∷ []))) (x ∷ [])) (sym handed_is)
    (told_call below t u calls call a is))

pub after_offer : (old new : Option (List PortEvent)) (t : TranslatorRecord) (calls more : List PortEvent) (to : Sender) (bytes : List ℕ) → IsAfter old t calls
    → more ≡ calls ++ Offered to bytes ∷ [] → Grows old new (offered t to bytes) → IsAfter new t more
after_offer old new t calls more to bytes a noted grows =
    subst (IsAfter new t) (sym noted) (after_call old new t t calls (Offered to bytes) a refl grows)

pub told_offer : (below : Option (List PortEvent)) (t : TranslatorRecord) (calls more : List PortEvent) (to : Sender) (bytes : List ℕ) → IsAfter below t calls
    → more ≡ calls ++ Offered to bytes ∷ []
    → Grows (Some (handed_events (at_start t) calls)) (Some (handed_events (at_start t) more)) (Offered to bytes ∷ [])
told_offer below t calls more to bytes a noted = told_receive below t t calls more (Offered to bytes) (Offered to bytes) a noted refl refl

-- nothing was queued
pub after_nothing : (old new : Option (List PortEvent)) (t : TranslatorRecord) (calls : List PortEvent) → IsAfter old t calls → Grows old new [] → IsAfter new t calls
after_nothing old new t calls a grows = record {
  heard_is = a.heard_is;
  below_is = λ events e.
      let g = grown old new [] events grows e in
      sym g.2 ∙ append-nil g.0 ∙ a.below_is g.0 g.1;
}

-- a port at its start
pub after_none : (below : Option (List PortEvent)) (t : TranslatorRecord) (key : List ℕ) (names : List (List ℕ)) (me boot : ℕ) (known : List ℕ) (calls : List PortEvent) → IfSome below (λ events. events ≡ [])
    → t ≡ new_translator key names me boot known → calls ≡ [] → IsAfter below t calls
after_none below t key names me boot known calls fresh is none =
    subst (IsAfter below t) (sym none) (subst (λ (x : TranslatorRecord). IsAfter below x []) (sym is) (record {
      heard_is = refl;
      below_is = λ events e. subst (λ (o : Option (List PortEvent)). IfSome o (λ l. l ≡ [])) e fresh;
    }))

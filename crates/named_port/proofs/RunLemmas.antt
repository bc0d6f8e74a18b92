-- The boots of members over events of the port below, and what is handed in.
use Rattle.std.proofs.Common.{◌≡◌, ◌≢◌, ℕ, zero, suc, ◌<◌, ◌≤◌, max, Bool, true, false, cond, eqb, ltb, List, [], ◌∷◌, ◌++◌, length, take, get_or, Option, Some, None, refl, sym, ap, subst, ◌∙◌, arith, true≢false, inl, inr}
use Rattle.std.specs.Prelude.{◌⊎◌, ◌&&◌, slice_get, slice_index, slice_set, replicate}
use Rattle.std.proofs.lemmas.Bool.{and_parts, cases_lt, eqb-true, eqb-false, ltb-true, ltb-false}
use Rattle.std.proofs.lemmas.List.{get_or-set_same, get_or-set_other, length-set, get_or-replicate, get_or_past}
use Rattle.datagram_port.specs.Port.{PortEvent, Received, Quiet, Faulted, Offered}
use Rattle.datagram_port.specs.declared.port.Sender.TheVariants.{Client, Peer}
use Rattle.named_wire.specs.Datagram.{datagram_at}
use Rattle.named_wire.specs.declared.head.Head.{Head}
use Rattle.named_port.specs.Runs.{Has, IsOfferOf, IsTranslated, after_events, below_event, below_events, boot_of, boot_told, greatest_boot, handed_events}
use Rattle.named_port.specs.Translator.{TranslatorRecord, after_event, after_read, between, bytes_or_none, handed_in, is_older, new_translator, offer_to, sent_by, translated}
use Rattle.named_port.specs.Wire.{named_at, numbered_of}
use Rattle.named_port.proofs.MemberLemmas.{from_below}
use Rattle.named_port.proofs.NamesLemmas.{name_of_number}
use Rattle.named_port.proofs.WireLemmas.{numbered_parts}

abbrev present : {A : Type 0} → A → Option A
present x = Some x

some_is : {A : Type 0} (x y : A) → present x ≡ present y → x ≡ y
some_is x y e = cc

-- ---- what a member sent

-- the head and the body of a datagram from the member to the node
record IsSent (key : List ℕ) (member me : ℕ) (bytes : List ℕ) (read : Head × List ℕ) : Type 0 where
  reads : datagram_at key bytes ≡ Some read
  from_is : read.0.from ≡ member
  to_is : read.0.to ≡ me

sent_parts : (key : List ℕ) (member me : ℕ) (bytes : List ℕ) (read : Head × List ℕ) → between member me (datagram_at key bytes) ≡ Some read → IsSent key member me bytes read
sent_parts key member me bytes read e = by_read (datagram_at key bytes) refl e
  where
    go : (one : Head × List ℕ) → datagram_at key bytes ≡ Some one → (b : Bool) → (eqb one.0.from member && eqb one.0.to me) ≡ b
        → cond b (Some one) None ≡ Some read → IsSent key member me bytes read
    go one at false is found = absurd cc
    go one at true is found =
        let parts = and_parts (eqb one.0.from member) (eqb one.0.to me) is in
        let same : one ≡ read = some_is one read found in
        subst (IsSent key member me bytes) same (record {
          reads = at;
          from_is = eqb-true _ _ parts.0;
          to_is = eqb-true _ _ parts.1;
        })

    by_read : (o : Option (Head × List ℕ)) → datagram_at key bytes ≡ o → between member me o ≡ Some read → IsSent key member me bytes read
    by_read None at found = absurd cc
    by_read (Some one) at found = go one at (eqb one.0.from member && eqb one.0.to me) refl found

-- ---- what a translator keeps

pub record Keeps (old new : TranslatorRecord) : Type 0 where
  pub key : new.key ≡ old.key
  pub names : new.names ≡ old.names
  pub me : new.me ≡ old.me
  pub boot : new.boot ≡ old.boot
  pub known : new.known ≡ old.known
  pub places : length new.heard ≡ length old.heard

keeps_all : (t : TranslatorRecord) → Keeps t t
keeps_all t = record { key = refl; names = refl; me = refl; boot = refl; known = refl; places = refl }

keeps_read : (t : TranslatorRecord) (read : Option (Head × List ℕ)) → Keeps t (after_read t read)
keeps_read t None = keeps_all t
keeps_read t (Some read) = go (is_older t.heard read.0)
  where
    go : (older : Bool) → Keeps t (cond older (record t { older = Some (record { member = read.0.from; boot = read.0.boot }) }) (record t { heard = slice_set t.heard read.0.from read.0.boot }))
    go true = record { key = refl; names = refl; me = refl; boot = refl; known = refl; places = refl }
    go false = record { key = refl; names = refl; me = refl; boot = refl; known = refl; places = length-set t.heard read.0.from read.0.boot }

pub keeps_event : (t : TranslatorRecord) (event : PortEvent) → Keeps t (after_event t event)
keeps_event t (Received (Peer number) bytes) =
    let k = keeps_read t (sent_by t number bytes) in
    record { key = k.key; names = k.names; me = k.me; boot = k.boot; known = k.known; places = k.places }
keeps_event t (Received (Client number) bytes) = keeps_all t
keeps_event t Quiet = keeps_all t
keeps_event t Faulted = keeps_all t
keeps_event t (Offered to bytes) = keeps_all t

pub keeps_events : (t : TranslatorRecord) (events : List PortEvent) → Keeps t (after_events t events)
keeps_events t [] = keeps_all t
keeps_events t (event ∷ events) =
    let first = keeps_event t event in
    let rest = keeps_events (after_event t event) events in
    record { key = rest.key ∙ first.key; names = rest.names ∙ first.names; me = rest.me ∙ first.me; boot = rest.boot ∙ first.boot; known = rest.known ∙ first.known; places = rest.places ∙ first.places }

-- ---- the greatest boots

none_told : (b : Bool) (x : ℕ) → x ≡ max x (cond b 0 0)
none_told true x = omega arith
none_told false x = omega arith

-- the boot of a datagram that was read, among those that were heard
heard_read : (heard : List ℕ) (head : Head) (member : ℕ) (b : Bool) → length heard ≡ 10 → head.from < 10 → eqb head.from member ≡ b → ltb head.boot (get_or heard head.from 0) ≡ false
    → get_or (slice_set heard head.from head.boot) member 0 ≡ max (get_or heard member 0) (cond b head.boot 0)
heard_read heard head member true len below is newer =
    let same : head.from ≡ member = eqb-true _ _ is in
    let least = ltb-false _ _ newer in
    let there : get_or (slice_set heard head.from head.boot) head.from 0 ≡ head.boot = get_or-set_same heard head.from head.boot 0 (omega (arith, len, below)) in
    subst (λ (m : ℕ). get_or (slice_set heard head.from head.boot) m 0 ≡ max (get_or heard m 0) head.boot) same (omega (arith, there, least))
heard_read heard head member false len below is newer =
    let other : member ≢ head.from = λ same. eqb-false _ _ is (sym same) in
    let there = get_or-set_other heard head.from member head.boot 0 other in
    omega (arith, there)

old_read : (heard : List ℕ) (head : Head) (member : ℕ) (b : Bool) → eqb head.from member ≡ b → ltb head.boot (get_or heard head.from 0) ≡ true
    → get_or heard member 0 ≡ max (get_or heard member 0) (cond b head.boot 0)
old_read heard head member true is older =
    let same : head.from ≡ member = eqb-true _ _ is in
    let less = ltb-true _ _ older in
    subst (λ (m : ℕ). get_or heard m 0 ≡ max (get_or heard m 0) head.boot) same (omega (arith, less))
old_read heard head member false is older = omega arith

heard_after_read : (t : TranslatorRecord) (read : Option (Head × List ℕ)) (number member : ℕ) → length t.heard ≡ 10
    → ((one : Head × List ℕ) → read ≡ Some one → (one.0.from ≡ number) × (one.0.from < 10))
    → get_or (after_read t read).heard member 0 ≡ max (get_or t.heard member 0) (cond (eqb number member) (boot_of read) 0)
heard_after_read t None number member len from = none_told (eqb number member) (get_or t.heard member 0)
heard_after_read t (Some read) number member len from =
    let f = from read refl in
    subst (λ (n : ℕ). get_or (after_read t (Some read)).heard member 0 ≡ max (get_or t.heard member 0) (cond (eqb n member) read.0.boot 0)) f.0
    (go (is_older t.heard read.0) refl f.1)
  where
    go : (older : Bool) → is_older t.heard read.0 ≡ older → read.0.from < 10
        → get_or (cond older (record t { older = Some (record { member = read.0.from; boot = read.0.boot }) }) (record t { heard = slice_set t.heard read.0.from read.0.boot })).heard member 0
        ≡ max (get_or t.heard member 0) (cond (eqb read.0.from member) read.0.boot 0)
    go true is below = old_read t.heard read.0 member (eqb read.0.from member) refl is
    go false is below = heard_read t.heard read.0 member (eqb read.0.from member) len below refl is

sent_from : (t : TranslatorRecord) (number : ℕ) (bytes : List ℕ) (one : Head × List ℕ) → sent_by t number bytes ≡ Some one → (one.0.from ≡ number) × (one.0.from < 10)
sent_from t number bytes one e =
    let s = sent_parts t.key number t.me bytes one e in
    (s.from_is, from_below t.key bytes one.0 one.1 s.reads)

heard_after : (t : TranslatorRecord) (event : PortEvent) (member : ℕ) → length t.heard ≡ 10
    → get_or (after_event t event).heard member 0 ≡ max (get_or t.heard member 0) (boot_told t.key t.me member event)
heard_after t (Received (Peer number) bytes) member len = heard_after_read t (sent_by t number bytes) number member len (sent_from t number bytes)
heard_after t (Received (Client number) bytes) member len = omega arith
heard_after t Quiet member len = omega arith
heard_after t Faulted member len = omega arith
heard_after t (Offered to bytes) member len = omega arith

heard_over : (t : TranslatorRecord) (events : List PortEvent) (member : ℕ) → length t.heard ≡ 10
    → get_or (after_events t events).heard member 0 ≡ max (get_or t.heard member 0) (greatest_boot t.key t.me member events)
heard_over t [] member len = omega arith
heard_over t (event ∷ events) member len =
    let k = keeps_event t event in
    let first = heard_after t event member len in
    let rest : get_or (after_events (after_event t event) events).heard member 0 ≡ max (get_or (after_event t event).heard member 0) (greatest_boot t.key t.me member events) =
    heard_over (after_event t event) events member (k.places ∙ len)
    ∙ ap (λ (key : List ℕ). max (get_or (after_event t event).heard member 0) (greatest_boot key (after_event t event).me member events)) k.key
    ∙ ap (λ (me : ℕ). max (get_or (after_event t event).heard member 0) (greatest_boot t.key me member events)) k.me in
    omega (arith, first, rest)

pub heard_law : (key : List ℕ) (names : List (List ℕ)) (known : List ℕ) (me boot member : ℕ) (events : List PortEvent) → length known ≡ 10
    → slice_index (after_events (new_translator key names me boot known) events).heard member ≡ max (slice_index known member) (greatest_boot key me member events)
heard_law key names known me boot member events len = heard_over (new_translator key names me boot known) events member len

-- ---- what is handed in

-- the bytes of a translation
record IsOut (t : TranslatorRecord) (number : ℕ) (bytes out : List ℕ) : Type 0 where
  head : Head
  body : List ℕ
  reads : datagram_at t.key bytes ≡ Some (head, body)
  from_is : head.from ≡ number
  to_is : head.to ≡ t.me
  newer : get_or t.heard head.from 0 ≤ head.boot
  numbered_is : numbered_of t.names head body ≡ Some out

out_of : (t : TranslatorRecord) (number : ℕ) (bytes out : List ℕ) → translated t (sent_by t number bytes) ≡ Some out → IsOut t number bytes out
out_of t number bytes out e = by_read (sent_by t number bytes) refl e
  where
    go : (read : Head × List ℕ) → sent_by t number bytes ≡ Some read → (older : Bool) → is_older t.heard read.0 ≡ older
        → cond older None (numbered_of t.names read.0 read.1) ≡ Some out → IsOut t number bytes out
    go read at true is found = absurd cc
    go read at false is found =
        let s = sent_parts t.key number t.me bytes read at in
        record {
          head = read.0;
          body = read.1;
          reads = s.reads;
          from_is = s.from_is;
          to_is = s.to_is;
          newer = ltb-false _ _ is;
          numbered_is = found;
        }

    by_read : (o : Option (Head × List ℕ)) → sent_by t number bytes ≡ o → translated t o ≡ Some out → IsOut t number bytes out
    by_read None at found = absurd cc
    by_read (Some read) at found = go read at (is_older t.heard read.0) refl found

-- the parts of a member's datagram that was handed in
abbrev member_of : PortEvent → ℕ
member_of (Received (Peer member) bytes) = member
member_of (Received (Client number) bytes) = 0
member_of Quiet = 0
member_of Faulted = 0
member_of (Offered to bytes) = 0

abbrev peer_event : ℕ → List ℕ → PortEvent
peer_event member bytes = Received (Peer member) bytes

abbrev bytes_of : PortEvent → List ℕ
bytes_of (Received sender bytes) = bytes
bytes_of Quiet = []
bytes_of Faulted = []
bytes_of (Offered to bytes) = []

abbrev is_members : PortEvent → Bool
is_members (Received (Peer member) bytes) = true
is_members (Received (Client number) bytes) = false
is_members Quiet = false
is_members Faulted = false
is_members (Offered to bytes) = false

out_is : (o : Option (List ℕ)) (bytes : List ℕ) → bytes_or_none o ≡ bytes → (bytes ≡ [] → ⊥) → o ≡ Some bytes
out_is None bytes e some = absurd (some (sym e))
out_is (Some out) bytes e some = ap present e

-- a member's datagram with bytes that was handed in is the translation of one that came
record IsHanded (t : TranslatorRecord) (event : PortEvent) (member : ℕ) (bytes : List ℕ) : Type 0 where
  named : List ℕ
  event_is : event ≡ Received (Peer member) named
  out : IsOut t member named bytes

handed_from : (t : TranslatorRecord) (event : PortEvent) (member : ℕ) (bytes : List ℕ) → handed_in t event ≡ Received (Peer member) bytes → (bytes ≡ [] → ⊥) → IsHanded t event member bytes
handed_from t (Received (Client number) named) member bytes e some = absurd (true≢false (sym (ap is_members e)))
handed_from t Quiet member bytes e some = absurd (true≢false (sym (ap is_members e)))
handed_from t Faulted member bytes e some = absurd (true≢false (sym (ap is_members e)))
handed_from t (Offered to named) member bytes e some = absurd (true≢false (sym (ap is_members e)))
handed_from t (Received (Peer number) named) member bytes e some =
    let same : number ≡ member = ap member_of e in
    let read : bytes_or_none (translated t (sent_by t number named)) ≡ bytes = ap bytes_of e in
    let out : IsOut t number named bytes = out_of t number named bytes (out_is _ bytes read some) in
    record {
      named = named;
      event_is = ap (λ (n : ℕ). peer_event n named) same;
      out = subst (λ (n : ℕ). IsOut t n named bytes) same out;
    }

pub handed_law : (key : List ℕ) (names : List (List ℕ)) (known : List ℕ) (me boot : ℕ) (before : List PortEvent) (event : PortEvent) (member : ℕ) (bytes : List ℕ) → length known ≡ 10
    → handed_in (after_events (new_translator key names me boot known) before) event ≡ Received (Peer member) bytes → (bytes ≡ [] → ⊥)
    → IsTranslated key names me known before event member bytes
handed_law key names known me boot before event member bytes len e some =
    let first = new_translator key names me boot known in
    let t = after_events first before in
    let h = handed_from t event member bytes e some in
    let o = h.out in
    let k = keeps_events first before in
    let numbered : numbered_of names o.head o.body ≡ Some bytes =
    ap (λ (x : List (List ℕ)). numbered_of x o.head o.body) (sym k.names) ∙ o.numbered_is in
    let n = numbered_parts names o.head o.body bytes numbered in
    let heard : get_or t.heard o.head.from 0 ≡ max (get_or known member 0) (greatest_boot key me member before) =
    ap (λ (m : ℕ). get_or t.heard m 0) o.from_is ∙ heard_law key names known me boot member before len in
    let newer = o.newer in
    record {
      named = h.named;
      event_is = h.event_is;
      head = o.head;
      body = o.body;
      reads = ap (λ (x : List ℕ). datagram_at x h.named) (sym k.key) ∙ o.reads;
      from_is = o.from_is;
      to_is = o.to_is ∙ k.me;
      known_is = omega (arith, heard, newer);
      boot_is = omega (arith, heard, newer);
      one_token = n.one_token;
      number = n.number;
      name_is = name_of_number names n.number (take 16 o.body) n.number_is;
      fields = n.fields;
      fields_are = n.fields_are;
      bytes_are = sym n.bytes_are;
    }

-- ---- the calls of an execution

-- what is handed in at a place is handed in for the event there
record IsAt (t : TranslatorRecord) (calls : List PortEvent) (place : ℕ) (handed : PortEvent) : Type 0 where
  event : PortEvent
  there : slice_get calls place ≡ Some event
  handed_is : handed_in (after_events t (take place calls)) event ≡ handed

handed_at : (t : TranslatorRecord) (calls : List PortEvent) (place : ℕ) (handed : PortEvent) → slice_get (handed_events t calls) place ≡ Some handed → IsAt t calls place handed
handed_at t [] place handed e = absurd cc
handed_at t (event ∷ calls) zero handed e = record { event = event; there = refl; handed_is = some_is (handed_in t event) handed e }
handed_at t (event ∷ calls) (suc place) handed e =
    let rest = handed_at (after_event t event) calls place handed e in
    record { event = rest.event; there = rest.there; handed_is = rest.handed_is }

pub place_law : (key : List ℕ) (names : List (List ℕ)) (known : List ℕ) (me boot : ℕ) (calls : List PortEvent) (place member : ℕ) (bytes : List ℕ) → length known ≡ 10
    → slice_get (handed_events (new_translator key names me boot known) calls) place ≡ Some (Received (Peer member) bytes) → (bytes ≡ [] → ⊥)
    → (event : PortEvent) × (slice_get calls place ≡ Some event) × IsTranslated key names me known (take place calls) event member bytes
place_law key names known me boot calls place member bytes len e some =
    let h = handed_at (new_translator key names me boot known) calls place (Received (Peer member) bytes) e in
    (h.event, h.there, handed_law key names known me boot (take place calls) h.event member bytes len h.handed_is some)

-- ---- what the port below is offered

abbrev is_to_member : PortEvent → Bool
is_to_member (Offered (Peer member) bytes) = true
is_to_member (Offered (Client number) bytes) = false
is_to_member (Received sender bytes) = false
is_to_member Quiet = false
is_to_member Faulted = false

abbrev offered_to : PortEvent → ℕ
offered_to (Offered (Peer member) bytes) = member
offered_to (Offered (Client number) bytes) = 0
offered_to (Received sender bytes) = 0
offered_to Quiet = 0
offered_to Faulted = 0

abbrev offered_bytes : PortEvent → List ℕ
offered_bytes (Offered to bytes) = bytes
offered_bytes (Received sender bytes) = []
offered_bytes Quiet = []
offered_bytes Faulted = []

has_parts : (xs ys : List PortEvent) (one : PortEvent) → Has (xs ++ ys) one → Has xs one ⊎ Has ys one
has_parts [] ys one h = inr h
has_parts (x ∷ xs) ys one (inl is) = inl (inl is)
has_parts (x ∷ xs) ys one (inr later) = elim (has_parts xs ys one later) [
  | inl front ↦ inl (inr front)
  | inr back ↦ inr back
]

abbrev to_member : ℕ → List ℕ → PortEvent
to_member member bytes = Offered (Peer member) bytes

not_only : (event : PortEvent) (member : ℕ) (bytes : List ℕ) → is_to_member event ≡ false → Has (event ∷ []) (to_member member bytes) → ⊥
not_only event member bytes other (inl is) = true≢false (sym (ap is_to_member is) ∙ other)
not_only event member bytes other (inr none) = none

-- the offers for one call
offer_of_call : (t : TranslatorRecord) (event : PortEvent) (calls : List PortEvent) (member : ℕ) (bytes : List ℕ) → Has (below_event t event) (to_member member bytes)
    → IsOfferOf t.key t.names t.boot (event ∷ calls) member bytes
offer_of_call t (Received sender named) calls member bytes h = absurd (not_only (Received sender named) member bytes refl h)
offer_of_call t Quiet calls member bytes h = absurd (not_only Quiet member bytes refl h)
offer_of_call t Faulted calls member bytes h = absurd (not_only Faulted member bytes refl h)
offer_of_call t (Offered (Client number) offer) calls member bytes h = absurd (not_only (Offered (Client number) offer) member bytes refl h)
offer_of_call t (Offered (Peer number) offer) calls member bytes h = by_named (named_at t.key t.names t.boot offer) refl h
  where
    by_named : (o : Option (List ℕ)) → named_at t.key t.names t.boot offer ≡ o → Has (offer_to number o) (to_member member bytes) → IsOfferOf t.key t.names t.boot (to_member number offer ∷ calls) member bytes
    by_named None is none = absurd none
    by_named (Some named) is (inr none) = absurd none
    by_named (Some named) is (inl e) =
        let same : number ≡ member = ap offered_to e in
        let named_is : named ≡ bytes = ap offered_bytes e in
        record {
          offer = offer;
          is_offered = inl (ap (λ (n : ℕ). to_member n offer) same);
          bytes_are = is ∙ ap present named_is;
        }

offers_over : (t : TranslatorRecord) (calls : List PortEvent) (member : ℕ) (bytes : List ℕ) → Has (below_events t calls) (to_member member bytes) → IsOfferOf t.key t.names t.boot calls member bytes
offers_over t [] member bytes h = absurd h
offers_over t (event ∷ calls) member bytes h = elim (has_parts (below_event t event) (below_events (after_event t event) calls) (to_member member bytes) h) [
  | inl front ↦ offer_of_call t event calls member bytes front
  | inr back ↦
      let k = keeps_event t event in
      let o = offers_over (after_event t event) calls member bytes back in
      record {
        offer = o.offer;
        is_offered = inr o.is_offered;
        bytes_are = ap (λ (x : List ℕ). named_at x t.names t.boot o.offer) (sym k.key)
            ∙ ap (λ (x : List (List ℕ)). named_at (after_event t event).key x t.boot o.offer) (sym k.names)
            ∙ ap (λ (x : ℕ). named_at (after_event t event).key (after_event t event).names x o.offer) (sym k.boot) ∙ o.bytes_are;
      }
]

pub offers_law : (key : List ℕ) (names : List (List ℕ)) (known : List ℕ) (me boot : ℕ) (calls : List PortEvent) (member : ℕ) (bytes : List ℕ)
    → Has (below_events (new_translator key names me boot known) calls) (Offered (Peer member) bytes) → IsOfferOf key names boot calls member bytes
offers_law key names known me boot calls member bytes h = offers_over (new_translator key names me boot known) calls member bytes h

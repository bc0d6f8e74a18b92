-- What a translator offers for an envelope, and what another one hands in.
use Rattle.std.proofs.Common.{◌≡◌, ℕ, ◌-◌, ◌^◌, ◌<◌, ◌≤◌, Bool, true, false, cond, List, [], ◌∷◌, ◌++◌, length, take, drop, get_or, eqb, ltb, Option, Some, None, refl, sym, ap, subst, ◌∙◌, arith, length-append}
use Rattle.std.specs.Prelude.{◌&&◌, slice_get}
use Rattle.std.specs.Option.{option_map}
use Rattle.std.proofs.lemmas.Bool.{and_parts, cond_both, eq-eqb, eqb-true, le-leb, le-ltb, lt-ltb, ne_eqb, not_from_false}
use Rattle.std.proofs.lemmas.List.{get_or-take, length-take}
use Rattle.std.proofs.lemmas.Option.{none-some, same_Some}
use Rattle.datagram_port.specs.Port.{PortEvent, Offered, Received}
use Rattle.datagram_port.specs.declared.port.Sender.TheVariants.{Peer}
use Rattle.vote_core.specs.Books.{numbered_message}
use Rattle.vote_core.specs.Numbers.{named_message}
use Rattle.vote_core.specs.Schedule.{Envelope}
use Rattle.vote_core.specs.declared.message.Message.{Message}
use Rattle.vote_core.specs.declared.message.Message.TheVariants.{Ask, Grant, Deny, Floor}
use Rattle.vote_wire.specs.Body.{HasEnds, HasSpelling, SaysMessage}
use Rattle.vote_wire.specs.Datagram as old
use Rattle.vote_wire.specs.Key.{bare, tag_of}
use Rattle.vote_wire.proofs.TagLemmas.{again_law, datagram_takes}
use Rattle.named_wire.specs.Datagram.{datagram_at}
use Rattle.named_wire.specs.Head.{IsHead, kind_byte}
use Rattle.named_wire.specs.declared.head.Head.{Head}
use Rattle.named_wire.specs.declared.head.Kind.{Kind}
use Rattle.named_wire.specs.declared.head.Kind.TheVariants.{Ask as AskKind, Grant as GrantKind, Deny as DenyKind, Floor as FloorKind, Floors as FloorsKind}
use Rattle.named_wire.proofs.TagLemmas.{again}
use Rattle.named_port.specs.Names.{number_of as place_of}
use Rattle.named_port.specs.Translator.{TranslatorRecord, between, bytes_or_none, handed_in, is_older, offer_to, offered, translated}
use Rattle.named_port.specs.Wire.{fields_of, is_named, kind_of_message, named_bytes, numbered_bytes, numbered_front, numbered_of, packed_of, token_of, unpacked, with_number}
use Rattle.named_port.proofs.WireLemmas.{message_unpacked, named_law, numbered_with, one_kind, packed_fits}
use Rattle.oath_node.specs.Hosted.{envelope_at}
use Rattle.seat_law.specs.Seats.{seat_name}
use Rattle.seat_law.proofs.Relation.{number_there}
use Rattle.book_law.specs.Lives.{IsOfVote, Sealed, Terms, named_envelope}
use Rattle.name_law.specs.Datagrams.{AreNames, IsReadable, IsSpelled, IsTranslatorOf, bytes_for, handed_bytes, name_at, named_datagram, numbered_envelope, own_datagram, own_names, own_number}
use Rattle.name_law.specs.Unforged.{IsKindOfVote, IsVoteFor, TellsVote}
use Rattle.name_law.proofs.Names.{bytes_named, ends_of, named_numbered, number_is, own_message, own_name, spelled_with, token_named, whole_name}

-- ---- offers

-- the envelope of a process, under canonical tokens and its key
abbrev pub sealed_by : Terms → Envelope → Sealed
sealed_by terms envelope = record { key = terms.key; envelope = named_envelope terms.seats envelope }

pub offers_named : (names : List (List ℕ)) (node : ℕ) (terms : Terms) (t : TranslatorRecord) (envelope : Envelope) → IsTranslatorOf names node terms t → HasSpelling envelope.sender envelope.receiver envelope.message
    → token_of envelope.message < length terms.seats
    → offered t (Peer envelope.receiver) (own_datagram envelope) ≡ Offered (Peer envelope.receiver) (named_datagram names t.boot (sealed_by terms envelope)) ∷ []
offers_named names node terms t envelope is spelling low =
    let from = envelope.sender in
    let to = envelope.receiver in
    let message = envelope.message in
    let f = seat_name terms.seats in
    let name = name_at names (f (token_of message)) in
    let there : slice_get t.names (token_of message) ≡ Some name = ap (λ l. slice_get l (token_of message)) is.names_are ∙ own_name names terms.seats (token_of message) low in
    let bytes : named_bytes t.key t.boot from to name message ≡ named_datagram names t.boot (sealed_by terms envelope) =
    ap (λ k. named_bytes k t.boot from to name message) is.key
    ∙ sym (bytes_named terms.key t.boot from to name f message)
    ∙ ap (λ token. named_bytes terms.key t.boot from to (name_at names token) (named_message f message)) (sym (token_named f message)) in
    ap (offer_to to) (named_law t.key t.names t.boot from to name message spelling there ∙ ap (λ b. Some b) bytes)

-- ---- a named datagram that is read

both : (a b : Bool) → a ≡ true → b ≡ true → (a && b) ≡ true
both true true h k = refl
both false b h k = absurd cc
both true false h k = absurd cc

abbrev pub head_of : ℕ → Envelope → Head
head_of boot envelope = record { kind = kind_of_message envelope.message; from = envelope.sender; to = envelope.receiver; boot = boot }

is_head : (boot number : ℕ) (envelope : Envelope) → HasEnds envelope.sender envelope.receiver number → boot < 2 ^ 64 → IsHead (head_of boot envelope)
is_head boot number envelope h below = record {
  ends = both _ _ (le-leb 1 envelope.sender h.from_first) (both _ _ (le-leb envelope.sender 9 h.from_last) (both _ _ (le-leb 1 envelope.receiver h.to_first)
      (both _ _ (le-leb envelope.receiver 9 h.to_last) (not_from_false _ (ne_eqb envelope.sender envelope.receiver h.apart)))));
  boot_below = below;
}

-- what is unpacked doesn't depend on the number of the token
spelled_unpacked : (from to : ℕ) (message : Message) → HasSpelling from to (numbered_message 0 message) → unpacked (kind_of_message message) from to (packed_of message) ≡ Some (fields_of message)
spelled_unpacked from to (Ask proposal token span) h = message_unpacked from to (Ask proposal 0 span) h
spelled_unpacked from to (Grant proposal token span) h = message_unpacked from to (Grant proposal 0 span) h
spelled_unpacked from to (Deny proposal token next) h = message_unpacked from to (Deny proposal 0 next) h
spelled_unpacked from to (Floor token next) h = message_unpacked from to (Floor 0 next) h

pub reads_named : (names : List (List ℕ)) (boot : ℕ) (sealed : Sealed) → AreNames names → token_of sealed.envelope.message < length names → IsSpelled sealed.envelope → boot < 2 ^ 64
    → datagram_at sealed.key (named_datagram names boot sealed) ≡ Some (head_of boot sealed.envelope, name_at names (token_of sealed.envelope.message) ++ packed_of sealed.envelope.message)
reads_named names boot sealed are low spelled below =
    let envelope = sealed.envelope in
    let name = name_at names (token_of envelope.message) in
    let fields = packed_of envelope.message in
    let fits : length (name ++ fields) ≤ 481 = omega (arith, length-append name fields, whole_name names (token_of envelope.message) are low, (packed_fits envelope.message).1) in
    again sealed.key (name ++ fields) (head_of boot envelope) (is_head boot 0 envelope (ends_of envelope.sender envelope.receiver 0 envelope.message spelled) below) fits

numbered_so : (boot from to number : ℕ) (message : Message)
    → numbered_bytes (record { kind = kind_of_message message; from = from; to = to; boot = boot }) (fields_of message) (Some number) ≡ Some (old.datagram_bytes bare from to (numbered_message number message))
unfolding old.datagram_bytes
numbered_so boot from to number (Ask proposal token span) = refl
numbered_so boot from to number (Grant proposal token span) = refl
numbered_so boot from to number (Deny proposal token next) = refl
numbered_so boot from to number (Floor token next) = refl

or_none : (boot : ℕ) (envelope : Envelope) (number : Option ℕ) → bytes_or_none (numbered_bytes (head_of boot envelope) (fields_of envelope.message) number) ≡ bytes_for envelope number
or_none boot envelope None = refl
or_none boot envelope (Some number) = ap bytes_or_none (numbered_so boot envelope.sender envelope.receiver number envelope.message)

-- what a translator hands in, whatever the address and the boot
pub handed_is : (names : List (List ℕ)) (node : ℕ) (terms : Terms) (t : TranslatorRecord) (boot from : ℕ) (sealed : Sealed) → IsTranslatorOf names node terms t → IsReadable names terms boot sealed
    → handed_bytes t from (named_datagram names boot sealed)
    ≡ cond (eqb sealed.envelope.sender from && eqb sealed.envelope.receiver node)
    (cond (ltb boot (get_or t.heard sealed.envelope.sender 0)) [] (bytes_for sealed.envelope (own_number terms.seats (token_of sealed.envelope.message)))) []
handed_is names node terms t boot from sealed is can =
    let envelope = sealed.envelope in
    let token = token_of envelope.message in
    let bytes = named_datagram names boot sealed in
    let head = head_of boot envelope in
    let body = name_at names token ++ packed_of envelope.message in
    let reads : datagram_at t.key bytes ≡ Some (head, body) =
    ap (λ k. datagram_at k bytes) (is.key ∙ sym can.key) ∙ reads_named names boot sealed can.are_names can.token can.spelled can.boot_below in
    let numbered : numbered_of t.names head body ≡ numbered_bytes head (fields_of envelope.message) (own_number terms.seats token) =
    ap (λ l. numbered_of l head body) is.names_are
    ∙ numbered_with (own_names names terms.seats) head (name_at names token) (packed_of envelope.message) (fields_of envelope.message) (own_number terms.seats token) (one_kind envelope.message)
    (whole_name names token can.are_names can.token) (packed_fits envelope.message).0 (spelled_unpacked envelope.sender envelope.receiver envelope.message can.spelled)
    (number_is names terms.seats token can.are_names can.seats can.token) in
    let last : bytes_or_none (numbered_of t.names head body) ≡ bytes_for envelope (own_number terms.seats token) =
    ap bytes_or_none numbered ∙ or_none boot envelope (own_number terms.seats token) in
    ap (λ read. bytes_or_none (translated t (between from t.me read))) reads
    ∙ ap (λ m. bytes_or_none (translated t (between from m (Some (head, body))))) is.me
    ∙ split (eqb envelope.sender from && eqb envelope.receiver node) head body
    ∙ ap (λ b. cond (eqb envelope.sender from && eqb envelope.receiver node) (cond (ltb boot (get_or t.heard envelope.sender 0)) [] b) []) last
  where
    older : (late : Bool) (head : Head) (body : List ℕ) → bytes_or_none (cond late None (numbered_of t.names head body)) ≡ cond late [] (bytes_or_none (numbered_of t.names head body))
    older true head body = refl
    older false head body = refl

    split : (sent : Bool) (head : Head) (body : List ℕ)
        → bytes_or_none (translated t (cond sent (Some (head, body)) None)) ≡ cond sent (cond (is_older t.heard head) [] (bytes_or_none (numbered_of t.names head body))) []
    split false head body = refl
    split true head body = older (is_older t.heard head) head body

abbrev nothing : List ℕ
nothing = []

never : (b : Bool) → cond b nothing nothing ≡ nothing
never true = refl
never false = refl

module _ (names : List (List ℕ)) (node : ℕ) (terms : Terms) (t : TranslatorRecord) (boot : ℕ) (sealed : Sealed) (is : IsTranslatorOf names node terms t) (can : IsReadable names terms boot sealed) where
  abbrev handed_from : ℕ → PortEvent
  handed_from from = handed_in t (Received (Peer from) (named_datagram names boot sealed))

  pub handed_law : sealed.envelope.receiver ≡ node → get_or t.heard sealed.envelope.sender 0 ≤ boot
      → handed_from sealed.envelope.sender ≡ Received (Peer sealed.envelope.sender) (bytes_for sealed.envelope (own_number terms.seats (token_of sealed.envelope.message)))
  handed_law here newer =
      let from = sealed.envelope.sender in
      let bytes = bytes_for sealed.envelope (own_number terms.seats (token_of sealed.envelope.message)) in
      let old_one = ltb boot (get_or t.heard from 0) in
      let sent : (eqb from from && eqb sealed.envelope.receiver node) ≡ true = both _ _ (eq-eqb from from refl) (eq-eqb sealed.envelope.receiver node here) in
      ap (λ b. Received (Peer from) b)
      (handed_is names node terms t boot from sealed is can ∙ ap (λ b. cond b (cond old_one [] bytes) []) sent ∙ ap (λ b. cond b [] bytes) (le-ltb boot (get_or t.heard from 0) newer))

  pub older_law : (from : ℕ) → boot < get_or t.heard sealed.envelope.sender 0 → handed_from from ≡ Received (Peer from) []
  older_law from older =
      let bytes = bytes_for sealed.envelope (own_number terms.seats (token_of sealed.envelope.message)) in
      let sent = eqb sealed.envelope.sender from && eqb sealed.envelope.receiver node in
      ap (λ b. Received (Peer from) b)
      (handed_is names node terms t boot from sealed is can ∙ ap (λ b. cond sent (cond b [] bytes) []) (lt-ltb boot (get_or t.heard sealed.envelope.sender 0) older) ∙ never sent)

  pub elsewhere_law : (from : ℕ) → (sealed.envelope.sender ≡ from → sealed.envelope.receiver ≡ node → ⊥) → handed_from from ≡ Received (Peer from) []
  elsewhere_law from other =
      let bytes = bytes_for sealed.envelope (own_number terms.seats (token_of sealed.envelope.message)) in
      let read = cond (ltb boot (get_or t.heard sealed.envelope.sender 0)) [] bytes in
      ap (λ b. Received (Peer from) b) (handed_is names node terms t boot from sealed is can ∙ unsent (eqb sealed.envelope.sender from && eqb sealed.envelope.receiver node) refl read)
    where
      unsent : (b : Bool) → (eqb sealed.envelope.sender from && eqb sealed.envelope.receiver node) ≡ b → (read : List ℕ) → cond b read [] ≡ []
      unsent false is read = refl
      unsent true is read = absurd (let parts = and_parts (eqb sealed.envelope.sender from) (eqb sealed.envelope.receiver node) is in other (eqb-true _ _ parts.0) (eqb-true _ _ parts.1))

-- ---- what the node reads

pub no_bytes : envelope_at bare [] ≡ None
unfolding old.datagram_at tag_of
no_bytes = refl

pub reads_own : (envelope : Envelope) → HasSpelling envelope.sender envelope.receiver envelope.message → envelope_at bare (own_datagram envelope) ≡ Some envelope
reads_own envelope spelling =
    ap (option_map (λ (read : ℕ × ℕ × Message). let e : Envelope = record { sender = read.0; receiver = read.1; message = read.2 } in e)) (again_law bare envelope.sender envelope.receiver envelope.message spelling)

pub read_law : (terms : Terms) (envelope : Envelope) → length terms.seats ≤ 10000 → IsSpelled envelope
    → envelope_at bare (bytes_for envelope (own_number terms.seats (token_of envelope.message))) ≡ option_map (numbered_envelope envelope) (own_number terms.seats (token_of envelope.message))
read_law terms envelope few spelled = go (own_number terms.seats (token_of envelope.message)) refl
  where
    go : (o : Option ℕ) → own_number terms.seats (token_of envelope.message) ≡ o → envelope_at bare (bytes_for envelope o) ≡ option_map (numbered_envelope envelope) o
    go None is = no_bytes
    go (Some number) is =
        let low = (number_there (length terms.seats) (seat_name terms.seats) (token_of envelope.message) number is).0 in
        reads_own (numbered_envelope envelope number) (spelled_with envelope.sender envelope.receiver 0 number envelope.message (omega (arith, low, few)) spelled)

pub same_law : (terms : Terms) (envelope : Envelope) (number : ℕ) → own_number terms.seats (token_of envelope.message) ≡ Some number → named_envelope terms.seats (numbered_envelope envelope number) ≡ envelope
same_law terms envelope number is =
    let there = number_there (length terms.seats) (seat_name terms.seats) (token_of envelope.message) number is in
    ap (λ (m : Message). let e : Envelope = record { sender = envelope.sender; receiver = envelope.receiver; message = m } in e)
    (named_numbered (seat_name terms.seats) number envelope.message ∙ ap (λ k. numbered_message k envelope.message) there.1 ∙ own_message envelope.message)

-- what a node reads has a spelling
pub read_spelled : (bytes : List ℕ) (envelope : Envelope) → envelope_at bare bytes ≡ Some envelope → HasSpelling envelope.sender envelope.receiver envelope.message
read_spelled bytes envelope reads = go (old.datagram_at bare bytes) refl reads
  where
    go : (o : Option (ℕ × ℕ × Message)) → old.datagram_at bare bytes ≡ o
        → option_map (λ (read : ℕ × ℕ × Message). let e : Envelope = record { sender = read.0; receiver = read.1; message = read.2 } in e) o ≡ Some envelope → HasSpelling envelope.sender envelope.receiver envelope.message
    go None is e = absurd (none-some envelope e)
    go (Some read) is e =
        let one : Envelope = record { sender = read.0; receiver = read.1; message = read.2 } in
        subst (λ (x : Envelope). HasSpelling x.sender x.receiver x.message) (same_Some one envelope e) (datagram_takes bare bytes read is).1.0

-- ---- votes

-- the kind of a message that was read is in a byte
byte_kept : (bytes : List ℕ) → 18 ≤ length (old.body_of bytes) → get_or (old.body_of bytes) 3 0 ≡ get_or bytes 3 0
byte_kept bytes long = let size = length-take (length bytes - 16) bytes in get_or-take (length bytes - 16) bytes 3 0 (omega (arith, size, long))

vote_byte : (bytes : List ℕ) (from to : ℕ) (m : Message) → SaysMessage (old.body_of bytes) from to m → IsOfVote m → get_or bytes 3 0 ≤ 3
vote_byte bytes from to (Ask proposal token span) h vote =
    let kept = byte_kept bytes (let size = h.0.number_of_bytes in omega (arith, size)) in let kind = h.0.kind_at in omega (arith, kept, kind)
vote_byte bytes from to (Grant proposal token span) h vote =
    let kept = byte_kept bytes (let size = h.0.number_of_bytes in omega (arith, size)) in let kind = h.0.kind_at in omega (arith, kept, kind)
vote_byte bytes from to (Deny proposal token next) h vote =
    let kept = byte_kept bytes (let size = h.0.number_of_bytes in omega (arith, size)) in let kind = h.0.kind_at in omega (arith, kept, kind)
vote_byte bytes from to (Floor token next) h vote = absurd vote

kind_of_vote : (kind : Kind) (byte : ℕ) → kind_byte kind ≡ byte → byte ≤ 3 → IsKindOfVote kind
kind_of_vote AskKind byte is low = tt
kind_of_vote GrantKind byte is low = tt
kind_of_vote DenyKind byte is low = tt
kind_of_vote FloorKind byte is low = absurd (omega (arith, is, low))
kind_of_vote FloorsKind byte is low = absurd (omega (arith, is, low))

-- the numbered datagram of a vote is of a named one
kept_kind : (head : Head) (number : ℕ) (fields : List ℕ) (envelope : Envelope) → envelope_at bare (numbered_front head number fields ++ tag_of bare (numbered_front head number fields)) ≡ Some envelope → IsOfVote envelope.message
    → IsKindOfVote head.kind
kept_kind head number fields envelope reads vote = go (old.datagram_at bare bytes) refl reads
  where
    bytes : List ℕ
    bytes = numbered_front head number fields ++ tag_of bare (numbered_front head number fields)

    go : (o : Option (ℕ × ℕ × Message)) → old.datagram_at bare bytes ≡ o
        → option_map (λ (read : ℕ × ℕ × Message). let e : Envelope = record { sender = read.0; receiver = read.1; message = read.2 } in e) o ≡ Some envelope → IsKindOfVote head.kind
    go None is e = absurd (none-some envelope e)
    go (Some read) is e =
        let one : Envelope = record { sender = read.0; receiver = read.1; message = read.2 } in
        kind_of_vote head.kind (get_or bytes 3 0) refl
        (vote_byte bytes read.0 read.1 read.2 (datagram_takes bare bytes read is).1.1 (subst (λ (x : Envelope). IsOfVote x.message) (sym (same_Some one envelope e)) vote))

-- what holds of no bytes and of each numbered datagram
numbered_cases : (names : List (List ℕ)) (head : Head) (body : List ℕ) (P : List ℕ → Type 0) → P []
    → ((number : ℕ) (fields : List ℕ) → P (numbered_front head number fields ++ tag_of bare (numbered_front head number fields))) → P (bytes_or_none (numbered_of names head body))
unfolding numbered_of
numbered_cases names head body P none some =
    let fields = unpacked head.kind head.from head.to (drop 16 body) in
    let number = place_of names (take 16 body) in
    cond_both (is_named head body) (with_number head fields number) None (λ o. P (bytes_or_none o)) (λ _. by fields number) (λ _. none)
  where
    by : (fields : Option (List ℕ)) (number : Option ℕ) → P (bytes_or_none (with_number head fields number))
    by None number = none
    by (Some fields) None = none
    by (Some fields) (Some number) = some number fields

-- bytes that tell a vote are a datagram of a vote
pub is_vote : (names : List (List ℕ)) (node from : ℕ) (terms : Terms) (bytes : List ℕ) → TellsVote names node terms from bytes → IsVoteFor terms.key from node bytes
is_vote names node from terms bytes h = at_all (datagram_at h.translator.key bytes) refl h.reads
  where
    t : TranslatorRecord
    t = h.translator

    Reads : List ℕ → Type 0
    Reads handed = envelope_at bare handed ≡ Some h.envelope

    nothing_read : Reads [] → ⊥
    nothing_read q = none-some h.envelope (sym no_bytes ∙ q)

    of_age : (read : Head × List ℕ) → datagram_at t.key bytes ≡ Some read → (eqb read.0.from from && eqb read.0.to t.me) ≡ true → (older : Bool) → Reads (bytes_or_none (cond older None (numbered_of t.names read.0 read.1)))
        → IsVoteFor terms.key from node bytes
    of_age read is sent true q = absurd (nothing_read q)
    of_age read is sent false q =
        let ends = and_parts (eqb read.0.from from) (eqb read.0.to t.me) sent in
        record {
          read = read;
          reads = ap (λ k. datagram_at k bytes) (sym h.is_of.key) ∙ is;
          from_is = eqb-true read.0.from from ends.0;
          to_is = eqb-true read.0.to t.me ends.1 ∙ h.is_of.me;
          kind = numbered_cases t.names read.0 read.1 (λ handed. Reads handed → IsKindOfVote read.0.kind) (λ z. absurd (nothing_read z))
              (λ number fields z. kept_kind read.0 number fields h.envelope z h.vote) q;
        }

    of_sent : (read : Head × List ℕ) → datagram_at t.key bytes ≡ Some read → (sent : Bool) → (eqb read.0.from from && eqb read.0.to t.me) ≡ sent → Reads (bytes_or_none (translated t (cond sent (Some read) None)))
        → IsVoteFor terms.key from node bytes
    of_sent read is false e q = absurd (nothing_read q)
    of_sent read is true e q = of_age read is e (is_older t.heard read.0) q

    at_all : (o : Option (Head × List ℕ)) → datagram_at t.key bytes ≡ o → Reads (bytes_or_none (translated t (between from t.me o))) → IsVoteFor terms.key from node bytes
    at_all None is q = absurd (nothing_read q)
    at_all (Some read) is q = of_sent read is (eqb read.0.from from && eqb read.0.to t.me) refl q

-- The inputs of a process over a translator, and its offers below.
use Rattle.std.proofs.Common.{◌≡◌, inl, inr, ℕ, suc, zero, ◌%◌, List, [], ◌∷◌, ◌++◌, map, Option, Some, None, refl, sym, ap, ◌∙◌, subst}
use Rattle.std.specs.Prelude.{nat_eq}
use Rattle.std.specs.List.{slice_get}
use Rattle.std.proofs.lemmas.Bool.{cond_both}
use Rattle.floor_store.specs.Content.{Content}
use Rattle.datagram_port.specs.Port.{PortEvent, Received, Quiet, Faulted, Offered}
use Rattle.datagram_port.specs.declared.port.Sender.{Sender}
use Rattle.datagram_port.specs.declared.port.Sender.TheVariants.{Client as FromLine, Peer as FromMember}
use Rattle.named_port.specs.Runs.{Has, below_events, handed_events}
use Rattle.named_port.specs.Translator.{TranslatorRecord, after_event, handed_in, offered}
use Rattle.named_port.proofs.RunLemmas.{keeps_event}
use Rattle.oath_node.specs.Hosted.{envelope_at}
use Rattle.oath_node.specs.Machine.{NodeEvent, NodeState, Client, Peer, Tick, opened_node}
use Rattle.oath_node.specs.Turns.{Receipt, FromPeer, FromClient, Nothing, Failure, entry_of, events_of_turn, events_of_turns, is_receive, offers_in, received_with, tick_at}
use Rattle.vote_core.proofs.Basics.{Each, each_append, each_filter, each_get}
use Rattle.vote_core.specs.Schedule.{Envelope}
use Rattle.vote_wire.specs.Key.{bare}
use Rattle.book_law.specs.Lives.{Output, Setting, Store, Terms, seen_in}
use Rattle.book_law.specs.Uses.{AreParts, IsPart, IsProcess, IsProcessIn, OwnOutput, Part, ToClientOwn, ToPeerOwn, entries_in, offer_of_output, state_after_part}
use Rattle.name_law.specs.Datagrams.{IsTranslatorOf, handed_bytes}
use Rattle.name_law.specs.Ports.{AreSeated, ReadsEvent, first_translator, named_offer}
use Rattle.name_law.specs.Unforged.{ReadsOffered, TellsVote, WereOffered}
use Rattle.name_law.proofs.Datagrams.{offers_named}

-- ---- translators

is_first : (names : List (List ℕ)) (node : ℕ) (terms : Terms) (boot : ℕ) (known : List ℕ) → IsTranslatorOf names node terms (first_translator names node terms boot known)
is_first names node terms boot known = record { key = refl; names_are = refl; me = refl }

stays_one : (names : List (List ℕ)) (node : ℕ) (terms : Terms) (t : TranslatorRecord) (event : PortEvent) → IsTranslatorOf names node terms t → IsTranslatorOf names node terms (after_event t event)
stays_one names node terms t event is = let k = keeps_event t event in record { key = k.key ∙ is.key; names_are = k.names ∙ is.names_are; me = k.me ∙ is.me }

-- ---- inputs

-- bytes that were handed in for one of the calls
record HandedFor (names : List (List ℕ)) (node : ℕ) (terms : Terms) (calls : List PortEvent) (from : ℕ) (handed : List ℕ) : Type 0 where
  translator : TranslatorRecord
  is_of : IsTranslatorOf names node terms translator
  bytes : List ℕ
  came : Has calls (Received (FromMember from) bytes)
  handed_are : handed ≡ handed_bytes translator from bytes

module _ (names : List (List ℕ)) (node : ℕ) (terms : Terms) where
  abbrev EventCame : List PortEvent → PortEvent → Type 0
  EventCame calls (Received (FromMember from) bytes) = HandedFor names node terms calls from bytes
  EventCame calls (Received (FromLine client) bytes) = Unit {0}
  EventCame calls Quiet = Unit {0}
  EventCame calls Faulted = Unit {0}
  EventCame calls (Offered to bytes) = Unit {0}

  one_came : (t : TranslatorRecord) (calls : List PortEvent) (event : PortEvent) → IsTranslatorOf names node terms t → EventCame (event ∷ calls) (handed_in t event)
  one_came t calls (Received (FromMember from) bytes) is = record { translator = t; is_of = is; bytes = bytes; came = inl refl; handed_are = refl }
  one_came t calls (Received (FromLine client) bytes) is = tt
  one_came t calls Quiet is = tt
  one_came t calls Faulted is = tt
  one_came t calls (Offered to bytes) is = tt

  later_came : (call : PortEvent) (calls : List PortEvent) (event : PortEvent) → EventCame calls event → EventCame (call ∷ calls) event
  later_came call calls (Received (FromMember from) bytes) h = record { translator = h.translator; is_of = h.is_of; bytes = h.bytes; came = inr h.came; handed_are = h.handed_are }
  later_came call calls (Received (FromLine client) bytes) h = tt
  later_came call calls Quiet h = tt
  later_came call calls Faulted h = tt
  later_came call calls (Offered to bytes) h = tt

  each_later : (call : PortEvent) (calls events : List PortEvent) → Each (EventCame calls) events → Each (EventCame (call ∷ calls)) events
  each_later call calls [] h = tt
  each_later call calls (event ∷ events) h = (later_came call calls event h.0, each_later call calls events h.1)

  all_came : (t : TranslatorRecord) (calls : List PortEvent) → IsTranslatorOf names node terms t → Each (EventCame calls) (handed_events t calls)
  all_came t [] is = tt
  all_came t (call ∷ calls) is =
      (one_came t calls call is, each_later call calls (handed_events (after_event t call) calls) (all_came (after_event t call) calls (stays_one names node terms t call is)))

  each_entry : (calls : List PortEvent) (receipts : List Receipt) → Each (EventCame calls) (map entry_of receipts) → Each (λ (x : Receipt). EventCame calls (entry_of x)) receipts
  each_entry calls [] h = tt
  each_entry calls (x ∷ receipts) h = (h.0, each_entry calls receipts h.1)

  abbrev InputCame : List PortEvent → NodeEvent → Type 0
  InputCame calls (Client client moment line) = Unit {0}
  InputCame calls (Peer from read) = ReadsEvent names node terms calls from read
  InputCame calls Tick = Unit {0}

  ticks : (calls : List PortEvent) (received : ℕ) → Each (InputCame calls) (tick_at received)
  ticks calls received = cond_both (nat_eq (received % 64) 0) (Tick ∷ []) [] (λ l. Each (InputCame calls) l) (λ _. (tt, tt)) (λ _. tt)

  turn_came : (calls : List PortEvent) (received : ℕ) (x : Receipt) → EventCame calls (entry_of x) → Each (InputCame calls) (events_of_turn bare received x)
  turn_came calls received (FromPeer from bytes) h =
      (record { translator = h.translator; is_of = h.is_of; bytes = h.bytes; came = h.came; reads = ap (envelope_at bare) h.handed_are }, ticks calls received)
  turn_came calls received (FromClient client bytes (Some moment)) h = (tt, ticks calls received)
  turn_came calls received (FromClient client bytes None) h = tt
  turn_came calls received Nothing h = (tt, tt)
  turn_came calls received Failure h = tt

  turns_came : (calls : List PortEvent) (received : ℕ) (receipts : List Receipt) → Each (λ (x : Receipt). EventCame calls (entry_of x)) receipts → Each (InputCame calls) (events_of_turns bare received receipts)
  turns_came calls received [] h = tt
  turns_came calls received (x ∷ receipts) h =
      let count = received_with x received in
      each_append (InputCame calls) (events_of_turn bare count x) (events_of_turns bare count receipts) (turn_came calls count x h.0) (turns_came calls count receipts h.1)

each_front : {A : Type 0} (P : A → Type 0) (xs ys : List A) → Each P (xs ++ ys) → Each P xs
each_front P [] ys h = tt
each_front P (x ∷ xs) ys h = (h.0, each_front P xs ys h.1)

pub inputs_law : (names : List (List ℕ)) (setting : Setting) (node : ℕ) (terms : Terms) (boot : ℕ) (known : List ℕ) (found : Store) (taken : List NodeEvent) (calls : List PortEvent) (left : Content)
    → IsProcess setting node terms bare found taken (handed_events (first_translator names node terms boot known) calls) left
    → (place from : ℕ) (read : Option Envelope) → slice_get taken place ≡ Some (Peer from read) → ReadsEvent names node terms calls from read
inputs_law names setting node terms boot known found taken calls left is place from read at =
    let handed = handed_events (first_translator names node terms boot known) calls in
    let entries = each_filter (EventCame names node terms calls) is_receive handed (all_came names node terms (first_translator names node terms boot known) calls (is_first names node terms boot known)) in
    let receipts = each_entry names node terms calls is.receipts (subst (λ l. Each (EventCame names node terms calls) l) (sym is.received) entries) in
    let all = subst (λ l. Each (InputCame names node terms calls) l) is.events (turns_came names node terms calls 0 is.receipts receipts) in
    each_get (InputCame names node terms calls) taken place (Peer from read) (each_front (InputCame names node terms calls) taken is.later all) at

each_rest : {A : Type 0} (P : A → Type 0) (xs ys : List A) → Each P (xs ++ ys) → Each P ys
each_rest P [] ys h = h
each_rest P (x ∷ xs) ys h = each_rest P xs ys h.1

module _ (names : List (List ℕ)) (setting : Setting) (node : ℕ) (terms : Terms) (calls : List PortEvent) where
  abbrev came : PortEvent → Type 0
  came entry = EventCame names node terms calls entry

  part_came : (s : NodeState) (part : Part) (parts : List Part) → IsPart setting node terms bare s part parts → Each came part.entries → Each (InputCame names node terms calls) part.taken
  part_came s part parts is h =
      let receives = each_filter came is_receive part.entries h in
      let receipts = each_entry names node terms calls is.receipts (subst (λ l. Each came l) (sym is.received) receives) in
      let all = subst (λ l. Each (InputCame names node terms calls) l) is.events (turns_came names node terms calls 0 is.receipts receipts) in
      each_front (InputCame names node terms calls) part.taken is.later all

  parts_came : (s : NodeState) (parts : List Part) (left : Content) → AreParts setting node terms bare s parts left → Each came (entries_in parts) → Each (λ (part : Part). Each (InputCame names node terms calls) part.taken) parts
  parts_came s [] left are h = tt
  parts_came s (part ∷ parts) left are h = (
    part_came s part parts are.0 (each_front came part.entries (entries_in parts) h),
    parts_came (state_after_part setting node terms bare s part) parts left are.1 (each_rest came part.entries (entries_in parts) h),
  )

pub inputs_in_parts_law : (names : List (List ℕ)) (setting : Setting) (node : ℕ) (terms : Terms) (boot : ℕ) (known : List ℕ) (found : Store) (parts : List Part) (calls : List PortEvent) (left : Content)
    → IsProcessIn setting node terms bare found parts left → entries_in parts ≡ handed_events (first_translator names node terms boot known) calls
    → (i place from : ℕ) (part : Part) (read : Option Envelope) → slice_get parts i ≡ Some part → slice_get part.taken place ≡ Some (Peer from read) → ReadsEvent names node terms calls from read
inputs_in_parts_law names setting node terms boot known found parts calls left is entries i place from part read there at =
    let handed = all_came names node terms (first_translator names node terms boot known) calls (is_first names node terms boot known) in
    let all = parts_came names setting node terms calls (opened_node (seen_in found terms.seats)) parts left is.are (subst (λ l. Each (EventCame names node terms calls) l) (sym entries) handed) in
    let one = each_get (λ (x : Part). Each (InputCame names node terms calls) x.taken) parts i part all there in
    each_get (InputCame names node terms calls) part.taken place (Peer from read) one at

-- what was offered before, byte for byte, is unforged
pub reads_law : (names : List (List ℕ)) (node : ℕ) (terms : Terms) (calls : List PortEvent) (offered : List Output) (from : ℕ) (read : Option Envelope) → ReadsEvent names node terms calls from read
    → ((bytes : List ℕ) → Has calls (Received (FromMember from) bytes) → TellsVote names node terms from bytes → WereOffered names terms.key offered bytes) → ReadsOffered names node terms offered from read
reads_law names node terms calls offered from read r h = record {
  translator = r.translator;
  is_of = r.is_of;
  bytes = r.bytes;
  reads = r.reads;
  unforged = λ envelope is vote. h r.bytes r.came (record { translator = r.translator; is_of = r.is_of; envelope = envelope; reads = sym r.reads ∙ is; vote = vote });
}

-- ---- offers

keeps_boot : (t : TranslatorRecord) (event : PortEvent) → (after_event t event).boot ≡ t.boot
keeps_boot t event = (keeps_event t event).boot

head_is : (x y : PortEvent) (xs ys : List PortEvent) → x ∷ xs ≡ y ∷ ys → x ≡ y
head_is x y xs ys e = cc

tail_is : (x y : PortEvent) (xs ys : List PortEvent) → x ∷ xs ≡ y ∷ ys → xs ≡ ys
tail_is x y xs ys e = cc

no_more : (x : PortEvent) (xs : List PortEvent) → x ∷ xs ≡ [] → ⊥
no_more x xs e = cc

sender_is : (a b : Sender) (xs ys : List ℕ) → Offered a xs ≡ Offered b ys → a ≡ b
sender_is a b xs ys e = cc

bytes_is : (a b : Sender) (xs ys : List ℕ) → Offered a xs ≡ Offered b ys → xs ≡ ys
bytes_is a b xs ys e = cc

module _ (names : List (List ℕ)) (node : ℕ) (terms : Terms) (boot : ℕ) where
  -- one offer
  one_offer : (t : TranslatorRecord) → IsTranslatorOf names node terms t → t.boot ≡ boot → (o : OwnOutput) → AreSeated terms (o ∷ []) → (to : Sender) (bytes : List ℕ) → offer_of_output bare o ≡ Offered to bytes
      → offered t to bytes ≡ named_offer names terms boot o ∷ []
  one_offer t is same (ToPeerOwn envelope) seated to bytes e =
      let s = seated 0 envelope refl in
      let own = FromMember envelope.receiver in
      ap (λ (x : Sender). offered t x bytes) (sym (sender_is own to _ bytes e))
      ∙ ap (λ b. offered t own b) (sym (bytes_is own to _ bytes e))
      ∙ offers_named names node terms t envelope is s.0 s.1
      ∙ ap (λ b. named_offer names terms b (ToPeerOwn envelope) ∷ []) same
  one_offer t is same (ToClientOwn answer) seated to bytes e =
      let own = FromLine answer.client in
      ap (λ (x : Sender). offered t x bytes) (sym (sender_is own to _ bytes e)) ∙ ap (λ b. offered t own b) (sym (bytes_is own to _ bytes e))

  head_seated : (o : OwnOutput) (own : List OwnOutput) → AreSeated terms (o ∷ own) → AreSeated terms (o ∷ [])
  head_seated o own h zero envelope at = h 0 envelope at
  head_seated o own h (suc place) envelope at = absurd cc

  all_offers : (calls : List PortEvent) (t : TranslatorRecord) → IsTranslatorOf names node terms t → t.boot ≡ boot → (own : List OwnOutput) → AreSeated terms own → map (offer_of_output bare) own ≡ offers_in (handed_events t calls)
      → offers_in (below_events t calls) ≡ map (named_offer names terms boot) own
  all_offers [] t is same [] seated e = refl
  all_offers [] t is same (o ∷ own) seated e = absurd (no_more _ _ e)
  all_offers (Received (FromMember from) bytes ∷ calls) t is same own seated e =
      let event = Received (FromMember from) bytes in
      all_offers calls (after_event t event) (stays_one names node terms t event is) (keeps_boot t event ∙ same) own seated e
  all_offers (Received (FromLine client) bytes ∷ calls) t is same own seated e = all_offers calls t is same own seated e
  all_offers (Quiet ∷ calls) t is same own seated e = all_offers calls t is same own seated e
  all_offers (Faulted ∷ calls) t is same own seated e = all_offers calls t is same own seated e
  all_offers (Offered to bytes ∷ calls) t is same [] seated e = absurd (no_more _ _ (sym e))
  all_offers (Offered to bytes ∷ calls) t is same (o ∷ own) seated e =
      let first = one_offer t is same o (head_seated o own seated) to bytes (head_is _ _ _ _ e) in
      let rest = all_offers calls t is same own (λ place envelope at. seated (suc place) envelope at) (tail_is _ _ _ _ e) in
      ap (λ l. offers_in (l ++ below_events t calls)) first ∙ one_more o (below_events t calls) ∙ ap (λ l. named_offer names terms boot o ∷ l) rest
    where
      one_more : (o : OwnOutput) (l : List PortEvent) → offers_in (named_offer names terms boot o ∷ l) ≡ named_offer names terms boot o ∷ offers_in l
      one_more (ToPeerOwn envelope) l = refl
      one_more (ToClientOwn answer) l = refl

pub offers_law : (names : List (List ℕ)) (node : ℕ) (terms : Terms) (boot : ℕ) (known : List ℕ) (calls : List PortEvent) (own : List OwnOutput) → AreSeated terms own
    → map (offer_of_output bare) own ≡ offers_in (handed_events (first_translator names node terms boot known) calls)
    → offers_in (below_events (first_translator names node terms boot known) calls) ≡ map (named_offer names terms boot) own
offers_law names node terms boot known calls own seated e = all_offers names node terms boot calls (first_translator names node terms boot known) (is_first names node terms boot known) refl own seated e

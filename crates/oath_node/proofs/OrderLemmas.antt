-- A batch has the outcome of its turns one by one.
use Rattle.std.proofs.Common.{◌≡◌, ◌≢◌, ℕ, ◌+◌, ◌%◌, ◌≤◌, Bool, true, eq-eqb, arith, List, [], ◌∷◌, ◌++◌, length, map, refl, sym, ap, ◌∙◌, subst}
use Rattle.std.specs.Prelude.{false, nat_eq, Option, None, Some}
use Rattle.std.proofs.lemmas.Bool.{false≢true}
use Rattle.std.proofs.lemmas.List.{append-nil}
use Rattle.oath_node.specs.Machine.{NodeEvent, NodeState, made_by_event}
use Rattle.oath_node.specs.Outputs.{outputs_of}
use Rattle.oath_node.specs.declared.item.Item.{Item}
use Rattle.datagram_port.specs.Port.{PortEvent}
use Rattle.oath_node.specs.Turns.{AreBatches, ComesToTheSame, DoesTheSame, GoesOn, IsBatch, Member, Receipt, Run, FromPeer, FromClient, Nothing, Failure, end_with, ends_batch, entry_of, events_of_turn, events_of_turns, offer_of, offers_in, received_after, received_with, receipts_in, receives_in, run_with_batch, run_with_batches, run_with_event, run_with_events, run_with_receipt, run_with_receipts, run_with_turn, run_with_turns, tally_with, while_going, with_replies, without_failures}
use Rattle.oath_node.specs.declared.serve_fault.ServeFault.{ServeFault}
use Rattle.oath_node.specs.declared.turns.Tally.{Tally}
use Rattle.oath_node.proofs.BatchLemmas.{end_of_datagram, events_more, one_more, received_after_is, received_is, receipts_tally}
use Rattle.oath_node.proofs.FailureLemmas.{faults_out, offers-append, same_run}
use Rattle.oath_node.proofs.GrowLemmas.{receives_in-append, receives_in-offers}
use Rattle.oath_node.proofs.TurnStepLemmas.{run_with_events-append, run_with_events-end}

pub comes : (a : Run) → ComesToTheSame a a
comes a = record { node = refl; offers = refl; receives = refl; tally = refl; end = refl }

comes_back : (a b : Run) → ComesToTheSame a b → ComesToTheSame b a
comes_back a b h = record { node = sym h.node; offers = sym h.offers; receives = sym h.receives; tally = sym h.tally; end = sym h.end }

comes_on : (a b c : Run) → ComesToTheSame a b → ComesToTheSame b c → ComesToTheSame a c
comes_on a b c h k = record {
  node = h.node ∙ k.node;
  offers = h.offers ∙ k.offers;
  receives = h.receives ∙ k.receives;
  tally = h.tally ∙ k.tally;
  end = h.end ∙ k.end;
}

-- ---- The same step of both

same_offers : (xs ys zs : List PortEvent) → offers_in xs ≡ offers_in ys → offers_in (xs ++ zs) ≡ offers_in (ys ++ zs)
same_offers xs ys zs h =
    offers-append xs zs ∙ ap (λ (es : List PortEvent). es ++ offers_in zs) h ∙ sym (offers-append ys zs)

same_receives : (xs ys zs : List PortEvent) → receives_in xs ≡ receives_in ys → receives_in (xs ++ zs) ≡ receives_in (ys ++ zs)
same_receives xs ys zs h =
    receives_in-append xs zs ∙ ap (λ (es : List PortEvent). es ++ receives_in zs) h ∙ sym (receives_in-append ys zs)

with_receipt : (x : Receipt) (a b : Run) → ComesToTheSame a b → ComesToTheSame (run_with_receipt x a) (run_with_receipt x b)
with_receipt x a b h = record {
  node = h.node;
  offers = same_offers a.entries b.entries (entry_of x ∷ []) h.offers;
  receives = same_receives a.entries b.entries (entry_of x ∷ []) h.receives;
  tally = ap (tally_with x) h.tally;
  end = ap (λ (t : Tally). end_with x (tally_with x t)) h.tally;
}

with_receipts : (xs : List Receipt) (a b : Run) → ComesToTheSame a b → ComesToTheSame (run_with_receipts xs a) (run_with_receipts xs b)
with_receipts [] a b h = h
with_receipts (x ∷ xs) a b h = with_receipts xs (run_with_receipt x a) (run_with_receipt x b) (with_receipt x a b h)

abbrev offered_by : Member → NodeEvent → NodeState → List PortEvent
offered_by member event node =
    map offer_of (outputs_of member.key member.place (made_by_event member.config member.place event node)).items

with_event : (member : Member) (event : NodeEvent) (a b : Run) → ComesToTheSame a b
    → ComesToTheSame (run_with_event member event a) (run_with_event member event b)
with_event member event a b h = record {
  node = ap (λ (n : NodeState). (made_by_event member.config member.place event n).state) h.node;
  offers = ap (λ (n : NodeState). offers_in (a.entries ++ offered_by member event n)) h.node
      ∙ same_offers a.entries b.entries (offered_by member event b.node) h.offers;
  receives = ap (λ (n : NodeState). receives_in (a.entries ++ offered_by member event n)) h.node
      ∙ same_receives a.entries b.entries (offered_by member event b.node) h.receives;
  tally = ap (λ (n : NodeState). with_replies (length (made_by_event member.config member.place event n).replies) a.tally) h.node
      ∙ ap (λ (t : Tally). with_replies (length (made_by_event member.config member.place event b.node).replies) t) h.tally;
  end = h.end;
}

with_events : (member : Member) (events : List NodeEvent) (a b : Run) → ComesToTheSame a b
    → ComesToTheSame (run_with_events member events a) (run_with_events member events b)
with_events member [] a b h = h
with_events member (event ∷ events) a b h =
    with_events member events (run_with_event member event a) (run_with_event member event b) (with_event member event a b h)

with_turn : (member : Member) (x : Receipt) (a b : Run) → ComesToTheSame a b
    → ComesToTheSame (run_with_turn member x a) (run_with_turn member x b)
with_turn member x a b h =
    subst (λ (t : Tally). ComesToTheSame (run_with_turn member x a)
    (run_with_events member (events_of_turn member.key (tally_with x t).received x) (run_with_receipt x b))) h.tally
    (with_events member (events_of_turn member.key (tally_with x a.tally).received x) (run_with_receipt x a) (run_with_receipt x b)
    (with_receipt x a b h))

with_batch : (member : Member) (xs : List Receipt) (a b : Run) → ComesToTheSame a b
    → ComesToTheSame (run_with_batch member xs a) (run_with_batch member xs b)
with_batch member xs a b h =
    subst (λ (t : Tally). ComesToTheSame (run_with_batch member xs a)
    (run_with_events member (events_of_turns member.key t.received xs) (run_with_receipts xs b))) h.tally
    (with_events member (events_of_turns member.key a.tally.received xs) (run_with_receipts xs a) (run_with_receipts xs b)
    (with_receipts xs a b h))

-- ---- A receive before an event, or after it

tally_order : (x : Receipt) (n : ℕ) (t : Tally) → tally_with x (with_replies n t) ≡ with_replies n (tally_with x t)
tally_order (FromPeer from bytes) n t = refl
tally_order (FromClient client bytes moment) n t = refl
tally_order Nothing n t = refl
tally_order Failure n t = refl

end_order : (x : Receipt) (n : ℕ) (t : Tally) → end_with x (tally_with x (with_replies n t)) ≡ end_with x (tally_with x t)
end_order (FromPeer from bytes) n t = refl
end_order (FromClient client bytes (Some moment)) n t = refl
end_order (FromClient client bytes None) n t = refl
end_order Nothing n t = refl
end_order Failure n t = refl

no_offer : (x : Receipt) → offers_in (entry_of x ∷ []) ≡ []
no_offer (FromPeer from bytes) = refl
no_offer (FromClient client bytes moment) = refl
no_offer Nothing = refl
no_offer Failure = refl

offers_order : (x : Receipt) (xs ys : List PortEvent)
    → offers_in ((xs ++ ys) ++ entry_of x ∷ []) ≡ offers_in ((xs ++ entry_of x ∷ []) ++ ys)
offers_order x xs ys =
    let e = entry_of x ∷ [] in
    offers-append (xs ++ ys) e ∙ ap (λ (es : List PortEvent). offers_in (xs ++ ys) ++ es) (no_offer x)
    ∙ append-nil (offers_in (xs ++ ys)) ∙ offers-append xs ys
    ∙ ap (λ (es : List PortEvent). es ++ offers_in ys)
    (sym (offers-append xs e ∙ ap (λ (es : List PortEvent). offers_in xs ++ es) (no_offer x) ∙ append-nil (offers_in xs)))
    ∙ sym (offers-append (xs ++ e) ys)

receives_order : (x : Receipt) (xs : List PortEvent) (items : List Item)
    → receives_in ((xs ++ map offer_of items) ++ entry_of x ∷ []) ≡ receives_in ((xs ++ entry_of x ∷ []) ++ map offer_of items)
receives_order x xs items =
    let e = entry_of x ∷ [] in
    let ys = map offer_of items in
    receives_in-append (xs ++ ys) e
    ∙ ap (λ (es : List PortEvent). es ++ receives_in e)
    (receives_in-append xs ys ∙ ap (λ (es : List PortEvent). receives_in xs ++ es) (receives_in-offers items) ∙ append-nil (receives_in xs))
    ∙ sym (receives_in-append xs e) ∙ sym (append-nil (receives_in (xs ++ e)))
    ∙ ap (λ (es : List PortEvent). receives_in (xs ++ e) ++ es) (sym (receives_in-offers items))
    ∙ sym (receives_in-append (xs ++ e) ys)

receipt_event : (member : Member) (x : Receipt) (event : NodeEvent) (a : Run)
    → ComesToTheSame (run_with_receipt x (run_with_event member event a)) (run_with_event member event (run_with_receipt x a))
receipt_event member x event a =
    let made = made_by_event member.config member.place event a.node in
    record {
      node = refl;
      offers = offers_order x a.entries (offered_by member event a.node);
      receives = receives_order x a.entries (outputs_of member.key member.place made).items;
      tally = tally_order x (length made.replies) a.tally;
      end = end_order x (length made.replies) a.tally;
    }

receipt_events : (member : Member) (x : Receipt) (events : List NodeEvent) (a : Run)
    → ComesToTheSame (run_with_receipt x (run_with_events member events a)) (run_with_events member events (run_with_receipt x a))
receipt_events member x [] a = comes (run_with_receipt x a)
receipt_events member x (event ∷ events) a =
    comes_on (run_with_receipt x (run_with_events member events (run_with_event member event a)))
    (run_with_events member events (run_with_receipt x (run_with_event member event a)))
    (run_with_events member events (run_with_event member event (run_with_receipt x a)))
    (receipt_events member x events (run_with_event member event a))
    (with_events member events (run_with_receipt x (run_with_event member event a)) (run_with_event member event (run_with_receipt x a))
    (receipt_event member x event a))

receipts_events : (member : Member) (xs : List Receipt) (events : List NodeEvent) (a : Run)
    → ComesToTheSame (run_with_receipts xs (run_with_events member events a)) (run_with_events member events (run_with_receipts xs a))
receipts_events member [] events a = comes (run_with_events member events a)
receipts_events member (x ∷ xs) events a =
    comes_on (run_with_receipts xs (run_with_receipt x (run_with_events member events a)))
    (run_with_receipts xs (run_with_events member events (run_with_receipt x a)))
    (run_with_events member events (run_with_receipts xs (run_with_receipt x a)))
    (with_receipts xs (run_with_receipt x (run_with_events member events a)) (run_with_events member events (run_with_receipt x a))
    (receipt_events member x events a))
    (receipts_events member xs events (run_with_receipt x a))

-- ---- A batch

events_received : (member : Member) (events : List NodeEvent) (a : Run) → (run_with_events member events a).tally.received ≡ a.tally.received
events_received member [] a = refl
events_received member (event ∷ events) a = events_received member events (run_with_event member event a)

turn_received : (member : Member) (x : Receipt) (a : Run) → (run_with_turn member x a).tally.received ≡ received_with x a.tally.received
turn_received member x a =
    events_received member (events_of_turn member.key (run_with_receipt x a).tally.received x) (run_with_receipt x a)
    ∙ received_is x a.tally

pub batch_received : (member : Member) (xs : List Receipt) (a : Run)
    → (run_with_batch member xs a).tally.received ≡ received_after xs a.tally.received
batch_received member xs a =
    events_received member (events_of_turns member.key a.tally.received xs) (run_with_receipts xs a)
    ∙ ap (λ (t : Tally). t.received) (receipts_tally xs a) ∙ received_after_is xs a.tally

step : (member : Member) (x : Receipt) (a : Run) → a.end ≡ None → while_going a.end (run_with_turn member x a) a ≡ run_with_turn member x a
step member x a going = ap (λ (e : Option ServeFault). while_going e (run_with_turn member x a) a) going

turn_going : (member : Member) (x : Receipt) (n : ℕ) (a : Run) → ends_batch n x ≡ false → (run_with_turn member x a).end ≡ None
turn_going member x n a h =
    run_with_events-end member (events_of_turn member.key (run_with_receipt x a).tally.received x) (run_with_receipt x a)
    ∙ end_of_datagram x n (tally_with x a.tally) h

-- turns that end no batch have the outcome of the batch of them, and the run continues
turns_going : (member : Member) (xs : List Receipt) (a : Run) → GoesOn a.tally.received xs → a.end ≡ None
    → ComesToTheSame (run_with_turns member xs a) (run_with_batch member xs a) × ((run_with_turns member xs a).end ≡ None)
turns_going member [] a h going = (comes a, going)
turns_going member (x ∷ xs) a h going =
    let key = member.key in
    let next = run_with_turn member x a in
    let count = received_with x a.tally.received in
    let goes = turn_going member x count a h.0 in
    let n = turn_received member x a in
    let rest = turns_going member xs next (subst (λ (m : ℕ). GoesOn m xs) (sym n) h.1) goes in
    let first = events_of_turn key (run_with_receipt x a).tally.received x in
    let later = events_of_turns key next.tally.received xs in
    let here = run_with_receipts xs (run_with_receipt x a) in
    let order = receipts_events member xs first (run_with_receipt x a) in
    let moved = with_events member later (run_with_receipts xs next) (run_with_events member first here) order in
    let joined : run_with_events member later (run_with_events member first here) ≡ run_with_batch member (x ∷ xs) a =
    sym (run_with_events-append member first later here)
    ∙ ap (λ (m : ℕ). run_with_events member (events_of_turn key m x ++ later) here) (received_is x a.tally)
    ∙ ap (λ (m : ℕ). run_with_events member (events_of_turn key count x ++ events_of_turns key m xs) here) n in
    let whole = comes_on (run_with_turns member xs next) (run_with_batch member xs next) (run_with_batch member (x ∷ xs) a) rest.0
    (subst (λ (r : Run). ComesToTheSame (run_with_batch member xs next) r) joined moved) in (
      subst (λ (r : Run). ComesToTheSame (run_with_turns member xs r) (run_with_batch member (x ∷ xs) a)) (sym (step member x a going)) whole,
      ap (λ (r : Run). (run_with_turns member xs r).end) (step member x a going) ∙ rest.1,
    )

turns-append : (member : Member) (xs ys : List Receipt) (a : Run)
    → run_with_turns member (xs ++ ys) a ≡ run_with_turns member ys (run_with_turns member xs a)
turns-append member [] ys a = refl
turns-append member (x ∷ xs) ys a = turns-append member xs ys (while_going a.end (run_with_turn member x a) a)

receipts-append : (xs ys : List Receipt) (a : Run) → run_with_receipts (xs ++ ys) a ≡ run_with_receipts ys (run_with_receipts xs a)
receipts-append [] ys a = refl
receipts-append (x ∷ xs) ys a = receipts-append xs ys (run_with_receipt x a)

-- the turns of a batch have the outcome of the batch
turns_batch : (member : Member) (xs : List Receipt) (x : Receipt) (a : Run) → GoesOn a.tally.received xs → a.end ≡ None
    → ComesToTheSame (run_with_turns member (xs ++ x ∷ []) a) (run_with_batch member (xs ++ x ∷ []) a)
turns_batch member xs x a h going =
    let key = member.key in
    let b = turns_going member xs a h going in
    let turns = run_with_turns member xs a in
    let batch = run_with_batch member xs a in
    let rest = run_with_receipts xs a in
    let early = events_of_turns key a.tally.received xs in
    let one = turns-append member xs (x ∷ []) a ∙ step member x turns b.1 in
    let turned = with_turn member x turns batch b.0 in
    let last = events_of_turn key (run_with_receipt x batch).tally.received x in
    let moved = with_events member last (run_with_receipt x batch) (run_with_events member early (run_with_receipt x rest)) (receipt_events member x early rest) in
    let count : (run_with_receipt x batch).tally.received ≡ received_with x (received_after xs a.tally.received) =
    received_is x batch.tally ∙ ap (received_with x) (batch_received member xs a) in
    let joined : run_with_events member last (run_with_events member early (run_with_receipt x rest)) ≡ run_with_batch member (xs ++ x ∷ []) a =
    sym (run_with_events-append member early last (run_with_receipt x rest))
    ∙ ap (λ (m : ℕ). run_with_events member (early ++ events_of_turn key m x) (run_with_receipt x rest)) count
    ∙ ap (λ (es : List NodeEvent). run_with_events member es (run_with_receipt x rest)) (sym (events_more key a.tally.received xs x))
    ∙ ap (run_with_events member (events_of_turns key a.tally.received (xs ++ x ∷ []))) (sym (receipts-append xs (x ∷ []) a)) in
    subst (λ (r : Run). ComesToTheSame r (run_with_batch member (xs ++ x ∷ []) a)) (sym one)
    (comes_on (run_with_turn member x turns) (run_with_turn member x batch) (run_with_batch member (xs ++ x ∷ []) a) turned
    (subst (λ (r : Run). ComesToTheSame (run_with_turn member x batch) r) joined moved))

-- ---- Batches

turns_ended : (member : Member) (xs : List Receipt) (a : Run) (fault : ServeFault) → a.end ≡ Some fault → run_with_turns member xs a ≡ a
turns_ended member [] a fault is = refl
turns_ended member (x ∷ xs) a fault is =
    ap (λ (e : Option ServeFault). run_with_turns member xs (while_going e (run_with_turn member x a) a)) is ∙ turns_ended member xs a fault is

batches_ended : (member : Member) (bs : List (List Receipt)) (a : Run) (fault : ServeFault) → a.end ≡ Some fault → run_with_batches member bs a ≡ a
batches_ended member [] a fault is = refl
batches_ended member (b ∷ bs) a fault is =
    ap (λ (e : Option ServeFault). run_with_batches member bs (while_going e (run_with_batch member b a) a)) is ∙ batches_ended member bs a fault is

pub batches_order : (member : Member) (bs : List (List Receipt)) (a b : Run) (end : Option ServeFault) → a.end ≡ end
    → AreBatches a.tally.received bs → ComesToTheSame a b
    → ComesToTheSame (run_with_batches member bs a) (run_with_turns member (receipts_in bs) b)
batches_order member [] a b end is formed h = h
batches_order member (c ∷ bs) a b (Some fault) is formed h =
    subst (λ (r : Run). ComesToTheSame r (run_with_turns member (receipts_in (c ∷ bs)) b)) (sym (batches_ended member (c ∷ bs) a fault is))
    (subst (λ (r : Run). ComesToTheSame a r) (sym (turns_ended member (receipts_in (c ∷ bs)) b fault (sym h.end ∙ is))) h)
batches_order member (c ∷ bs) a b None is formed h =
    let xs = formed.0.before in
    let x = formed.0.last in
    let next = run_with_batch member c a in
    let turned : ComesToTheSame (run_with_turns member c b) (run_with_batch member c b) =
    subst (λ (zs : List Receipt). ComesToTheSame (run_with_turns member zs b) (run_with_batch member zs b)) (sym formed.0.is)
    (turns_batch member xs x b (subst (λ (t : Tally). GoesOn t.received xs) h.tally formed.0.goes_on) (sym h.end ∙ is)) in
    let both = comes_on next (run_with_batch member c b) (run_with_turns member c b) (with_batch member c a b h)
    (comes_back (run_with_turns member c b) (run_with_batch member c b) turned) in
    let rest = batches_order member bs next (run_with_turns member c b) next.end refl
    (subst (λ (n : ℕ). AreBatches n bs) (sym (batch_received member c a)) formed.1) both in
    subst (λ (r : Run). ComesToTheSame r (run_with_turns member (receipts_in (c ∷ bs)) b))
    (sym (ap (λ (e : Option ServeFault). run_with_batches member bs (while_going e next a)) is))
    (subst (λ (r : Run). ComesToTheSame (run_with_batches member bs next) r) (sym (turns-append member c (receipts_in bs) b)) rest)

-- a batch of one receipt is its turn
pub batch_of_one : (member : Member) (x : Receipt) (a : Run) → run_with_batch member (x ∷ []) a ≡ run_with_turn member x a
batch_of_one member x a =
    let key = member.key in
    let start = run_with_receipt x a in
    ap (λ (es : List NodeEvent). run_with_events member es start) (append-nil (events_of_turn key (received_with x a.tally.received) x))
    ∙ ap (λ (n : ℕ). run_with_events member (events_of_turn key n x) start) (sym (received_is x a.tally))

-- receives that fail change nothing of batches
pub faults_out_of_batches : (member : Member) (bs : List (List Receipt)) (a : Run) → AreBatches a.tally.received bs → a.end ≡ None
    → (run_with_batches member bs a).end ≡ None
    → DoesTheSame (run_with_batches member bs a) (run_with_turns member (without_failures (receipts_in bs)) a)
faults_out_of_batches member bs a formed going end =
    let h = batches_order member bs a a a.end refl formed (comes a) in
    let k = faults_out member (receipts_in bs) a a (same_run a) going going (sym h.end ∙ end) in
    record {
      node = h.node ∙ k.node;
      offers = h.offers ∙ k.offers;
      received = ap (λ (t : Tally). t.received) h.tally ∙ k.received;
      replied = ap (λ (t : Tally). t.replied) h.tally ∙ k.replied;
    }

next_few : (xs : List Receipt) (n : ℕ) (b : Bool) → nat_eq ((n + 1) % 64) 0 ≡ b → b ≡ false → length xs + (n + 1) % 64 ≤ 63
    → (length xs + 1) + n % 64 ≤ 63
next_few xs n true is other few = absurd (false≢true (sym other))
next_few xs n false is other few =
    let unequal : (n + 1) % 64 ≢ 0 = λ h. false≢true (sym is ∙ eq-eqb ((n + 1) % 64) 0 h) in omega (arith, unequal, few)

-- fewer than 64 receipts in a row end no batch
going_few : (xs : List Receipt) (n : ℕ) → GoesOn n xs → length xs + n % 64 ≤ 63
going_few [] n h = omega arith
going_few (FromPeer from bytes ∷ xs) n h =
    omega (arith, next_few xs n (nat_eq ((n + 1) % 64) 0) refl h.0 (going_few xs (n + 1) h.1))
going_few (FromClient client bytes (Some moment) ∷ xs) n h =
    omega (arith, next_few xs n (nat_eq ((n + 1) % 64) 0) refl h.0 (going_few xs (n + 1) h.1))
going_few (FromClient client bytes None ∷ xs) n h = absurd (false≢true (sym h.0))
going_few (Nothing ∷ xs) n h = absurd (false≢true (sym h.0))
going_few (Failure ∷ xs) n h = absurd (false≢true (sym h.0))

pub batch_few : (n : ℕ) (xs : List Receipt) → IsBatch n xs → length xs ≤ 64
batch_few n xs h =
    let few = going_few h.before n h.goes_on in
    let is = ap (λ (zs : List Receipt). length zs) h.is ∙ one_more h.before h.last in omega (arith, few, is)

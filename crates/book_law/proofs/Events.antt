-- Batches after which the run continues equal the run over their events.
use Rattle.std.proofs.Common.{◌≡◌, ℕ, List, [], ◌∷◌, ◌++◌, map, Option, Some, None, refl, sym, ap, ◌∙◌, subst}
use Rattle.std.proofs.lemmas.List.{append-nil, append_assoc}
use Rattle.std.proofs.lemmas.Option.{none-some}
use Rattle.oath_node.specs.Machine.{NodeEvent, NodeState, made_by_event}
use Rattle.oath_node.specs.Outputs.{outputs_of}
use Rattle.oath_node.specs.declared.item.Item.{Item}
use Rattle.oath_node.specs.declared.item.Item.TheVariants.{Datagram, Reply}
use Rattle.datagram_port.specs.Port.{PortEvent, Received, Quiet, Faulted, Offered}
use Rattle.oath_node.specs.Turns.{Member, Receipt, Run, FromPeer, FromClient, Nothing, Failure, entry_of, events_of_turn, events_of_turns, offer_of, offers_in, receipts_in, received_after, received_with, run_at, run_with_batch, run_with_batches, run_with_event, run_with_events, run_with_receipt, run_with_receipts, tally_with, while_going}
use Rattle.oath_node.specs.declared.serve_fault.ServeFault.{ServeFault}

offers-append : (xs ys : List PortEvent) → offers_in (xs ++ ys) ≡ offers_in xs ++ offers_in ys
offers-append [] ys = refl
offers-append (Received sender bytes ∷ xs) ys = offers-append xs ys
offers-append (Quiet ∷ xs) ys = offers-append xs ys
offers-append (Faulted ∷ xs) ys = offers-append xs ys
offers-append (Offered to bytes ∷ xs) ys = ap (λ (l : List PortEvent). Offered to bytes ∷ l) (offers-append xs ys)

all_offers : (items : List Item) → offers_in (map offer_of items) ≡ map offer_of items
all_offers [] = refl
all_offers (Datagram to bytes ∷ items) = ap (λ (l : List PortEvent). offer_of (Datagram to bytes) ∷ l) (all_offers items)
all_offers (Reply client bytes ∷ items) = ap (λ (l : List PortEvent). offer_of (Reply client bytes) ∷ l) (all_offers items)

-- the same node, and what one offered is what the other has
pub record Does (a b : Run) : Type 0 where
  pub node : a.node ≡ b.node
  pub offers : offers_in a.entries ≡ b.entries

abbrev put : Member → NodeEvent → NodeState → List PortEvent
put m event s = map offer_of (outputs_of m.key m.place (made_by_event m.config m.place event s)).items

event_does : (m : Member) (event : NodeEvent) (a b : Run) → Does a b → Does (run_with_event m event a) (run_with_event m event b)
event_does m event a b h = record {
  node = ap (λ (s : NodeState). (made_by_event m.config m.place event s).state) h.node;
  offers = offers-append a.entries (put m event a.node)
      ∙ ap (λ (l : List PortEvent). offers_in a.entries ++ l) (all_offers (outputs_of m.key m.place (made_by_event m.config m.place event a.node)).items)
      ∙ ap (λ (l : List PortEvent). l ++ put m event a.node) h.offers
      ∙ ap (λ (s : NodeState). b.entries ++ put m event s) h.node;
}

pub events_do : (m : Member) (events : List NodeEvent) (a b : Run) → Does a b → Does (run_with_events m events a) (run_with_events m events b)
events_do m [] a b h = h
events_do m (event ∷ events) a b h = events_do m events (run_with_event m event a) (run_with_event m event b) (event_does m event a b h)

no_offer : (x : Receipt) → offers_in (entry_of x ∷ []) ≡ []
no_offer (FromPeer from bytes) = refl
no_offer (FromClient client bytes moment) = refl
no_offer Nothing = refl
no_offer Failure = refl

receipt_does : (x : Receipt) (a b : Run) → Does a b → Does (run_with_receipt x a) b
receipt_does x a b h = record {
  node = h.node;
  offers = offers-append a.entries (entry_of x ∷ []) ∙ ap (λ (l : List PortEvent). offers_in a.entries ++ l) (no_offer x) ∙ append-nil (offers_in a.entries) ∙ h.offers;
}

pub receipts_do : (xs : List Receipt) (a b : Run) → Does a b → Does (run_with_receipts xs a) b
receipts_do [] a b h = h
receipts_do (x ∷ xs) a b h = receipts_do xs (run_with_receipt x a) b (receipt_does x a b h)

counted : (x : Receipt) (a : Run) → (tally_with x a.tally).received ≡ received_with x a.tally.received
counted (FromPeer from bytes) a = refl
counted (FromClient client bytes moment) a = refl
counted Nothing a = refl
counted Failure a = refl

receipts_count : (xs : List Receipt) (a : Run) → (run_with_receipts xs a).tally.received ≡ received_after xs a.tally.received
receipts_count [] a = refl
receipts_count (x ∷ xs) a = receipts_count xs (run_with_receipt x a) ∙ ap (λ k. received_after xs k) (counted x a)

events_count : (m : Member) (events : List NodeEvent) (a : Run) → (run_with_events m events a).tally.received ≡ a.tally.received
events_count m [] a = refl
events_count m (event ∷ events) a = events_count m events (run_with_event m event a)

pub append_events : (m : Member) (xs ys : List NodeEvent) (a : Run) → run_with_events m (xs ++ ys) a ≡ run_with_events m ys (run_with_events m xs a)
append_events m [] ys a = refl
append_events m (x ∷ xs) ys a = append_events m xs ys (run_with_event m x a)

-- what events add to the entries
pub events_add : (m : Member) (events : List NodeEvent) (a : Run) → (rest : List PortEvent) × ((run_with_events m events a).entries ≡ a.entries ++ rest)
events_add m [] a = ([], sym (append-nil a.entries))
events_add m (event ∷ events) a =
    let more = events_add m events (run_with_event m event a) in
    (put m event a.node ++ more.0, more.1 ∙ append_assoc a.entries (put m event a.node) more.0)

pub turns_append : (key : List ℕ) (k : ℕ) (xs ys : List Receipt) → events_of_turns key k (xs ++ ys) ≡ events_of_turns key k xs ++ events_of_turns key (received_after xs k) ys
turns_append key k [] ys = refl
turns_append key k (x ∷ xs) ys =
    let n = received_with x k in
    ap (λ (l : List NodeEvent). events_of_turn key n x ++ l) (turns_append key n xs ys)
    ∙ sym (append_assoc (events_of_turn key n x) (events_of_turns key n xs) (events_of_turns key (received_after xs n) ys))

received_append : (xs ys : List Receipt) (k : ℕ) → received_after (xs ++ ys) k ≡ received_after ys (received_after xs k)
received_append [] ys k = refl
received_append (x ∷ xs) ys k = received_append xs ys (received_with x k)

-- ---- batches

-- after `k` datagrams a run does what another run did
pub record DoesAfter (k : ℕ) (a b : Run) : Type 0 where
  pub does : Does a b
  pub count : a.tally.received ≡ k

batch_does : (m : Member) (xs : List Receipt) (k : ℕ) (a b : Run) → DoesAfter k a b → DoesAfter (received_after xs k) (run_with_batch m xs a) (run_with_events m (events_of_turns m.key k xs) b)
batch_does m xs k a b h =
    let es = events_of_turns m.key k xs in
    let same : events_of_turns m.key a.tally.received xs ≡ es = ap (λ n. events_of_turns m.key n xs) h.count in
    record {
      does = subst (λ l. Does (run_with_events m l (run_with_receipts xs a)) (run_with_events m es b)) (sym same) (events_do m es (run_with_receipts xs a) b (receipts_do xs a b h.does));
      count = events_count m (events_of_turns m.key a.tally.received xs) (run_with_receipts xs a) ∙ receipts_count xs a ∙ ap (λ n. received_after xs n) h.count;
    }

stays_ended : (m : Member) (xs : List (List Receipt)) (a : Run) (fault : ServeFault) → a.end ≡ Some fault → run_with_batches m xs a ≡ a
stays_ended m [] a fault h = refl
stays_ended m (x ∷ xs) a fault h =
    ap (λ (o : Option ServeFault). run_with_batches m xs (while_going o (run_with_batch m x a) a)) h ∙ stays_ended m xs a fault h

went_on : (m : Member) (xs : List (List Receipt)) (a : Run) (o : Option ServeFault) → a.end ≡ o → (run_with_batches m xs a).end ≡ None → a.end ≡ None
went_on m xs a None e h = e
went_on m xs a (Some fault) e h = absurd (none-some fault (sym h ∙ ap (λ (z : Run). z.end) (stays_ended m xs a fault e) ∙ e))

-- the batches up to the one that ended the run, and the later batches
pub record Ends (m : Member) (xs : List (List Receipt)) (k : ℕ) (a b : Run) : Type 0 where
  pub gone : List (List Receipt)
  pub later : List (List Receipt)
  pub split : xs ≡ gone ++ later
  pub does : DoesAfter (received_after (receipts_in gone) k) (run_with_batches m xs a) (run_with_events m (events_of_turns m.key k (receipts_in gone)) b)
  pub all : (run_with_batches m xs a).end ≡ None → gone ≡ xs

-- the batches with one before them
end_more : (m : Member) (x : List Receipt) (xs : List (List Receipt)) (k : ℕ) (a b : Run) → a.end ≡ None
    → Ends m xs (received_after x k) (run_with_batch m x a) (run_with_events m (events_of_turns m.key k x) b) → Ends m (x ∷ xs) k a b
end_more m x xs k a b going r =
    let same : run_with_batches m (x ∷ xs) a ≡ run_with_batches m xs (run_with_batch m x a) = ap (λ (o : Option ServeFault). run_with_batches m xs (while_going o (run_with_batch m x a) a)) going in
    let rest = receipts_in r.gone in
    let events : run_with_events m (events_of_turns m.key k (x ++ rest)) b ≡ run_with_events m (events_of_turns m.key (received_after x k) rest) (run_with_events m (events_of_turns m.key k x) b) =
    ap (λ l. run_with_events m l b) (turns_append m.key k x rest) ∙ append_events m (events_of_turns m.key k x) (events_of_turns m.key (received_after x k) rest) b in
    record {
      gone = x ∷ r.gone;
      later = r.later;
      split = ap (λ l. x ∷ l) r.split;
      does = record {
        does = subst (λ (z : Run). Does z (run_with_events m (events_of_turns m.key k (x ++ rest)) b)) (sym same)
            (subst (λ (z : Run). Does (run_with_batches m xs (run_with_batch m x a)) z) (sym events) r.does.does);
        count = ap (λ (z : Run). z.tally.received) same ∙ r.does.count ∙ sym (received_append x rest k);
      };
      all = λ end. ap (λ l. x ∷ l) (r.all (sym (ap (λ (z : Run). z.end) same) ∙ end));
    }

end_step : (m : Member) (x : List Receipt) (xs : List (List Receipt)) (k : ℕ) (a b : Run) → DoesAfter k a b
    → ((k2 : ℕ) (a2 b2 : Run) → DoesAfter k2 a2 b2 → Ends m xs k2 a2 b2) → (o : Option ServeFault) → a.end ≡ o → Ends m (x ∷ xs) k a b
end_step m x xs k a b h rest (Some fault) e =
    let same = stays_ended m (x ∷ xs) a fault e in
    record {
      gone = [];
      later = x ∷ xs;
      split = refl;
      does = record { does = subst (λ (z : Run). Does z b) (sym same) h.does; count = ap (λ (z : Run). z.tally.received) same ∙ h.count };
      all = λ end. absurd (none-some fault (sym end ∙ ap (λ (z : Run). z.end) same ∙ e));
    }
end_step m x xs k a b h rest None going =
    end_more m x xs k a b going (rest (received_after x k) (run_with_batch m x a) (run_with_events m (events_of_turns m.key k x) b) (batch_does m x k a b h))

batches_end : (m : Member) (xs : List (List Receipt)) (k : ℕ) (a b : Run) → DoesAfter k a b → Ends m xs k a b
batches_end m [] k a b h = record { gone = []; later = []; split = refl; does = h; all = λ _. refl }
batches_end m (x ∷ xs) k a b h = end_step m x xs k a b h (λ k2 a2 b2 h2. batches_end m xs k2 a2 b2 h2) a.end refl

pub all_end : (m : Member) (xs : List (List Receipt)) (s : NodeState) → Ends m xs 0 (run_at s) (run_at s)
all_end m xs s = batches_end m xs 0 (run_at s) (run_at s) (record { does = record { node = refl; offers = refl }; count = refl })

-- the claim if all batches are served
pub all_done : (m : Member) (xs : List (List Receipt)) (s : NodeState) → (run_with_batches m xs (run_at s)).end ≡ None
    → DoesAfter (received_after (receipts_in xs) 0) (run_with_batches m xs (run_at s)) (run_with_events m (events_of_turns m.key 0 (receipts_in xs)) (run_at s))
all_done m xs s end =
    let r = all_end m xs s in
    subst (λ l. DoesAfter (received_after (receipts_in l) 0) (run_with_batches m xs (run_at s)) (run_with_events m (events_of_turns m.key 0 (receipts_in l)) (run_at s))) (r.all end) r.does

-- one batch more
pub receipts_end : (xs : List (List Receipt)) (x : List Receipt) → receipts_in (xs ++ x ∷ []) ≡ receipts_in xs ++ x
receipts_end [] x = append-nil x
receipts_end (y ∷ xs) x = ap (λ l. y ++ l) (receipts_end xs x) ∙ sym (append_assoc y (receipts_in xs) x)

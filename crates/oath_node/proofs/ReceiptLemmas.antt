-- What a node makes of a receive.
use Rattle.std.proofs.Common.{◌≡◌, ◌≢◌, ℕ, ◌+◌, ◌%◌, Bool, true, false, List, [], ◌∷◌, ◌++◌, refl, sym, ap, ◌∙◌, arith, eq-eqb}
use Rattle.std.specs.Prelude.{if◌then◌else◌, nat_eq, Option, Some, None, Ok, Err}
use Rattle.std.proofs.lemmas.List.{append_assoc, append-nil}
use Rattle.std.proofs.lemmas.Bool.Decides.{nat_tests}
use Rattle.floor_store.specs.Held.{Held}
use Rattle.oath_node.specs.Calls.{Takes}
use Rattle.oath_node.specs.Hosted.{Hosted, envelope_at}
use Rattle.oath_node.specs.Machine.{Client, Peer}
use Rattle.oath_node.specs.Outputs.{OutputsRecord}
use Rattle.oath_node.specs.declared.fault.NodeFault.{NodeFault}
use Rattle.oath_node.specs.declared.item.Item.{Item}
use Rattle.datagram_port.specs.Port.{Grows, Received, Quiet, Faulted}
use Rattle.oath_node.specs.TurnSteps.{TakesDatagram, TakesReceived, end_after, end_of, items_in, tally_with_datagram}
use Rattle.oath_node.specs.Turns.{FromPeer, FromClient, Nothing, Failure, tally_with}
use Rattle.datagram_port.specs.declared.port.Sender.{Sender}
use Rattle.datagram_port.specs.declared.port.Sender.TheVariants.{Client as ToClient, Peer as ToPeer}
use Rattle.oath_node.specs.declared.turns.BatchEnd.{BatchEnd}
use Rattle.oath_node.specs.declared.turns.BatchEnd.TheVariants as ends
use Rattle.oath_node.specs.declared.turns.Tally.{Tally}
use Rattle.oath_node.proofs.GrowLemmas.{grows_refl}
use Rattle.oath_node.proofs.TurnStepLemmas.{takes_none, takes_one}

-- ---- A datagram

-- of a member
pub peer_taken : {S : Type 0} (held : S → Held) (old new : Hosted S) (from : ℕ) (bytes : List ℕ) (asked : Option (List (Option ℕ)))
    (outputs : OutputsRecord) → Takes held old new (Peer from (envelope_at old.key bytes)) (Ok outputs)
    → TakesDatagram held old new (ToPeer from) bytes asked asked (Ok (Some outputs))
peer_taken held old new from bytes asked outputs h = record {
  receipt = FromPeer from bytes;
  is = refl;
  moments = grows_refl asked;
  ends = (record { tally = λ t. refl; end = λ t. refl }, takes_one held old new (Peer from (envelope_at old.key bytes)) outputs h);
}

pub peer_failed : {S : Type 0} (held : S → Held) (old new : Hosted S) (from : ℕ) (bytes : List ℕ) (asked : Option (List (Option ℕ)))
    (fault : NodeFault) → Takes held old new (Peer from (envelope_at old.key bytes)) (Err fault)
    → TakesDatagram held old new (ToPeer from) bytes asked asked (Err fault)
peer_failed held old new from bytes asked fault h = record {
  receipt = FromPeer from bytes;
  is = refl;
  moments = grows_refl asked;
  ends = (record { tally = λ t. refl; end = λ t. refl }, (Peer from (envelope_at old.key bytes), refl, h));
}

-- of a client
pub line_taken : {S : Type 0} (held : S → Held) (old new : Hosted S) (client moment : ℕ) (bytes : List ℕ)
    (asked told : Option (List (Option ℕ))) (outputs : OutputsRecord) → Grows asked told (Some moment ∷ [])
    → Takes held old new (Client client moment bytes) (Ok outputs)
    → TakesDatagram held old new (ToClient client) bytes asked told (Ok (Some outputs))
line_taken held old new client moment bytes asked told outputs grows h = record {
  receipt = FromClient client bytes (Some moment);
  is = refl;
  moments = grows;
  ends = (record { tally = λ t. refl; end = λ t. refl }, takes_one held old new (Client client moment bytes) outputs h);
}

pub line_failed : {S : Type 0} (held : S → Held) (old new : Hosted S) (client moment : ℕ) (bytes : List ℕ)
    (asked told : Option (List (Option ℕ))) (fault : NodeFault) → Grows asked told (Some moment ∷ [])
    → Takes held old new (Client client moment bytes) (Err fault)
    → TakesDatagram held old new (ToClient client) bytes asked told (Err fault)
line_failed held old new client moment bytes asked told fault grows h = record {
  receipt = FromClient client bytes (Some moment);
  is = refl;
  moments = grows;
  ends = (record { tally = λ t. refl; end = λ t. refl }, (Client client moment bytes, refl, h));
}

pub line_untimed : {S : Type 0} (held : S → Held) (node : Hosted S) (client : ℕ) (bytes : List ℕ)
    (asked told : Option (List (Option ℕ))) → Grows asked told (None ∷ [])
    → TakesDatagram held node node (ToClient client) bytes asked told (Ok None)
line_untimed held node client bytes asked told grows = record {
  receipt = FromClient client bytes None;
  is = refl;
  moments = grows;
  ends = (record { tally = λ t. refl; end = λ t. refl }, takes_none held node);
}

-- ---- A receive

items_more : (waiting : List (Option OutputsRecord)) (outputs : OutputsRecord)
    → items_in (waiting ++ Some outputs ∷ []) ≡ items_in waiting ++ outputs.items
items_more [] outputs = append-nil outputs.items
items_more (None ∷ waiting) outputs = items_more waiting outputs
items_more (Some first ∷ waiting) outputs =
    ap (λ (items : List Item). first.items ++ items) (items_more waiting outputs)
    ∙ sym (append_assoc first.items (items_in waiting) outputs.items)

-- of a datagram that is taken
pub datagram_received : {S : Type 0} (held : S → Held) (old new : Hosted S) (sender : Sender) (bytes : List ℕ) (asked told : Option (List (Option ℕ)))
    (t : Tally) (waited waits : List (Option OutputsRecord)) (outputs : OutputsRecord) (end : BatchEnd)
    → TakesDatagram held old new sender bytes asked told (Ok (Some outputs)) → waits ≡ waited ++ Some outputs ∷ []
    → end ≡ end_after (t.received + 1)
    → TakesReceived held old new (Received sender bytes) asked told t (tally_with_datagram t) waited waits (Ok end)
datagram_received held old new sender bytes asked told t waited waits outputs end h is follows = record {
  receipt = h.receipt;
  is = h.is;
  items = outputs.items;
  takes = record {
    moments = h.moments;
    tally = sym (h.ends.0.tally t);
    takes = h.ends.1;
    end = follows ∙ sym (h.ends.0.end (tally_with_datagram t));
  };
  waits_for = ap items_in is ∙ items_more waited outputs;
}

pub datagram_untimed : {S : Type 0} (held : S → Held) (old new : Hosted S) (sender : Sender) (bytes : List ℕ) (asked told : Option (List (Option ℕ)))
    (t : Tally) (waited : List (Option OutputsRecord)) → TakesDatagram held old new sender bytes asked told (Ok None)
    → TakesReceived held old new (Received sender bytes) asked told t (tally_with_datagram t) waited waited (Ok ends.Clock)
datagram_untimed held old new sender bytes asked told t waited h = record {
  receipt = h.receipt;
  is = h.is;
  items = [];
  takes = record {
    moments = h.moments;
    tally = sym (h.ends.0.tally t);
    takes = h.ends.1;
    end = sym (h.ends.0.end (tally_with_datagram t));
  };
  waits_for = sym (append-nil (items_in waited));
}

pub datagram_failed : {S : Type 0} (held : S → Held) (old new : Hosted S) (sender : Sender) (bytes : List ℕ) (asked told : Option (List (Option ℕ)))
    (t : Tally) (waited : List (Option OutputsRecord)) (fault : NodeFault) → TakesDatagram held old new sender bytes asked told (Err fault)
    → TakesReceived held old new (Received sender bytes) asked told t (tally_with_datagram t) waited waited (Err fault)
datagram_failed held old new sender bytes asked told t waited fault h = record {
  receipt = h.receipt;
  is = h.is;
  items = [];
  takes = record {
    moments = h.moments;
    tally = sym (h.ends.0.tally t);
    takes = h.ends.1;
    end = tt;
  };
  waits_for = tt;
}

-- of nothing
pub quiet_received : {S : Type 0} (held : S → Held) (node : Hosted S) (asked : Option (List (Option ℕ))) (t : Tally)
    (waited : List (Option OutputsRecord))
    → TakesReceived held node node Quiet asked asked t (tally_with Nothing t) waited waited (Ok ends.Tick)
quiet_received held node asked t waited = record {
  receipt = Nothing;
  is = refl;
  items = [];
  takes = record { moments = grows_refl asked; tally = refl; takes = takes_none held node; end = refl };
  waits_for = sym (append-nil (items_in waited));
}

-- of a fault
pub fault_received : {S : Type 0} (held : S → Held) (node : Hosted S) (asked : Option (List (Option ℕ))) (t : Tally)
    (waited : List (Option OutputsRecord)) (end : BatchEnd) → end ≡ end_of Failure (tally_with Failure t)
    → TakesReceived held node node Faulted asked asked t (tally_with Failure t) waited waited (Ok end)
fault_received held node asked t waited end is = record {
  receipt = Failure;
  is = refl;
  items = [];
  takes = record { moments = grows_refl asked; tally = refl; takes = takes_none held node; end = is };
  waits_for = sym (append-nil (items_in waited));
}

by_true : (b : Bool) (x y : BatchEnd) → b ≡ true → x ≡ (if b then x else y)
by_true true x y h = refl
by_true false x y h = absurd cc

by_false : (b : Bool) (x y : BatchEnd) → b ≡ false → y ≡ (if b then x else y)
by_false true x y h = absurd cc
by_false false x y h = refl

unequal : (n m : ℕ) → n ≢ m → nat_eq n m ≡ false
unequal n m h = grind (arith, nat_tests)

pub tick_follows : (n : ℕ) → n % 64 ≡ 0 → ends.Tick ≡ end_after n
tick_follows n h = by_true (nat_eq (n % 64) 0) ends.Tick ends.More (eq-eqb (n % 64) 0 h)

pub more_follows : (n : ℕ) → n % 64 ≢ 0 → ends.More ≡ end_after n
more_follows n h = by_false (nat_eq (n % 64) 0) ends.Tick ends.More (unequal (n % 64) 0 h)

pub port_follows : (t : Tally) → t.faults + 1 ≡ 16 → ends.Port ≡ end_of Failure (tally_with Failure t)
port_follows t h = by_true (nat_eq (t.faults + 1) 16) ends.Port ends.Commit (eq-eqb (t.faults + 1) 16 h)

pub commit_follows : (t : Tally) → t.faults + 1 ≢ 16 → ends.Commit ≡ end_of Failure (tally_with Failure t)
commit_follows t h = by_false (nat_eq (t.faults + 1) 16) ends.Port ends.Commit (unequal (t.faults + 1) 16 h)

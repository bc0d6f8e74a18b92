-- The receives of a batch, one after the other, and the outcome of a batch.
use Rattle.std.proofs.Common.{◌≡◌, ℕ, ◌+◌, ◌*◌, ◌%◌, ◌^◌, ◌<◌, ◌≤◌, Bool, true, false, List, [], ◌∷◌, ◌++◌, length, map, refl, sym, ap, ◌∙◌, subst, arith, length-append}
use Rattle.std.specs.Prelude.{if◌then◌else◌, nat_eq, Option, Some, None, Result, Ok, Err, OnOk}
use Rattle.std.specs.Option.{option_map}
use Rattle.std.proofs.lemmas.List.{append_assoc, append-nil, map-append}
use Rattle.std.proofs.lemmas.Bool.Decides.{nat_tests}
use Rattle.floor_store.specs.Held.{Held, IsSettled}
use Rattle.oath_node.specs.Calls.{CommitsNode}
use Rattle.oath_node.specs.Hosted.{Hosted}
use Rattle.oath_node.specs.Machine.{NodeEvent, Tick}
use Rattle.oath_node.specs.Outputs.{OutputsRecord}
use Rattle.oath_node.specs.declared.fault.NodeFault.{NodeFault}
use Rattle.oath_node.specs.declared.item.Item.{Item}
use Rattle.datagram_port.specs.Port.{Grows, PortEvent}
use Rattle.oath_node.specs.TurnServing.{EndsSettled}
use Rattle.oath_node.specs.TurnSteps.{BatchEnds, FailsIn, Gathers, GathersBatch, HasMade, IsOf, Scene, SettlesBatch, StepsBatch, TakesAll, TakesBatch, TakesReceipt, TakesReceived, TakesTick, datagram_events, end_of, items_in, reply_count, tally_after, ticks_of}
use Rattle.oath_node.specs.Turns.{GoesOn, IsBatch, Member, Receipt, Run, FromPeer, FromClient, Nothing, Failure, end_with, ends_batch, entry_of, events_of_turn, events_of_turns, member_of, moments_for, moments_in, offer_of, received_after, received_with, receives_in, run_with_batch, run_with_receipt, run_with_receipts, tally_with, with_replies}
use Rattle.oath_node.specs.declared.serve_fault.ServeFault.{ServeFault}
use Rattle.oath_node.specs.declared.serve_fault.ServeFault.TheVariants.{Node, Port, Clock}
use Rattle.oath_node.specs.declared.turns.BatchEnd.{BatchEnd}
use Rattle.oath_node.specs.declared.turns.BatchEnd.TheVariants as ends
use Rattle.oath_node.specs.declared.turns.Gathered.{Gathered}
use Rattle.oath_node.specs.declared.turns.Tally.{Tally}
use Rattle.oath_node.proofs.GrowLemmas.{AreOffered, grows_receives, grows_refl, grows_trans, receives_in-append, receives_in-offers, reply_count-append, reply_count-few}
use Rattle.oath_node.proofs.TurnStepLemmas.{fails_among, fails_clean, fails_first, fails_last, fails_more, fails_same, left_among, run_with_events-end, same_trans, takes_more, takes_none}

-- ---- Receives one after the other

pub received_is : (x : Receipt) (t : Tally) → (tally_with x t).received ≡ received_with x t.received
received_is (FromPeer from bytes) t = refl
received_is (FromClient client bytes moment) t = refl
received_is Nothing t = refl
received_is Failure t = refl

replied_is : (x : Receipt) (t : Tally) → (tally_with x t).replied ≡ t.replied
replied_is (FromPeer from bytes) t = refl
replied_is (FromClient client bytes moment) t = refl
replied_is Nothing t = refl
replied_is Failure t = refl

pub received_after_is : (xs : List Receipt) (t : Tally) → (tally_after xs t).received ≡ received_after xs t.received
received_after_is [] t = refl
received_after_is (x ∷ xs) t = received_after_is xs (tally_with x t) ∙ ap (received_after xs) (received_is x t)

pub replied_after_is : (xs : List Receipt) (t : Tally) → (tally_after xs t).replied ≡ t.replied
replied_after_is [] t = refl
replied_after_is (x ∷ xs) t = replied_after_is xs (tally_with x t) ∙ replied_is x t

received_few : (x : Receipt) (n : ℕ) → received_with x n ≤ n + 1
received_few (FromPeer from bytes) n = omega arith
received_few (FromClient client bytes moment) n = omega arith
received_few Nothing n = omega arith
received_few Failure n = omega arith

pub received_after_few : (xs : List Receipt) (n : ℕ) → received_after xs n ≤ n + length xs
received_after_few [] n = omega arith
received_after_few (x ∷ xs) n = omega (arith, received_after_few xs (received_with x n), received_few x n)

pub tally_after-append : (xs : List Receipt) (x : Receipt) (t : Tally) → tally_after (xs ++ x ∷ []) t ≡ tally_with x (tally_after xs t)
tally_after-append [] x t = refl
tally_after-append (y ∷ xs) x t = tally_after-append xs x (tally_with y t)

pub received_after-append : (xs ys : List Receipt) (n : ℕ) → received_after (xs ++ ys) n ≡ received_after ys (received_after xs n)
received_after-append [] ys n = refl
received_after-append (x ∷ xs) ys n = received_after-append xs ys (received_with x n)

pub one_more : (xs : List Receipt) (x : Receipt) → length (xs ++ x ∷ []) ≡ length xs + 1
one_more [] x = refl
one_more (y ∷ xs) x = omega (arith, one_more xs x)

moments_more : (xs : List Receipt) (x : Receipt) → moments_in (xs ++ x ∷ []) ≡ moments_in xs ++ moments_for x
moments_more [] x = append-nil (moments_for x)
moments_more (y ∷ xs) x =
    ap (λ ms. moments_for y ++ ms) (moments_more xs x) ∙ sym (append_assoc (moments_for y) (moments_in xs) (moments_for x))

pub moments_with : (asked told said : Option (List (Option ℕ))) (xs : List Receipt) (x : Receipt)
    → Grows asked told (moments_in xs) → Grows told said (moments_for x) → Grows asked said (moments_in (xs ++ x ∷ []))
moments_with asked told said xs x h k =
    subst (Grows asked said) (sym (moments_more xs x)) (grows_trans asked told said (moments_in xs) (moments_for x) h k)

pub entries_with : (first e0 e1 : Option (List PortEvent)) (xs : List Receipt) (x : Receipt)
    → Grows first e0 (map entry_of xs) → Grows e0 e1 (entry_of x ∷ []) → Grows first e1 (map entry_of (xs ++ x ∷ []))
entries_with first e0 e1 xs x h k =
    subst (Grows first e1) (sym (map-append entry_of xs (x ∷ [])))
    (grows_trans first e0 e1 (map entry_of xs) (entry_of x ∷ []) h k)

pub events_more : (key : List ℕ) (n : ℕ) (xs : List Receipt) (x : Receipt)
    → events_of_turns key n (xs ++ x ∷ [])
    ≡ events_of_turns key n xs ++ events_of_turn key (received_with x (received_after xs n)) x
events_more key n [] x = append-nil (events_of_turn key (received_with x n) x)
events_more key n (y ∷ xs) x =
    let count = received_with y n in
    let first = events_of_turn key count y in
    ap (λ (es : List NodeEvent). first ++ es) (events_more key count xs x)
    ∙ sym (append_assoc first (events_of_turns key count xs) (events_of_turn key (received_with x (received_after xs count)) x))

pub going_more : (n : ℕ) (xs : List Receipt) (x : Receipt) → GoesOn n xs
    → ends_batch (received_with x (received_after xs n)) x ≡ false → GoesOn n (xs ++ x ∷ [])
going_more n [] x h k = (k, tt)
going_more n (y ∷ xs) x h k = (h.0, going_more (received_with y n) xs x h.1 k)

-- ---- What follows a receipt

more_by : (b : Bool) → (if b then ends.Tick else ends.More) ≡ ends.More → b ≡ false
more_by true h = absurd cc
more_by false h = refl

fault_by : (b : Bool) → (if b then ends.Port else ends.Commit) ≡ ends.More → ⊥
fault_by true h = cc
fault_by false h = cc

pub ends_not : (x : Receipt) (t : Tally) → end_of x t ≡ ends.More → ends_batch t.received x ≡ false
ends_not (FromPeer from bytes) t h = more_by (nat_eq (t.received % 64) 0) h
ends_not (FromClient client bytes (Some moment)) t h = more_by (nat_eq (t.received % 64) 0) h
ends_not (FromClient client bytes None) t h = absurd cc
ends_not Nothing t h = absurd cc
ends_not Failure t h = absurd (fault_by (nat_eq t.faults 16) h)

pub calm_more : (x : Receipt) (t u : Tally) → end_of x u ≡ ends.More → (tally_with x t).faults ≡ 0
calm_more (FromPeer from bytes) t u h = refl
calm_more (FromClient client bytes (Some moment)) t u h = refl
calm_more (FromClient client bytes None) t u h = refl
calm_more Nothing t u h = refl
calm_more Failure t u h = absurd (fault_by (nat_eq u.faults 16) h)

calm_datagram : (x : Receipt) (n : ℕ) (t : Tally) → ends_batch n x ≡ false → (tally_with x t).faults ≡ 0
calm_datagram (FromPeer from bytes) n t h = refl
calm_datagram (FromClient client bytes moment) n t h = refl
calm_datagram Nothing n t h = refl
calm_datagram Failure n t h = absurd cc

pub calm_after : (xs : List Receipt) (n : ℕ) (t : Tally) → GoesOn n xs → t.faults < 16 → (tally_after xs t).faults < 16
calm_after [] n t h few = few
calm_after (x ∷ xs) n t h few =
    calm_after xs (received_with x n) (tally_with x t) h.1
    (let e = calm_datagram x (received_with x n) t h.0 in omega (arith, e))

-- the fault that ends a run at the end of a batch
abbrev pub fault_of : BatchEnd → Option ServeFault
fault_of ends.More = None
fault_of ends.Commit = None
fault_of ends.Tick = None
fault_of ends.Port = Some Port
fault_of ends.Clock = Some Clock

no_fault : (b : Bool) → None ≡ fault_of (if b then ends.Tick else ends.More)
no_fault true = refl
no_fault false = refl

port_fault : (b : Bool) → (if b then Some Port else None) ≡ fault_of (if b then ends.Port else ends.Commit)
port_fault true = refl
port_fault false = refl

pub end_is : (x : Receipt) (t : Tally) → end_with x t ≡ fault_of (end_of x t)
end_is (FromPeer from bytes) t = no_fault (nat_eq (t.received % 64) 0)
end_is (FromClient client bytes (Some moment)) t = no_fault (nat_eq (t.received % 64) 0)
end_is (FromClient client bytes None) t = refl
end_is Nothing t = refl
end_is Failure t = port_fault (nat_eq t.faults 16)

few_by : (n : ℕ) (b : Bool) → b ≡ nat_eq n 16 → n ≤ 16 → fault_of (if b then ends.Port else ends.Commit) ≡ None → n < 16
few_by n true is most h = absurd cc
few_by n false is most h = grind (arith, nat_tests)

pub calm_end : (x : Receipt) (t : Tally) → t.faults < 16 → fault_of (end_of x (tally_with x t)) ≡ None → (tally_with x t).faults < 16
calm_end (FromPeer from bytes) t few h = omega arith
calm_end (FromClient client bytes moment) t few h = omega arith
calm_end Nothing t few h = omega arith
calm_end Failure t few h = few_by (t.faults + 1) (nat_eq (t.faults + 1) 16) refl (omega (arith, few)) h

tick_by : (b : Bool) → (if b then Tick ∷ [] else []) ≡ ticks_of (if b then ends.Tick else ends.More)
tick_by true = refl
tick_by false = refl

fault_ticks : (b : Bool) → [] ≡ ticks_of (if b then ends.Port else ends.Commit)
fault_ticks true = refl
fault_ticks false = refl

-- the events of a turn are its datagram's, followed by a tick that is due
pub turn_events : (key : List ℕ) (x : Receipt) (t : Tally)
    → events_of_turn key t.received x ≡ datagram_events key x ++ ticks_of (end_of x t)
turn_events key (FromPeer from bytes) t = ap (λ (es : List NodeEvent). datagram_events key (FromPeer from bytes) ++ es) (tick_by (nat_eq (t.received % 64) 0))
turn_events key (FromClient client bytes (Some moment)) t =
    ap (λ (es : List NodeEvent). datagram_events key (FromClient client bytes (Some moment)) ++ es) (tick_by (nat_eq (t.received % 64) 0))
turn_events key (FromClient client bytes None) t = refl
turn_events key Nothing t = refl
turn_events key Failure t = fault_ticks (nat_eq t.faults 16)

short_by : (b : Bool) → length (if b then Tick ∷ [] else []) ≤ 1
short_by true = omega arith
short_by false = omega arith

turn_short : (key : List ℕ) (n : ℕ) (x : Receipt) → length (events_of_turn key n x) ≤ 2
turn_short key n (FromPeer from bytes) = omega (arith, short_by (nat_eq (n % 64) 0))
turn_short key n (FromClient client bytes (Some moment)) = omega (arith, short_by (nat_eq (n % 64) 0))
turn_short key n (FromClient client bytes None) = omega arith
turn_short key n Nothing = omega arith
turn_short key n Failure = omega arith

pub turns_short : (key : List ℕ) (n : ℕ) (xs : List Receipt) → length (events_of_turns key n xs) ≤ 2 * length xs
turns_short key n [] = omega arith
turns_short key n (x ∷ xs) =
    let count = received_with x n in
    omega (
      arith,
      length-append (events_of_turn key count x) (events_of_turns key count xs),
      turn_short key count x,
      turns_short key count xs,
    )

-- ---- The run with receives

pub receipts_node : (xs : List Receipt) (run : Run) → (run_with_receipts xs run).node ≡ run.node
receipts_node [] run = refl
receipts_node (x ∷ xs) run = receipts_node xs (run_with_receipt x run)

pub receipts_entries : (xs : List Receipt) (run : Run) → (run_with_receipts xs run).entries ≡ run.entries ++ map entry_of xs
receipts_entries [] run = sym (append-nil run.entries)
receipts_entries (x ∷ xs) run =
    receipts_entries xs (run_with_receipt x run) ∙ append_assoc run.entries (entry_of x ∷ []) (map entry_of xs)

pub receipts_tally : (xs : List Receipt) (run : Run) → (run_with_receipts xs run).tally ≡ tally_after xs run.tally
receipts_tally [] run = refl
receipts_tally (x ∷ xs) run = receipts_tally xs (run_with_receipt x run)

pub receipts_end : (xs : List Receipt) (x : Receipt) (run : Run)
    → (run_with_receipts (xs ++ x ∷ []) run).end ≡ end_with x (tally_after (xs ++ x ∷ []) run.tally)
receipts_end [] x run = refl
receipts_end (y ∷ xs) x run = receipts_end xs x (run_with_receipt y run)

pub batch_end : (member : Member) (xs : List Receipt) (x : Receipt) (run : Run)
    → (run_with_batch member (xs ++ x ∷ []) run).end ≡ fault_of (end_of x (tally_after (xs ++ x ∷ []) run.tally))
batch_end member xs x run =
    let batch = xs ++ x ∷ [] in
    run_with_events-end member (events_of_turns member.key run.tally.received batch) (run_with_receipts batch run)
    ∙ receipts_end xs x run ∙ end_is x (tally_after batch run.tally)

pub end_of_datagram : (x : Receipt) (n : ℕ) (t : Tally) → ends_batch n x ≡ false → end_with x t ≡ None
end_of_datagram (FromPeer from bytes) n t h = refl
end_of_datagram (FromClient client bytes (Some moment)) n t h = refl
end_of_datagram (FromClient client bytes None) n t h = absurd cc
end_of_datagram Nothing n t h = refl
end_of_datagram Failure n t h = absurd cc

going_receipts : (xs : List Receipt) (n : ℕ) (run : Run) → GoesOn n xs → run.end ≡ None → (run_with_receipts xs run).end ≡ None
going_receipts [] n run h going = going
going_receipts (x ∷ xs) n run h going =
    let count = received_with x n in
    going_receipts xs count (run_with_receipt x run) h.1 (end_of_datagram x count (tally_with x run.tally) h.0)

-- a run continues after receives that end no batch
pub going_end : (member : Member) (xs : List Receipt) (n : ℕ) (run : Run) → GoesOn n xs → run.end ≡ None
    → (run_with_batch member xs run).end ≡ None
going_end member xs n run h going =
    run_with_events-end member (events_of_turns member.key run.tally.received xs) (run_with_receipts xs run)
    ∙ going_receipts xs n run h going

-- ---- A batch that is committed

pub tally_is : (t u : Tally) → t.received ≡ u.received → t.replied ≡ u.replied → t.faults ≡ u.faults → t ≡ u
tally_is t u a b c =
    ap (λ (n : ℕ). let v : Tally = record { received = n; replied = t.replied; faults = t.faults } in v) a
    ∙ ap (λ (n : ℕ). let v : Tally = record { received = u.received; replied = n; faults = t.faults } in v) b
    ∙ ap (λ (n : ℕ). let v : Tally = record { received = u.received; replied = u.replied; faults = n } in v) c

receives_entries : (xs : List Receipt) → receives_in (map entry_of xs) ≡ map entry_of xs
receives_entries [] = refl
receives_entries (FromPeer from bytes ∷ xs) = ap (λ es. entry_of (FromPeer from bytes) ∷ es) (receives_entries xs)
receives_entries (FromClient client bytes moment ∷ xs) = ap (λ es. entry_of (FromClient client bytes moment) ∷ es) (receives_entries xs)
receives_entries (Nothing ∷ xs) = ap (λ es. entry_of Nothing ∷ es) (receives_entries xs)
receives_entries (Failure ∷ xs) = ap (λ es. entry_of Failure ∷ es) (receives_entries xs)

receives_of : (xs : List Receipt) (items : List Item) → receives_in (map entry_of xs ++ map offer_of items) ≡ map entry_of xs
receives_of xs items =
    receives_in-append (map entry_of xs) (map offer_of items)
    ∙ ap (λ es. receives_in (map entry_of xs) ++ es) (receives_in-offers items)
    ∙ append-nil (receives_in (map entry_of xs)) ∙ receives_entries xs

grows_of : (x y : Option (List PortEvent)) (xs : List Receipt) (items : List Item)
    → Grows x y (map entry_of xs ++ map offer_of items)
    → Grows (option_map receives_in x) (option_map receives_in y) (map entry_of xs)
grows_of x y xs items h =
    subst (Grows (option_map receives_in x) (option_map receives_in y)) (receives_of xs items)
    (grows_receives x y (map entry_of xs ++ map offer_of items) h)

grows_entries : (x y : Option (List PortEvent)) (xs : List Receipt) → Grows x y (map entry_of xs)
    → Grows (option_map receives_in x) (option_map receives_in y) (map entry_of xs)
grows_entries x y xs h =
    subst (Grows (option_map receives_in x) (option_map receives_in y)) (receives_entries xs)
    (grows_receives x y (map entry_of xs) h)

-- The node takes and commits the events of the receives. The port gets their outputs.
pub record IsCommitted {S : Type 0} (held : S → Held) (old new : Scene S) (batch : List Receipt)
    (asked told : Option (List (Option ℕ))) : Type 0 where
  pub between : Hosted S
  pub items : List Item
  pub takes : TakesAll held old.node between (events_of_turns old.node.key old.tally.received batch) items
  pub commits : CommitsNode {A = Unit {0}} held between new.node (Ok tt)
  pub moments : Grows asked told (moments_in batch)
  pub entries : Grows old.entries new.entries (map entry_of batch ++ map offer_of items)
  pub received : new.tally.received ≡ (tally_after batch old.tally).received
  pub faults : new.tally.faults ≡ (tally_after batch old.tally).faults
  pub few : new.tally.replied ≤ old.tally.replied + reply_count items
  pub replies : old.tally.replied + reply_count items < 2 ^ 64 → new.tally.replied ≡ old.tally.replied + reply_count items

-- what the machine of a run made of a batch that came after this tally
abbrev HasMadeHere : {S : Type 0} → (S → Held) → Member → Run → List Receipt → Tally → List Item → Hosted S → Type 0
HasMadeHere held member run batch tally items new =
    HasMade held member run (events_of_turns member.key tally.received batch) items new

few_replies : {S : Type 0} (held : S → Held) (old new : Scene S) (batch : List Receipt) (asked told : Option (List (Option ℕ)))
    (c : IsCommitted held old new batch asked told) → (held new.node.store).is_clean → reply_count c.items ≤ 528 * length batch
few_replies held old new batch asked told c clean =
    omega (
      arith,
      reply_count-few c.items,
      c.takes.few (c.commits.commits.makes.clean clean),
      turns_short old.node.key old.tally.received batch,
    )

pub made_batch : {S : Type 0} (held : S → Held) (old new : Scene S) (batch : List Receipt) (asked told : Option (List (Option ℕ)))
    → IsCommitted held old new batch asked told → (held new.node.store).is_clean
    → old.tally.replied + 528 * length batch < 2 ^ 64 → (first : Option (List PortEvent)) (run : Run) → IsOf held first old run
    → IsOf held first new (run_with_batch (member_of old.node) batch run)
made_batch {S} held old new batch asked told c clean room first run of =
    let member = member_of old.node in
    let between = c.between in
    let items = c.items in
    let rest = run_with_receipts batch run in
    let m = c.takes.made (c.commits.commits.makes.clean clean) rest (of.stands.state ∙ sym (receipts_node batch run)) in
    let mine : HasMadeHere held member rest batch run.tally items between =
    subst (λ (t : Tally). HasMadeHere held member rest batch t items between) of.tally m in
    let short = few_replies held old new batch asked told c clean in
    let exact = c.replies (omega (arith, room, short)) in
    let after = tally_after batch old.tally in
    let counted : new.tally ≡ with_replies (reply_count items) after =
    tally_is new.tally (with_replies (reply_count items) after) c.received
    (exact ∙ ap (λ (n : ℕ). n + reply_count items) (sym (replied_after_is batch old.tally))) c.faults in
    let rest_tally : tally_after batch old.tally ≡ rest.tally =
    ap (tally_after batch) of.tally ∙ sym (receipts_tally batch run) in
    record {
      stands = record {
        state = c.commits.state clean ∙ mine.state;
        entries = subst (Grows first new.entries)
            (sym (mine.entries ∙ ap (λ (es : List PortEvent). es ++ map offer_of items) (receipts_entries batch run)
            ∙ append_assoc run.entries (map entry_of batch) (map offer_of items)))
            (grows_trans first old.entries new.entries run.entries (map entry_of batch ++ map offer_of items) of.stands.entries c.entries);
      };
      tally = counted ∙ ap (with_replies (reply_count items)) rest_tally ∙ sym mine.tally;
    }

-- how a step with a committed batch ends, by what its result is
pub steps_batch : {A S : Type 0} (held : S → Held) (old new : Scene S) (batch : List Receipt) (asked told : Option (List (Option ℕ)))
    (result : Result A ServeFault) → IsCommitted held old new batch asked told → OnOk result (new.tally.faults < 16)
    → (IsSettled (held new.node.store) → EndsSettled (held new.node.store) result)
    → ((first : Option (List PortEvent)) (run : Run) → IsOf held first old run → run.end ≡ None
    → IsOf held first new (run_with_batch (member_of old.node) batch run)
    → BatchEnds held first (held old.node.store) (member_of old.node) run batch new result)
    → StepsBatch held old new batch asked told result
steps_batch held old new batch asked told result c faults settles ends = record {
  same = same_trans old.node c.between new.node c.takes.same c.commits.same;
  clean = λ clean. c.takes.clean (c.commits.commits.makes.clean clean);
  moments = c.moments;
  receives = grows_of old.entries new.entries batch c.items c.entries;
  received = c.received;
  faults = faults;
  few = λ clean. omega (arith, c.few, few_replies held old new batch asked told c clean);
  settled = λ clean. settles (c.commits.commits.settled clean);
  does = λ clean room first run of going.
      ends first run of going (made_batch held old new batch asked told c clean room first run of);
}

-- a step with a batch that the node answers a fault in
pub steps_fault : {A S : Type 0} (held : S → Held) (old new : Scene S) (batch : List Receipt) (asked told : Option (List (Option ℕ)))
    (fault : NodeFault) → FailsIn held old.node new.node (events_of_turns old.node.key old.tally.received batch) fault
    → Grows asked told (moments_in batch) → Grows old.entries new.entries (map entry_of batch)
    → new.tally.received ≡ (tally_after batch old.tally).received → new.tally.replied ≡ old.tally.replied
    → StepsBatch {A = A} held old new batch asked told (Err (Node fault))
steps_fault {A} held old new batch asked told fault f moments entries received replied =
    let key = old.node.key in
    record {
      same = fails_same held old.node new.node (events_of_turns key old.tally.received batch) fault f;
      clean = fails_clean held old.node new.node (events_of_turns key old.tally.received batch) fault f;
      moments = moments;
      receives = grows_entries old.entries new.entries batch entries;
      received = received;
      faults = tt;
      few = λ clean. omega (arith, replied);
      settled = λ clean. tt;
      does = λ clean room first run of going.
          let here : FailsIn held old.node new.node (events_of_turns key run.tally.received batch) fault =
          subst (λ (t : Tally). FailsIn held old.node new.node (events_of_turns key t.received batch) fault) of.tally f in
          let events = events_of_turns key run.tally.received batch in
          let rest = run_with_receipts batch run in (
            fails_among held first old.node new.node events fault rest new.entries here clean
                (of.stands.state ∙ sym (receipts_node batch run))
                (subst (Grows first new.entries) (sym (receipts_entries batch run))
                (grows_trans first old.entries new.entries run.entries (map entry_of batch) of.stands.entries entries)),
            λ settled. left_among held old.node new.node events fault run here clean of.stands.state settled,
          );
    }

-- ---- a gathered batch that is settled

grows_made : {A : Type 0} (x : Option (List A)) (xs : List A) → Grows x (option_map (λ ys. ys ++ xs) x) xs
grows_made None xs = tt
grows_made (Some ys) xs = refl

-- the events of a batch, but for a tick that is due
pub batch_events : (key : List ℕ) (xs : List Receipt) (x : Receipt) (t u : Tally) → u ≡ tally_after (xs ++ x ∷ []) t
    → (events_of_turns key t.received xs ++ datagram_events key x) ++ ticks_of (end_of x u)
    ≡ events_of_turns key t.received (xs ++ x ∷ [])
batch_events key xs x t u is =
    let before = events_of_turns key t.received xs in
    let count : u.received ≡ received_with x (received_after xs t.received) =
    ap (λ (v : Tally). v.received) (is ∙ tally_after-append xs x t) ∙ received_is x (tally_after xs t)
    ∙ ap (received_with x) (received_after_is xs t) in
    append_assoc before (datagram_events key x) (ticks_of (end_of x u))
    ∙ ap (λ (es : List NodeEvent). before ++ es) (sym (turn_events key x u))
    ∙ ap (λ (n : ℕ). before ++ events_of_turn key n x) count
    ∙ sym (events_more key t.received xs x)

-- What is gathered: the receives of a batch, and what their datagrams made.
pub record HasGathered {S : Type 0} (held : S → Held) (old mid : Scene S) (asked told : Option (List (Option ℕ)))
    (waits : List Item) (turns : ℕ) (end : BatchEnd) : Type 0 where
  pub before : List Receipt
  pub last : Receipt
  pub said : Option (List (Option ℕ))
  pub goes_on : GoesOn old.tally.received before
  pub early : Grows asked said (moments_in before)
  pub moments : Grows asked told (moments_in (before ++ last ∷ []))
  pub entries : Grows old.entries mid.entries (map entry_of (before ++ last ∷ []))
  pub tally : mid.tally ≡ tally_after (before ++ last ∷ []) old.tally
  pub takes : TakesAll held old.node mid.node
      (events_of_turns old.node.key old.tally.received before ++ datagram_events old.node.key last) waits
  pub end_is : end ≡ end_of last mid.tally
  pub most : length before + 1 ≤ turns

pub has_gathered : {S : Type 0} (held : S → Held) (old mid : Scene S) (asked told : Option (List (Option ℕ))) (waits : List Item)
    (turns : ℕ) (gathered : Gathered) → GathersBatch held old mid asked told waits turns (Ok gathered)
    → HasGathered held old mid asked told waits turns gathered.end
has_gathered held old mid asked told waits turns gathered g =
    let first = g.first in
    let t = g.takes in
    let key : g.between.node.key ≡ old.node.key = first.takes.same.key in
    let own : TakesAll held g.between.node mid.node (datagram_events old.node.key g.last) g.more =
    subst (λ (k : List ℕ). TakesAll held g.between.node mid.node (datagram_events k g.last) g.more) key t.takes in
    let whole = takes_more held old.node g.between.node mid.node (events_of_turns old.node.key old.tally.received g.before)
    (datagram_events old.node.key g.last) g.items g.more first.takes own in
    record {
      before = g.before;
      last = g.last;
      said = g.said;
      goes_on = first.goes_on;
      early = first.moments;
      moments = moments_with asked g.said told g.before g.last first.moments t.moments;
      entries = entries_with old.entries g.between.entries mid.entries g.before g.last first.entries g.entries;
      tally = t.tally ∙ ap (tally_with g.last) first.tally ∙ sym (tally_after-append g.before g.last old.tally);
      takes = subst (λ (items : List Item). TakesAll held old.node mid.node
          (events_of_turns old.node.key old.tally.received g.before ++ datagram_events old.node.key g.last) items) (sym g.waits_are) whole;
      end_is = t.end;
      most = g.most;
    }

-- before the first receive
pub gathers_none : {S : Type 0} (held : S → Held) (start : Scene S) (asked : Option (List (Option ℕ)))
    → Gathers held start start [] asked asked []
gathers_none held start asked = record {
  moments = grows_refl asked;
  entries = grows_refl start.entries;
  tally = refl;
  goes_on = tt;
  takes = takes_none held start.node;
}

-- after receives that continue the batch
pub gathers_more : {S : Type 0} (held : S → Held) (start now : Scene S) (asked told : Option (List (Option ℕ))) (waits : List Item)
    (turns : ℕ) (gathered : Gathered) (g : GathersBatch held start now asked told waits turns (Ok gathered))
    → gathered.end ≡ ends.More → Gathers held start now (g.before ++ g.last ∷ []) asked told waits
unfolding has_gathered
gathers_more held start now asked told waits turns gathered gathers is =
    let g = has_gathered held start now asked told waits turns gathered gathers in
    let key = start.node.key in
    let n = start.tally.received in
    let early = events_of_turns key n g.before ++ datagram_events key g.last in
    let follows : end_of g.last now.tally ≡ ends.More = sym g.end_is ∙ is in
    let count : now.tally.received ≡ received_with g.last (received_after g.before n) =
    ap (λ (t : Tally). t.received) (g.tally ∙ tally_after-append g.before g.last start.tally) ∙ received_is g.last (tally_after g.before start.tally)
    ∙ ap (received_with g.last) (received_after_is g.before start.tally) in
    let same : early ≡ events_of_turns key n (g.before ++ g.last ∷ []) =
    sym (append-nil early) ∙ ap (λ (e : BatchEnd). early ++ ticks_of e) (sym follows)
    ∙ batch_events key g.before g.last start.tally now.tally g.tally in
    record {
      moments = g.moments;
      entries = g.entries;
      tally = g.tally;
      goes_on = going_more n g.before g.last g.goes_on (subst (λ (m : ℕ). ends_batch m g.last ≡ false) count (ends_not g.last now.tally follows));
      takes = subst (λ (es : List NodeEvent). TakesAll held start.node now.node es waits) same g.takes;
    }

-- one receive more fits
pub gathers_few : {S : Type 0} (held : S → Held) (start now : Scene S) (asked told : Option (List (Option ℕ))) (waits : List Item)
    (turns : ℕ) (gathered : Gathered) → GathersBatch held start now asked told waits turns (Ok gathered) → gathered.end ≡ ends.More
    → gathered.turns < turns → start.tally.received + turns < 2 ^ 54 → (now.tally.received < 2 ^ 54) × (now.tally.faults < 16)
unfolding has_gathered
gathers_few held start now asked told waits turns gathered gathers is fewer below =
    let g = has_gathered held start now asked told waits turns gathered gathers in
    let batch = g.before ++ g.last ∷ [] in
    let received = ap (λ (t : Tally). t.received) g.tally ∙ received_after_is batch start.tally in
    let few = received_after_few batch start.tally.received in
    let many = one_more g.before g.last in
    let count = gathers.count in
    let follows : end_of g.last now.tally ≡ ends.More = sym g.end_is ∙ is in
    let faults = ap (λ (t : Tally). t.faults) (g.tally ∙ tally_after-append g.before g.last start.tally)
    ∙ calm_more g.last (tally_after g.before start.tally) now.tally follows in
    (omega (arith, received, few, many, count, fewer, below), omega (arith, faults))

-- one receive more
pub gathers_next : {S : Type 0} (held : S → Held) (start now new : Scene S) (xs : List Receipt) (entry : PortEvent)
    (asked told said : Option (List (Option ℕ))) (waited waits : List (Option OutputsRecord)) (turns count : ℕ) (end : BatchEnd)
    → Gathers held start now xs asked told (items_in waited) → Grows now.entries new.entries (entry ∷ [])
    → TakesReceived held now.node new.node entry told said now.tally new.tally waited waits (Ok end)
    → count ≡ length xs + 1 → count ≤ turns
    → GathersBatch held start new asked said (items_in waits) turns (Ok (record { turns = count; end = end }))
gathers_next held start now new xs entry asked told said waited waits turns count end g grows r is most = record {
  before = xs;
  last = r.receipt;
  between = now;
  said = told;
  items = items_in waited;
  more = r.items;
  first = g;
  entries = subst (λ (e : PortEvent). Grows now.entries new.entries (e ∷ [])) r.is grows;
  takes = r.takes;
  waits_are = r.waits_for;
  count = is;
  most = omega (arith, is, most);
}

-- one receive more, to which the node answers a fault
pub gathers_failed : {S : Type 0} (held : S → Held) (start now new : Scene S) (xs : List Receipt) (entry : PortEvent)
    (asked told said : Option (List (Option ℕ))) (waited waits : List (Option OutputsRecord)) (left : List Item) (turns : ℕ) (fault : NodeFault)
    → Gathers held start now xs asked told (items_in waited) → Grows now.entries new.entries (entry ∷ [])
    → TakesReceived held now.node new.node entry told said now.tally new.tally waited waits (Err fault)
    → length xs + 1 ≤ turns → GathersBatch held start new asked said left turns (Err fault)
gathers_failed held start now new xs entry asked told said waited waits left turns fault g grows r most = record {
  before = xs;
  last = r.receipt;
  between = now;
  said = told;
  items = items_in waited;
  more = r.items;
  first = g;
  entries = subst (λ (e : PortEvent). Grows now.entries new.entries (e ∷ [])) r.is grows;
  takes = r.takes;
  waits_are = tt;
  count = tt;
  most = most;
}

-- a poll that finds nothing adds nothing
pub gathers_still : {S : Type 0} (held : S → Held) (start now new : Scene S) (asked told : Option (List (Option ℕ))) (waits : List Item)
    (turns : ℕ) (gathered : Gathered) → GathersBatch held start now asked told waits turns (Ok gathered)
    → new.node ≡ now.node → new.tally ≡ now.tally → Grows now.entries new.entries []
    → GathersBatch held start new asked told waits turns (Ok gathered)
gathers_still held start now new asked told waits turns gathered g node tally grows = record {
  before = g.before;
  last = g.last;
  between = g.between;
  said = g.said;
  items = g.items;
  more = g.more;
  first = g.first;
  entries = grows_trans g.between.entries now.entries new.entries (entry_of g.last ∷ []) [] g.entries grows;
  takes = subst (λ (t : Tally). TakesReceipt held g.between.node new.node g.last g.said told g.between.tally t g.more (Ok gathered.end)) (sym tally)
      (subst (λ n. TakesReceipt held g.between.node n g.last g.said told g.between.tally now.tally g.more (Ok gathered.end)) (sym node) g.takes);
  waits_are = g.waits_are;
  count = g.count;
  most = g.most;
}

-- a batch that is gathered and then settled is committed
pub is_committed : {S : Type 0} (held : S → Held) (old mid new : Scene S) (asked told : Option (List (Option ℕ))) (waits : List Item)
    (turns : ℕ) (end : BatchEnd) (g : HasGathered held old mid asked told waits turns end)
    → SettlesBatch held mid new (ticks_of end) waits (Ok tt)
    → IsCommitted held old new (g.before ++ g.last ∷ []) asked told
is_committed held old mid new asked told waits turns end g s =
    let c = s.settles in
    let key = old.node.key in
    let batch = g.before ++ g.last ∷ [] in
    let early = events_of_turns key old.tally.received g.before ++ datagram_events key g.last in
    let whole = takes_more held old.node mid.node c.between early (ticks_of end) waits c.items g.takes c.takes in
    let same : early ++ ticks_of end ≡ events_of_turns key old.tally.received batch =
    ap (λ (e : BatchEnd). early ++ ticks_of e) g.end_is ∙ batch_events key g.before g.last old.tally mid.tally g.tally in
    record {
      between = c.between;
      items = waits ++ c.items;
      takes = subst (λ (es : List NodeEvent). TakesAll held old.node c.between es (waits ++ c.items)) same whole;
      commits = c.commits;
      moments = g.moments;
      entries = grows_trans old.entries mid.entries new.entries (map entry_of batch) (map offer_of (waits ++ c.items)) g.entries c.entries;
      received = s.received ∙ ap (λ (t : Tally). t.received) g.tally;
      faults = s.faults ∙ ap (λ (t : Tally). t.faults) g.tally;
      few = let e = ap (λ (t : Tally). t.replied) g.tally ∙ replied_after_is batch old.tally in
          omega (arith, e, c.few);
      replies = λ small.
          let e = ap (λ (t : Tally). t.replied) g.tally ∙ replied_after_is batch old.tally in
          c.replies (omega (arith, e, small)) ∙ ap (λ (n : ℕ). n + reply_count (waits ++ c.items)) e;
    }

pub is_batch : (n : ℕ) (xs : List Receipt) (x : Receipt) → GoesOn n xs → IsBatch n (xs ++ x ∷ [])
is_batch n xs x h = record { before = xs; last = x; is = refl; goes_on = h }

-- the end of a run with a batch that is gathered
end_with_batch : {S : Type 0} (held : S → Held) (old mid : Scene S) (asked told : Option (List (Option ℕ))) (waits : List Item)
    (turns : ℕ) (end : BatchEnd) (g : HasGathered held old mid asked told waits turns end) (member : Member) (run : Run)
    → old.tally ≡ run.tally → (run_with_batch member (g.before ++ g.last ∷ []) run).end ≡ fault_of end
end_with_batch held old mid asked told waits turns end g member run is =
    let batch = g.before ++ g.last ∷ [] in
    batch_end member g.before g.last run
    ∙ ap (λ (t : Tally). fault_of (end_of g.last t)) (ap (tally_after batch) (sym is) ∙ sym g.tally)
    ∙ ap fault_of (sym g.end_is)

-- a batch after which the run continues
pub batch_served : {S : Type 0} (held : S → Held) (old mid new : Scene S) (asked told : Option (List (Option ℕ))) (waits : List Item)
    (turns : ℕ) (gathered : Gathered) → GathersBatch held old mid asked told waits turns (Ok gathered)
    → SettlesBatch held mid new (ticks_of gathered.end) waits (Ok tt) → fault_of gathered.end ≡ None → old.tally.faults < 16
    → TakesBatch held old new asked told turns (Ok gathered.turns)
unfolding has_gathered
batch_served held old mid new asked told waits turns gathered gathers s calm few =
    let g = has_gathered held old mid asked told waits turns gathered gathers in
    let batch = g.before ++ g.last ∷ [] in
    let c = is_committed held old mid new asked told waits turns gathered.end g s in
    let was = calm_after g.before old.tally.received old.tally g.goes_on few in
    let still : (tally_with g.last (tally_after g.before old.tally)).faults < 16 =
    calm_end g.last (tally_after g.before old.tally) was
    (ap (λ (t : Tally). fault_of (end_of g.last t)) (sym (g.tally ∙ tally_after-append g.before g.last old.tally))
    ∙ ap fault_of (sym g.end_is) ∙ calm) in
    let faults : new.tally.faults < 16 =
    let e = c.faults ∙ ap (λ (t : Tally). t.faults) (tally_after-append g.before g.last old.tally) in omega (arith, e, still) in
    record {
      batch = batch;
      is_batch = is_batch old.tally.received g.before g.last g.goes_on;
      most = omega (arith, one_more g.before g.last, g.most);
      count = gathers.count ∙ sym (one_more g.before g.last);
      steps = steps_batch held old new batch asked told (Ok gathered.turns) c faults (λ settled. settled)
          (λ first run of going made. (made, end_with_batch held old mid asked told waits turns gathered.end g (member_of old.node) run of.tally ∙ calm));
      clock = tt;
    }

-- a batch after which the port ends the run
pub batch_by_port : {S : Type 0} (held : S → Held) (old mid new : Scene S) (asked told : Option (List (Option ℕ))) (waits : List Item)
    (turns : ℕ) (gathered : Gathered) → GathersBatch held old mid asked told waits turns (Ok gathered)
    → SettlesBatch held mid new (ticks_of gathered.end) waits (Ok tt) → gathered.end ≡ ends.Port
    → TakesBatch held old new asked told turns (Err Port)
batch_by_port held old mid new asked told waits turns gathered gathers s is =
    let g = has_gathered held old mid asked told waits turns gathered gathers in
    let batch = g.before ++ g.last ∷ [] in
    let c = is_committed held old mid new asked told waits turns gathered.end g s in
    record {
      batch = batch;
      is_batch = is_batch old.tally.received g.before g.last g.goes_on;
      most = omega (arith, one_more g.before g.last, g.most);
      count = tt;
      steps = steps_batch held old new batch asked told (Err Port) c tt (λ settled. settled)
          (λ first run of going made. (made.stands, end_with_batch held old mid asked told waits turns gathered.end g (member_of old.node) run of.tally ∙ ap fault_of is));
      clock = tt;
    }

clock_by : (b : Bool) → (if b then ends.Tick else ends.More) ≡ ends.Clock → ⊥
clock_by true h = cc
clock_by false h = cc

port_by : (b : Bool) → (if b then ends.Port else ends.Commit) ≡ ends.Clock → ⊥
port_by true h = cc
port_by false h = cc

-- a receipt that the clock ended hands nothing in
no_events : (key : List ℕ) (x : Receipt) (t : Tally) → end_of x t ≡ ends.Clock → datagram_events key x ≡ []
no_events key (FromPeer from bytes) t h = absurd (clock_by (nat_eq (t.received % 64) 0) h)
no_events key (FromClient client bytes (Some moment)) t h = absurd (clock_by (nat_eq (t.received % 64) 0) h)
no_events key (FromClient client bytes None) t h = refl
no_events key Nothing t h = absurd cc
no_events key Failure t h = absurd (port_by (nat_eq t.faults 16) h)

-- what was received before the clock failed is committed too
before_clock : {S : Type 0} (held : S → Held) (old mid new : Scene S) (asked told : Option (List (Option ℕ))) (waits : List Item)
    (turns : ℕ) (end : BatchEnd) (g : HasGathered held old mid asked told waits turns end)
    (s : SettlesBatch held mid new (ticks_of end) waits (Ok tt)) → end ≡ ends.Clock
    → IsCommitted held old
    (record {
      node = new.node;
      entries = option_map (λ (es : List PortEvent). es ++ (map entry_of g.before ++ map offer_of (waits ++ s.settles.items))) old.entries;
      tally = record { received = (tally_after g.before old.tally).received; replied = new.tally.replied; faults = (tally_after g.before old.tally).faults };
    })
    g.before asked g.said
before_clock held old mid new asked told waits turns end g s is =
    let c = s.settles in
    let key = old.node.key in
    let batch = g.before ++ g.last ∷ [] in
    let first = events_of_turns key old.tally.received g.before in
    let early = first ++ datagram_events key g.last in
    let whole = takes_more held old.node mid.node c.between early (ticks_of end) waits c.items g.takes c.takes in
    let none = no_events key g.last mid.tally (sym g.end_is ∙ is) in
    let same : early ++ ticks_of end ≡ first =
    ap (λ (e : BatchEnd). early ++ ticks_of e) is ∙ append-nil early
    ∙ ap (λ (es : List NodeEvent). first ++ es) none ∙ append-nil first in
    let e = ap (λ (t : Tally). t.replied) g.tally ∙ replied_after_is batch old.tally in
    record {
      between = c.between;
      items = waits ++ c.items;
      takes = subst (λ (es : List NodeEvent). TakesAll held old.node c.between es (waits ++ c.items)) same whole;
      commits = c.commits;
      moments = g.early;
      entries = grows_made old.entries (map entry_of g.before ++ map offer_of (waits ++ c.items));
      received = refl;
      faults = refl;
      few = omega (arith, e, c.few);
      replies = λ small. c.replies (omega (arith, e, small)) ∙ ap (λ (n : ℕ). n + reply_count (waits ++ c.items)) e;
    }

-- a batch after which the clock ends the run
pub batch_by_clock : {S : Type 0} (held : S → Held) (old mid new : Scene S) (asked told : Option (List (Option ℕ))) (waits : List Item)
    (turns : ℕ) (gathered : Gathered) → GathersBatch held old mid asked told waits turns (Ok gathered)
    → SettlesBatch held mid new (ticks_of gathered.end) waits (Ok tt) → gathered.end ≡ ends.Clock → old.tally.faults < 16
    → TakesBatch held old new asked told turns (Err Clock)
batch_by_clock held old mid new asked told waits turns gathered gathers s is few =
    let g = has_gathered held old mid asked told waits turns gathered gathers in
    let batch = g.before ++ g.last ∷ [] in
    let c = is_committed held old mid new asked told waits turns gathered.end g s in
    let b = before_clock held old mid new asked told waits turns gathered.end g s is in
    let kept = option_map (λ (es : List PortEvent). es ++ (map entry_of g.before ++ map offer_of (waits ++ s.settles.items))) old.entries in
    let tally : Tally = record { received = (tally_after g.before old.tally).received; replied = new.tally.replied; faults = (tally_after g.before old.tally).faults } in
    record {
      batch = batch;
      is_batch = is_batch old.tally.received g.before g.last g.goes_on;
      most = omega (arith, one_more g.before g.last, g.most);
      count = tt;
      steps = steps_batch held old new batch asked told (Err Clock) c tt (λ settled. settled)
          (λ first run of going made. (made.stands, end_with_batch held old mid asked told waits turns gathered.end g (member_of old.node) run of.tally ∙ ap fault_of is));
      clock = record {
        before = g.before;
        last = g.last;
        is = refl;
        goes_on = g.goes_on;
        kept = kept;
        tally = tally;
        said = g.said;
        steps = steps_batch {A = Unit {0}} held old (record { node = new.node; entries = kept; tally = tally }) g.before asked g.said (Ok tt) b
            (calm_after g.before old.tally.received old.tally g.goes_on few) (λ settled. settled)
            (λ first run of going made. (made, going_end (member_of old.node) g.before old.tally.received run g.goes_on going));
      };
    }

-- a batch whose settling the node refuses with a fault
pub batch_unsettled : {S : Type 0} (held : S → Held) (old mid new : Scene S) (asked told : Option (List (Option ℕ))) (waits : List Item)
    (turns : ℕ) (gathered : Gathered) (fault : NodeFault) → GathersBatch held old mid asked told waits turns (Ok gathered)
    → SettlesBatch held mid new (ticks_of gathered.end) waits (Err fault)
    → TakesBatch held old new asked told turns (Err (Node fault))
batch_unsettled held old mid new asked told waits turns gathered fault gathers s =
    let g = has_gathered held old mid asked told waits turns gathered gathers in
    let key = old.node.key in
    let end = gathered.end in
    let batch = g.before ++ g.last ∷ [] in
    let early = events_of_turns key old.tally.received g.before ++ datagram_events key g.last in
    let whole = fails_more held old.node mid.node new.node early (ticks_of end) waits fault g.takes s.settles.2 in
    let same : early ++ ticks_of end ≡ events_of_turns key old.tally.received batch =
    ap (λ (e : BatchEnd). early ++ ticks_of e) g.end_is ∙ batch_events key g.before g.last old.tally mid.tally g.tally in
    record {
      batch = batch;
      is_batch = is_batch old.tally.received g.before g.last g.goes_on;
      most = omega (arith, one_more g.before g.last, g.most);
      count = tt;
      steps = steps_fault held old new batch asked told fault
          (subst (λ (es : List NodeEvent). FailsIn held old.node new.node es fault) same whole) g.moments
          (subst (λ (x : Option (List PortEvent)). Grows old.entries x (map entry_of batch)) (sym s.settles.0) g.entries)
          (s.received ∙ ap (λ (t : Tally). t.received) g.tally)
          (s.settles.1 ∙ ap (λ (t : Tally). t.replied) g.tally ∙ replied_after_is batch old.tally);
      clock = tt;
    }

-- a batch in which the node answers a fault to a datagram
pub batch_ungathered : {S : Type 0} (held : S → Held) (old new : Scene S) (asked told : Option (List (Option ℕ))) (waits : List Item)
    (turns : ℕ) (fault : NodeFault) → GathersBatch held old new asked told waits turns (Err fault)
    → TakesBatch held old new asked told turns (Err (Node fault))
batch_ungathered held old new asked told waits turns fault g =
    let key = old.node.key in
    let first = g.first in
    let t = g.takes in
    let batch = g.before ++ g.last ∷ [] in
    let early = events_of_turns key old.tally.received g.before in
    let tally : new.tally ≡ tally_after batch old.tally =
    t.tally ∙ ap (tally_with g.last) first.tally ∙ sym (tally_after-append g.before g.last old.tally) in
    let own : datagram_events key g.last ≡ t.takes.0 ∷ [] =
    ap (λ (k : List ℕ). datagram_events k g.last) (sym first.takes.same.key) ∙ t.takes.1 in
    let ticks = ticks_of (end_of g.last new.tally) in
    let fails = fails_first held g.between.node new.node (datagram_events key g.last) ticks t.takes.0 fault own t.takes.2 in
    let whole = fails_more held old.node g.between.node new.node early (datagram_events key g.last ++ ticks) g.items fault first.takes fails in
    let same : early ++ (datagram_events key g.last ++ ticks) ≡ events_of_turns key old.tally.received batch =
    sym (append_assoc early (datagram_events key g.last) ticks) ∙ batch_events key g.before g.last old.tally new.tally tally in
    record {
      batch = batch;
      is_batch = is_batch old.tally.received g.before g.last first.goes_on;
      most = omega (arith, one_more g.before g.last, g.most);
      count = tt;
      steps = steps_fault held old new batch asked told fault
          (subst (λ (es : List NodeEvent). FailsIn held old.node new.node es fault) same whole)
          (moments_with asked g.said told g.before g.last first.moments t.moments)
          (entries_with old.entries g.between.entries new.entries g.before g.last first.entries g.entries)
          (ap (λ (u : Tally). u.received) tally)
          (ap (λ (u : Tally). u.replied) tally ∙ replied_after_is batch old.tally);
      clock = tt;
    }

-- ---- The commit

-- the node takes the tick that is due, the commit returns Ok, and the port gets all outputs
pub settles_ok : {S : Type 0} (held : S → Held) (n0 n1 n2 : Hosted S) (e0 e1 e2 : Option (List PortEvent)) (t : Tally)
    (ticks : List NodeEvent) (waits : List Item) (last : Option OutputsRecord) (first second total : ℕ)
    → TakesTick held n0 n1 ticks (Ok last) → CommitsNode {A = Unit {0}} held n1 n2 (Ok tt)
    → AreOffered e0 e1 waits first → AreOffered e1 e2 (items_in (last ∷ [])) second
    → total ≤ t.replied + first + second → (t.replied + first + second < 2 ^ 64 → total ≡ t.replied + first + second)
    → SettlesBatch held (record { node = n0; entries = e0; tally = t })
    (record { node = n2; entries = e2; tally = record { received = t.received; replied = total; faults = t.faults } }) ticks waits (Ok tt)
settles_ok held n0 n1 n2 e0 e1 e2 t ticks waits last first second total takes commits h k few exact =
    let items = items_in (last ∷ []) in
    let sum = reply_count-append waits items in
    record {
      received = refl;
      faults = refl;
      settles = record {
        between = n1;
        items = items;
        takes = takes;
        commits = commits;
        entries = subst (Grows e0 e2) (sym (map-append offer_of waits items)) (grows_trans e0 e1 e2 (map offer_of waits) (map offer_of items) h.0 k.0);
        few = omega (arith, few, sum, h.1, k.1);
        replies = λ small.
            let a : first ≡ reply_count waits = h.2 (omega (arith, small, sum)) in
            let b : second ≡ reply_count items = k.2 (omega (arith, small, sum)) in
            let d : total ≡ t.replied + first + second = exact (omega (arith, small, sum, a, b)) in
            omega (arith, sum, a, b, d);
      };
    }

-- the tick that is due is answered by a fault
pub settles_no_tick : {S : Type 0} (held : S → Held) (old new : Hosted S) (entries : Option (List PortEvent)) (t : Tally)
    (ticks : List NodeEvent) (waits : List Item) (fault : NodeFault) → TakesTick held old new ticks (Err fault)
    → SettlesBatch held (record { node = old; entries = entries; tally = t }) (record { node = new; entries = entries; tally = t }) ticks waits (Err fault)
settles_no_tick held old new entries t ticks waits fault h = record {
  received = refl;
  faults = refl;
  settles = (
    refl,
    refl,
    subst (λ (es : List NodeEvent). FailsIn held old new es fault) (append-nil ticks)
        (fails_first held old new ticks [] h.0 fault h.1 h.2),
  );
}

-- the commit is answered by a fault
pub settles_not : {S : Type 0} (held : S → Held) (old between new : Hosted S) (entries : Option (List PortEvent)) (t : Tally)
    (ticks : List NodeEvent) (waits : List Item) (last : Option OutputsRecord) (fault : NodeFault) → TakesTick held old between ticks (Ok last)
    → CommitsNode {A = Unit {0}} held between new (Err fault)
    → SettlesBatch held (record { node = old; entries = entries; tally = t }) (record { node = new; entries = entries; tally = t }) ticks waits (Err fault)
settles_not held old between new entries t ticks waits last fault takes commits = record {
  received = refl;
  faults = refl;
  settles = (refl, refl, fails_last held old between new ticks (items_in (last ∷ [])) fault takes commits);
}

-- what ends no run
pub no_fault_of : (end : BatchEnd) → (end ≡ ends.Port → ⊥) → (end ≡ ends.Clock → ⊥) → fault_of end ≡ None
no_fault_of ends.More h k = refl
no_fault_of ends.Commit h k = refl
no_fault_of ends.Tick h k = refl
no_fault_of ends.Port h k = absurd (h refl)
no_fault_of ends.Clock h k = absurd (k refl)

-- What a gate makes of the events of the port below.
use Rattle.std.proofs.Common.{◌≡◌, ℕ, ◌+◌, Bool, true, false, cond, List, [], ◌∷◌, ◌++◌, take, Option, Some, None, refl, sym, ap, subst, ◌∙◌, length-append}
use Rattle.std.specs.List.{AllByRecursion}
use Rattle.std.specs.Prelude.{Ok}
use Rattle.std.specs.Option.{option_map}
use Rattle.std.specs.Result.{result_err, result_ok}
use Rattle.std.proofs.lemmas.List.{append_assoc, append-nil, map-append}
use Rattle.datagram_port.specs.Port.{Grows, PortEvent, Received, Quiet, Faulted, Offered, event_of_receive}
use Rattle.datagram_port.specs.declared.port.Received.{Received as Receive}
use Rattle.datagram_port.specs.declared.port.Received.TheVariants.{Datagram, Quiet as QuietReceive, Fault}
use Rattle.datagram_port.specs.declared.port.Sender.TheVariants.{Client, Peer}
use Rattle.sealed_port.specs.Causes.{counted}
use Rattle.sealed_port.specs.Gate.{GateRecord, Sealed, SealedLine, gate_with, is_plain, opened, ruling}
use Rattle.sealed_port.specs.Draining.{busied, gate_busied, gate_handled, own_answer, turned_away}
use Rattle.sealed_port.specs.Requests.{asks, cause_came}
use Rattle.sealed_port.specs.Port.{Handles, Opens, Passed, PassesOver, TakesIn, TakesLine, counted_after, counted_over, event_of_passed, gate_after, handed_in, handed_line, handed_sealed, offer_of, own_offers, sealed_from, told_for}
use Rattle.sealed_port.specs.declared.cause.Unopened.{Unopened}
use Rattle.sealed_port.proofs.CameLemmas.{answer_of_line, cause_of_line, handed_of_line, handed_uncounted, handled_line, unhanded_stays, unhanded_unanswered}

-- ---- records

-- a record that nothing was added to
pub stays : {A : Type 0} (record_of : Option (List A)) → Grows record_of record_of []
stays None = tt
stays (Some entries) = ap (λ l. Some l) (append-nil entries)

-- a record that grew twice
pub grows_on : {A : Type 0} (x y z : Option (List A)) (xs ys : List A) → Grows x y xs → Grows y z ys → Grows x z (xs ++ ys)
grows_on x y None xs ys h k = tt
grows_on x None (Some c) xs ys h k = absurd cc
grows_on None (Some b) (Some c) xs ys h k = absurd cc
grows_on (Some a) (Some b) (Some c) xs ys h k =
    ap (λ l. Some l) (sym (append_assoc a xs ys)) ∙ ap (option_map (λ zs. zs ++ ys)) h ∙ k

-- ---- one datagram

-- a line that the gate opened
pub line_taken : (old_port new_port : Option (List PortEvent)) (old_clock new_clock : Option (List (Option ℕ))) (gate new : GateRecord) (before after : Unopened) (address : ℕ) (bytes : List ℕ)
    (now : Option ℕ) (line : SealedLine) (handed : PortEvent) → asks bytes ≡ false → Grows old_clock new_clock (now ∷ []) → ruling gate now bytes ≡ Ok line → after ≡ before
    → TakesLine gate new now address line old_port new_port handed
    → Handles old_port new_port old_clock new_clock gate new before after address bytes (Some handed)
line_taken old_port new_port old_clock new_clock gate new before after address bytes now line handed unasked told rules uncounted t =
    let is : opened gate now bytes ≡ Some line = ap result_ok rules in
    record {
      now = now;
      clock = told;
      port = subst (λ (answer : Option Sealed). Grows old_port new_port (offer_of answer)) (answer_of_line gate now address bytes unasked)
          (subst (λ (found : Option SealedLine). Grows old_port new_port (offer_of (busied (gate_with gate now address found) (turned_away gate found)))) (sym is) t.port);
      handed_is = t.handed_is ∙ ap (handed_line gate) (sym is) ∙ handed_of_line gate now address bytes unasked;
      gate_is = t.gate_is ∙ ap (λ (found : Option SealedLine). gate_busied (gate_with gate now address found) (turned_away gate found)) (sym is)
          ∙ handled_line gate now address bytes unasked;
      counts = uncounted ∙ ap (counted before) (sym (ap result_err rules) ∙ cause_of_line gate now address bytes unasked);
    }

-- ---- one event

-- the claim if the clock isn't asked
unasked : (port : Option (List PortEvent)) (moments : Option (List (Option ℕ))) (gate : GateRecord) (unopened : Unopened) (entry : PortEvent)
    → handed_in gate None entry ≡ Some entry → gate_after gate None entry ≡ gate → told_for gate None entry ≡ [] → counted_after gate unopened None entry ≡ unopened
    → own_offers gate None entry ≡ [] → TakesIn port port moments moments gate gate unopened unopened entry (Some entry)
unasked port moments gate unopened entry handed same untold uncounted unoffered = record {
  now = None;
  port = subst (Grows port port) (sym unoffered) (stays port);
  clock = subst (Grows moments moments) (sym untold) (stays moments);
  handed_is = sym handed;
  gate_is = sym same;
  counts = sym uncounted;
}

front : {A : Type 0} (b : Bool) (x y : A) → b ≡ true → cond b x y ≡ x
front true x y e = refl
front false x y e = absurd cc

back : {A : Type 0} (b : Bool) (x y : A) → b ≡ false → cond b x y ≡ y
back false x y e = refl
back true x y e = absurd cc

none_is_plain : (b : Bool) (found : ℕ × ℕ) → cond b None (Some found) ≡ None → b ≡ true
none_is_plain true found e = refl
none_is_plain false found e = absurd cc

some_is_sealed : (b : Bool) (one found : ℕ × ℕ) → cond b None (Some one) ≡ Some found → (b ≡ false) × (one ≡ found)
some_is_sealed true one found e = absurd cc
some_is_sealed false one found e = (refl, cc)

-- what isn't from the address of a client who speaks sealed goes through as it is
pub kept : (port : Option (List PortEvent)) (moments : Option (List (Option ℕ))) (gate : GateRecord) (unopened : Unopened) (received : Receive) (buffer : List ℕ)
    → sealed_from gate received ≡ None
    → TakesIn port port moments moments gate gate unopened unopened (event_of_receive received buffer) (Some (event_of_receive received buffer))
kept port moments gate unopened (Datagram (Client address) len) buffer e =
    let bytes = take len buffer in
    let plain = none_is_plain (is_plain gate address) (address, len) e in
    unasked port moments gate unopened (Received (Client address) bytes)
    (front (is_plain gate address) (Some (Received (Client address) bytes)) (handed_sealed gate None address bytes) plain)
    (front (is_plain gate address) gate (gate_handled gate None address bytes) plain)
    (front (is_plain gate address) [] (None ∷ []) plain)
    (front (is_plain gate address) unopened (counted unopened (cause_came gate None address bytes)) plain)
    (front (is_plain gate address) [] (offer_of (own_answer gate None address bytes)) plain)
kept port moments gate unopened (Datagram (Peer number) len) buffer e = unasked port moments gate unopened (Received (Peer number) (take len buffer)) refl refl refl refl refl
kept port moments gate unopened QuietReceive buffer e = unasked port moments gate unopened (event_of_receive QuietReceive buffer) refl refl refl refl refl
kept port moments gate unopened Fault buffer e = unasked port moments gate unopened (event_of_receive Fault buffer) refl refl refl refl refl

-- a datagram from such an address is opened, or passed over and counted
pub taken : (old_port new_port : Option (List PortEvent)) (old_clock new_clock : Option (List (Option ℕ))) (gate after : GateRecord) (before counts : Unopened) (received : Receive) (buffer : List ℕ) (address len : ℕ) (handed : Option PortEvent)
    → sealed_from gate received ≡ Some (address, len)
    → Handles old_port new_port old_clock new_clock gate after before counts address (take len buffer) handed
    → TakesIn old_port new_port old_clock new_clock gate after before counts (event_of_receive received buffer) handed
taken old_port new_port old_clock new_clock gate after before counts (Datagram (Client from) size) buffer address len handed e answer =
    let found = some_is_sealed (is_plain gate from) (from, size) (address, len) e in
    let same_from : from ≡ address = ap (λ (p : ℕ × ℕ). p.0) found.1 in
    let same_size : size ≡ len = ap (λ (p : ℕ × ℕ). p.1) found.1 in
    let now = answer.now in
    let bytes = take size buffer in
    let bytes_same : take len buffer ≡ bytes = ap (λ (n : ℕ). take n buffer) (sym same_size) in
    record {
      now = now;
      port = subst (Grows old_port new_port) (ap (λ (b : List ℕ). offer_of (own_answer gate now address b)) bytes_same
          ∙ ap (λ (a : ℕ). offer_of (own_answer gate now a bytes)) (sym same_from)
          ∙ sym (back (is_plain gate from) [] (offer_of (own_answer gate now from bytes)) found.0)) answer.port;
      clock = subst (Grows old_clock new_clock) (sym (back (is_plain gate from) [] (now ∷ []) found.0)) answer.clock;
      handed_is = answer.handed_is ∙ ap (λ (b : List ℕ). handed_sealed gate now address b) bytes_same ∙ ap (λ (a : ℕ). handed_sealed gate now a bytes) (sym same_from)
          ∙ sym (back (is_plain gate from) (Some (Received (Client from) bytes)) (handed_sealed gate now from bytes) found.0);
      gate_is = answer.gate_is ∙ ap (λ (b : List ℕ). gate_handled gate now address b) bytes_same ∙ ap (λ (a : ℕ). gate_handled gate now a bytes) (sym same_from)
          ∙ sym (back (is_plain gate from) gate (gate_handled gate now from bytes) found.0);
      counts = answer.counts ∙ ap (λ (b : List ℕ). counted before (cause_came gate now address b)) bytes_same ∙ ap (λ (a : ℕ). counted before (cause_came gate now a bytes)) (sym same_from)
          ∙ sym (back (is_plain gate from) before (counted before (cause_came gate now from bytes)) found.0);
    }
taken old_port new_port old_clock new_clock gate after before counts (Datagram (Peer number) size) buffer address len handed e answer = absurd cc
taken old_port new_port old_clock new_clock gate after before counts QuietReceive buffer address len handed e answer = absurd cc
taken old_port new_port old_clock new_clock gate after before counts Fault buffer address len handed e answer = absurd cc

-- ---- what is passed over

-- an event that a gate passes over: a client's datagram, for which the clock was asked, and which changes no gate
record IsPassed (gate : GateRecord) (now : Option ℕ) (event : PortEvent) (before : Unopened) : Type 0 where
  one : Passed
  event_is : event_of_passed one ≡ event
  now_is : one.now ≡ now
  told_is : told_for gate now event ≡ one.now ∷ []
  gate_is : gate_after gate now event ≡ gate
  offers_are : own_offers gate now event ≡ []
  counts_are : counted_after gate before now event ≡ counted before (cause_came gate one.now one.address one.bytes)

unhanded : (b : Bool) (x : PortEvent) (o : Option PortEvent) → cond b (Some x) o ≡ None → (b ≡ false) × (o ≡ None)
unhanded true x o e = absurd cc
unhanded false x o e = (refl, e)

passed_is : (gate : GateRecord) (now : Option ℕ) (event : PortEvent) (before : Unopened) → handed_in gate now event ≡ None → IsPassed gate now event before
passed_is gate now (Received (Client address) bytes) before e =
    let u = unhanded (is_plain gate address) (Received (Client address) bytes) (handed_sealed gate now address bytes) e in
    record {
      one = record { now = now; address = address; bytes = bytes };
      event_is = refl;
      now_is = refl;
      told_is = back (is_plain gate address) [] (now ∷ []) u.0;
      gate_is = back (is_plain gate address) gate (gate_handled gate now address bytes) u.0 ∙ unhanded_stays gate now address bytes u.1;
      offers_are = back (is_plain gate address) [] (offer_of (own_answer gate now address bytes)) u.0 ∙ unhanded_unanswered gate now address bytes u.1;
      counts_are = back (is_plain gate address) before (counted before (cause_came gate now address bytes)) u.0;
    }
passed_is gate now (Received (Peer number) bytes) before e = absurd cc
passed_is gate now Quiet before e = absurd cc
passed_is gate now Faulted before e = absurd cc
passed_is gate now (Offered to bytes) before e = absurd cc

-- a property of all and of one more
pub all_and_one : {X : Type 0} (P : X → Type 0) (xs : List X) (x : X) → AllByRecursion P xs → P x → AllByRecursion P (xs ++ x ∷ [])
all_and_one P [] x h k = (k, tt)
all_and_one P (y ∷ xs) x h k = (h.0, all_and_one P xs x h.1 k)

counted_and_one : (gate : GateRecord) (before : Unopened) (passed : List Passed) (one : Passed)
    → counted_over gate before (passed ++ one ∷ []) ≡ counted (counted_over gate before passed) (cause_came gate one.now one.address one.bytes)
counted_and_one gate before [] one = refl
counted_and_one gate before (other ∷ passed) one = counted_and_one gate (counted before (cause_came gate other.now other.address other.bytes)) passed one

-- nothing was passed over yet
pub none_passed : (port : Option (List PortEvent)) (clock : Option (List (Option ℕ))) (gate : GateRecord) (unopened : Unopened)
    → PassesOver port port clock clock gate gate unopened unopened 0
none_passed port clock gate unopened = record {
  passed = [];
  are_passed_over = tt;
  many = refl;
  port = stays port;
  clock = stays clock;
  gate_is = refl;
  counts = refl;
}

-- one more is passed over
pub one_passed : {old_port port next_port new_port : Option (List PortEvent)} {old_clock clock new_clock : Option (List (Option ℕ))} {gate now_gate after : GateRecord} {before counts last : Unopened}
    {number : ℕ} {event : PortEvent}
    → PassesOver old_port port old_clock clock gate now_gate before counts number → Grows port next_port (event ∷ [])
    → TakesIn next_port new_port clock new_clock now_gate after counts last event None
    → PassesOver old_port new_port old_clock new_clock gate after before last (number + 1)
one_passed {old_port = old_port} {port = port} {next_port = next_port} {new_port = new_port} {old_clock = old_clock} {clock = clock} {new_clock = new_clock} {gate = gate} {after = after} {before = before} {counts = counts} {last = last} {number = number} {event = event} p grows t =
    from (subst (λ (g : GateRecord). TakesIn next_port new_port clock new_clock g after counts last event None) p.gate_is t)
  where
    from : TakesIn next_port new_port clock new_clock gate after counts last event None → PassesOver old_port new_port old_clock new_clock gate after before last (number + 1)
    from t =
        let i = passed_is gate t.now event counts (sym t.handed_is) in
        let told : Grows clock new_clock (i.one.now ∷ []) = subst (Grows clock new_clock) i.told_is t.clock in
        let more : Grows port new_port (event ∷ own_offers gate t.now event) = grows_on port next_port new_port (event ∷ []) (own_offers gate t.now event) grows t.port in
        let only : Grows port new_port (event ∷ []) = subst (λ (offers : List PortEvent). Grows port new_port (event ∷ offers)) i.offers_are more in
        let entry : Grows port new_port (event_of_passed i.one ∷ []) = subst (λ (x : PortEvent). Grows port new_port (x ∷ [])) (sym i.event_is) only in
        let unhanded_so : handed_in gate i.one.now (event_of_passed i.one) ≡ None =
        ap (λ (x : PortEvent). handed_in gate i.one.now x) i.event_is ∙ ap (λ (n : Option ℕ). handed_in gate n event) i.now_is ∙ sym t.handed_is in
        record {
          passed = p.passed ++ i.one ∷ [];
          are_passed_over = all_and_one (λ one. handed_in gate one.now (event_of_passed one) ≡ None) p.passed i.one p.are_passed_over unhanded_so;
          many = length-append p.passed (i.one ∷ []) ∙ ap (λ (n : ℕ). n + 1) p.many;
          port = subst (Grows old_port new_port) (sym (map-append event_of_passed p.passed (i.one ∷ []))) (grows_on old_port port new_port _ _ p.port entry);
          clock = subst (Grows old_clock new_clock) (sym (map-append (λ (one : Passed). one.now) p.passed (i.one ∷ []))) (grows_on old_clock clock new_clock _ _ p.clock told);
          gate_is = t.gate_is ∙ i.gate_is;
          counts = t.counts ∙ i.counts_are ∙ ap (λ (u : Unopened). counted u (cause_came gate i.one.now i.one.address i.one.bytes)) p.counts ∙ sym (counted_and_one gate before p.passed i.one);
        }

-- what is handed in changes no numbers
uncounted : (gate : GateRecord) (unopened : Unopened) (now : Option ℕ) (event handed : PortEvent) → handed_in gate now event ≡ Some handed → counted_after gate unopened now event ≡ unopened
uncounted gate unopened now (Received (Client address) bytes) handed e = go (is_plain gate address) e
  where
    go : (b : Bool) → cond b (Some (Received (Client address) bytes)) (handed_sealed gate now address bytes) ≡ Some handed
        → cond b unopened (counted unopened (cause_came gate now address bytes)) ≡ unopened
    go true e = refl
    go false e = handed_uncounted gate now address bytes handed unopened e
uncounted gate unopened now (Received (Peer number) bytes) handed e = refl
uncounted gate unopened now Quiet handed e = refl
uncounted gate unopened now Faulted handed e = refl
uncounted gate unopened now (Offered to bytes) handed e = refl

-- then an event is handed in
pub one_handed : {old_port port next_port new_port : Option (List PortEvent)} {old_clock clock new_clock : Option (List (Option ℕ))} {gate now_gate after : GateRecord} {before counts last : Unopened}
    {number : ℕ} {event handed : PortEvent}
    → PassesOver old_port port old_clock clock gate now_gate before counts number → Grows port next_port (event ∷ [])
    → TakesIn next_port new_port clock new_clock now_gate after counts last event (Some handed)
    → Opens old_port new_port old_clock new_clock gate after before last handed
one_handed {old_port = old_port} {port = port} {next_port = next_port} {new_port = new_port} {old_clock = old_clock} {clock = clock} {new_clock = new_clock} {gate = gate} {after = after} {before = before} {counts = counts} {last = last} {event = event} {handed = handed} p grows t =
    from (subst (λ (g : GateRecord). TakesIn next_port new_port clock new_clock g after counts last event (Some handed)) p.gate_is t)
  where
    from : TakesIn next_port new_port clock new_clock gate after counts last event (Some handed) → Opens old_port new_port old_clock new_clock gate after before last handed
    from t = record {
      passed = p.passed;
      are_passed_over = p.are_passed_over;
      received = event;
      now = t.now;
      port = grows_on old_port port new_port _ _ p.port (grows_on port next_port new_port (event ∷ []) (own_offers gate t.now event) grows t.port);
      clock = grows_on old_clock clock new_clock _ _ p.clock t.clock;
      handed_is = sym t.handed_is;
      gate_is = t.gate_is;
      counts = t.counts ∙ uncounted gate counts t.now event handed (sym t.handed_is) ∙ p.counts;
    }

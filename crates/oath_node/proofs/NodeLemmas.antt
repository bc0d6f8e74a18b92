-- A call of a node's parts, as a call of the node.
use Rattle.std.proofs.Common.{◌≡◌, ℕ, ◌<◌, ◌≤◌, Bool, true, false, List, length, Option, None, inl, inr, refl, sym, ap, subst, ◌∙◌, arith}
use Rattle.std.specs.Prelude.{◌⊎◌, Result, Ok, Err, is_ok}
use Rattle.std.proofs.lemmas.List.{length-map}
use Rattle.otp_core.specs.Limits.{Limits}
use Rattle.token_file.specs.Credential.{Credential}
use Rattle.floor_store.specs.Fault.{IsCounted}
use Rattle.floor_store.specs.Held.{Held}
use Rattle.floor_store.specs.declared.fault.StoreFault.{StoreFault}
use Rattle.vote_core.specs.Schedule.{Envelope}
use Rattle.vote_core.specs.State.{IsPlace, ballot_of}
use Rattle.oath_node.specs.Calls.{FailsBy, Takes}
use Rattle.oath_node.specs.Hosted.{Hosted, IsNode, IsOwned}
use Rattle.oath_node.specs.Machine.{Made, NodeEvent, Client, Peer, Tick, made_by_datagram, made_by_event, made_by_line, made_by_tick}
use Rattle.oath_node.specs.Outputs.{OutputsRecord}
use Rattle.oath_node.specs.Parts.{FailsParts, Steps, state_in}
use Rattle.oath_node.specs.declared.fault.NodeFault.{NodeFault}
use Rattle.oath_node.specs.declared.fault.NodeFault.TheVariants.{Store, Stopped, Spent}
use Rattle.oath_node.specs.declared.parts.Parts.{Parts}
use Rattle.oath_node.proofs.BoundLemmas.{outputs_few}
use Rattle.oath_node.proofs.OwnedLemmas.{after_owned, datagram_event, event_stops, line_event, tick_event}
use Rattle.oath_node.proofs.PeerLemmas.{config_of}
use Rattle.oath_node.proofs.StepLemmas.{steps_same}

-- a node with these parts
abbrev pub node_of : {S : Type 0} → List Credential → Limits → List ℕ → Parts S → Bool → Hosted S
node_of book limits key parts running = record {
  store = parts.store;
  book = book;
  limits = limits;
  key = key;
  voter = parts.voter;
  owners = parts.owners.items;
  answers = parts.answers;
  running = running;
}

-- a call of the parts of a node that takes them through an event
abbrev pub StepsBy : {S : Type 0} → (S → Held) → List Credential → Limits → List ℕ → Parts S → Parts S → NodeEvent → Result OutputsRecord NodeFault → Type 0
StepsBy held book limits key old new event result = Steps held key old new (made_by_event (config_of book limits) old.voter.place event) result

pub line_steps : {S : Type 0} (held : S → Held) (book : List Credential) (limits : Limits) (key : List ℕ) (old new : Parts S) (client moment : ℕ) (line : List ℕ) (result : Result OutputsRecord NodeFault)
    → Steps held key old new (made_by_line (config_of book limits) old.voter.place client moment line) result
    → StepsBy held book limits key old new (Client client moment line) result
line_steps held book limits key old new client moment line result =
    let config = config_of book limits in
    steps_same held key old new (made_by_line config old.voter.place client moment line)
    (made_by_event config old.voter.place (Client client moment line)) result (λ _. sym (line_event config old.voter.place client moment line (state_in held old) refl))

pub datagram_steps : {S : Type 0} (held : S → Held) (book : List Credential) (limits : Limits) (key : List ℕ) (old new : Parts S) (from : ℕ) (read : Option Envelope) (result : Result OutputsRecord NodeFault)
    → Steps held key old new (made_by_datagram (config_of book limits) old.voter.place from read) result
    → StepsBy held book limits key old new (Peer from read) result
datagram_steps held book limits key old new from read result =
    let config = config_of book limits in
    steps_same held key old new (made_by_datagram config old.voter.place from read)
    (made_by_event config old.voter.place (Peer from read)) result (λ _. sym (datagram_event config old.voter.place from read (state_in held old) refl))

pub tick_steps : {S : Type 0} (held : S → Held) (book : List Credential) (limits : Limits) (key : List ℕ) (old new : Parts S) (result : Result OutputsRecord NodeFault)
    → Steps held key old new (made_by_tick old.voter.place) result
    → StepsBy held book limits key old new Tick result
tick_steps held book limits key old new result =
    let config = config_of book limits in
    steps_same held key old new (made_by_tick old.voter.place)
    (made_by_event config old.voter.place Tick) result (λ _. sym (tick_event config old.voter.place (state_in held old) refl))

-- what broke a store that worked was counted
counted_now : (was : Option StoreFault) (before after : ℕ) (fault : StoreFault) → was ≡ None → IsCounted was before after fault → before < after
counted_now was before after fault works (inl e) = absurd (let t = sym works ∙ e in cc)
counted_now was before after fault works (inr h) = h.1

fails_by : {S : Type 0} (held : S → Held) (book : List Credential) (limits : Limits) (key : List ℕ) (old new : Parts S) (event : NodeEvent) (fault : NodeFault)
    → (held old.store).fault ≡ None
    → FailsParts held old new (made_by_event (config_of book limits) old.voter.place event (state_in held old)) fault
    → FailsBy held (node_of book limits key old true) (node_of book limits key new false) event fault
fails_by held book limits key old new event (Store fault) works h = record {
  breaks = h;
  counted = counted_now (held old.store).fault (held old.store).failures (held new.store).failures fault works h.counted;
  stops = refl;
}
fails_by held book limits key old new event Stopped works h = absurd h
fails_by {S = S} held book limits key old new event Spent works h = record {
  proposing = λ clean. event_stops (config_of book limits) old.voter.place event (state_in held old) refl (h.halts clean);
  none_left = h.none_left;
  unchanged = ap (λ (parts : Parts S). node_of book limits key parts false) h.unchanged;
}

node_after : {S : Type 0} (held : S → Held) (book : List Credential) (limits : Limits) (key : List ℕ) (old new : Parts S) (event : NodeEvent) (out : OutputsRecord)
    → IsNode held (node_of book limits key old true) → StepsBy held book limits key old new event (Ok out)
    → IsNode held (node_of book limits key new true)
node_after held book limits key old new event out n h = record {
  tokens = h.puts.makes.tokens ∙ n.tokens;
  works = λ _. h.puts.intact (n.works refl);
  store = λ _. record {
    tokens = h.puts.makes.tokens ∙ (n.store refl).tokens ∙ sym h.same.tokens;
    boot = λ clean. h.boot clean ∙ (n.store refl).boot (h.puts.makes.clean clean) ∙ sym h.same.boot;
  };
  owned = λ _ clean. subst IsOwned (sym (h.made clean).left)
      (after_owned (config_of book limits) old.voter.place event (state_in held old) (n.owned refl (h.puts.makes.clean clean)));
}

node_stopped : {S : Type 0} (held : S → Held) (book : List Credential) (limits : Limits) (key : List ℕ) (old new : Parts S) (event : NodeEvent) (fault : NodeFault)
    → length (held old.store).content.rows ≡ length book → StepsBy held book limits key old new event (Err fault)
    → IsNode held (node_of book limits key new false)
node_stopped held book limits key old new event fault tokens h = record {
  tokens = h.puts.makes.tokens ∙ tokens;
  works = λ e. absurd cc;
  store = λ e. absurd cc;
  owned = λ e. absurd cc;
}

-- the node is still a node, and stopped if there was a fault
node_then : {S : Type 0} (held : S → Held) (book : List Credential) (limits : Limits) (key : List ℕ) (old new : Parts S) (event : NodeEvent) (result : Result OutputsRecord NodeFault)
    → IsNode held (node_of book limits key old true) → StepsBy held book limits key old new event result
    → IsNode held (node_of book limits key new (is_ok result))
node_then held book limits key old new event (Ok out) n h = node_after held book limits key old new event out n h
node_then held book limits key old new event (Err fault) n h = node_stopped held book limits key old new event fault n.tokens h

few_made : {S : Type 0} (held : S → Held) (book : List Credential) (limits : Limits) (key : List ℕ) (old new : Parts S) (event : NodeEvent) (out : OutputsRecord)
    → IsPlace old.voter.place → length (state_in held old).voter.pending ≤ 32
    → StepsBy held book limits key old new event (Ok out) → (held new.store).is_clean → length out.items ≤ 264
few_made held book limits key old new event out place few h clean =
    subst (λ (o : OutputsRecord). length o.items ≤ 264) (sym (h.made clean).told)
    (outputs_few key (config_of book limits) old.voter.place (state_in held old) event place few)

-- if no failure was counted, the call met none
fails_without : {S : Type 0} (held : S → Held) (old new : Hosted S) (event : NodeEvent) (fault : NodeFault) → FailsBy held old new event fault
    → (held new.store).failures ≡ (held old.store).failures → (fault ≡ Stopped) ⊎ (fault ≡ Spent)
fails_without held old new event (Store fault) h same = absurd (omega (arith, h.counted, same))
fails_without held old new event Stopped h same = inl refl
fails_without held old new event Spent h same = inr refl

not_stopped : {S : Type 0} (held : S → Held) (old new : Parts S) (made : Made) (fault : NodeFault) → FailsParts held old new made fault → fault ≡ Stopped → ⊥
not_stopped held old new made (Store fault) h is = cc
not_stopped held old new made Stopped h is = h
not_stopped held old new made Spent h is = cc

running_takes : {S : Type 0} (held : S → Held) (book : List Credential) (limits : Limits) (key : List ℕ) (old new : Parts S) (event : NodeEvent) (result : Result OutputsRecord NodeFault)
    → (held old.store).fault ≡ None → IsPlace old.voter.place → length (state_in held old).voter.pending ≤ 32
    → StepsBy held book limits key old new event result
    → Takes held (node_of book limits key old true) (node_of book limits key new (is_ok result)) event result
running_takes held book limits key old new event (Ok out) works place few h = record {
  made = h.made;
  runs = (refl, refl);
  puts = h.puts;
  fails = tt;
  stopped = (λ is. absurd cc, λ off. absurd cc);
  without_failure = λ _. tt;
  few = few_made held book limits key old new event out place few h;
  same = record { book = refl; limits = refl; key = refl; place = h.same.place };
}
running_takes held book limits key old new event (Err fault) works place few h =
    let made = made_by_event (config_of book limits) old.voter.place event (state_in held old) in
    let fails = fails_by held book limits key old new event fault works h.fails in
    record {
      made = tt;
      runs = tt;
      puts = h.puts;
      fails = fails;
      stopped = (λ is. absurd (not_stopped held old new made fault h.fails cc), λ off. absurd cc);
      without_failure = fails_without held (node_of book limits key old true) (node_of book limits key new false) event fault fails;
      few = tt;
      same = record { book = refl; limits = refl; key = refl; place = h.same.place };
    }

-- ---- a node that was found running, and what it runs on as

was_running : {S : Type 0} (book : List Credential) (limits : Limits) (key : List ℕ) (old : Parts S) (was : Bool) (node : Hosted S)
    → node_of book limits key old was ≡ node → node.running ≡ true → was ≡ true
was_running {S = S} book limits key old was node same runs = ap (λ (h : Hosted S). h.running) same ∙ runs

pub node_taken : {S : Type 0} (held : S → Held) (book : List Credential) (limits : Limits) (key : List ℕ) (old new : Parts S) (was now : Bool) (node : Hosted S) (event : NodeEvent) (result : Result OutputsRecord NodeFault)
    → node_of book limits key old was ≡ node → IsNode held (node_of book limits key old was) → node.running ≡ true
    → now ≡ is_ok result → StepsBy held book limits key old new event result
    → IsNode held (node_of book limits key new now)
node_taken held book limits key old new was now node event result same n runs is h =
    subst (λ (b : Bool). IsNode held (node_of book limits key new b)) (sym is)
    (node_then held book limits key old new event result
    (subst (λ (b : Bool). IsNode held (node_of book limits key old b)) (was_running book limits key old was node same runs) n) h)

pub node_takes : {S : Type 0} (held : S → Held) (book : List Credential) (limits : Limits) (key : List ℕ) (old new : Parts S) (was now : Bool) (node : Hosted S) (event : List ℕ → NodeEvent) (result : Result OutputsRecord NodeFault)
    → node_of book limits key old was ≡ node → IsNode held (node_of book limits key old was) → node.running ≡ true
    → IsPlace node.voter.place → length node.voter.ballots ≤ 32
    → now ≡ is_ok result → StepsBy held book limits key old new (event key) result
    → Takes held node (node_of book limits key new now) (event node.key) result
node_takes {S = S} held book limits key old new was now node event result same n runs place few is h =
    let on = was_running book limits key old was node same runs in
    let placed : IsPlace old.voter.place = subst (λ (h : Hosted S). IsPlace h.voter.place) (sym same) place in
    let balloted : length old.voter.ballots ≤ 32 = subst (λ (h : Hosted S). length h.voter.ballots ≤ 32) (sym same) few in
    let pending : length (state_in held old).voter.pending ≤ 32 = omega (arith, length-map old.voter.ballots ballot_of, balloted) in
    let taken = running_takes held book limits key old new (event key) result (n.works on) placed pending h in
    subst (λ (h : Hosted S). Takes held h (node_of book limits key new now) (event h.key) result) same
    (subst (λ (b : Bool). Takes held (node_of book limits key old b) (node_of book limits key new now) (event key) result) (sym on)
    (subst (λ (b : Bool). Takes held (node_of book limits key old true) (node_of book limits key new b) (event key) result) (sym is) taken))

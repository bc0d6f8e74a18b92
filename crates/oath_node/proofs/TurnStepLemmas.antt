-- What taking events does, one after the other, and what a stop leaves then.
use Rattle.std.proofs.Common.{◌≡◌, ◌⊎◌, inl, inr, ⊎_elim, ℕ, ◌+◌, List, [], ◌∷◌, ◌++◌, length, map, take, refl, sym, ap, ◌∙◌, subst, arith, length-append}
use Rattle.std.specs.Prelude.{Option, Ok, Err}
use Rattle.std.proofs.lemmas.List.{append_assoc, append-nil, map-append, take-append-le}
use Rattle.std.proofs.Math.Seq.{take-append-add}
use Rattle.floor_store.specs.Content.{Content}
use Rattle.floor_store.specs.Held.{Held, IsSettled}
use Rattle.oath_node.specs.Calls.{CommitsNode, Takes}
use Rattle.oath_node.specs.Hosted.{Hosted, IsSameNode, state_of}
use Rattle.oath_node.specs.Machine.{NodeEvent, NodeState, made_by_event}
use Rattle.oath_node.specs.Outputs.{OutputsRecord, outputs_of}
use Rattle.oath_node.specs.declared.fault.NodeFault.{NodeFault}
use Rattle.oath_node.specs.declared.item.Item.{Item}
use Rattle.datagram_port.specs.Port.{Grows, PortEvent}
use Rattle.oath_node.specs.TurnServing.{FailsAmong, FailsNext, IsAmong, LeavesAmong}
use Rattle.oath_node.specs.TurnSteps.{FailsIn, HasMade, TakesAll, reply_count}
use Rattle.oath_node.specs.Turns.{Member, Run, member_of, offer_of, run_with_event, run_with_events, with_replies}
use Rattle.oath_node.specs.declared.turns.Tally.{Tally}
use Rattle.oath_node.proofs.GrowLemmas.{reply_count-append, reply_count-items}

pub same_trans : {S : Type 0} (a b c : Hosted S) → IsSameNode a b → IsSameNode b c → IsSameNode a c
same_trans a b c h k = record {
  book = k.book ∙ h.book;
  limits = k.limits ∙ h.limits;
  key = k.key ∙ h.key;
  place = k.place ∙ h.place;
}

pub same_refl : {S : Type 0} (a : Hosted S) → IsSameNode a a
same_refl a = record { book = refl; limits = refl; key = refl; place = refl }

pub member_same : {S : Type 0} (a b : Hosted S) → IsSameNode a b → member_of b ≡ member_of a
member_same a b h =
    let e = h.book in let f = h.limits in let k = h.key in let p = h.place in cc

-- ---- The run over events

pub run_with_events-append : (member : Member) (xs ys : List NodeEvent) (run : Run)
    → run_with_events member (xs ++ ys) run ≡ run_with_events member ys (run_with_events member xs run)
run_with_events-append member [] ys run = refl
run_with_events-append member (x ∷ xs) ys run = run_with_events-append member xs ys (run_with_event member x run)

pub run_with_events-end : (member : Member) (xs : List NodeEvent) (run : Run) → (run_with_events member xs run).end ≡ run.end
run_with_events-end member [] run = refl
run_with_events-end member (x ∷ xs) run = run_with_events-end member xs (run_with_event member x run)

-- ---- Contents among the contents of a run

pub among_none : (member : Member) (run : Run) (events : List NodeEvent) (content : Content) → content ≡ run.node.content
    → IsAmong member run events content
among_none member run events content is = record { count = 0; within = omega arith; is = is }

pub among_before : (member : Member) (run : Run) (xs ys : List NodeEvent) (content : Content) → IsAmong member run xs content
    → IsAmong member run (xs ++ ys) content
among_before member run xs ys content w = record {
  count = w.count;
  within = omega (arith, w.within, length-append xs ys);
  is = w.is ∙ ap (λ (es : List NodeEvent). (run_with_events member es run).node.content) (sym (take-append-le w.count xs ys w.within));
}

pub among_behind : (member : Member) (run : Run) (xs ys : List NodeEvent) (content : Content)
    → IsAmong member (run_with_events member xs run) ys content → IsAmong member run (xs ++ ys) content
among_behind member run xs ys content w = record {
  count = length xs + w.count;
  within = omega (arith, w.within, length-append xs ys);
  is = w.is ∙ ap (λ (r : Run). r.node.content) (sym (run_with_events-append member xs (take w.count ys) run))
      ∙ ap (λ (es : List NodeEvent). (run_with_events member es run).node.content) (sym (take-append-add xs ys w.count));
}

-- a content that was among before, or is among these
among_both : {S : Type 0} (held : S → Held) (member : Member) (run : Run) (xs ys : List NodeEvent) (old : S) (content : Content)
    → (held old).leaves content ⊎ IsAmong member run xs content
    → (held old).leaves content ⊎ IsAmong member run (xs ++ ys) content
among_both held member run xs ys old content h =
    ⊎_elim (λ was. inl was) (λ w. inr (among_before member run xs ys content w)) h

-- ---- One event

-- the first event brings the content that it makes
among_first : {S : Type 0} (held : S → Held) (old : Hosted S) (event : NodeEvent) (later : List NodeEvent) (run : Run)
    (content : Content) → state_of held old ≡ run.node
    → content ≡ (made_by_event (member_of old).config (member_of old).place event (state_of held old)).state.content
    → IsAmong (member_of old) run (event ∷ later) content
among_first held old event later run content at is = record {
  count = 1;
  within = omega arith;
  is = is ∙ ap (λ (x : NodeState). (made_by_event (member_of old).config (member_of old).place event x).state.content) at;
}

no_replies : (t : Tally) → t ≡ with_replies 0 t
no_replies t =
    ap (λ (n : ℕ). let u : Tally = record { received = t.received; replied = n; faults = t.faults } in u)
    (let e : t.replied ≡ t.replied + 0 = omega arith in e)

more_replies : (t : Tally) (a b c : ℕ) → c ≡ a + b → with_replies b (with_replies a t) ≡ with_replies c t
more_replies t a b c sum =
    ap (λ (n : ℕ). let u : Tally = record { received = t.received; replied = n; faults = t.faults } in u)
    (let e : (t.replied + a) + b ≡ t.replied + c = omega (arith, sum) in e)

-- no event
pub takes_none : {S : Type 0} (held : S → Held) (node : Hosted S) → TakesAll held node node [] []
takes_none held node = record {
  same = same_refl node;
  clean = λ clean. clean;
  few = λ clean. omega arith;
  made = λ clean run at. record { state = at; entries = sym (append-nil run.entries); tally = no_replies run.tally };
  left = λ clean run at content leaves. inl leaves;
}

-- an event that a node takes
pub takes_one : {S : Type 0} (held : S → Held) (old new : Hosted S) (event : NodeEvent) (outputs : OutputsRecord)
    → Takes held old new event (Ok outputs) → TakesAll held old new (event ∷ []) outputs.items
takes_one held old new event outputs h = record {
  same = h.same;
  clean = h.puts.makes.clean;
  few = λ clean. omega (arith, h.few clean);
  made = λ clean run at.
      let member = member_of old in
      let m = h.made clean in
      let left = subst (λ (x : NodeState). state_of held new ≡ (made_by_event member.config member.place event x).state) at m.left in
      let told = subst (λ (x : NodeState). outputs ≡ outputs_of member.key member.place (made_by_event member.config member.place event x)) at m.told in
      let made_of_run = made_by_event member.config member.place event run.node in
      let items : reply_count outputs.items ≡ length made_of_run.replies =
      ap (λ (o : OutputsRecord). reply_count o.items) told
      ∙ reply_count-items member.key member.place.me made_of_run.sends made_of_run.replies in
      record {
        state = left;
        entries = ap (λ (o : OutputsRecord). run.entries ++ map offer_of o.items) (sym told);
        tally = ap (λ (n : ℕ). with_replies n run.tally) (sym items);
      };
  left = λ clean run at content leaves.
      ⊎_elim (λ was. inl was) (λ is. inr (among_first held old event [] run content at is))
      (h.puts.left (h.puts.makes.clean clean) content leaves);
}

-- ---- Events one after the other

pub takes_more : {S : Type 0} (held : S → Held) (a b c : Hosted S) (xs ys : List NodeEvent) (items more : List Item)
    → TakesAll held a b xs items → TakesAll held b c ys more → TakesAll held a c (xs ++ ys) (items ++ more)
takes_more held a b c xs ys items more h k = record {
  same = same_trans a b c h.same k.same;
  clean = λ clean. h.clean (k.clean clean);
  few = λ clean.
      omega (arith, h.few (k.clean clean), k.few clean, length-append xs ys, length-append items more);
  made = λ clean run at.
      let member = member_of a in
      let m = h.made (k.clean clean) run at in
      let between = run_with_events member xs run in
      let n : HasMade held member between ys more c =
      subst (λ (x : Member). HasMade held x between ys more c) (member_same a b h.same) (k.made clean between m.state) in
      let whole = run_with_events-append member xs ys run in
      record {
        state = n.state ∙ ap (λ (r : Run). r.node) (sym whole);
        entries = ap (λ (r : Run). r.entries) whole ∙ n.entries
            ∙ ap (λ (es : List PortEvent). es ++ map offer_of more) m.entries
            ∙ append_assoc run.entries (map offer_of items) (map offer_of more)
            ∙ ap (λ (es : List PortEvent). run.entries ++ es) (sym (map-append offer_of items more));
        tally = ap (λ (r : Run). r.tally) whole ∙ n.tally ∙ ap (λ (t : Tally). with_replies (reply_count more) t) m.tally
            ∙ more_replies run.tally (reply_count items) (reply_count more) (reply_count (items ++ more)) (reply_count-append items more);
      };
  left = λ clean run at content leaves.
      let member = member_of a in
      let m = h.made (k.clean clean) run at in
      let between = run_with_events member xs run in
      ⊎_elim
      (λ was. among_both held member run xs ys a.store content (h.left (k.clean clean) run at content was))
      (λ w.
      let here : IsAmong member between ys content =
      subst (λ (x : Member). IsAmong x between ys content) (member_same a b h.same) w in
      inr (among_behind member run xs ys content here))
      (k.left clean between m.state content leaves);
}

-- ---- A fault

pub fails_more : {S : Type 0} (held : S → Held) (a b c : Hosted S) (xs ys : List NodeEvent) (items : List Item) (fault : NodeFault)
    → TakesAll held a b xs items → FailsIn held b c ys fault → FailsIn held a c (xs ++ ys) fault
fails_more held a b c xs ys items fault h f = record {
  done = xs ++ f.done;
  later = f.later;
  events_are = ap (λ (zs : List NodeEvent). xs ++ zs) f.events_are ∙ sym (append_assoc xs f.done f.later);
  before = f.before;
  items = items ++ f.items;
  takes = takes_more held a b f.before xs f.done items f.items h f.takes;
  fails = f.fails;
}

-- the first of these events is answered by it
pub fails_first : {S : Type 0} (held : S → Held) (old new : Hosted S) (events later : List NodeEvent) (event : NodeEvent)
    (fault : NodeFault) → events ≡ event ∷ [] → Takes held old new event (Err fault) → FailsIn held old new (events ++ later) fault
fails_first held old new events later event fault is h = record {
  done = [];
  later = event ∷ later;
  events_are = ap (λ (es : List NodeEvent). es ++ later) is;
  before = old;
  items = [];
  takes = takes_none held old;
  fails = h;
}

-- all of them are taken, and the commit is answered by it
pub fails_last : {S : Type 0} (held : S → Held) (old between new : Hosted S) (events : List NodeEvent) (items : List Item)
    (fault : NodeFault) → TakesAll held old between events items → CommitsNode {A = Unit {0}} held between new (Err fault)
    → FailsIn held old new events fault
fails_last held old between new events items fault h k = record {
  done = events;
  later = [];
  events_are = sym (append-nil events);
  before = between;
  items = items;
  takes = h;
  fails = k;
}

next_same : {S : Type 0} (held : S → Held) (before new : Hosted S) (later : List NodeEvent) (fault : NodeFault)
    → FailsNext held before new later fault → IsSameNode before new
next_same held before new [] fault h = h.same
next_same held before new (event ∷ later) fault h = h.same

next_clean : {S : Type 0} (held : S → Held) (before new : Hosted S) (later : List NodeEvent) (fault : NodeFault)
    → FailsNext held before new later fault → (held new.store).is_clean → (held before.store).is_clean
next_clean held before new [] fault h = h.commits.makes.clean
next_clean held before new (event ∷ later) fault h = h.puts.makes.clean

next_left : {S : Type 0} (held : S → Held) (before new : Hosted S) (later : List NodeEvent) (fault : NodeFault) (run : Run)
    (content : Content) → FailsNext held before new later fault → (held new.store).is_clean → state_of held before ≡ run.node
    → (held new.store).leaves content → (held before.store).leaves content ⊎ IsAmong (member_of before) run later content
next_left held before new [] fault run content h clean at leaves =
    ⊎_elim (λ was. inl was)
    (λ is. inr (among_none (member_of before) run [] content (is ∙ ap (λ (x : NodeState). x.content) at)))
    (h.commits.left content leaves)
next_left held before new (event ∷ later) fault run content h clean at leaves =
    ⊎_elim (λ was. inl was) (λ is. inr (among_first held before event later run content at is))
    (h.puts.left (h.puts.makes.clean clean) content leaves)

pub fails_same : {S : Type 0} (held : S → Held) (old new : Hosted S) (events : List NodeEvent) (fault : NodeFault)
    → FailsIn held old new events fault → IsSameNode old new
fails_same held old new events fault f =
    same_trans old f.before new f.takes.same (next_same held f.before new f.later fault f.fails)

pub fails_clean : {S : Type 0} (held : S → Held) (old new : Hosted S) (events : List NodeEvent) (fault : NodeFault)
    → FailsIn held old new events fault → (held new.store).is_clean → (held old.store).is_clean
fails_clean held old new events fault f clean =
    f.takes.clean (next_clean held f.before new f.later fault f.fails clean)

pub fails_among : {S : Type 0} (held : S → Held) (first : Option (List PortEvent)) (old new : Hosted S) (events : List NodeEvent)
    (fault : NodeFault) (run : Run) (entries : Option (List PortEvent)) → FailsIn held old new events fault
    → (held new.store).is_clean → state_of held old ≡ run.node → Grows first entries run.entries
    → FailsAmong held first (member_of old) run events new entries fault
fails_among held first old new events fault run entries f clean at grows = record {
  done = f.done;
  later = f.later;
  events_are = f.events_are;
  before = f.before;
  state = (f.takes.made (next_clean held f.before new f.later fault f.fails clean) run at).state;
  fails = f.fails;
  kept = grows;
}

pub left_among : {S : Type 0} (held : S → Held) (old new : Hosted S) (events : List NodeEvent) (fault : NodeFault) (run : Run)
    → FailsIn held old new events fault → (held new.store).is_clean → state_of held old ≡ run.node
    → IsSettled (held old.store) → LeavesAmong (held new.store) (member_of old) run events
left_among held old new events fault run f clean at settled = λ content leaves.
    let member = member_of old in
    let cleaner = next_clean held f.before new f.later fault f.fails clean in
    let m = f.takes.made cleaner run at in
    let between = run_with_events member f.done run in
    let whole : IsAmong member run (f.done ++ f.later) content =
    ⊎_elim
    (λ was. ⊎_elim
    (λ first. among_none member run (f.done ++ f.later) content (settled content first ∙ ap (λ (x : NodeState). x.content) at))
    (λ w. among_before member run f.done f.later content w) (f.takes.left cleaner run at content was))
    (λ w. among_behind member run f.done f.later content
    (subst (λ (x : Member). IsAmong x between f.later content) (member_same old f.before f.takes.same) w))
    (next_left held f.before new f.later fault between content f.fails clean m.state leaves) in
    subst (λ (es : List NodeEvent). IsAmong member run es content) (sym f.events_are) whole

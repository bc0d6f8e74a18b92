-- A node over a seated store that a call of run_turns served is a use of its store, at every end.
use Rattle.std.proofs.Common.{◌≡◌, ℕ, ◌+◌, ◌^◌, ◌<◌, ◌++◌, true, List, [], ◌∷◌, map, take, drop, Option, Some, None, refl, sym, ap, ◌∙◌, subst, arith, ltb}
use Rattle.std.specs.Prelude.{Result, Ok, Err, option_map}
use Rattle.std.proofs.lemmas.Bool.{lt-ltb}
use Rattle.std.proofs.lemmas.List.{append-nil, append_assoc, append_cancel_left, take-append-drop}
use Rattle.std.proofs.lemmas.List.Elements.{filter-append}
use Rattle.std.proofs.lemmas.Option.{none-some, same_Some}
use Rattle.floor_store.specs.Content.{Content, with_next_boot}
use Rattle.floor_store.specs.Held.{Held, IsSettled}
use Rattle.floor_store.specs.Range.{IsCount}
use Rattle.oath_node.specs.Calls.{IsOpened}
use Rattle.oath_node.specs.Hosted.{Hosted, state_of}
use Rattle.oath_node.specs.Machine.{NodeEvent, NodeState, opened_node}
use Rattle.oath_node.specs.TurnServing.{FailsAfter, IsAmong, Serves as ServesTurns, Stands, run_over}
use Rattle.oath_node.specs.Turns.{Member, Receipt, Run, entry_of, is_receive, events_of_turns, member_of, offers_in, receipts_in, received_after, receives_in, run_at, run_with_batches, run_with_events, run_with_receipts}
use Rattle.oath_node.specs.declared.fault.NodeFault.{NodeFault}
use Rattle.oath_node.specs.declared.serve_fault.ServeFault.{ServeFault}
use Rattle.oath_node.specs.declared.serve_fault.ServeFault.TheVariants.{Clock, Node, Port}
use Rattle.oath_node.specs.declared.turns.Served.{Served}
use Rattle.datagram_port.specs.Port.{Grows, PortEvent}
use Rattle.seated_store.specs.Seats.{seated_content}
use Rattle.seated_store.specs.Seated.{SeatedRecord, seated_held}
use Rattle.vote_core.specs.Schedule.{last_boot}
use Rattle.book_law.specs.Lives.{Setting, Store, Terms, seen_in}
use Rattle.book_law.specs.Uses.{IsSeatedMember, WasProcess, member_at}
use Rattle.book_law.proofs.Events.{all_done, all_end, append_events, events_add, events_do, receipts_do, receipts_end, turns_append}

-- ---- a call is a run of the machine

-- The member took the first events of the turns with the entries. The offers among these are the first of its own, and a
-- stop leaves what its machine has.
pub record WasRun (m : Member) (s : NodeState) (entries : List PortEvent) (left : Content) : Type 0 where
  pub receipts : List Receipt
  pub received : map entry_of receipts ≡ receives_in entries
  pub taken : List NodeEvent
  pub later : List NodeEvent
  pub events : events_of_turns m.key 0 receipts ≡ taken ++ later
  pub rest : List PortEvent
  pub offers : (run_with_events m taken (run_at s)).entries ≡ offers_in entries ++ rest
  pub leaves : (run_with_events m taken (run_at s)).node.content ≡ left

receipts_append : (xs ys : List (List Receipt)) → receipts_in (xs ++ ys) ≡ receipts_in xs ++ receipts_in ys
receipts_append [] ys = refl
receipts_append (x ∷ xs) ys = ap (λ l. x ++ l) (receipts_append xs ys) ∙ sym (append_assoc x (receipts_in xs) (receipts_in ys))

-- the record of the port at the end is the one at the start, followed by the entries that were added
pub record Adds (first : Option (List PortEvent)) (entries added : List PortEvent) : Type 0 where
  pub before : List PortEvent
  pub first_is : first ≡ Some before
  pub joined : before ++ added ≡ entries

grown : (first : Option (List PortEvent)) (entries added : List PortEvent) → Grows first (Some entries) added → Adds first entries added
grown None entries added grows = absurd (none-some entries grows)
grown (Some before) entries added grows = record { before = before; first_is = refl; joined = same_Some (before ++ added) entries grows }

-- the receives among what was added
receives : (first : Option (List PortEvent)) (entries added more : List PortEvent) → Adds first entries added → Grows (option_map receives_in first) (Some (receives_in entries)) more → more ≡ receives_in added
receives first entries added more a grows =
    append_cancel_left (receives_in a.before) more (receives_in added)
    (same_Some (receives_in a.before ++ more) (receives_in entries) (ap (λ o. option_map (λ l. l ++ more) (option_map receives_in o)) (sym a.first_is) ∙ grows)
    ∙ ap receives_in (sym a.joined) ∙ filter-append is_receive a.before added)

-- the batches up to the end
ended : {S : Type 0} (held : S → Held) (old new : Hosted S) (added : List PortEvent) (batches : List (List Receipt)) (content : Content)
    → map entry_of (receipts_in batches) ≡ receives_in added → state_of held new ≡ (run_over held old batches).node → (run_over held old batches).entries ≡ added → content ≡ (state_of held new).content
    → WasRun (member_of old) (state_of held old) added content
ended held old new added batches content received state all left =
    let m = member_of old in
    let s = state_of held old in
    let x = all_end m batches s in
    let gone = receipts_in x.gone in
    let later = receipts_in x.later in
    let taken = events_of_turns m.key 0 gone in
    record {
      receipts = receipts_in batches;
      received = received;
      taken = taken;
      later = events_of_turns m.key (received_after gone 0) later;
      events = ap (λ l. events_of_turns m.key 0 (receipts_in l)) x.split ∙ ap (λ l. events_of_turns m.key 0 l) (receipts_append x.gone x.later) ∙ turns_append m.key 0 gone later;
      rest = [];
      offers = sym x.does.does.offers ∙ ap (λ l. offers_in l) all ∙ sym (append-nil (offers_in added));
      leaves = sym (left ∙ ap (λ (z : NodeState). z.content) (state ∙ x.does.does.node));
    }

-- a fault of the node in the last batch
failed : {S : Type 0} (held : S → Held) (old new : Hosted S) (first entries : Option (List PortEvent)) (added : List PortEvent) (batches : List (List Receipt)) (fault : NodeFault) (content : Content)
    → map entry_of (receipts_in batches) ≡ receives_in added → (f : FailsAfter held old new first entries batches fault) → (run_with_receipts f.last (run_over held old f.before)).entries ≡ added
    → IsSettled (held old.store) → (held new.store).leaves content → WasRun (member_of old) (state_of held old) added content
failed held old new first_kept last_kept added batches fault content received f kept settled leaves =
    let m = member_of old in
    let s = state_of held old in
    let before = receipts_in f.before in
    let run = run_with_batches m f.before (run_at s) in
    let done = all_done m f.before s f.going in
    let first = events_of_turns m.key 0 before in
    let base = run_with_events m first (run_at s) in
    let events = events_of_turns m.key (received_after before 0) f.last in
    let among : IsAmong m run (events_of_turns m.key run.tally.received f.last) content = f.left settled content leaves in
    let some = take among.count events in
    let more = events_add m some base in
    let end = events_do m some run base done.does in
    let whole : run_with_events m (first ++ some) (run_at s) ≡ run_with_events m some base = append_events m first some (run_at s) in
    let is : content ≡ (run_with_events m some run).node.content =
    among.is ∙ ap (λ k. (run_with_events m (take among.count (events_of_turns m.key k f.last)) run).node.content) done.count in
    let offered : base.entries ≡ offers_in added = sym (receipts_do f.last run base done.does).offers ∙ ap (λ l. offers_in l) kept in
    record {
      receipts = before ++ f.last;
      received = ap (λ l. map entry_of l) (sym (receipts_end f.before f.last)) ∙ ap (λ l. map entry_of (receipts_in l)) (sym f.batches_are) ∙ received;
      taken = first ++ some;
      later = drop among.count events;
      events = turns_append m.key 0 before f.last
          ∙ ap (λ l. first ++ l) (sym (take-append-drop among.count events))
          ∙ sym (append_assoc first some (drop among.count events));
      rest = more.0;
      offers = ap (λ (r : Run). r.entries) whole ∙ more.1 ∙ ap (λ l. l ++ more.0) offered;
      leaves = ap (λ (r : Run). r.node.content) whole ∙ sym (is ∙ ap (λ (z : NodeState). z.content) end.node);
    }

-- a run, and the entries that it added to the port's record
pub record WasCall (m : Member) (s : NodeState) (first : Option (List PortEvent)) (entries : List PortEvent) (left : Content) : Type 0 where
  pub added : List PortEvent
  pub adds : Adds first entries added
  pub run : WasRun m s added left

-- a run of all its turns
pub record WasWhole (m : Member) (s end : NodeState) (first : Option (List PortEvent)) (entries : List PortEvent) : Type 0 where
  pub added : List PortEvent
  pub adds : Adds first entries added
  pub receipts : List Receipt
  pub received : map entry_of receipts ≡ receives_in added
  pub offers : (run_with_events m (events_of_turns m.key 0 receipts) (run_at s)).entries ≡ offers_in added
  pub node : end ≡ (run_with_events m (events_of_turns m.key 0 receipts) (run_at s)).node

module _ {S : Type 0} (held : S → Held) (old new : Hosted S) (first : Option (List PortEvent)) (entries : List PortEvent) (asked told : Option (List (Option ℕ))) (turns : ℕ) where
  stood : (result : Result Served ServeFault) (content : Content) (s : ServesTurns held old new first (Some entries) asked told turns result) → Stands held first new (Some entries) (run_over held old s.batches) → content ≡ (state_of held new).content
      → WasCall (member_of old) (state_of held old) first entries content
  stood result content s stands left =
      let added = (run_over held old s.batches).entries in
      let a = grown first entries added stands.entries in
      record { added = added; adds = a; run = ended held old new added s.batches content (receives first entries added (map entry_of (receipts_in s.batches)) a s.receives) stands.state refl left }

  pub was_call : (result : Result Served ServeFault) (content : Content) → IsSettled (held old.store) → ServesTurns held old new first (Some entries) asked told turns result → (held new.store).is_clean → (held new.store).leaves content
      → WasCall (member_of old) (state_of held old) first entries content
  was_call (Ok served) content settled s clean leaves = stood (Ok served) content s (s.exact clean).0 (s.settled clean settled content leaves)
  was_call (Err Port) content settled s clean leaves = stood (Err Port) content s (s.exact clean).0 (s.settled clean settled content leaves)
  was_call (Err Clock) content settled s clean leaves = stood (Err Clock) content s (s.exact clean).0 (s.settled clean settled content leaves)
  was_call (Err (Node fault)) content settled s clean leaves =
      let f = s.exact clean in
      let added = (run_with_receipts f.last (run_over held old f.before)).entries in
      let a = grown first entries added f.fails.kept in
      record {
        added = added;
        adds = a;
        run = failed held old new first (Some entries) added s.batches fault content (receives first entries added (map entry_of (receipts_in s.batches)) a s.receives) f refl settled leaves;
      }

  pub was_whole : (served : Served) → ServesTurns held old new first (Some entries) asked told turns (Ok served) → (held new.store).is_clean → WasWhole (member_of old) (state_of held old) (state_of held new) first entries
  was_whole served s clean =
      let e = s.exact clean in
      let done = all_done (member_of old) s.batches (state_of held old) e.1 in
      let added = (run_over held old s.batches).entries in
      let a = grown first entries added e.0.entries in
      record {
        added = added;
        adds = a;
        receipts = receipts_in s.batches;
        received = receives first entries added (map entry_of (receipts_in s.batches)) a s.receives;
        offers = sym done.does.offers;
        node = e.0.state ∙ done.does.node;
      }

-- ---- the member of a history

pub same_member : {S : Type 0} (held : S → Held) (setting : Setting) (node : ℕ) (terms : Terms) (port : List ℕ) (found : Store) (store : SeatedRecord S) (process : Hosted (SeatedRecord S))
    → IsSeatedMember held setting node terms port found store process → member_of process ≡ member_at setting terms port node
same_member held setting node terms port found store process m =
    ap (λ x. record { config = x; key = process.key; place = process.voter.place }) m.config
    ∙ ap (λ x. record { config = terms.config; key = x; place = process.voter.place }) m.key
    ∙ ap (λ x. record { config = terms.config; key = port; place = x }) m.place

below_last : (boot : ℕ) → boot + 1 < 2 ^ 62 → boot < last_boot
below_last boot h = omega arith

-- the machine at the start, and the boot that it found
pub record Begins (terms : Terms) (found : Store) (s : NodeState) : Type 0 where
  pub state : s ≡ opened_node (seen_in found terms.seats)
  pub boot : ltb found.content.boot last_boot ≡ true

pub begins_at : {S : Type 0} (held : S → Held) (setting : Setting) (node : ℕ) (terms : Terms) (port : List ℕ) (found : Store) (store : SeatedRecord S) (old : Hosted (SeatedRecord S))
    → IsSeatedMember held setting node terms port found store old → IsOpened (seated_held held) store old → (seated_held held old.store).is_clean → IsCount (seated_held held old.store).content.boot
    → Begins terms found (state_of (seated_held held) old)
begins_at held setting node terms port found store old m o begins count =
    let c = (seated_held held store).content in
    let seen : c ≡ seen_in found terms.seats = ap (seated_content store.seats) (sym m.content) ∙ ap (λ l. seated_content l found.content) (sym m.seats) in
    let made : (seated_held held old.store).content ≡ with_next_boot c = o.raises.writes.makes.ok begins in
    let low : c.boot + 1 < 2 ^ 62 = subst (λ (d : Content). d.boot < 2 ^ 62) made count in
    let same : c.boot ≡ found.content.boot = ap (λ (d : Content). d.boot) seen in
    record {
      state = o.state begins ∙ ap (λ z. opened_node z) seen;
      boot = lt-ltb found.content.boot last_boot (below_last found.content.boot (subst (λ b. b + 1 < 2 ^ 62) same low));
    }

pub was_served : {S : Type 0} (held : S → Held) (setting : Setting) (node : ℕ) (terms : Terms) (port : List ℕ) (found : Store) (store : SeatedRecord S) (old new : Hosted (SeatedRecord S)) (entries : List PortEvent)
    (asked told : Option (List (Option ℕ))) (turns : ℕ) (result : Result Served ServeFault) (content : Content)
    → IsSeatedMember held setting node terms port found store old → IsOpened (seated_held held) store old → (seated_held held old.store).is_clean → IsCount (seated_held held old.store).content.boot
    → ServesTurns (seated_held held) old new (Some []) (Some entries) asked told turns result → (seated_held held new.store).is_clean → (seated_held held new.store).leaves content
    → WasProcess setting node terms port found entries content
was_served held setting node terms port found store old new entries asked told turns result content m o begins count s clean leaves =
    let b = begins_at held setting node terms port found store old m o begins count in
    let w = was_call (seated_held held) old new (Some []) entries asked told turns result content (o.raises.writes.settled begins) s clean leaves in
    let all : w.added ≡ entries = ap (λ l. l ++ w.added) (same_Some [] w.adds.before w.adds.first_is) ∙ w.adds.joined in
    let run : WasRun (member_at setting terms port node) (opened_node (seen_in found terms.seats)) entries content =
    subst (λ l. WasRun (member_at setting terms port node) (opened_node (seen_in found terms.seats)) l content) all
    (subst (λ z. WasRun (member_at setting terms port node) z w.added content) b.state
    (subst (λ z. WasRun z (state_of (seated_held held) old) w.added content) (same_member held setting node terms port found store old m) w.run)) in
    record {
      taken = run.taken;
      is = record {
        fits = m.fits;
        boot = b.boot;
        receipts = run.receipts;
        received = run.received;
        later = run.later;
        events = run.events;
        rest = run.rest;
        offers = run.offers;
        leaves = run.leaves;
      };
    }

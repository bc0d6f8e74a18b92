-- A node over a seated store that a call of run_turns served has made steps, at every end.
use Rattle.std.proofs.Common.{◌≡◌, ℕ, ◌++◌, List, [], ◌∷◌, map, take, drop, Option, Some, None, refl, sym, ap, ◌∙◌, subst}
use Rattle.std.specs.Prelude.{Result, Ok, Err}
use Rattle.std.proofs.lemmas.List.{append_assoc, take-append-drop}
use Rattle.std.proofs.lemmas.Option.{none-some, same_Some}
use Rattle.floor_store.specs.Content.{Content}
use Rattle.floor_store.specs.Held.{Held, IsSettled}
use Rattle.floor_store.specs.Range.{IsCount}
use Rattle.oath_node.specs.Calls.{IsOpened}
use Rattle.oath_node.specs.Hosted.{Hosted, state_of}
use Rattle.oath_node.specs.Machine.{NodeEvent, NodeState, opened_node}
use Rattle.oath_node.specs.TurnServing.{IsAmong, Serves as ServesTurns, Stands as StandsAt, run_over}
use Rattle.oath_node.specs.Turns.{Member, Receipt, Run, entry_of, events_of_turns, member_of, run_at, run_with_batches, run_with_receipts}
use Rattle.oath_node.specs.declared.serve_fault.ServeFault.{ServeFault}
use Rattle.oath_node.specs.declared.serve_fault.ServeFault.TheVariants.{Clock, Node, Port}
use Rattle.oath_node.specs.declared.turns.Served.{Served}
use Rattle.datagram_port.specs.Port.{Grows, PortEvent}
use Rattle.seated_store.specs.Seated.{SeatedRecord, seated_held}
use Rattle.book_law.specs.Lives.{Setting, Store, Terms, seen_in, store_under}
use Rattle.book_law.specs.Uses.{IsSeatedMember, member_at}
use Rattle.book_law.proofs.Served.{Adds, begins_at, same_member}
use Rattle.order_law.specs.Steps.{AreOfProcess, AreSteps, Closed, Ends, HasSteps, Open, Live, Starts, Step, cleared_in, entries_of_steps, place_in_end, live_taken}
use Rattle.order_law.proofs.Batches.{at_run, batches_lead, cleared_append, end_append, entries_append, hearings, heard_all, hears, hears_clear, hears_end, hears_entries, hears_one, idle, process_append, receipts_entries, steps_append, takes}

-- ---- a call is steps

-- steps from the machine on, with an end that leaves the content; the port's record grew by their entries
pub record Goes (setting : Setting) (node : ℕ) (terms : Terms) (port : List ℕ) (found : Store) (s : NodeState) (entries : List PortEvent) (left : Content) : Type 0 where
  pub steps : List Step
  pub kept : List NodeEvent
  pub of_one : AreOfProcess steps
  pub clear : cleared_in steps ≡ []
  pub are : AreSteps setting node (Open (idle terms port found s 0)) (steps ++ Ends kept ∷ [])
  pub ends : place_in_end setting node (Open (idle terms port found s 0)) (steps ++ Ends kept ∷ []) ≡ Closed (store_under terms.seats left found)
  pub recorded : entries_of_steps port steps ≡ entries

module _ (setting : Setting) (node : ℕ) (terms : Terms) (port : List ℕ) (found : Store) where
  abbrev m : Member
  m = member_at setting terms port node

  -- all batches up to the end
  ended : (s : NodeState) (batches : List (List Receipt)) (left : Content) → left ≡ (run_with_batches m batches (run_at s)).node.content → Goes setting node terms port found s (run_with_batches m batches (run_at s)).entries left
  ended s batches left is =
      let r = run_at s in
      let last = run_with_batches m batches r in
      let leads = batches_lead setting node terms port found batches r in
      record {
        steps = leads.steps;
        kept = [];
        of_one = leads.of_one;
        clear = leads.clear;
        are = steps_append setting node (at_run setting node terms port found r) leads.steps (Ends [] ∷ []) leads.are
            (subst (λ p. AreSteps setting node p (Ends [] ∷ [])) (sym leads.ends) (([], refl), tt));
        ends = end_append setting node (at_run setting node terms port found r) leads.steps (Ends [] ∷ [])
            ∙ ap (λ p. place_in_end setting node p (Ends [] ∷ [])) leads.ends
            ∙ ap (λ c. Closed (store_under terms.seats c found)) (sym is);
        recorded = sym leads.entries;
      }

  -- a fault of the node in the last batch
  failed : (s : NodeState) (before : List (List Receipt)) (last : List Receipt) (left : Content)
      → let run = run_with_batches m before (run_at s) in
      IsAmong m run (events_of_turns port run.tally.received last) left
      → Goes setting node terms port found s (run_with_receipts last run).entries left
  failed s before last left among =
      let r = run_at s in
      let run = run_with_batches m before r in
      let leads = batches_lead setting node terms port found before r in
      let s1 = idle terms port found run.node run.tally.received in
      let events = events_of_turns port run.tally.received last in
      let kept = take among.count events in
      let t = takes setting node (heard_all s1 last) kept run refl in
      let heard = hearings last in
      let end = Ends kept ∷ [] in
      let tail = heard ++ end in
      let first = at_run setting node terms port found r in
      let split : events ≡ kept ++ drop among.count events = sym (take-append-drop among.count events) in
      let content : (live_taken setting node (heard_all s1 last) kept).state.content ≡ left = ap (λ (z : Live). z.state.content) t.live ∙ sym among.is in
      let tail_are : AreSteps setting node (Open s1) tail =
      steps_append setting node (Open s1) heard end (hears setting node s1 last refl)
      (subst (λ p. AreSteps setting node p end) (sym (hears_end setting node s1 last)) ((drop among.count events, split), tt)) in
      let tail_ends : place_in_end setting node (Open s1) tail ≡ Closed (store_under terms.seats left found) =
      end_append setting node (Open s1) heard end
      ∙ ap (λ p. place_in_end setting node p end) (hears_end setting node s1 last)
      ∙ ap (λ (z : Live). Closed (store_under z.terms.seats z.state.content z.found)) t.live
      ∙ ap (λ c. Closed (store_under terms.seats c found)) (sym among.is) in
      record {
        steps = leads.steps ++ heard;
        kept = kept;
        of_one = process_append leads.steps heard leads.of_one (hears_one last);
        clear = cleared_append leads.steps heard ∙ ap (λ l. l ++ cleared_in heard) leads.clear ∙ hears_clear last;
        are = subst (λ l. AreSteps setting node first l) (sym (append_assoc leads.steps heard end))
            (steps_append setting node first leads.steps tail leads.are (subst (λ p. AreSteps setting node p tail) (sym leads.ends) tail_are));
        ends = ap (place_in_end setting node first) (append_assoc leads.steps heard end)
            ∙ end_append setting node first leads.steps tail
            ∙ ap (λ p. place_in_end setting node p tail) leads.ends
            ∙ tail_ends;
        recorded = entries_append port leads.steps heard
            ∙ ap (λ l. entries_of_steps port leads.steps ++ l) (hears_entries port last)
            ∙ ap (λ l. l ++ map entry_of last) (sym leads.entries)
            ∙ sym (receipts_entries last run);
      }

-- ---- a call

pub grown : (first : Option (List PortEvent)) (entries added : List PortEvent) → Grows first (Some entries) added → Adds first entries added
grown None entries added grows = absurd (none-some entries grows)
grown (Some before) entries added grows = record { before = before; first_is = refl; joined = same_Some (before ++ added) entries grows }

-- what a call added to the port's record
pub record Called (setting : Setting) (node : ℕ) (terms : Terms) (port : List ℕ) (found : Store) (s : NodeState) (first : Option (List PortEvent)) (entries : List PortEvent) (left : Content) : Type 0 where
  pub added : List PortEvent
  pub adds : Adds first entries added
  pub goes : Goes setting node terms port found s added left

module _ {S : Type 0} (held : S → Held) (old new : Hosted S) (first : Option (List PortEvent)) (entries : List PortEvent) (asked told : Option (List (Option ℕ))) (turns : ℕ)
    (setting : Setting) (node : ℕ) (terms : Terms) (port : List ℕ) (found : Store) (same : member_of old ≡ member_at setting terms port node) where
  stood : (batches : List (List Receipt)) (content : Content) → StandsAt held first new (Some entries) (run_over held old batches) → content ≡ (state_of held new).content → Called setting node terms port found (state_of held old) first entries content
  stood batches content stands left =
      let s = state_of held old in
      let over : run_over held old batches ≡ run_with_batches (member_at setting terms port node) batches (run_at s) = ap (λ z. run_with_batches z batches (run_at s)) same in
      let whole = ended setting node terms port found s batches content (left ∙ ap (λ (z : NodeState). z.content) stands.state ∙ ap (λ (z : Run). z.node.content) over) in
      record {
        added = (run_over held old batches).entries;
        adds = grown first entries (run_over held old batches).entries stands.entries;
        goes = subst (λ l. Goes setting node terms port found s l content) (ap (λ (z : Run). z.entries) (sym over)) whole;
      }

  pub called : (result : Result Served ServeFault) (content : Content) → IsSettled (held old.store) → ServesTurns held old new first (Some entries) asked told turns result → (held new.store).is_clean → (held new.store).leaves content
      → Called setting node terms port found (state_of held old) first entries content
  called (Ok served) content settled s clean leaves = stood s.batches content (s.exact clean).0 (s.settled clean settled content leaves)
  called (Err Port) content settled s clean leaves = stood s.batches content (s.exact clean).0 (s.settled clean settled content leaves)
  called (Err Clock) content settled s clean leaves = stood s.batches content (s.exact clean).0 (s.settled clean settled content leaves)
  called (Err (Node fault)) content settled s clean leaves =
      let f = s.exact clean in
      let z = state_of held old in
      let here = member_at setting terms port node in
      let key : old.key ≡ port = ap (λ (x : Member). x.key) same in
      let among = f.left settled content leaves in
      let run = run_with_batches here f.before (run_at z) in
      let over : run_over held old f.before ≡ run = ap (λ x. run_with_batches x f.before (run_at z)) same in
      let there : IsAmong here run (events_of_turns port run.tally.received f.last) content =
      subst (λ (x : Run). IsAmong here x (events_of_turns port x.tally.received f.last) content) over
      (subst (λ k. IsAmong here (run_over held old f.before) (events_of_turns k (run_over held old f.before).tally.received f.last) content) key
      (subst (λ x. IsAmong x (run_over held old f.before) (events_of_turns old.key (run_over held old f.before).tally.received f.last) content) same among)) in
      let whole = failed setting node terms port found z f.before f.last content there in
      record {
        added = (run_with_receipts f.last (run_over held old f.before)).entries;
        adds = grown first entries _ f.fails.kept;
        goes = subst (λ l. Goes setting node terms port found z l content) (ap (λ (x : Run). (run_with_receipts f.last x).entries) (sym over)) whole;
      }

-- ---- from the opening

pub from_start : (setting : Setting) (node : ℕ) (terms : Terms) (port : List ℕ) (found : Store) (entries : List PortEvent) (left : Content) → AreSteps setting node (Closed found) (Starts terms port ∷ [])
    → Goes setting node terms port found (opened_node (seen_in found terms.seats)) entries left → HasSteps setting node terms port found [] entries left
from_start setting node terms port found entries left start g = record { steps = g.steps; kept = g.kept; of_one = g.of_one; are = (start.0, g.are); ends = g.ends; recorded = g.recorded; cleared = g.clear }

pub has_steps : {S : Type 0} (held : S → Held) (setting : Setting) (node : ℕ) (terms : Terms) (port : List ℕ) (found : Store) (store : SeatedRecord S) (old new : Hosted (SeatedRecord S)) (entries : List PortEvent)
    (asked told : Option (List (Option ℕ))) (turns : ℕ) (result : Result Served ServeFault) (content : Content)
    → IsSeatedMember held setting node terms port found store old → IsOpened (seated_held held) store old → (seated_held held old.store).is_clean → IsCount (seated_held held old.store).content.boot
    → ServesTurns (seated_held held) old new (Some []) (Some entries) asked told turns result → (seated_held held new.store).is_clean → (seated_held held new.store).leaves content
    → HasSteps setting node terms port found [] entries content
has_steps held setting node terms port found store old new entries asked told turns result content member o begins count s clean leaves =
    let b = begins_at held setting node terms port found store old member o begins count in
    let w = called (seated_held held) old new (Some []) entries asked told turns setting node terms port found (same_member held setting node terms port found store old member) result content (o.raises.writes.settled begins) s clean leaves in
    let all : w.added ≡ entries = ap (λ l. l ++ w.added) (same_Some [] w.adds.before w.adds.first_is) ∙ w.adds.joined in
    from_start setting node terms port found entries content ((member.fits, b.boot), tt)
    (subst (λ l. Goes setting node terms port found (opened_node (seen_in found terms.seats)) l content) all
    (subst (λ z. Goes setting node terms port found z w.added content) b.state w.goes))

-- Stretches of turns with acts for operators between them are steps with pauses.
use Rattle.std.proofs.Common.{◌≡◌, ℕ, ◌⊎◌, inl, inr, ⊎_elim, List, [], ◌∷◌, ◌++◌, length, Option, Some, true, refl, sym, ap, ◌∙◌, subst}
use Rattle.std.specs.Prelude.{Result, Ok, Err}
use Rattle.std.proofs.lemmas.List.{append-nil, append_assoc, length-map}
use Rattle.std.proofs.lemmas.Option.{same_Some}
use Rattle.floor_store.specs.Content.{Content}
use Rattle.floor_store.specs.Held.{Held, IsSettled}
use Rattle.floor_store.specs.Range.{IsCount}
use Rattle.datagram_port.specs.Port.{PortEvent}
use Rattle.seated_store.specs.Seated.{SeatedRecord, seated_held}
use Rattle.oath_node.specs.Calls.{IsOpened}
use Rattle.oath_node.specs.Hosted.{Hosted, state_of}
use Rattle.oath_node.specs.Machine.{NodeEvent, NodeState}
use Rattle.oath_node.specs.TurnServing.{Serves as ServesTurns, run_over}
use Rattle.oath_node.specs.Turns.{Member, Run, events_of_turns, member_of, receives_in, run_at, run_with_batches}
use Rattle.oath_node.specs.declared.fault.NodeFault.{NodeFault}
use Rattle.oath_node.specs.declared.serve_fault.ServeFault.{ServeFault}
use Rattle.oath_node.specs.declared.turns.Served.{Served}
use Rattle.book_law.specs.Lives.{Setting, Store, Terms, do_fit, places_of, store_under}
use Rattle.book_law.specs.Stretches.{ActsAs, AreServed, Stretch, token_cleared, tokens_cleared}
use Rattle.book_law.specs.Uses.{IsSeatedMember, member_at, state_cleared}
use Rattle.book_law.proofs.Served.{Begins, begins_at, same_member, was_whole}
use Rattle.book_law.proofs.Sizes.{events_size}
use Rattle.book_law.proofs.Stretches.{act_clean, act_stops, acted, cleared_size, first_some, same_parts}
use Rattle.order_law.specs.Steps.{AreOfProcess, AreSteps, Closed, Ends, HasSteps, Open, Pauses, Place, Step, cleared_in, entries_of_steps, place_in_end}
use Rattle.order_law.proofs.Batches.{batches_lead, cleared_append, end_append, entries_append, idle, process_append, steps_append}
use Rattle.order_law.proofs.Served.{called, grown}

tokens_append : {S : Type 0} (terms : Terms) (stretches : List (Stretch S)) (later : List (Option ℕ)) → tokens_cleared terms stretches later ≡ tokens_cleared terms stretches [] ++ later
tokens_append terms [] later = refl
tokens_append terms (stretch ∷ earlier) later =
    let t = token_cleared terms stretch.unlocked in
    let first = tokens_cleared terms earlier [] in
    tokens_append terms earlier (t ∷ later)
    ∙ sym (append_assoc first (t ∷ []) later)
    ∙ ap (λ l. l ++ later) (sym (tokens_append terms earlier (t ∷ [])))

module _ {S : Type 0} (held : S → Held) (setting : Setting) (node : ℕ) (terms : Terms) (port : List ℕ) (found : Store) (fits : do_fit terms found ≡ true) (old : Hosted S)
    (own_member : member_of old ≡ member_at setting terms port node) (own_size : length (held old.store).content.rows ≡ length terms.seats) (own_settled : IsSettled (held old.store)) where
  abbrev here : Member
  here = member_at setting terms port node

  abbrev idle_at : NodeState → ℕ → Place
  idle_at s received = Open (idle terms port found s received)

  -- a node that is settled, of the member, and of its size
  record Fine (now : Hosted S) : Type 0 where
    settled : IsSettled (held now.store)
    member : member_of now ≡ here
    size : length (held now.store).content.rows ≡ length terms.seats

  -- steps from one machine to another, between two batches
  record Reaches (from to : NodeState) (received : ℕ) (tokens : List (Option ℕ)) (entries : List PortEvent) : Type 0 where
    steps : List Step
    of_one : AreOfProcess steps
    are : AreSteps setting node (idle_at from 0) steps
    ends : place_in_end setting node (idle_at from 0) steps ≡ idle_at to received
    recorded : entries_of_steps port steps ≡ entries
    cleared : cleared_in steps ≡ tokens

  -- a pause after steps
  paused : (from to : NodeState) (received : ℕ) (tokens : List (Option ℕ)) (entries : List PortEvent) (token : Option ℕ) → Reaches from to received tokens entries
      → Reaches from (state_cleared terms token to) 0 (tokens ++ token ∷ []) entries
  paused from to received tokens entries token r =
      let pause = Pauses token ∷ [] in
      record {
        steps = r.steps ++ pause;
        of_one = process_append r.steps pause r.of_one (tt, tt);
        are = steps_append setting node (idle_at from 0) r.steps pause r.are (subst (λ p. AreSteps setting node p pause) (sym r.ends) ((refl, refl), tt));
        ends = end_append setting node (idle_at from 0) r.steps pause ∙ ap (λ p. place_in_end setting node p pause) r.ends;
        recorded = entries_append port r.steps pause ∙ append-nil (entries_of_steps port r.steps) ∙ r.recorded;
        cleared = cleared_append r.steps pause ∙ ap (λ l. l ++ token ∷ []) r.cleared;
      }

  -- steps after a pause
  both : (from mid to : NodeState) (received : ℕ) (one other : List (Option ℕ)) (xs ys : List PortEvent) → Reaches from mid 0 one xs → Reaches mid to received other ys → Reaches from to received (one ++ other) (xs ++ ys)
  both from mid to received one other xs ys a b = record {
    steps = a.steps ++ b.steps;
    of_one = process_append a.steps b.steps a.of_one b.of_one;
    are = steps_append setting node (idle_at from 0) a.steps b.steps a.are (subst (λ p. AreSteps setting node p b.steps) (sym a.ends) b.are);
    ends = end_append setting node (idle_at from 0) a.steps b.steps ∙ ap (λ p. place_in_end setting node p b.steps) a.ends ∙ b.ends;
    recorded = entries_append port a.steps b.steps ∙ ap (λ l. l ++ entries_of_steps port b.steps) a.recorded ∙ ap (λ l. xs ++ l) b.recorded;
    cleared = cleared_append a.steps b.steps ∙ ap (λ l. l ++ cleared_in b.steps) a.cleared ∙ ap (λ l. one ++ l) b.cleared;
  }

  -- the node after a stretch
  record Stood (from stood : Hosted S) (entries before : List PortEvent) : Type 0 where
    fine : Fine stood
    received : ℕ
    added : List PortEvent
    reaches : Reaches (state_of held from) (state_of held stood) received [] added
    joined : before ++ added ≡ entries

  stood_at : (from stood : Hosted S) (first : Option (List PortEvent)) (entries before : List PortEvent) (asked told : Option (List (Option ℕ))) (turns : ℕ) (served : Served)
      → ServesTurns held from stood first (Some entries) asked told turns (Ok served) → (held stood.store).is_clean → first ≡ Some before → Fine from → Stood from stood entries before
  stood_at from stood first entries before asked told turns served s clean is f =
      let w = was_whole held from stood first entries asked told turns served s clean in
      let e = s.exact clean in
      let r0 = run_at (state_of held from) in
      let last = run_with_batches here s.batches r0 in
      let over : run_over held from s.batches ≡ last = ap (λ m. run_with_batches m s.batches r0) f.member in
      let leads = batches_lead setting node terms port found s.batches r0 in
      let added = (run_over held from s.batches).entries in
      let a = grown first entries added e.0.entries in
      let node_is : last.node ≡ state_of held stood = ap (λ (z : Run). z.node) (sym over) ∙ sym e.0.state in
      record {
        fine = record {
          settled = s.settled clean f.settled;
          member = same_parts from stood s.same ∙ f.member;
          size = ap (λ (z : NodeState). length z.content.rows) w.node ∙ events_size (member_of from) (events_of_turns from.key 0 w.receipts) (run_at (state_of held from)) ∙ f.size;
        };
        received = last.tally.received;
        added = added;
        reaches = record {
          steps = leads.steps;
          of_one = leads.of_one;
          are = leads.are;
          ends = leads.ends ∙ ap (λ z. idle_at z last.tally.received) node_is;
          recorded = sym leads.entries ∙ ap (λ (z : Run). z.entries) (sym over);
          cleared = leads.clear;
        };
        joined = ap (λ l. l ++ added) (same_Some before a.before (sym is ∙ a.first_is)) ∙ a.joined;
      }

  -- the node after the stretches
  record Chain (stretches : List (Stretch S)) (now : Hosted S) (before : List PortEvent) : Type 0 where
    fine : Fine now
    reaches : Reaches (state_of held old) (state_of held now) 0 (tokens_cleared terms stretches []) before

  chain : (stretches : List (Stretch S)) (now : Hosted S) (entries : List PortEvent) → AreServed held old (Some []) stretches now (Some entries) → Chain stretches now entries
  chain [] now entries are =
      let same : now ≡ old = are.0 in
      let none : [] ≡ entries = sym (same_Some entries [] are.1) in
      record {
        fine = record {
          settled = subst (λ (n : Hosted S). IsSettled (held n.store)) (sym same) own_settled;
          member = ap member_of same ∙ own_member;
          size = ap (λ (n : Hosted S). length (held n.store).content.rows) same ∙ own_size;
        };
        reaches = record { steps = []; of_one = tt; are = tt; ends = ap (λ (n : Hosted S). idle_at (state_of held n) 0) (sym same); recorded = none; cleared = refl };
      }
  chain (stretch ∷ earlier) now entries are =
      let stands = act_clean held terms found fits stretch.stood now stretch.unlocked (Ok true) are.2 are.3 in
      let first = first_some stretch.first (receives_in entries) _ are.1.receives in
      let c = chain earlier stretch.from first.0 (subst (λ f. AreServed held old (Some []) earlier stretch.from f) first.1 are.0) in
      let t = stood_at stretch.from stretch.stood stretch.first entries first.0 stretch.asked stretch.told stretch.turns stretch.served are.1 stands first.1 c.fine in
      let a = acted held terms found fits stretch.stood now stretch.unlocked are.2 are.3 t.fine.settled t.fine.size in
      let token = token_cleared terms stretch.unlocked in
      let end = state_of held stretch.stood in
      let whole = both (state_of held old) (state_of held stretch.from) end t.received (tokens_cleared terms earlier []) [] first.0 t.added c.reaches t.reaches in
      let after = paused (state_of held old) end t.received (tokens_cleared terms earlier [] ++ []) (first.0 ++ t.added) token whole in
      record {
        fine = record {
          settled = a.settled;
          member = a.member ∙ t.fine.member;
          size = ap (λ (z : NodeState). length z.content.rows) a.state ∙ cleared_size terms token end ∙ t.fine.size;
        };
        reaches = record {
          steps = after.steps;
          of_one = after.of_one;
          are = after.are;
          ends = after.ends ∙ ap (λ z. idle_at z 0) (sym a.state);
          recorded = after.recorded ∙ t.joined;
          cleared = after.cleared ∙ ap (λ l. l ++ token ∷ []) (append-nil (tokens_cleared terms earlier [])) ∙ sym (tokens_append terms earlier (token ∷ []));
        };
      }

  -- ---- at the end

  -- steps with an end
  pub record Over (tokens : List (Option ℕ)) (entries : List PortEvent) (left : Content) : Type 0 where
    pub steps : List Step
    pub kept : List NodeEvent
    pub of_one : AreOfProcess steps
    pub are : AreSteps setting node (idle_at (state_of held old) 0) (steps ++ Ends kept ∷ [])
    pub ends : place_in_end setting node (idle_at (state_of held old) 0) (steps ++ Ends kept ∷ []) ≡ Closed (store_under terms.seats left found)
    pub recorded : entries_of_steps port steps ≡ entries
    pub cleared : cleared_in steps ≡ tokens

  stops : (to : NodeState) (received : ℕ) (tokens : List (Option ℕ)) (entries : List PortEvent) (left : Content) → Reaches (state_of held old) to received tokens entries → left ≡ to.content → Over tokens entries left
  stops to received tokens entries left r is =
      let end = Ends [] ∷ [] in
      let start = idle_at (state_of held old) 0 in
      record {
        steps = r.steps;
        kept = [];
        of_one = r.of_one;
        are = steps_append setting node start r.steps end r.are (subst (λ p. AreSteps setting node p end) (sym r.ends) (([], refl), tt));
        ends = end_append setting node start r.steps end ∙ ap (λ p. place_in_end setting node p end) r.ends ∙ ap (λ c. Closed (store_under terms.seats c found)) (sym is);
        recorded = r.recorded;
        cleared = r.cleared;
      }

  pub after_turns : (stretches : List (Stretch S)) (from new : Hosted S) (first : Option (List PortEvent)) (entries : List PortEvent) (asked told : Option (List (Option ℕ))) (turns : ℕ) (result : Result Served ServeFault) (content : Content)
      → AreServed held old (Some []) stretches from first → ServesTurns held from new first (Some entries) asked told turns result → (held new.store).is_clean → (held new.store).leaves content
      → Over (tokens_cleared terms stretches []) entries content
  after_turns stretches from new first entries asked told turns result content are s clean leaves =
      let f = first_some first (receives_in entries) _ s.receives in
      let c = chain stretches from f.0 (subst (λ o. AreServed held old (Some []) stretches from o) f.1 are) in
      let w = called held from new first entries asked told turns setting node terms port found c.fine.member result content c.fine.settled s clean leaves in
      let start = idle_at (state_of held old) 0 in
      let g = w.goes in
      let tail = g.steps ++ Ends g.kept ∷ [] in
      let tokens = tokens_cleared terms stretches [] in
      record {
        steps = c.reaches.steps ++ g.steps;
        kept = g.kept;
        of_one = process_append c.reaches.steps g.steps c.reaches.of_one g.of_one;
        are = subst (λ l. AreSteps setting node start l) (sym (append_assoc c.reaches.steps g.steps (Ends g.kept ∷ [])))
            (steps_append setting node start c.reaches.steps tail c.reaches.are (subst (λ p. AreSteps setting node p tail) (sym c.reaches.ends) g.are));
        ends = ap (place_in_end setting node start) (append_assoc c.reaches.steps g.steps (Ends g.kept ∷ []))
            ∙ end_append setting node start c.reaches.steps tail ∙ ap (λ p. place_in_end setting node p tail) c.reaches.ends ∙ g.ends;
        recorded = entries_append port c.reaches.steps g.steps
            ∙ ap (λ l. l ++ entries_of_steps port g.steps) c.reaches.recorded
            ∙ ap (λ l. f.0 ++ l) g.recorded
            ∙ ap (λ l. l ++ w.added) (same_Some f.0 w.adds.before (sym f.1 ∙ w.adds.first_is))
            ∙ w.adds.joined;
        cleared = cleared_append c.reaches.steps g.steps ∙ ap (λ l. l ++ cleared_in g.steps) c.reaches.cleared ∙ ap (λ l. tokens ++ l) g.clear ∙ append-nil tokens;
      }

  pub after_act : (stretches : List (Stretch S)) (from stood new : Hosted S) (first : Option (List PortEvent)) (entries : List PortEvent) (asked told : Option (List (Option ℕ))) (turns : ℕ) (served : Served) (unlocked : Option ℕ) (fault : NodeFault)
      (content : Content) → AreServed held old (Some []) stretches from first → ServesTurns held from stood first (Some entries) asked told turns (Ok served) → ActsAs held unlocked stood new (Err fault)
      → (held new.store).is_clean → (held new.store).leaves content
      → Over (tokens_cleared terms stretches []) entries content ⊎ Over (tokens_cleared terms stretches (token_cleared terms unlocked ∷ [])) entries content
  after_act stretches from stood new first entries asked told turns served unlocked fault content are s acts clean leaves =
      let f = first_some first (receives_in entries) _ s.receives in
      let c = chain stretches from f.0 (subst (λ o. AreServed held old (Some []) stretches from o) f.1 are) in
      let t = stood_at from stood first entries f.0 asked told turns served s (act_clean held terms found fits stood new unlocked (Err fault) acts clean) f.1 c.fine in
      let token = token_cleared terms unlocked in
      let end = state_of held stood in
      let tokens = tokens_cleared terms stretches [] in
      let whole = both (state_of held old) (state_of held from) end t.received tokens [] f.0 t.added c.reaches t.reaches in
      let more = paused (state_of held old) end t.received (tokens ++ []) (f.0 ++ t.added) token whole in
      ⊎_elim
      (λ (is : content ≡ (held stood.store).content).
      inl (subst (λ l. Over l entries content) (append-nil tokens) (subst (λ l. Over (tokens ++ []) l content) t.joined (stops end t.received (tokens ++ []) (f.0 ++ t.added) content whole is))))
      (λ (is : content ≡ (state_cleared terms token end).content).
      inr (subst (λ l. Over l entries content) (ap (λ l. l ++ token ∷ []) (append-nil tokens) ∙ sym (tokens_append terms stretches (token ∷ [])))
      (subst (λ l. Over ((tokens ++ []) ++ token ∷ []) l content) t.joined (stops (state_cleared terms token end) 0 ((tokens ++ []) ++ token ∷ []) (f.0 ++ t.added) content more is))))
      (act_stops held terms found fits stood new unlocked fault content acts clean t.fine.settled t.fine.size leaves)

-- ---- over a seated store

module _ {S : Type 0} (held : S → Held) (setting : Setting) (node : ℕ) (terms : Terms) (port : List ℕ) (found : Store) (store : SeatedRecord S) (old : Hosted (SeatedRecord S)) (m : IsSeatedMember held setting node terms port found store old)
    (o : IsOpened (seated_held held) store old) (begins : (seated_held held old.store).is_clean) (count : IsCount (seated_held held old.store).content.boot) where
  abbrev view : SeatedRecord S → Held
  view = seated_held held

  same : member_of old ≡ member_at setting terms port node
  same = same_member held setting node terms port found store old m

  first_machine : Begins terms found (state_of view old)
  first_machine = begins_at held setting node terms port found store old m o begins count

  size : length (view old.store).content.rows ≡ length terms.seats
  size = ap (λ (z : NodeState). length z.content.rows) first_machine.state ∙ length-map (places_of found terms.seats) _ ∙ length-map terms.seats _

  settled : IsSettled (view old.store)
  settled = o.raises.writes.settled begins

  has : (tokens : List (Option ℕ)) (entries : List PortEvent) (left : Content) → Over view setting node terms port found m.fits old same size settled tokens entries left → HasSteps setting node terms port found tokens entries left
  has tokens entries left v = record {
    steps = v.steps;
    kept = v.kept;
    of_one = v.of_one;
    are = ((m.fits, first_machine.boot), subst (λ z. AreSteps setting node (Open (idle terms port found z 0)) (v.steps ++ Ends v.kept ∷ [])) first_machine.state v.are);
    ends = ap (λ z. place_in_end setting node (Open (idle terms port found z 0)) (v.steps ++ Ends v.kept ∷ [])) (sym first_machine.state) ∙ v.ends;
    recorded = v.recorded;
    cleared = v.cleared;
  }

  pub turns_end : (stretches : List (Stretch (SeatedRecord S))) (from new : Hosted (SeatedRecord S)) (kept : Option (List PortEvent)) (entries : List PortEvent) (asked told : Option (List (Option ℕ))) (turns : ℕ) (result : Result Served ServeFault) (content : Content)
      → AreServed view old (Some []) stretches from kept → ServesTurns view from new kept (Some entries) asked told turns result → (view new.store).is_clean → (view new.store).leaves content
      → HasSteps setting node terms port found (tokens_cleared terms stretches []) entries content
  turns_end stretches from new kept entries asked told turns result content are s clean leaves =
      has (tokens_cleared terms stretches []) entries content (after_turns view setting node terms port found m.fits old same size settled stretches from new kept entries asked told turns result content are s clean leaves)

  pub act_fails : (stretches : List (Stretch (SeatedRecord S))) (from stood new : Hosted (SeatedRecord S)) (kept : Option (List PortEvent)) (entries : List PortEvent) (asked told : Option (List (Option ℕ))) (turns : ℕ) (served : Served)
      (unlocked : Option ℕ) (fault : NodeFault) (content : Content)
      → AreServed view old (Some []) stretches from kept → ServesTurns view from stood kept (Some entries) asked told turns (Ok served) → ActsAs view unlocked stood new (Err fault) → (view new.store).is_clean → (view new.store).leaves content
      → HasSteps setting node terms port found (tokens_cleared terms stretches []) entries content
      ⊎ HasSteps setting node terms port found (tokens_cleared terms stretches (token_cleared terms unlocked ∷ [])) entries content
  act_fails stretches from stood new kept entries asked told turns served unlocked fault content are s acts clean leaves =
      ⊎_elim (λ v. inl (has (tokens_cleared terms stretches []) entries content v)) (λ v. inr (has (tokens_cleared terms stretches (token_cleared terms unlocked ∷ [])) entries content v))
      (after_act view setting node terms port found m.fits old same size settled stretches from stood new kept entries asked told turns served unlocked fault content are s acts clean leaves)

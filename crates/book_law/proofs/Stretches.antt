-- Stretches of turns with acts for operators between them are a process in parts.
use Rattle.std.proofs.Common.{◌≡◌, ℕ, ◌≤◌, ◌<◌, ◌⊎◌, inl, inr, ⊎_elim, Bool, true, false, List, [], ◌∷◌, ◌++◌, length, map, Option, Some, None, refl, sym, ap, ◌∙◌, subst, get_or}
use Rattle.std.specs.Prelude.{IfErr, Result, Ok, Err, option_map}
use Rattle.std.specs.List.{slice_get}
use Rattle.std.proofs.lemmas.Bool.{cases_Bool}
use Rattle.std.proofs.lemmas.List.{append-nil, append_assoc, length-map, set_past}
use Rattle.std.proofs.lemmas.Option.{none-some, same_Some, slice_get_cases}
use Rattle.otp_core.specs.Gate.{clear_gate}
use Rattle.floor_store.specs.Content.{Content}
use Rattle.floor_store.specs.Held.{Held, IsSettled}
use Rattle.floor_store.specs.Range.{IsCount}
use Rattle.floor_store.specs.Records.{RowRecord}
use Rattle.datagram_port.specs.Port.{Grows, PortEvent}
use Rattle.seated_store.specs.Seated.{SeatedRecord, seated_held}
use Rattle.vote_core.specs.Rows.{row, row_with_gate}
use Rattle.vote_core.proofs.Basics.{put_size}
use Rattle.oath_node.specs.Calls.{FailsToCommit, IsOpened}
use Rattle.oath_node.specs.Hosted.{Hosted, IsSameNode, state_of}
use Rattle.oath_node.specs.Machine.{NodeState}
use Rattle.oath_node.specs.TurnServing.{Serves as ServesTurns}
use Rattle.oath_node.specs.Turns.{Member, events_of_turns, member_of, offers_in, receives_in, run_at}
use Rattle.oath_node.specs.Unlocking.{unlocked_node}
use Rattle.oath_node.specs.declared.fault.NodeFault.{NodeFault}
use Rattle.oath_node.specs.declared.serve_fault.ServeFault.{ServeFault}
use Rattle.oath_node.specs.declared.turns.Served.{Served}
use Rattle.book_law.specs.Lives.{Setting, Store, Terms, do_fit, number_to_unlock, places_of, state_unlocked}
use Rattle.book_law.specs.Stretches.{ActsAs, AreServed, Stretch, token_cleared, tokens_cleared}
use Rattle.book_law.specs.Uses.{AreLeftOut, AreParts, IsPart, IsSeatedMember, Part, WasProcessIn, entries_in, member_at, state_after_part, state_cleared}
use Rattle.book_law.proofs.Operators.{number_of_seat}
use Rattle.book_law.proofs.Served.{Adds, Begins, WasCall, WasWhole, begins_at, same_member, was_call, was_whole}
use Rattle.book_law.proofs.Sizes.{events_size}

-- ---- the clearing of a gate

pub cleared_size : (terms : Terms) (o : Option ℕ) (s : NodeState) → length (state_cleared terms o s).content.rows ≡ length s.content.rows
cleared_size terms None s = refl
cleared_size terms (Some t) s = unlocked_size (number_to_unlock terms t s)
  where
    unlocked_size : (o : Option ℕ) → length (state_unlocked o s).content.rows ≡ length s.content.rows
    unlocked_size None = refl
    unlocked_size (Some k) = put_size s.content k (row_with_gate clear_gate (row s.content k)) None

-- the machine of a node that unlocked the number, also if it is none of its rows
cleared_number : (terms : Terms) (found : Store) → do_fit terms found ≡ true → (number : ℕ) (s : NodeState) → s.running ≡ true → length s.content.rows ≡ length terms.seats
    → state_cleared terms (token_cleared terms (Some number)) s ≡ unlocked_node number s
cleared_number terms found fits number s runs size =
    ⊎_elim
    (λ (p : (t : ℕ) × (number < length terms.seats) × (slice_get terms.seats number ≡ Some t) × (get_or terms.seats number t ≡ t)).
    ap (λ o. state_cleared terms o s) p.2 ∙ ap (λ o. state_unlocked o s) (number_of_seat terms found fits number p.0 p.2 s runs))
    (λ (p : (length terms.seats ≤ number) × (slice_get terms.seats number ≡ None)).
    ap (λ o. state_cleared terms o s) p.1
    ∙ sym (ap (λ (rows : List RowRecord). record s { content = record s.content { rows = rows } })
    (set_past s.content.rows number (row_with_gate clear_gate (row s.content number)) (subst (λ n. n ≤ number) (sym size) p.0))))
    (slice_get_cases terms.seats number).1

-- ---- an act

pub same_parts : {S : Type 0} (old new : Hosted S) → IsSameNode old new → member_of new ≡ member_of old
same_parts old new same =
    ap (λ x. record { config = record { book = x; limits = new.limits }; key = new.key; place = new.voter.place }) same.book
    ∙ ap (λ x. record { config = record { book = old.book; limits = x }; key = new.key; place = new.voter.place }) same.limits
    ∙ ap (λ x. record { config = record { book = old.book; limits = old.limits }; key = x; place = new.voter.place }) same.key
    ∙ ap (λ x. record { config = record { book = old.book; limits = old.limits }; key = old.key; place = x }) same.place

module _ {S : Type 0} (held : S → Held) (terms : Terms) (found : Store) (fits : do_fit terms found ≡ true) (stood now : Hosted S) where
  pub act_clean : (unlocked : Option ℕ) (result : Result Bool NodeFault) → ActsAs held unlocked stood now result → (held now.store).is_clean → (held stood.store).is_clean
  act_clean None result (inl reads) clean = reads.keeps.makes.clean clean
  act_clean None result (inr same) clean = subst (λ (n : Hosted S). (held n.store).is_clean) same clean
  act_clean (Some number) result unlocks clean = unlocks.writes.makes.clean clean

  -- the node after an act
  pub record Acted (unlocked : Option ℕ) : Type 0 where
    pub state : state_of held now ≡ state_cleared terms (token_cleared terms unlocked) (state_of held stood)
    pub settled : IsSettled (held now.store)
    pub member : member_of now ≡ member_of stood

  pub acted : (unlocked : Option ℕ) → ActsAs held unlocked stood now (Ok true) → (held now.store).is_clean → IsSettled (held stood.store) → length (held stood.store).content.rows ≡ length terms.seats → Acted unlocked
  acted None (inl reads) clean settled size =
      let same : (held now.store).content ≡ (held stood.store).content = reads.keeps.makes.ok clean in
      record {
        state = reads.state clean;
        settled = λ c leaves.
            ⊎_elim (λ (was : (held stood.store).leaves c). settled c was ∙ sym same) (λ (is : c ≡ (held stood.store).content). is ∙ sym same) (reads.keeps.left c leaves);
        member = same_parts stood now reads.same;
      }
  acted None (inr same) clean settled size = record {
    state = ap (state_of held) same;
    settled = subst (λ (n : Hosted S). IsSettled (held n.store)) (sym same) settled;
    member = ap member_of same;
  }
  acted (Some number) unlocks clean settled size = record {
    state = unlocks.state clean ∙ sym (cleared_number terms found fits number (state_of held stood) unlocks.runs.0 size);
    settled = unlocks.settled clean;
    member = ap member_of unlocks.others;
  }

  -- a stop after an act that failed leaves the content before it, or the act's
  pub act_stops : (unlocked : Option ℕ) (fault : NodeFault) (content : Content) → ActsAs held unlocked stood now (Err fault) → (held now.store).is_clean → IsSettled (held stood.store)
      → length (held stood.store).content.rows ≡ length terms.seats → (held now.store).leaves content
      → (content ≡ (held stood.store).content) ⊎ (content ≡ (state_cleared terms (token_cleared terms unlocked) (state_of held stood)).content)
  act_stops None fault content (inl reads) clean settled size leaves =
      inl (⊎_elim (λ (was : (held stood.store).leaves content). settled content was) (λ (is : content ≡ (held stood.store).content). is) (reads.keeps.left content leaves))
  act_stops None fault content (inr same) clean settled size leaves = inl (settled content (subst (λ (n : Hosted S). (held n.store).leaves content) same leaves))
  act_stops (Some number) fault content unlocks clean settled size leaves =
      ⊎_elim
      (λ (runs : stood.running ≡ true).
      ⊎_elim (λ (was : (held stood.store).leaves content). inl (settled content was))
      (λ (is : content ≡ (unlocked_node number (state_of held stood)).content).
      inr (is ∙ ap (λ (s : NodeState). s.content) (sym (cleared_number terms found fits number (state_of held stood) runs size))))
      (unlocks.writes.left clean content leaves))
      (λ (stopped : stood.running ≡ false).
      let same = (subst (λ r. IfErr r (FailsToCommit held stood now)) (unlocks.stopped.1 stopped) unlocks.fails).1 in
      inl (settled content (subst (λ (n : Hosted S). (held n.store).leaves content) same leaves)))
      (cases_Bool stood.running)

-- ---- parts before the last

none_left : (parts : List Part) → AreLeftOut parts [] []
none_left [] = tt
none_left (part ∷ parts) = (refl, refl)

pub first_some : (first : Option (List PortEvent)) (entries more : List PortEvent) → Grows (option_map receives_in first) (Some entries) more → (before : List PortEvent) × (first ≡ Some before)
first_some None entries more grows = absurd (none-some entries grows)
first_some (Some before) entries more grows = (before, refl)

module _ {S : Type 0} (held : S → Held) (setting : Setting) (node : ℕ) (terms : Terms) (port : List ℕ) (found : Store) (fits : do_fit terms found ≡ true) (old : Hosted S)
    (own_member : member_of old ≡ member_at setting terms port node) (own_size : length (held old.store).content.rows ≡ length terms.seats) (own_settled : IsSettled (held old.store)) where
  abbrev here : Member
  here = member_at setting terms port node

  -- the parts from the start, with the given last ones
  pub record Parts (stretches : List (Stretch S)) (before : List PortEvent) (last : List Part) (left : Content) : Type 0 where
    pub parts : List Part
    pub are : AreParts setting node terms port (state_of held old) parts left
    pub cleared : map (λ (part : Part). part.cleared) parts ≡ tokens_cleared terms stretches (map (λ (part : Part). part.cleared) last)
    pub recorded : entries_in parts ≡ before ++ entries_in last

  -- the node after the stretches, and the parts that lead there
  pub record Chain (stretches : List (Stretch S)) (now : Hosted S) (before : List PortEvent) : Type 0 where
    pub settled : IsSettled (held now.store)
    pub member : member_of now ≡ here
    pub size : length (held now.store).content.rows ≡ length terms.seats
    pub parts : (last : List Part) (left : Content) → AreParts setting node terms port (state_of held now) last left → Parts stretches before last left

  -- a part of whole turns
  abbrev whole_part : (s end : NodeState) (first : Option (List PortEvent)) (entries : List PortEvent) → WasWhole here s end first entries → Option ℕ → Part
  whole_part s end first entries w cleared = record { taken = events_of_turns port 0 w.receipts; entries = w.added; cleared = cleared }

  whole_is : (s end : NodeState) (first : Option (List PortEvent)) (entries : List PortEvent) (w : WasWhole here s end first entries) (cleared : Option ℕ) (last : List Part)
      → IsPart setting node terms port s (whole_part s end first entries w cleared) last
  whole_is s end first entries w cleared last = record {
    receipts = w.receipts;
    received = w.received;
    later = [];
    events = sym (append-nil (events_of_turns port 0 w.receipts));
    rest = [];
    offers = w.offers ∙ sym (append-nil (offers_in w.added));
    left_out = none_left last;
  }

  -- the entries that a stretch added, after the given ones
  joins : (first : Option (List PortEvent)) (entries added before : List PortEvent) → Adds first entries added → first ≡ Some before → before ++ added ≡ entries
  joins first entries added before a is = ap (λ l. l ++ added) (same_Some before a.before (sym is ∙ a.first_is)) ∙ a.joined

  -- the node after a stretch
  record Stood (from stood : Hosted S) (first : Option (List PortEvent)) (entries before : List PortEvent) : Type 0 where
    settled : IsSettled (held stood.store)
    member : member_of stood ≡ here
    size : length (held stood.store).content.rows ≡ length terms.seats
    was : WasWhole here (state_of held from) (state_of held stood) first entries
    joined : before ++ was.added ≡ entries

  stood_at : (earlier : List (Stretch S)) (from stood : Hosted S) (first : Option (List PortEvent)) (entries before : List PortEvent) (asked told : Option (List (Option ℕ))) (turns : ℕ) (served : Served)
      → ServesTurns held from stood first (Some entries) asked told turns (Ok served) → (held stood.store).is_clean → first ≡ Some before → Chain earlier from before → Stood from stood first entries before
  stood_at earlier from stood first entries before asked told turns served s stands first_is c =
      let w = was_whole held from stood first entries asked told turns served s stands in
      let was = subst (λ m. WasWhole m (state_of held from) (state_of held stood) first entries) c.member w in
      record {
        settled = s.settled stands c.settled;
        member = same_parts from stood s.same ∙ c.member;
        size = ap (λ (z : NodeState). length z.content.rows) w.node ∙ events_size (member_of from) (events_of_turns from.key 0 w.receipts) (run_at (state_of held from)) ∙ c.size;
        was = was;
        joined = joins first entries was.added before was.adds first_is;
      }

  -- the chain with one stretch and its act more
  chain_more : (stretch : Stretch S) (earlier : List (Stretch S)) (now : Hosted S) (before entries : List PortEvent) → Chain earlier stretch.from before → Stood stretch.from stretch.stood stretch.first entries before
      → Acted held terms found fits stretch.stood now stretch.unlocked → Chain (stretch ∷ earlier) now entries
  chain_more stretch earlier now before entries c t a =
      let s = state_of held stretch.from in
      let end = state_of held stretch.stood in
      let token = token_cleared terms stretch.unlocked in
      let part = whole_part s end stretch.first entries t.was token in
      let state : state_of held now ≡ state_after_part setting node terms port s part = a.state ∙ ap (state_cleared terms token) t.was.node in
      record {
        settled = a.settled;
        member = a.member ∙ t.member;
        size = ap (λ (z : NodeState). length z.content.rows) a.state ∙ cleared_size terms token end ∙ t.size;
        parts = λ last left are.
            let r = c.parts (part ∷ last) left (whole_is s end stretch.first entries t.was token last, subst (λ z. AreParts setting node terms port z last left) state are) in
            record {
              parts = r.parts;
              are = r.are;
              cleared = r.cleared;
              recorded = r.recorded ∙ sym (append_assoc before t.was.added (entries_in last)) ∙ ap (λ l. l ++ entries_in last) t.joined;
            };
      }

  chain : (stretches : List (Stretch S)) (now : Hosted S) (entries : List PortEvent) → AreServed held old (Some []) stretches now (Some entries) → Chain stretches now entries
  chain [] now entries are =
      let same : now ≡ old = are.0 in
      record {
        settled = subst (λ (n : Hosted S). IsSettled (held n.store)) (sym same) own_settled;
        member = ap member_of same ∙ own_member;
        size = ap (λ (n : Hosted S). length (held n.store).content.rows) same ∙ own_size;
        parts = λ last left are_last. record {
          parts = last;
          are = subst (λ (n : Hosted S). AreParts setting node terms port (state_of held n) last left) same are_last;
          cleared = refl;
          recorded = ap (λ l. l ++ entries_in last) (sym (same_Some entries [] are.1));
        };
      }
  chain (stretch ∷ earlier) now entries are =
      let stands = act_clean held terms found fits stretch.stood now stretch.unlocked (Ok true) are.2 are.3 in
      let first = first_some stretch.first (receives_in entries) _ are.1.receives in
      let c = chain earlier stretch.from first.0 (subst (λ f. AreServed held old (Some []) earlier stretch.from f) first.1 are.0) in
      let t = stood_at earlier stretch.from stretch.stood stretch.first entries first.0 stretch.asked stretch.told stretch.turns stretch.served are.1 stands first.1 c in
      chain_more stretch earlier now first.0 entries c t (acted held terms found fits stretch.stood now stretch.unlocked are.2 are.3 t.settled t.size)

  -- the parts of all stretches and the last run of turns
  abbrev All : List (Option ℕ) → List PortEvent → Content → Type 0
  All tokens entries left = (parts : List Part) × AreParts setting node terms port (state_of held old) parts left × (map (λ (part : Part). part.cleared) parts ≡ tokens) × (entries_in parts ≡ entries)

  with_last : (stretches : List (Stretch S)) (now : Hosted S) (before entries : List PortEvent) (part : Part) (left : Content) → Chain stretches now before → before ++ part.entries ≡ entries
      → AreParts setting node terms port (state_of held now) (part ∷ []) left → All (tokens_cleared terms stretches (part.cleared ∷ [])) entries left
  with_last stretches now before entries part left c joined are =
      let r = c.parts (part ∷ []) left are in
      (r.parts, r.are, r.cleared, r.recorded ∙ ap (λ l. before ++ l) (append-nil part.entries) ∙ joined)

  -- at whichever end of the last turns
  pub after_turns : (stretches : List (Stretch S)) (from new : Hosted S) (first : Option (List PortEvent)) (entries : List PortEvent) (asked told : Option (List (Option ℕ))) (turns : ℕ) (result : Result Served ServeFault) (content : Content)
      → AreServed held old (Some []) stretches from first → ServesTurns held from new first (Some entries) asked told turns result → (held new.store).is_clean → (held new.store).leaves content
      → All (tokens_cleared terms stretches (None ∷ [])) entries content
  after_turns stretches from new first entries asked told turns result content are s stands leaves =
      let f = first_some first (receives_in entries) _ s.receives in
      let c = chain stretches from f.0 (subst (λ o. AreServed held old (Some []) stretches from o) f.1 are) in
      let w = subst (λ m. WasCall m (state_of held from) first entries content) c.member (was_call held from new first entries asked told turns result content c.settled s stands leaves) in
      let part : Part = record { taken = w.run.taken; entries = w.added; cleared = None } in
      let is : IsPart setting node terms port (state_of held from) part [] = record {
        receipts = w.run.receipts;
        received = w.run.received;
        later = w.run.later;
        events = w.run.events;
        rest = w.run.rest;
        offers = w.run.offers;
        left_out = tt;
      } in
      with_last stretches from f.0 entries part content c (joins first entries w.added f.0 w.adds f.1) (is, w.run.leaves)

  -- after an act that failed
  pub after_act : (stretches : List (Stretch S)) (from stood new : Hosted S) (first : Option (List PortEvent)) (entries : List PortEvent) (asked told : Option (List (Option ℕ))) (turns : ℕ) (served : Served) (unlocked : Option ℕ) (fault : NodeFault)
      (content : Content) → AreServed held old (Some []) stretches from first → ServesTurns held from stood first (Some entries) asked told turns (Ok served) → ActsAs held unlocked stood new (Err fault)
      → (held new.store).is_clean → (held new.store).leaves content
      → All (tokens_cleared terms stretches (None ∷ [])) entries content ⊎ All (tokens_cleared terms stretches (token_cleared terms unlocked ∷ [])) entries content
  after_act stretches from stood new first entries asked told turns served unlocked fault content are s acts stands leaves =
      let f = first_some first (receives_in entries) _ s.receives in
      let c = chain stretches from f.0 (subst (λ o. AreServed held old (Some []) stretches from o) f.1 are) in
      let t = stood_at stretches from stood first entries f.0 asked told turns served s (act_clean held terms found fits stood new unlocked (Err fault) acts stands) f.1 c in
      let before = state_of held from in
      let end = state_of held stood in
      let part : Option ℕ → Part = λ o. whole_part before end first entries t.was o in
      let last : (o : Option ℕ) → content ≡ (state_cleared terms o end).content → All (tokens_cleared terms stretches (o ∷ [])) entries content =
      λ o is. with_last stretches from f.0 entries (part o) content c t.joined
      (whole_is before end first entries t.was o [], ap (λ (z : NodeState). (state_cleared terms o z).content) (sym t.was.node) ∙ sym is) in
      ⊎_elim (λ is. inl (last None is)) (λ is. inr (last (token_cleared terms unlocked) is))
      (act_stops held terms found fits stood new unlocked fault content acts stands t.settled t.size leaves)

-- ---- over a seated store

module _ {S : Type 0} (held : S → Held) (setting : Setting) (node : ℕ) (terms : Terms) (port : List ℕ) (found : Store) (store : SeatedRecord S) (old : Hosted (SeatedRecord S)) (m : IsSeatedMember held setting node terms port found store old)
    (o : IsOpened (seated_held held) store old) (begins : (seated_held held old.store).is_clean) (count : IsCount (seated_held held old.store).content.boot) where
  abbrev view : SeatedRecord S → Held
  view = seated_held held

  same : member_of old ≡ member_at setting terms port node
  same = same_member held setting node terms port found store old m

  first : Begins terms found (state_of view old)
  first = begins_at held setting node terms port found store old m o begins count

  size : length (view old.store).content.rows ≡ length terms.seats
  size = ap (λ (z : NodeState). length z.content.rows) first.state ∙ length-map (places_of found terms.seats) _ ∙ length-map terms.seats _

  settled : IsSettled (view old.store)
  settled = o.raises.writes.settled begins

  was : (tokens : List (Option ℕ)) (entries : List PortEvent) (left : Content) → All view setting node terms port found m.fits old same size settled tokens entries left → WasProcessIn setting node terms port found tokens entries left
  was tokens entries left all = record {
    parts = all.0;
    cleared = all.2;
    recorded = all.3;
    is = record { fits = m.fits; boot = first.boot; are = subst (λ z. AreParts setting node terms port z all.0 left) first.state all.1 };
  }

  pub turns_end : (stretches : List (Stretch (SeatedRecord S))) (from new : Hosted (SeatedRecord S)) (kept : Option (List PortEvent)) (entries : List PortEvent) (asked told : Option (List (Option ℕ))) (turns : ℕ) (result : Result Served ServeFault) (content : Content)
      → AreServed view old (Some []) stretches from kept → ServesTurns view from new kept (Some entries) asked told turns result → (view new.store).is_clean → (view new.store).leaves content
      → WasProcessIn setting node terms port found (tokens_cleared terms stretches (None ∷ [])) entries content
  turns_end stretches from new kept entries asked told turns result content are s stands leaves =
      was (tokens_cleared terms stretches (None ∷ [])) entries content
      (after_turns view setting node terms port found m.fits old same size settled stretches from new kept entries asked told turns result content are s stands leaves)

  pub act_fails : (stretches : List (Stretch (SeatedRecord S))) (from stood new : Hosted (SeatedRecord S)) (kept : Option (List PortEvent)) (entries : List PortEvent) (asked told : Option (List (Option ℕ))) (turns : ℕ) (served : Served)
      (unlocked : Option ℕ) (fault : NodeFault) (content : Content)
      → AreServed view old (Some []) stretches from kept → ServesTurns view from stood kept (Some entries) asked told turns (Ok served) → ActsAs view unlocked stood new (Err fault) → (view new.store).is_clean → (view new.store).leaves content
      → WasProcessIn setting node terms port found (tokens_cleared terms stretches (None ∷ [])) entries content
      ⊎ WasProcessIn setting node terms port found (tokens_cleared terms stretches (token_cleared terms unlocked ∷ [])) entries content
  act_fails stretches from stood new kept entries asked told turns served unlocked fault content are s acts stands leaves =
      ⊎_elim (λ all. inl (was (tokens_cleared terms stretches (None ∷ [])) entries content all)) (λ all. inr (was (tokens_cleared terms stretches (token_cleared terms unlocked ∷ [])) entries content all))
      (after_act view setting node terms port found m.fits old same size settled stretches from stood new kept entries asked told turns served unlocked fault content are s acts stands leaves)

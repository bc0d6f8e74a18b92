-- A process in parts leads from its opening to its stop, and offers what its ports recorded.
use Rattle.std.proofs.Common.{◌≡◌, ℕ, suc, ◌+◌, List, [], ◌∷◌, ◌++◌, length, map, Option, Some, None, refl, sym, ap, ◌∙◌, subst, arith}
use Rattle.std.proofs.lemmas.List.{length-append, length-map, map-append, nil_from_length}
use Rattle.std.proofs.lemmas.List.Elements.{filter-append}
use Rattle.std.specs.Prelude.{not}
use Rattle.floor_store.specs.Content.{Content}
use Rattle.oath_node.specs.Machine.{NodeState, opened_node}
use Rattle.oath_node.specs.Turns.{is_receive, offers_in}
use Rattle.datagram_port.specs.Port.{PortEvent}
use Rattle.book_law.specs.Lives.{Action, OpensGate, Opens, Output, Process, Setting, Stops, Store, Terms, Down, Up, process_opened, seen_in, store_under}
use Rattle.book_law.specs.Uses.{AreOffers, AreParts, HasParts, IsPart, IsProcessIn, OwnOutput, Part, TakesAndOffersFrom, clearing, entries_in, named_output, offer_of_output, own_offers, own_process, run_from, state_after_part, state_cleared}
use Rattle.book_law.proofs.Own.{all_idle, all_serving, idle_offers, idle_process, leave_append, number_after, offers_append, opened_is, own_first, own_first_offers, process_append}
use Rattle.book_law.proofs.Serving.{LeaveStore, serves}

-- ---- the clearing of a gate

cleared_process : (setting : Setting) (node e : ℕ) (o : Option ℕ) (terms : Terms) (below : Store) (s : NodeState) (waiting : List Output) (rest : List Action)
    → own_process setting node e (clearing node o ++ rest) (Up terms below s waiting) ≡ own_process setting node (number_after (clearing node o) e) rest (Up terms below (state_cleared terms o s) waiting)
cleared_process setting node e None terms below s waiting rest = refl
cleared_process setting node e (Some t) terms below s waiting rest = own_first setting node e (OpensGate node t) rest (Up terms below s waiting) refl

cleared_offers : (setting : Setting) (node e : ℕ) (o : Option ℕ) (terms : Terms) (below : Store) (s : NodeState) (waiting : List Output) (rest : List Action)
    → own_offers setting node e (clearing node o ++ rest) (Up terms below s waiting) ≡ own_offers setting node (number_after (clearing node o) e) rest (Up terms below (state_cleared terms o s) waiting)
cleared_offers setting node e None terms below s waiting rest = refl
cleared_offers setting node e (Some t) terms below s waiting rest = own_first_offers setting node e (OpensGate node t) rest (Up terms below s waiting) refl

clearing_leaves : (node : ℕ) (o : Option ℕ) → LeaveStore node (clearing node o)
clearing_leaves node None = tt
clearing_leaves node (Some t) = (tt, tt)

-- ---- one part

-- before a part nothing waits
abbrev NoneWait : List Part → List Output → Type 0
NoneWait [] waiting = Unit {0}
NoneWait (part ∷ parts) waiting = waiting ≡ []

offers_join : (terms : Terms) (port : List ℕ) (os ps : List Output) (xs ys : List PortEvent) → AreOffers terms port os xs → AreOffers terms port ps ys → AreOffers terms port (os ++ ps) (xs ++ ys)
offers_join terms port os ps xs ys a b = record {
  own = a.own ++ b.own;
  named = ap (λ l. l ++ ps) a.named ∙ ap (λ l. map (named_output terms) a.own ++ l) b.named ∙ sym (map-append (named_output terms) a.own b.own);
  encoded = map-append (offer_of_output port) a.own b.own ∙ ap (λ l. l ++ map (offer_of_output port) b.own) a.encoded ∙ ap (λ l. xs ++ l) b.encoded;
}

module _ (setting : Setting) (node : ℕ) (terms : Terms) (port : List ℕ) (found : Store) where
  abbrev process : NodeState → List Output → Process
  process s waiting = Up terms found s waiting

  -- the process after the inputs of a part
  record AfterPart (e : ℕ) (s : NodeState) (part : Part) (parts : List Part) (served : List Action) : Type 0 where
    waiting : List Output
    is : own_process setting node e served (process s []) ≡ process (run_from setting node terms port s part.taken).node waiting
    none : NoneWait parts waiting

  after_part : (e : ℕ) (s : NodeState) (part : Part) (parts : List Part) (served : List Action) → IsPart setting node terms port s part parts → TakesAndOffersFrom setting node terms port (process s []) part.taken part.entries served
      → AfterPart e s part parts served
  after_part e s part parts served is does =
      let g = serves setting node terms port found e served s does.serving in
      let o = does.offers e in
      let named = named_output terms in
      let f = offer_of_output port in
      let entries : map f (g.offered ++ g.left) ≡ offers_in part.entries ++ is.rest =
      sym g.entries ∙ ap (λ events. (run_from setting node terms port s events).entries) does.takes ∙ is.offers in
      let one : length g.offered ≡ length o.own =
      sym (length-map g.offered named) ∙ ap (λ (l : List Output). length l) (sym g.offers ∙ o.named) ∙ length-map o.own named in
      let two : length o.own ≡ length (offers_in part.entries) = sym (length-map o.own f) ∙ ap (λ (l : List PortEvent). length l) o.encoded in
      let three : length g.offered + length g.left ≡ length (offers_in part.entries) + length is.rest =
      sym (length-append g.offered g.left) ∙ sym (length-map (g.offered ++ g.left) f) ∙ ap (λ (l : List PortEvent). length l) entries ∙ length-append (offers_in part.entries) is.rest in
      record {
        waiting = map named g.left;
        is = g.process ∙ ap (λ events. process (run_from setting node terms port s events).node (map named g.left)) does.takes;
        none = none parts is g.left (length g.offered) (length o.own) one two three;
      }
    where
      none : (parts : List Part) (is : IsPart setting node terms port s part parts) (left : List OwnOutput) (offered own : ℕ) → offered ≡ own → own ≡ length (offers_in part.entries)
          → offered + length left ≡ length (offers_in part.entries) + length is.rest → NoneWait parts (map (named_output terms) left)
      none [] is left offered own one two three = tt
      none (next ∷ parts) is left offered own one two three =
          let zero_rest : length is.rest ≡ 0 = ap (λ (l : List PortEvent). length l) is.left_out.1 in
          ap (map (named_output terms)) (nil_from_length left (omega (arith, one, two, three, zero_rest)))

  -- ---- all parts

  -- the process after the actions, and what a stop leaves
  pub record PartsEnd (e : ℕ) (s : NodeState) (waiting : List Output) (served : List Action) (left : Content) : Type 0 where
    pub state : NodeState
    pub waits : List Output
    pub is : own_process setting node e served (process s waiting) ≡ process state waits
    pub content : state.content ≡ left

  pub parts_end : (e : ℕ) (s : NodeState) (waiting : List Output) (parts : List Part) (served : List Action) (left : Content) → NoneWait parts waiting → AreParts setting node terms port s parts left
      → HasParts setting node terms port found s parts served → PartsEnd e s waiting served left
  parts_end e s waiting [] served left none are has = record { state = s; waits = waiting; is = idle_process setting node e served (process s waiting) has; content = are }
  parts_end e s waiting (part ∷ parts) served left none are has =
      let x = after_part e s part parts has.0 are.0 has.3 in
      let there = number_after has.0 e in
      let more = clearing node part.cleared in
      let t = (run_from setting node terms port s part.taken).node in
      let r = parts_end (number_after more there) (state_after_part setting node terms port s part) x.waiting parts has.1 left x.none are.1 has.4 in
      record {
        state = r.state;
        waits = r.waits;
        is = ap (λ w. own_process setting node e served (process s w)) none
            ∙ ap (λ l. own_process setting node e l (process s [])) has.2
            ∙ process_append setting node e has.0 (more ++ has.1) (process s [])
            ∙ ap (own_process setting node there (more ++ has.1)) x.is
            ∙ cleared_process setting node there part.cleared terms found t x.waiting has.1
            ∙ r.is;
        content = r.content;
      }

  pub parts_offer : (e : ℕ) (s : NodeState) (waiting : List Output) (parts : List Part) (served : List Action) (left : Content) → NoneWait parts waiting → AreParts setting node terms port s parts left
      → HasParts setting node terms port found s parts served → AreOffers terms port (own_offers setting node e served (process s waiting)) (offers_in (entries_in parts))
  parts_offer e s waiting [] served left none are has = record { own = []; named = idle_offers setting node e served (process s waiting) has; encoded = refl }
  parts_offer e s waiting (part ∷ parts) served left none are has =
      let x = after_part e s part parts has.0 are.0 has.3 in
      let there = number_after has.0 e in
      let more = clearing node part.cleared in
      let t = (run_from setting node terms port s part.taken).node in
      let next = number_after more there in
      let after = process (state_after_part setting node terms port s part) x.waiting in
      let r = parts_offer next (state_after_part setting node terms port s part) x.waiting parts has.1 left x.none are.1 has.4 in
      let split : own_offers setting node e served (process s waiting) ≡ own_offers setting node e has.0 (process s []) ++ own_offers setting node next has.1 after =
      ap (λ w. own_offers setting node e served (process s w)) none
      ∙ ap (λ l. own_offers setting node e l (process s [])) has.2
      ∙ offers_append setting node e has.0 (more ++ has.1) (process s [])
      ∙ ap (λ p. own_offers setting node e has.0 (process s []) ++ own_offers setting node there (more ++ has.1) p) x.is
      ∙ ap (λ l. own_offers setting node e has.0 (process s []) ++ l) (cleared_offers setting node there part.cleared terms found t x.waiting has.1) in
      subst (λ es. AreOffers terms port (own_offers setting node e served (process s waiting)) es) (sym (filter-append (λ entry. not (is_receive entry)) part.entries (entries_in parts)))
      (subst (λ os. AreOffers terms port os (offers_in part.entries ++ offers_in (entries_in parts))) (sym split)
      (offers_join terms port (own_offers setting node e has.0 (process s [])) (own_offers setting node next has.1 after) (offers_in part.entries) (offers_in (entries_in parts)) (has.3.offers e) r))

  pub parts_leave : (s : NodeState) (parts : List Part) (served : List Action) → HasParts setting node terms port found s parts served → LeaveStore node served
  parts_leave s [] served has = all_idle node served has
  parts_leave s (part ∷ parts) served has =
      let more = clearing node part.cleared in
      subst (λ l. LeaveStore node l) (sym has.2)
      (leave_append node has.0 (more ++ has.1) (all_serving node has.0 has.3.serving)
      (leave_append node more has.1 (clearing_leaves node part.cleared) (parts_leave (state_after_part setting node terms port s part) parts has.1 has.4)))

  -- ---- from the opening to the stop

  abbrev first_machine : NodeState
  first_machine = opened_node (seen_in found terms.seats)

  -- the process, its offers, and the offers after its stop
  pub record PartsLead (e : ℕ) (parts : List Part) (left : Content) (served rest : List Action) : Type 0 where
    pub number : ℕ
    pub is : own_process setting node e (Opens node terms ∷ served ++ Stops node ∷ rest) (Down found) ≡ own_process setting node number rest (Down (store_under terms.seats left found))
    pub offered : List Output
    pub are : AreOffers terms port offered (offers_in (entries_in parts))
    pub offers : own_offers setting node e (Opens node terms ∷ served ++ Stops node ∷ rest) (Down found) ≡ offered ++ own_offers setting node number rest (Down (store_under terms.seats left found))

  none_first : (parts : List Part) → NoneWait parts []
  none_first [] = tt
  none_first (part ∷ parts) = refl

  pub parts_lead : (e : ℕ) (parts : List Part) (left : Content) (served rest : List Action) → IsProcessIn setting node terms port found parts left → HasParts setting node terms port found first_machine parts served
      → PartsLead e parts left served rest
  parts_lead e parts left served rest is has =
      let p = process first_machine [] in
      let x = parts_end (suc e) first_machine [] parts served left (none_first parts) is.are has in
      let last = number_after served (suc e) in
      let all = served ++ Stops node ∷ rest in
      let first = own_offers setting node (suc e) served p in
      let opens : process_opened terms found ≡ p = opened_is terms found is.fits is.boot in
      let stored : Content → Process = λ c. Down (store_under terms.seats c found) in
      record {
        number = suc last;
        is = own_first setting node e (Opens node terms) all (Down found) refl
            ∙ ap (own_process setting node (suc e) all) opens
            ∙ process_append setting node (suc e) served (Stops node ∷ rest) p
            ∙ ap (own_process setting node last (Stops node ∷ rest)) x.is
            ∙ own_first setting node last (Stops node) rest _ refl
            ∙ ap (λ c. own_process setting node (suc last) rest (stored c)) x.content;
        offered = first;
        are = parts_offer (suc e) first_machine [] parts served left (none_first parts) is.are has;
        offers = own_first_offers setting node e (Opens node terms) all (Down found) refl
            ∙ ap (own_offers setting node (suc e) all) opens
            ∙ offers_append setting node (suc e) served (Stops node ∷ rest) p
            ∙ ap (λ q. first ++ own_offers setting node last (Stops node ∷ rest) q) x.is
            ∙ ap (λ l. first ++ l) (own_first_offers setting node last (Stops node) rest _ refl)
            ∙ ap (λ c. first ++ own_offers setting node (suc last) rest (stored c)) x.content;
      }

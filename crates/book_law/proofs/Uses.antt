-- The actions of a node's uses lead from store to store, and any uses have a history.
use Rattle.std.proofs.Common.{◌≡◌, ℕ, suc, Bool, true, false, cond, List, [], ◌∷◌, ◌++◌, refl, sym, ap, ◌∙◌, subst, ltb}
use Rattle.floor_store.specs.Content.{Content}
use Rattle.vote_core.specs.Schedule.{is_member, last_boot}
use Rattle.oath_node.specs.Machine.{NodeEvent, opened_node}
use Rattle.oath_node.specs.Turns.{run_at, run_with_events}
use Rattle.datagram_port.specs.Port.{PortEvent}
use Rattle.book_law.specs.Lives.{Action, Opens, FailsToOpen, Takes, Offers, Stops, StopsIn, Loses, Remakes, Enrols, Unlocks, OpensGate, Raises, Setting, Store, Terms, Down, Up, first_state, may_enrol, node_of_action, process_after, seen_in, state_of, store_at, store_in_next_boot, store_under, store_with_row}
use Rattle.book_law.specs.Uses.{AreAllUses, AreUses, HasUses, IsHistoryOf, IsProcess, IsWriting, Serves, ServesInParts, StoreUse, TakesAndOffers, Writes, first_store, inputs_at, member_at, own_process, run_of, store_after, written_store}
use Rattle.book_law.proofs.Own.{after_idle, all_idle, all_serving, idle_process, leave_append, number_after, opened_is, own_first, process_append}
use Rattle.book_law.proofs.Parts.{parts_lead, parts_leave}
use Rattle.book_law.proofs.Serving.{LeaveStore, LeavesStore, process_is_own, serves}

-- ---- one use

-- a process from its opening to its stop
pub served_leads : (setting : Setting) (node e : ℕ) (terms : Terms) (port : List ℕ) (found : Store) (taken : List NodeEvent) (entries : List PortEvent) (left : Content) (served rest : List Action)
    → IsProcess setting node terms port found taken entries left → TakesAndOffers setting node terms port found taken entries served
    → (number : ℕ) × (own_process setting node e (Opens node terms ∷ served ++ Stops node ∷ rest) (Down found) ≡ own_process setting node number rest (Down (store_under terms.seats left found)))
served_leads setting node e terms port found taken entries left served rest is does =
    let s = opened_node (seen_in found terms.seats) in
    let q = Up terms found s [] in
    let last = number_after served (suc e) in
    let g = serves setting node terms port found (suc e) served s does.serving in
    let content : (run_with_events (member_at setting terms port node) (inputs_at node served) (run_at s)).node.content ≡ left =
    ap (λ events. (run_of setting node terms port found events).node.content) does.takes ∙ is.leaves in (
      suc last,
      own_first setting node e (Opens node terms) (served ++ Stops node ∷ rest) (Down found) refl
          ∙ ap (own_process setting node (suc e) (served ++ Stops node ∷ rest)) (opened_is terms found is.fits is.boot)
          ∙ process_append setting node (suc e) served (Stops node ∷ rest) q
          ∙ ap (own_process setting node last (Stops node ∷ rest)) g.process
          ∙ own_first setting node last (Stops node) rest _ refl
          ∙ ap (λ c. own_process setting node (suc last) rest (Down (store_under terms.seats c found))) content,
    )

cond_down : (b : Bool) (one other : Store) → cond b (Down one) (Down other) ≡ Down (store_at (cond b (Down one) (Down other)))
cond_down true one other = refl
cond_down false one other = refl

pub written_is : (setting : Setting) (node e : ℕ) (d : Action) (store : Store) → IsWriting node d → process_after setting e d (Down store) ≡ Down (written_store setting d store)
written_is setting node e (Opens at terms) store w = absurd w
written_is setting node e (FailsToOpen at false) store w = refl
written_is setting node e (FailsToOpen at true) store w = cond_down (ltb store.content.boot last_boot) (store_in_next_boot store) store
written_is setting node e (Takes at input) store w = absurd w
written_is setting node e (Offers at) store w = absurd w
written_is setting node e (Stops at) store w = absurd w
written_is setting node e (StopsIn at kept input) store w = absurd w
written_is setting node e (Loses at) store w = absurd w
written_is setting node e (Remakes at boot given floor) store w = absurd w
written_is setting node e (Enrols at token floor) store w = cond_down (may_enrol setting token store) (store_with_row token floor store) store
written_is setting node e (Unlocks at token) store w = refl
written_is setting node e (OpensGate at token) store w = absurd w
written_is setting node e (Raises at token floor) store w = refl

pub writing_node : (node : ℕ) (d : Action) → IsWriting node d → node_of_action d ≡ node
writing_node node (Opens at terms) w = absurd w
writing_node node (FailsToOpen at raised) w = w
writing_node node (Takes at input) w = absurd w
writing_node node (Offers at) w = absurd w
writing_node node (Stops at) w = absurd w
writing_node node (StopsIn at kept input) w = absurd w
writing_node node (Loses at) w = absurd w
writing_node node (Remakes at boot given floor) w = absurd w
writing_node node (Enrols at token floor) w = w
writing_node node (Unlocks at token) w = w
writing_node node (OpensGate at token) w = absurd w
writing_node node (Raises at token floor) w = w

uses_end : (setting : Setting) (node e : ℕ) (uses : List StoreUse) (store : Store) (actions : List Action) → AreUses setting node store uses → HasUses setting node store uses actions
    → own_process setting node e actions (Down store) ≡ Down (store_after setting uses store)
uses_end setting node e [] store actions are has = idle_process setting node e actions (Down store) has
uses_end setting node e (Serves terms port taken entries left ∷ uses) store actions are has =
    let one = served_leads setting node (number_after has.0 e) terms port store taken entries left has.1 has.2 are.0 has.5 in
    ap (λ l. own_process setting node e l (Down store)) has.3
    ∙ after_idle setting node e has.0 (Opens node terms ∷ has.1 ++ Stops node ∷ has.2) (Down store) has.4
    ∙ one.1 ∙ uses_end setting node one.0 uses (store_under terms.seats left store) has.2 are.1 has.6
uses_end setting node e (ServesInParts terms port parts left ∷ uses) store actions are has =
    let one = parts_lead setting node terms port store (number_after has.0 e) parts left has.1 has.2 are.0 has.5 in
    ap (λ l. own_process setting node e l (Down store)) has.3
    ∙ after_idle setting node e has.0 (Opens node terms ∷ has.1 ++ Stops node ∷ has.2) (Down store) has.4
    ∙ one.is ∙ uses_end setting node one.number uses (store_under terms.seats left store) has.2 are.1 has.6
uses_end setting node e (Writes d ∷ uses) store actions are has =
    let number = number_after has.0 e in
    ap (λ l. own_process setting node e l (Down store)) has.2
    ∙ after_idle setting node e has.0 (d ∷ has.1) (Down store) has.3
    ∙ own_first setting node number d has.1 (Down store) (sym (writing_node node d are.0))
    ∙ ap (own_process setting node (suc number) has.1) (written_is setting node number d store are.0)
    ∙ uses_end setting node (suc number) uses (written_store setting d store) has.1 are.1 has.4

-- ---- no use loses the store

writing_leaves : (node : ℕ) (d : Action) → IsWriting node d → LeavesStore node d
writing_leaves node (Opens at terms) w = tt
writing_leaves node (FailsToOpen at raised) w = tt
writing_leaves node (Takes at input) w = tt
writing_leaves node (Offers at) w = tt
writing_leaves node (Stops at) w = tt
writing_leaves node (StopsIn at kept input) w = tt
writing_leaves node (Loses at) w = absurd w
writing_leaves node (Remakes at boot given floor) w = absurd w
writing_leaves node (Enrols at token floor) w = tt
writing_leaves node (Unlocks at token) w = tt
writing_leaves node (OpensGate at token) w = tt
writing_leaves node (Raises at token floor) w = tt

pub uses_leave : (setting : Setting) (node : ℕ) (uses : List StoreUse) (store : Store) (actions : List Action) → AreUses setting node store uses → HasUses setting node store uses actions → LeaveStore node actions
uses_leave setting node [] store actions are has = all_idle node actions has
uses_leave setting node (Serves terms port taken entries left ∷ uses) store actions are has =
    let rest = uses_leave setting node uses (store_under terms.seats left store) has.2 are.1 has.6 in
    subst (λ l. LeaveStore node l) (sym has.3)
    (leave_append node has.0 (Opens node terms ∷ has.1 ++ Stops node ∷ has.2) (all_idle node has.0 has.4)
    (tt, leave_append node has.1 (Stops node ∷ has.2) (all_serving node has.1 has.5.serving) (tt, rest)))
uses_leave setting node (ServesInParts terms port parts left ∷ uses) store actions are has =
    let rest = uses_leave setting node uses (store_under terms.seats left store) has.2 are.1 has.6 in
    subst (λ l. LeaveStore node l) (sym has.3)
    (leave_append node has.0 (Opens node terms ∷ has.1 ++ Stops node ∷ has.2) (all_idle node has.0 has.4)
    (tt, leave_append node has.1 (Stops node ∷ has.2) (parts_leave setting node terms port store (opened_node (seen_in store terms.seats)) parts has.1 has.5) (tt, rest)))
uses_leave setting node (Writes d ∷ uses) store actions are has =
    let rest = uses_leave setting node uses (written_store setting d store) has.1 are.1 has.4 in
    subst (λ l. LeaveStore node l) (sym has.2) (leave_append node has.0 (d ∷ has.1) (all_idle node has.0 has.3) (writing_leaves node d are.0, rest))

pub stores : (setting : Setting) (uses : ℕ → List StoreUse) (history : List Action) (node : ℕ) → AreAllUses setting uses → IsHistoryOf setting uses history → is_member setting.n node ≡ true
    → (state_of setting history).processes node ≡ Down (store_after setting (uses node) (first_store setting node))
stores setting uses history node are is member =
    let has = is node member in
    process_is_own setting 0 node history (first_state setting) member (uses_leave setting node (uses node) (first_store setting node) history (are node) has)
    ∙ uses_end setting node 0 (uses node) (first_store setting node) history (are node) has

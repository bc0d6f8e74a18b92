-- A process in a history, by itself: its state after its own actions, and what it offers.
use Rattle.std.proofs.Common.{◌≡◌, ℕ, suc, ⊎_elim, Bool, true, false, not, ◌&&◌, ◌||◌, cond, List, [], ◌∷◌, ◌++◌, map, refl, sym, ap, ◌∙◌, subst, eqb}
use Rattle.std.proofs.lemmas.Bool.{cond_both, cond-true, cond-false, cases_Bool, eqb-true, ne_eqb}
use Rattle.std.proofs.lemmas.List.{append-nil, append_assoc, map-append}
use Rattle.vote_core.specs.Schedule.{Envelope, envelope_from, is_member}
use Rattle.vote_core.specs.declared.message.Message.{Message}
use Rattle.oath_node.specs.Machine.{Made, NodeEvent, NodeState, Reply}
use Rattle.oath_node.specs.Outputs.{items_of, outputs_of}
use Rattle.oath_node.specs.Turns.{Member, Run, offer_of, run_at, run_with_event, run_with_events}
use Rattle.cluster_sim.specs.World.{Answer, told_reply}
use Rattle.book_law.specs.Lives.{Action, Opens, FailsToOpen, Takes, Offers, Stops, StopsIn, Loses, Remakes, Enrols, Unlocks, OpensGate, Raises, Output, Process, Sealed, Setting, State, Store, Terms, ToClient, ToPeer, Up, can_be, has_store, lost_after, made_by_input, node_of_action, offers_by, outputs_of_step, place_in, process_after, sealed_from, state_after, state_after_action, state_with}
use Rattle.book_law.specs.Uses.{OwnOutput, ToClientOwn, ToPeerOwn, offer_of_output, AreServing, IsServing, input_of, inputs_at, member_at, named_output, own_offers, own_process}

-- ---- the state of a history has the node's own process

-- the action neither loses nor replaces the node's store
abbrev pub LeavesStore : ℕ → Action → Type 0
LeavesStore node (Loses at) = node ≡ at → ⊥
LeavesStore node (Remakes at boot given floor) = node ≡ at → ⊥
LeavesStore node action = Unit {0}

abbrev pub LeaveStore : ℕ → List Action → Type 0
LeaveStore node [] = Unit {0}
LeaveStore node (d ∷ ds) = LeavesStore node d × LeaveStore node ds

pub action_at : (setting : Setting) (e node : ℕ) (d : Action) (state : State) → (node ≡ node_of_action d → can_be setting state d ≡ true)
    → (state_after_action setting e d state).processes node ≡ cond (eqb node (node_of_action d)) (process_after setting e d (state.processes node)) (state.processes node)
unfolding state_after_action
action_at setting e node d state can =
    let i = node_of_action d in
    ⊎_elim
    (λ (q : eqb node i ≡ true).
    let same : node ≡ i = eqb-true node i q in
    ap (λ (z : State). z.processes node) (cond-true (can_be setting state d) (state_with setting e d (state.processes i) state) state (can same))
    ∙ cond-true (eqb node i) (process_after setting e d (state.processes i)) (state.processes node) q
    ∙ ap (λ m. process_after setting e d (state.processes m)) (sym same)
    ∙ sym (cond-true (eqb node i) (process_after setting e d (state.processes node)) (state.processes node) q))
    (λ (q : eqb node i ≡ false).
    cond_both (can_be setting state d) (state_with setting e d (state.processes i) state) state
    (λ (z : State). z.processes node ≡ cond (eqb node i) (process_after setting e d (state.processes node)) (state.processes node))
    (λ _. cond-false (eqb node i) (process_after setting e d (state.processes i)) (state.processes node) q ∙ sym (cond-false (eqb node i) (process_after setting e d (state.processes node)) (state.processes node) q))
    (λ _. sym (cond-false (eqb node i) (process_after setting e d (state.processes node)) (state.processes node) q)))
    (cases_Bool (eqb node i))

pub can_there : (setting : Setting) (state : State) (node : ℕ) (d : Action) → has_store setting state node ≡ true → LeavesStore node d → node ≡ node_of_action d → can_be setting state d ≡ true
can_there setting state node (Opens i terms) store leaves own = subst (λ m. has_store setting state m ≡ true) own store
can_there setting state node (FailsToOpen i raised) store leaves own = subst (λ m. has_store setting state m ≡ true) own store
can_there setting state node (Takes i input) store leaves own = subst (λ m. has_store setting state m ≡ true) own store
can_there setting state node (Offers i) store leaves own = subst (λ m. has_store setting state m ≡ true) own store
can_there setting state node (Stops i) store leaves own = subst (λ m. has_store setting state m ≡ true) own store
can_there setting state node (StopsIn i kept input) store leaves own = subst (λ m. has_store setting state m ≡ true) own store
can_there setting state node (Enrols i token floor) store leaves own = subst (λ m. has_store setting state m ≡ true) own store
can_there setting state node (Unlocks i token) store leaves own = subst (λ m. has_store setting state m ≡ true) own store
can_there setting state node (OpensGate i token) store leaves own = subst (λ m. has_store setting state m ≡ true) own store
can_there setting state node (Raises i token floor) store leaves own = subst (λ m. has_store setting state m ≡ true) own store
can_there setting state node (Loses i) store leaves own = absurd (leaves own)
can_there setting state node (Remakes i boot given floor) store leaves own = absurd (leaves own)

lost_left : (node : ℕ) (d : Action) (lost : ℕ → Bool) → LeavesStore node d → lost_after d lost node ≡ lost node
lost_left node (Opens i terms) lost leaves = refl
lost_left node (FailsToOpen i raised) lost leaves = refl
lost_left node (Takes i input) lost leaves = refl
lost_left node (Offers i) lost leaves = refl
lost_left node (Stops i) lost leaves = refl
lost_left node (StopsIn i kept input) lost leaves = refl
lost_left node (Enrols i token floor) lost leaves = refl
lost_left node (Unlocks i token) lost leaves = refl
lost_left node (OpensGate i token) lost leaves = refl
lost_left node (Raises i token floor) lost leaves = refl
lost_left node (Loses i) lost leaves = ap (λ b. b || lost node) (ne_eqb node i leaves)
lost_left node (Remakes i boot given floor) lost leaves = ap (λ b. not b && lost node) (ne_eqb node i leaves)

pub store_left : (setting : Setting) (e node : ℕ) (d : Action) (state : State) → has_store setting state node ≡ true → LeavesStore node d → has_store setting (state_after_action setting e d state) node ≡ true
unfolding state_after_action
store_left setting e node d state store leaves =
    cond_both (can_be setting state d) (state_with setting e d (state.processes (node_of_action d)) state) state (λ (z : State). has_store setting z node ≡ true)
    (λ _. ap (λ b. not b && is_member setting.n node) (lost_left node d state.lost leaves) ∙ store) (λ _. store)

pub process_is_own : (setting : Setting) (e node : ℕ) (ds : List Action) (state : State) → has_store setting state node ≡ true → LeaveStore node ds
    → (state_after setting e ds state).processes node ≡ own_process setting node e ds (state.processes node)
unfolding state_after own_process
process_is_own setting e node [] state store leave = refl
process_is_own setting e node (d ∷ ds) state store leave =
    process_is_own setting (suc e) node ds (state_after_action setting e d state) (store_left setting e node d state store leave.0) leave.1
    ∙ ap (λ s. own_process setting node (suc e) ds s) (action_at setting e node d state (can_there setting state node d store leave.0))

-- ---- the outputs of a step

abbrev own_outputs : ℕ → ℕ → Made → List OwnOutput
own_outputs e i made = map (λ (envelope : Envelope). ToPeerOwn envelope) (map (envelope_from i) made.sends) ++ map (λ (answer : Answer). ToClientOwn answer) (map (told_reply e i) made.replies)

step_items : (key : List ℕ) (e i : ℕ) (sends : List (ℕ × Message)) (replies : List Reply)
    → map offer_of (items_of key i sends replies) ≡ map (offer_of_output key) (map (λ (envelope : Envelope). ToPeerOwn envelope) (map (envelope_from i) sends) ++ map (λ (answer : Answer). ToClientOwn answer) (map (told_reply e i) replies))
step_items key e i [] [] = refl
step_items key e i [] (r ∷ replies) = ap (λ xs. offer_of_output key (ToClientOwn (told_reply e i r)) ∷ xs) (step_items key e i [] replies)
step_items key e i (x ∷ sends) replies = ap (λ xs. offer_of_output key (ToPeerOwn (envelope_from i x)) ∷ xs) (step_items key e i sends replies)

step_named : (terms : Terms) (e i : ℕ) (sends : List (ℕ × Message)) (replies : List Reply)
    → map (λ (sealed : Sealed). ToPeer sealed) (map (sealed_from terms i) sends) ++ map (λ (answer : Answer). ToClient answer) (map (told_reply e i) replies)
    ≡ map (named_output terms) (map (λ (envelope : Envelope). ToPeerOwn envelope) (map (envelope_from i) sends) ++ map (λ (answer : Answer). ToClientOwn answer) (map (told_reply e i) replies))
step_named terms e i [] [] = refl
step_named terms e i [] (r ∷ replies) = ap (λ xs. ToClient (told_reply e i r) ∷ xs) (step_named terms e i [] replies)
step_named terms e i (x ∷ sends) replies = ap (λ xs. ToPeer (sealed_from terms i x) ∷ xs) (step_named terms e i sends replies)

-- ---- a process that continues

module _ (setting : Setting) (node : ℕ) (terms : Terms) (port : List ℕ) (below : Store) where
  abbrev member : Member
  member = member_at setting terms port node

  -- a run with the outputs `done`, of which the rest waits
  pub record GoesOn (e : ℕ) (ds : List Action) (s : NodeState) (waiting done : List OwnOutput) (r : Run) : Type 0 where
    pub offered : List OwnOutput
    pub left : List OwnOutput
    pub process : own_process setting node e ds (Up terms below s (map (named_output terms) waiting)) ≡ Up terms below r.node (map (named_output terms) left)
    pub offers : own_offers setting node e ds (Up terms below s (map (named_output terms) waiting)) ≡ map (named_output terms) offered
    pub entries : r.entries ≡ map (offer_of_output port) ((done ++ offered) ++ left)

  -- the run over what the node takes in the rest
  abbrev rest_of : List Action → Run → Run
  rest_of ds r = run_with_events member (inputs_at node ds) r

  abbrev RestGoes : ℕ → List Action → Type 0
  RestGoes e ds = (s : NodeState) (waiting done : List OwnOutput) (r : Run) → r.node ≡ s → r.entries ≡ map (offer_of_output port) (done ++ waiting) → GoesOn (suc e) ds s waiting done (rest_of ds r)

  -- the claim for the rest after one action, which left the process and offered the outputs
  record GoesThen (e : ℕ) (ds : List Action) (p : Process) (out : List Output) (done : List OwnOutput) (r : Run) : Type 0 where
    offered : List OwnOutput
    left : List OwnOutput
    process : own_process setting node (suc e) ds p ≡ Up terms below r.node (map (named_output terms) left)
    offers : out ++ own_offers setting node (suc e) ds p ≡ map (named_output terms) offered
    entries : r.entries ≡ map (offer_of_output port) ((done ++ offered) ++ left)

  same_rest : (e : ℕ) (ds : List Action) (s : NodeState) (waiting done : List OwnOutput) (r : Run) → GoesOn (suc e) ds s waiting done r → GoesThen e ds (Up terms below s (map (named_output terms) waiting)) [] done r
  same_rest e ds s waiting done r g = record { offered = g.offered; left = g.left; process = g.process; offers = g.offers; entries = g.entries }

  taken_then : (e : ℕ) (input : NodeEvent) (ds : List Action) (s : NodeState) (waiting done : List OwnOutput) (r : Run) → RestGoes e ds → r.node ≡ s → r.entries ≡ map (offer_of_output port) (done ++ waiting)
      → GoesThen e ds (process_after setting e (Takes node input) (Up terms below s (map (named_output terms) waiting))) [] done (rest_of ds (run_with_event member input r))
  taken_then e input ds s waiting done r rest state entries =
      let made = made_by_input setting terms node input s in
      let more = own_outputs e node made in
      let r1 = run_with_event member input r in
      let f = offer_of_output port in
      let state1 : r1.node ≡ made.state = ap (λ (z : NodeState). (made_by_input setting terms node input z).state) state in
      let entries1 : r1.entries ≡ map f (done ++ (waiting ++ more)) =
      ap (λ (z : NodeState). r.entries ++ map offer_of (outputs_of port (place_in setting node) (made_by_input setting terms node input z)).items) state
      ∙ ap (λ xs. r.entries ++ xs) (step_items port e node made.sends made.replies)
      ∙ ap (λ xs. xs ++ map f more) entries ∙ sym (map-append f (done ++ waiting) more) ∙ ap (map f) (append_assoc done waiting more) in
      let named : map (named_output terms) waiting ++ outputs_of_step terms e node made ≡ map (named_output terms) (waiting ++ more) =
      ap (λ xs. map (named_output terms) waiting ++ xs) (step_named terms e node made.sends made.replies) ∙ sym (map-append (named_output terms) waiting more) in
      subst (λ xs. GoesThen e ds (Up terms below made.state xs) [] done (rest_of ds r1)) (sym named)
      (same_rest e ds made.state (waiting ++ more) done (rest_of ds r1) (rest made.state (waiting ++ more) done r1 state1 entries1))

  offered_then : (e : ℕ) (ds : List Action) (s : NodeState) (waiting done : List OwnOutput) (r : Run) → RestGoes e ds → r.node ≡ s → r.entries ≡ map (offer_of_output port) (done ++ waiting)
      → GoesThen e ds (process_after setting e (Offers node) (Up terms below s (map (named_output terms) waiting))) (offers_by (Offers node) (Up terms below s (map (named_output terms) waiting))) done (rest_of ds r)
  offered_then e ds s [] done r rest state entries = same_rest e ds s [] done (rest_of ds r) (rest s [] done r state entries)
  offered_then e ds s (h ∷ waiting) done r rest state entries =
      let f = offer_of_output port in
      let g = rest s waiting (done ++ h ∷ []) r state (entries ∙ ap (map f) (sym (append_assoc done (h ∷ []) waiting))) in
      record {
        offered = h ∷ g.offered;
        left = g.left;
        process = g.process;
        offers = ap (λ xs. named_output terms h ∷ xs) g.offers;
        entries = g.entries ∙ ap (λ xs. map f (xs ++ g.left)) (append_assoc done (h ∷ []) g.offered);
      }

  action_then : (e : ℕ) (d : Action) (ds : List Action) (s : NodeState) (waiting done : List OwnOutput) (r : Run) → node ≡ node_of_action d → IsServing node d → RestGoes e ds → r.node ≡ s → r.entries ≡ map (offer_of_output port) (done ++ waiting)
      → GoesThen e ds (process_after setting e d (Up terms below s (map (named_output terms) waiting))) (offers_by d (Up terms below s (map (named_output terms) waiting))) done (run_with_events member (input_of d ++ inputs_at node ds) r)
  action_then e (Opens at t) ds s waiting done r q g rest state entries = absurd (g q)
  action_then e (FailsToOpen at raised) ds s waiting done r q g rest state entries = absurd (g q)
  action_then e (Takes at input) ds s waiting done r q g rest state entries =
      let made_run = rest_of ds (run_with_event member input r) in
      subst (λ m. GoesThen e ds (process_after setting e (Takes m input) (Up terms below s (map (named_output terms) waiting))) [] done made_run) q (taken_then e input ds s waiting done r rest state entries)
  action_then e (Offers at) ds s waiting done r q g rest state entries = offered_then e ds s waiting done r rest state entries
  action_then e (Stops at) ds s waiting done r q g rest state entries = absurd (g q)
  action_then e (StopsIn at kept input) ds s waiting done r q g rest state entries = absurd (g q)
  action_then e (Loses at) ds s waiting done r q g rest state entries = absurd (g q)
  action_then e (Remakes at boot given floor) ds s waiting done r q g rest state entries = absurd (g q)
  action_then e (Enrols at token floor) ds s waiting done r q g rest state entries = absurd (g q)
  action_then e (Unlocks at token) ds s waiting done r q g rest state entries = absurd (g q)
  action_then e (OpensGate at token) ds s waiting done r q g rest state entries = absurd (g q)
  action_then e (Raises at token floor) ds s waiting done r q g rest state entries = absurd (g q)

  either_then : (e : ℕ) (d : Action) (ds : List Action) (s : NodeState) (waiting done : List OwnOutput) (r : Run) (b : Bool) → (b ≡ true → node ≡ node_of_action d) → IsServing node d → RestGoes e ds → r.node ≡ s → r.entries ≡ map (offer_of_output port) (done ++ waiting)
      → GoesThen e ds (cond b (process_after setting e d (Up terms below s (map (named_output terms) waiting))) (Up terms below s (map (named_output terms) waiting))) (cond b (offers_by d (Up terms below s (map (named_output terms) waiting))) []) done
      (run_with_events member (cond b (input_of d) [] ++ inputs_at node ds) r)
  either_then e d ds s waiting done r true own g rest state entries = action_then e d ds s waiting done r (own refl) g rest state entries
  either_then e d ds s waiting done r false own g rest state entries = same_rest e ds s waiting done (rest_of ds r) (rest s waiting done r state entries)

  goes_on : (e : ℕ) (ds : List Action) (s : NodeState) (waiting done : List OwnOutput) (r : Run) → AreServing node ds → r.node ≡ s → r.entries ≡ map (offer_of_output port) (done ++ waiting) → GoesOn e ds s waiting done (rest_of ds r)
  unfolding own_process own_offers
  goes_on e [] s waiting done r g state entries = record {
    offered = [];
    left = waiting;
    process = ap (λ z. Up terms below z (map (named_output terms) waiting)) (sym state);
    offers = refl;
    entries = entries ∙ ap (λ xs. map (offer_of_output port) (xs ++ waiting)) (sym (append-nil done));
  }
  goes_on e (d ∷ ds) s waiting done r g state entries =
      let rest : RestGoes e ds = λ s2 w2 done2 r2 h k. goes_on (suc e) ds s2 w2 done2 r2 g.1 h k in
      let t = either_then e d ds s waiting done r (eqb node (node_of_action d)) (eqb-true node (node_of_action d)) g.0 rest state entries in
      record { offered = t.offered; left = t.left; process = t.process; offers = t.offers; entries = t.entries }

  -- the actions take the process from its opening to what its machine has
  pub serves : (e : ℕ) (ds : List Action) (s : NodeState) → AreServing node ds → GoesOn e ds s [] [] (run_with_events member (inputs_at node ds) (run_at s))
  serves e ds s g = goes_on e ds s [] [] (run_at s) g refl refl

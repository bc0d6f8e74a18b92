-- Each order of the nodes' steps leads each node where its own steps lead it.
use Rattle.std.proofs.Common.{◌≡◌, ℕ, suc, Bool, true, false, cond, not, ◌&&◌, ◌||◌, List, [], ◌∷◌, ◌++◌, map, Some, None, refl, sym, ap, ◌∙◌, subst, eqb}
use Rattle.std.proofs.lemmas.Bool.{cond_both, cond-true, cond-false, eq-eqb, eqb-true, ne_eqb, true≢false}
use Rattle.std.proofs.lemmas.List.{append-nil, append_assoc, map-append}
use Rattle.vote_core.specs.Schedule.{is_member}
use Rattle.oath_node.specs.Machine.{NodeEvent}
use Rattle.book_law.specs.Lives.{Action, Opens, FailsToOpen, Takes, Offers, Stops, StopsIn, Loses as LosesStore, Remakes, Enrols, Unlocks, OpensGate, Raises, Sealed, Setting, State, Store, ToPeer, can_be, first_state, has_store, lost_after, may_be_remade, node_of_action, offers_by, process_after, state_after, state_after_action, state_of, state_with}
use Rattle.book_law.specs.Uses.{IsWriting, own_offers, own_process}
use Rattle.book_law.proofs.Own.{number_after, own_first, own_first_offers}
use Rattle.book_law.proofs.Serving.{LeaveStore, LeavesStore, action_at, can_there, store_left}
use Rattle.book_law.proofs.Uses.{writing_node}
use Rattle.order_law.specs.Interleavings.{AreOfMembers, IsInterleaving, Item, Said, Stands, first_place, history_of, places_after, said_before, said_by, said_by_output, said_in, steps_at, with_place}
use Rattle.order_law.specs.Steps.{AreSteps, Closed, Commits, Does, Ends, Gets, Gone, Hears, IsStep, Loses, Open, Pauses, Place, Says, Starts, Step, actions_of, is_gone, place_after, place_in_end, takings}
use Rattle.order_law.proofs.Own.{own_says, own_step}

-- ---- the actions of a step are its node's, and keep the store

abbrev pub AreOwn : ℕ → List Action → Type 0
AreOwn node [] = Unit {0}
AreOwn node (d ∷ ds) = (node_of_action d ≡ node) × AreOwn node ds

own_append : (node : ℕ) (xs ys : List Action) → AreOwn node xs → AreOwn node ys → AreOwn node (xs ++ ys)
own_append node [] ys h k = k
own_append node (x ∷ xs) ys h k = (h.0, own_append node xs ys h.1 k)

takings_own : (node : ℕ) (inputs : List NodeEvent) → AreOwn node (takings node inputs)
takings_own node [] = tt
takings_own node (input ∷ inputs) = (refl, takings_own node inputs)

pub are_own : (setting : Setting) (node : ℕ) (place : Place) (step : Step) → IsStep setting node place step → AreOwn node (actions_of node step)
are_own setting node place (Starts terms port) is = (refl, tt)
are_own setting node place (Hears receipt) is = tt
are_own setting node place (Commits inputs) is = takings_own node inputs
are_own setting node place (Says telling) is = (refl, tt)
are_own setting node place (Pauses None) is = tt
are_own setting node place (Pauses (Some token)) is = (refl, tt)
are_own setting node place (Ends kept) is = own_append node (takings node kept) (Stops node ∷ []) (takings_own node kept) (refl, tt)
are_own setting node (Closed store) (Does d) is = (writing_node node d is, tt)
are_own setting node (Open s) (Does d) is = absurd is
are_own setting node (Gone store) (Does d) is = absurd is
are_own setting node place Loses is = (refl, tt)
are_own setting node place (Gets boot given floor) is = (refl, tt)

-- an action that keeps each store
abbrev pub Keeps : Action → Type 0
Keeps (LosesStore at) = ⊥
Keeps (Remakes at boot given floor) = ⊥
Keeps d = Unit {0}

abbrev pub AllKeep : List Action → Type 0
AllKeep [] = Unit {0}
AllKeep (d ∷ ds) = Keeps d × AllKeep ds

takings_keep : (node : ℕ) (inputs : List NodeEvent) (ds : List Action) → AllKeep ds → AllKeep (takings node inputs ++ ds)
takings_keep node [] ds keep = keep
takings_keep node (input ∷ inputs) ds keep = (tt, takings_keep node inputs ds keep)

writing_keeps : (node : ℕ) (d : Action) → IsWriting node d → Keeps d
writing_keeps node (Opens at terms) w = absurd w
writing_keeps node (FailsToOpen at raised) w = tt
writing_keeps node (Takes at input) w = absurd w
writing_keeps node (Offers at) w = absurd w
writing_keeps node (Stops at) w = absurd w
writing_keeps node (StopsIn at kept input) w = absurd w
writing_keeps node (LosesStore at) w = absurd w
writing_keeps node (Remakes at boot given floor) w = absurd w
writing_keeps node (Enrols at token floor) w = tt
writing_keeps node (Unlocks at token) w = tt
writing_keeps node (OpensGate at token) w = absurd w
writing_keeps node (Raises at token floor) w = tt

-- the step keeps its node's store
abbrev pub KeepsStore : Step → Type 0
KeepsStore Loses = ⊥
KeepsStore (Gets boot given floor) = ⊥
KeepsStore step = Unit {0}

pub all_keep : (setting : Setting) (node : ℕ) (place : Place) (step : Step) → IsStep setting node place step → KeepsStore step → AllKeep (actions_of node step)
all_keep setting node place (Starts terms port) is keep = (tt, tt)
all_keep setting node place (Hears receipt) is keep = tt
all_keep setting node place (Commits inputs) is keep = subst AllKeep (append-nil (takings node inputs)) (takings_keep node inputs [] tt)
all_keep setting node place (Says telling) is keep = (tt, tt)
all_keep setting node place (Pauses None) is keep = tt
all_keep setting node place (Pauses (Some token)) is keep = (tt, tt)
all_keep setting node place (Ends kept) is keep = takings_keep node kept (Stops node ∷ []) (tt, tt)
all_keep setting node (Closed store) (Does d) is keep = (writing_keeps node d is, tt)
all_keep setting node (Open s) (Does d) is keep = absurd is
all_keep setting node (Gone store) (Does d) is keep = absurd is
all_keep setting node place Loses is keep = absurd keep
all_keep setting node place (Gets boot given floor) is keep = absurd keep

keeps_at : (node : ℕ) (d : Action) → Keeps d → LeavesStore node d
keeps_at node (Opens at terms) k = tt
keeps_at node (FailsToOpen at raised) k = tt
keeps_at node (Takes at input) k = tt
keeps_at node (Offers at) k = tt
keeps_at node (Stops at) k = tt
keeps_at node (StopsIn at kept input) k = tt
keeps_at node (LosesStore at) k = absurd k
keeps_at node (Remakes at boot given floor) k = absurd k
keeps_at node (Enrols at token floor) k = tt
keeps_at node (Unlocks at token) k = tt
keeps_at node (OpensGate at token) k = tt
keeps_at node (Raises at token floor) k = tt

pub leave_at : (node : ℕ) (ds : List Action) → AllKeep ds → LeaveStore node ds
leave_at node [] keep = tt
leave_at node (d ∷ ds) keep = (keeps_at node d keep.0, leave_at node ds keep.1)

-- ---- the state after a node's own actions

pub append_state : (setting : Setting) (e : ℕ) (xs ys : List Action) (state : State) → state_after setting e (xs ++ ys) state ≡ state_after setting (number_after xs e) ys (state_after setting e xs state)
unfolding state_after
append_state setting e [] ys state = refl
append_state setting e (d ∷ ds) ys state = append_state setting (suc e) ds ys (state_after_action setting e d state)

pub append_number : (e : ℕ) (xs ys : List Action) → number_after (xs ++ ys) e ≡ number_after ys (number_after xs e)
append_number e [] ys = refl
append_number e (d ∷ ds) ys = append_number (suc e) ds ys

-- each of the actions can be
abbrev pub AllCan : Setting → ℕ → List Action → State → Type 0
AllCan setting e [] state = Unit {0}
AllCan setting e (d ∷ ds) state = (can_be setting state d ≡ true) × AllCan setting (suc e) ds (state_after_action setting e d state)

-- actions of a node that has its store can be
keep_can : (setting : Setting) (e node : ℕ) (ds : List Action) (state : State) → has_store setting state node ≡ true → AllKeep ds → AreOwn node ds → AllCan setting e ds state
keep_can setting e node [] state store keep own = tt
keep_can setting e node (d ∷ ds) state store keep own = (
  can_there setting state node d store (keeps_at node d keep.0) (sym own.0),
  keep_can setting (suc e) node ds (state_after_action setting e d state) (store_left setting e node d state store (keeps_at node d keep.0)) keep.1 own.1,
)

-- an action that can be
pub action_is : (setting : Setting) (e node : ℕ) (d : Action) (state : State) → can_be setting state d ≡ true → node_of_action d ≡ node → state_after_action setting e d state ≡ state_with setting e d (state.processes node) state
unfolding state_after_action
action_is setting e node d state can own =
    cond-true (can_be setting state d) (state_with setting e d (state.processes (node_of_action d)) state) state can
    ∙ ap (λ m. state_with setting e d (state.processes m) state) own

pub action_process : (setting : Setting) (e node : ℕ) (d : Action) (state : State) → can_be setting state d ≡ true → node_of_action d ≡ node
    → (state_after_action setting e d state).processes node ≡ process_after setting e d (state.processes node)
action_process setting e node d state can own =
    action_at setting e node d state (λ _. can)
    ∙ cond-true (eqb node (node_of_action d)) (process_after setting e d (state.processes node)) (state.processes node) (eq-eqb node (node_of_action d) (sym own))

pub own_offered : (setting : Setting) (e node : ℕ) (ds : List Action) (state : State) → AllCan setting e ds state → AreOwn node ds
    → (state_after setting e ds state).offered ≡ state.offered ++ own_offers setting node e ds (state.processes node)
unfolding state_after own_offers
own_offered setting e node [] state can own = sym (append-nil state.offered)
own_offered setting e node (d ∷ ds) state can own =
    let next = state_after_action setting e d state in
    let p = state.processes node in
    let q = process_after setting e d p in
    own_offered setting (suc e) node ds next can.1 own.1
    ∙ ap (λ z. next.offered ++ own_offers setting node (suc e) ds z) (action_process setting e node d state can.0 own.0)
    ∙ ap (λ (z : State). z.offered ++ own_offers setting node (suc e) ds q) (action_is setting e node d state can.0 own.0)
    ∙ append_assoc state.offered (offers_by d p) (own_offers setting node (suc e) ds q)
    ∙ ap (λ l. state.offered ++ l) (sym (own_first_offers setting node e d ds p (sym own.0)))

pub own_is : (setting : Setting) (e node : ℕ) (ds : List Action) (state : State) → AllCan setting e ds state → AreOwn node ds
    → (state_after setting e ds state).processes node ≡ own_process setting node e ds (state.processes node)
unfolding state_after own_process
own_is setting e node [] state can own = refl
own_is setting e node (d ∷ ds) state can own =
    own_is setting (suc e) node ds (state_after_action setting e d state) can.1 own.1
    ∙ ap (λ z. own_process setting node (suc e) ds z) (action_process setting e node d state can.0 own.0)
    ∙ sym (own_first setting node e d ds (state.processes node) (sym own.0))

-- the other nodes stay
pub others_stay : (setting : Setting) (e node other : ℕ) (ds : List Action) (state : State) → AreOwn node ds → (other ≡ node → ⊥) → (state_after setting e ds state).processes other ≡ state.processes other
unfolding state_after
others_stay setting e node other [] state own differ = refl
others_stay setting e node other (d ∷ ds) state own differ =
    others_stay setting (suc e) node other ds (state_after_action setting e d state) own.1 differ
    ∙ action_at setting e other d state (λ same. absurd (differ (same ∙ own.0)))
    ∙ cond-false (eqb other (node_of_action d)) (process_after setting e d (state.processes other)) (state.processes other) (ne_eqb other (node_of_action d) (λ same. differ (same ∙ own.0)))

-- ---- lost nodes

kept_lost : (d : Action) (lost : ℕ → Bool) (node : ℕ) → Keeps d → lost_after d lost node ≡ lost node
kept_lost (Opens at terms) lost node k = refl
kept_lost (FailsToOpen at raised) lost node k = refl
kept_lost (Takes at input) lost node k = refl
kept_lost (Offers at) lost node k = refl
kept_lost (Stops at) lost node k = refl
kept_lost (StopsIn at kept input) lost node k = refl
kept_lost (LosesStore at) lost node k = absurd k
kept_lost (Remakes at boot given floor) lost node k = absurd k
kept_lost (Enrols at token floor) lost node k = refl
kept_lost (Unlocks at token) lost node k = refl
kept_lost (OpensGate at token) lost node k = refl
kept_lost (Raises at token floor) lost node k = refl

all_kept_lost : (setting : Setting) (e node : ℕ) (ds : List Action) (state : State) → AllKeep ds → (state_after setting e ds state).lost node ≡ state.lost node
unfolding state_after state_after_action
all_kept_lost setting e node [] state keep = refl
all_kept_lost setting e node (d ∷ ds) state keep =
    all_kept_lost setting (suc e) node ds (state_after_action setting e d state) keep.1
    ∙ cond_both (can_be setting state d) (state_with setting e d (state.processes (node_of_action d)) state) state (λ (z : State). z.lost node ≡ state.lost node) (λ _. kept_lost d state.lost node keep.0) (λ _. refl)

-- ---- the nodes of a state

-- each member stands at its place, the lost ones are those without a store, and what was said was offered
pub record Holds (setting : Setting) (state : State) (places : ℕ → Place) (said : List Said) : Type 0 where
  pub lost : (node : ℕ) → is_member setting.n node ≡ true → state.lost node ≡ is_gone (places node)
  pub stands : (node : ℕ) → is_member setting.n node ≡ true → Stands node (state.processes node) (places node)
  pub offered : map said_by_output state.offered ≡ said

pub at_place : (changed : ℕ) (place : Place) (places : ℕ → Place) (node : ℕ) (P : Place → Type 0) → (node ≡ changed → P place) → ((node ≡ changed → ⊥) → P (places node)) → P (with_place changed place places node)
at_place changed place places node P here there =
    cond_both (eqb node changed) place (places node) P (λ q. here (eqb-true node changed q)) (λ q. there (λ same. true≢false (sym (eq-eqb node changed same) ∙ q)))

-- the rule of a replacement, if the step is one
abbrev pub MayHappen : Setting → State → ℕ → Step → Type 0
MayHappen setting state node (Gets boot given floor) = may_be_remade setting state node boot given floor ≡ true
MayHappen setting state node step = Unit {0}

-- the actions of a step can be, and lose the store as its place does
pub record CanStep (setting : Setting) (e node : ℕ) (place : Place) (step : Step) (state : State) : Type 0 where
  pub can : AllCan setting e (actions_of node step) state
  pub lost : (other : ℕ) → (other ≡ node → ⊥) → (state_after setting e (actions_of node step) state).lost other ≡ state.lost other
  pub own_lost : (state_after setting e (actions_of node step) state).lost node ≡ is_gone (place_after setting node place step)

pub stored : (setting : Setting) (state : State) (node : ℕ) (b : Bool) → is_member setting.n node ≡ true → state.lost node ≡ b → b ≡ false → has_store setting state node ≡ true
stored setting state node b member is kept = ap (λ c. not c && is_member setting.n node) (is ∙ kept) ∙ member

keeping : (setting : Setting) (e node : ℕ) (place : Place) (step : Step) (state : State) → is_member setting.n node ≡ true → state.lost node ≡ is_gone place → is_gone place ≡ false → is_gone (place_after setting node place step) ≡ false
    → IsStep setting node place step → KeepsStore step → CanStep setting e node place step state
keeping setting e node place step state member lost has also is keep =
    let ds = actions_of node step in
    let all = all_keep setting node place step is keep in
    record {
      can = keep_can setting e node ds state (stored setting state node (is_gone place) member lost has) all (are_own setting node place step is);
      lost = λ other differ. all_kept_lost setting e other ds state all;
      own_lost = all_kept_lost setting e node ds state all ∙ lost ∙ has ∙ sym also;
    }

losing : (setting : Setting) (e node : ℕ) (place : Place) (state : State) → is_member setting.n node ≡ true → state.lost node ≡ is_gone place → is_gone place ≡ false → is_gone (place_after setting node place Loses) ≡ true
    → CanStep setting e node place Loses state
unfolding state_after
losing setting e node place state member lost has gone =
    let d = LosesStore node in
    let can = stored setting state node (is_gone place) member lost has in
    let is = action_is setting e node d state can refl in
    record {
      can = (can, tt);
      lost = λ other differ. ap (λ (z : State). z.lost other) is ∙ ap (λ b. b || state.lost other) (ne_eqb other node differ);
      own_lost = ap (λ (z : State). z.lost node) is ∙ ap (λ b. b || state.lost node) (eq-eqb node node refl) ∙ sym gone;
    }

getting : (setting : Setting) (e node boot : ℕ) (given : List ℕ) (floor : ℕ → ℕ) (former : Store) (state : State) → may_be_remade setting state node boot given floor ≡ true
    → CanStep setting e node (Gone former) (Gets boot given floor) state
unfolding state_after
getting setting e node boot given floor former state may =
    let d = Remakes node boot given floor in
    let is = action_is setting e node d state may refl in
    record {
      can = (may, tt);
      lost = λ other differ. ap (λ (z : State). z.lost other) is ∙ ap (λ b. not b && state.lost other) (ne_eqb other node differ);
      own_lost = ap (λ (z : State). z.lost node) is ∙ ap (λ b. not b && state.lost node) (eq-eqb node node refl);
    }

can_step : (setting : Setting) (e node : ℕ) (place : Place) (step : Step) (state : State) → is_member setting.n node ≡ true → state.lost node ≡ is_gone place → IsStep setting node place step → MayHappen setting state node step
    → CanStep setting e node place step state
can_step setting e node (Closed store) (Starts terms port) state member lost is may = keeping setting e node (Closed store) (Starts terms port) state member lost refl refl is tt
can_step setting e node (Closed store) (Does d) state member lost is may = keeping setting e node (Closed store) (Does d) state member lost refl refl is tt
can_step setting e node (Closed store) Loses state member lost is may = losing setting e node (Closed store) state member lost refl refl
can_step setting e node (Open s) (Hears receipt) state member lost is may = keeping setting e node (Open s) (Hears receipt) state member lost refl refl is tt
can_step setting e node (Open s) (Commits inputs) state member lost is may = keeping setting e node (Open s) (Commits inputs) state member lost refl refl is tt
can_step setting e node (Open s) (Says telling) state member lost is may = keeping setting e node (Open s) (Says telling) state member lost refl refl is tt
can_step setting e node (Open s) (Pauses cleared) state member lost is may = keeping setting e node (Open s) (Pauses cleared) state member lost refl refl is tt
can_step setting e node (Open s) (Ends kept) state member lost is may = keeping setting e node (Open s) (Ends kept) state member lost refl refl is tt
can_step setting e node (Open s) Loses state member lost is may = losing setting e node (Open s) state member lost refl refl
can_step setting e node (Gone store) (Gets boot given floor) state member lost is may = getting setting e node boot given floor store state may
can_step setting e node (Closed store) (Hears receipt) state member lost is may = absurd is
can_step setting e node (Closed store) (Commits inputs) state member lost is may = absurd is
can_step setting e node (Closed store) (Says telling) state member lost is may = absurd is
can_step setting e node (Closed store) (Pauses cleared) state member lost is may = absurd is
can_step setting e node (Closed store) (Ends kept) state member lost is may = absurd is
can_step setting e node (Closed store) (Gets boot given floor) state member lost is may = absurd is
can_step setting e node (Open s) (Starts terms port) state member lost is may = absurd is
can_step setting e node (Open s) (Does d) state member lost is may = absurd is
can_step setting e node (Open s) (Gets boot given floor) state member lost is may = absurd is
can_step setting e node (Gone store) (Starts terms port) state member lost is may = absurd is
can_step setting e node (Gone store) (Hears receipt) state member lost is may = absurd is
can_step setting e node (Gone store) (Commits inputs) state member lost is may = absurd is
can_step setting e node (Gone store) (Says telling) state member lost is may = absurd is
can_step setting e node (Gone store) (Pauses cleared) state member lost is may = absurd is
can_step setting e node (Gone store) (Ends kept) state member lost is may = absurd is
can_step setting e node (Gone store) (Does d) state member lost is may = absurd is
can_step setting e node (Gone store) Loses state member lost is may = absurd is

pub step_holds : (setting : Setting) (e : ℕ) (item : Item) (state : State) (places : ℕ → Place) (said : List Said) → Holds setting state places said → is_member setting.n item.node ≡ true → IsStep setting item.node (places item.node) item.step
    → MayHappen setting state item.node item.step
    → Holds setting (state_after setting e (actions_of item.node item.step) state) (places_after setting places item) (said ++ said_by item.node (places item.node) item.step)
step_holds setting e item state places said h member is may =
    let n = item.node in
    let ds = actions_of n item.step in
    let place = place_after setting n (places n) item.step in
    let own = are_own setting n (places n) item.step is in
    let c = can_step setting e n (places n) item.step state member (h.lost n member) is may in
    let last = state_after setting e ds state in
    record {
      lost = λ m here.
          at_place n place places m (λ z. last.lost m ≡ is_gone z)
          (λ (same : m ≡ n). ap (λ k. last.lost k) same ∙ c.own_lost)
          (λ (differ : m ≡ n → ⊥). c.lost m differ ∙ h.lost m here);
      stands = λ m here.
          at_place n place places m (λ z. Stands m (last.processes m) z)
          (λ (same : m ≡ n).
          subst (λ k. Stands k (last.processes k) place) (sym same)
          (subst (λ p. Stands n p place) (sym (own_is setting e n ds state c.can own)) (own_step setting n e (places n) item.step (state.processes n) (h.stands n member) is)))
          (λ (differ : m ≡ n → ⊥). subst (λ p. Stands m p (places m)) (sym (others_stay setting e n m ds state own differ)) (h.stands m here));
      offered = ap (map said_by_output) (own_offered setting e n ds state c.can own)
          ∙ map-append said_by_output state.offered (own_offers setting n e ds (state.processes n))
          ∙ ap (λ l. l ++ map said_by_output (own_offers setting n e ds (state.processes n))) h.offered
          ∙ ap (λ l. said ++ l) (own_says setting n e (places n) item.step (state.processes n) (h.stands n member) is);
    }

-- ---- the steps of all nodes

-- each member's steps among the items are its own, from its place on
abbrev pub AllSteps : Setting → (ℕ → Place) → List Item → Type 0
AllSteps setting places items = (node : ℕ) → is_member setting.n node ≡ true → AreSteps setting node (places node) (steps_at node items)

pub own_steps : (node : ℕ) (item : Item) (items : List Item) → node ≡ item.node → steps_at node (item ∷ items) ≡ item.step ∷ steps_at node items
own_steps node item items same = ap (λ l. l ++ steps_at node items) (cond-true (eqb node item.node) (item.step ∷ []) [] (eq-eqb node item.node same))

pub other_steps : (node : ℕ) (item : Item) (items : List Item) → (node ≡ item.node → ⊥) → steps_at node (item ∷ items) ≡ steps_at node items
other_steps node item items differ = ap (λ l. l ++ steps_at node items) (cond-false (eqb node item.node) (item.step ∷ []) [] (ne_eqb node item.node differ))

-- the first item's step
pub first_step : (setting : Setting) (places : ℕ → Place) (item : Item) (items : List Item) → is_member setting.n item.node ≡ true → AllSteps setting places (item ∷ items) → IsStep setting item.node (places item.node) item.step
first_step setting places item items member all =
    (subst (λ l. AreSteps setting item.node (places item.node) l) (own_steps item.node item items refl) (all item.node member)).0

-- the others' steps
pub rest_steps : (setting : Setting) (places : ℕ → Place) (item : Item) (items : List Item) → is_member setting.n item.node ≡ true → AllSteps setting places (item ∷ items) → AllSteps setting (places_after setting places item) items
rest_steps setting places item items member all = λ m here.
    let n = item.node in
    at_place n (place_after setting n (places n) item.step) places m (λ place. AreSteps setting m place (steps_at m items))
    (λ (same : m ≡ n).
    subst (λ k. AreSteps setting k (place_after setting n (places n) item.step) (steps_at k items)) (sym same)
    (subst (λ l. AreSteps setting n (places n) l) (own_steps n item items refl) (all n member)).1)
    (λ (differ : m ≡ n → ⊥). subst (λ l. AreSteps setting m (places m) l) (other_steps m item items differ) (all m here))

-- the node after its steps among the items
ends_at : (setting : Setting) (node : ℕ) (item : Item) (items : List Item) (places : ℕ → Place)
    → place_in_end setting node (places_after setting places item node) (steps_at node items) ≡ place_in_end setting node (places node) (steps_at node (item ∷ items))
ends_at setting node item items places =
    at_place item.node (place_after setting item.node (places item.node) item.step) places node
    (λ place. place_in_end setting node place (steps_at node items) ≡ place_in_end setting node (places node) (steps_at node (item ∷ items)))
    (λ (same : node ≡ item.node).
    ap (λ k. place_in_end setting node (place_after setting k (places k) item.step) (steps_at node items)) (sym same)
    ∙ ap (place_in_end setting node (places node)) (sym (own_steps node item items same)))
    (λ (differ : node ≡ item.node → ⊥). ap (place_in_end setting node (places node)) (sym (other_steps node item items differ)))

-- each replacement among the items is allowed, from the state on
abbrev pub AllMay : Setting → ℕ → State → List Item → Type 0
AllMay setting e state [] = Unit {0}
AllMay setting e state (item ∷ items) =
    let ds = actions_of item.node item.step in
    MayHappen setting state item.node item.step × AllMay setting (number_after ds e) (state_after setting e ds state) items

history_append : (xs ys : List Item) → history_of (xs ++ ys) ≡ history_of xs ++ history_of ys
history_append [] ys = refl
history_append (x ∷ xs) ys = ap (λ l. actions_of x.node x.step ++ l) (history_append xs ys) ∙ sym (append_assoc (actions_of x.node x.step) (history_of xs) (history_of ys))

-- the rule for the items, each after those before it
abbrev Replaced : Setting → List Item → Type 0
Replaced setting items = (before later : List Item) (node boot : ℕ) (given : List ℕ) (floor : ℕ → ℕ) → items ≡ before ++ (record { node = node; step = Gets boot given floor }) ∷ later
    → may_be_remade setting (state_of setting (history_of before)) node boot given floor ≡ true

this_may : (setting : Setting) (before later : List Item) (node : ℕ) (step : Step) → Replaced setting (before ++ (record { node = node; step = step }) ∷ later) → MayHappen setting (state_of setting (history_of before)) node step
this_may setting before later node (Gets boot given floor) h = h before later node boot given floor refl
this_may setting before later node (Starts terms port) h = tt
this_may setting before later node (Hears receipt) h = tt
this_may setting before later node (Commits inputs) h = tt
this_may setting before later node (Says telling) h = tt
this_may setting before later node (Pauses cleared) h = tt
this_may setting before later node (Ends kept) h = tt
this_may setting before later node (Does d) h = tt
this_may setting before later node Loses h = tt

pub all_may : (setting : Setting) (before items : List Item) → Replaced setting (before ++ items) → AllMay setting (number_after (history_of before) 0) (state_of setting (history_of before)) items
all_may setting before [] h = tt
all_may setting before (item ∷ items) h =
    let ds = actions_of item.node item.step in
    let next = before ++ item ∷ [] in
    let number = number_after (history_of before) 0 in
    let state = state_of setting (history_of before) in
    let whole : history_of next ≡ history_of before ++ ds = history_append before (item ∷ []) ∙ ap (λ l. history_of before ++ l) (append-nil ds) in
    let rest = all_may setting next items (subst (Replaced setting) (sym (append_assoc before (item ∷ []) items)) h) in
    let numbered : number_after (history_of next) 0 ≡ number_after ds number = ap (λ l. number_after l 0) whole ∙ append_number 0 (history_of before) ds in
    let stated : state_of setting (history_of next) ≡ state_after setting number ds state = ap (state_of setting) whole ∙ append_state setting 0 (history_of before) ds (first_state setting) in (
      this_may setting before items item.node item.step h,
      subst (λ k. AllMay setting k (state_after setting number ds state) items) numbered (subst (λ z. AllMay setting (number_after (history_of next) 0) z items) stated rest),
    )

item_next : (before : List Item) (item : Item) → history_of (before ++ item ∷ []) ≡ history_of before ++ actions_of item.node item.step
item_next before item = history_append before (item ∷ []) ∙ ap (λ l. history_of before ++ l) (append-nil (actions_of item.node item.step))

first_same : (x y : Item) (xs ys : List Item) → x ∷ xs ≡ y ∷ ys → x ≡ y
first_same x y xs ys e = cc

rest_same : (x y : Item) (xs ys : List Item) → x ∷ xs ≡ y ∷ ys → xs ≡ ys
rest_same x y xs ys e = cc

no_items : (x : Item) (xs : List Item) → [] ≡ x ∷ xs → ⊥
no_items x xs e = cc

-- the other way round
may_after : (setting : Setting) (done items before later : List Item) (node boot : ℕ) (given : List ℕ) (floor : ℕ → ℕ) → AllMay setting (number_after (history_of done) 0) (state_of setting (history_of done)) items
    → items ≡ before ++ (record { node = node; step = Gets boot given floor }) ∷ later → may_be_remade setting (state_of setting (history_of (done ++ before))) node boot given floor ≡ true
may_after setting done [] [] later node boot given floor all is = absurd (no_items _ later is)
may_after setting done [] (b ∷ before) later node boot given floor all is = absurd (no_items b _ is)
may_after setting done (item ∷ items) [] later node boot given floor all is =
    let one : Item = record { node = node; step = Gets boot given floor } in
    subst (λ l. may_be_remade setting (state_of setting (history_of l)) node boot given floor ≡ true) (sym (append-nil done))
    (subst (λ (x : Item). MayHappen setting (state_of setting (history_of done)) x.node x.step) (first_same item one items later is) all.0)
may_after setting done (item ∷ items) (b ∷ before) later node boot given floor all is =
    let one : Item = record { node = node; step = Gets boot given floor } in
    let ds = actions_of item.node item.step in
    let next = done ++ item ∷ [] in
    let number = number_after (history_of done) 0 in
    let state = state_of setting (history_of done) in
    let whole = item_next done item in
    let numbered : number_after (history_of next) 0 ≡ number_after ds number = ap (λ l. number_after l 0) whole ∙ append_number 0 (history_of done) ds in
    let stated : state_of setting (history_of next) ≡ state_after setting number ds state = ap (state_of setting) whole ∙ append_state setting 0 (history_of done) ds (first_state setting) in
    let there : AllMay setting (number_after (history_of next) 0) (state_of setting (history_of next)) items =
    subst (λ k. AllMay setting k (state_of setting (history_of next)) items) (sym numbered) (subst (λ z. AllMay setting (number_after ds number) z items) (sym stated) all.1) in
    subst (λ l. may_be_remade setting (state_of setting (history_of l)) node boot given floor ≡ true)
    (append_assoc done (item ∷ []) before ∙ ap (λ x. done ++ x ∷ before) (first_same item b items (before ++ one ∷ later) is))
    (may_after setting next items before later node boot given floor there (rest_same item b items (before ++ one ∷ later) is))

pub all_replaced : (setting : Setting) (items : List Item) → AllMay setting 0 (first_state setting) items → (before later : List Item) (node boot : ℕ) (given : List ℕ) (floor : ℕ → ℕ) → items ≡ before ++ (record { node = node; step = Gets boot given floor }) ∷ later
    → may_be_remade setting (state_of setting (history_of before)) node boot given floor ≡ true
unfolding state_after
all_replaced setting items all before later node boot given floor is = may_after setting [] items before later node boot given floor all is

-- the state after the items
record After (setting : Setting) (e : ℕ) (items : List Item) (state : State) (places : ℕ → Place) (said : List Said) : Type 0 where
  stands : (node : ℕ) → is_member setting.n node ≡ true → Stands node ((state_after setting e (history_of items) state).processes node) (place_in_end setting node (places node) (steps_at node items))
  offered : map said_by_output (state_after setting e (history_of items) state).offered ≡ said ++ said_in setting places items

after : (setting : Setting) (e : ℕ) (items : List Item) (state : State) (places : ℕ → Place) (said : List Said) → Holds setting state places said → AreOfMembers setting items → AllSteps setting places items → AllMay setting e state items → After setting e items state places said
unfolding state_after
after setting e [] state places said h members all may = record { stands = h.stands; offered = h.offered ∙ sym (append-nil said) }
after setting e (item ∷ items) state places said h members all may =
    let n = item.node in
    let ds = actions_of n item.step in
    let is = first_step setting places item items members.0 all in
    let more = said_by n (places n) item.step in
    let next = places_after setting places item in
    let r = after setting (number_after ds e) items (state_after setting e ds state) next (said ++ more)
    (step_holds setting e item state places said h members.0 is may.0) members.1 (rest_steps setting places item items members.0 all) may.1 in
    let whole = append_state setting e ds (history_of items) state in
    record {
      stands = λ m here.
          subst (λ (z : State). Stands m (z.processes m) (place_in_end setting m (places m) (steps_at m (item ∷ items)))) (sym whole)
          (subst (λ place. Stands m ((state_after setting (number_after ds e) (history_of items) (state_after setting e ds state)).processes m) place) (ends_at setting m item items places) (r.stands m here));
      offered = ap (λ (z : State). map said_by_output z.offered) whole ∙ r.offered ∙ append_assoc said more (said_in setting next items);
    }

old_said : (xs : List Sealed) → map said_by_output (map (λ (sealed : Sealed). ToPeer sealed) xs) ≡ map (λ (sealed : Sealed). said_by_output (ToPeer sealed)) xs
old_said [] = refl
old_said (x ∷ xs) = ap (λ l. said_by_output (ToPeer x) ∷ l) (old_said xs)

-- before the first step
pub first_holds : (setting : Setting) → Holds setting (first_state setting) (first_place setting) (said_before setting)
first_holds setting = record { lost = λ node member. refl; stands = λ node member. refl; offered = old_said setting.old }

pub nodes : (setting : Setting) (items : List Item) (node : ℕ) → IsInterleaving setting items → is_member setting.n node ≡ true
    → Stands node ((state_of setting (history_of items)).processes node) (place_in_end setting node (first_place setting node) (steps_at node items))
unfolding state_after
nodes setting items node is member = (after setting 0 items (first_state setting) (first_place setting) (said_before setting) (first_holds setting) is.members is.steps (all_may setting [] items is.replaced)).stands node member

pub offered : (setting : Setting) (items : List Item) → IsInterleaving setting items → map said_by_output (state_of setting (history_of items)).offered ≡ said_before setting ++ said_in setting (first_place setting) items
unfolding state_after
offered setting items is = (after setting 0 items (first_state setting) (first_place setting) (said_before setting) (first_holds setting) is.members is.steps (all_may setting [] items is.replaced)).offered

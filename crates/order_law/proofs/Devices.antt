-- The processes that open stores in an interleaving are those that start in the nodes' steps.
use Rattle.std.proofs.Common.{◌≡◌, ℕ, zero, suc, ⊎_elim, true, List, [], ◌∷◌, ◌++◌, take, Option, Some, None, refl, sym, ap, ◌∙◌, subst}
use Rattle.std.specs.List.{slice_get}
use Rattle.std.proofs.lemmas.Option.{none-some, same_Some}
use Rattle.vote_core.specs.Schedule.{is_member}
use Rattle.oath_node.specs.Machine.{NodeEvent}
use Rattle.book_law.specs.Lives.{Action, Down, Enrols, FailsToOpen, Loses as LosesStore, Offers, Opens, OpensGate, Raises, Remakes, Setting, State, Stops, StopsIn, Store, Takes, Terms, Unlocks, first_state, node_of_action, state_after, store_at}
use Rattle.book_law.specs.Seeds.{AreGreatest, HaveSeedsOnce, IsOpenedIn, OpensGreatest}
use Rattle.book_law.specs.Uses.{IsWriting, clearing}
use Rattle.book_law.proofs.Openings.{IsOpening, NoOpening, both_none, no_opening, place, same_terms}
use Rattle.book_law.proofs.Own.{number_after}
use Rattle.order_law.specs.Devices.{AreGreatestSteps, IsGreatestStep}
use Rattle.order_law.specs.Interleavings.{AreOfMembers, IsInterleaving, Item, Said, Stands, first_place, history_of, places_after, said_before, said_by, steps_at}
use Rattle.order_law.specs.Steps.{AreOfProcess, Closed, Commits, Does, Ends, Gets, Gone, Hears, IsStep, Loses, Open, Pauses, Place, Says, Starts, Step, actions_of, place_after, place_in_end, takings}
use Rattle.order_law.proofs.Walk.{AllMay, AllSteps, Holds, all_may, append_state, at_place, first_holds, first_step, other_steps, own_steps, rest_steps, step_holds}

-- ---- actions without an opening

takings_none : (node at : ℕ) (inputs : List NodeEvent) → NoOpening node (takings at inputs)
takings_none node at [] k terms is = none-some (Opens node terms) is
takings_none node at (input ∷ inputs) zero terms is = no_opening (Takes at input) node terms (λ q. q) is
takings_none node at (input ∷ inputs) (suc k) terms is = takings_none node at inputs k terms is

single : (node : ℕ) (d : Action) → (IsOpening d → ⊥) → NoOpening node (d ∷ [])
single node d none zero terms is = no_opening d node terms none is
single node d none (suc k) terms is = none-some (Opens node terms) is

clearing_none : (node at : ℕ) (cleared : Option ℕ) → NoOpening node (clearing at cleared)
clearing_none node at None k terms is = none-some (Opens node terms) is
clearing_none node at (Some token) k terms is = single node (OpensGate at token) (λ q. q) k terms is

writing_none : (at : ℕ) (d : Action) → IsWriting at d → IsOpening d → ⊥
writing_none at (Opens node terms) w o = w
writing_none at (FailsToOpen node raised) w o = o
writing_none at (Takes node input) w o = o
writing_none at (Offers node) w o = o
writing_none at (Stops node) w o = o
writing_none at (StopsIn node kept input) w o = o
writing_none at (LosesStore node) w o = o
writing_none at (Remakes node boot given floor) w o = o
writing_none at (Enrols node token floor) w o = o
writing_none at (Unlocks node token) w o = o
writing_none at (OpensGate node token) w o = o
writing_none at (Raises node token floor) w o = o

-- ---- the store that a step opens

abbrev Known : (ℕ → ℕ) → Terms → Store → Type 0
Known seed terms store = HaveSeedsOnce seed terms.seats × AreGreatest seed terms.seats store

-- an opening among the actions of a step, with others after them
opens_in_step : (seed : ℕ → ℕ) (setting : Setting) (e n : ℕ) (at : Place) (step : Step) (state : State) (later : List Action) (k node : ℕ) (terms : Terms) (store : Store)
    → IsStep setting n at step → Stands n (state.processes n) at → IsGreatestStep seed at step → slice_get (actions_of n step) k ≡ Some (Opens node terms)
    → (state_after setting e (take k (actions_of n step ++ later)) state).processes node ≡ Down store → Known seed terms store
unfolding state_after
opens_in_step seed setting e n (Closed found) (Starts own port) state later zero node terms store is stands known opens down =
    let same : n ≡ node = ap node_of_action (same_Some (Opens n own) (Opens node terms) opens) in
    let there : found ≡ store = ap store_at (sym stands ∙ ap state.processes same ∙ down) in
    subst (λ (t : Terms). Known seed t store) (same_terms n node own terms opens) (subst (Known seed own) there known)
opens_in_step seed setting e n (Closed found) (Starts own port) state later (suc k) node terms store is stands known opens down = absurd (none-some (Opens node terms) opens)
opens_in_step seed setting e n (Closed found) (Hears receipt) state later k node terms store is stands known opens down = absurd is
opens_in_step seed setting e n (Closed found) (Commits inputs) state later k node terms store is stands known opens down = absurd is
opens_in_step seed setting e n (Closed found) (Says telling) state later k node terms store is stands known opens down = absurd is
opens_in_step seed setting e n (Closed found) (Pauses cleared) state later k node terms store is stands known opens down = absurd is
opens_in_step seed setting e n (Closed found) (Ends kept) state later k node terms store is stands known opens down = absurd is
opens_in_step seed setting e n (Closed found) (Does d) state later k node terms store is stands known opens down = absurd (single node d (writing_none n d is) k terms opens)
opens_in_step seed setting e n (Closed found) Loses state later k node terms store is stands known opens down = absurd (single node (LosesStore n) (λ q. q) k terms opens)
opens_in_step seed setting e n (Closed found) (Gets boot given floor) state later k node terms store is stands known opens down = absurd is
opens_in_step seed setting e n (Open live) (Starts own port) state later k node terms store is stands known opens down = absurd is
opens_in_step seed setting e n (Open live) (Hears receipt) state later k node terms store is stands known opens down = absurd (none-some (Opens node terms) opens)
opens_in_step seed setting e n (Open live) (Commits inputs) state later k node terms store is stands known opens down = absurd (takings_none node n inputs k terms opens)
opens_in_step seed setting e n (Open live) (Says telling) state later k node terms store is stands known opens down = absurd (single node (Offers n) (λ q. q) k terms opens)
opens_in_step seed setting e n (Open live) (Pauses cleared) state later k node terms store is stands known opens down = absurd (clearing_none node n cleared k terms opens)
opens_in_step seed setting e n (Open live) (Ends kept) state later k node terms store is stands known opens down = absurd (both_none node (takings n kept) (Stops n ∷ []) (takings_none node n kept) (single node (Stops n) (λ q. q)) k terms opens)
opens_in_step seed setting e n (Open live) (Does d) state later k node terms store is stands known opens down = absurd is
opens_in_step seed setting e n (Open live) Loses state later k node terms store is stands known opens down = absurd (single node (LosesStore n) (λ q. q) k terms opens)
opens_in_step seed setting e n (Open live) (Gets boot given floor) state later k node terms store is stands known opens down = absurd is
opens_in_step seed setting e n (Gone former) (Starts own port) state later k node terms store is stands known opens down = absurd is
opens_in_step seed setting e n (Gone former) (Hears receipt) state later k node terms store is stands known opens down = absurd is
opens_in_step seed setting e n (Gone former) (Commits inputs) state later k node terms store is stands known opens down = absurd is
opens_in_step seed setting e n (Gone former) (Says telling) state later k node terms store is stands known opens down = absurd is
opens_in_step seed setting e n (Gone former) (Pauses cleared) state later k node terms store is stands known opens down = absurd is
opens_in_step seed setting e n (Gone former) (Ends kept) state later k node terms store is stands known opens down = absurd is
opens_in_step seed setting e n (Gone former) (Does d) state later k node terms store is stands known opens down = absurd is
opens_in_step seed setting e n (Gone former) Loses state later k node terms store is stands known opens down = absurd is
opens_in_step seed setting e n (Gone former) (Gets boot given floor) state later k node terms store is stands known opens down = absurd (single node (Remakes n boot given floor) (λ q. q) k terms opens)

-- ---- the steps of all nodes

-- each member's steps among the items keep the rule, from its place on
abbrev AllGreatest : (ℕ → ℕ) → Setting → (ℕ → Place) → List Item → Type 0
AllGreatest seed setting places items = (node : ℕ) → is_member setting.n node ≡ true → AreGreatestSteps seed setting node (places node) (steps_at node items)

first_greatest : (seed : ℕ → ℕ) (setting : Setting) (places : ℕ → Place) (item : Item) (items : List Item) → is_member setting.n item.node ≡ true → AllGreatest seed setting places (item ∷ items) → IsGreatestStep seed (places item.node) item.step
first_greatest seed setting places item items member all =
    (subst (λ l. AreGreatestSteps seed setting item.node (places item.node) l) (own_steps item.node item items refl) (all item.node member)).0

rest_greatest : (seed : ℕ → ℕ) (setting : Setting) (places : ℕ → Place) (item : Item) (items : List Item) → is_member setting.n item.node ≡ true → AllGreatest seed setting places (item ∷ items) → AllGreatest seed setting (places_after setting places item) items
rest_greatest seed setting places item items member all = λ m here.
    let n = item.node in
    at_place n (place_after setting n (places n) item.step) places m (λ at. AreGreatestSteps seed setting m at (steps_at m items))
    (λ (same : m ≡ n).
    subst (λ k. AreGreatestSteps seed setting k (place_after setting n (places n) item.step) (steps_at k items)) (sym same)
    (subst (λ l. AreGreatestSteps seed setting n (places n) l) (own_steps n item items refl) (all n member)).1)
    (λ (differ : m ≡ n → ⊥). subst (λ l. AreGreatestSteps seed setting m (places m) l) (other_steps m item items differ) (all m here))

opens_known : (seed : ℕ → ℕ) (setting : Setting) (e : ℕ) (items : List Item) (state : State) (places : ℕ → Place) (said : List Said) → Holds setting state places said → AreOfMembers setting items → AllSteps setting places items → AllMay setting e state items
    → AllGreatest seed setting places items → (k node : ℕ) (terms : Terms) (store : Store) → slice_get (history_of items) k ≡ Some (Opens node terms) → (state_after setting e (take k (history_of items)) state).processes node ≡ Down store → Known seed terms store
opens_known seed setting e [] state places said h members all may known k node terms store opens down = absurd (none-some (Opens node terms) opens)
opens_known seed setting e (item ∷ items) state places said h members all may known k node terms store opens down =
    let n = item.node in
    let ds = actions_of n item.step in
    let is = first_step setting places item items members.0 all in
    let more = said_by n (places n) item.step in
    let rest = history_of items in
    ⊎_elim (λ (q : slice_get ds k ≡ Some (Opens node terms)).
    opens_in_step seed setting e n (places n) item.step state rest k node terms store is (h.stands n members.0) (first_greatest seed setting places item items members.0 known) q down)
    (λ (r : (m : ℕ) × (slice_get rest m ≡ Some (Opens node terms)) × (take k (ds ++ rest) ≡ ds ++ take m rest)).
    opens_known seed setting (number_after ds e) items (state_after setting e ds state) (places_after setting places item) (said ++ more)
    (step_holds setting e item state places said h members.0 is may.0) members.1 (rest_steps setting places item items members.0 all) may.1 (rest_greatest seed setting places item items members.0 known)
    r.0 node terms store r.1
    (ap (λ (z : State). z.processes node) (sym (append_state setting e ds (take r.0 rest) state)) ∙ ap (λ l. (state_after setting e l state).processes node) (sym r.2) ∙ down))
    (place ds rest k (Opens node terms) opens)

pub opens_greatest : (seed : ℕ → ℕ) (setting : Setting) (items : List Item) → IsInterleaving setting items
    → ((node : ℕ) → is_member setting.n node ≡ true → AreGreatestSteps seed setting node (first_place setting node) (steps_at node items)) → OpensGreatest seed setting (history_of items)
unfolding state_after
opens_greatest seed setting items is known =
    let all : (k node : ℕ) (terms : Terms) (store : Store) → IsOpenedIn setting (history_of items) k node terms store → Known seed terms store = λ k node terms store o.
    opens_known seed setting 0 items (first_state setting) (first_place setting) (said_before setting) (first_holds setting) is.members is.steps (all_may setting [] items is.replaced) known k node terms store o.opens o.down in
    record { once = λ k node terms store o. (all k node terms store o).0; greatest = λ k node terms store o. (all k node terms store o).1 }

-- ---- steps one after the other

pub greatest_steps_append : (seed : ℕ → ℕ) (setting : Setting) (node : ℕ) (at : Place) (first later : List Step) → AreGreatestSteps seed setting node at first → AreGreatestSteps seed setting node (place_in_end setting node at first) later
    → AreGreatestSteps seed setting node at (first ++ later)
greatest_steps_append seed setting node at [] later one other = other
greatest_steps_append seed setting node at (step ∷ first) later one other = (one.0, greatest_steps_append seed setting node (place_after setting node at step) first later one.1 other)

pub first_greatest_steps : (seed : ℕ → ℕ) (setting : Setting) (node : ℕ) (at : Place) (first later : List Step) → AreGreatestSteps seed setting node at (first ++ later) → AreGreatestSteps seed setting node at first
first_greatest_steps seed setting node at [] later are = tt
first_greatest_steps seed setting node at (step ∷ first) later are = (are.0, first_greatest_steps seed setting node (place_after setting node at step) first later are.1)

-- the step starts no process
abbrev pub IsNoStart : Step → Type 0
IsNoStart (Starts terms port) = ⊥
IsNoStart step = Unit {0}

pub no_start : (seed : ℕ → ℕ) (at : Place) (step : Step) → IsNoStart step → IsGreatestStep seed at step
no_start seed (Closed store) (Starts terms port) none = absurd none
no_start seed (Closed store) (Hears receipt) none = tt
no_start seed (Closed store) (Commits inputs) none = tt
no_start seed (Closed store) (Says telling) none = tt
no_start seed (Closed store) (Pauses cleared) none = tt
no_start seed (Closed store) (Ends kept) none = tt
no_start seed (Closed store) (Does d) none = tt
no_start seed (Closed store) Loses none = tt
no_start seed (Closed store) (Gets boot given floor) none = tt
no_start seed (Open live) step none = tt
no_start seed (Gone former) step none = tt

-- the steps of one process start none
pub process_greatest : (seed : ℕ → ℕ) (setting : Setting) (node : ℕ) (at : Place) (steps : List Step) → AreOfProcess steps → AreGreatestSteps seed setting node at steps
process_greatest seed setting node at [] are = tt
process_greatest seed setting node at (Hears receipt ∷ steps) are = (no_start seed at (Hears receipt) tt, process_greatest seed setting node (place_after setting node at (Hears receipt)) steps are.1)
process_greatest seed setting node at (Commits inputs ∷ steps) are = (no_start seed at (Commits inputs) tt, process_greatest seed setting node (place_after setting node at (Commits inputs)) steps are.1)
process_greatest seed setting node at (Says telling ∷ steps) are = (no_start seed at (Says telling) tt, process_greatest seed setting node (place_after setting node at (Says telling)) steps are.1)
process_greatest seed setting node at (Pauses cleared ∷ steps) are = (no_start seed at (Pauses cleared) tt, process_greatest seed setting node (place_after setting node at (Pauses cleared)) steps are.1)
process_greatest seed setting node at (Starts terms port ∷ steps) are = absurd are.0
process_greatest seed setting node at (Ends kept ∷ steps) are = absurd are.0
process_greatest seed setting node at (Does d ∷ steps) are = absurd are.0
process_greatest seed setting node at (Loses ∷ steps) are = absurd are.0
process_greatest seed setting node at (Gets boot given floor ∷ steps) are = absurd are.0

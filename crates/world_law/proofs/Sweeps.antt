-- A sweep of a history does what a sweep of the world does.
use Rattle.std.proofs.Common.{◌≡◌, ℕ, zero, suc, ◌+◌, max, Bool, true, false, not, cond, ◌&&◌, List, [], ◌∷◌, ◌++◌, length, map, Some, refl, sym, ap, ◌∙◌, subst, arith, eqb, drop}
use Rattle.std.specs.List.{filter, slice_get}
use Rattle.std.proofs.Math.Seq.{drop-append_seam}
use Rattle.std.proofs.lemmas.Bool.{cond_both, eq-eqb, eqb-true, and_parts, false≢true, or_left, or_right}
use Rattle.vote_core.proofs.Basics.{Each, each_all, each_append, each_map}
use Rattle.vote_core.specs.Rows.{row}
use Rattle.vote_core.specs.Schedule.{Envelope, envelope_from, is_member}
use Rattle.vote_core.specs.declared.message.Message.{Message}
use Rattle.oath_node.specs.Machine.{Config, NodeEvent, NodeState, Peer, Tick}
use Rattle.cluster_sim.proofs.BelowLaws.{GroundLaw}
use Rattle.cluster_sim.proofs.Owners.{get_more}
use Rattle.cluster_sim.specs.Rounds.{AreUp, SweepLevels, deliveries, greatest, is_floor, is_floor_to, is_live, sweep_events, tick_events, turn_events, turns_events}
use Rattle.cluster_sim.specs.World.{Act, Deliver, MayStart, Ticks, World, WorldEvent, Happens, acting_node, delivered_event, has_store as has_store_there, node_event_of, opening_world, world_after_act, world_after_event, world_after_events, world_of, world_with_made}
use Rattle.book_law.specs.Lives.{Action, Opens, FailsToOpen, Takes, Offers, Stops, StopsIn, Loses, Remakes, Enrols, Unlocks, OpensGate, Raises, Output, Process, Setting, State, Store, Terms, Down, Up, first_state, floor_of, has_store, made_by_input, node_of_action, process_after, process_enrolled, process_half_opened, process_opened, state_after, state_after_action, state_of, store_at}
use Rattle.book_law.proofs.Serving.{LeavesStore, action_at, can_there, store_left}
use Rattle.world_law.specs.Steady.{SteadyCluster, nodes_of, setting_of, start_of, terms_of, tokens_of}
use Rattle.world_law.specs.Sweeps.{AreTaken, AreTurns, IsTick, IsTurn, SweepsLevel, greatest_in, is_offer, is_step_of, next_in, sent_by_tick}
use Rattle.world_law.proofs.Follow.{IsProcessAt, IsServed, acts, has_it, made_served, next_in as next_of, step_low}
use Rattle.world_law.proofs.Ran.{JustifiedLaw, Ran, ran_events, ran_next, ran_start, run_append}
use Rattle.world_law.proofs.Runs.{length_append, may_start, states_append, whole_run}

-- ---- processes that differ in what waits alone

abbrev SameProcess : Process → Process → Type 0
SameProcess (Down store) (Down other) = store ≡ other
SameProcess (Down store) (Up terms below t v) = ⊥
SameProcess (Up terms below s w) (Down store) = ⊥
SameProcess (Up terms below s w) (Up under over t v) = (terms ≡ under) × (below ≡ over) × (s ≡ t)

same_self : (a : Process) → SameProcess a a
same_self (Down store) = refl
same_self (Up terms below s w) = (refl, refl, refl)

down_after : (setting : Setting) (e e' : ℕ) (d : Action) (store : Store) → SameProcess (process_after setting e d (Down store)) (process_after setting e' d (Down store))
down_after setting e e' (Opens i terms) store = same_self (process_opened terms store)
down_after setting e e' (FailsToOpen i raised) store = same_self (process_half_opened raised store)
down_after setting e e' (Takes i input) store = refl
down_after setting e e' (Offers i) store = refl
down_after setting e e' (Stops i) store = refl
down_after setting e e' (StopsIn i kept input) store = refl
down_after setting e e' (Loses i) store = refl
down_after setting e e' (Remakes i boot given floor) store = refl
down_after setting e e' (Enrols i token floor) store = same_self (process_enrolled setting token floor store)
down_after setting e e' (Unlocks i token) store = refl
down_after setting e e' (OpensGate i token) store = refl
down_after setting e e' (Raises i token floor) store = refl

up_after : (setting : Setting) (e e' : ℕ) (d : Action) (terms : Terms) (below : Store) (s : NodeState) (w v : List Output) → SameProcess (process_after setting e d (Up terms below s w)) (process_after setting e' d (Up terms below s v))
up_after setting e e' (Opens i own) terms below s w v = (refl, refl, refl)
up_after setting e e' (FailsToOpen i raised) terms below s w v = (refl, refl, refl)
up_after setting e e' (Takes i input) terms below s w v = (refl, refl, refl)
up_after setting e e' (Offers i) terms below s [] [] = (refl, refl, refl)
up_after setting e e' (Offers i) terms below s [] (h ∷ v) = (refl, refl, refl)
up_after setting e e' (Offers i) terms below s (h ∷ w) [] = (refl, refl, refl)
up_after setting e e' (Offers i) terms below s (h ∷ w) (k ∷ v) = (refl, refl, refl)
up_after setting e e' (Stops i) terms below s w v = refl
up_after setting e e' (StopsIn i false input) terms below s w v = refl
up_after setting e e' (StopsIn i true input) terms below s w v = refl
up_after setting e e' (Loses i) terms below s w v = refl
up_after setting e e' (Remakes i boot given floor) terms below s w v = (refl, refl, refl)
up_after setting e e' (Enrols i token floor) terms below s w v = (refl, refl, refl)
up_after setting e e' (Unlocks i token) terms below s w v = (refl, refl, refl)
up_after setting e e' (OpensGate i token) terms below s w v = (refl, refl, refl)
up_after setting e e' (Raises i token floor) terms below s w v = (refl, refl, refl)

same_after : (setting : Setting) (e e' : ℕ) (d : Action) (a b : Process) → SameProcess a b → SameProcess (process_after setting e d a) (process_after setting e' d b)
same_after setting e e' d (Down store) (Down other) h = subst (λ z. SameProcess (process_after setting e d (Down store)) (process_after setting e' d (Down z))) h (down_after setting e e' d store)
same_after setting e e' d (Down store) (Up under over t v) h = absurd h
same_after setting e e' d (Up terms below s w) (Down store) h = absurd h
same_after setting e e' d (Up terms below s w) (Up under over t v) h =
    let old = process_after setting e d (Up terms below s w) in
    subst (λ z. SameProcess old (process_after setting e' d (Up z over t v))) h.0
    (subst (λ z. SameProcess old (process_after setting e' d (Up terms z t v))) h.1
    (subst (λ z. SameProcess old (process_after setting e' d (Up terms below z v))) h.2 (up_after setting e e' d terms below s w v)))

offered_same : (setting : Setting) (e i : ℕ) (a b : Process) → SameProcess a b → SameProcess (process_after setting e (Offers i) a) b
offered_same setting e i (Down store) b h = h
offered_same setting e i (Up terms below s []) b h = h
offered_same setting e i (Up terms below s (x ∷ w)) (Down store) h = h
offered_same setting e i (Up terms below s (x ∷ w)) (Up under over t v) h = h

offer_same : (setting : Setting) (e : ℕ) (d : Action) (a b : Process) → is_offer d ≡ true → SameProcess a b → SameProcess (process_after setting e d a) b
offer_same setting e (Opens i terms) a b is h = absurd (false≢true is)
offer_same setting e (FailsToOpen i raised) a b is h = absurd (false≢true is)
offer_same setting e (Takes i input) a b is h = absurd (false≢true is)
offer_same setting e (Offers i) a b is h = offered_same setting e i a b h
offer_same setting e (Stops i) a b is h = absurd (false≢true is)
offer_same setting e (StopsIn i kept input) a b is h = absurd (false≢true is)
offer_same setting e (Loses i) a b is h = absurd (false≢true is)
offer_same setting e (Remakes i boot given floor) a b is h = absurd (false≢true is)
offer_same setting e (Enrols i token floor) a b is h = absurd (false≢true is)
offer_same setting e (Unlocks i token) a b is h = absurd (false≢true is)
offer_same setting e (OpensGate i token) a b is h = absurd (false≢true is)
offer_same setting e (Raises i token floor) a b is h = absurd (false≢true is)

-- ---- states that are alike at live members

abbrev Stored : Setting → List ℕ → State → Type 0
Stored setting live x = (j : ℕ) → is_live live j ≡ true → has_store setting x j ≡ true

-- an action that takes an input; it keeps the stores
abbrev IsTake : Action → Type 0
IsTake d = (i : ℕ) × (input : NodeEvent) × (d ≡ Takes i input)

take_leaves : (j : ℕ) (d : Action) → IsTake d → LeavesStore j d
take_leaves j d t = subst (LeavesStore j) (sym t.2) tt

none_skipped : (b : Bool) → b ≡ true → (b && true) ≡ false → ⊥
none_skipped true h k = false≢true (sym k)
none_skipped false h k = false≢true h

-- so does one that is no step of a live member
skipped_leaves : (live : List ℕ) (j : ℕ) (d : Action) → is_step_of live d ≡ false → is_live live j ≡ true → LeavesStore j d
skipped_leaves live j (Opens i terms) skipped is = tt
skipped_leaves live j (FailsToOpen i raised) skipped is = tt
skipped_leaves live j (Takes i input) skipped is = tt
skipped_leaves live j (Offers i) skipped is = tt
skipped_leaves live j (Stops i) skipped is = tt
skipped_leaves live j (StopsIn i kept input) skipped is = tt
skipped_leaves live j (Enrols i token floor) skipped is = tt
skipped_leaves live j (Unlocks i token) skipped is = tt
skipped_leaves live j (OpensGate i token) skipped is = tt
skipped_leaves live j (Raises i token floor) skipped is = tt
skipped_leaves live j (Loses i) skipped is = λ own. none_skipped (is_live live i) (subst (λ m. is_live live m ≡ true) own is) skipped
skipped_leaves live j (Remakes i boot given floor) skipped is = λ own. none_skipped (is_live live i) (subst (λ m. is_live live m ≡ true) own is) skipped

abbrev Like : List ℕ → State → State → Type 0
Like live x y = (j : ℕ) → is_live live j ≡ true → SameProcess (x.processes j) (y.processes j)

same_either : (b : Bool) (a a' c c' : Process) → SameProcess a a' → SameProcess c c' → SameProcess (cond b a c) (cond b a' c')
same_either true a a' c c' h k = h
same_either false a a' c c' h k = k

like_kept : (setting : Setting) (live : List ℕ) (e e' : ℕ) (d : Action) (x y : State) → IsTake d → Stored setting live x → Stored setting live y → Like live x y → Like live (state_after_action setting e d x) (state_after_action setting e' d y)
like_kept setting live e e' d x y take stored there h j is =
    let leaves = take_leaves j d take in
    let same = same_either (eqb j (node_of_action d)) (process_after setting e d (x.processes j)) (process_after setting e' d (y.processes j)) (x.processes j) (y.processes j) (same_after setting e e' d (x.processes j) (y.processes j) (h j is)) (h j is) in
    subst (λ a. SameProcess a ((state_after_action setting e' d y).processes j)) (sym (action_at setting e j d x (can_there setting x j d (stored j is) leaves)))
    (subst (λ b. SameProcess (cond (eqb j (node_of_action d)) (process_after setting e d (x.processes j)) (x.processes j)) b) (sym (action_at setting e' j d y (can_there setting y j d (there j is) leaves))) same)

is_offered : (live b : Bool) → (live && not b) ≡ false → live ≡ true → b ≡ true
is_offered true true h is = refl
is_offered true false h is = absurd (false≢true (sym h))
is_offered false b h is = absurd (false≢true is)

like_skipped : (setting : Setting) (live : List ℕ) (e : ℕ) (d : Action) (x y : State) → is_step_of live d ≡ false → Stored setting live x → Like live x y → Like live (state_after_action setting e d x) y
like_skipped setting live e d x y skipped stored h j is =
    subst (λ a. SameProcess a (y.processes j)) (sym (action_at setting e j d x (can_there setting x j d (stored j is) (skipped_leaves live j d skipped is))))
    (cond_both (eqb j (node_of_action d)) (process_after setting e d (x.processes j)) (x.processes j) (λ a. SameProcess a (y.processes j))
    (λ q.
    let here : is_live live (node_of_action d) ≡ true = subst (λ m. is_live live m ≡ true) (eqb-true j (node_of_action d) q) is in
    offer_same setting e d (x.processes j) (y.processes j) (is_offered (is_live live (node_of_action d)) (is_offer d) skipped here) (h j is))
    (λ _. h j is))

like_filter : (setting : Setting) (live : List ℕ) (e e' : ℕ) (ds : List Action) (x y : State) → Each IsTake (filter (is_step_of live) ds) → Stored setting live x → Stored setting live y → Like live x y
    → Like live (state_after setting e ds x) (state_after setting e' (filter (is_step_of live) ds) y)
unfolding state_after
like_filter setting live e e' [] x y takes stored there h = h
like_filter setting live e e' (d ∷ ds) x y takes stored there h =
    let rest = filter (is_step_of live) ds in
    let next = state_after_action setting e d x in
    cond_both (is_step_of live d) (d ∷ rest) rest (λ l. Each IsTake l → Like live (state_after setting (suc e) ds next) (state_after setting e' l y))
    (λ _ t. like_filter setting live (suc e) (suc e') ds next (state_after_action setting e' d y) t.1
    (λ j is. store_left setting e j d x (stored j is) (take_leaves j d t.0)) (λ j is. store_left setting e' j d y (there j is) (take_leaves j d t.0)) (like_kept setting live e e' d x y t.0 stored there h))
    (λ skipped t. like_filter setting live (suc e) e' ds next y t
    (λ j is. store_left setting e j d x (stored j is) (skipped_leaves live j d skipped is)) there (like_skipped setting live e d x y skipped stored h))
    takes

-- what live members do in a sweep is that they take something
taken_takes : (node : ℕ) (es : List Envelope) (actions : List Action) → AreTaken node es actions → Each IsTake actions
taken_takes node [] actions t = subst (Each IsTake) (sym t) tt
taken_takes node (x ∷ es) actions t = subst (Each IsTake) (sym t.1) ((x.receiver, Peer node (Some x), refl), taken_takes node es t.0 t.2)

tick_takes : (cluster : SteadyCluster) (live : List ℕ) (state : State) (node : ℕ) (actions : List Action) → IsTick cluster live state node actions → Each IsTake actions
tick_takes cluster live state node actions t =
    subst (Each IsTake) (sym t.1) ((node, Tick, refl), taken_takes node (filter (is_floor_to live) (sent_by_tick cluster node (state.processes node))) t.0 t.2)

turn_takes : (cluster : SteadyCluster) (live : List ℕ) (ticks e : ℕ) (state : State) (node : ℕ) (actions : List Action) → IsTurn cluster live ticks e state node actions → Each IsTake actions
turn_takes cluster live zero e state node actions t = subst (Each IsTake) (sym t) tt
turn_takes cluster live (suc ticks) e state node actions t =
    subst (Each IsTake) (sym t.2)
    (each_append IsTake t.0 t.1 (tick_takes cluster live state node t.0 t.3) (turn_takes cluster live ticks (length t.0 + e) (state_after (setting_of cluster) e t.0 state) node t.1 t.4))

turns_take : (cluster : SteadyCluster) (live : List ℕ) (e : ℕ) (state : State) (js : List ℕ) (actions : List Action) → AreTurns cluster live e state js actions → Each IsTake actions
turns_take cluster live e state [] actions t = subst (Each IsTake) (sym t) tt
turns_take cluster live e state (j ∷ js) actions t =
    subst (Each IsTake) (sym t.2)
    (each_append IsTake t.0 t.1 (turn_takes cluster live (max (tokens_of cluster) 8) e state j t.0 t.3) (turns_take cluster live (length t.0 + e) (state_after (setting_of cluster) e t.0 state) js t.1 t.4))

-- each of these is one of them
each_live : (js live : List ℕ) → ((i : ℕ) → is_live js i ≡ true → is_live live i ≡ true) → Each (λ i. is_live live i ≡ true) js
each_live [] live h = tt
each_live (j ∷ js) live h = (h j (or_left (eqb j j) (is_live js j) (eq-eqb j j refl)), each_live js live (λ i q. h i (or_right (eqb j i) (is_live js i) q)))

-- ---- the world beside it

-- a process whose machine is the world's node, whatever waits
abbrev Holds : SteadyCluster → World → Process → NodeState → Type 0
Holds cluster w (Down store) x = ⊥
Holds cluster w (Up terms below s waiting) x = (terms ≡ terms_of cluster) × IsServed cluster w below s [] x

record Beside (cluster : SteadyCluster) (live : List ℕ) (e : ℕ) (w : World) (state : State) : Type 0 where
  ran : Ran cluster.config (start_of cluster) e w
  n : w.n ≡ nodes_of cluster
  kept : (j : ℕ) → is_live live j ≡ true → w.lost j ≡ false
  stored : Stored (setting_of cluster) live state
  processes : (j : ℕ) → is_live live j ≡ true → Holds cluster w (state.processes j) (w.nodes j)

holds_either : (cluster : SteadyCluster) (w : World) (b : Bool) (a c : Process) (x y : NodeState) → (b ≡ true → Holds cluster w a x) → (b ≡ false → Holds cluster w c y) → Holds cluster w (cond b a c) (cond b x y)
holds_either cluster w true a c x y h k = h refl
holds_either cluster w false a c x y h k = k refl

-- it holds in every world
holds_on : (cluster : SteadyCluster) (v w : World) (a : Process) (x : NodeState) → Holds cluster v a x → Holds cluster w a x
holds_on cluster v w (Down store) x h = h
holds_on cluster v w (Up terms below s waiting) x h = (h.0, record { kept = h.1.kept; state = h.1.state; known = h.1.known; unseen = h.1.unseen; waits = tt })

stored_member : (cluster : SteadyCluster) (state : State) (j : ℕ) → has_store (setting_of cluster) state j ≡ true → is_member (nodes_of cluster) j ≡ true
stored_member cluster state j h = (and_parts (not (state.lost j)) (is_member (nodes_of cluster) j) h).1

world_stored : (cluster : SteadyCluster) (live : List ℕ) (e : ℕ) (w : World) (state : State) (j : ℕ) → Beside cluster live e w state → is_live live j ≡ true → has_store_there w j ≡ true
world_stored cluster live e w state j b is = has_it w j (b.kept j is) (ap (λ n. is_member n j) b.n ∙ stored_member cluster state j (b.stored j is))

-- each of these envelopes was sent, from number k on
abbrev WereSent : ℕ → List Envelope → World → Type 0
WereSent k es w = (m : ℕ) (y : Envelope) → slice_get es m ≡ Some y → slice_get w.sent (k + m) ≡ Some y

sent_rest : (k : ℕ) (x : Envelope) (es : List Envelope) (w : World) → WereSent k (x ∷ es) w → WereSent (suc k) es w
sent_rest k x es w h = λ m y at. subst (λ n. slice_get w.sent n ≡ Some y) (omega arith) (h (suc m) y at)

sent_grows : (cluster : SteadyCluster) (e i : ℕ) (act : Act) (input : NodeEvent) (k : ℕ) (es : List Envelope) (w : World) → w.n ≡ nodes_of cluster → has_store_there w i ≡ true → acting_node act ≡ i → node_event_of w.sent act ≡ Some input
    → WereSent k es w → WereSent k es (world_after_act cluster.config e act w)
unfolding world_with_made
sent_grows cluster e i act input k es w n member at what h = λ m y there.
    let made = made_by_input (setting_of cluster) (terms_of cluster) i input (w.nodes i) in
    subst (λ (z : World). slice_get z.sent (k + m) ≡ Some y) (sym (acts cluster e i act input (w.nodes i) w n member refl at what))
    (get_more w.sent (map (envelope_from i) made.sends) (k + m) y (h m y there))

get_behind : {A : Type 0} (xs ys : List A) (m : ℕ) → slice_get (xs ++ ys) (length xs + m) ≡ slice_get ys m
get_behind [] ys m = let same : 0 + m ≡ m = omega arith in ap (λ n. slice_get ys n) same
get_behind (x ∷ xs) ys m = let same : suc (length xs) + m ≡ suc (length xs + m) = omega arith in ap (λ n. slice_get (x ∷ xs ++ ys) n) same ∙ get_behind xs ys m

held : (cluster : SteadyCluster) (w : World) (a : Process) (x : NodeState) → Holds cluster w a x → (terms : Terms) × (below : Store) × (waiting : List Output) × (a ≡ Up terms below x waiting)
held cluster w (Down store) x h = absurd h
held cluster w (Up terms below s waiting) x h = (terms, below, waiting, ap (λ z. Up terms below z waiting) (sym h.1.state))

same_holds : (cluster : SteadyCluster) (w : World) (a b : Process) (x : NodeState) → SameProcess a b → Holds cluster w b x → Holds cluster w a x
same_holds cluster w (Down store) (Down other) x h k = absurd k
same_holds cluster w (Down store) (Up under over t v) x h k = absurd h
same_holds cluster w (Up terms below s waiting) (Down store) x h k = absurd k
same_holds cluster w (Up terms below s waiting) (Up under over t v) x h k = (
  h.0 ∙ k.0,
  subst (λ (z : Store). IsServed cluster w z s [] x) (sym h.1) (subst (λ (z : NodeState). IsServed cluster w over z [] x) (sym h.2) k.1),
)

-- the floors of its store
next_held : (cluster : SteadyCluster) (w : World) (a : Process) (x : NodeState) (token : ℕ) → length x.content.rows ≡ tokens_of cluster → Holds cluster w a x → floor_of (store_at a) token ≡ (row x.content token).next
next_held cluster w (Down store) x token size h = absurd h
next_held cluster w (Up terms below s waiting) x token size h = sym (next_of cluster w (Up terms below s []) x token size h)

module _ (grounds : GroundLaw) (justified : JustifiedLaw) (cluster : SteadyCluster) (may : MayStart cluster.config (start_of cluster)) where
  abbrev setting : Setting
  setting = setting_of cluster

  abbrev config : Config
  config = cluster.config

  takes_holds : (e e' i : ℕ) (act : Act) (input : NodeEvent) (w v : World) (a : Process) (x : NodeState) → Ran config (start_of cluster) e w → w.n ≡ nodes_of cluster → has_store_there w i ≡ true → w.nodes i ≡ x → acting_node act ≡ i → node_event_of w.sent act ≡ Some input
      → Holds cluster w a x → Holds cluster v (process_after setting e' (Takes i input) a) (made_by_input setting (terms_of cluster) i input x).state
  takes_holds e e' i act input w v (Down over) x ran n store is at what h = absurd h
  takes_holds e e' i act input w v (Up terms below s waiting) x ran n store is at what h =
      let low = step_low cluster grounds justified may e i act input s w ran n store (is ∙ h.1.state) at what in
      let made = made_by_input setting (terms_of cluster) i input s in
      let served = made_served cluster grounds justified may v w i input below s [] [] x low.0 h.1 tt in (
        h.0,
        subst (λ (t : Terms). IsServed cluster v below (made_by_input setting t i input s).state [] (made_by_input setting (terms_of cluster) i input x).state) (sym h.0)
            (subst (λ (z : NodeState). IsServed cluster v below made.state [] (made_by_input setting (terms_of cluster) i input z).state) (sym h.1.state) served),
      )

  take_beside : (live : List ℕ) (e e' i : ℕ) (act : Act) (input : NodeEvent) (w : World) (state : State) → Beside cluster live e w state → is_live live i ≡ true → acting_node act ≡ i → node_event_of w.sent act ≡ Some input
      → Beside cluster live (suc e) (world_after_act config e act w) (state_after_action setting e' (Takes i input) state)
  unfolding world_with_made world_after_event
  take_beside live e e' i act input w state b is at what =
      let made = made_by_input setting (terms_of cluster) i input (w.nodes i) in
      let store = world_stored cluster live e w state i b is in
      let v : World = world_with_made e i made w in
      let same = acts cluster e i act input (w.nodes i) w b.n store refl at what in
      let next = state_after_action setting e' (Takes i input) state in
      subst (λ z. Beside cluster live (suc e) z next) (sym same)
      (record {
        ran = subst (λ z. Ran config (start_of cluster) (suc e) z) same (ran_next grounds config (start_of cluster) e (Happens act) w b.ran);
        n = b.n;
        kept = b.kept;
        stored = λ j live_j. store_left setting e' j (Takes i input) state (b.stored j live_j) tt;
        processes = λ j live_j.
            subst (λ a. Holds cluster v a (v.nodes j)) (sym (action_at setting e' j (Takes i input) state (can_there setting state j (Takes i input) (b.stored j live_j) tt)))
            (holds_either cluster v (eqb j i) (process_after setting e' (Takes i input) (state.processes j)) (state.processes j) made.state (w.nodes j)
            (λ q.
            let here = eqb-true j i q in
            subst (λ m. Holds cluster v (process_after setting e' (Takes i input) (state.processes j)) (made_by_input setting (terms_of cluster) i input (w.nodes m)).state) here
            (takes_holds e e' i act input w v (state.processes j) (w.nodes j) b.ran b.n store (ap w.nodes (sym here)) at what (b.processes j live_j)))
            (λ _. holds_on cluster w v (state.processes j) (w.nodes j) (b.processes j live_j)));
      })

  -- deliveries of the Floors among these envelopes, and that they are taken
  abbrev Delivers : List ℕ → ℕ → List Envelope → Type 0
  Delivers live node es =
      (e e' k : ℕ) (w : World) (state : State) (taken : List Action) → Beside cluster live e w state → WereSent k es w → AreTaken node (filter (is_floor_to live) es) taken
      → let events = deliveries (is_floor_to live) k es in Beside cluster live (length events + e) (world_after_events config e events w) (state_after setting e' taken state)

  later : (live : List ℕ) (a b : ℕ) (w : World) (state : State) → a ≡ b → Beside cluster live a w state → Beside cluster live b w state
  later live a b w state same h = subst (λ k. Beside cluster live k w state) same h

  deliver_one : (live : List ℕ) (node : ℕ) (x : Envelope) (es : List Envelope) (e e' k : ℕ) (w : World) (state : State) (taken : List Action) (b : Bool) → is_floor_to live x ≡ b → x.sender ≡ node → Delivers live node es → Beside cluster live e w state → WereSent k (x ∷ es) w
      → AreTaken node (cond b (x ∷ filter (is_floor_to live) es) (filter (is_floor_to live) es)) taken
      → let events = cond b (Happens (Deliver x.receiver k) ∷ deliveries (is_floor_to live) (suc k) es) (deliveries (is_floor_to live) (suc k) es) in
      Beside cluster live (length events + e) (world_after_events config e events w) (state_after setting e' taken state)
  unfolding state_after world_after_events world_after_event
  deliver_one live node x es e e' k w state taken false is own rest b sent t = rest e e' (suc k) w state taken b (sent_rest k x es w sent) t
  deliver_one live node x es e e' k w state taken true is own rest b sent t =
      let r = x.receiver in
      let act = Deliver r k in
      let input = Peer node (Some x) in
      let is_at : is_live live r ≡ true = (and_parts (is_floor x.message) (is_live live r) is).1 in
      let member = world_stored cluster live e w state r b is_at in
      let there : slice_get w.sent k ≡ Some x = subst (λ n. slice_get w.sent n ≡ Some x) (omega arith) (sent zero x refl) in
      let what : node_event_of w.sent act ≡ Some input = ap delivered_event there ∙ ap (λ s. Some (Peer s (Some x))) own in
      let v = world_after_act config e act w in
      let next = state_after_action setting e' (Takes r input) state in
      let more = sent_grows cluster e r act input (suc k) es w b.n member refl what (sent_rest k x es w sent) in
      let events = deliveries (is_floor_to live) (suc k) es in
      subst (λ l. Beside cluster live (suc (length events) + e) (world_after_events config (suc e) events v) (state_after setting e' l state)) (sym t.1)
      (later live (length events + suc e) (suc (length events) + e) (world_after_events config (suc e) events v) (state_after setting (suc e') t.0 next) (omega arith)
      (rest (suc e) (suc e') (suc k) v next t.0 (take_beside live e e' r act input w state b is_at refl what) more t.2))

  deliver_all : (live : List ℕ) (node : ℕ) (es : List Envelope) → Each (λ (x : Envelope). x.sender ≡ node) es → Delivers live node es
  unfolding state_after world_after_events
  deliver_all live node [] own = λ e e' k w state taken b sent t.
      subst (λ l. Beside cluster live (0 + e) w (state_after setting e' l state)) (sym t) (later live e (0 + e) w state (omega arith) b)
  deliver_all live node (x ∷ es) own = λ e e' k w state taken b sent t.
      deliver_one live node x es e e' k w state taken (is_floor_to live x) refl own.0 (deliver_all live node es own.1) b sent t

  ticks_send : (w : World) (node : ℕ) (a : Process) (x : NodeState) → Holds cluster w a x → sent_by_tick cluster node a ≡ map (envelope_from node) (made_by_input setting (terms_of cluster) node Tick x).sends
  ticks_send w node (Down store) x h = absurd h
  ticks_send w node (Up terms below s waiting) x h =
      ap (λ (t : Terms). map (envelope_from node) (made_by_input setting t node Tick s).sends) h.0
      ∙ ap (λ z. map (envelope_from node) (made_by_input setting (terms_of cluster) node Tick z).sends) (sym h.1.state)

  tick_beside : (live : List ℕ) (e e' node : ℕ) (w : World) (state : State) (actions : List Action) → Beside cluster live e w state → is_live live node ≡ true → IsTick cluster live state node actions
      → let events = tick_events config live e w node in Beside cluster live (length events + e) (world_after_events config e events w) (state_after setting e' actions state)
  unfolding state_after world_after_events world_after_event world_with_made
  tick_beside live e e' node w state actions b is t =
      let made = made_by_input setting (terms_of cluster) node Tick (w.nodes node) in
      let es = map (envelope_from node) made.sends in
      let v = world_after_act config e (Ticks node) w in
      let member = world_stored cluster live e w state node b is in
      let ticked : v ≡ world_with_made e node made w = acts cluster e node (Ticks node) Tick (w.nodes node) w b.n member refl refl refl in
      let sent : v.sent ≡ w.sent ++ es = ap (λ (z : World). z.sent) ticked in
      let fresh : drop (length w.sent) v.sent ≡ es = ap (λ s. drop (length w.sent) s) sent ∙ drop-append_seam w.sent es in
      let were : WereSent (length w.sent) es v = λ m y at. ap (λ s. slice_get s (length w.sent + m)) sent ∙ get_behind w.sent es m ∙ at in
      let taken : AreTaken node (filter (is_floor_to live) es) t.0 =
      subst (λ l. AreTaken node (filter (is_floor_to live) l) t.0) (ticks_send w node (state.processes node) (w.nodes node) (b.processes node is)) t.2 in
      let next = state_after_action setting e' (Takes node Tick) state in
      let own : Each (λ (x : Envelope). x.sender ≡ node) es = each_map (λ (x : Envelope). x.sender ≡ node) (envelope_from node) made.sends (each_all (λ (send : ℕ × Message). (envelope_from node send).sender ≡ node) (λ send. refl) made.sends) in
      let done = deliver_all live node es own (suc e) (suc e') (length w.sent) v next t.0 (take_beside live e e' node (Ticks node) Tick w state b is refl refl) were taken in
      let events : List Envelope → List WorldEvent = λ l. deliveries (is_floor_to live) (length w.sent) l in
      subst (λ l. Beside cluster live (suc (length (events (drop (length w.sent) v.sent))) + e) (world_after_events config (suc e) (events (drop (length w.sent) v.sent)) v) (state_after setting e' l state)) (sym t.1)
      (subst (λ l. Beside cluster live (suc (length (events l)) + e) (world_after_events config (suc e) (events l) v) (state_after setting (suc e') t.0 next)) (sym fresh)
      (later live (length (events es) + suc e) (suc (length (events es)) + e) (world_after_events config (suc e) (events es) v) (state_after setting (suc e') t.0 next) (omega arith) done))

  -- one after the other
  both_beside : (live : List ℕ) (e e' : ℕ) (xs ys : List WorldEvent) (one rest actions : List Action) (w : World) (state : State) → actions ≡ one ++ rest
      → Beside cluster live (length ys + (length xs + e)) (world_after_events config (length xs + e) ys (world_after_events config e xs w)) (state_after setting (length one + e') rest (state_after setting e' one state))
      → Beside cluster live (length (xs ++ ys) + e) (world_after_events config e (xs ++ ys) w) (state_after setting e' actions state)
  both_beside live e e' xs ys one rest actions w state split h =
      let number = length_append xs ys in
      subst (λ l. Beside cluster live (length (xs ++ ys) + e) (world_after_events config e (xs ++ ys) w) (state_after setting e' l state)) (sym split)
      (subst (λ z. Beside cluster live (length (xs ++ ys) + e) (world_after_events config e (xs ++ ys) w) z) (sym (states_append setting e' one rest state))
      (subst (λ z. Beside cluster live (length (xs ++ ys) + e) z (state_after setting (length one + e') rest (state_after setting e' one state))) (sym (run_append config xs ys e w))
      (later live (length ys + (length xs + e)) (length (xs ++ ys) + e) (world_after_events config (length xs + e) ys (world_after_events config e xs w)) (state_after setting (length one + e') rest (state_after setting e' one state)) (omega (arith, number)) h)))

  turn_beside : (live : List ℕ) (ticks e e' node : ℕ) (w : World) (state : State) (actions : List Action) → Beside cluster live e w state → is_live live node ≡ true → IsTurn cluster live ticks e' state node actions
      → let events = turn_events config live ticks e w node in Beside cluster live (length events + e) (world_after_events config e events w) (state_after setting e' actions state)
  unfolding state_after world_after_events
  turn_beside live zero e e' node w state actions b is t = subst (λ l. Beside cluster live (0 + e) w (state_after setting e' l state)) (sym t) (later live e (0 + e) w state (omega arith) b)
  turn_beside live (suc ticks) e e' node w state actions b is t =
      let xs = tick_events config live e w node in
      let v = world_after_events config e xs w in
      let next = state_after setting e' t.0 state in
      both_beside live e e' xs (turn_events config live ticks (length xs + e) v node) t.0 t.1 actions w state t.2
      (turn_beside live ticks (length xs + e) (length t.0 + e') node v next t.1 (tick_beside live e e' node w state t.0 b is t.3) is t.4)

  turns_beside : (live js : List ℕ) (e e' : ℕ) (w : World) (state : State) (actions : List Action) → Beside cluster live e w state → Each (λ j. is_live live j ≡ true) js → AreTurns cluster live e' state js actions
      → let events = turns_events config live e w js in Beside cluster live (length events + e) (world_after_events config e events w) (state_after setting e' actions state)
  unfolding state_after world_after_events
  turns_beside live [] e e' w state actions b are t = subst (λ l. Beside cluster live (0 + e) w (state_after setting e' l state)) (sym t) (later live e (0 + e) w state (omega arith) b)
  turns_beside live (j ∷ js) e e' w state actions b are t =
      let ticks = max (tokens_of cluster) 8 in
      let xs = turn_events config live ticks e w j in
      let v = world_after_events config e xs w in
      let next = state_after setting e' t.0 state in
      both_beside live e e' xs (turns_events config live (length xs + e) v js) t.0 t.1 actions w state t.2
      (turns_beside live js (length xs + e) (length t.0 + e') v next t.1 (turn_beside live ticks e e' j w state t.0 b are.0 t.3) are.1 t.4)

  -- ---- a sweep

  -- a process runs only where a store is
  process_holds : (w : World) (b : Bool) (a : Process) (terms : Terms) (below : Store) (s : NodeState) (waiting : List Output) (x : NodeState) → a ≡ Up terms below s waiting → IsProcessAt cluster w b a x → (b ≡ false) × Holds cluster w a x
  process_holds w false a terms below s waiting x up h =
      let here : IsProcessAt cluster w false (Up terms below s waiting) x = subst (λ z. IsProcessAt cluster w false z x) up h in
      let k = here.1 in
      (refl, subst (λ z. Holds cluster w z x) (sym up) (here.0, record { kept = k.kept; state = k.state; known = k.known; unseen = k.unseen; waits = tt }))
  process_holds w true a terms below s waiting x up h = absurd (subst (λ z. IsProcessAt cluster w true z x) up h)

  greatest_held : (live js : List ℕ) (w : World) (state : State) (token : ℕ) → ((j : ℕ) → length (w.nodes j).content.rows ≡ tokens_of cluster) → Each (λ j. is_live live j ≡ true) js → ((j : ℕ) → is_live live j ≡ true → Holds cluster w (state.processes j) (w.nodes j))
      → greatest js w token ≡ greatest_in js state token
  greatest_held live [] w state token size are h = refl
  greatest_held live (j ∷ js) w state token size are h =
      ap (λ n. max n (greatest js w token)) (sym (next_held cluster w (state.processes j) (w.nodes j) token (size j) (h j are.0)))
      ∙ ap (λ n. max (next_in state j token) n) (greatest_held live js w state token size are.1 h)

pub sweeps_level : GroundLaw → JustifiedLaw → SweepLevels → SweepsLevel
sweeps_level grounds justified law cluster before actions stretch live steady are sweep node is =
    let config = cluster.config in
    let setting = setting_of cluster in
    let may = may_start cluster steady.starts in
    let old = state_of setting (before ++ actions) in
    let x = whole_run cluster grounds justified before actions steady in
    let w = world_of config (start_of cluster) x.events in
    let first = length x.events in
    let ran : Ran config (start_of cluster) first w =
    subst (λ n. Ran config (start_of cluster) n w) (omega arith) (ran_events grounds config (start_of cluster) 0 x.events (opening_world config (start_of cluster)) (ran_start config (start_of cluster) may)) in
    let runs : (j : ℕ) → is_live live j ≡ true → (old.lost j ≡ false) × Holds cluster w (old.processes j) (w.nodes j) = λ j live_j.
    let l = are j live_j in
    process_holds grounds justified cluster may w (old.lost j) (old.processes j) l.terms l.below l.machine l.waiting (w.nodes j) l.is_up (x.matches.processes j l.member) in
    let stored : Stored setting live old = λ j live_j. ap (λ b. not b && is_member (nodes_of cluster) j) (runs j live_j).0 ∙ (are j live_j).member in
    let start : Beside cluster live first w old = record {
      ran = ran;
      n = x.matches.n;
      kept = λ j live_j. ap (λ (l : ℕ → Bool). l j) x.matches.lost ∙ (runs j live_j).0;
      stored = stored;
      processes = λ j live_j. (runs j live_j).1;
    } in
    let up : AreUp live w = λ j live_j.
    let l = are j live_j in
    let h = held cluster w (old.processes j) (w.nodes j) (start.processes j live_j) in
    let now : Process = Up h.0 h.1 (w.nodes j) h.2 in
    let same : l.machine ≡ w.nodes j = same_up l.terms l.below l.machine l.waiting h.0 h.1 (w.nodes j) h.2 (◌∙◌ {c = now} (sym l.is_up) h.3) in
    (world_stored cluster live first w old j start live_j, subst (λ (s : NodeState). s.running ≡ true) same l.running) in
    let v = world_after_events config first (sweep_events config live first w) w in
    let steps = filter (is_step_of live) stretch in
    let swept = turns_beside grounds justified cluster may live live first 0 w old steps start (each_live live live (λ i h. h)) sweep in
    let new = state_of setting (before ++ actions ++ stretch) in
    let p = length (before ++ actions) in
    let whole : new ≡ state_after setting (p + 0) stretch old = states_append setting 0 (before ++ actions) stretch (first_state setting) in
    let like = like_filter setting live (p + 0) 0 stretch old old (turns_take cluster live 0 old live steps sweep) stored stored (λ j live_j. same_self (old.processes j)) in
    let there : Holds cluster v (new.processes node) (v.nodes node) =
    subst (λ (z : State). Holds cluster v (z.processes node) (v.nodes node)) (sym whole)
    (same_holds cluster v ((state_after setting (p + 0) stretch old).processes node) ((state_after setting 0 steps old).processes node) (v.nodes node) (like node is) (swept.processes node is)) in
    let at = held cluster v (new.processes node) (v.nodes node) there in
    let l = law config (start_of cluster) x.events live up in
    let none = l.1 node is in
    record {
      is_live = record { member = (are node is).member; terms = at.0; below = at.1; machine = v.nodes node; waiting = at.2; is_up = at.3; running = (l.0 node is).1 };
      pending = none.0.0;
      owners = none.0.1;
      next = λ token low. next_held cluster v (new.processes node) (v.nodes node) token (swept.ran.sized node) there ∙ none.1 token low
          ∙ greatest_held grounds justified cluster may live live w old token ran.sized (each_live live live (λ i h. h)) start.processes;
    }
  where
    same_up : (terms : Terms) (below : Store) (s : NodeState) (w : List Output) (under : Terms) (over : Store) (t : NodeState) (v : List Output) → Up terms below s w ≡ Up under over t v → s ≡ t
    same_up terms below s w under over t v e = cc

-- Each action is an event of the world.
use Rattle.std.proofs.Common.{◌≡◌, ℕ, zero, suc, ◌+◌, ◌<◌, ◌≤◌, ◌⊎◌, inl, inr, ⊎_elim, Bool, true, false, not, ◌&&◌, ◌||◌, cond, List, [], ◌∷◌, ◌++◌, map, Option, Some, None, refl, sym, ap, ◌∙◌, subst, arith, eqb, leb, length, ltb, get_or}
use mathlib.Core.Path.{fun_ext}
use Rattle.std.specs.List.{slice_get}
use Rattle.std.specs.Option.{option_and_then}
use Rattle.std.proofs.lemmas.Bool.{cond_both, cond-true, cond-false, eqb-true, eq-eqb, cases_Bool, and_from, and_parts, false≢true, leb-true, le-leb}
use Rattle.std.proofs.lemmas.List.{append-nil}
use Rattle.std.proofs.lemmas.List.FromFn.{get_or-map-range_with_len}
use Rattle.floor_store.specs.Content.{Content, with_next_boot}
use Rattle.floor_store.specs.Records.{PassRecord, RowRecord}
use Rattle.otp_core.specs.Acceptance.{majority_of, size}
use Rattle.seated_store.specs.Places.{own_seats}
use Rattle.seated_store.specs.Seats.{pass_above}
use Rattle.vote_core.proofs.Basics.{Each, each_append, each_get, each_map, each_weaker}
use Rattle.vote_core.specs.NodeSet.{with_node}
use Rattle.vote_core.specs.Rows.{row}
use Rattle.vote_core.specs.Schedule.{Envelope, all_most, envelope_from, greater, greatest, is_member, last_boot, opening_rows, without_node}
use Rattle.oath_node.specs.Machine.{Config, Made, NodeEvent, NodeState, Client, Peer, Tick, made_by_event, opened_node, restarted_node, stopped_node}
use Rattle.cluster_sim.proofs.BelowLaws.{GroundLaw}
use Rattle.cluster_sim.proofs.Owners.{get_more}
use Rattle.cluster_sim.specs.World.{MayStart, Note, Act, Says, Deliver, Ticks, Noise, Answer, World, WorldEvent, Happens, Cut, Restart, Lost, Anew, acting_node, delivered_event, floor_in, has_store, is_from, lost_node, may_be_anew, note_anew, opening_node, world_after_anew, world_after_loss, node_event_of, node_if_sent, node_of, note_of, place_at, told_reply, with_state, with_told_of, world_after_act, world_after_event, world_after_restart, world_after_turn, world_with_made}
use Rattle.seat_law.specs.Seats.{made_floor}
use Rattle.book_law.specs.Lives.{Action, Opens, FailsToOpen, Takes, Offers, Stops, StopsIn, Loses, Remakes, Enrols, Unlocks, OpensGate, Raises, Output, Process, Sealed, Setting, State, Store, Terms, ToPeer, ToClient, Down, Up, can_be, do_fit, floor_of, has_store as has_own_store, made_by_input, may_be_remade, node_of_action, note_of_step, outputs_of_step, place_in, places_of, process_cut, process_half_opened, process_offered, process_opened, process_taken, first_of_these, sealed_from, seen_in, state_after_action, state_with, store_at, store_in_next_boot, store_under, store_with_rows, with_process}
use Rattle.book_law.proofs.Told.{answers_by, answers_made}
use Rattle.world_law.specs.Steady.{IsSteadyAction, SteadyCluster, WasSent, WasSentIn, WasSentTo, nodes_of, sealed_by, setting_of, start_of, terms_of, tokens_of}
use Rattle.world_law.specs.Worlds.{HasAct, IsActOf, IsEventOf, nothing}
use Rattle.world_law.proofs.Ran.{JustifiedLaw, Ran, made_size, pass_low, ran_next, sends_deliverable}
use Rattle.world_law.proofs.Seats.{IsKept, above_low, created_kept, created_seen, opening_same, places_size, seen_next, seen_put, under_kept}
use Rattle.world_law.proofs.Steps.{Low, is_low}

-- ---- what a state is in a world

-- the world has sent the envelope, or replied the answer
abbrev pub IsKnown : World → Output → Type 0
IsKnown w (ToPeer sealed) = (k : ℕ) × (slice_get w.sent k ≡ Some sealed.envelope)
IsKnown w (ToClient told) = (k : ℕ) × (slice_get w.told k ≡ Some told)

-- what a process sees of a store
abbrev pub seen_of : SteadyCluster → Store → Content
seen_of cluster store = seen_in store (own_seats (tokens_of cluster))

-- A node without a process: the world restarts it when its store is opened.
abbrev pub IsResting : Content → NodeState → Type 0
IsResting c x = (x.content ≡ c) ⊎ (x ≡ opened_node c)

-- a process over a store that has its rows
pub record IsServed (cluster : SteadyCluster) (w : World) (below : Store) (s : NodeState) (waiting : List Output) (x : NodeState) : Type 0 where
  pub kept : IsKept (tokens_of cluster) below
  pub state : x ≡ s
  pub known : (z : PassRecord) → s.content.last ≡ Some z → z.token < tokens_of cluster
  pub unseen : s.content.last ≡ None → option_and_then (pass_above (places_of below (own_seats (tokens_of cluster)))) below.content.last ≡ None
  pub waits : Each (IsKnown w) waiting

abbrev pub IsProcessIn : SteadyCluster → World → Process → NodeState → Type 0
IsProcessIn cluster w (Down store) x = IsKept (tokens_of cluster) store × IsResting (seen_of cluster store) x
IsProcessIn cluster w (Up terms below s waiting) x = (terms ≡ terms_of cluster) × IsServed cluster w below s waiting x

-- a node that lost its store keeps its floors in the world, with a boot that it never used
pub record IsGoneStore (cluster : SteadyCluster) (store : Store) (x : NodeState) : Type 0 where
  pub kept : IsKept (tokens_of cluster) store
  pub next : (token : ℕ) → (row x.content token).next ≡ floor_of store token
  pub boot : x.content.boot ≤ store.content.boot + 1

abbrev pub IsGone : SteadyCluster → Process → NodeState → Type 0
IsGone cluster (Down store) x = IsGoneStore cluster store x
IsGone cluster (Up terms below s waiting) x = ⊥

abbrev pub IsProcessAt : SteadyCluster → World → Bool → Process → NodeState → Type 0
IsProcessAt cluster w false p x = IsProcessIn cluster w p x
IsProcessAt cluster w true p x = IsGone cluster p x

-- the same of a member; nothing is said of other nodes
abbrev pub IsMemberAt : SteadyCluster → World → (ℕ → Bool) → ℕ → Process → NodeState → Type 0
IsMemberAt cluster w lost j p x = is_member (nodes_of cluster) j ≡ true → IsProcessAt cluster w (lost j) p x

pub record Matches (cluster : SteadyCluster) (state : State) (w : World) : Type 0 where
  pub n : w.n ≡ nodes_of cluster
  pub lost : w.lost ≡ state.lost
  pub least : w.least ≡ state.least
  pub processes : (j : ℕ) → IsMemberAt cluster w state.lost j (state.processes j) (w.nodes j)
  pub offered : Each (IsKnown w) state.offered
  pub notes : w.history ≡ state.notes

-- ---- lists

pub get_after : {A : Type 0} (xs ys : List A) (k : ℕ) (y : A) → slice_get ys k ≡ Some y → (m : ℕ) × (slice_get (xs ++ ys) m ≡ Some y)
get_after [] ys k y e = (k, e)
get_after (x ∷ xs) ys k y e = let r = get_after xs ys k y e in (suc r.0, r.1)

pub all_there : {A : Type 0} (ys : List A) → Each (λ y. (k : ℕ) × (slice_get ys k ≡ Some y)) ys
all_there [] = tt
all_there {A} (y ∷ ys) =
    ((zero, refl), each_weaker (λ (z : A). (k : ℕ) × (slice_get ys k ≡ Some z)) (λ (z : A). (k : ℕ) × (slice_get (y ∷ ys) k ≡ Some z)) (λ z p. (suc p.0, p.1)) ys (all_there ys))

all_after : {A : Type 0} (xs ys : List A) → Each (λ y. (k : ℕ) × (slice_get (xs ++ ys) k ≡ Some y)) ys
all_after {A} xs ys =
    each_weaker (λ (z : A). (k : ℕ) × (slice_get ys k ≡ Some z)) (λ (z : A). (k : ℕ) × (slice_get (xs ++ ys) k ≡ Some z)) (λ z p. get_after xs ys p.0 z p.1) ys (all_there ys)

-- ---- what changes at one node

either_set : (P : Process → NodeState → Type 0) (b : Bool) (a c : Process) (x y : NodeState) → (b ≡ true → P a x) → (b ≡ false → P c y) → P (cond b a c) (cond b x y)
either_set P true a c x y h k = h refl
either_set P false a c x y h k = k refl

both_set : (P : ℕ → Process → NodeState → Type 0) (i : ℕ) (a : Process) (x : NodeState) (processes : ℕ → Process) (nodes : ℕ → NodeState) → P i a x → ((j : ℕ) → P j (processes j) (nodes j)) → (j : ℕ) → P j (with_process i a processes j) (with_state i x nodes j)
both_set P i a x processes nodes here h j =
    either_set (P j) (eqb j i) a (processes j) x (nodes j) (λ q. subst (λ m. P m a x) (sym (eqb-true j i q)) here) (λ _. h j)

either_twice : (P : Process → NodeState → Type 0) (b : Bool) (a c : Process) (x y z : NodeState) → (b ≡ true → P a y) → (b ≡ false → P c z) → P (cond b a c) (cond b y (cond b x z))
either_twice P true a c x y z h k = h refl
either_twice P false a c x y z h k = k refl

twice_set : (P : ℕ → Process → NodeState → Type 0) (i : ℕ) (a : Process) (x y : NodeState) (processes : ℕ → Process) (nodes : ℕ → NodeState) → P i a y → ((j : ℕ) → P j (processes j) (nodes j)) → (j : ℕ) → P j (with_process i a processes j) (with_state i y (with_state i x nodes) j)
twice_set P i a x y processes nodes here h j =
    either_twice (P j) (eqb j i) a (processes j) x y (nodes j) (λ q. subst (λ m. P m a y) (sym (eqb-true j i q)) here) (λ _. h j)

process_set : (P : ℕ → Process → NodeState → Type 0) (i : ℕ) (a : Process) (processes : ℕ → Process) (nodes : ℕ → NodeState) → P i a (nodes i) → ((j : ℕ) → P j (processes j) (nodes j)) → (j : ℕ) → P j (with_process i a processes j) (nodes j)
process_set P i a processes nodes here h j =
    cond_both (eqb j i) a (processes j) (λ s. P j s (nodes j)) (λ q. subst (λ m. P m a (nodes m)) (sym (eqb-true j i q)) here) (λ _. h j)

state_at : (i : ℕ) (x : NodeState) (nodes : ℕ → NodeState) → with_state i x nodes i ≡ x
state_at i x nodes = cond-true (eqb i i) x (nodes i) (eq-eqb i i refl)

-- a member that has its store
pub record IsStored (cluster : SteadyCluster) (state : State) (w : World) (i : ℕ) : Type 0 where
  pub kept : state.lost i ≡ false
  pub member : is_member (nodes_of cluster) i ≡ true
  pub store : has_store w i ≡ true

-- ---- the world at a member

-- a member that did not lose its store has it; there is no node 0
pub has_it : (w : World) (i : ℕ) → w.lost i ≡ false → is_member w.n i ≡ true → has_store w i ≡ true
has_it w i kept member = ap (λ b. not b && is_member w.n i) kept ∙ member

none_has : (w : World) → has_store w 0 ≡ false
none_has w = elim (w.lost 0) as (λ b. (not b && false) ≡ false) [ true ↦ refl | false ↦ refl ]

pub quiet : (config : Config) (e : ℕ) (w : World) → world_after_event config e nothing w ≡ w
unfolding world_after_event world_after_restart
quiet config e w = cond-false (has_store w 0) (record w { nodes = with_state 0 (restarted_node (w.nodes 0)) w.nodes }) w (none_has w)

restarts : (config : Config) (e i : ℕ) (w : World) → has_store w i ≡ true
    → world_after_event config e (Restart i) w ≡ record w { nodes = with_state i (restarted_node (w.nodes i)) w.nodes }
unfolding world_after_event world_after_restart
restarts config e i w member = cond-true (has_store w i) (record w { nodes = with_state i (restarted_node (w.nodes i)) w.nodes }) w member

pub acts : (cluster : SteadyCluster) (e i : ℕ) (act : Act) (input : NodeEvent) (s : NodeState) (w : World) → w.n ≡ nodes_of cluster → has_store w i ≡ true → w.nodes i ≡ s
    → acting_node act ≡ i → node_event_of w.sent act ≡ Some input
    → world_after_act cluster.config e act w ≡ world_with_made e i (made_by_input (setting_of cluster) (terms_of cluster) i input s) w
unfolding world_after_act world_after_turn
acts cluster e i act input s w n member state at what =
    let config = cluster.config in
    ap (λ m. world_after_turn config e m (node_event_of w.sent act) w) at
    ∙ ap (λ o. world_after_turn config e i o w) what
    ∙ cond-true (has_store w i) (world_with_made e i (made_by_event config (place_at w i) input (w.nodes i)) w) w member
    ∙ ap (λ m. world_with_made e i (made_by_event config (record { me = i; n = m }) input (w.nodes i)) w) n
    ∙ ap (λ z. world_with_made e i (made_by_event config (place_in (setting_of cluster) i) input z) w) state

-- ---- the act of an input

record ActFor (w : World) (i : ℕ) (input : NodeEvent) : Type 0 where
  act : Act
  acting : acting_node act ≡ i
  event : node_event_of w.sent act ≡ Some input
  cut : node_of act w ≡ Some i
  is_act : IsActOf i input act

noise_for : (w : World) (i from : ℕ) (read : Option Envelope) → is_from from read ≡ false → ActFor w i (Peer from read)
noise_for w i from read other = record {
  act = Noise i from read;
  acting = refl;
  event = cond-false (is_from from read) None (Some (Peer from read)) other;
  cut = refl;
  is_act = inr refl;
}

sent_for : (w : World) (i from : ℕ) (l : Envelope) (k : ℕ) → l.sender ≡ from → slice_get w.sent k ≡ Some l → ActFor w i (Peer from (Some l))
sent_for w i from l k own at = record {
  act = Deliver i k;
  acting = refl;
  event = ap delivered_event at ∙ ap (λ s. Some (Peer s (Some l))) own;
  cut = ap (node_if_sent i) at;
  is_act = inl (k, refl);
}

act_for : (terms : Terms) (offered : List Output) (w : World) (i : ℕ) (input : NodeEvent) → Each (IsKnown w) offered → WasSent terms offered input → ActFor w i input
act_for terms offered w i (Client client moment line) known sent = record { act = Says i client moment line; acting = refl; event = refl; cut = refl; is_act = refl }
act_for terms offered w i Tick known sent = record { act = Ticks i; acting = refl; event = refl; cut = refl; is_act = refl }
act_for terms offered w i (Peer from None) known sent = noise_for w i from None refl
act_for terms offered w i (Peer from (Some l)) known sent =
    ⊎_elim
    (λ (q : eqb l.sender from ≡ true).
    let own = eqb-true l.sender from q in
    let was = sent own in
    let sealed : Sealed = record { key = terms.key; envelope = l } in
    let p : IsKnown w (ToPeer sealed) = each_get (IsKnown w) offered was.place (ToPeer sealed) known was.is_there in
    sent_for w i from l p.0 own p.1)
    (λ (q : eqb l.sender from ≡ false). noise_for w i from (Some l) q)
    (cases_Bool (eqb l.sender from))

-- ---- what a world that grows knows

made_grows : (e i : ℕ) (m : Made) (w : World) (h : Output) → IsKnown w h → IsKnown (world_with_made e i m w) h
unfolding world_with_made
made_grows e i m w (ToPeer sealed) p = (p.0, get_more w.sent (map (envelope_from i) m.sends) p.0 sealed.envelope p.1)
made_grows e i m w (ToClient t) p = (p.0, get_more w.told (map (told_reply e i) m.replies) p.0 t p.1)

made_known : (cluster : SteadyCluster) (e i : ℕ) (m : Made) (w : World) → map (sealed_from (terms_of cluster) i) m.sends ≡ map (sealed_by cluster) (map (envelope_from i) m.sends)
    → Each (IsKnown (world_with_made e i m w)) (outputs_of_step (terms_of cluster) e i m)
unfolding world_with_made
made_known cluster e i m w same =
    let v = world_with_made e i m w in
    let ls = map (envelope_from i) m.sends in
    let ts = map (told_reply e i) m.replies in
    each_append (IsKnown v) (map (λ (sealed : Sealed). ToPeer sealed) (map (sealed_from (terms_of cluster) i) m.sends)) (map (λ (t : Answer). ToClient t) ts)
    (subst (λ l. Each (IsKnown v) (map (λ (sealed : Sealed). ToPeer sealed) l)) (sym same)
    (each_map (IsKnown v) (λ (sealed : Sealed). ToPeer sealed) (map (sealed_by cluster) ls) (each_map (λ (sealed : Sealed). IsKnown v (ToPeer sealed)) (sealed_by cluster) ls (all_after w.sent ls))))
    (each_map (IsKnown v) (λ (t : Answer). ToClient t) ts (all_after w.told ts))

-- the state with another process of one node, and with these offers and notes more
abbrev state_as : ℕ → Process → List Output → List Note → State → State
state_as i p hs ns state = record { processes = with_process i p state.processes; lost = state.lost; least = state.least; offered = state.offered ++ hs; notes = ns ++ state.notes }

abbrev cut_world : ℕ → ℕ → Made → World → World
cut_world e i made w = with_told_of w (world_with_made e i made w)

same_known : (v w : World) → v.sent ≡ w.sent → v.told ≡ w.told → (h : Output) → IsKnown w h → IsKnown v h
same_known v w sent told (ToPeer sealed) p = (p.0, subst (λ ls. slice_get ls p.0 ≡ Some sealed.envelope) (sym sent) p.1)
same_known v w sent told (ToClient t) p = (p.0, subst (λ ts. slice_get ts p.0 ≡ Some t) (sym told) p.1)

restart_told : (config : Config) (e i : ℕ) (w : World) → has_store w i ≡ true → (world_after_event config e (Restart i) w).told ≡ w.told ++ []
restart_told config e i w member = ap (λ (z : World). z.told) (restarts config e i w member) ∙ sym (append-nil w.told)

cut_told : (e i : ℕ) (made : Made) (w : World) → has_store w i ≡ true → (world_after_restart (Some i) (cut_world e i made w)).told ≡ w.told
unfolding world_with_made world_after_restart
cut_told e i made w member =
    let v = cut_world e i made w in
    ap (λ (z : World). z.told) (cond-true (has_store w i) (record v { nodes = with_state i (restarted_node (v.nodes i)) v.nodes }) v member)

-- ---- an action

-- the event of an action at a member with the given process
abbrev pub IsFull : Action → Process → WorldEvent → Type 0
IsFull (Opens i terms) (Down store) event = (event ≡ nothing) ⊎ (event ≡ Restart i)
IsFull (Opens i terms) (Up own below s waiting) event = event ≡ nothing
IsFull (FailsToOpen i raised) (Down store) event = (event ≡ nothing) ⊎ (event ≡ Restart i)
IsFull (FailsToOpen i raised) (Up own below s waiting) event = event ≡ nothing
IsFull (Takes i input) (Down store) event = event ≡ nothing
IsFull (Takes i input) (Up own below s waiting) event = HasAct i input (λ act. Happens act) event
IsFull (Offers i) old event = event ≡ nothing
IsFull (Stops i) old event = event ≡ nothing
IsFull (StopsIn i kept input) (Down store) event = event ≡ nothing
IsFull (StopsIn i false input) (Up own below s waiting) event = event ≡ nothing
IsFull (StopsIn i true input) (Up own below s waiting) event = HasAct i input (λ act. Cut true act) event
IsFull (Loses i) old event = event ≡ Lost i
IsFull (Remakes i boot given floor) old event = event ≡ Anew i (boot + 1) (map floor given)
IsFull (Enrols i token floor) old event = ⊥
IsFull (Unlocks i token) old event = ⊥
IsFull (OpensGate i token) old event = ⊥
IsFull (Raises i token floor) old event = ⊥

full_is_event : (action : Action) (old : Process) (event : WorldEvent) → IsFull action old event → IsEventOf action event
full_is_event (Opens i terms) (Down store) event h = h
full_is_event (Opens i terms) (Up own below s waiting) event h = inl h
full_is_event (FailsToOpen i raised) (Down store) event h = h
full_is_event (FailsToOpen i raised) (Up own below s waiting) event h = inl h
full_is_event (Takes i input) (Down store) event h = inl h
full_is_event (Takes i input) (Up own below s waiting) event h = inr h
full_is_event (Offers i) old event h = h
full_is_event (Stops i) old event h = h
full_is_event (StopsIn i false input) (Down store) event h = h
full_is_event (StopsIn i true input) (Down store) event h = inl h
full_is_event (StopsIn i false input) (Up own below s waiting) event h = h
full_is_event (StopsIn i true input) (Up own below s waiting) event h = inr h
full_is_event (Loses i) old event h = inr h
full_is_event (Remakes i boot given floor) old event h = inr h
full_is_event (Enrols i token floor) old event h = absurd h
full_is_event (Unlocks i token) old event h = h
full_is_event (OpensGate i token) old event h = h
full_is_event (Raises i token floor) old event h = h

-- the event of an action at a process, and the state after it
record Follows (cluster : SteadyCluster) (e : ℕ) (action : Action) (old : Process) (state : State) (w : World) : Type 0 where
  event : WorldEvent
  is_full : IsFull action old event
  matches : Matches cluster state (world_after_event cluster.config e event w)
  told : (world_after_event cluster.config e event w).told ≡ w.told ++ answers_made (setting_of cluster) e action old

-- the premise of an action that is possible
abbrev IsReady : SteadyCluster → State → World → Action → Process → Type 0
IsReady cluster state w (Remakes i boot given floor) p = (is_member (nodes_of cluster) i ≡ true) × IsGone cluster p (w.nodes i) × (may_be_remade (setting_of cluster) state i boot given floor ≡ true)
IsReady cluster state w action p = IsStored cluster state w (node_of_action action) × IsProcessIn cluster w p (w.nodes (node_of_action action))

not_lost : (b c : Bool) → (not b && c) ≡ true → b ≡ false
not_lost false c h = refl
not_lost true c h = absurd (false≢true h)

-- `nothing` may be the event of any action
may_be_nothing : (terms : Terms) (action : Action) → IsSteadyAction terms action → IsEventOf action nothing
may_be_nothing terms (Opens i own) h = inl refl
may_be_nothing terms (FailsToOpen i raised) h = inl refl
may_be_nothing terms (Takes i input) h = inl refl
may_be_nothing terms (Offers i) h = refl
may_be_nothing terms (Stops i) h = refl
may_be_nothing terms (StopsIn i false input) h = refl
may_be_nothing terms (StopsIn i true input) h = inl refl
may_be_nothing terms (Loses i) h = inl refl
may_be_nothing terms (Remakes i boot given floor) h = inl refl
may_be_nothing terms (Enrols i token floor) h = refl
may_be_nothing terms (Unlocks i token) h = h
may_be_nothing terms (OpensGate i token) h = h
may_be_nothing terms (Raises i token floor) h = h

-- `P` of the event of an action that loses or replaces a store
abbrev pub OfStore : (WorldEvent → Type 0) → Action → Type 0
OfStore P (Loses i) = P (Lost i)
OfStore P (Remakes i boot given floor) = P (Anew i (boot + 1) (map floor given))
OfStore P action = Unit {0}

-- a claim that holds of each act, stop that keeps its change, restart and `OfStore` holds of an action's event
pub of_event : (P : WorldEvent → Type 0) (action : Action) (x : WorldEvent) → IsEventOf action x → ((act : Act) → P (Happens act)) → ((act : Act) → P (Cut true act)) → ((i : ℕ) → P (Restart i)) → OfStore P action → P x
of_event P (Opens i terms) x is act cut restart store = ⊎_elim (λ (q : x ≡ nothing). subst P (sym q) (restart 0)) (λ (q : x ≡ Restart i). subst P (sym q) (restart i)) is
of_event P (FailsToOpen i raised) x is act cut restart store = ⊎_elim (λ (q : x ≡ nothing). subst P (sym q) (restart 0)) (λ (q : x ≡ Restart i). subst P (sym q) (restart i)) is
of_event P (Takes i input) x is act cut restart store =
    ⊎_elim (λ (q : x ≡ nothing). subst P (sym q) (restart 0)) (λ (h : HasAct i input (λ a. Happens a) x). subst P (sym h.event_is) (act h.act)) is
of_event P (Offers i) x is act cut restart store = subst P (sym is) (restart 0)
of_event P (Stops i) x is act cut restart store = subst P (sym is) (restart 0)
of_event P (StopsIn i false input) x is act cut restart store = subst P (sym is) (restart 0)
of_event P (StopsIn i true input) x is act cut restart store =
    ⊎_elim (λ (q : x ≡ nothing). subst P (sym q) (restart 0)) (λ (h : HasAct i input (λ a. Cut true a) x). subst P (sym h.event_is) (cut h.act)) is
of_event P (Loses i) x is act cut restart store = ⊎_elim (λ (q : x ≡ nothing). subst P (sym q) (restart 0)) (λ (q : x ≡ Lost i). subst P (sym q) store) is
of_event P (Remakes i boot given floor) x is act cut restart store = ⊎_elim (λ (q : x ≡ nothing). subst P (sym q) (restart 0)) (λ (q : x ≡ Anew i (boot + 1) (map floor given)). subst P (sym q) store) is
of_event P (Enrols i token floor) x is act cut restart store = subst P (sym is) (restart 0)
of_event P (Unlocks i token) x is act cut restart store = absurd is
of_event P (OpensGate i token) x is act cut restart store = absurd is
of_event P (Raises i token floor) x is act cut restart store = absurd is

-- the event of a possible action is as its process says; an impossible action has the event `nothing`
abbrev pub IsOneAt : Action → State → Bool → WorldEvent → Type 0
IsOneAt action state true event = IsFull action (state.processes (node_of_action action)) event
IsOneAt action state false event = event ≡ nothing

pub one_is_event : (terms : Terms) (action : Action) (state : State) (can : Bool) (event : WorldEvent) → IsSteadyAction terms action → IsOneAt action state can event → IsEventOf action event
one_is_event terms action state true event steady h = full_is_event action (state.processes (node_of_action action)) event h
one_is_event terms action state false event steady h = subst (λ x. IsEventOf action x) (sym h) (may_be_nothing terms action steady)

-- the event of an action, and the state after it
pub record IsFollowed (cluster : SteadyCluster) (e : ℕ) (action : Action) (state new : State) (w : World) (made : List Answer) (can : Bool) : Type 0 where
  pub event : WorldEvent
  pub is_one : IsOneAt action state can event
  pub matches : Matches cluster new (world_after_event cluster.config e event w)
  pub told : (world_after_event cluster.config e event w).told ≡ w.told ++ made

-- ---- a node without a process

restarts_as : (c : Content) (x : NodeState) → x.content ≡ c → ltb c.boot last_boot ≡ true → restarted_node x ≡ opened_node c
restarts_as c x same low =
    cond-true (ltb x.content.boot last_boot) (opened_node x.content) (stopped_node x) (subst (λ (d : Content). ltb d.boot last_boot ≡ true) (sym same) low)
    ∙ ap (λ (d : Content). opened_node d) same

resting_next : (c : Content) (x : NodeState) (token : ℕ) → IsResting c x → (row x.content token).next ≡ (row c token).next
resting_next c x token h = ⊎_elim (λ (q : x.content ≡ c). ap (λ (d : Content). (row d token).next) q) (λ (q : x ≡ opened_node c). ap (λ (y : NodeState). (row y.content token).next) q) h

resting_boot : (c : Content) (x : NodeState) → IsResting c x → x.content.boot ≤ c.boot + 1
resting_boot c x h =
    ⊎_elim
    (λ (q : x.content ≡ c). (let same : x.content.boot ≡ c.boot = ap (λ (d : Content). d.boot) q in omega (arith, same)))
    (λ (q : x ≡ opened_node c). (let same : x.content.boot ≡ c.boot + 1 = ap (λ (y : NodeState). y.content.boot) q in omega (arith, same)))
    h

-- a process ended, and the world restarts its node
resting_again : (x : NodeState) → IsResting x.content (restarted_node x)
resting_again x =
    cond_both (ltb x.content.boot last_boot) (opened_node x.content) (stopped_node x) (λ y. (y.content ≡ x.content) ⊎ (y ≡ opened_node x.content)) (λ _. inr refl) (λ _. inl refl)

resting_opens : (c : Content) (x : NodeState) → IsResting c x → ltb c.boot last_boot ≡ true → (restarted_node x ≡ opened_node c) ⊎ (x ≡ opened_node c)
resting_opens c x h low = ⊎_elim (λ (q : x.content ≡ c). inl (restarts_as c x q low)) (λ (q : x ≡ opened_node c). inr q) h

-- a process raised the boot, and ended
resting_raised : (c : Content) (x : NodeState) → IsResting c x → ltb c.boot last_boot ≡ true → IsResting (with_next_boot c) (restarted_node x)
resting_raised c x h low =
    ⊎_elim
    (λ (q : x.content ≡ c). inl (ap (λ (y : NodeState). y.content) (restarts_as c x q low)))
    (λ (q : x ≡ opened_node c). subst (λ y. IsResting (with_next_boot c) (restarted_node y)) (sym q) (resting_again (opened_node c)))
    h

-- the greatest floor is one of members
greatest_of_members : (n k : ℕ) (lost : ℕ → Bool) (one other : ℕ → ℕ) → k ≤ n → ((j : ℕ) → is_member n j ≡ true → one j ≡ other j) → greatest k lost one ≡ greatest k lost other
greatest_of_members n zero lost one other low h = refl
greatest_of_members n (suc k) lost one other low h =
    let member : is_member n (suc k) ≡ true = and_from (leb 1 (suc k)) (leb (suc k) n) (le-leb 1 (suc k) (omega arith)) (le-leb (suc k) n low) in
    ap (λ m. cond (lost (suc k)) m (greater (one (suc k)) m)) (greatest_of_members n k lost one other (omega (arith, low)) h)
    ∙ ap (λ m. cond (lost (suc k)) (greatest k lost other) (greater m (greatest k lost other))) (h (suc k) member)

-- floors that are no lower
more_most : (k : ℕ) (least one other : ℕ → ℕ) → ((t : ℕ) → t < k → one t ≤ other t) → all_most k least one ≡ true → all_most k least other ≡ true
more_most zero least one other h most = refl
more_most (suc k) least one other h most =
    let parts = and_parts (leb (least k) (one k)) (all_most k least one) most in
    and_from (leb (least k) (other k)) (all_most k least other)
    (le-leb (least k) (other k) (let low = leb-true (least k) (one k) parts.0 in let more = h k (omega arith) in omega (arith, low, more)))
    (more_most k least one other (λ t low. h t (omega (arith, low))) parts.1)

made_most : (given : List ℕ) (floor : ℕ → ℕ) (t : ℕ) → made_floor given floor t ≤ floor t
made_most given floor t = cond_both _ (floor t) 0 (λ m. m ≤ floor t) (λ _. omega arith) (λ _. omega arith)

module _ (cluster : SteadyCluster) where
  abbrev setting : Setting
  setting = setting_of cluster

  abbrev terms : Terms
  terms = terms_of cluster

  abbrev m : ℕ
  m = tokens_of cluster

  abbrev n : ℕ
  n = nodes_of cluster

  abbrev seats : List ℕ
  seats = own_seats m

  -- one more or one less store is lost
  lost_set : (w : World) (i : ℕ) (a : Process) (x : NodeState) (lost : ℕ → Bool) (processes : ℕ → Process) (nodes : ℕ → NodeState) → IsGone cluster a x → ((j : ℕ) → IsMemberAt cluster w lost j (processes j) (nodes j))
      → (j : ℕ) → IsMemberAt cluster w (with_node i lost) j (with_process i a processes j) (with_state i x nodes j)
  lost_set w i a x lost processes nodes here h j member =
      elim (eqb j i) as (λ b. IsProcessAt cluster w (b || lost j) (cond b a (processes j)) (cond b x (nodes j))) [ true ↦ here | false ↦ h j member ]

  remade_set : (w : World) (i : ℕ) (a : Process) (x : NodeState) (lost : ℕ → Bool) (processes : ℕ → Process) (nodes : ℕ → NodeState) → IsProcessIn cluster w a x → ((j : ℕ) → IsMemberAt cluster w lost j (processes j) (nodes j))
      → (j : ℕ) → IsMemberAt cluster w (without_node i lost) j (with_process i a processes j) (with_state i x nodes j)
  remade_set w i a x lost processes nodes here h j member =
      elim (eqb j i) as (λ b. IsProcessAt cluster w (not b && lost j) (cond b a (processes j)) (cond b x (nodes j))) [ true ↦ here | false ↦ h j member ]

  pub process_at : (w : World) (b : Bool) (a : Process) (x : NodeState) → b ≡ false → IsProcessIn cluster w a x → IsProcessAt cluster w b a x
  process_at w b a x kept h = subst (λ z. IsProcessAt cluster w z a x) (sym kept) h

  -- ---- what a process leaves

  -- what a process sees of the store that a stop leaves is its content
  pub under_seen : (w : World) (below : Store) (s : NodeState) (waiting : List Output) (x : NodeState) → length s.content.rows ≡ m → IsServed cluster w below s waiting x → seen_of cluster (store_under seats s.content below) ≡ s.content
  under_seen w below s waiting x size h = seen_put m below h.kept s.content size h.known h.unseen

  -- its store has its rows
  at_kept : (w : World) (p : Process) (x : NodeState) → IsProcessIn cluster w p x → IsKept m (store_at p)
  at_kept w (Down store) x h = h.0
  at_kept w (Up own below s waiting) x h =
      subst (λ (t : Terms). IsKept m (store_under t.seats s.content below)) (sym h.0) (under_kept m below h.1.kept s.content)

  -- the floors of a node's store
  pub next_in : (w : World) (p : Process) (x : NodeState) (token : ℕ) → length x.content.rows ≡ m → IsProcessIn cluster w p x → (row x.content token).next ≡ floor_of (store_at p) token
  next_in w (Down store) x token size h = resting_next (seen_of cluster store) x token h.1 ∙ seen_next m store h.0 token
  next_in w (Up own below s waiting) x token size h =
      let left = store_under seats s.content below in
      ap (λ (y : NodeState). (row y.content token).next) h.1.state
      ∙ ap (λ (c : Content). (row c token).next) (sym (under_seen w below s waiting x (ap (λ (y : NodeState). length y.content.rows) (sym h.1.state) ∙ size) h.1))
      ∙ seen_next m left (under_kept m below h.1.kept s.content) token
      ∙ ap (λ (t : Terms). floor_of (store_under t.seats s.content below) token) (sym h.0)

  pub same_next : (w : World) (b : Bool) (p : Process) (x : NodeState) (token : ℕ) → length x.content.rows ≡ m → IsProcessAt cluster w b p x → (row x.content token).next ≡ floor_of (store_at p) token
  same_next w false p x token size h = next_in w p x token size h
  same_next w true (Down store) x token size h = h.next token
  same_next w true (Up own below s waiting) x token size h = absurd h

  near_boot : (w : World) (p : Process) (x : NodeState) → IsProcessIn cluster w p x → x.content.boot ≤ (store_at p).content.boot + 1
  near_boot w (Down store) x h = resting_boot (seen_of cluster store) x h.1
  near_boot w (Up own below s waiting) x h = let same : x.content.boot ≡ s.content.boot = ap (λ (y : NodeState). y.content.boot) h.1.state in omega (arith, same)

  process_grows : (v w : World) → ((h : Output) → IsKnown v h → IsKnown w h) → (s : Process) (x : NodeState) → IsProcessIn cluster v s x → IsProcessIn cluster w s x
  process_grows v w grows (Down store) x p = p
  process_grows v w grows (Up own below s waiting) x p =
      (p.0, record { kept = p.1.kept; state = p.1.state; known = p.1.known; unseen = p.1.unseen; waits = each_weaker (IsKnown v) (IsKnown w) grows waiting p.1.waits })

  at_grows : (v w : World) → ((h : Output) → IsKnown v h → IsKnown w h) → (b : Bool) (s : Process) (x : NodeState) → IsProcessAt cluster v b s x → IsProcessAt cluster w b s x
  at_grows v w grows false s x p = process_grows v w grows s x p
  at_grows v w grows true (Down store) x p = p
  at_grows v w grows true (Up own below s waiting) x p = absurd p

  all_grow : (v w : World) → ((h : Output) → IsKnown v h → IsKnown w h) → (lost : ℕ → Bool) (processes : ℕ → Process) (nodes : ℕ → NodeState) → ((j : ℕ) → IsMemberAt cluster v lost j (processes j) (nodes j)) → (j : ℕ) → IsMemberAt cluster w lost j (processes j) (nodes j)
  all_grow v w grows lost processes nodes h j member = at_grows v w grows (lost j) (processes j) (nodes j) (h j member)

  -- a process that a stop ends leaves a store at rest
  left_at_rest : (w : World) (below : Store) (s : NodeState) (x : NodeState) → IsKept m below → seen_of cluster (store_under seats s.content below) ≡ s.content → IsResting s.content x → IsProcessIn cluster w (Down (store_under seats s.content below)) x
  left_at_rest w below s x kept seen rests = (under_kept m below kept s.content, subst (λ (c : Content). IsResting c x) (sym seen) rests)

  -- ---- one process changes

  process_changes : (i : ℕ) (p : Process) (state : State) (w : World) → IsStored cluster state w i → Matches cluster state w → IsProcessIn cluster w p (w.nodes i) → Matches cluster (state_as i p [] [] state) w
  process_changes i p state w stored h here = record {
    n = h.n;
    lost = h.lost;
    least = h.least;
    processes = process_set (IsMemberAt cluster w state.lost) i p state.processes w.nodes (λ _. process_at w (state.lost i) p (w.nodes i) stored.kept here) h.processes;
    offered = each_append (IsKnown w) state.offered [] h.offered tt;
    notes = h.notes;
  }

  restart_matches : (e i : ℕ) (p : Process) (state : State) (w : World) → IsStored cluster state w i → Matches cluster state w → ((v : World) → IsProcessIn cluster v p (restarted_node (w.nodes i)))
      → Matches cluster (state_as i p [] [] state) (world_after_event cluster.config e (Restart i) w)
  restart_matches e i p state w stored h here =
      let u : World = record w { nodes = with_state i (restarted_node (w.nodes i)) w.nodes } in
      let grows = same_known u w refl refl in
      subst (λ z. Matches cluster (state_as i p [] [] state) z) (sym (restarts cluster.config e i w stored.store))
      (record {
        n = h.n;
        lost = h.lost;
        least = h.least;
        processes = both_set (IsMemberAt cluster u state.lost) i p (restarted_node (w.nodes i)) state.processes w.nodes (λ _. process_at u (state.lost i) p (restarted_node (w.nodes i)) stored.kept (here u))
            (all_grow w u grows state.lost state.processes w.nodes h.processes);
        offered = each_append (IsKnown u) state.offered [] (each_weaker (IsKnown w) (IsKnown u) grows state.offered h.offered) tt;
        notes = h.notes;
      })

  stays : (e : ℕ) (action : Action) (old : Process) (state : State) (w : World) → IsFull action old nothing → answers_made setting e action old ≡ [] → Matches cluster state w → Follows cluster e action old state w
  stays e action old state w is none h = record {
    event = nothing;
    is_full = is;
    matches = subst (λ z. Matches cluster state z) (sym (quiet cluster.config e w)) h;
    told = ap (λ (z : World). z.told) (quiet cluster.config e w) ∙ sym (append-nil w.told) ∙ ap (λ l. w.told ++ l) (sym none);
  }

  -- its process changes alone
  alone : (e : ℕ) (action : Action) (old : Process) (i : ℕ) (p : Process) (state : State) (w : World) → IsFull action old nothing → answers_made setting e action old ≡ [] → IsStored cluster state w i → Matches cluster state w → IsProcessIn cluster w p (w.nodes i)
      → Follows cluster e action old (state_as i p [] [] state) w
  alone e action old i p state w is none stored h here = stays e action old (state_as i p [] [] state) w is none (process_changes i p state w stored h here)

  -- a process opens a store, or ends while it opens it
  served_first : (w : World) (store : Store) (x : NodeState) → IsKept m store → x ≡ opened_node (seen_of cluster store) → IsProcessIn cluster w (Up terms store (opened_node (seen_of cluster store)) []) x
  served_first w store x kept is = (
    refl,
    record {
      kept = kept;
      state = is;
      known = λ z at. subst (λ k. z.token < k) (places_size m store kept) (above_low (places_of store seats) store.content.last z at);
      unseen = λ none. none;
      waits = tt;
    },
  )

  opened_up : (e i : ℕ) (store : Store) (state : State) (w : World) → IsStored cluster state w i → Matches cluster state w → IsProcessIn cluster w (Down store) (w.nodes i) → ltb store.content.boot last_boot ≡ true
      → Follows cluster e (Opens i terms) (Down store) (state_as i (Up terms store (opened_node (seen_of cluster store)) []) [] [] state) w
  opened_up e i store state w stored h here low =
      let c = seen_of cluster store in
      let p = Up terms store (opened_node c) [] in
      ⊎_elim
      (λ (is : restarted_node (w.nodes i) ≡ opened_node c). record {
        event = Restart i;
        is_full = inr refl;
        matches = restart_matches e i p state w stored h (λ v. served_first v store (restarted_node (w.nodes i)) here.0 is);
        told = restart_told cluster.config e i w stored.store;
      })
      (λ (is : w.nodes i ≡ opened_node c). alone e (Opens i terms) (Down store) i p state w (inl refl) refl stored h (served_first w store (w.nodes i) here.0 is))
      (resting_opens c (w.nodes i) here.1 low)

  opens : (e i : ℕ) (store : Store) (state : State) (w : World) → IsStored cluster state w i → Matches cluster state w → IsProcessIn cluster w (Down store) (w.nodes i)
      → Follows cluster e (Opens i terms) (Down store) (state_as i (process_opened terms store) [] [] state) w
  opens e i store state w stored h here =
      cond_both (do_fit terms store && ltb store.content.boot last_boot) (Up terms store (opened_node (seen_of cluster store)) []) (Down store) (λ p. Follows cluster e (Opens i terms) (Down store) (state_as i p [] [] state) w)
      (λ q. opened_up e i store state w stored h here (and_parts (do_fit terms store) (ltb store.content.boot last_boot) q).1)
      (λ _. alone e (Opens i terms) (Down store) i (Down store) state w (inl refl) refl stored h here)

  half_opens : (e i : ℕ) (raised : Bool) (store : Store) (state : State) (w : World) → IsStored cluster state w i → Matches cluster state w → IsProcessIn cluster w (Down store) (w.nodes i)
      → Follows cluster e (FailsToOpen i raised) (Down store) (state_as i (process_half_opened raised store) [] [] state) w
  half_opens e i false store state w stored h here = alone e (FailsToOpen i false) (Down store) i (Down store) state w (inl refl) refl stored h here
  half_opens e i true store state w stored h here =
      let next : IsKept m (store_in_next_boot store) = record { names = here.0.names; size = here.0.size } in
      cond_both (ltb store.content.boot last_boot) (Down (store_in_next_boot store)) (Down store) (λ p. Follows cluster e (FailsToOpen i true) (Down store) (state_as i p [] [] state) w)
      (λ low. record {
        event = Restart i;
        is_full = inr refl;
        matches = restart_matches e i (Down (store_in_next_boot store)) state w stored h (λ v. (next, resting_raised (seen_of cluster store) (w.nodes i) here.1 low));
        told = restart_told cluster.config e i w stored.store;
      })
      (λ _. alone e (FailsToOpen i true) (Down store) i (Down store) state w (inl refl) refl stored h here)

  -- it offers the next
  offers : (e i : ℕ) (below : Store) (s : NodeState) (waiting : List Output) (state : State) (w : World) → IsStored cluster state w i → Matches cluster state w → IsServed cluster w below s waiting (w.nodes i)
      → Follows cluster e (Offers i) (Up terms below s waiting) (state_as i (process_offered terms below s waiting) (first_of_these waiting) [] state) w
  offers e i below s [] state w stored h here = alone e (Offers i) (Up terms below s []) i (Up terms below s []) state w refl refl stored h (refl, here)
  offers e i below s (o ∷ waiting) state w stored h here =
      let rest : IsProcessIn cluster w (Up terms below s waiting) (w.nodes i) = (refl, record { kept = here.kept; state = here.state; known = here.known; unseen = here.unseen; waits = here.waits.1 }) in
      stays e (Offers i) (Up terms below s (o ∷ waiting)) (state_as i (Up terms below s waiting) (o ∷ []) [] state) w refl refl
      (record {
        n = h.n;
        lost = h.lost;
        least = h.least;
        processes = process_set (IsMemberAt cluster w state.lost) i (Up terms below s waiting) state.processes w.nodes (λ _. process_at w (state.lost i) (Up terms below s waiting) (w.nodes i) stored.kept rest) h.processes;
        offered = each_append (IsKnown w) state.offered (o ∷ []) h.offered (here.waits.0, tt);
        notes = h.notes;
      })

  -- its process ends without a change
  ends : (e : ℕ) (action : Action) (i : ℕ) (below : Store) (s : NodeState) (waiting : List Output) (state : State) (w : World) → IsFull action (Up terms below s waiting) nothing → answers_made setting e action (Up terms below s waiting) ≡ []
      → IsStored cluster state w i → Matches cluster state w → length (w.nodes i).content.rows ≡ m → IsServed cluster w below s waiting (w.nodes i)
      → Follows cluster e action (Up terms below s waiting) (state_as i (Down (store_under seats s.content below)) [] [] state) w
  ends e action i below s waiting state w is none stored h size here =
      let rows : length s.content.rows ≡ m = ap (λ (y : NodeState). length y.content.rows) (sym here.state) ∙ size in
      let rest : IsProcessIn cluster w (Down (store_under seats s.content below)) (w.nodes i) =
      left_at_rest w below s (w.nodes i) here.kept (under_seen w below s waiting (w.nodes i) rows here) (inl (ap (λ (y : NodeState). y.content) here.state)) in
      alone e action (Up terms below s waiting) i (Down (store_under seats s.content below)) state w is none stored h rest

  -- its store is lost
  loses : (e i : ℕ) (p : Process) (state : State) (w : World) → IsStored cluster state w i → Matches cluster state w → ((j : ℕ) → length (w.nodes j).content.rows ≡ m) → IsProcessIn cluster w p (w.nodes i)
      → Follows cluster e (Loses i) p (state_with setting e (Loses i) p state) w
  unfolding world_after_event world_after_loss
  loses e i p state w stored h size here =
      let x = w.nodes i in
      let next : ℕ → ℕ → ℕ = λ token other. (row (w.nodes other).content token).next in
      let floor : ℕ → ℕ → ℕ = λ token other. floor_of (store_at (state.processes other)) token in
      let u : World = record w { nodes = with_state i (lost_node x) w.nodes; lost = with_node i w.lost; least = λ token. greatest w.n (with_node i w.lost) (next token) } in
      let is : world_after_event cluster.config e (Lost i) w ≡ u = cond-true (has_store w i) u w stored.store in
      let grows = same_known u w refl refl in
      let kept = at_kept w p x here in
      let gone : IsGoneStore cluster (store_in_next_boot (store_at p)) (lost_node x) = record {
        kept = record { names = kept.names; size = kept.size };
        next = λ token. next_in w p x token (size i) here;
        boot = (let near = near_boot w p x here in omega (arith, near));
      } in
      record {
        event = Lost i;
        is_full = refl;
        matches = subst (λ z. Matches cluster (state_with setting e (Loses i) p state) z) (sym is)
            (record {
              n = h.n;
              lost = ap (λ l. with_node i l) h.lost;
              least = fun_ext (λ token.
                  ap (λ k. greatest k (with_node i w.lost) (next token)) h.n
                  ∙ ap (λ l. greatest n (with_node i l) (next token)) h.lost
                  ∙ greatest_of_members n n (with_node i state.lost) (next token) (floor token) (omega arith)
                  (λ j member. same_next w (state.lost j) (state.processes j) (w.nodes j) token (size j) (h.processes j member)));
              processes = lost_set u i (Down (store_in_next_boot (store_at p))) (lost_node x) state.lost state.processes w.nodes gone (all_grow w u grows state.lost state.processes w.nodes h.processes);
              offered = each_append (IsKnown u) state.offered [] (each_weaker (IsKnown w) (IsKnown u) grows state.offered h.offered) tt;
              notes = h.notes;
            });
        told = ap (λ (z : World). z.told) is ∙ sym (append-nil w.told);
      }

  gone_boot : (p : Process) (x : NodeState) → IsGone cluster p x → x.content.boot ≤ (store_at p).content.boot + 1
  gone_boot (Down store) x h = h.boot
  gone_boot (Up own below s waiting) x h = absurd h

  -- if a replacement store may be created, it may be in the world, with the next boot
  remade_may : (state : State) (w : World) (i boot : ℕ) (given : List ℕ) (floor : ℕ → ℕ) → given ≡ seats → Matches cluster state w → length (w.nodes i).content.rows ≡ m → (w.nodes i).content.boot ≤ (store_at (state.processes i)).content.boot + 1
      → boot < last_boot → may_be_remade setting state i boot given floor ≡ true → may_be_anew w i (boot + 1) (floor_in (map floor given)) ≡ true
  remade_may state w i boot given floor are h sized near below can =
      let x = w.nodes i in
      let before = (store_at (state.processes i)).content.boot in
      let most = all_most m state.least (made_floor given floor) in
      let low_most = leb boot last_boot && most in
      let fresh = leb before boot && low_most in
      let few = ltb (size n state.lost) (majority_of n) && fresh in
      let whole = and_parts _ ((is_member n i && state.lost i) && few) can in
      let p = and_parts (is_member n i && state.lost i) few whole.1 in
      let q = and_parts (ltb (size n state.lost) (majority_of n)) fresh p.1 in
      let r = and_parts (leb before boot) low_most q.1 in
      let s = and_parts (leb boot last_boot) most r.1 in
      let new : ℕ → ℕ = floor_in (map floor given) in
      let floors : (t : ℕ) → t < m → made_floor given floor t ≤ new t = λ t low.
      let is : new t ≡ floor t = ap (λ (l : List ℕ). get_or (map floor l) t 0) are ∙ get_or-map-range_with_len floor 0 m t t 0 low (omega arith) in
      subst (λ k. made_floor given floor t ≤ k) (sym is) (made_most given floor t) in
      let all : all_most m state.least new ≡ true = more_most m state.least (made_floor given floor) new floors s.1 in
      let new_boot : x.content.boot ≤ boot + 1 = (let old = leb-true before boot r.0 in omega (arith, near, old)) in
      let last : boot + 1 ≤ last_boot = omega (arith, below) in
      let new_most = all_most (length x.content.rows) w.least new in
      let new_low = leb (boot + 1) last_boot && new_most in
      let new_fresh = leb x.content.boot (boot + 1) && new_low in
      and_from (is_member w.n i && w.lost i) (ltb (size w.n w.lost) (majority_of w.n) && new_fresh)
      (ap (λ k. is_member k i && w.lost i) h.n ∙ ap (λ (l : ℕ → Bool). is_member n i && l i) h.lost ∙ p.0)
      (and_from (ltb (size w.n w.lost) (majority_of w.n)) new_fresh
      (ap (λ k. ltb (size k w.lost) (majority_of k)) h.n ∙ ap (λ l. ltb (size n l) (majority_of n)) h.lost ∙ q.0)
      (and_from (leb x.content.boot (boot + 1)) new_low (le-leb x.content.boot (boot + 1) new_boot)
      (and_from (leb (boot + 1) last_boot) new_most (le-leb (boot + 1) last_boot last)
      (ap (λ k. all_most k w.least new) sized ∙ ap (λ l. all_most m l new) h.least ∙ all))))

  -- a new store at rest
  created_rests : (w : World) (boot k : ℕ) (floor : ℕ → ℕ) → k ≡ m → IsProcessIn cluster w (Down (store_with_rows boot seats floor)) (opening_node (boot + 1) k (floor_in (map floor seats)))
  created_rests w boot k floor is =
      let new : List RowRecord → NodeState = λ rows. opened_node (record { rows = rows; boot = boot; last = None }) in
      let same : opening_rows k (floor_in (map floor seats)) ≡ opening_rows m floor =
      ap (λ j. opening_rows j (floor_in (map floor seats))) is
      ∙ opening_same m (floor_in (map floor seats)) floor (λ t low. get_or-map-range_with_len floor 0 m t t 0 low (omega arith)) in
      (created_kept m boot floor, inr (ap new same ∙ ap (λ (c : Content). opened_node c) (sym (created_seen m boot floor))))

  remakes : (e i boot : ℕ) (given : List ℕ) (floor : ℕ → ℕ) (p : Process) (state : State) (w : World) → given ≡ seats → boot < last_boot → Matches cluster state w → length (w.nodes i).content.rows ≡ m
      → IsGone cluster p (w.nodes i) → may_be_anew w i (boot + 1) (floor_in (map floor given)) ≡ true → Follows cluster e (Remakes i boot given floor) p (state_with setting e (Remakes i boot given floor) p state) w
  unfolding world_after_event world_after_anew
  remakes e i boot given floor (Up own below s waiting) state w are low h size gone may = absurd gone
  remakes e i boot given floor (Down store) state w are low h size gone may =
      let floors = map floor given in
      let k = length (w.nodes i).content.rows in
      let new = opening_node (boot + 1) k (floor_in floors) in
      let process = Down (store_with_rows boot given floor) in
      let u : World = record w { nodes = with_state i new w.nodes; lost = without_node i w.lost; history = note_anew e i ∷ w.history } in
      let is : world_after_event cluster.config e (Anew i (boot + 1) floors) w ≡ u = cond-true (may_be_anew w i (boot + 1) (floor_in floors)) u w may in
      let grows = same_known u w refl refl in
      let rests : IsProcessIn cluster u process new =
      subst (λ (l : List ℕ). IsProcessIn cluster u (Down (store_with_rows boot l floor)) (opening_node (boot + 1) k (floor_in (map floor l)))) (sym are) (created_rests u boot k floor size) in
      record {
        event = Anew i (boot + 1) floors;
        is_full = refl;
        matches = subst (λ z. Matches cluster (state_with setting e (Remakes i boot given floor) (Down store) state) z) (sym is)
            (record {
              n = h.n;
              lost = ap (λ l. without_node i l) h.lost;
              least = h.least;
              processes = remade_set u i process new state.lost state.processes w.nodes rests (all_grow w u grows state.lost state.processes w.nodes h.processes);
              offered = each_append (IsKnown u) state.offered [] (each_weaker (IsKnown w) (IsKnown u) grows state.offered h.offered) tt;
              notes = ap (λ l. note_anew e i ∷ l) h.notes;
            });
        told = ap (λ (z : World). z.told) is ∙ sym (append-nil w.told);
      }

  pub is_stored : (state : State) (w : World) (i : ℕ) → Matches cluster state w → has_own_store setting state i ≡ true → IsStored cluster state w i × IsProcessIn cluster w (state.processes i) (w.nodes i)
  is_stored state w i h can =
      let kept = not_lost (state.lost i) (is_member n i) can in
      let member = (and_parts (not (state.lost i)) (is_member n i) can).1 in
      let store : has_store w i ≡ true = ap (λ k. not (w.lost i) && is_member k i) h.n ∙ ap (λ (l : ℕ → Bool). not (l i) && is_member n i) h.lost ∙ can in
      (record { kept = kept; member = member; store = store }, subst (λ b. IsProcessAt cluster w b (state.processes i) (w.nodes i)) kept (h.processes i member))

  is_ready : (state : State) (w : World) (action : Action) → Matches cluster state w → can_be setting state action ≡ true → IsReady cluster state w action (state.processes (node_of_action action))
  is_ready state w (Opens i own) h can = is_stored state w i h can
  is_ready state w (FailsToOpen i raised) h can = is_stored state w i h can
  is_ready state w (Takes i input) h can = is_stored state w i h can
  is_ready state w (Offers i) h can = is_stored state w i h can
  is_ready state w (Stops i) h can = is_stored state w i h can
  is_ready state w (StopsIn i kept input) h can = is_stored state w i h can
  is_ready state w (Loses i) h can = is_stored state w i h can
  is_ready state w (Enrols i token floor) h can = is_stored state w i h can
  is_ready state w (Unlocks i token) h can = is_stored state w i h can
  is_ready state w (OpensGate i token) h can = is_stored state w i h can
  is_ready state w (Raises i token floor) h can = is_stored state w i h can
  is_ready state w (Remakes i boot given floor) h can =
      let both = (and_parts (is_member n i && state.lost i) _ (and_parts _ ((is_member n i && state.lost i) && _) can).1).0 in
      let parts = and_parts (is_member n i) (state.lost i) both in
      (parts.0, subst (λ b. IsProcessAt cluster w b (state.processes i) (w.nodes i)) parts.1 (h.processes i parts.0), can)

  -- ---- a process takes an input

  module _ (grounds : GroundLaw) (justified : JustifiedLaw) (may : MayStart cluster.config (start_of cluster)) where
    -- what is known of the step of an act
    pub step_low : (e i : ℕ) (act : Act) (input : NodeEvent) (s : NodeState) (w : World) → Ran cluster.config (start_of cluster) e w → w.n ≡ n → has_store w i ≡ true → w.nodes i ≡ s → acting_node act ≡ i → node_event_of w.sent act ≡ Some input
        → Low terms m i s (made_by_input setting terms i input s) × (length (made_by_input setting terms i input s).state.content.rows ≡ m)
    unfolding world_after_event
    step_low e i act input s w ran members store here at what =
        let made = made_by_input setting terms i input s in
        let same = acts cluster e i act input s w members store here at what in
        let after : Ran cluster.config (start_of cluster) (suc e) (world_with_made e i made w) =
        subst (λ z. Ran cluster.config (start_of cluster) (suc e) z) same (ran_next grounds cluster.config (start_of cluster) e (Happens act) w ran) in (
          is_low grounds w.n terms (place_in setting i) s input refl (pass_low justified cluster.config (start_of cluster) e (suc e) i made w may after)
              (sends_deliverable cluster.config (start_of cluster) e (suc e) i made w after),
          made_size cluster.config (start_of cluster) e (suc e) i made w after,
        )

    -- a step, its act, and what is known of it
    record Taken (e i : ℕ) (input : NodeEvent) (s : NodeState) (state : State) (w : World) : Type 0 where
      found : ActFor w i input
      same : world_after_act cluster.config e found.act w ≡ world_with_made e i (made_by_input setting terms i input s) w
      low : Low terms m i s (made_by_input setting terms i input s)
      size : length (made_by_input setting terms i input s).state.content.rows ≡ m

    taken_is : (e i : ℕ) (input : NodeEvent) (s : NodeState) (state : State) (w : World) → Ran cluster.config (start_of cluster) e w → IsStored cluster state w i → Matches cluster state w → w.nodes i ≡ s → WasSent terms state.offered input
        → Taken e i input s state w
    taken_is e i input s state w ran stored h here sent =
        let found = act_for terms state.offered w i input h.offered sent in
        let known = step_low e i found.act input s w ran h.n stored.store here found.acting found.event in
        record {
          found = found;
          same = acts cluster e i found.act input s w h.n stored.store here found.acting found.event;
          low = known.0;
          size = known.1;
        }

    -- the store below has what the process leaves after the step
    pub made_served : (v w : World) (i : ℕ) (input : NodeEvent) (below : Store) (s : NodeState) (waiting more : List Output) (x : NodeState) → Low terms m i s (made_by_input setting terms i input s) → IsServed cluster w below s waiting x → Each (IsKnown v) more
        → IsServed cluster v below (made_by_input setting terms i input s).state more (made_by_input setting terms i input s).state
    made_served v w i input below s waiting more x low h known = record {
      kept = h.kept;
      state = refl;
      known = low.known h.known;
      unseen = λ none. h.unseen (low.grows none);
      waits = known;
    }

    takes : (e i : ℕ) (input : NodeEvent) (below : Store) (s : NodeState) (waiting : List Output) (state : State) (w : World) → Ran cluster.config (start_of cluster) e w → IsStored cluster state w i → Matches cluster state w
        → IsServed cluster w below s waiting (w.nodes i) → WasSent terms state.offered input
        → Follows cluster e (Takes i input) (Up terms below s waiting) (state_as i (process_taken setting e i input terms below s waiting) [] (note_of_step terms e i (made_by_input setting terms i input s) ∷ []) state) w
    unfolding world_after_event world_with_made
    takes e i input below s waiting state w ran stored h here sent =
        let t = taken_is e i input s state w ran stored h here.state sent in
        let made = made_by_input setting terms i input s in
        let v = world_with_made e i made w in
        let more = waiting ++ outputs_of_step terms e i made in
        let p = Up terms below made.state more in
        let grows = made_grows e i made w in
        let served = made_served v w i input below s waiting more (w.nodes i) t.low here
        (each_append (IsKnown v) waiting (outputs_of_step terms e i made) (each_weaker (IsKnown w) (IsKnown v) grows waiting here.waits) (made_known cluster e i made w t.low.sends)) in
        record {
          event = Happens t.found.act;
          is_full = record { act = t.found.act; event_is = refl; is_act = t.found.is_act };
          matches = subst (λ z. Matches cluster (state_as i p [] (note_of_step terms e i made ∷ []) state) z) (sym t.same)
              (record {
                n = h.n;
                lost = h.lost;
                least = h.least;
                processes = both_set (IsMemberAt cluster v state.lost) i p made.state state.processes w.nodes (λ _. process_at v (state.lost i) p made.state stored.kept (refl, served))
                    (all_grow w v grows state.lost state.processes w.nodes h.processes);
                offered = each_append (IsKnown v) state.offered [] (each_weaker (IsKnown w) (IsKnown v) grows state.offered h.offered) tt;
                notes = ap (λ l. note_of e i made ∷ l) h.notes ∙ ap (λ note. note ∷ state.notes) (sym (t.low.note e));
              });
          told = ap (λ (z : World). z.told) t.same;
        }

    -- it ends inside the step, and the change is kept
    cuts : (e i : ℕ) (input : NodeEvent) (below : Store) (s : NodeState) (waiting : List Output) (state : State) (w : World) → Ran cluster.config (start_of cluster) e w → IsStored cluster state w i → Matches cluster state w
        → IsServed cluster w below s waiting (w.nodes i) → WasSent terms state.offered input
        → Follows cluster e (StopsIn i true input) (Up terms below s waiting) (state_as i (process_cut setting i true input terms below s) [] (note_of_step terms e i (made_by_input setting terms i input s) ∷ []) state) w
    unfolding world_after_event world_with_made world_after_restart
    cuts e i input below s waiting state w ran stored h here sent =
        let t = taken_is e i input s state w ran stored h here.state sent in
        let made = made_by_input setting terms i input s in
        let v = cut_world e i made w in
        let y = restarted_node (v.nodes i) in
        let u : World = record v { nodes = with_state i y v.nodes } in
        let p = Down (store_under seats made.state.content below) in
        let cut : world_after_event cluster.config e (Cut true t.found.act) w ≡ world_after_restart (Some i) v =
        ap (λ o. world_after_restart o (with_told_of w (world_after_act cluster.config e t.found.act w))) t.found.cut
        ∙ ap (λ z. world_after_restart (Some i) (with_told_of w z)) t.same in
        let is = cut ∙ cond-true (has_store w i) u v stored.store in
        let grows = same_known u w refl refl in
        let served = made_served w w i input below s waiting [] (w.nodes i) t.low here tt in
        let again : IsResting made.state.content y = subst (λ (x : NodeState). IsResting made.state.content (restarted_node x)) (sym (state_at i made.state w.nodes)) (resting_again made.state) in
        let rest : IsProcessIn cluster u p y = left_at_rest u below made.state y here.kept (under_seen w below made.state [] made.state t.size served) again in
        record {
          event = Cut true t.found.act;
          is_full = record { act = t.found.act; event_is = refl; is_act = t.found.is_act };
          matches = subst (λ z. Matches cluster (state_as i p [] (note_of_step terms e i made ∷ []) state) z) (sym is)
              (record {
                n = h.n;
                lost = h.lost;
                least = h.least;
                processes = twice_set (IsMemberAt cluster u state.lost) i p made.state y state.processes w.nodes (λ _. process_at u (state.lost i) p y stored.kept rest)
                    (all_grow w u grows state.lost state.processes w.nodes h.processes);
                offered = each_append (IsKnown u) state.offered [] (each_weaker (IsKnown w) (IsKnown u) grows state.offered h.offered) tt;
                notes = ap (λ l. note_of e i made ∷ l) h.notes ∙ ap (λ note. note ∷ state.notes) (sym (t.low.note e));
              });
          told = ap (λ (z : World). z.told) cut ∙ cut_told e i made w stored.store ∙ sym (append-nil w.told);
        }

    -- ---- each action

    -- at a process under the terms
    at_up : (e : ℕ) (action : Action) (below : Store) (s : NodeState) (waiting : List Output) (state : State) (w : World) → state.processes (node_of_action action) ≡ Up terms below s waiting → Ran cluster.config (start_of cluster) e w → Matches cluster state w
        → IsReady cluster state w action (Up terms below s waiting) → IsSteadyAction terms action → WasSentIn state action → Follows cluster e action (Up terms below s waiting) (state_with setting e action (Up terms below s waiting) state) w
    at_up e (Opens i own) below s waiting state w is ran h ready steady sent = alone e (Opens i own) (Up terms below s waiting) i (Up terms below s waiting) state w refl refl ready.0 h ready.1
    at_up e (FailsToOpen i raised) below s waiting state w is ran h ready steady sent = alone e (FailsToOpen i raised) (Up terms below s waiting) i (Up terms below s waiting) state w refl refl ready.0 h ready.1
    at_up e (Takes i input) below s waiting state w is ran h ready steady sent = takes e i input below s waiting state w ran ready.0 h ready.1.1 (subst (λ p. WasSentTo p state.offered input) is sent)
    at_up e (Offers i) below s waiting state w is ran h ready steady sent = offers e i below s waiting state w ready.0 h ready.1.1
    at_up e (Stops i) below s waiting state w is ran h ready steady sent = ends e (Stops i) i below s waiting state w refl refl ready.0 h (ran.sized i) ready.1.1
    at_up e (StopsIn i false input) below s waiting state w is ran h ready steady sent = ends e (StopsIn i false input) i below s waiting state w refl refl ready.0 h (ran.sized i) ready.1.1
    at_up e (StopsIn i true input) below s waiting state w is ran h ready steady sent = cuts e i input below s waiting state w ran ready.0 h ready.1.1 (subst (λ p. WasSentTo p state.offered input) is sent)
    at_up e (Loses i) below s waiting state w is ran h ready steady sent = loses e i (Up terms below s waiting) state w ready.0 h ran.sized ready.1
    at_up e (Remakes i boot given floor) below s waiting state w is ran h ready steady sent = absurd ready.1
    at_up e (Enrols i token floor) below s waiting state w is ran h ready steady sent = absurd steady
    at_up e (Unlocks i token) below s waiting state w is ran h ready steady sent = absurd steady
    at_up e (OpensGate i token) below s waiting state w is ran h ready steady sent = absurd steady
    at_up e (Raises i token floor) below s waiting state w is ran h ready steady sent = absurd steady

    -- without a process
    at_down : (e : ℕ) (action : Action) (store : Store) (state : State) (w : World) → state.processes (node_of_action action) ≡ Down store → Ran cluster.config (start_of cluster) e w → Matches cluster state w → IsReady cluster state w action (Down store) → IsSteadyAction terms action
        → Follows cluster e action (Down store) (state_with setting e action (Down store) state) w
    at_down e (Opens i own) store state w is ran h ready steady =
        subst (λ (t : Terms). Follows cluster e (Opens i t) (Down store) (state_as i (process_opened t store) [] [] state) w) (sym steady) (opens e i store state w ready.0 h ready.1)
    at_down e (FailsToOpen i raised) store state w is ran h ready steady = half_opens e i raised store state w ready.0 h ready.1
    at_down e (Takes i input) store state w is ran h ready steady = alone e (Takes i input) (Down store) i (Down store) state w refl refl ready.0 h ready.1
    at_down e (Offers i) store state w is ran h ready steady = alone e (Offers i) (Down store) i (Down store) state w refl refl ready.0 h ready.1
    at_down e (Stops i) store state w is ran h ready steady = alone e (Stops i) (Down store) i (Down store) state w refl refl ready.0 h ready.1
    at_down e (StopsIn i false input) store state w is ran h ready steady = alone e (StopsIn i false input) (Down store) i (Down store) state w refl refl ready.0 h ready.1
    at_down e (StopsIn i true input) store state w is ran h ready steady = alone e (StopsIn i true input) (Down store) i (Down store) state w refl refl ready.0 h ready.1
    at_down e (Loses i) store state w is ran h ready steady = loses e i (Down store) state w ready.0 h ran.sized ready.1
    at_down e (Remakes i boot given floor) store state w is ran h ready steady =
        let near : (w.nodes i).content.boot ≤ (store_at (state.processes i)).content.boot + 1 =
        subst (λ (p : Process). (w.nodes i).content.boot ≤ (store_at p).content.boot + 1) (sym is) (gone_boot (Down store) (w.nodes i) ready.1) in
        remakes e i boot given floor (Down store) state w steady.0 steady.1 h (ran.sized i) ready.1
        (remade_may state w i boot given floor steady.0 h (ran.sized i) near steady.1 ready.2)
    at_down e (Enrols i token floor) store state w is ran h ready steady = absurd steady
    at_down e (Unlocks i token) store state w is ran h ready steady = absurd steady
    at_down e (OpensGate i token) store state w is ran h ready steady = absurd steady
    at_down e (Raises i token floor) store state w is ran h ready steady = absurd steady

    -- a process has the cluster's terms
    up_terms : (state : State) (w : World) (action : Action) (own : Terms) (below : Store) (s : NodeState) (waiting : List Output) → IsReady cluster state w action (Up own below s waiting) → own ≡ terms
    up_terms state w (Opens i t) own below s waiting ready = ready.1.0
    up_terms state w (FailsToOpen i raised) own below s waiting ready = ready.1.0
    up_terms state w (Takes i input) own below s waiting ready = ready.1.0
    up_terms state w (Offers i) own below s waiting ready = ready.1.0
    up_terms state w (Stops i) own below s waiting ready = ready.1.0
    up_terms state w (StopsIn i kept input) own below s waiting ready = ready.1.0
    up_terms state w (Loses i) own below s waiting ready = ready.1.0
    up_terms state w (Remakes i boot given floor) own below s waiting ready = absurd ready.1
    up_terms state w (Enrols i token floor) own below s waiting ready = ready.1.0
    up_terms state w (Unlocks i token) own below s waiting ready = ready.1.0
    up_terms state w (OpensGate i token) own below s waiting ready = ready.1.0
    up_terms state w (Raises i token floor) own below s waiting ready = ready.1.0

    at_process : (e : ℕ) (action : Action) (p : Process) (state : State) (w : World) → state.processes (node_of_action action) ≡ p → Ran cluster.config (start_of cluster) e w → Matches cluster state w → IsReady cluster state w action p → IsSteadyAction terms action
        → WasSentIn state action → Follows cluster e action p (state_with setting e action p state) w
    at_process e action (Down store) state w is ran h ready steady sent = at_down e action store state w is ran h ready steady
    at_process e action (Up own below s waiting) state w is ran h ready steady sent =
        let same = up_terms state w action own below s waiting ready in
        subst (λ (t : Terms). Follows cluster e action (Up t below s waiting) (state_with setting e action (Up t below s waiting) state) w) (sym same)
        (at_up e action below s waiting state w (is ∙ ap (λ (t : Terms). Up t below s waiting) same) ran h (subst (λ (t : Terms). IsReady cluster state w action (Up t below s waiting)) same ready) steady sent)

    followed : (e : ℕ) (action : Action) (state : State) (w : World) (can : Bool) → can_be setting state action ≡ can → Ran cluster.config (start_of cluster) e w → Matches cluster state w → IsSteadyAction terms action → WasSentIn state action
        → IsFollowed cluster e action state (cond can (state_with setting e action (state.processes (node_of_action action)) state) state) w (cond can (answers_made setting e action (state.processes (node_of_action action))) []) can
    followed e action state w true is ran h steady sent =
        let f = at_process e action (state.processes (node_of_action action)) state w refl ran h (is_ready state w action h is) steady sent in
        record { event = f.event; is_one = f.is_full; matches = f.matches; told = f.told }
    followed e action state w false is ran h steady sent = record {
      event = nothing;
      is_one = refl;
      matches = subst (λ z. Matches cluster state z) (sym (quiet cluster.config e w)) h;
      told = ap (λ (z : World). z.told) (quiet cluster.config e w) ∙ sym (append-nil w.told);
    }

    pub follows : (e : ℕ) (action : Action) (state : State) (w : World) → Ran cluster.config (start_of cluster) e w → Matches cluster state w → IsSteadyAction terms action → WasSentIn state action
        → IsFollowed cluster e action state (state_after_action setting e action state) w (answers_by setting e action state) (can_be setting state action)
    unfolding state_after_action
    follows e action state w ran h steady sent = followed e action state w (can_be setting state action) refl ran h steady sent

-- A cluster of one node answers as the reference server does.
use Rattle.std.proofs.Common.{◌≡◌, ℕ, suc, ◌+◌, ◌^◌, ◌<◌, ◌≤◌, ◌⊎◌, inl, inr, ⊎_elim, Bool, true, false, not, ◌&&◌, ◌||◌, cond, List, [], ◌∷◌, ◌++◌, length, map, refl, sym, ap, ◌∙◌, subst, arith, eqb, leb, ltb}
use Rattle.std.proofs.lemmas.Bool.{cond_both, cond-true, cond-false, cases_Bool, eqb-true, eqb-false, eq-eqb, and_left, and_parts, and_right, false≢true, leb-true}
use Rattle.std.proofs.lemmas.List.{append-nil, append_assoc}
use Rattle.otp_core.specs.Acceptance.{majority_of, size}
use Rattle.vote_core.specs.Schedule.{is_member, last_boot}
use Rattle.oath_node.specs.Machine.{Config, Made, NodeEvent, NodeState, Client, Peer, Tick, opened_node}
use Rattle.cluster_sim.proofs.BelowLaws.{AloneLaw, GroundLaw}
use Rattle.cluster_sim.proofs.Lone.{Lone, LoneStep, happens_lone, start_lone}
use Rattle.oath_node.specs.ReferenceServer.{Server, restarted_server}
use Rattle.cluster_sim.specs.SingleNode.{answers_to_event, is_end as ends_world, opening_server, server_after_event, server_after_restart, service_to, told_of_line}
use Rattle.cluster_sim.specs.World.{Act, Deliver, Noise, Answer, MayStart, World, WorldEvent, Happens, Cut, Restart, opening_world, told_reply, world_after_event}
use Rattle.book_law.specs.Lives.{Action, Opens, FailsToOpen, Takes, Offers, Stops, StopsIn, Loses, Remakes, Enrols, Unlocks, OpensGate, Raises, Output, Process, Sealed, Setting, State, Store, Terms, ToPeer, ToClient, Down, Up, answered_in, answers_among, can_be, do_fit, first_state, has_store, made_by_input, may_enrol, node_of_action, number_to_unlock, offers_by, outputs_of_step, process_after, sealed_from, seen_in, state_after, state_after_action, state_of, state_unlocked, state_with, store_in_next_boot, store_raised, store_under, store_unlocked, store_with_row, store_with_rows}
use Rattle.book_law.proofs.Serving.{action_at}
use Rattle.book_law.proofs.Told.{answers_by, answers_in, answers_made}
use Rattle.world_law.specs.SingleNode.{IsPartOf, answers_to_action, answers_to_actions, cluster_of_one, is_end, is_of_one, reference_of, server_after_action}
use Rattle.world_law.specs.Steady.{AreSent, AreSteady, IsSteady, SteadyCluster, enrolled_store, nodes_of, setting_of, start_of, terms_of}
use Rattle.world_law.specs.Worlds.{IsActOf, nothing}
use Rattle.world_law.proofs.Follow.{IsFollowed, IsFull, IsOneAt, IsProcessAt, Matches, OfStore, follows, of_event, one_is_event}
use Rattle.world_law.proofs.Genuine.{can_member}
use Rattle.world_law.proofs.Ran.{JustifiedLaw, Ran, ran_next}
use Rattle.world_law.proofs.Runs.{enrolments_keep, may_start, ran_idle, starts, states_append}

-- ---- the server

unkept : (s : Server) → s.front.answers ≡ [] → restarted_server s ≡ s
unkept s none = ap (λ a. record { floors = s.floors; front = record { results = s.front.results; drifts = s.front.drifts; answers = a } }) (sym none)

-- the server of the world equals the server of the history
abbrev SameServer : Process → Server → Server → Type 0
SameServer (Down store) sw sh = restarted_server sw ≡ restarted_server sh
SameServer (Up under below s waiting) sw sh = sw ≡ sh

-- the answers and the servers after an action
record Step (cluster : SteadyCluster) (e : ℕ) (d : Action) (a : Process) (x : WorldEvent) (sw sh : Server) : Type 0 where
  answers : answers_to_event cluster.config e x sw ≡ answers_to_action cluster.config e d a sh
  same : SameServer (process_after (setting_of cluster) e d a) (server_after_event cluster.config x sw) (server_after_action cluster.config d a sh)

-- the answers that a process keeps are the server's
abbrev Keeps : SteadyCluster → ℕ → Action → Process → WorldEvent → Server → Type 0
Keeps cluster e d a x sw = (under : Terms) (below : Store) (s : NodeState) (waiting : List Output) → process_after (setting_of cluster) e d a ≡ Up under below s waiting → s.answers ≡ (server_after_event cluster.config x sw).front.answers

restart_here : (i : ℕ) (s : Server) → 1 ≡ i → server_after_restart i s ≡ restarted_server s
restart_here i s own = cond-true (eqb i 1) (restarted_server s) s (eq-eqb i 1 (sym own))

-- a process opens
opening : (cluster : SteadyCluster) (e i : ℕ) (terms : Terms) (store : Store) (x : WorldEvent) (sw sh : Server) → answers_to_event cluster.config e x sw ≡ [] → restarted_server (server_after_event cluster.config x sw) ≡ restarted_server sw
    → Keeps cluster e (Opens i terms) (Down store) x sw → SameServer (Down store) sw sh → Step cluster e (Opens i terms) (Down store) x sw sh
opening cluster e i terms store x sw sh none rest keeps same =
    let new = server_after_event cluster.config x sw in
    let there = restarted_server sh in
    let b = do_fit terms store && ltb store.content.boot last_boot in
    let s = opened_node (seen_in store terms.seats) in
    record {
      answers = none;
      same = cond_both b (Up terms store s []) (Down store) (λ z. SameServer z new there)
          (λ low.
          let kept : new.front.answers ≡ [] = sym (keeps terms store s [] (cond-true b (Up terms store s []) (Down store) low)) in
          sym (unkept new kept) ∙ rest ∙ same)
          (λ _. rest ∙ same);
    }

half_opening : (cluster : SteadyCluster) (e i : ℕ) (raised : Bool) (store : Store) (x : WorldEvent) (sw sh : Server) → answers_to_event cluster.config e x sw ≡ [] → restarted_server (server_after_event cluster.config x sw) ≡ restarted_server sw
    → SameServer (Down store) sw sh → Step cluster e (FailsToOpen i raised) (Down store) x sw sh
half_opening cluster e i false store x sw sh none rest same = record { answers = none; same = rest ∙ same }
half_opening cluster e i true store x sw sh none rest same =
    let new = server_after_event cluster.config x sw in
    record {
      answers = none;
      same = cond_both (ltb store.content.boot last_boot) (Down (store_in_next_boot store)) (Down store) (λ z. SameServer z new sh) (λ _. rest ∙ same) (λ _. rest ∙ same);
    }

-- what a restart or nothing does to the server
quiet_or_restart : (config : Config) (e i : ℕ) (x : WorldEvent) (sw : Server) → 1 ≡ i → (x ≡ nothing) ⊎ (x ≡ Restart i)
    → (answers_to_event config e x sw ≡ []) × (restarted_server (server_after_event config x sw) ≡ restarted_server sw)
quiet_or_restart config e i x sw own is =
    ⊎_elim
    (λ (q : x ≡ nothing). (ap (λ z. answers_to_event config e z sw) q, ap (λ z. restarted_server (server_after_event config z sw)) q))
    (λ (q : x ≡ Restart i). (
      ap (λ z. answers_to_event config e z sw) q,
      ap (λ z. restarted_server (server_after_event config z sw)) q ∙ ap (λ z. restarted_server z) (restart_here i sw own),
    ))
    is

-- a process takes an input
act_step : (cluster : SteadyCluster) (e i : ℕ) (input : NodeEvent) (act : Act) (under : Terms) (below : Store) (s : NodeState) (waiting : List Output) (sw sh : Server) → 1 ≡ i → IsActOf i input act → sw ≡ sh
    → Step cluster e (Takes i input) (Up under below s waiting) (Happens act) sw sh
act_step cluster e i (Client client moment text) act under below s waiting sw sh own is same =
    let config = cluster.config in
    let here = eq-eqb i 1 (sym own) in
    let served = service_to config sw client moment text in
    subst (λ (a : Act). Step cluster e (Takes i (Client client moment text)) (Up under below s waiting) (Happens a) sw sh) (sym is)
    (record {
      answers = cond-true (eqb i 1) (told_of_line config e sw client moment text ∷ []) [] here ∙ ap (λ z. told_of_line config e z client moment text ∷ []) same;
      same = cond-true (eqb i 1) served.server sw here ∙ ap (λ z. (service_to config z client moment text).server) same;
    })
act_step cluster e i Tick act under below s waiting sw sh own is same =
    subst (λ (a : Act). Step cluster e (Takes i Tick) (Up under below s waiting) (Happens a) sw sh) (sym is) (record { answers = refl; same = same })
act_step cluster e i (Peer from read) act under below s waiting sw sh own is same =
    ⊎_elim
    (λ (q : (k : ℕ) × (act ≡ Deliver i k)). subst (λ (a : Act). Step cluster e (Takes i (Peer from read)) (Up under below s waiting) (Happens a) sw sh) (sym q.1) (record { answers = refl; same = same }))
    (λ (q : act ≡ Noise i from read). subst (λ (a : Act). Step cluster e (Takes i (Peer from read)) (Up under below s waiting) (Happens a) sw sh) (sym q) (record { answers = refl; same = same }))
    is

-- it ends inside the step, and the change is kept
cut_step : (cluster : SteadyCluster) (e i : ℕ) (input : NodeEvent) (act : Act) (under : Terms) (below : Store) (s : NodeState) (waiting : List Output) (sw sh : Server) → 1 ≡ i → IsActOf i input act → sw ≡ sh
    → Step cluster e (StopsIn i true input) (Up under below s waiting) (Cut true act) sw sh
cut_step cluster e i (Client client moment text) act under below s waiting sw sh own is same =
    let config = cluster.config in
    let here = eq-eqb i 1 (sym own) in
    let served = (service_to config sw client moment text).server in
    subst (λ (a : Act). Step cluster e (StopsIn i true (Client client moment text)) (Up under below s waiting) (Cut true a) sw sh) (sym is)
    (record {
      answers = refl;
      same = ap (λ z. restarted_server z) (restart_here i (cond (eqb i 1) served sw) own)
          ∙ ap (λ z. restarted_server z) (cond-true (eqb i 1) served sw here)
          ∙ ap (λ z. restarted_server (service_to config z client moment text).server) same;
    })
cut_step cluster e i Tick act under below s waiting sw sh own is same =
    subst (λ (a : Act). Step cluster e (StopsIn i true Tick) (Up under below s waiting) (Cut true a) sw sh) (sym is)
    (record { answers = refl; same = ap (λ z. restarted_server z) (restart_here i sw own) ∙ ap (λ z. restarted_server z) same })
cut_step cluster e i (Peer from read) act under below s waiting sw sh own is same =
    ⊎_elim
    (λ (q : (k : ℕ) × (act ≡ Deliver i k)). subst (λ (a : Act). Step cluster e (StopsIn i true (Peer from read)) (Up under below s waiting) (Cut true a) sw sh) (sym q.1) (record { answers = refl; same = ap (λ z. restarted_server z) same }))
    (λ (q : act ≡ Noise i from read). subst (λ (a : Act). Step cluster e (StopsIn i true (Peer from read)) (Up under below s waiting) (Cut true a) sw sh) (sym q)
    (record { answers = refl; same = ap (λ z. restarted_server z) (restart_here i sw own) ∙ ap (λ z. restarted_server z) same }))
    is

-- an action that takes an input while no process runs
lost : (cluster : SteadyCluster) (e i : ℕ) (input : NodeEvent) (store : Store) (sw sh : Server) → SameServer (Down store) sw sh → Step cluster e (Takes i input) (Down store) nothing sw sh
lost cluster e i (Client client moment text) store sw sh same = record { answers = refl; same = same }
lost cluster e i Tick store sw sh same = record { answers = refl; same = same }
lost cluster e i (Peer from read) store sw sh same = record { answers = refl; same = same }

lost_cut : (cluster : SteadyCluster) (e i : ℕ) (kept : Bool) (input : NodeEvent) (store : Store) (sw sh : Server) → SameServer (Down store) sw sh → Step cluster e (StopsIn i kept input) (Down store) nothing sw sh
lost_cut cluster e i false input store sw sh same = record { answers = refl; same = same }
lost_cut cluster e i true (Client client moment text) store sw sh same = record { answers = refl; same = same }
lost_cut cluster e i true Tick store sw sh same = record { answers = refl; same = same }
lost_cut cluster e i true (Peer from read) store sw sh same = record { answers = refl; same = same }

offering : (cluster : SteadyCluster) (e i : ℕ) (under : Terms) (below : Store) (s : NodeState) (waiting : List Output) (sw sh : Server) → sw ≡ sh → Step cluster e (Offers i) (Up under below s waiting) nothing sw sh
offering cluster e i under below s [] sw sh same = record { answers = refl; same = same }
offering cluster e i under below s (h ∷ waiting) sw sh same = record { answers = refl; same = same }

step : (cluster : SteadyCluster) (e : ℕ) (d : Action) (a : Process) (x : WorldEvent) (sw sh : Server) → 1 ≡ node_of_action d → IsFull d a x → Keeps cluster e d a x sw → SameServer a sw sh → Step cluster e d a x sw sh
step cluster e (Opens i terms) (Down store) x sw sh own full keeps same =
    let q = quiet_or_restart cluster.config e i x sw own full in
    opening cluster e i terms store x sw sh q.0 q.1 keeps same
step cluster e (Opens i terms) (Up under below s waiting) x sw sh own full keeps same = subst (λ z. Step cluster e (Opens i terms) (Up under below s waiting) z sw sh) (sym full) (record { answers = refl; same = same })
step cluster e (FailsToOpen i raised) (Down store) x sw sh own full keeps same =
    let q = quiet_or_restart cluster.config e i x sw own full in
    half_opening cluster e i raised store x sw sh q.0 q.1 same
step cluster e (FailsToOpen i raised) (Up under below s waiting) x sw sh own full keeps same = subst (λ z. Step cluster e (FailsToOpen i raised) (Up under below s waiting) z sw sh) (sym full) (record { answers = refl; same = same })
step cluster e (Takes i input) (Down store) x sw sh own full keeps same = subst (λ z. Step cluster e (Takes i input) (Down store) z sw sh) (sym full) (lost cluster e i input store sw sh same)
step cluster e (Takes i input) (Up under below s waiting) x sw sh own full keeps same = subst (λ z. Step cluster e (Takes i input) (Up under below s waiting) z sw sh) (sym full.event_is) (act_step cluster e i input full.act under below s waiting sw sh own full.is_act same)
step cluster e (Offers i) (Down store) x sw sh own full keeps same = subst (λ z. Step cluster e (Offers i) (Down store) z sw sh) (sym full) (record { answers = refl; same = same })
step cluster e (Offers i) (Up under below s waiting) x sw sh own full keeps same = subst (λ z. Step cluster e (Offers i) (Up under below s waiting) z sw sh) (sym full) (offering cluster e i under below s waiting sw sh same)
step cluster e (Stops i) (Down store) x sw sh own full keeps same = subst (λ z. Step cluster e (Stops i) (Down store) z sw sh) (sym full) (record { answers = refl; same = same })
step cluster e (Stops i) (Up under below s waiting) x sw sh own full keeps same = subst (λ z. Step cluster e (Stops i) (Up under below s waiting) z sw sh) (sym full) (record { answers = refl; same = ap (λ z. restarted_server z) same })
step cluster e (StopsIn i kept input) (Down store) x sw sh own full keeps same = subst (λ z. Step cluster e (StopsIn i kept input) (Down store) z sw sh) (sym full) (lost_cut cluster e i kept input store sw sh same)
step cluster e (StopsIn i false input) (Up under below s waiting) x sw sh own full keeps same = subst (λ z. Step cluster e (StopsIn i false input) (Up under below s waiting) z sw sh) (sym full) (record { answers = refl; same = ap (λ z. restarted_server z) same })
step cluster e (StopsIn i true input) (Up under below s waiting) x sw sh own full keeps same = subst (λ z. Step cluster e (StopsIn i true input) (Up under below s waiting) z sw sh) (sym full.event_is) (cut_step cluster e i input full.act under below s waiting sw sh own full.is_act same)
step cluster e (Loses i) (Down store) x sw sh own full keeps same = subst (λ z. Step cluster e (Loses i) (Down store) z sw sh) (sym full) (record { answers = refl; same = same })
step cluster e (Loses i) (Up under below s waiting) x sw sh own full keeps same = subst (λ z. Step cluster e (Loses i) (Up under below s waiting) z sw sh) (sym full) (record { answers = refl; same = ap (λ z. restarted_server z) same })
step cluster e (Remakes i boot given floor) (Down store) x sw sh own full keeps same = subst (λ z. Step cluster e (Remakes i boot given floor) (Down store) z sw sh) (sym full) (record { answers = refl; same = same })
step cluster e (Remakes i boot given floor) (Up under below s waiting) x sw sh own full keeps same = subst (λ z. Step cluster e (Remakes i boot given floor) (Up under below s waiting) z sw sh) (sym full) (record { answers = refl; same = same })
step cluster e (Enrols i token floor) a x sw sh own full keeps same = absurd full
step cluster e (Unlocks i token) a x sw sh own full keeps same = absurd full
step cluster e (OpensGate i token) a x sw sh own full keeps same = absurd full
step cluster e (Raises i token floor) a x sw sh own full keeps same = absurd full

-- ---- all actions

cancel : {A : Type 0} (xs ys zs : List A) → xs ++ ys ≡ xs ++ zs → ys ≡ zs
cancel [] ys zs e = e
cancel (x ∷ xs) ys zs e = cancel xs ys zs (tail x (xs ++ ys) (xs ++ zs) e)
  where
    tail : {A : Type 0} (x : A) (ys zs : List A) → x ∷ ys ≡ x ∷ zs → ys ≡ zs
    tail x ys zs e = cc

member_of_one : (n j : ℕ) → n ≡ 1 → 1 ≡ j → is_member n j ≡ true
member_of_one n j one own = ap (λ m. is_member m j) one ∙ ap (λ m. is_member 1 m) (sym own)

stranger_to_one : (n j : ℕ) → n ≡ 1 → eqb 1 j ≡ false → is_member n j ≡ false
stranger_to_one n j one out =
    ⊎_elim
    (λ (q : is_member n j ≡ true).
    let parts = and_parts (leb 1 j) (leb j 1) (ap (λ m. is_member m j) (sym one) ∙ q) in
    absurd (eqb-false 1 j out (omega (arith, leb-true 1 j parts.0, leb-true j 1 parts.1))))
    (λ (q : is_member n j ≡ false). q)
    (cases_Bool (is_member n j))

-- an action of the single node is possible while its store exists
of_one : (cluster : SteadyCluster) (state : State) (d : Action) → has_store (setting_of cluster) state 1 ≡ true → is_of_one d ≡ true → (eqb 1 (node_of_action d) ≡ true) × (can_be (setting_of cluster) state d ≡ true)
of_one cluster state (Opens i terms) store is = (is, subst (λ m. has_store (setting_of cluster) state m ≡ true) (eqb-true 1 i is) store)
of_one cluster state (FailsToOpen i raised) store is = (is, subst (λ m. has_store (setting_of cluster) state m ≡ true) (eqb-true 1 i is) store)
of_one cluster state (Takes i input) store is = (is, subst (λ m. has_store (setting_of cluster) state m ≡ true) (eqb-true 1 i is) store)
of_one cluster state (Offers i) store is = (is, subst (λ m. has_store (setting_of cluster) state m ≡ true) (eqb-true 1 i is) store)
of_one cluster state (Stops i) store is = (is, subst (λ m. has_store (setting_of cluster) state m ≡ true) (eqb-true 1 i is) store)
of_one cluster state (StopsIn i kept input) store is = (is, subst (λ m. has_store (setting_of cluster) state m ≡ true) (eqb-true 1 i is) store)
of_one cluster state (Loses i) store is = (is, subst (λ m. has_store (setting_of cluster) state m ≡ true) (eqb-true 1 i is) store)
of_one cluster state (Remakes i boot given floor) store is = absurd (false≢true is)
of_one cluster state (Enrols i token floor) store is = (is, subst (λ m. has_store (setting_of cluster) state m ≡ true) (eqb-true 1 i is) store)
of_one cluster state (Unlocks i token) store is = (is, subst (λ m. has_store (setting_of cluster) state m ≡ true) (eqb-true 1 i is) store)
of_one cluster state (OpensGate i token) store is = (is, subst (λ m. has_store (setting_of cluster) state m ≡ true) (eqb-true 1 i is) store)
of_one cluster state (Raises i token floor) store is = (is, subst (λ m. has_store (setting_of cluster) state m ≡ true) (eqb-true 1 i is) store)

-- and nothing else can
not_of_one : (cluster : SteadyCluster) (state : State) (d : Action) → nodes_of cluster ≡ 1 → state.lost 1 ≡ false → is_of_one d ≡ false → can_be (setting_of cluster) state d ≡ false
not_of_one cluster state (Opens i terms) one kept out = and_right (not (state.lost i)) (is_member (nodes_of cluster) i) (stranger_to_one (nodes_of cluster) i one out)
not_of_one cluster state (FailsToOpen i raised) one kept out = and_right (not (state.lost i)) (is_member (nodes_of cluster) i) (stranger_to_one (nodes_of cluster) i one out)
not_of_one cluster state (Takes i input) one kept out = and_right (not (state.lost i)) (is_member (nodes_of cluster) i) (stranger_to_one (nodes_of cluster) i one out)
not_of_one cluster state (Offers i) one kept out = and_right (not (state.lost i)) (is_member (nodes_of cluster) i) (stranger_to_one (nodes_of cluster) i one out)
not_of_one cluster state (Stops i) one kept out = and_right (not (state.lost i)) (is_member (nodes_of cluster) i) (stranger_to_one (nodes_of cluster) i one out)
not_of_one cluster state (StopsIn i stays input) one kept out = and_right (not (state.lost i)) (is_member (nodes_of cluster) i) (stranger_to_one (nodes_of cluster) i one out)
not_of_one cluster state (Loses i) one kept out = and_right (not (state.lost i)) (is_member (nodes_of cluster) i) (stranger_to_one (nodes_of cluster) i one out)
not_of_one cluster state (Enrols i token floor) one kept out = and_right (not (state.lost i)) (is_member (nodes_of cluster) i) (stranger_to_one (nodes_of cluster) i one out)
not_of_one cluster state (Unlocks i token) one kept out = and_right (not (state.lost i)) (is_member (nodes_of cluster) i) (stranger_to_one (nodes_of cluster) i one out)
not_of_one cluster state (OpensGate i token) one kept out = and_right (not (state.lost i)) (is_member (nodes_of cluster) i) (stranger_to_one (nodes_of cluster) i one out)
not_of_one cluster state (Raises i token floor) one kept out = and_right (not (state.lost i)) (is_member (nodes_of cluster) i) (stranger_to_one (nodes_of cluster) i one out)
not_of_one cluster state (Remakes i boot given floor) one kept out =
    let n = nodes_of cluster in
    and_right _ ((is_member n i && state.lost i) && _)
    (and_left (is_member n i && state.lost i) _
    (⊎_elim
    (λ (same : eqb 1 i ≡ true). and_right (is_member n i) (state.lost i) (ap state.lost (sym (eqb-true 1 i same)) ∙ kept))
    (λ (other : eqb 1 i ≡ false). and_left (is_member n i) (state.lost i) (stranger_to_one n i one other))
    (cases_Bool (eqb 1 i))))

-- what can't be changes nothing
action_none : (cluster : SteadyCluster) (e : ℕ) (d : Action) (state : State) → can_be (setting_of cluster) state d ≡ false → state_after_action (setting_of cluster) e d state ≡ state
unfolding state_after_action
action_none cluster e d state out = cond-false (can_be (setting_of cluster) state d) (state_with (setting_of cluster) e d (state.processes (node_of_action d)) state) state out

-- without the single store no action is possible
gone_store : (cluster : SteadyCluster) (state : State) (i : ℕ) → nodes_of cluster ≡ 1 → state.lost 1 ≡ true → has_store (setting_of cluster) state i ≡ false
gone_store cluster state i one gone =
    ⊎_elim
    (λ (own : eqb 1 i ≡ true). and_left (not (state.lost i)) (is_member (nodes_of cluster) i) (ap not (ap state.lost (sym (eqb-true 1 i own)) ∙ gone)))
    (λ (other : eqb 1 i ≡ false). and_right (not (state.lost i)) (is_member (nodes_of cluster) i) (stranger_to_one (nodes_of cluster) i one other))
    (cases_Bool (eqb 1 i))

gone_can : (cluster : SteadyCluster) (state : State) (d : Action) → nodes_of cluster ≡ 1 → state.lost 1 ≡ true → can_be (setting_of cluster) state d ≡ false
gone_can cluster state (Opens i terms) one gone = gone_store cluster state i one gone
gone_can cluster state (FailsToOpen i raised) one gone = gone_store cluster state i one gone
gone_can cluster state (Takes i input) one gone = gone_store cluster state i one gone
gone_can cluster state (Offers i) one gone = gone_store cluster state i one gone
gone_can cluster state (Stops i) one gone = gone_store cluster state i one gone
gone_can cluster state (StopsIn i kept input) one gone = gone_store cluster state i one gone
gone_can cluster state (Loses i) one gone = gone_store cluster state i one gone
gone_can cluster state (Enrols i token floor) one gone = gone_store cluster state i one gone
gone_can cluster state (Unlocks i token) one gone = gone_store cluster state i one gone
gone_can cluster state (OpensGate i token) one gone = gone_store cluster state i one gone
gone_can cluster state (Raises i token floor) one gone = gone_store cluster state i one gone
gone_can cluster state (Remakes i boot given floor) one gone =
    and_right _ ((is_member (nodes_of cluster) i && state.lost i) && _)
    (and_right (is_member (nodes_of cluster) i && state.lost i) _ (and_left (ltb (size (nodes_of cluster) state.lost) (majority_of (nodes_of cluster))) _
    (ap (λ n. ltb (size n state.lost) (majority_of n)) one ∙ ap (λ (b : Bool). ltb ((cond b 1 0) + 0) 1) gone)))

gone_answers : (cluster : SteadyCluster) (e : ℕ) (ds : List Action) (state : State) → nodes_of cluster ≡ 1 → state.lost 1 ≡ true → answers_in (setting_of cluster) e ds state ≡ []
gone_answers cluster e [] state one gone = refl
gone_answers cluster e (d ∷ ds) state one gone =
    let next = state_after_action (setting_of cluster) e d state in
    let out = gone_can cluster state d one gone in
    ap (λ l. l ++ answers_in (setting_of cluster) (suc e) ds next) (cond-false (can_be (setting_of cluster) state d) (answers_made (setting_of cluster) e d (state.processes (node_of_action d))) [] out)
    ∙ ap (λ z. answers_in (setting_of cluster) (suc e) ds z) (action_none cluster e d state out)
    ∙ gone_answers cluster (suc e) ds state one gone

-- so a loss of it is the end
loss_ends : (cluster : SteadyCluster) (e i : ℕ) (ds : List Action) (state : State) → nodes_of cluster ≡ 1 → has_store (setting_of cluster) state 1 ≡ true → eqb i 1 ≡ true → answers_in (setting_of cluster) e (Loses i ∷ ds) state ≡ []
unfolding state_after_action
loss_ends cluster e i ds state one store is =
    let own : 1 ≡ i = sym (eqb-true i 1 is) in
    let can : has_store (setting_of cluster) state i ≡ true = subst (λ m. has_store (setting_of cluster) state m ≡ true) own store in
    let next = state_after_action (setting_of cluster) e (Loses i) state in
    let after = state_with (setting_of cluster) e (Loses i) (state.processes i) state in
    let same : next ≡ after = cond-true (has_store (setting_of cluster) state i) after state can in
    let gone : after.lost 1 ≡ true = ap (λ b. b || state.lost 1) (eq-eqb 1 i own) in
    ap (λ l. l ++ answers_in (setting_of cluster) (suc e) ds next) (cond-true {A = List Answer} (has_store (setting_of cluster) state i) [] [] can)
    ∙ ap (λ z. answers_in (setting_of cluster) (suc e) ds z) same
    ∙ gone_answers cluster (suc e) ds after one gone

end_is : (cluster : SteadyCluster) (e : ℕ) (d : Action) (ds : List Action) (state : State) → nodes_of cluster ≡ 1 → has_store (setting_of cluster) state 1 ≡ true → is_end d ≡ true → answers_in (setting_of cluster) e (d ∷ ds) state ≡ []
end_is cluster e (Opens i terms) ds state one store ends = absurd (false≢true ends)
end_is cluster e (FailsToOpen i raised) ds state one store ends = absurd (false≢true ends)
end_is cluster e (Takes i input) ds state one store ends = absurd (false≢true ends)
end_is cluster e (Offers i) ds state one store ends = absurd (false≢true ends)
end_is cluster e (Stops i) ds state one store ends = absurd (false≢true ends)
end_is cluster e (StopsIn i kept input) ds state one store ends = absurd (false≢true ends)
end_is cluster e (Loses i) ds state one store ends = loss_ends cluster e i ds state one store ends
end_is cluster e (Remakes i boot given floor) ds state one store ends = absurd (false≢true ends)
end_is cluster e (Enrols i token floor) ds state one store ends = absurd (false≢true ends)
end_is cluster e (Unlocks i token) ds state one store ends = absurd (false≢true ends)
end_is cluster e (OpensGate i token) ds state one store ends = absurd (false≢true ends)
end_is cluster e (Raises i token floor) ds state one store ends = absurd (false≢true ends)

goes_in_world : (d : Action) → is_end d ≡ false → OfStore (λ x. ends_world x ≡ false) d
goes_in_world (Opens i terms) goes = tt
goes_in_world (FailsToOpen i raised) goes = tt
goes_in_world (Takes i input) goes = tt
goes_in_world (Offers i) goes = tt
goes_in_world (Stops i) goes = tt
goes_in_world (StopsIn i kept input) goes = tt
goes_in_world (Loses i) goes = goes
goes_in_world (Remakes i boot given floor) goes = refl
goes_in_world (Enrols i token floor) goes = tt
goes_in_world (Unlocks i token) goes = tt
goes_in_world (OpensGate i token) goes = tt
goes_in_world (Raises i token floor) goes = tt

up_is : (cluster : SteadyCluster) (w : World) (b : Bool) (under : Terms) (below : Store) (s : NodeState) (waiting : List Output) (x : NodeState) → IsProcessAt cluster w b (Up under below s waiting) x → x ≡ s
up_is cluster w false under below s waiting x h = h.1.state
up_is cluster w true under below s waiting x h = absurd h

module _ (law : AloneLaw) (grounds : GroundLaw) (justified : JustifiedLaw) (cluster : SteadyCluster) (one : nodes_of cluster ≡ 1) (may : MayStart cluster.config (start_of cluster)) where
  abbrev config : Config
  config = cluster.config

  abbrev setting : Setting
  setting = setting_of cluster

  abbrev RestIs : ℕ → ℕ → ℕ → List Action → Type 0
  RestIs b q e ds =
      (state : State) (w : World) (sw sh : Server) → Ran config (start_of cluster) e w → Matches cluster state w → AreSteady (terms_of cluster) ds → AreSent setting e ds state → Lone b q w sw → SameServer (state.processes 1) sw sh
      → answers_in setting e ds state ≡ answers_to_actions cluster e ds (state.processes 1) sh

  -- an action, and the rest
  action_is : (b q e : ℕ) (d : Action) (ds : List Action) (state : State) (w : World) (sw sh : Server) → state.lost 1 ≡ false → AreSteady (terms_of cluster) ds → AreSent setting (suc e) ds (state_after_action setting e d state)
      → SameServer (state.processes 1) sw sh → (f : IsFollowed cluster e d state (state_after_action setting e d state) w (answers_by setting e d state) (can_be setting state d))
      → Ran config (start_of cluster) (suc e) (world_after_event config e f.event w)
      → LoneStep b q w (world_after_event config e f.event w) (server_after_event config f.event sw) (answers_to_event config e f.event sw)
      → RestIs b q (suc e) ds → (at : Bool) → is_of_one d ≡ at
      → answers_in setting e (d ∷ ds) state
      ≡ cond at (answers_to_action config e d (state.processes 1) sh ++ answers_to_actions cluster (suc e) ds (process_after setting e d (state.processes 1)) (server_after_action config d (state.processes 1) sh))
      (answers_to_actions cluster (suc e) ds (state.processes 1) sh)
  action_is b q e d ds state w sw sh kept steady sent same f ran k rest true at =
      let j = node_of_action d in
      let store : has_store setting state 1 ≡ true = ap (λ l. not l && is_member (nodes_of cluster) 1) kept ∙ member_of_one (nodes_of cluster) 1 one refl in
      let is = of_one cluster state d store at in
      let own = eqb-true 1 j is.0 in
      let a = state.processes 1 in
      let next = state_after_action setting e d state in
      let new = server_after_event config f.event sw in
      let is_one : IsOneAt d state true f.event = subst (λ z. IsOneAt d state z f.event) is.1 f.is_one in
      let full : IsFull d a f.event = subst (λ n. IsFull d (state.processes n) f.event) (sym own) is_one in
      let process : next.processes 1 ≡ process_after setting e d a = action_at setting e 1 d state (λ _. is.1) ∙ cond-true (eqb 1 j) (process_after setting e d a) a is.0 in
      let v = world_after_event config e f.event w in
      let keeps : Keeps cluster e d a f.event sw = λ under below s waiting up.
      let here : IsProcessAt cluster v (next.lost 1) (Up under below s waiting) (v.nodes 1) = subst (λ z. IsProcessAt cluster v (next.lost 1) z (v.nodes 1)) (process ∙ up) (f.matches.processes 1 (member_of_one (nodes_of cluster) 1 one refl)) in
      ap (λ (z : NodeState). z.answers) (sym (up_is cluster v (next.lost 1) under below s waiting (v.nodes 1) here)) ∙ k.lone.node.answers in
      let st = step cluster e d a f.event sw sh own full keeps same in
      let made : answers_by setting e d state ≡ answers_to_action config e d a sh = cancel w.told (answers_by setting e d state) (answers_to_event config e f.event sw) (sym f.told ∙ k.tells) ∙ st.answers in
      let same2 : SameServer (next.processes 1) new (server_after_action config d a sh) = subst (λ z. SameServer z new (server_after_action config d a sh)) (sym process) st.same in
      ap (λ xs. xs ++ answers_in setting (suc e) ds next) made
      ∙ ap (λ xs. answers_to_action config e d a sh ++ xs) (rest next v new (server_after_action config d a sh) ran f.matches steady sent k.lone same2)
      ∙ ap (λ z. answers_to_action config e d a sh ++ answers_to_actions cluster (suc e) ds z (server_after_action config d a sh)) process
  action_is b q e d ds state w sw sh kept steady sent same f ran k rest false at =
      let a = state.processes 1 in
      let next = state_after_action setting e d state in
      let new = server_after_event config f.event sw in
      let out = not_of_one cluster state d one kept at in
      let is_one : f.event ≡ nothing = subst (λ z. IsOneAt d state z f.event) out f.is_one in
      let process : next.processes 1 ≡ a = ap (λ (z : State). z.processes 1) (action_none cluster e d state out) in
      let made : answers_by setting e d state ≡ [] = cond-false (can_be setting state d) (answers_made setting e d (state.processes (node_of_action d))) [] out in
      let still : new ≡ sw = ap (λ x. server_after_event config x sw) is_one in
      let same2 : SameServer (next.processes 1) new sh = subst (λ z. SameServer z new sh) (sym process) (subst (λ z. SameServer a z sh) (sym still) same) in
      ap (λ xs. xs ++ answers_in setting (suc e) ds next) made
      ∙ rest next (world_after_event config e f.event w) new sh ran f.matches steady sent k.lone same2
      ∙ ap (λ z. answers_to_actions cluster (suc e) ds z sh) process

  actions_are : (b q e : ℕ) (ds : List Action) → b + length ds ≤ last_boot → q + length ds ≤ 2 ^ 62 → RestIs b q e ds
  unfolding AreSent answers_to_actions
  actions_are b q e [] low few = λ state w sw sh ran m steady sent h same. refl
  actions_are b q e (d ∷ ds) low few = λ state w sw sh ran m steady sent h same.
      let a = state.processes 1 in
      let f = follows cluster grounds justified may e d state w ran m steady.0 sent.0 in
      let kept : state.lost 1 ≡ false = ap (λ (l : ℕ → Bool). l 1) (sym m.lost) ∙ h.here in
      let store : has_store setting state 1 ≡ true = ap (λ l. not l && is_member (nodes_of cluster) 1) kept ∙ member_of_one (nodes_of cluster) 1 one refl in
      let later = answers_to_action config e d a sh ++ answers_to_actions cluster (suc e) ds (process_after setting e d a) (server_after_action config d a sh) in
      cond_both (is_end d) [] (cond (is_of_one d) later (answers_to_actions cluster (suc e) ds a sh)) (λ l. answers_in setting e (d ∷ ds) state ≡ l)
      (λ ends. end_is cluster e d ds state one store ends)
      (λ goes.
      let on : ends_world f.event ≡ false = of_event (λ x. ends_world x ≡ false) d f.event (one_is_event (terms_of cluster) d state (can_be setting state d) f.event steady.0 f.is_one) (λ act. refl) (λ act. refl) (λ i. refl) (goes_in_world d goes) in
      let k = happens_lone law config b q e f.event w sw (omega (arith, low)) (omega (arith, few)) on h in
      action_is (b + 1) (q + 1) e d ds state w sw sh kept steady.1 sent.1 same f (ran_next grounds config (start_of cluster) e f.event w ran) k
      (actions_are (b + 1) (q + 1) (suc e) ds (omega (arith, low)) (omega (arith, few))) (is_of_one d) refl)

-- ---- the offered answers are a sublist of the made answers

part_all : (xs : List Answer) → IsPartOf xs xs
part_all [] = tt
part_all (x ∷ xs) = inl (refl, part_all xs)

part_front : (xs ys zs : List Answer) → IsPartOf (xs ++ ys) zs → IsPartOf xs zs
part_front [] ys zs h = tt
part_front (x ∷ xs) ys [] h = h
part_front (x ∷ xs) ys (z ∷ zs) h =
    ⊎_elim (λ (p : (x ≡ z) × IsPartOf (xs ++ ys) zs). inl (p.0, part_front xs ys zs p.1)) (λ (p : IsPartOf (x ∷ xs ++ ys) zs). inr (part_front (x ∷ xs) ys zs p)) h

part_later : (xs ys zs : List Answer) → IsPartOf xs zs → IsPartOf xs (ys ++ zs)
part_later xs [] zs h = h
part_later [] (y ∷ ys) zs h = tt
part_later (x ∷ xs) (y ∷ ys) zs h = inr (part_later (x ∷ xs) ys zs h)

part_both : (xs ys zs us : List Answer) → IsPartOf xs ys → IsPartOf zs us → IsPartOf (xs ++ zs) (ys ++ us)
part_both [] ys zs us h k = part_later zs ys us k
part_both (x ∷ xs) [] zs us h k = absurd h
part_both (x ∷ xs) (y ∷ ys) zs us h k =
    ⊎_elim (λ (p : (x ≡ y) × IsPartOf xs ys). inl (p.0, part_both xs ys zs us p.1 k)) (λ (p : IsPartOf (x ∷ xs) ys). inr (part_both (x ∷ xs) ys zs us p k)) h

among_append : (xs ys : List Output) → answers_among (xs ++ ys) ≡ answers_among xs ++ answers_among ys
among_append [] ys = refl
among_append (ToPeer l ∷ xs) ys = among_append xs ys
among_append (ToClient t ∷ xs) ys = ap (λ zs. t ∷ zs) (among_append xs ys)

among_posts : (ls : List Sealed) → answers_among (map (λ (sealed : Sealed). ToPeer sealed) ls) ≡ []
among_posts [] = refl
among_posts (l ∷ ls) = among_posts ls

among_answers : (ts : List Answer) → answers_among (map (λ (t : Answer). ToClient t) ts) ≡ ts
among_answers [] = refl
among_answers (t ∷ ts) = ap (λ zs. t ∷ zs) (among_answers ts)

among_outputs : (terms : Terms) (e i : ℕ) (made : Made) → answers_among (outputs_of_step terms e i made) ≡ map (told_reply e i) made.replies
among_outputs terms e i made =
    let ls = map (sealed_from terms i) made.sends in
    let ts = map (told_reply e i) made.replies in
    among_append (map (λ (sealed : Sealed). ToPeer sealed) ls) (map (λ (t : Answer). ToClient t) ts)
    ∙ ap (λ zs. zs ++ answers_among (map (λ (t : Answer). ToClient t) ts)) (among_posts ls) ∙ among_answers ts

-- the answers that wait at a process state
abbrev waiting_at : Process → List Answer
waiting_at (Down store) = []
waiting_at (Up under below s waiting) = answers_among waiting

abbrev Offered : List Output → Process → List Answer → Type 0
Offered hs a all = IsPartOf (answers_among hs ++ waiting_at a) all

-- no answer is offered or made
stays_part : (hs : List Output) (a : Process) (all : List Answer) → Offered hs a all → Offered (hs ++ []) a (all ++ [])
stays_part hs a all h =
    subst (λ xs. IsPartOf (answers_among xs ++ waiting_at a) (all ++ [])) (sym (append-nil hs)) (subst (λ xs. IsPartOf (answers_among hs ++ waiting_at a) xs) (sym (append-nil all)) h)

ends_part : (hs : List Output) (a : Process) (store : Store) (all : List Answer) → Offered hs a all → Offered (hs ++ []) (Down store) (all ++ [])
ends_part hs a store all h =
    let front : IsPartOf (answers_among hs) all = part_front (answers_among hs) (waiting_at a) all h in
    stays_part hs (Down store) all (subst (λ xs. IsPartOf xs all) (sym (append-nil (answers_among hs))) front)

process_part : (cluster : SteadyCluster) (e : ℕ) (d : Action) (a : Process) (hs : List Output) (all : List Answer) → Offered hs a all → Offered (hs ++ offers_by d a) (process_after (setting_of cluster) e d a) (all ++ answers_made (setting_of cluster) e d a)
process_part cluster e (Opens i terms) (Down store) hs all h =
    let s = opened_node (seen_in store terms.seats) in
    cond_both (do_fit terms store && ltb store.content.boot last_boot) (Up terms store s []) (Down store) (λ z. Offered (hs ++ []) z (all ++ [])) (λ _. stays_part hs (Up terms store s []) all h) (λ _. stays_part hs (Down store) all h)
process_part cluster e (Opens i terms) (Up under below s waiting) hs all h = stays_part hs (Up under below s waiting) all h
process_part cluster e (FailsToOpen i false) (Down store) hs all h = stays_part hs (Down store) all h
process_part cluster e (FailsToOpen i true) (Down store) hs all h =
    cond_both (ltb store.content.boot last_boot) (Down (store_in_next_boot store)) (Down store) (λ z. Offered (hs ++ []) z (all ++ [])) (λ _. stays_part hs (Down (store_in_next_boot store)) all h) (λ _. stays_part hs (Down store) all h)
process_part cluster e (FailsToOpen i raised) (Up under below s waiting) hs all h = stays_part hs (Up under below s waiting) all h
process_part cluster e (Takes i input) (Down store) hs all h = stays_part hs (Down store) all h
process_part cluster e (Takes i input) (Up under below s waiting) hs all h =
    let made = made_by_input (setting_of cluster) under i input s in
    let ts = map (told_reply e i) made.replies in
    let both : IsPartOf ((answers_among hs ++ answers_among waiting) ++ ts) (all ++ ts) = part_both (answers_among hs ++ answers_among waiting) all ts ts h (part_all ts) in
    subst (λ xs. IsPartOf xs (all ++ ts))
    (append_assoc (answers_among hs) (answers_among waiting) ts
    ∙ ap (λ xs. answers_among hs ++ (answers_among waiting ++ xs)) (sym (among_outputs under e i made))
    ∙ ap (λ xs. answers_among hs ++ xs) (sym (among_append waiting (outputs_of_step under e i made)))
    ∙ ap (λ xs. answers_among xs ++ answers_among (waiting ++ outputs_of_step under e i made)) (sym (append-nil hs)))
    both
process_part cluster e (Offers i) (Down store) hs all h = stays_part hs (Down store) all h
process_part cluster e (Offers i) (Up under below s []) hs all h = stays_part hs (Up under below s []) all h
process_part cluster e (Offers i) (Up under below s (x ∷ waiting)) hs all h =
    subst (λ xs. IsPartOf xs (all ++ []))
    (ap (λ xs. answers_among hs ++ xs) (among_append (x ∷ []) waiting) ∙ sym (append_assoc (answers_among hs) (answers_among (x ∷ [])) (answers_among waiting))
    ∙ ap (λ xs. xs ++ answers_among waiting) (sym (among_append hs (x ∷ []))))
    (subst (λ xs. IsPartOf (answers_among hs ++ answers_among (x ∷ waiting)) xs) (sym (append-nil all)) h)
process_part cluster e (Stops i) (Down store) hs all h = stays_part hs (Down store) all h
process_part cluster e (Stops i) (Up under below s waiting) hs all h = ends_part hs (Up under below s waiting) (store_under under.seats s.content below) all h
process_part cluster e (StopsIn i kept input) (Down store) hs all h = stays_part hs (Down store) all h
process_part cluster e (StopsIn i false input) (Up under below s waiting) hs all h = ends_part hs (Up under below s waiting) (store_under under.seats s.content below) all h
process_part cluster e (StopsIn i true input) (Up under below s waiting) hs all h =
    ends_part hs (Up under below s waiting) (store_under under.seats (made_by_input (setting_of cluster) under i input s).state.content below) all h
process_part cluster e (Loses i) (Down store) hs all h = stays_part hs (Down (store_in_next_boot store)) all h
process_part cluster e (Loses i) (Up under below s waiting) hs all h = ends_part hs (Up under below s waiting) (store_in_next_boot (store_under under.seats s.content below)) all h
process_part cluster e (Remakes i boot given floor) (Down store) hs all h = stays_part hs (Down (store_with_rows boot given floor)) all h
process_part cluster e (Remakes i boot given floor) (Up under below s waiting) hs all h = stays_part hs (Up under below s waiting) all h
process_part cluster e (Enrols i token floor) (Down store) hs all h =
    cond_both (may_enrol (setting_of cluster) token store) (Down (store_with_row token floor store)) (Down store) (λ z. Offered (hs ++ []) z (all ++ [])) (λ _. stays_part hs (Down (store_with_row token floor store)) all h) (λ _. stays_part hs (Down store) all h)
process_part cluster e (Enrols i token floor) (Up under below s waiting) hs all h = stays_part hs (Up under below s waiting) all h
process_part cluster e (Unlocks i token) (Down store) hs all h = stays_part hs (Down (store_unlocked token store)) all h
process_part cluster e (Unlocks i token) (Up under below s waiting) hs all h = stays_part hs (Up under below s waiting) all h
process_part cluster e (OpensGate i token) (Down store) hs all h = stays_part hs (Down store) all h
process_part cluster e (OpensGate i token) (Up under below s waiting) hs all h = stays_part hs (Up under below (state_unlocked (number_to_unlock under token s) s) waiting) all h
process_part cluster e (Raises i token floor) (Down store) hs all h = stays_part hs (Down (store_raised token floor store)) all h
process_part cluster e (Raises i token floor) (Up under below s waiting) hs all h = stays_part hs (Up under below s waiting) all h

action_part : (cluster : SteadyCluster) (e : ℕ) (d : Action) (state : State) (all : List Answer) (member : Bool) → (member ≡ true → 1 ≡ node_of_action d) → Offered state.offered (state.processes 1) all
    → let next = cond member (state_with (setting_of cluster) e d (state.processes (node_of_action d)) state) state in
    Offered next.offered (next.processes 1) (all ++ cond member (answers_made (setting_of cluster) e d (state.processes (node_of_action d))) [])
action_part cluster e d state all false own h = subst (λ xs. Offered state.offered (state.processes 1) xs) (sym (append-nil all)) h
action_part cluster e d state all true own h =
    let j = node_of_action d in
    let here = own refl in
    let old = state.processes j in
    let start : Offered state.offered old all = subst (λ n. Offered state.offered (state.processes n) all) here h in
    let p = process_part cluster e d old state.offered all start in
    subst (λ z. Offered (state.offered ++ offers_by d old) z (all ++ answers_made (setting_of cluster) e d old))
    (sym (cond-true (eqb 1 j) (process_after (setting_of cluster) e d old) (state.processes 1) (eq-eqb 1 j here))) p

own_of_member : (n j : ℕ) → n ≡ 1 → is_member n j ≡ true → 1 ≡ j
own_of_member n j one member =
    let parts = and_parts (leb 1 j) (leb j 1) (ap (λ m. is_member m j) (sym one) ∙ member) in
    omega (arith, leb-true 1 j parts.0, leb-true j 1 parts.1)

actions_part : (cluster : SteadyCluster) (e : ℕ) (ds : List Action) (state : State) (all : List Answer) → nodes_of cluster ≡ 1 → Offered state.offered (state.processes 1) all
    → Offered (state_after (setting_of cluster) e ds state).offered ((state_after (setting_of cluster) e ds state).processes 1) (all ++ answers_in (setting_of cluster) e ds state)
unfolding state_after state_after_action
actions_part cluster e [] state all one h = subst (λ xs. Offered state.offered (state.processes 1) xs) (sym (append-nil all)) h
actions_part cluster e (d ∷ ds) state all one h =
    let next = state_after_action (setting_of cluster) e d state in
    let j = node_of_action d in
    let p : Offered next.offered (next.processes 1) (all ++ answers_by (setting_of cluster) e d state) = action_part cluster e d state all (can_be (setting_of cluster) state d) (λ can. own_of_member (nodes_of cluster) j one (can_member (setting_of cluster) state d can)) h in
    subst (λ xs. Offered (state_after (setting_of cluster) (suc e) ds next).offered ((state_after (setting_of cluster) (suc e) ds next).processes 1) xs) (append_assoc all (answers_by (setting_of cluster) e d state) (answers_in (setting_of cluster) (suc e) ds next))
    (actions_part cluster (suc e) ds next (all ++ answers_by (setting_of cluster) e d state) one p)

pub single_node : AloneLaw → GroundLaw → JustifiedLaw → (config : Config) (key floors : List ℕ) (before actions : List Action) → 1 + length actions < 2 ^ 62 → IsSteady (cluster_of_one config key floors) before actions
    → IsPartOf (answered_in (setting_of (cluster_of_one config key floors)) (before ++ actions)) (reference_of config key floors before actions)
single_node law grounds justified config key floors before actions short h =
    let cluster = cluster_of_one config key floors in
    let setting = setting_of cluster in
    let first = state_of setting before in
    let p = length before in
    let may = may_start cluster h.starts in
    let server = opening_server config floors in
    let there : first.processes 1 ≡ Down (enrolled_store cluster 1) = h.enrolled.stores 1 refl in
    let made : answers_in setting p actions first ≡ reference_of config key floors before actions =
    actions_are law grounds justified cluster refl may 1 0 p actions (omega (arith, short)) (omega (arith, short)) first (opening_world config (start_of cluster)) server server (ran_idle cluster grounds may p) (starts cluster before h.enrolled) h.steady h.sent
    (start_lone config floors) (subst (λ (z : Process). SameServer z server server) (sym there) refl)
    ∙ ap (λ z. answers_to_actions cluster p actions z server) there in
    let none : Offered first.offered (first.processes 1) [] =
    subst (λ hs. Offered hs (first.processes 1) []) (sym (enrolments_keep setting 0 before (first_state setting) h.enrolled.only).offered) (subst (λ z. Offered [] z []) (sym there) tt) in
    let part = actions_part cluster p actions first [] refl none in
    let later = state_after setting p actions first in
    let same : state_of setting (before ++ actions) ≡ later = states_append setting 0 before actions (first_state setting) ∙ ap (λ n. state_after setting n actions first) (omega arith) in
    subst (λ (z : State). IsPartOf (answers_among z.offered) (reference_of config key floors before actions)) (sym same)
    (subst (λ xs. IsPartOf (answers_among later.offered) xs) made (part_front (answers_among later.offered) (waiting_at (later.processes 1)) (answers_in setting p actions first) part))

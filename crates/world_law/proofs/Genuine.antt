-- A history of a cluster whose users file never changes is a history of nodes.
use Rattle.std.proofs.Common.{◌≡◌, ℕ, suc, ◌+◌, ◌<◌, ⊎_elim, Bool, true, false, not, ◌&&◌, List, [], ◌∷◌, ◌++◌, length, map, Some, None, refl, sym, ap, ◌∙◌, subst, arith, eqb}
use Rattle.std.proofs.lemmas.Bool.{and_parts, cases_Bool, cond_both, eqb-true, false≢true}
use Rattle.std.proofs.lemmas.List.FromFn.{length-range_with_len}
use Rattle.seated_store.specs.Places.{own_seats}
use Rattle.vote_core.specs.Books.{blank_opening}
use Rattle.vote_core.specs.Safety.{MayOpen}
use Rattle.vote_core.specs.Schedule.{Envelope, is_member}
use Rattle.oath_node.specs.Machine.{NodeEvent, Client, Peer, Tick, token_of}
use Rattle.cluster_sim.proofs.BelowLaws.{GroundLaw}
use Rattle.cluster_sim.specs.World.{MayStart, World, opening_world, world_after_event}
use Rattle.book_law.specs.Lives.{Action, Opens, FailsToOpen, Takes, Offers, Stops, StopsIn, Loses, Remakes, Enrols, Unlocks, OpensGate, Raises, AreGenuine, IsGenuine, IsGenuineAction, IsGenuineAt, IsHistory, Output, Process, Sealed, Setting, State, Terms, Down, Up, WasOffered, can_be, first_state, made_boot, named_envelope, node_of_action, process_after, state_after, state_after_action, state_of, state_with}
use Rattle.world_law.specs.Steady.{AreEnrolments, AreSent, AreSteady, IsSteady, SteadyCluster, WasSent, WasSentIn, WasSentTo, nodes_of, sealed_by, setting_of, start_of, terms_of, tokens_of}
use Rattle.world_law.proofs.Follow.{IsProcessAt, Matches, follows}
use Rattle.world_law.proofs.Ran.{JustifiedLaw, Ran, ran_next}
use Rattle.world_law.proofs.Runs.{enrolment_genuine, may_start, ran_idle, starts}
use Rattle.world_law.proofs.Steps.{message_same}

-- ---- nodes that are no members

abbrev IsDown : Process → Type 0
IsDown (Down store) = Unit {0}
IsDown (Up terms below s waiting) = ⊥

-- no process is at a node that is no member
abbrev AreDown : Setting → State → Type 0
AreDown setting state = (j : ℕ) → is_member setting.n j ≡ false → IsDown (state.processes j)

pub can_member : (setting : Setting) (state : State) (d : Action) → can_be setting state d ≡ true → is_member setting.n (node_of_action d) ≡ true
can_member setting state (Opens i terms) can = (and_parts (not (state.lost i)) (is_member setting.n i) can).1
can_member setting state (FailsToOpen i raised) can = (and_parts (not (state.lost i)) (is_member setting.n i) can).1
can_member setting state (Takes i input) can = (and_parts (not (state.lost i)) (is_member setting.n i) can).1
can_member setting state (Offers i) can = (and_parts (not (state.lost i)) (is_member setting.n i) can).1
can_member setting state (Stops i) can = (and_parts (not (state.lost i)) (is_member setting.n i) can).1
can_member setting state (StopsIn i kept input) can = (and_parts (not (state.lost i)) (is_member setting.n i) can).1
can_member setting state (Loses i) can = (and_parts (not (state.lost i)) (is_member setting.n i) can).1
can_member setting state (Enrols i token floor) can = (and_parts (not (state.lost i)) (is_member setting.n i) can).1
can_member setting state (Unlocks i token) can = (and_parts (not (state.lost i)) (is_member setting.n i) can).1
can_member setting state (OpensGate i token) can = (and_parts (not (state.lost i)) (is_member setting.n i) can).1
can_member setting state (Raises i token floor) can = (and_parts (not (state.lost i)) (is_member setting.n i) can).1
can_member setting state (Remakes i boot given floor) can =
    (and_parts (is_member setting.n i) (state.lost i) (and_parts (is_member setting.n i && state.lost i) _ (and_parts _ ((is_member setting.n i && state.lost i) && _) can).1).0).0

still_down : (setting : Setting) (e : ℕ) (d : Action) (state : State) → AreDown setting state → AreDown setting (state_after_action setting e d state)
unfolding state_after_action
still_down setting e d state down j out =
    let i = node_of_action d in
    cond_both (can_be setting state d) (state_with setting e d (state.processes i) state) state (λ z. IsDown (z.processes j))
    (λ can.
    cond_both (eqb j i) (process_after setting e d (state.processes i)) (state.processes j) (λ p. IsDown p)
    (λ q. absurd (false≢true (sym out ∙ ap (is_member setting.n) (eqb-true j i q) ∙ can_member setting state d can)))
    (λ _. down j out))
    (λ _. down j out)

all_down : (setting : Setting) (e : ℕ) (ds : List Action) (state : State) → AreDown setting state → AreDown setting (state_after setting e ds state)
unfolding state_after
all_down setting e [] state down = down
all_down setting e (d ∷ ds) state down = all_down setting (suc e) ds (state_after_action setting e d state) (still_down setting e d state down)

-- ---- an input that was sent is genuine

sent_genuine : (cluster : SteadyCluster) (offered : List Output) (input : NodeEvent) → WasSent (terms_of cluster) offered input → IsGenuine (terms_of cluster) offered input
sent_genuine cluster offered (Client client moment line) h = tt
sent_genuine cluster offered Tick h = tt
sent_genuine cluster offered (Peer from None) h = tt
sent_genuine cluster offered (Peer from (Some l)) h = λ own vote low.
    let m = tokens_of cluster in
    let same : named_envelope (own_seats m) l ≡ l = ap (λ message. record l { message = message }) (message_same m l.message (subst (λ k. token_of l.message < k) (length-range_with_len 0 m) low)) in
    subst (λ (z : Envelope). WasOffered offered (record { key = cluster.key; envelope = z })) (sym same) (h own)

-- at a process of a member under the terms
genuine_at : (cluster : SteadyCluster) (w : World) (lost : Bool) (p : Process) (x : _) (offered : List Output) (input : NodeEvent) → IsProcessAt cluster w lost p x → WasSentTo p offered input → IsGenuineAt p offered input
genuine_at cluster w lost (Down store) x offered input at sent = tt
genuine_at cluster w false (Up own below s waiting) x offered input at sent =
    subst (λ (t : Terms). IsGenuine t offered input) (sym at.0) (sent_genuine cluster offered input (subst (λ (t : Terms). WasSent t offered input) at.0 sent))
genuine_at cluster w true (Up own below s waiting) x offered input at sent = absurd at

genuine_down : (p : Process) (offered : List Output) (input : NodeEvent) → IsDown p → IsGenuineAt p offered input
genuine_down (Down store) offered input down = tt
genuine_down (Up own below s waiting) offered input down = absurd down

genuine_input : (cluster : SteadyCluster) (state : State) (w : World) (i : ℕ) (input : NodeEvent) → Matches cluster state w → AreDown (setting_of cluster) state → WasSentTo (state.processes i) state.offered input → IsGenuineAt (state.processes i) state.offered input
genuine_input cluster state w i input m down sent =
    ⊎_elim
    (λ (member : is_member (nodes_of cluster) i ≡ true). genuine_at cluster w (state.lost i) (state.processes i) (w.nodes i) state.offered input (m.processes i member) sent)
    (λ (out : is_member (nodes_of cluster) i ≡ false). genuine_down (state.processes i) state.offered input (down i out))
    (cases_Bool (is_member (nodes_of cluster) i))

genuine_action : (cluster : SteadyCluster) (state : State) (w : World) (d : Action) → Matches cluster state w → AreDown (setting_of cluster) state → WasSentIn state d → IsGenuineAction state d
genuine_action cluster state w (Takes i input) m down sent = genuine_input cluster state w i input m down sent
genuine_action cluster state w (StopsIn i kept input) m down sent = genuine_input cluster state w i input m down sent
genuine_action cluster state w (Opens i terms) m down sent = tt
genuine_action cluster state w (FailsToOpen i raised) m down sent = tt
genuine_action cluster state w (Offers i) m down sent = tt
genuine_action cluster state w (Stops i) m down sent = tt
genuine_action cluster state w (Loses i) m down sent = tt
genuine_action cluster state w (Remakes i boot given floor) m down sent = tt
genuine_action cluster state w (Enrols i token floor) m down sent = tt
genuine_action cluster state w (Unlocks i token) m down sent = tt
genuine_action cluster state w (OpensGate i token) m down sent = tt
genuine_action cluster state w (Raises i token floor) m down sent = tt

all_genuine : GroundLaw → JustifiedLaw → (cluster : SteadyCluster) → MayStart cluster.config (start_of cluster) → (e : ℕ) (ds : List Action) (state : State) (w : World) → Ran cluster.config (start_of cluster) e w → Matches cluster state w → AreDown (setting_of cluster) state
    → AreSteady (terms_of cluster) ds → AreSent (setting_of cluster) e ds state → AreGenuine (setting_of cluster) e ds state
unfolding AreSent AreGenuine
all_genuine grounds justified cluster may e [] state w ran m down steady sent = tt
all_genuine grounds justified cluster may e (d ∷ ds) state w ran m down steady sent =
    let f = follows cluster grounds justified may e d state w ran m steady.0 sent.0 in (
      genuine_action cluster state w d m down sent.0,
      all_genuine grounds justified cluster may (suc e) ds (state_after_action (setting_of cluster) e d state) (world_after_event cluster.config e f.event w) (ran_next grounds cluster.config (start_of cluster) e f.event w ran) f.matches
          (still_down (setting_of cluster) e d state down) steady.1 sent.1,
    )

-- ---- the whole history

enrolled_genuine : (setting : Setting) (e : ℕ) (before actions : List Action) (state : State) → AreEnrolments before → AreGenuine setting (length before + e) actions (state_after setting e before state) → AreGenuine setting e (before ++ actions) state
unfolding AreGenuine state_after
enrolled_genuine setting e [] actions state only rest = let same : 0 + e ≡ e = omega arith in subst (λ n. AreGenuine setting n actions state) same rest
enrolled_genuine setting e (d ∷ before) actions state only rest =
    let same : suc (length before) + e ≡ length before + suc e = omega arith in
    let next = state_after_action setting e d state in (
      enrolment_genuine d state only.0,
      enrolled_genuine setting (suc e) before actions next only.1 (subst (λ n. AreGenuine setting n actions (state_after setting (suc e) before next)) same rest),
    )

old_back : (cluster : SteadyCluster) (xs : List Envelope) → map (λ (sealed : Sealed). sealed.envelope) (map (sealed_by cluster) xs) ≡ xs
old_back cluster [] = refl
old_back cluster (x ∷ xs) = ap (λ l. x ∷ l) (old_back cluster xs)

pub is_history : GroundLaw → JustifiedLaw → (cluster : SteadyCluster) (before actions : List Action) → IsSteady cluster before actions → IsHistory (setting_of cluster) (before ++ actions)
is_history grounds justified cluster before actions h =
    let setting = setting_of cluster in
    let may = may_start cluster h.starts in
    let p = length before in
    let down = all_down setting 0 before (first_state setting) (λ j out. tt) in
    let rest : AreGenuine setting p actions (state_of setting before) =
    all_genuine grounds justified cluster may p actions (state_of setting before) (opening_world cluster.config (start_of cluster)) (ran_idle cluster grounds may p) (starts cluster before h.enrolled) down h.steady h.sent in
    let same : p ≡ p + 0 = omega arith in
    record {
      starts = subst (λ l. MayOpen (nodes_of cluster) (tokens_of cluster) (blank_opening (made_boot setting) l)) (sym (old_back cluster cluster.old)) h.starts;
      genuine = enrolled_genuine setting 0 before actions (first_state setting) h.enrolled.only (subst (λ n. AreGenuine setting n actions (state_of setting before)) same rest);
    }

-- A history of a cluster whose users file never changes is a run of the world, and what is promised of every run is so
-- of it.
use Rattle.std.proofs.Common.{◌≡◌, ℕ, zero, suc, ◌+◌, ◌-◌, ◌<◌, ◌≤◌, inr, ⊎_elim, Bool, true, List, [], ◌∷◌, ◌++◌, length, map, take, replicate, Some, refl, sym, ap, ◌∙◌, subst, arith}
use Rattle.std.specs.List.{slice_get}
use Rattle.std.proofs.lemmas.Bool.{cases_lt, cond_both}
use Rattle.std.proofs.lemmas.List.{append-nil, append_assoc}
use Rattle.std.proofs.lemmas.Option.{none-some, same_Some}
use Rattle.floor_store.specs.Content.{Content}
use Rattle.vote_core.proofs.Basics.{Each, each_get, each_map}
use Rattle.vote_core.specs.Books.{blank_opening}
use Rattle.vote_core.specs.Rows.{row}
use Rattle.vote_core.specs.Safety.{IsOfEarlierBoot, MayOpen}
use Rattle.vote_core.specs.Schedule.{is_member}
use Rattle.vote_core.specs.declared.message.Message.{Message}
use Rattle.vote_core.specs.declared.message.Message.TheVariants.{Ask, Grant, Deny, Floor}
use Rattle.oath_node.specs.Machine.{Config, opened_node}
use Rattle.cluster_sim.proofs.BelowLaws.{GroundLaw}
use Rattle.cluster_sim.proofs.Refinement.{cluster_of}
use Rattle.cluster_sim.proofs.Runs.{next_sized, start_sized}
use Rattle.cluster_sim.proofs.Sizes.{Sized}
use Rattle.cluster_sim.specs.Answered.{NamePasses, TellTruth}
use Rattle.cluster_sim.specs.Justified.{AreJustified}
use Rattle.cluster_sim.specs.World.{Answer, MayStart, Start, World, WorldEvent, floor_at, opening_world, passes_in, passes_of, world_after_event, world_after_events, world_of}
use Rattle.book_law.specs.Answered.{IsToldAmong}
use Rattle.book_law.specs.Lives.{Action, Opens, FailsToOpen, Takes, Offers, Stops, StopsIn, Loses, Remakes, Enrols, Unlocks, OpensGate, Raises, IsGenuineAction, Output, Process, Sealed, Setting, State, ToPeer, ToClient, answered_in, answers_among, can_be, first_state, floor_of, made_boot, state_after, state_after_action, state_of, state_with, store_at}
use Rattle.book_law.proofs.Told.{answers_by, answers_in}
use Rattle.world_law.specs.Steady.{AreEnrolled, AreEnrolments, AreSent, AreSteady, IsEnrolment, IsSteady, SteadyCluster, nodes_of, sealed_by, setting_of, start_of, terms_of, tokens_of}
use Rattle.world_law.specs.Worlds.{HasEvent, IsEventOf, IsExplained, IsRunOf, nothing}
use Rattle.world_law.proofs.Follow.{IsKnown, IsOneAt, IsProcessIn, Matches, all_there, follows, one_is_event, process_at, quiet, same_next}
use Rattle.world_law.proofs.Ran.{JustifiedLaw, Ran, ran_next, ran_start, run_append}
use Rattle.world_law.proofs.Seats.{created_kept, created_seen}

-- ---- lists

pub length_append : {A : Type 0} (xs ys : List A) → length (xs ++ ys) ≡ length xs + length ys
length_append [] ys = omega arith
length_append (x ∷ xs) ys = (let rest = length_append xs ys in omega (arith, rest))

length_nothing : (k : ℕ) → length (replicate k nothing) ≡ k
length_nothing zero = refl
length_nothing (suc k) = ap (λ n. suc n) (length_nothing k)

take_over : {A : Type 0} (xs ys : List A) (j : ℕ) → take (length xs + j) (xs ++ ys) ≡ xs ++ take j ys
take_over [] ys j = let same : 0 + j ≡ j = omega arith in ap (λ k. take k ys) same
take_over (x ∷ xs) ys j =
    let same : suc (length xs) + j ≡ suc (length xs + j) = omega arith in
    ap (λ k. take k (x ∷ xs ++ ys)) same ∙ ap (λ l. x ∷ l) (take_over xs ys j)

take_within : {A : Type 0} (xs ys : List A) (k : ℕ) → k ≤ length xs → take k (xs ++ ys) ≡ take k xs
take_within xs ys zero low = both xs ys
  where
    both : {A : Type 0} (xs ys : List A) → take 0 (xs ++ ys) ≡ take 0 xs
    both [] [] = refl
    both [] (y ∷ ys) = refl
    both (x ∷ xs) ys = refl
take_within [] ys (suc k) low = absurd (omega (arith, low))
take_within (x ∷ xs) ys (suc k) low = ap (λ l. x ∷ l) (take_within xs ys k (omega (arith, low)))

pub states_append : (setting : Setting) (e : ℕ) (xs ys : List Action) (state : State) → state_after setting e (xs ++ ys) state ≡ state_after setting (length xs + e) ys (state_after setting e xs state)
unfolding state_after
states_append setting e [] ys state = let same : e ≡ 0 + e = omega arith in ap (λ n. state_after setting n ys state) same
states_append setting e (x ∷ xs) ys state =
    states_append setting (suc e) xs ys (state_after_action setting e x state)
    ∙ ap (λ n. state_after setting n ys (state_after setting (suc e) xs (state_after_action setting e x state))) (omega arith)

-- ---- the stores get their rows

-- all but the stores is as it was
pub record Unchanged (old new : State) : Type 0 where
  pub lost : new.lost ≡ old.lost
  pub least : new.least ≡ old.least
  pub offered : new.offered ≡ old.offered
  pub notes : new.notes ≡ old.notes

one_unchanged : (setting : Setting) (e : ℕ) (d : Action) (state : State) → IsEnrolment d → Unchanged state (state_after_action setting e d state)
unfolding state_after_action
one_unchanged setting e (Enrols i token floor) state h =
    cond_both (can_be setting state (Enrols i token floor)) (state_with setting e (Enrols i token floor) (state.processes i) state) state (λ z. Unchanged state z)
    (λ _. record { lost = refl; least = refl; offered = append-nil state.offered; notes = refl })
    (λ _. record { lost = refl; least = refl; offered = refl; notes = refl })
one_unchanged setting e (Opens i terms) state h = absurd h
one_unchanged setting e (FailsToOpen i raised) state h = absurd h
one_unchanged setting e (Takes i input) state h = absurd h
one_unchanged setting e (Offers i) state h = absurd h
one_unchanged setting e (Stops i) state h = absurd h
one_unchanged setting e (StopsIn i kept input) state h = absurd h
one_unchanged setting e (Loses i) state h = absurd h
one_unchanged setting e (Remakes i boot given floor) state h = absurd h
one_unchanged setting e (Unlocks i token) state h = absurd h
one_unchanged setting e (OpensGate i token) state h = absurd h
one_unchanged setting e (Raises i token floor) state h = absurd h

pub enrolments_keep : (setting : Setting) (e : ℕ) (ds : List Action) (state : State) → AreEnrolments ds → Unchanged state (state_after setting e ds state)
unfolding state_after
enrolments_keep setting e [] state h = record { lost = refl; least = refl; offered = refl; notes = refl }
enrolments_keep setting e (d ∷ ds) state h =
    let one = one_unchanged setting e d state h.0 in
    let rest = enrolments_keep setting (suc e) ds (state_after_action setting e d state) h.1 in
    record { lost = rest.lost ∙ one.lost; least = rest.least ∙ one.least; offered = rest.offered ∙ one.offered; notes = rest.notes ∙ one.notes }

first_enrolments : (k : ℕ) (ds : List Action) → AreEnrolments ds → AreEnrolments (take k ds)
first_enrolments zero [] h = tt
first_enrolments zero (d ∷ ds) h = tt
first_enrolments (suc k) [] h = tt
first_enrolments (suc k) (d ∷ ds) h = (h.0, first_enrolments k ds h.1)

enrolment_event : (d : Action) → IsEnrolment d → IsEventOf d nothing
enrolment_event (Enrols i token floor) h = refl
enrolment_event (Opens i terms) h = absurd h
enrolment_event (FailsToOpen i raised) h = absurd h
enrolment_event (Takes i input) h = absurd h
enrolment_event (Offers i) h = absurd h
enrolment_event (Stops i) h = absurd h
enrolment_event (StopsIn i kept input) h = absurd h
enrolment_event (Loses i) h = absurd h
enrolment_event (Remakes i boot given floor) h = absurd h
enrolment_event (Unlocks i token) h = absurd h
enrolment_event (OpensGate i token) h = absurd h
enrolment_event (Raises i token floor) h = absurd h

pub enrolment_genuine : (d : Action) (state : State) → IsEnrolment d → IsGenuineAction state d
enrolment_genuine (Enrols i token floor) state h = tt
enrolment_genuine (Opens i terms) state h = absurd h
enrolment_genuine (FailsToOpen i raised) state h = absurd h
enrolment_genuine (Takes i input) state h = absurd h
enrolment_genuine (Offers i) state h = absurd h
enrolment_genuine (Stops i) state h = absurd h
enrolment_genuine (StopsIn i kept input) state h = absurd h
enrolment_genuine (Loses i) state h = absurd h
enrolment_genuine (Remakes i boot given floor) state h = absurd h
enrolment_genuine (Unlocks i token) state h = absurd h
enrolment_genuine (OpensGate i token) state h = absurd h
enrolment_genuine (Raises i token floor) state h = absurd h

-- meanwhile nothing happens in the world
idle : (config : Config) (k e : ℕ) (w : World) → world_after_events config e (replicate k nothing) w ≡ w
unfolding world_after_events
idle config zero e w = refl
idle config (suc k) e w = ap (λ z. world_after_events config (suc e) (replicate k nothing) z) (quiet config e w) ∙ idle config k (suc e) w

idle_first : (config : Config) (j k e : ℕ) (w : World) → world_after_events config e (take j (replicate k nothing)) w ≡ w
unfolding world_after_events
idle_first config zero zero e w = refl
idle_first config zero (suc k) e w = refl
idle_first config (suc j) zero e w = refl
idle_first config (suc j) (suc k) e w = ap (λ z. world_after_events config (suc e) (take j (replicate k nothing)) z) (quiet config e w) ∙ idle_first config j k (suc e) w

-- ---- the start

earlier_boot : (boot : ℕ → ℕ) (message : Message) → IsOfEarlierBoot boot message → IsOfEarlierBoot (λ node. boot node + 1) message
earlier_boot boot (Ask p t span) h = omega (arith, h)
earlier_boot boot (Grant p t span) h = omega (arith, h)
earlier_boot boot (Deny p t next) h = omega (arith, h)
earlier_boot boot (Floor t next) h = tt

pub may_start : (cluster : SteadyCluster) → MayOpen (nodes_of cluster) (tokens_of cluster) (blank_opening (made_boot (setting_of cluster)) cluster.old) → MayStart cluster.config (start_of cluster)
may_start cluster may i l at = (let m = may i l at in (m.0, earlier_boot (made_boot (setting_of cluster)) l.message m.1))

module _ (cluster : SteadyCluster) where
  abbrev setting : Setting
  setting = setting_of cluster

  abbrev config : Config
  config = cluster.config

  abbrev start : Start
  start = start_of cluster

  abbrev first : World
  first = opening_world config start

  -- the stores have their rows
  pub starts : (before : List Action) → AreEnrolled cluster before → Matches cluster (state_of setting before) first
  starts before h =
      let same = enrolments_keep setting 0 before (first_state setting) h.only in
      record {
        n = refl;
        lost = sym same.lost;
        least = sym same.least;
        processes = λ j member.
            process_at cluster first ((state_of setting before).lost j) ((state_of setting before).processes j) (first.nodes j) (ap (λ (l : ℕ → Bool). l j) same.lost)
            (subst (λ (p : Process). IsProcessIn cluster first p (first.nodes j)) (sym (h.stores j member)) (
              created_kept (tokens_of cluster) (made_boot setting j) (floor_at cluster.floors j),
              inr (ap (λ (c : Content). opened_node c) (sym (created_seen (tokens_of cluster) (made_boot setting j) (floor_at cluster.floors j)))),
            ));
        offered = subst (Each (IsKnown first)) (sym same.offered)
            (each_map (IsKnown first) (λ (sealed : Sealed). ToPeer sealed) (map (sealed_by cluster) cluster.old)
            (each_map (λ (sealed : Sealed). IsKnown first (ToPeer sealed)) (sealed_by cluster) cluster.old (all_there cluster.old)));
        notes = sym same.notes;
      }

  -- ---- all actions

  -- each event is the event of the action at its place
  abbrev pub AreOnes : ℕ → List Action → State → List WorldEvent → Type 0
  AreOnes e [] state [] = Unit {0}
  AreOnes e [] state (x ∷ xs) = ⊥
  AreOnes e (d ∷ ds) state [] = ⊥
  AreOnes e (d ∷ ds) state (x ∷ xs) = IsOneAt d state (can_be setting state d) x × AreOnes (suc e) ds (state_after_action setting e d state) xs

  -- the events of the actions, and the world after each of them
  record Follows (e : ℕ) (actions : List Action) (state : State) (w : World) : Type 0 where
    events : List WorldEvent
    number : length events ≡ length actions
    each : (place : ℕ) (action : Action) → slice_get actions place ≡ Some action → HasEvent action place events
    whole : Matches cluster (state_after setting e actions state) (world_after_events config e events w)
    parts : (k : ℕ) → Matches cluster (state_after setting e (take k actions) state) (world_after_events config e (take k events) w)
    told : (world_after_events config e events w).told ≡ w.told ++ answers_in setting e actions state

  none_left : (e : ℕ) (state : State) (w : World) → Matches cluster state w → (k : ℕ) → Matches cluster (state_after setting e (take k []) state) (world_after_events config e (take k []) w)
  unfolding state_after world_after_events
  none_left e state w m zero = m
  none_left e state w m (suc k) = m

  each_place : (x : Action) (xs : List Action) (event : WorldEvent) (events : List WorldEvent) → IsEventOf x event → ((place : ℕ) (action : Action) → slice_get xs place ≡ Some action → HasEvent action place events)
      → (place : ℕ) (action : Action) → slice_get (x ∷ xs) place ≡ Some action → HasEvent action place (event ∷ events)
  each_place x xs event events is rest zero action at = record { event = event; is_there = refl; is_event = subst (λ d. IsEventOf d event) (same_Some x action at) is }
  each_place x xs event events is rest (suc place) action at =
      let r = rest place action at in
      record { event = r.event; is_there = r.is_there; is_event = r.is_event }

  each_part : (e : ℕ) (x : Action) (xs : List Action) (event : WorldEvent) (events : List WorldEvent) (state : State) (w : World) → Matches cluster state w
      → ((k : ℕ) → Matches cluster (state_after setting (suc e) (take k xs) (state_after_action setting e x state)) (world_after_events config (suc e) (take k events) (world_after_event config e event w)))
      → (k : ℕ) → Matches cluster (state_after setting e (take k (x ∷ xs)) state) (world_after_events config e (take k (event ∷ events)) w)
  unfolding state_after world_after_events
  each_part e x xs event events state w m rest zero = m
  each_part e x xs event events state w m rest (suc k) = rest k

  runs : GroundLaw → JustifiedLaw → MayStart config start → (e : ℕ) (actions : List Action) (state : State) (w : World) → Ran config start e w → Matches cluster state w → AreSteady (terms_of cluster) actions → AreSent setting e actions state → Follows e actions state w
  unfolding state_after world_after_events AreSent
  runs grounds justified may e [] state w ran m steady sent = record {
    events = [];
    number = refl;
    each = λ place action at. absurd (none-some action at);
    whole = m;
    parts = none_left e state w m;
    told = sym (append-nil w.told);
  }
  runs grounds justified may e (x ∷ xs) state w ran m steady sent =
      let next = state_after_action setting e x state in
      let f = follows cluster grounds justified may e x state w ran m steady.0 sent.0 in
      let r = runs grounds justified may (suc e) xs next (world_after_event config e f.event w) (ran_next grounds config start e f.event w ran) f.matches steady.1 sent.1 in
      record {
        events = f.event ∷ r.events;
        number = ap (λ n. suc n) r.number;
        each = each_place x xs f.event r.events (one_is_event (terms_of cluster) x state (can_be setting state x) f.event steady.0 f.is_one) r.each;
        whole = r.whole;
        parts = each_part e x xs f.event r.events state w m r.parts;
        told = r.told ∙ ap (λ l. l ++ answers_in setting (suc e) xs next) f.told ∙ append_assoc w.told (answers_by setting e x state) (answers_in setting (suc e) xs next);
      }

  -- the world after enrolments
  pub ran_idle : GroundLaw → MayStart config start → (k : ℕ) → Ran config start k first
  ran_idle grounds may zero = ran_start config start may
  ran_idle grounds may (suc k) = subst (λ w. Ran config start (suc k) w) (quiet config k first) (ran_next grounds config start k nothing first (ran_idle grounds may k))

  -- ---- the whole history

  all_sized : GroundLaw → (e : ℕ) (events : List WorldEvent) (w : World) → Sized (tokens_of cluster) (cluster_of w) → Sized (tokens_of cluster) (cluster_of (world_after_events config e events w))
  unfolding world_after_events
  all_sized grounds e [] w h = h
  all_sized grounds e (x ∷ xs) w h = all_sized grounds (suc e) xs (world_after_event config e x w) (next_sized grounds config e x w h)

  enrolled_events : (before actions : List Action) (events : List WorldEvent) → AreEnrolments before → ((place : ℕ) (action : Action) → slice_get actions place ≡ Some action → HasEvent action place events)
      → (place : ℕ) (action : Action) → slice_get (before ++ actions) place ≡ Some action → HasEvent action place (replicate (length before) nothing ++ events)
  enrolled_events [] actions events only rest = rest
  enrolled_events (d ∷ before) actions events only rest =
      each_place d (before ++ actions) nothing (replicate (length before) nothing ++ events) (enrolment_event d only.0) (enrolled_events before actions events only.1 rest)

  pub all_told : (w : World) (hs : List Output) → Each (IsKnown w) hs → Each (λ (t : Answer). IsToldAmong t w.told) (answers_among hs)
  all_told w [] p = tt
  all_told w (ToPeer l ∷ hs) p = all_told w hs p.1
  all_told w (ToClient t ∷ hs) p = (record { place = p.0.0; is_there = p.0.1 }, all_told w hs p.1)

  -- the run of a history, and what it tells
  pub record Whole (before actions : List Action) : Type 0 where
    pub events : List WorldEvent
    pub run : IsRunOf cluster before actions events
    pub told : (world_of config start events).told ≡ answers_in setting (length before) actions (state_of setting before)
    pub matches : Matches cluster (state_of setting (before ++ actions)) (world_of config start events)

  module _ (grounds : GroundLaw) (justified : JustifiedLaw) (before actions : List Action) (h : IsSteady cluster before actions) where
    abbrev p : ℕ
    p = length before

    may : MayStart config start
    may = may_start cluster h.starts

    taken : Follows p actions (state_of setting before) first
    taken = runs grounds justified may p actions (state_of setting before) first (ran_idle grounds may p) (starts before h.enrolled) h.steady h.sent

    abbrev all : List WorldEvent
    all = replicate p nothing ++ taken.events

    -- after the enrolments
    state_later : (xs : List Action) → state_of setting (before ++ xs) ≡ state_after setting p xs (state_of setting before)
    state_later xs = states_append setting 0 before xs (first_state setting) ∙ ap (λ n. state_after setting n xs (state_of setting before)) (omega arith)

    world_later : (xs : List WorldEvent) → world_of config start (replicate p nothing ++ xs) ≡ world_after_events config p xs first
    world_later xs =
        let number = length_nothing p in
        run_append config (replicate p nothing) xs 0 first
        ∙ ap (λ z. world_after_events config (length (replicate p nothing) + 0) xs z) (idle config p 0 first)
        ∙ ap (λ n. world_after_events config n xs first) (omega (arith, number))

    take_later : (j : ℕ) → take (p + j) all ≡ replicate p nothing ++ take j taken.events
    take_later j =
        let number = length_nothing p in
        ap (λ n. take (n + j) all) (sym number) ∙ take_over (replicate p nothing) taken.events j

    whole : Matches cluster (state_of setting (before ++ actions)) (world_of config start all)
    whole = subst (λ z. Matches cluster z (world_of config start all)) (sym (state_later actions)) (subst (λ w. Matches cluster (state_after setting p actions (state_of setting before)) w) (sym (world_later taken.events)) taken.whole)

    part : (j : ℕ) → Matches cluster (state_of setting (take (p + j) (before ++ actions))) (world_of config start (take (p + j) all))
    part j =
        subst (λ l. Matches cluster (state_of setting l) (world_of config start (take (p + j) all))) (sym (take_over before actions j))
        (subst (λ l. Matches cluster (state_of setting (before ++ take j actions)) (world_of config start l)) (sym (take_later j))
        (subst (λ z. Matches cluster z (world_of config start (replicate p nothing ++ take j taken.events))) (sym (state_later (take j actions)))
        (subst (λ w. Matches cluster (state_after setting p (take j actions) (state_of setting before)) w) (sym (world_later (take j taken.events))) (taken.parts j))))

    later_is : (event : ℕ) → p ≤ event → p + (event - p) ≡ event
    later_is event low = omega (arith, low)

    part_at : (event : ℕ) → p ≤ event → Matches cluster (state_of setting (take event (before ++ actions))) (world_of config start (take event all))
    part_at event low = subst (λ k. Matches cluster (state_of setting (take k (before ++ actions))) (world_of config start (take k all))) (later_is event low) (part (event - p))

    -- while the stores get their rows there are no notes
    notes_early : (event : ℕ) → event ≤ p → (state_of setting (take event (before ++ actions))).notes ≡ (world_of config start (take event all)).history
    notes_early event low =
        let number = length_nothing p in
        let none = (enrolments_keep setting 0 (take event before) (first_state setting) (first_enrolments event before h.enrolled.only)).notes in
        ap (λ l. (state_of setting l).notes) (take_within before actions event low) ∙ none
        ∙ sym (ap (λ l. (world_of config start l).history) (take_within (replicate p nothing) taken.events event (omega (arith, number, low))) ∙ ap (λ (w : World). w.history) (idle_first config event p 0 first))

    notes_before : (event : ℕ) → (state_of setting (take event (before ++ actions))).notes ≡ (world_of config start (take event all)).history
    notes_before event =
        ⊎_elim (λ (low : event < p). notes_early event (omega (arith, low))) (λ (low : p ≤ event). sym (part_at event low).notes) (cases_lt event p)

    floors : (node token event : ℕ) → is_member (nodes_of cluster) node ≡ true → p ≤ event
        → floor_of (store_at ((state_of setting (take event (before ++ actions))).processes node)) token ≡ (row ((world_of config start (take event all)).nodes node).content token).next
    floors node token event member low =
        let x = part_at event low in
        let z = state_of setting (take event (before ++ actions)) in
        let w = world_of config start (take event all) in
        sym (same_next cluster w (z.lost node) (z.processes node) (w.nodes node) token (all_sized grounds 0 (take event all) first (start_sized config start) node) (x.processes node member))

    pub whole_run : Whole before actions
    whole_run =
        let number = length_nothing p in
        let both = length_append (replicate p nothing) taken.events in
        let actions_both = length_append before actions in
        let of_run : IsRunOf cluster before actions all = record {
          number = both ∙ ap (λ n. n + length taken.events) number ∙ ap (λ n. p + n) taken.number ∙ sym actions_both;
          each = enrolled_events before actions taken.events h.enrolled.only taken.each;
          notes = sym whole.notes;
          notes_before = notes_before;
          accepted = ap passes_in (sym whole.notes);
          floors = floors;
          answered = λ place answer at.
              each_get (λ (t : Answer). IsToldAmong t (world_of config start all).told) (answered_in setting (before ++ actions)) place answer
              (all_told (world_of config start all) (state_of setting (before ++ actions)).offered whole.offered) at;
        } in
        record {
          events = all;
          run = of_run;
          told = ap (λ (w : World). w.told) (world_later taken.events) ∙ taken.told;
          matches = whole;
        }

-- ---- the promises

-- of every run
abbrev pub ToldLaw : Type 0
ToldLaw = (config : Config) (start : Start) (events : List WorldEvent) → MayStart config start → NamePasses events (passes_of config start events) (world_of config start events).told

abbrev pub NoOtherLaw : Type 0
NoOtherLaw = (config : Config) (start : Start) (events : List WorldEvent) → TellTruth events (passes_of config start events) (world_of config start events).told

pub is_run : GroundLaw → JustifiedLaw → (cluster : SteadyCluster) (before actions : List Action) → IsSteady cluster before actions → (events : List WorldEvent) × IsRunOf cluster before actions events
is_run grounds justified cluster before actions h = let r = whole_run cluster grounds justified before actions h in (r.events, r.run)

pub explained : GroundLaw → JustifiedLaw → ToldLaw → NoOtherLaw → (cluster : SteadyCluster) (before actions : List Action) → IsSteady cluster before actions → IsExplained cluster before actions
explained grounds justified told no_other cluster before actions h =
    let r = is_run grounds justified cluster before actions h in
    let config = cluster.config in
    let start = start_of cluster in
    let may = may_start cluster h.starts in
    record {
      events = r.0;
      is_run = r.1;
      justified = subst (λ ps. AreJustified config start r.0 ps) (sym r.1.accepted) (justified config start r.0 may);
      told = λ i t nonce hi at is_nonce is_factor bytes.
          let p = r.1.answered i t at in
          subst (λ ps. NamePasses r.0 ps (world_of config start r.0).told) (sym r.1.accepted) (told config start r.0 may) p.place t nonce hi p.is_there is_nonce is_factor bytes;
      no_other = λ i t at is_ok.
          let p = r.1.answered i t at in
          subst (λ ps. TellTruth r.0 ps (world_of config start r.0).told) (sym r.1.accepted) (no_other config start r.0) p.place t p.is_there is_ok;
    }

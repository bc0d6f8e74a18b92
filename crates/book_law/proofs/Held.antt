-- A floor that is told raises one row, to this floor.
use Rattle.std.proofs.Common.{◌≡◌, ℕ, zero, suc, ◌<◌, ◌≤◌, ◌⊎◌, inl, inr, ⊎_elim, true, false, List, [], ◌∷◌, length, take, Option, Some, None, get_or, refl, sym, ap, ◌∙◌, subst, arith, eqb, ltb}
use Rattle.std.specs.List.{slice_get}
use Rattle.std.proofs.lemmas.Bool.{cases_eq, cond_both, eqb-true}
use Rattle.std.proofs.lemmas.List.{get_or-map, get_or-set_other, get_or-set_same, length-map}
use Rattle.std.proofs.lemmas.Option.{none-some, same_Some}
use Rattle.floor_store.specs.Content.{Content, with_row}
use Rattle.floor_store.specs.Records.{RowRecord}
use Rattle.seated_store.specs.Seats.{row_at}
use Rattle.vote_core.specs.Books.{number_of}
use Rattle.vote_core.specs.NodeSet.{PlaceRecord}
use Rattle.vote_core.specs.Rows.{no_row, row, row_with_next}
use Rattle.vote_core.specs.Schedule.{Cluster, Envelope}
use Rattle.vote_core.specs.Voting.{on_floor, on_message, raise}
use Rattle.vote_core.specs.declared.message.Message.TheVariants.{Floor}
use Rattle.vote_core.proofs.Basics.{put_size}
use Rattle.oath_node.specs.Machine.{Config, Made, NodeState, Peer, is_heard, made_by_datagram, made_by_event, made_by_message, made_while_running, quiet_made}
use Rattle.cluster_sim.proofs.BelowLaws.{GroundLaw, VoteLaw}
use Rattle.seat_law.specs.Below.{Site, site_of}
use Rattle.seat_law.specs.Seats.{seat_name}
use Rattle.seat_law.proofs.Relation.{option_cases}
use Rattle.book_law.specs.Floors.{IsTakenInAction, TellsHeld, WasHeld, WasHeldAt, WasHeldSomewhere}
use Rattle.book_law.specs.Lives.{Action, Opens, FailsToOpen, Takes, Offers, Stops, StopsIn, Loses, Remakes, Enrols, Unlocks, OpensGate, Raises, IsHistory, Output, Process, Setting, State, Store, Terms, Down, Up, can_be, first_state, floor_in, floor_in_row, floor_of, node_of_action, place_in, places_of, process_after, row_of, rows_under, state_after, state_after_action, state_of, state_with, store_at, store_under}
use Rattle.book_law.proofs.Fits.{IsAt}
use Rattle.book_law.proofs.Opened.{IsOpen, seen_size}
use Rattle.book_law.proofs.Results.{hidden, open_row, seated_place}
use Rattle.book_law.proofs.Under.{row_off, rows_seen, rows_size}
use Rattle.book_law.proofs.Walk.{Holds, holds_before}

-- ---- a row

-- the floor of a number after it was told of a number
raised_next : (number floor m : ℕ) (c : Content) → m < length c.rows → ((row (raise number floor c) m).next ≡ (row c m).next) ⊎ ((m ≡ number) × ((row (raise number floor c) m).next ≡ floor))
unfolding raise
raised_next number floor m c lt =
    cond_both (ltb (row c number).next floor) (with_row c number (row_with_next floor (row c number)) None) c
    (λ (d : Content). ((row d m).next ≡ (row c m).next) ⊎ ((m ≡ number) × ((row d m).next ≡ floor)))
    (λ _.
    ⊎_elim
    (λ (same : m ≡ number). inr (
      same,
      ap (λ (r : RowRecord). r.next)
          (subst (λ z. row (with_row c number (row_with_next floor (row c number)) None) z ≡ row_with_next floor (row c number)) (sym same)
          (get_or-set_same c.rows number (row_with_next floor (row c number)) no_row (subst (λ z. z < length c.rows) same lt))),
    ))
    (λ (ne : m ≡ number → ⊥). inl (ap (λ (r : RowRecord). r.next) (get_or-set_other c.rows number m (row_with_next floor (row c number)) no_row ne)))
    (cases_eq m number))
    (λ _. inl refl)

raised_size : (number floor : ℕ) (c : Content) → length (raise number floor c).rows ≡ length c.rows
unfolding raise
raised_size number floor c =
    cond_both (ltb (row c number).next floor) (with_row c number (row_with_next floor (row c number)) None) c (λ (d : Content). length d.rows ≡ length c.rows)
    (λ _. put_size c number (row_with_next floor (row c number)) None) (λ _. refl)

-- the content of a machine that was told a floor
content_told : (config : Config) (place : PlaceRecord) (from number floor : ℕ) (l : Envelope) (state : NodeState) → l.message ≡ Floor number floor
    → ((made_by_event config place (Peer from (Some l)) state).state.content ≡ state.content) ⊎ ((made_by_event config place (Peer from (Some l)) state).state.content ≡ raise number floor state.content)
unfolding made_by_event made_while_running made_by_datagram on_message on_floor
content_told config place from number floor l state is =
    let P : Made → Type 0 = λ made. (made.state.content ≡ state.content) ⊎ (made.state.content ≡ raise number floor state.content) in
    cond_both state.running (made_while_running config place (Peer from (Some l)) state) (quiet_made state) P
    (λ _.
    cond_both (is_heard config place from l) (made_by_message place from l.message state) (quiet_made state) P
    (λ _. inr (ap (λ m. (on_message place from m state.content state.voter).content) is)) (λ _. inl refl))
    (λ _. inl refl)

-- ---- a store

module _ (x : Site) (terms : Terms) (below : Store) (state : NodeState) (h : IsOpen x terms below state) (number floor : ℕ) (new : Content) (is : (new ≡ state.content) ⊎ (new ≡ raise number floor state.content)) where
  abbrev places : List ℕ
  places = places_of below terms.seats

  abbrev name : ℕ → ℕ
  name = seat_name terms.seats

  long : length places ≡ length terms.seats
  long = length-map terms.seats _

  new_size : length new.rows ≡ length terms.seats
  new_size =
      ⊎_elim (λ (same : new ≡ state.content). ap (λ (c : Content). length c.rows) same)
      (λ (up : new ≡ raise number floor state.content). ap (λ (c : Content). length c.rows) up ∙ raised_size number floor state.content) is
      ∙ seen_size h

  -- a row that the process sees of the new content is the store's
  new_row : (m : ℕ) → m < length terms.seats → row new m ≡ row (store_under terms.seats new below).content (seat_name places m)
  new_row m lt =
      let rest = rows_under places new.rows below.content.rows in
      sym (ap (λ (rs : List RowRecord). get_or rs m no_row)
      (rows_seen places new.rows below.content.rows h.known.are.apart
      (λ j k at. subst (λ n. k < n) (rows_size places state.content.rows below.content.rows) (h.known.are.within j k at)) (new_size ∙ sym long)))
      ∙ get_or-map (row_at rest) places m 0 no_row (subst (λ n. m < n) (sym long) lt)

  number_raised : (m : ℕ) → m < length terms.seats → ((row new m).next ≡ (row state.content m).next) ⊎ ((m ≡ number) × ((row new m).next ≡ floor))
  number_raised m lt =
      ⊎_elim (λ (same : new ≡ state.content). inl (ap (λ (c : Content). (row c m).next) same))
      (λ (up : new ≡ raise number floor state.content).
      subst (λ (c : Content). ((row c m).next ≡ (row state.content m).next) ⊎ ((m ≡ number) × ((row c m).next ≡ floor))) (sym up)
      (raised_next number floor m state.content (let size = seen_size h in subst (λ n. m < n) (sym size) lt)))
      is

  abbrev Before : ℕ → RowRecord
  Before k = row (store_under terms.seats state.content below).content k

  abbrev After : ℕ → RowRecord
  After k = row (store_under terms.seats new below).content k

  row_told : (t k : ℕ) → row_of below t ≡ Some k → ((After k).next ≡ (Before k).next) ⊎ ((t ≡ name number) × ((After k).next ≡ floor))
  row_told t k found =
      ⊎_elim
      (λ (none : number_of (length terms.seats) name t ≡ None).
      let off = hidden x terms below state h t k found none in
      inl (ap (λ (r : RowRecord). r.next) (row_off places new.rows below.content.rows k no_row off ∙ sym (row_off places state.content.rows below.content.rows k no_row off))))
      (λ (some : (m : ℕ) × (number_of (length terms.seats) name t ≡ Some m)).
      let m = some.0 in
      let at = seated_place x terms below state h t k m found some.1 in
      let after : (After k).next ≡ (row new m).next = ap (λ z. (After z).next) (sym at.2) ∙ sym (ap (λ (r : RowRecord). r.next) (new_row m at.0)) in
      let before : (Before k).next ≡ (row state.content m).next = ap (λ z. (Before z).next) (sym at.2) ∙ sym (ap (λ (r : RowRecord). r.next) (open_row x terms below state h m at.0)) in
      ⊎_elim (λ (same : (row new m).next ≡ (row state.content m).next). inl (after ∙ same ∙ sym before))
      (λ (up : (m ≡ number) × ((row new m).next ≡ floor)). inr (sym at.1 ∙ ap name up.0, after ∙ up.1)) (number_raised m at.0))
      (option_cases (number_of (length terms.seats) name t))

  -- the floor of each token is as before, or the one that was told of it
  pub floor_told : (t : ℕ) → (floor_of (store_under terms.seats new below) t ≡ floor_of (store_under terms.seats state.content below) t) ⊎ ((t ≡ name number) × (floor_of (store_under terms.seats new below) t ≡ floor))
  floor_told t = at (row_of below t) refl
    where
      at : (o : Option ℕ) → row_of below t ≡ o
          → (floor_in_row (store_under terms.seats new below).content o ≡ floor_in_row (store_under terms.seats state.content below).content o) ⊎ ((t ≡ name number) × (floor_in_row (store_under terms.seats new below).content o ≡ floor))
      at None found = inl refl
      at (Some k) found = row_told t k found

-- ---- a process

-- the process is opened at a site
abbrev pub OpenAt : Process → Type 0
OpenAt p = (terms : Terms) (below : Store) (state : NodeState) (waiting : List Output) → p ≡ Up terms below state waiting → (x : Site) × IsOpen x terms below state

-- the process has the token under the number
abbrev pub IsToldOf : Process → ℕ → ℕ → Type 0
IsToldOf (Down store) number t = ⊥
IsToldOf (Up terms below state waiting) number t = t ≡ seat_name terms.seats number

-- the floor of a token at the process, before and after a floor was told of a number
abbrev pub AsTold : Process → Process → ℕ → ℕ → ℕ → Type 0
AsTold p p' number floor t = (floor_of (store_at p') t ≡ floor_of (store_at p) t) ⊎ (IsToldOf p number t × (floor_of (store_at p') t ≡ floor))

module _ (setting : Setting) (e from number floor : ℕ) (l : Envelope) (is : l.message ≡ Floor number floor) (t : ℕ) where
  up_told : (i : ℕ) (terms : Terms) (below : Store) (state : NodeState) (waiting : List Output) → OpenAt (Up terms below state waiting)
      → (floor_of (store_under terms.seats (made_by_event terms.config (place_in setting i) (Peer from (Some l)) state).state.content below) t ≡ floor_of (store_under terms.seats state.content below) t)
      ⊎ ((t ≡ seat_name terms.seats number) × (floor_of (store_under terms.seats (made_by_event terms.config (place_in setting i) (Peer from (Some l)) state).state.content below) t ≡ floor))
  up_told i terms below state waiting opened =
      let at = opened terms below state waiting refl in
      floor_told at.0 terms below state at.1 number floor (made_by_event terms.config (place_in setting i) (Peer from (Some l)) state).state.content
      (content_told terms.config (place_in setting i) from number floor l state is) t

  process_told : (i : ℕ) (d : Action) (p : Process) → OpenAt p → IsTakenInAction i (Peer from (Some l)) (Some d) → AsTold p (process_after setting e d p) number floor t
  process_told i (Takes j input) (Down store) opened taken = inl refl
  process_told i (Takes j input) (Up terms below state waiting) opened taken =
      subst (λ v. AsTold (Up terms below state waiting) (process_after setting e (Takes j v) (Up terms below state waiting)) number floor t) (sym taken.1) (up_told j terms below state waiting opened)
  process_told i (StopsIn j kept input) (Down store) opened taken = inl refl
  process_told i (StopsIn j false input) (Up terms below state waiting) opened taken = inl refl
  process_told i (StopsIn j true input) (Up terms below state waiting) opened taken =
      subst (λ v. AsTold (Up terms below state waiting) (process_after setting e (StopsIn j true v) (Up terms below state waiting)) number floor t) (sym taken.1) (up_told j terms below state waiting opened)
  process_told i (Opens j terms) p opened taken = absurd taken
  process_told i (FailsToOpen j raised) p opened taken = absurd taken
  process_told i (Offers j) p opened taken = absurd taken
  process_told i (Stops j) p opened taken = absurd taken
  process_told i (Loses j) p opened taken = absurd taken
  process_told i (Remakes j boot given floors) p opened taken = absurd taken
  process_told i (Enrols j token row_floor) p opened taken = absurd taken
  process_told i (Unlocks j token) p opened taken = absurd taken
  process_told i (OpensGate j token) p opened taken = absurd taken
  process_told i (Raises j token row_floor) p opened taken = absurd taken

  taken_at : (i : ℕ) (d : Action) → IsTakenInAction i (Peer from (Some l)) (Some d) → node_of_action d ≡ i
  taken_at i (Takes j input) taken = taken.0
  taken_at i (StopsIn j kept input) taken = taken.0
  taken_at i (Opens j terms) taken = absurd taken
  taken_at i (FailsToOpen j raised) taken = absurd taken
  taken_at i (Offers j) taken = absurd taken
  taken_at i (Stops j) taken = absurd taken
  taken_at i (Loses j) taken = absurd taken
  taken_at i (Remakes j boot given floors) taken = absurd taken
  taken_at i (Enrols j token row_floor) taken = absurd taken
  taken_at i (Unlocks j token) taken = absurd taken
  taken_at i (OpensGate j token) taken = absurd taken
  taken_at i (Raises j token row_floor) taken = absurd taken

  -- the floor of the token at each node, after the action
  abbrev AsToldAt : ℕ → State → ℕ → Process → Type 0
  AsToldAt i state j p = (floor_of (store_at p) t ≡ floor_of (store_at (state.processes j)) t) ⊎ ((j ≡ i) × IsToldOf (state.processes j) number t × (floor_of (store_at p) t ≡ floor))

  action_told : (i : ℕ) (d : Action) (state : State) → ((j : ℕ) → OpenAt (state.processes j)) → IsTakenInAction i (Peer from (Some l)) (Some d) → (j : ℕ)
      → AsToldAt i state j ((state_after_action setting e d state).processes j)
  unfolding state_after_action
  action_told i d state opened taken j =
      let k = node_of_action d in
      let p = process_after setting e d (state.processes k) in
      cond_both (can_be setting state d) (state_with setting e d (state.processes k) state) state (λ (z : State). AsToldAt i state j (z.processes j))
      (λ _.
      cond_both (eqb j k) p (state.processes j) (AsToldAt i state j)
      (λ q.
      let same = eqb-true j k q in
      ⊎_elim
      (λ (kept : floor_of (store_at p) t ≡ floor_of (store_at (state.processes k)) t). inl (subst (λ z. floor_of (store_at p) t ≡ floor_of (store_at (state.processes z)) t) (sym same) kept))
      (λ (up : IsToldOf (state.processes k) number t × (floor_of (store_at p) t ≡ floor)).
      inr (same ∙ taken_at i d taken, subst (λ z. IsToldOf (state.processes z) number t) (sym same) up.0, up.1))
      (process_told i d (state.processes k) (opened k) taken))
      (λ _. inl refl))
      (λ _. inl refl)

-- ---- a history

-- the state after one action more
pub one_more : (setting : Setting) (first k : ℕ) (history : List Action) (state : State) (d : Action) → slice_get history k ≡ Some d
    → (e : ℕ) × (state_after setting first (take (suc k) history) state ≡ state_after_action setting e d (state_after setting first (take k history) state))
unfolding state_after
one_more setting first k [] state d at = absurd (none-some d at)
one_more setting first zero (x ∷ []) state d at = (first, ap (λ z. state_after_action setting first z state) (same_Some x d at))
one_more setting first zero (x ∷ y ∷ history) state d at = (first, ap (λ z. state_after_action setting first z state) (same_Some x d at))
one_more setting first (suc k) (x ∷ history) state d at = one_more setting (suc first) k history (state_after_action setting first x state) d at

module _ (law : GroundLaw) (votes : VoteLaw) (setting : Setting) (history : List Action) (g : IsHistory setting history) (action : ℕ) where
  abbrev now : State
  now = state_of setting (take action history)

  holds : (w : Cluster) × Holds setting now w
  holds = (_, holds_before setting law votes history g action)

  open_now : (j : ℕ) → OpenAt (now.processes j)
  open_now j terms below state waiting is = (
    site_of holds.1.sites j,
    (subst (IsAt holds.1.sites.seen.own.sent (now.lost j) (site_of holds.1.sites j)) is (holds.1.fits.nodes j)).0,
  )

  -- a floor that was told and held
  told_held : (number floor : ℕ) (l : Envelope) (process : Process) (t : ℕ) → IsToldOf process number t → WasHeldAt setting history action l.sender number floor process → WasHeld setting history action l.sender t floor
  told_held number floor l (Down store) t told held = absurd told
  told_held number floor l (Up terms below state waiting) t told held = subst (λ z. WasHeld setting history action l.sender z floor) (sym told) held

  taken_some : (h : TellsHeld setting history action) (o : Option Action) → slice_get history action ≡ o → IsTakenInAction h.node (Peer h.from (Some h.envelope)) o → (d : Action) × (slice_get history action ≡ Some d) × IsTakenInAction h.node (Peer h.from (Some h.envelope)) (Some d)
  taken_some h None is taken = absurd taken
  taken_some h (Some d) is taken = (d, is, taken)

  pub held_somewhere : TellsHeld setting history action → (node t : ℕ) → WasHeldSomewhere setting history action t (floor_in setting history node t (suc action))
  held_somewhere h node t =
      let a = taken_some h (slice_get history action) refl h.taken in
      let next = one_more setting 0 action history (first_state setting) a.0 a.1 in
      let after : floor_in setting history node t (suc action) ≡ floor_of (store_at ((state_after_action setting next.0 a.0 now).processes node)) t =
      ap (λ (z : State). floor_of (store_at (z.processes node)) t) next.1 in
      ⊎_elim
      (λ (same : floor_of (store_at ((state_after_action setting next.0 a.0 now).processes node)) t ≡ floor_of (store_at (now.processes node)) t).
      record { node = node; was = record { event = action; earlier = omega arith; held = omega (arith, after, same) } })
      (λ (up : (node ≡ h.node) × IsToldOf (now.processes node) h.number t × (floor_of (store_at ((state_after_action setting next.0 a.0 now).processes node)) t ≡ h.floor)).
      let was = told_held h.number h.floor h.envelope (now.processes h.node) t (subst (λ z. IsToldOf (now.processes z) h.number t) up.0 up.1) h.held in
      record { node = h.envelope.sender; was = record { event = was.event; earlier = was.earlier; held = subst (λ z. z ≤ floor_in setting history h.envelope.sender t was.event) (sym (after ∙ up.2)) was.held } })
      (action_told setting next.0 h.from h.number h.floor h.envelope h.tells t h.node a.0 now open_now a.2 node)

-- The gate of each row of a store is the gate after the token's results there, and each failure came while the token was
-- open.
use Rattle.std.proofs.Common.{◌≡◌, ℕ, zero, suc, ◌<◌, ◌⊎◌, ⊎_elim, Bool, true, false, not, cond, ◌&&◌, List, [], ◌∷◌, ◌++◌, length, map, Option, Some, None, refl, sym, ap, ◌∙◌, subst, arith, eqb, ltb, get_or, set}
use Rattle.std.specs.List.{slice_get}
use Rattle.std.proofs.lemmas.Bool.{and_parts, cond_both, cond-false, cond-true, eq-eqb, false≢true}
use Rattle.std.proofs.lemmas.List.{get_or-map, length-map}
use Rattle.std.proofs.lemmas.Option.{get_or_from_slice_get, none-some, same_Some, slice_get-get_or, slice_get_within}
use Rattle.otp_core.specs.Gate.{clear_gate}
use Rattle.admit_core.specs.Throttle.{AreGated, Accepted, Result, SpacesFailures, gate_after}
use Rattle.floor_store.specs.Content.{Content, opening_row, with_row}
use Rattle.floor_store.specs.Records.{RowRecord}
use Rattle.seated_store.specs.Seats.{row_at}
use Rattle.vote_core.specs.Books.{is_number, number_of}
use Rattle.vote_core.specs.Rows.{no_row, row, row_with_gate, row_with_next}
use Rattle.vote_core.specs.Schedule.{Cluster, Member, last_boot}
use Rattle.vote_core.specs.Voting.{raise}
use Rattle.vote_core.proofs.Basics.{Each, get_before, get_last}
use Rattle.vote_core.proofs.Names.{not_eqb, same_or_not}
use Rattle.oath_node.specs.Machine.{Made, NodeEvent, NodeState, opened_node}
use Rattle.oath_node.specs.Unlocking.{unlocked_node}
use Rattle.cluster_sim.proofs.BelowLaws.{GateLaw, GroundLaw, SpaceLaw}
use Rattle.cluster_sim.proofs.VoteGates.{put_gate}
use Rattle.cluster_sim.specs.Results.{results_with_failure, results_with_pass}
use Rattle.seat_law.specs.Below.{Site, site_of}
use Rattle.seat_law.specs.Seats.{seat_name}
use Rattle.seat_law.proofs.Relation.{number_lacks, number_there, option_cases}
use Rattle.book_law.specs.Lives.{Action, Opens, FailsToOpen, Takes, Offers, Stops, StopsIn, Loses, Remakes, Enrols, Unlocks, OpensGate, Raises, AreGenuine, IsGenuineAction, IsGenuineAt, IsHistory, Output, Process, Setting, State, Store, Terms, Down, Up, can_be, content_raised, content_under, content_unlocked, do_fit, first_state, has_row, has_store, made_boot, made_by_input, may_enrol, node_of_action, number_to_unlock, places_of, process_after, process_offered, process_opened, row_of, row_or_first, seen_in, state_after, state_after_action, state_unlocked, state_with, store_at, store_in_next_boot, store_under, store_with_row, store_with_rows, with_process}
use Rattle.book_law.specs.Results.{results_after, results_after_action, results_by, results_in, results_of_number, results_of_step, with_results}
use Rattle.book_law.proofs.Actions.{opened_step}
use Rattle.book_law.proofs.Effects.{FloorsSent, HasSent}
use Rattle.book_law.proofs.Fits.{IsAt, at_stored}
use Rattle.book_law.proofs.Floors.{FloorsSentBy, all_grow, told_may, told_of}
use Rattle.book_law.proofs.Gates.{MadeRight, event_right}
use Rattle.book_law.proofs.Opened.{IsOpen, IsStored, seen_size}
use Rattle.book_law.proofs.Operators.{number_is_own}
use Rattle.book_law.proofs.Under.{opened_under, row_off, rows_put, rows_size}
use Rattle.book_law.proofs.Walk.{Holds, first_holds, first_told, follows, former, lost_up}

-- the gates of a store are those after the results, and a token without a row has none
pub record IsGatedAt (results : ℕ → List Result) (store : Store) : Type 0 where
  pub gates : (t k : ℕ) → row_of store t ≡ Some k → (row store.content k).gate ≡ gate_after (results t)
  pub none : (t : ℕ) → row_of store t ≡ None → results t ≡ []
  pub opened : (t : ℕ) → AreGated (results t)

abbrev pub Gated : State → (ℕ → ℕ → List Result) → Type 0
Gated state results = (i : ℕ) → IsGatedAt (results i) (store_at (state.processes i))

-- ---- rows of a process

-- a row that a process sees is the store's
pub open_row : (x : Site) (terms : Terms) (below : Store) (state : NodeState) → IsOpen x terms below state → (m : ℕ) → m < length terms.seats
    → row state.content m ≡ row (store_under terms.seats state.content below).content (seat_name (places_of below terms.seats) m)
open_row x terms below state h m lt =
    let places = places_of below terms.seats in
    let now = content_under places state.content below.content in
    ap (λ (z : Member). row z.content m) (sym h.member) ∙ ap (λ (c : Content). row c m) h.known.seen
    ∙ get_or-map (row_at now.rows) places m 0 no_row (let long = length-map terms.seats _ in subst (λ n. m < n) (sym long) lt)

-- the number of a row by its name
pub found_row : (store : Store) → ((j k : ℕ) → j < length store.names → k < length store.names → seat_name store.names j ≡ seat_name store.names k → j ≡ k)
    → (k t : ℕ) → k < length store.names → seat_name store.names k ≡ t → row_of store t ≡ Some k
found_row store one k t lt is =
    ⊎_elim (λ (none : row_of store t ≡ None). absurd (number_lacks (length store.names) (seat_name store.names) t none k lt is))
    (λ (some : (m : ℕ) × (row_of store t ≡ Some m)).
    let there = number_there (length store.names) (seat_name store.names) t some.0 some.1 in
    some.1 ∙ ap Some (one some.0 k there.0 lt (there.1 ∙ sym is)))
    (option_cases (row_of store t))

abbrev One : Store → Type 0
One store = (j k : ℕ) → j < length store.names → k < length store.names → seat_name store.names j ≡ seat_name store.names k → j ≡ k

pub stored_one : (x : Site) (store : Store) → IsStored x store → One store
stored_one x store h j k a b e = h.below.one j k (subst (λ n. j < n) h.size a) (subst (λ n. k < n) h.size b) e

module _ (x : Site) (terms : Terms) (below : Store) (state : NodeState) (h : IsOpen x terms below state) where
  abbrev places : List ℕ
  places = places_of below terms.seats

  abbrev name : ℕ → ℕ
  name = seat_name terms.seats

  long : length places ≡ length terms.seats
  long = length-map terms.seats _

  rows : length (content_under places state.content below.content).rows ≡ length below.names
  rows = rows_size places state.content.rows below.content.rows ∙ sym h.size

  open_one : One below
  open_one j k a b e = h.known.one j k (subst (λ n. j < n) (sym rows) a) (subst (λ n. k < n) (sym rows) b) e

  pub place_low : (m : ℕ) → m < length terms.seats → seat_name places m < length below.names
  place_low m lt = subst (λ n. seat_name places m < n) rows (h.known.are.within m (seat_name places m) (slice_get-get_or places m 0 (subst (λ n. m < n) (sym long) lt)))

  place_name : (m : ℕ) → m < length terms.seats → seat_name below.names (seat_name places m) ≡ name m
  place_name m lt = sym (h.known.names m (subst (λ n. m < n) (sym long) lt)) ∙ ap (λ (f : ℕ → ℕ). f m) h.name

  -- the row of a seat's token is the seat's place
  pub place_row : (m : ℕ) → m < length terms.seats → row_of below (name m) ≡ Some (seat_name places m)
  place_row m lt = found_row below open_one (seat_name places m) (name m) (place_low m lt) (place_name m lt)

  -- the row of a token without a seat is not seen
  pub hidden : (t k : ℕ) → row_of below t ≡ Some k → number_of (length terms.seats) name t ≡ None → (m : ℕ) → slice_get places m ≡ Some k → ⊥
  hidden t k is none m at =
      let lt = subst (λ n. m < n) long (slice_get_within places m k at) in
      number_lacks (length terms.seats) name t none m lt
      (sym (place_name m lt) ∙ ap (seat_name below.names) (get_or_from_slice_get places m k 0 at) ∙ (number_there (length below.names) (seat_name below.names) t k is).1)

  -- the row of a token with a seat is the seat's place
  pub seated_place : (t k m : ℕ) → row_of below t ≡ Some k → number_of (length terms.seats) name t ≡ Some m → (m < length terms.seats) × (name m ≡ t) × (seat_name places m ≡ k)
  seated_place t k m is some =
      let there = number_there (length terms.seats) name t m some in
      (there.0, there.1, same_Some (seat_name places m) k (sym (place_row m there.0) ∙ ap (row_of below) there.1 ∙ is))

-- ---- a step

module _ (grounds : GroundLaw) (gates : GateLaw) (setting : Setting) (i : ℕ) (terms : Terms) (below : Store) (node : NodeState) (input : NodeEvent) (results : ℕ → List Result)
    (x : Site) (h : IsOpen x terms below node) (g : IsGatedAt results (store_under terms.seats node.content below)) where
  abbrev made : Made
  made = made_by_input setting terms i input node

  abbrev own : ℕ → List Result
  own m = results (seat_name terms.seats m)

  right : MadeRight (length terms.config.book) own made
  right =
      event_right grounds gates terms.config own (record { me = i; n = setting.n }) node (seen_size h ∙ h.book)
      (λ m lt.
      let low : m < length terms.seats = subst (λ n. m < n) (sym h.book) lt in
      ap (λ (r : RowRecord). r.gate) (open_row x terms below node h m low) ∙ g.gates (seat_name terms.seats m) (seat_name (places_of below terms.seats) m) (place_row x terms below node h m low))
      input

  module _ (x' : Site) (h' : IsOpen x' terms below made.state) where
    -- the gate of a row after the step
    gate_now : (t k : ℕ) → row_of below t ≡ Some k → (o : Option ℕ) → number_of (length terms.seats) (seat_name terms.seats) t ≡ o
        → (row (store_under terms.seats made.state.content below).content k).gate ≡ gate_after (results_of_number o made (results t))
    gate_now t k is None none =
        ap (λ (r : RowRecord). r.gate)
        (row_off (places_of below terms.seats) made.state.content.rows below.content.rows k no_row (hidden x terms below node h t k is none)
        ∙ sym (row_off (places_of below terms.seats) node.content.rows below.content.rows k no_row (hidden x terms below node h t k is none)))
        ∙ g.gates t k is
    gate_now t k is (Some m) some =
        let seat = seated_place x terms below node h t k m is some in
        ap (λ q. (row (store_under terms.seats made.state.content below).content q).gate) (sym seat.2)
        ∙ ap (λ (r : RowRecord). r.gate) (sym (open_row x' terms below made.state h' m seat.0))
        ∙ right.gates m (subst (λ n. m < n) h.book seat.0)
        ∙ ap (λ u. gate_after (results_with_failure m made.failed (results_with_pass m made.pass (results u)))) seat.1

    opened_now : (t : ℕ) (o : Option ℕ) → number_of (length terms.seats) (seat_name terms.seats) t ≡ o → AreGated (results_of_number o made (results t))
    opened_now t None none = g.opened t
    opened_now t (Some m) some =
        let there = number_there (length terms.seats) (seat_name terms.seats) t m some in
        subst (λ u. AreGated (results_with_failure m made.failed (results_with_pass m made.pass (results u)))) there.1 (right.opened m (g.opened (seat_name terms.seats m)))

    -- a token without a row has no seat
    no_seat : (t : ℕ) → row_of below t ≡ None → number_of (length terms.seats) (seat_name terms.seats) t ≡ None
    no_seat t none =
        ⊎_elim (λ (q : number_of (length terms.seats) (seat_name terms.seats) t ≡ None). q)
        (λ (some : (m : ℕ) × (number_of (length terms.seats) (seat_name terms.seats) t ≡ Some m)).
        let there = number_there (length terms.seats) (seat_name terms.seats) t some.0 some.1 in
        absurd (none-some (seat_name (places_of below terms.seats) some.0) (sym none ∙ ap (row_of below) (sym there.1) ∙ place_row x terms below node h some.0 there.0)))
        (option_cases (number_of (length terms.seats) (seat_name terms.seats) t))

    pub step_gated : IsGatedAt (results_of_step terms made results) (store_under terms.seats made.state.content below)
    step_gated = record {
      gates = λ t k is. gate_now t k is (number_of (length terms.seats) (seat_name terms.seats) t) refl;
      none = λ t none. ap (λ o. results_of_number o made (results t)) (no_seat t none) ∙ g.none t none;
      opened = λ t. opened_now t (number_of (length terms.seats) (seat_name terms.seats) t) refl;
    }

-- ---- other actions

same_gated : (results : ℕ → List Result) (store : Store) (content : Content) → content.rows ≡ store.content.rows → IsGatedAt results store → IsGatedAt results (record store { content = content })
same_gated results store content is h = record {
  gates = λ t k found. ap (λ (rs : List RowRecord). (get_or rs k no_row).gate) is ∙ h.gates t k found;
  none = h.none;
  opened = h.opened;
}

clear_rows : (xs : List ℕ) (k : ℕ) → (get_or (map opening_row xs) k no_row).gate ≡ clear_gate
clear_rows [] k = refl
clear_rows (x ∷ xs) zero = refl
clear_rows (x ∷ xs) (suc k) = clear_rows xs k

made_gated : GateLaw → (boot : ℕ) (given : List ℕ) (floor : ℕ → ℕ) → IsGatedAt (λ t. []) (store_with_rows boot given floor)
made_gated law boot given floor = record {
  gates = λ t k found. clear_rows (map floor given) k ∙ sym law.start;
  none = λ t none. refl;
  opened = λ t. tt;
}

name_before : (xs : List ℕ) (t k : ℕ) → k < length xs → seat_name (xs ++ t ∷ []) k ≡ seat_name xs k
name_before xs t k lt = get_before xs (t ∷ []) k 0 lt

enrolled_gated : GateLaw → (results : ℕ → List Result) (t floor : ℕ) (store : Store) → One store → length store.names ≡ length store.content.rows → not (has_row store t) ≡ true → IsGatedAt results store
    → IsGatedAt results (store_with_row t floor store)
enrolled_gated law results t floor store one size new h =
    let more = store_with_row t floor store in
    let longer : length more.names ≡ suc (length store.names) = longer_list store.names in
    record {
      gates = λ u k found.
          let there = number_there (length more.names) (seat_name more.names) u k found in
          ⊎_elim
          (λ (lt : k < length store.names).
          ap (λ (r : RowRecord). r.gate) (get_before store.content.rows (opening_row floor ∷ []) k no_row (subst (λ n. k < n) size lt))
          ∙ h.gates u k (found_row store one k u lt (sym (name_before store.names t k lt) ∙ there.1)))
          (λ (last : k ≡ length store.names).
          let same : u ≡ t = sym there.1 ∙ get_last_name store.names k last in
          ap (λ (r : RowRecord). r.gate) (get_last store.content.rows (opening_row floor) no_row k (last ∙ size))
          ∙ sym law.start ∙ ap gate_after (sym (ap results same ∙ h.none t (no_row_of (row_of store t) refl))))
          (last_or k (length store.names) (subst (λ n. k < n) longer there.0));
      none = λ u none. h.none u
          (⊎_elim (λ (q : row_of store u ≡ None). q)
          (λ (some : (m : ℕ) × (row_of store u ≡ Some m)).
          let there = number_there (length store.names) (seat_name store.names) u some.0 some.1 in
          absurd (number_lacks (length more.names) (seat_name more.names) u none some.0 (subst (λ n. some.0 < n) (sym longer) (omega (arith, there.0))) (name_before store.names t some.0 there.0 ∙ there.1)))
          (option_cases (row_of store u)));
      opened = h.opened;
    }
  where
    longer_list : (xs : List ℕ) → length (xs ++ t ∷ []) ≡ suc (length xs)
    longer_list [] = refl
    longer_list (x ∷ xs) = ap suc (longer_list xs)

    get_last_name : (xs : List ℕ) (k : ℕ) → k ≡ length xs → seat_name (xs ++ t ∷ []) k ≡ t
    get_last_name xs k is = get_last xs t 0 k is

    last_or : (k n : ℕ) → k < suc n → (k < n) ⊎ (k ≡ n)
    last_or k n lt = grind arith

    no_row_of : (o : Option ℕ) → row_of store t ≡ o → row_of store t ≡ None
    no_row_of None is = is
    no_row_of (Some k) is = absurd (false≢true (sym (ap (λ z. not (is_number z)) is) ∙ new))

-- the row `k` is written, and the results of its token are the new ones
written_gated : (results new : ℕ → List Result) (store : Store) (t k : ℕ) (y : RowRecord) → One store → length store.names ≡ length store.content.rows → row_of store t ≡ Some k → y.gate ≡ gate_after (new t) → AreGated (new t)
    → ((u : ℕ) → (u ≡ t → ⊥) → new u ≡ results u) → IsGatedAt results store → IsGatedAt new (record store { content = with_row store.content k y None })
written_gated results new store t k y one size is gate gated others h =
    let there = number_there (length store.names) (seat_name store.names) t k is in
    record {
      gates = λ u q found.
          let low = number_there (length store.names) (seat_name store.names) u q found in
          put_gate store.content k y None q (subst (λ n. q < n) size low.0)
          ∙ ⊎_elim
          (λ (same : u ≡ t).
          let row_same : k ≡ q = same_Some k q (sym is ∙ ap (row_of store) (sym same) ∙ found) in
          cond-true (eqb k q) y.gate (row store.content q).gate (eq-eqb k q row_same) ∙ gate ∙ ap (λ z. gate_after (new z)) (sym same))
          (λ (ne : u ≡ t → ⊥).
          cond-false (eqb k q) y.gate (row store.content q).gate (not_eqb k q (λ z. ne (sym low.1 ∙ ap (seat_name store.names) (sym z) ∙ there.1)))
          ∙ h.gates u q found ∙ ap gate_after (sym (others u ne)))
          (same_or_not u t);
      none = λ u none.
          ⊎_elim (λ (same : u ≡ t). absurd (none-some k (sym none ∙ ap (row_of store) same ∙ is))) (λ (ne : u ≡ t → ⊥). others u ne ∙ h.none u none) (same_or_not u t);
      opened = λ u. ⊎_elim (λ (same : u ≡ t). subst (λ z. AreGated (new z)) (sym same) gated) (λ (ne : u ≡ t → ⊥). subst AreGated (sym (others u ne)) (h.opened u)) (same_or_not u t);
    }

unlocked_gated : GateLaw → (results : ℕ → List Result) (t : ℕ) (store : Store) → One store → length store.names ≡ length store.content.rows → IsGatedAt results store → (o : Option ℕ) → row_of store t ≡ o
    → IsGatedAt (λ u. cond (is_number o && eqb u t) (Accepted ∷ results u) (results u)) (record store { content = content_unlocked o store.content })
unlocked_gated law results t store one size h None is = h
unlocked_gated law results t store one size h (Some k) is =
    let new : ℕ → List Result = λ u. cond (eqb u t) (Accepted ∷ results u) (results u) in
    let here : new t ≡ Accepted ∷ results t = cond-true (eqb t t) (Accepted ∷ results t) (results t) (eq-eqb t t refl) in
    written_gated results new store t k (row_with_gate clear_gate (row store.content k)) one size is
    (sym (law.accepted (results t)) ∙ ap gate_after (sym here)) (subst AreGated (sym here) (h.opened t))
    (λ u ne. cond-false (eqb u t) (Accepted ∷ results u) (results u) (not_eqb u t ne)) h

-- the store of a process that cleared a gate is the one with the gate cleared in the token's row
cleared_store : (x : Site) (terms : Terms) (below : Store) (node : NodeState) (h : IsOpen x terms below node) (k : ℕ) → k < length terms.seats
    → (store_under terms.seats (unlocked_node k node).content below).content
    ≡ content_unlocked (Some (seat_name (places_of below terms.seats) k)) (store_under terms.seats node.content below).content
cleared_store x terms below node h k lt =
    let places = places_of below terms.seats in
    let place = seat_name places k in
    let store = store_under terms.seats node.content below in
    let put : List RowRecord → Content = λ rows. record store.content { rows = rows } in
    let size = seen_size h in
    let long = length-map terms.seats (λ t. row_or_first (row_of below t)) in
    ap put (rows_put places node.content.rows below.content.rows k (row_with_gate clear_gate (row node.content k)) h.known.are.apart (subst (λ n. k < n) (sym long) lt) (size ∙ sym long))
    ∙ ap (λ y. put (set store.content.rows place (row_with_gate clear_gate y))) (open_row x terms below node h k lt)

opened_gated : GateLaw → (results : ℕ → List Result) (t : ℕ) (x : Site) (terms : Terms) (below : Store) (node : NodeState) → IsOpen x terms below node → IsStored x (store_under terms.seats node.content below)
    → IsGatedAt results (store_under terms.seats node.content below) → (o : Option ℕ) → number_to_unlock terms t node ≡ o
    → IsGatedAt (λ u. cond (is_number o && eqb u t) (Accepted ∷ results u) (results u)) (store_under terms.seats (state_unlocked o node).content below)
opened_gated law results t x terms below node opens stored h None is = h
opened_gated law results t x terms below node opens stored h (Some k) is =
    let store = store_under terms.seats node.content below in
    let there = number_there (length terms.seats) (seat_name terms.seats) t k (number_is_own terms t k node is) in
    let found : row_of below t ≡ Some (seat_name (places_of below terms.seats) k) = ap (row_of below) (sym there.1) ∙ place_row x terms below node opens k there.0 in
    subst (λ c. IsGatedAt (λ u. cond (eqb u t) (Accepted ∷ results u) (results u)) (record store { content = c })) (sym (cleared_store x terms below node opens k there.0))
    (unlocked_gated law results t store (stored_one x store stored) stored.size h (Some (seat_name (places_of below terms.seats) k)) found)

raised_gated : (results : ℕ → List Result) (t floor : ℕ) (store : Store) → One store → length store.names ≡ length store.content.rows → IsGatedAt results store → (o : Option ℕ) → row_of store t ≡ o
    → IsGatedAt results (record store { content = content_raised o floor store.content })
unfolding raise
raised_gated results t floor store one size h None is = h
raised_gated results t floor store one size h (Some k) is =
    cond_both (ltb (row store.content k).next floor) (with_row store.content k (row_with_next floor (row store.content k)) None) store.content (λ d. IsGatedAt results (record store { content = d }))
    (λ _. written_gated results results store t k (row_with_next floor (row store.content k)) one size is (h.gates t k is) (h.opened t) (λ u ne. refl) h) (λ _. h)

-- ---- all actions

set_gated : (i : ℕ) (p : Process) (processes : ℕ → Process) (new : ℕ → List Result) (results : ℕ → ℕ → List Result) → IsGatedAt new (store_at p) → ((j : ℕ) → IsGatedAt (results j) (store_at (processes j)))
    → (j : ℕ) → IsGatedAt (with_results i new results j) (store_at (with_process i p processes j))
set_gated i p processes new results here h j = either (eqb j i) (h j)
  where
    either : (b : Bool) → IsGatedAt (results j) (store_at (processes j)) → IsGatedAt (cond b new (results j)) (store_at (cond b p (processes j)))
    either true k = here
    either false k = k

module _ (grounds : GroundLaw) (gates : GateLaw) (setting : Setting) (e : ℕ) (state : State) (w : Cluster) (holds : Holds setting state w) where
  at_now : (i : ℕ) → IsStored (site_of holds.sites i) (store_at (state.processes i))
  at_now i = at_stored holds.sites.seen.own.sent (state.lost i) (site_of holds.sites i) (state.processes i) (holds.fits.nodes i)

  stored_now : (i : ℕ) (store : Store) → state.processes i ≡ Down store → IsStored (site_of holds.sites i) store
  stored_now i store is = subst (λ p. IsStored (site_of holds.sites i) (store_at p)) is (at_now i)

  open_now : (i : ℕ) (terms : Terms) (below : Store) (node : NodeState) (waiting : List Output) → state.processes i ≡ Up terms below node waiting → IsOpen (site_of holds.sites i) terms below node
  open_now i terms below node waiting is = (subst (IsAt holds.sites.seen.own.sent (state.lost i) (site_of holds.sites i)) is (holds.fits.nodes i)).0

  step_now : (i : ℕ) (terms : Terms) (below : Store) (node : NodeState) (waiting : List Output) (input : NodeEvent) (results : ℕ → List Result) → state.processes i ≡ Up terms below node waiting → has_store setting state i ≡ true
      → IsGenuineAt (state.processes i) state.offered input → FloorsSent setting.tokens setting.n holds.sites.seen.own.sent i input → IsGatedAt results (store_under terms.seats node.content below)
      → IsGatedAt (results_of_step terms (made_by_input setting terms i input node) results) (store_under terms.seats (made_by_input setting terms i input node).state.content below)
  step_now i terms below node waiting input results is can g f h =
      let next = opened_step grounds setting e i terms below node waiting input state holds.sites holds.roster holds.sim holds.posts holds.fits can
      (subst (IsAt holds.sites.seen.own.sent (state.lost i) (site_of holds.sites i)) is (holds.fits.nodes i)) (subst (λ p. IsGenuineAt p state.offered input) is g) f in
      step_gated grounds gates setting i terms below node input results (site_of holds.sites i) (open_now i terms below node waiting is) h next.0 next.1

  opens_gated : (i : ℕ) (terms : Terms) (store : Store) (results : ℕ → List Result) → IsGatedAt results store → IsGatedAt results (store_at (process_opened terms store))
  opens_gated i terms store results h =
      cond_both (do_fit terms store && ltb store.content.boot last_boot) (Up terms store (opened_node (seen_in store terms.seats)) []) (Down store) (λ p. IsGatedAt results (store_at p))
      (λ _. same_gated results store _ (ap (λ (c : Content). c.rows) (opened_under (places_of store terms.seats) store.content)) h) (λ _. h)

  half_gated : (store : Store) (results : ℕ → List Result) → IsGatedAt results store → IsGatedAt results (store_at (cond (ltb store.content.boot last_boot) (Down (store_in_next_boot store)) (Down store)))
  half_gated store results h =
      cond_both (ltb store.content.boot last_boot) (Down (store_in_next_boot store)) (Down store) (λ p. IsGatedAt results (store_at p)) (λ _. same_gated results store _ refl h) (λ _. h)

  enrols_gated : (i t floor : ℕ) (store : Store) (results : ℕ → List Result) → state.processes i ≡ Down store → IsGatedAt results store
      → IsGatedAt results (store_at (cond (may_enrol setting t store) (Down (store_with_row t floor store)) (Down store)))
  enrols_gated i t floor store results is h =
      cond_both (may_enrol setting t store) (Down (store_with_row t floor store)) (Down store) (λ p. IsGatedAt results (store_at p))
      (λ q. enrolled_gated gates results t floor store (stored_one (site_of holds.sites i) store (stored_now i store is)) (stored_now i store is).size (and_parts (ltb t setting.tokens) (not (has_row store t)) q).1 h) (λ _. h)

  offered_gated : (terms : Terms) (below : Store) (node : NodeState) (waiting : List Output) (results : ℕ → List Result) → IsGatedAt results (store_under terms.seats node.content below)
      → IsGatedAt results (store_at (process_offered terms below node waiting))
  offered_gated terms below node [] results h = h
  offered_gated terms below node (o ∷ waiting) results h = h

  node_gated : (d : Action) (p : Process) (results : ℕ → List Result) → state.processes (node_of_action d) ≡ p → can_be setting state d ≡ true → IsGenuineAction state d → FloorsSentBy setting holds.sites.seen.own.sent d → IsGatedAt results (store_at p)
      → IsGatedAt (results_by setting d p results) (store_at (process_after setting e d p))
  node_gated (Opens i terms) (Down store) results is can g f h = opens_gated i terms store results h
  node_gated (Opens i new) (Up terms below node waiting) results is can g f h = h
  node_gated (FailsToOpen i true) (Down store) results is can g f h = half_gated store results h
  node_gated (FailsToOpen i false) (Down store) results is can g f h = h
  node_gated (FailsToOpen i raised) (Up terms below node waiting) results is can g f h = h
  node_gated (Takes i input) (Down store) results is can g f h = h
  node_gated (Takes i input) (Up terms below node waiting) results is can g f h = step_now i terms below node waiting input results is can g f h
  node_gated (Offers i) (Down store) results is can g f h = h
  node_gated (Offers i) (Up terms below node waiting) results is can g f h = offered_gated terms below node waiting results h
  node_gated (Stops i) (Down store) results is can g f h = h
  node_gated (Stops i) (Up terms below node waiting) results is can g f h = h
  node_gated (StopsIn i true input) (Down store) results is can g f h = h
  node_gated (StopsIn i false input) (Down store) results is can g f h = h
  node_gated (StopsIn i false input) (Up terms below node waiting) results is can g f h = h
  node_gated (StopsIn i true input) (Up terms below node waiting) results is can g f h = step_now i terms below node waiting input results is can g f h
  node_gated (Loses i) p results is can g f h = same_gated results (store_at p) _ refl h
  node_gated (Remakes i boot given floor) (Down store) results is can g f h = made_gated gates boot given floor
  node_gated (Remakes i boot given floor) (Up terms below node waiting) results is can g f h =
      absurd (lost_up grounds setting e state holds.sites holds.roster holds.sim holds.posts holds.fits (λ q. ⊥) i boot given floor terms below node waiting
      (subst (IsAt holds.sites.seen.own.sent (state.lost i) (site_of holds.sites i)) is (holds.fits.nodes i)) can)
  node_gated (Enrols i t floor) (Down store) results is can g f h = enrols_gated i t floor store results is h
  node_gated (Enrols i t floor) (Up terms below node waiting) results is can g f h = h
  node_gated (Unlocks i t) (Down store) results is can g f h = unlocked_gated gates results t store (stored_one (site_of holds.sites i) store (stored_now i store is)) (stored_now i store is).size h (row_of store t) refl
  node_gated (OpensGate i t) (Down store) results is can g f h = h
  node_gated (Unlocks i t) (Up terms below node waiting) results is can g f h = h
  node_gated (OpensGate i t) (Up terms below node waiting) results is can g f h =
      opened_gated gates results t (site_of holds.sites i) terms below node (open_now i terms below node waiting is)
      (subst (λ p. IsStored (site_of holds.sites i) (store_at p)) is (at_now i)) h (number_to_unlock terms t node) refl
  node_gated (Raises i t floor) (Down store) results is can g f h = raised_gated results t floor store (stored_one (site_of holds.sites i) store (stored_now i store is)) (stored_now i store is).size h (row_of store t) refl
  node_gated (Raises i t floor) (Up terms below node waiting) results is can g f h = h

  pub action_gated : (d : Action) (results : ℕ → ℕ → List Result) → IsGenuineAction state d → FloorsSentBy setting holds.sites.seen.own.sent d → Gated state results → Gated (state_after_action setting e d state) (results_after_action setting d state results)
  unfolding state_after_action results_after_action
  action_gated d results g f h = either (state.processes (node_of_action d)) refl (can_be setting state d) refl
    where
      either : (p : Process) → state.processes (node_of_action d) ≡ p → (b : Bool) → can_be setting state d ≡ b
          → Gated (cond b (state_with setting e d p state) state) (cond b (with_results (node_of_action d) (results_by setting d p (results (node_of_action d))) results) results)
      either p is true can =
          set_gated (node_of_action d) (process_after setting e d p) state.processes (results_by setting d p (results (node_of_action d))) results
          (node_gated d p (results (node_of_action d)) is can g f (subst (λ z. IsGatedAt (results (node_of_action d)) (store_at z)) is (h (node_of_action d)))) h
      either p is false can = h

all_gated : GroundLaw → GateLaw → (setting : Setting) (first : ℕ) (history : List Action) (state : State) (w : Cluster) (results : ℕ → ℕ → List Result) (holds : Holds setting state w) → AreGenuine setting first history state
    → Each (FloorsSentBy setting holds.sites.seen.own.sent) history → Gated state results
    → Gated (state_after setting first history state) (results_after setting first history state results)
unfolding state_after results_after AreGenuine
all_gated grounds gates setting first [] state w results holds g f h = h
all_gated grounds gates setting first (d ∷ history) state w results holds g f h =
    let next = follows grounds setting first state holds.sites holds.roster holds.sim holds.posts holds.fits d g.0 f.0 in
    all_gated grounds gates setting (suc first) history (state_after_action setting first d state) next.roster.cluster (results_after_action setting d state results)
    (record { sites = next.sites; roster = next.roster; sim = next.sim; posts = next.posts; fits = next.fits; same = refl }) g.1
    (all_grow setting holds.sites.seen.own.sent next.sites.seen.own.sent history (λ l k. next.grows l (subst (λ sent. HasSent sent l) (sym holds.sim.sent) k)) f.1)
    (action_gated grounds gates setting first state w holds d results g.0 f.0 h)

pub history_gated : GroundLaw → GateLaw → (setting : Setting) (history : List Action) → IsHistory setting history → Gated (state_after setting 0 history (first_state setting)) (results_in setting history)
history_gated grounds gates setting history g =
    let may = told_may setting (made_boot setting) (former setting) history g.starts in
    all_gated grounds gates setting 0 history (first_state setting) _ (λ i t. []) (first_holds setting (told_of setting history) may) g.genuine (first_told setting history may) (λ i. made_gated gates _ [] (λ token. 0))

pub spaced : GroundLaw → GateLaw → SpaceLaw → (setting : Setting) (history : List Action) (node token : ℕ) → IsHistory setting history → SpacesFailures (results_in setting history node token)
spaced grounds gates spaces setting history node token g = spaces (results_in setting history node token) ((history_gated grounds gates setting history g node).opened token)

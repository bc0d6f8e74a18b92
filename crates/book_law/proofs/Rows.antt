-- The rows of stores by token. An action gives no grant to a row without a seat.
use Rattle.std.proofs.Common.{◌≡◌, ℕ, zero, suc, ◌<◌, ◌⊎◌, ⊎_elim, Bool, true, false, ◌&&◌, List, [], ◌∷◌, ◌++◌, length, map, Option, Some, None, refl, sym, ap, ◌∙◌, subst, arith, eqb, ltb, get_or}
use Rattle.std.proofs.lemmas.Bool.{cond_both, cond-false, cond-true, eqb-true}
use Rattle.std.proofs.lemmas.Option.{none-some}
use Rattle.floor_store.specs.Content.{Content, opening_row, with_next_boot, with_row}
use Rattle.floor_store.specs.Records.{ProposalRecord, RowRecord, SpanRecord}
use Rattle.otp_core.specs.Gate.{clear_gate}
use Rattle.vote_core.specs.Books.{is_number, number_of}
use Rattle.vote_core.specs.Rows.{no_row, row, row_with_gate, row_with_next}
use Rattle.vote_core.specs.Schedule.{Envelope, last_boot}
use Rattle.vote_core.specs.Voting.{raise}
use Rattle.vote_core.proofs.Basics.{get_before, get_last, row_cases}
use Rattle.oath_node.specs.Machine.{NodeState, opened_node}
use Rattle.seat_law.specs.Below.{Site, site_of}
use Rattle.seat_law.specs.Seats.{Sites, seat_name, stored_row}
use Rattle.seat_law.specs.Votes.{kept_row}
use Rattle.seat_law.proofs.Relation.{number_there}
use Rattle.book_law.specs.Lives.{Action, Down, Enrols, FailsToOpen, Loses, Offers, Opens, OpensGate, Process, Raises, Remakes, Setting, State, Stops, StopsIn, Store, Takes, Terms, Unlocks, Up, can_be, content_raised, content_under, content_unlocked, do_fit, made_by_input, may_enrol, node_of_action, number_to_unlock, places_of, process_after, process_opened, row_of, seen_in, state_after_action, state_unlocked, state_with, store_at, store_in_next_boot, store_under, store_with_row, store_with_rows}
use Rattle.book_law.specs.Seeds.{row_for, row_or_opening}
use Rattle.book_law.proofs.Fits.{IsAt, at_stored, stored_row_is}
use Rattle.book_law.proofs.Opened.{IsOpen, IsStored}
use Rattle.book_law.proofs.Results.{found_row, hidden, stored_one}
use Rattle.book_law.proofs.Under.{opened_under, row_off}

-- ---- the row of a token is the one over seats

kept_at : (s : Sites) (i t : ℕ) (store : Store) → IsStored (site_of s i) store → (o : Option ℕ) → row_of store t ≡ o → kept_row s i t ≡ row_or_opening store.content o
kept_at s i t store h None is =
    cond-false (s.enrolled i t) (stored_row s i t) (opening_row 0)
    (h.below.enrolled t ∙ ap (λ m. is_number (number_of m (seat_name store.names) t)) (sym h.size) ∙ ap is_number is)
kept_at s i t store h (Some k) is =
    let there = number_there (length store.names) (seat_name store.names) t k is in
    cond-true (s.enrolled i t) (stored_row s i t) (opening_row 0)
    (h.below.enrolled t ∙ ap (λ m. is_number (number_of m (seat_name store.names) t)) (sym h.size) ∙ ap is_number is)
    ∙ ap (stored_row s i) (sym there.1)
    ∙ stored_row_is s i (seat_name store.names) h.seats store.content h.below k (subst (λ m. k < m) h.size there.0)

pub kept_is : (s : Sites) (i t : ℕ) (sent : List Envelope) (lost : Bool) (p : Process) → IsAt sent lost (site_of s i) p → kept_row s i t ≡ row_for (store_at p) t
kept_is s i t sent lost p h = kept_at s i t (store_at p) (at_stored sent lost (site_of s i) p h) (row_of (store_at p) t) refl

-- ---- rows without a seat

-- the token has no seat at the process
abbrev pub Unseated : Process → ℕ → Type 0
Unseated (Down store) t = Unit {0}
Unseated (Up terms below state waiting) t = number_of (length terms.seats) (seat_name terms.seats) t ≡ None

-- a row gets no grant
abbrev pub NoGrant : RowRecord → RowRecord → Type 0
NoGrant r r' = (x : ProposalRecord × SpanRecord) → r'.grant ≡ Some x → r.grant ≡ Some x

same_row : (r r' : RowRecord) → r' ≡ r → NoGrant r r'
same_row r r' is x h = ap (λ (z : RowRecord). z.grant) (sym is) ∙ h

-- a process changes no row without a seat
pub under_off : (x : Site) (terms : Terms) (below : Store) (state : NodeState) → IsOpen x terms below state → (c : Content) (t : ℕ) → number_of (length terms.seats) (seat_name terms.seats) t ≡ None
    → row_for (store_under terms.seats c below) t ≡ row_for below t
under_off x terms below state h c t none = at (row_of below t) refl
  where
    at : (o : Option ℕ) → row_of below t ≡ o → row_or_opening (content_under (places_of below terms.seats) c below.content) o ≡ row_or_opening below.content o
    at None is = refl
    at (Some k) is = row_off (places_of below terms.seats) c.rows below.content.rows k no_row (hidden x terms below state h t k is none)

under_both : (x : Site) (terms : Terms) (below : Store) (state : NodeState) → IsOpen x terms below state → (c : Content) (t : ℕ) → number_of (length terms.seats) (seat_name terms.seats) t ≡ None
    → NoGrant (row_for (store_under terms.seats state.content below) t) (row_for (store_under terms.seats c below) t)
under_both x terms below state h c t none =
    same_row (row_for (store_under terms.seats state.content below) t) (row_for (store_under terms.seats c below) t)
    (under_off x terms below state h c t none ∙ sym (under_off x terms below state h state.content t none))

-- ---- a node without a process

same_rows : (c d : Content) (o : Option ℕ) → d.rows ≡ c.rows → row_or_opening d o ≡ row_or_opening c o
same_rows c d None is = refl
same_rows c d (Some k) is = ap (λ (rs : List RowRecord). get_or rs k no_row) is

-- a process that opens a store changes no row
pub opened_row : (terms : Terms) (store : Store) (t : ℕ) → row_for (store_under terms.seats (opened_node (seen_in store terms.seats)).content store) t ≡ row_for store t
opened_row terms store t =
    same_rows store.content (store_under terms.seats (opened_node (seen_in store terms.seats)).content store).content (row_of store t)
    (ap (λ (c : Content). c.rows) (opened_under (places_of store terms.seats) store.content))

opens_row : (terms : Terms) (store : Store) (t : ℕ) → row_for (store_at (process_opened terms store)) t ≡ row_for store t
opens_row terms store t =
    cond_both (do_fit terms store && ltb store.content.boot last_boot) (Up terms store (opened_node (seen_in store terms.seats)) []) (Down store) (λ p. row_for (store_at p) t ≡ row_for store t)
    (λ _. opened_row terms store t) (λ _. refl)

next_row : (store : Store) (t : ℕ) → row_for (store_in_next_boot store) t ≡ row_for store t
next_row store t = same_rows store.content (with_next_boot store.content) (row_of store t) refl

put_grant : (c : Content) (m : ℕ) (r : RowRecord) → r.grant ≡ (row c m).grant → (o : Option ℕ) → (row_or_opening (with_row c m r None) o).grant ≡ (row_or_opening c o).grant
put_grant c m r same None = refl
put_grant c m r same (Some k) =
    ⊎_elim (λ (e : row (with_row c m r None) k ≡ row c k). ap (λ (z : RowRecord). z.grant) e)
    (λ (e : (k ≡ m) × (row (with_row c m r None) k ≡ r)). ap (λ (z : RowRecord). z.grant) e.1 ∙ same ∙ ap (λ j. (row c j).grant) (sym e.0)) (row_cases c m r None k)

unlocked_grant : (c : Content) (m o : Option ℕ) → (row_or_opening (content_unlocked m c) o).grant ≡ (row_or_opening c o).grant
unlocked_grant c None o = refl
unlocked_grant c (Some m) o = put_grant c m (row_with_gate clear_gate (row c m)) refl o

raised_grant : (c : Content) (floor : ℕ) (m o : Option ℕ) → (row_or_opening (content_raised m floor c) o).grant ≡ (row_or_opening c o).grant
unfolding raise
raised_grant c floor None o = refl
raised_grant c floor (Some m) o =
    cond_both (ltb (row c m).next floor) (with_row c m (row_with_next floor (row c m)) None) c (λ d. (row_or_opening d o).grant ≡ (row_or_opening c o).grant)
    (λ _. put_grant c m (row_with_next floor (row c m)) refl o) (λ _. refl)

opening_grants : (xs : List ℕ) (k : ℕ) → (get_or (map opening_row xs) k no_row).grant ≡ None
opening_grants [] k = refl
opening_grants (x ∷ xs) zero = refl
opening_grants (x ∷ xs) (suc k) = opening_grants xs k

made_grant : (boot : ℕ) (given : List ℕ) (floor : ℕ → ℕ) (o : Option ℕ) → (row_or_opening (store_with_rows boot given floor).content o).grant ≡ None
made_grant boot given floor None = refl
made_grant boot given floor (Some k) = opening_grants (map floor given) k

enrolled_grant : (x : Site) (u floor : ℕ) (store : Store) → IsStored x store → (t : ℕ) → NoGrant (row_for store t) (row_for (store_with_row u floor store) t)
enrolled_grant x u floor store h t = at (row_of more t) refl
  where
    more : Store
    more = store_with_row u floor store

    longer_list : (xs : List ℕ) → length (xs ++ u ∷ []) ≡ suc (length xs)
    longer_list [] = refl
    longer_list (y ∷ xs) = ap suc (longer_list xs)

    last_or : (k n : ℕ) → k < suc n → (k < n) ⊎ (k ≡ n)
    last_or k n lt = grind arith

    at : (o : Option ℕ) → row_of more t ≡ o → NoGrant (row_for store t) (row_or_opening more.content o)
    at None is y e = absurd (none-some y e)
    at (Some k) is y e =
        let there = number_there (length more.names) (seat_name more.names) t k is in
        ⊎_elim
        (λ (lt : k < length store.names).
        let found = found_row store (stored_one x store h) k t lt (sym (get_before store.names (u ∷ []) k 0 lt) ∙ there.1) in
        ap (λ o. (row_or_opening store.content o).grant) found
        ∙ ap (λ (r : RowRecord). r.grant) (sym (get_before store.content.rows (opening_row floor ∷ []) k no_row (subst (λ n. k < n) h.size lt))) ∙ e)
        (λ (last : k ≡ length store.names).
        absurd (none-some y (sym (ap (λ (r : RowRecord). r.grant) (get_last store.content.rows (opening_row floor) no_row k (last ∙ h.size))) ∙ e)))
        (last_or k (length store.names) (subst (λ n. k < n) (longer_list store.names) there.0))

-- ---- all actions

module _ (setting : Setting) (e : ℕ) (sent : List Envelope) (lost : Bool) (x : Site) (t : ℕ) where
  -- the row gets no grant in the action
  abbrev Quiet : Process → Process → Type 0
  Quiet p q = NoGrant (row_for (store_at p) t) (row_for (store_at q) t)

  stays : (p : Process) → Quiet p p
  stays p y h = h

  ended : (below : Store) → Quiet (Down below) (Down (store_in_next_boot below))
  ended below = same_row (row_for below t) (row_for (store_in_next_boot below) t) (next_row below t)

  process_quiet : (d : Action) (p : Process) → IsAt sent lost x p → Unseated p t → Quiet p (process_after setting e d p)
  process_quiet (Opens i terms) (Down store) at off = same_row (row_for store t) (row_for (store_at (process_opened terms store)) t) (opens_row terms store t)
  process_quiet (Opens i terms) (Up own below node waiting) at off = stays (Up own below node waiting)
  process_quiet (FailsToOpen i true) (Down store) at off =
      cond_both (ltb store.content.boot last_boot) (Down (store_in_next_boot store)) (Down store) (Quiet (Down store)) (λ _. ended store) (λ _. stays (Down store))
  process_quiet (FailsToOpen i false) (Down store) at off = stays (Down store)
  process_quiet (FailsToOpen i raised) (Up own below node waiting) at off = stays (Up own below node waiting)
  process_quiet (Takes i input) (Down store) at off = stays (Down store)
  process_quiet (Takes i input) (Up terms below node waiting) at off = under_both x terms below node at.0 (made_by_input setting terms i input node).state.content t off
  process_quiet (Offers i) (Down store) at off = stays (Down store)
  process_quiet (Offers i) (Up terms below node []) at off = stays (Up terms below node [])
  process_quiet (Offers i) (Up terms below node (o ∷ waiting)) at off = λ y h. h
  process_quiet (Stops i) (Down store) at off = stays (Down store)
  process_quiet (Stops i) (Up terms below node waiting) at off = λ y h. h
  process_quiet (StopsIn i kept input) (Down store) at off = stays (Down store)
  process_quiet (StopsIn i false input) (Up terms below node waiting) at off = λ y h. h
  process_quiet (StopsIn i true input) (Up terms below node waiting) at off = under_both x terms below node at.0 (made_by_input setting terms i input node).state.content t off
  process_quiet (Loses i) p at off = same_row (row_for (store_at p) t) (row_for (store_in_next_boot (store_at p)) t) (next_row (store_at p) t)
  process_quiet (Remakes i boot given floor) (Down store) at off = λ y h. absurd (none-some y (sym (made_grant boot given floor (row_of (store_with_rows boot given floor) t)) ∙ h))
  process_quiet (Remakes i boot given floor) (Up own below node waiting) at off = stays (Up own below node waiting)
  process_quiet (Enrols i u floor) (Down store) at off =
      cond_both (may_enrol setting u store) (Down (store_with_row u floor store)) (Down store) (Quiet (Down store)) (λ _. enrolled_grant x u floor store at.0 t) (λ _. stays (Down store))
  process_quiet (Enrols i u floor) (Up own below node waiting) at off = stays (Up own below node waiting)
  process_quiet (Unlocks i u) (Down store) at off = λ y h. sym (unlocked_grant store.content (row_of store u) (row_of store t)) ∙ h
  process_quiet (Unlocks i u) (Up own below node waiting) at off = stays (Up own below node waiting)
  process_quiet (OpensGate i u) (Down store) at off = stays (Down store)
  process_quiet (OpensGate i u) (Up terms below node waiting) at off = under_both x terms below node at.0 (state_unlocked (number_to_unlock terms u node) node).content t off
  process_quiet (Raises i u floor) (Down store) at off = λ y h. sym (raised_grant store.content floor (row_of store u) (row_of store t)) ∙ h
  process_quiet (Raises i u floor) (Up own below node waiting) at off = stays (Up own below node waiting)

-- the row gets no grant in any action
pub action_quiet : (setting : Setting) (e : ℕ) (d : Action) (state : State) (j t : ℕ) (sent : List Envelope) (x : Site) → IsAt sent (state.lost j) x (state.processes j) → Unseated (state.processes j) t
    → NoGrant (row_for (store_at (state.processes j)) t) (row_for (store_at ((state_after_action setting e d state).processes j)) t)
unfolding state_after_action
action_quiet setting e d state j t sent x at off =
    let k = node_of_action d in
    let old = row_for (store_at (state.processes j)) t in
    cond_both (can_be setting state d) (state_with setting e d (state.processes k) state) state (λ (z : State). NoGrant old (row_for (store_at (z.processes j)) t))
    (λ _. cond_both (eqb j k) (process_after setting e d (state.processes k)) (state.processes j) (λ p. NoGrant old (row_for (store_at p) t))
    (λ q. subst (λ m. NoGrant old (row_for (store_at (process_after setting e d (state.processes m))) t)) (eqb-true j k q) (process_quiet setting e sent (state.lost j) x t d (state.processes j) at off))
    (λ _ y h. h))
    (λ _ y h. h)

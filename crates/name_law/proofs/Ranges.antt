-- Each envelope that a process offers has a spelling, in every history whose floors and books are in range.
use Rattle.std.proofs.Common.{◌≡◌, ℕ, zero, suc, ◌^◌, ◌≤◌, Bool, true, false, ◌&&◌, List, [], ◌∷◌, length, map, get_or, Option, Some, None, refl, sym, ◌∙◌, subst, arith, eqb, leb, ltb}
use Rattle.std.specs.Prelude.{slice_set}
use Rattle.std.proofs.lemmas.Bool.{and_parts, cond_both, eqb-true, leb-true, ltb-true}
use Rattle.std.proofs.lemmas.List.{length-map}
use Rattle.floor_store.specs.Content.{Content, opening_row, with_row}
use Rattle.floor_store.specs.Records.{RowRecord}
use Rattle.otp_core.specs.Gate.{clear_gate}
use Rattle.seated_store.specs.Seats.{row_at, seated_rows}
use Rattle.vote_core.proofs.Basics.{Each, each_append, each_get_or, put_size}
use Rattle.vote_core.specs.Rows.{no_row, row, row_with_gate, row_with_next}
use Rattle.vote_core.specs.Schedule.{is_member, last_boot}
use Rattle.vote_core.specs.State.{IsPlace}
use Rattle.vote_core.specs.Voting.{raise}
use Rattle.vote_core.specs.declared.message.Message.{Message}
use Rattle.oath_node.specs.Machine.{NodeEvent, NodeState, Reply, opened_node}
use Rattle.cluster_sim.specs.World.{Answer, told_reply}
use Rattle.cluster_sim.proofs.BelowLaws.{GroundLaw}
use Rattle.cluster_sim.proofs.Spelled.{IsFine, IsFineEvent, IsFineMade, IsSpelledFrom, after_fine}
use Rattle.seat_law.specs.Seats.{seat_name}
use Rattle.book_law.specs.Lives.{Action, Opens, FailsToOpen, Takes, Offers, Stops, StopsIn, Loses, Remakes, Enrols, Unlocks, OpensGate, Raises, Output, Process, Sealed, Setting, State, Store, Terms, ToClient, ToPeer, Down, Up, can_be, content_raised, content_unlocked, do_fit, has_store, made_by_input, may_enrol, node_of_action, number_to_unlock, offers_by, place_in, places_of, process_after, process_half_opened, process_opened, row_of, rows_under, sealed_from, seen_in, state_after_action, state_unlocked, state_with, store_at, store_in_next_boot, store_under, store_with_row}
use Rattle.name_law.specs.Datagrams.{IsSpelled}
use Rattle.name_law.specs.Unforged.{IsUnforgedAction}
use Rattle.name_law.proofs.Names.{spelled_named}

-- ---- rows

abbrev pub HasNext : RowRecord → Type 0
HasNext r = r.next ≤ 2 ^ 62

abbrev pub AreRows : List RowRecord → Type 0
AreRows rows = Each HasNext rows

each_of : {A : Type 0} (P : A → Type 0) (xs : List A) (d : A) → ((i : ℕ) → P (get_or xs i d)) → Each P xs
each_of P [] d f = tt
each_of P (x ∷ xs) d f = (f 0, each_of P xs d (λ i. f (suc i)))

each_set : {A : Type 0} (P : A → Type 0) (xs : List A) (i : ℕ) (y : A) → Each P xs → P y → Each P (slice_set xs i y)
each_set P [] i y h k = tt
each_set P (x ∷ xs) zero y h k = (k, h.1)
each_set P (x ∷ xs) (suc i) y h k = (h.0, each_set P xs i y h.1 k)

a_row : (rows : List RowRecord) (i : ℕ) → AreRows rows → HasNext (get_or rows i no_row)
a_row rows i h = each_get_or HasNext rows i no_row h (omega arith)

seen_rows : (seats : List ℕ) (rows : List RowRecord) → AreRows rows → AreRows (seated_rows seats rows)
seen_rows [] rows h = tt
seen_rows (seat ∷ seats) rows h = (each_get_or HasNext rows seat (opening_row 0) h (omega arith), seen_rows seats rows h)

under_rows : (places : List ℕ) (seen below : List RowRecord) → AreRows seen → AreRows below → AreRows (rows_under places seen below)
under_rows [] seen below h k = k
under_rows (place ∷ places) [] below h k = k
under_rows (place ∷ places) (one ∷ seen) below h k = each_set HasNext (rows_under places seen below) place one (under_rows places seen below h.1 k) h.0

opening_rows : (given : List ℕ) (floor : ℕ → ℕ) → ((token : ℕ) → floor token ≤ 2 ^ 62) → AreRows (map opening_row (map floor given))
opening_rows [] floor h = tt
opening_rows (token ∷ given) floor h = (h token, opening_rows given floor h)

unlocked_rows : (o : Option ℕ) (content : Content) → AreRows content.rows → AreRows (content_unlocked o content).rows
unlocked_rows None content h = h
unlocked_rows (Some number) content h = each_set HasNext content.rows number (row_with_gate clear_gate (row content number)) h (a_row content.rows number h)

raised_rows : (o : Option ℕ) (floor : ℕ) (content : Content) → floor ≤ 2 ^ 62 → AreRows content.rows → AreRows (content_raised o floor content).rows
unfolding raise
raised_rows None floor content small h = h
raised_rows (Some number) floor content small h =
    cond_both (ltb (row content number).next floor) (with_row content number (row_with_next floor (row content number)) None) content (λ (d : Content). AreRows d.rows)
    (λ _. each_set HasNext content.rows number (row_with_next floor (row content number)) h small) (λ _. h)

-- ---- outputs

abbrev pub IsSpelledOut : Output → Type 0
IsSpelledOut (ToPeer sealed) = IsSpelled sealed.envelope
IsSpelledOut (ToClient answer) = Unit {0}

sent_spelled : (terms : Terms) (node : ℕ) (sends : List (ℕ × Message)) → Each (IsSpelledFrom node) sends → Each IsSpelledOut (map (λ (sealed : Sealed). ToPeer sealed) (map (sealed_from terms node) sends))
sent_spelled terms node [] h = tt
sent_spelled terms node (send ∷ sends) h = (spelled_named node send.0 (seat_name terms.seats) send.1 h.0, sent_spelled terms node sends h.1)

told_spelled : (event node : ℕ) (replies : List Reply) → Each IsSpelledOut (map (λ (answer : Answer). ToClient answer) (map (told_reply event node) replies))
told_spelled event node [] = tt
told_spelled event node (reply ∷ replies) = (tt, told_spelled event node replies)

-- ---- processes

-- a process whose book, rows and outputs are in range
pub record IsFineUp (terms : Terms) (below : Store) (state : NodeState) (waiting : List Output) : Type 0 where
  pub few : length terms.config.book ≤ 10000
  pub fits : do_fit terms below ≡ true
  pub rows : AreRows below.content.rows
  pub fine : IsFine state.content state.voter
  pub waiting_spelled : Each IsSpelledOut waiting

abbrev pub IsFineProcess : Process → Type 0
IsFineProcess (Down store) = AreRows store.content.rows
IsFineProcess (Up terms below state waiting) = IsFineUp terms below state waiting

pub record IsFineState (state : State) : Type 0 where
  pub nodes : (node : ℕ) → IsFineProcess (state.processes node)
  pub offered_spelled : Each IsSpelledOut state.offered

content_rows : (content : Content) → ((t : ℕ) → (row content t).next ≤ 2 ^ 62) → AreRows content.rows
content_rows content h = each_of HasNext content.rows no_row h

unlocked_fine : (o : Option ℕ) (state : NodeState) → IsFine state.content state.voter → IsFine (state_unlocked o state).content (state_unlocked o state).voter
unlocked_fine None state h = h
unlocked_fine (Some number) state h = record {
  boot = h.boot;
  next = λ t. a_row (content_unlocked (Some number) state.content).rows t (unlocked_rows (Some number) state.content (content_rows state.content h.next));
  tokens = subst (λ n. n ≤ 10000) (sym (put_size state.content number (row_with_gate clear_gate (row state.content number)) None)) h.tokens;
  seq = h.seq;
  pending = h.pending;
}

left_rows : (terms : Terms) (below : Store) (content : Content) → AreRows below.content.rows → ((t : ℕ) → (row content t).next ≤ 2 ^ 62) → AreRows (store_under terms.seats content below).content.rows
left_rows terms below content h next = under_rows (places_of below terms.seats) content.rows below.content.rows (content_rows content next) h

store_rows : (p : Process) → IsFineProcess p → AreRows (store_at p).content.rows
store_rows (Down store) h = h
store_rows (Up terms below state waiting) h = left_rows terms below state.content h.rows h.fine.next

-- the terms of a process have a seat for each row of its book
pub seats_few : (terms : Terms) (store : Store) → length terms.config.book ≤ 10000 → do_fit terms store ≡ true → length terms.seats ≤ 10000
seats_few terms store few fits =
    let same = eqb-true (length terms.seats) (length terms.config.book) (and_parts (eqb (length terms.seats) (length terms.config.book)) _ fits).0 in omega (arith, same, few)

opened_fine : (terms : Terms) (store : Store) → length terms.config.book ≤ 10000 → AreRows store.content.rows → IsFineProcess (process_opened terms store)
opened_fine terms store few h =
    cond_both (do_fit terms store && ltb store.content.boot last_boot) (Up terms store (opened_node (seen_in store terms.seats)) []) (Down store) IsFineProcess
    (λ q.
    let parts = and_parts (do_fit terms store) (ltb store.content.boot last_boot) q in
    let low = ltb-true store.content.boot last_boot parts.1 in
    let places = places_of store terms.seats in
    let many : length (seated_rows places store.content.rows) ≡ length terms.seats = length-map places (row_at store.content.rows) ∙ length-map terms.seats _ in
    let seats = seats_few terms store few parts.0 in
    record {
      few = few;
      fits = parts.0;
      rows = h;
      fine = record {
        boot = omega (arith, low);
        next = λ t. a_row (seated_rows places store.content.rows) t (seen_rows places store.content.rows h);
        tokens = omega (arith, many, seats);
        seq = omega arith;
        pending = tt;
      };
      waiting_spelled = tt;
    })
    (λ _. h)

half_fine : (raised : Bool) (store : Store) → AreRows store.content.rows → IsFineProcess (process_half_opened raised store)
half_fine false store h = h
half_fine true store h = cond_both (ltb store.content.boot last_boot) (Down (store_in_next_boot store)) (Down store) IsFineProcess (λ _. h) (λ _. h)

-- the input of a node's process is in range
abbrev pub IsFineInput : Process → NodeEvent → Type 0
IsFineInput (Down store) input = Unit {0}
IsFineInput (Up terms below state waiting) input = IsFineEvent input

-- the input of an action is in range
abbrev pub IsFineTake : State → Action → Type 0
IsFineTake state (Takes node input) = IsFineInput (state.processes node) input
IsFineTake state (StopsIn node kept input) = IsFineInput (state.processes node) input
IsFineTake state action = Unit {0}

is_place : (setting : Setting) (state : State) (node : ℕ) → setting.n ≤ 9 → has_store setting state node ≡ true → IsPlace (place_in setting node)
is_place setting state node few can =
    let member = (and_parts _ (is_member setting.n node) can).1 in
    let parts = and_parts (leb 1 node) (leb node setting.n) member in
    record { first = leb-true 1 node parts.0; last = leb-true node setting.n parts.1; few = few }

made_fine : GroundLaw → (setting : Setting) (node : ℕ) (terms : Terms) (below : Store) (state : NodeState) (waiting : List Output) (input : NodeEvent) → IsPlace (place_in setting node) → IsFineUp terms below state waiting → IsFineEvent input
    → IsFineMade node (made_by_input setting terms node input state)
made_fine grounds setting node terms below state waiting input place h ok = after_fine grounds terms.config (place_in setting node) state input h.few place h.fine ok

module _ (grounds : GroundLaw) (setting : Setting) (few : setting.n ≤ 9) (names : List (List ℕ)) (event : ℕ) (state : State) where
  process_fine : (action : Action) (p : Process) → state.processes (node_of_action action) ≡ p → IsFineProcess p → can_be setting state action ≡ true → IsUnforgedAction names state action → IsFineTake state action
      → IsFineProcess (process_after setting event action p)
  process_fine (Opens node terms) (Down store) is h can un ok = opened_fine terms store un h
  process_fine (Opens node terms) (Up own below s waiting) is h can un ok = h
  process_fine (FailsToOpen node raised) (Down store) is h can un ok = half_fine raised store h
  process_fine (FailsToOpen node raised) (Up own below s waiting) is h can un ok = h
  process_fine (Takes node input) (Down store) is h can un ok = h
  process_fine (Takes node input) (Up terms below s waiting) is h can un ok =
      let m = made_fine grounds setting node terms below s waiting input (is_place setting state node few can) h (subst (λ p. IsFineInput p input) is ok) in
      record {
        few = h.few;
        fits = h.fits;
        rows = h.rows;
        fine = m.fine;
        waiting_spelled = each_append IsSpelledOut waiting _ h.waiting_spelled
            (each_append IsSpelledOut (map (λ (sealed : Sealed). ToPeer sealed) (map (sealed_from terms node) (made_by_input setting terms node input s).sends)) _
            (sent_spelled terms node _ m.sends) (told_spelled event node (made_by_input setting terms node input s).replies));
      }
  process_fine (Offers node) (Down store) is h can un ok = h
  process_fine (Offers node) (Up terms below s []) is h can un ok = h
  process_fine (Offers node) (Up terms below s (output ∷ waiting)) is h can un ok =
      record { few = h.few; fits = h.fits; rows = h.rows; fine = h.fine; waiting_spelled = h.waiting_spelled.1 }
  process_fine (Stops node) (Down store) is h can un ok = h
  process_fine (Stops node) (Up terms below s waiting) is h can un ok = left_rows terms below s.content h.rows h.fine.next
  process_fine (StopsIn node kept input) (Down store) is h can un ok = h
  process_fine (StopsIn node false input) (Up terms below s waiting) is h can un ok = left_rows terms below s.content h.rows h.fine.next
  process_fine (StopsIn node true input) (Up terms below s waiting) is h can un ok =
      let m = made_fine grounds setting node terms below s waiting input (is_place setting state node few can) h (subst (λ p. IsFineInput p input) is ok) in
      left_rows terms below (made_by_input setting terms node input s).state.content h.rows m.fine.next
  process_fine (Loses node) (Down store) is h can un ok = h
  process_fine (Loses node) (Up terms below s waiting) is h can un ok = left_rows terms below s.content h.rows h.fine.next
  process_fine (Remakes node boot given floor) (Down store) is h can un ok = opening_rows given floor un
  process_fine (Remakes node boot given floor) (Up own below s waiting) is h can un ok = h
  process_fine (Enrols node token floor) (Down store) is h can un ok =
      cond_both (may_enrol setting token store) (Down (store_with_row token floor store)) (Down store) IsFineProcess
      (λ _. each_append HasNext store.content.rows (opening_row floor ∷ []) h (un, tt)) (λ _. h)
  process_fine (Enrols node token floor) (Up own below s waiting) is h can un ok = h
  process_fine (Unlocks node token) (Down store) is h can un ok = unlocked_rows (row_of store token) store.content h
  process_fine (OpensGate node token) (Down store) is h can un ok = h
  process_fine (Unlocks node token) (Up own below s waiting) is h can un ok = h
  process_fine (OpensGate node token) (Up own below s waiting) is h can un ok =
      record { few = h.few; fits = h.fits; rows = h.rows; fine = unlocked_fine (number_to_unlock own token s) s h.fine; waiting_spelled = h.waiting_spelled }
  process_fine (Raises node token floor) (Down store) is h can un ok = raised_rows (row_of store token) floor store.content un h
  process_fine (Raises node token floor) (Up own below s waiting) is h can un ok = h

  offers_fine : (action : Action) (p : Process) → IsFineProcess p → Each IsSpelledOut (offers_by action p)
  offers_fine (Offers node) (Up terms below s []) h = tt
  offers_fine (Offers node) (Up terms below s (output ∷ waiting)) h = (h.waiting_spelled.0, tt)
  offers_fine (Offers node) (Down store) h = tt
  offers_fine (Opens node terms) p h = tt
  offers_fine (FailsToOpen node raised) p h = tt
  offers_fine (Takes node input) p h = tt
  offers_fine (Stops node) p h = tt
  offers_fine (StopsIn node kept input) p h = tt
  offers_fine (Loses node) p h = tt
  offers_fine (Remakes node boot given floor) p h = tt
  offers_fine (Enrols node token floor) p h = tt
  offers_fine (Unlocks node token) p h = tt
  offers_fine (OpensGate node token) p h = tt
  offers_fine (Raises node token floor) p h = tt

  pub step_fine : (action : Action) → IsFineState state → IsUnforgedAction names state action → IsFineTake state action → IsFineState (state_after_action setting event action state)
  unfolding state_after_action
  step_fine action h un ok =
      let i = node_of_action action in
      let p = state.processes i in
      cond_both (can_be setting state action) (state_with setting event action p state) state IsFineState
      (λ can. record {
        nodes = λ node. cond_both (eqb node i) (process_after setting event action p) (state.processes node) IsFineProcess
            (λ _. process_fine action p refl (h.nodes i) can un ok) (λ _. h.nodes node);
        offered_spelled = each_append IsSpelledOut state.offered (offers_by action p) h.offered_spelled (offers_fine action p (h.nodes i));
      })
      (λ _. h)

-- A process that clears a gate for an operator does an event of the votes, and a call of Node::open_gate is that.
use Rattle.std.proofs.Common.{◌≡◌, ℕ, ◌<◌, ◌⊎◌, inl, inr, ⊎_elim, true, false, cond, ◌&&◌, List, [], ◌++◌, length, Option, Some, None, refl, sym, ap, ◌∙◌, subst, eqb, ltb}
use Rattle.std.specs.Prelude.{Result, Ok, IfErr, OnOk}
use Rattle.std.specs.List.{slice_get}
use Rattle.std.proofs.lemmas.Bool.{and_from, and_parts, cases_Bool, cond_both, cond-true, eq-eqb, lt-ltb}
use Rattle.std.proofs.lemmas.List.{append-nil}
use Rattle.std.proofs.lemmas.Option.{get_or_from_slice_get, none-some, slice_get_within}
use Rattle.otp_core.specs.Acceptance.{Acceptance}
use Rattle.otp_core.specs.Gate.{clear_gate}
use Rattle.floor_store.specs.Content.{Content}
use Rattle.floor_store.specs.Held.{Held, IsSettled}
use Rattle.floor_store.specs.Records.{PassRecord}
use Rattle.vote_core.specs.Books.{Shuts, are_apart, number_of, rows_of}
use Rattle.vote_core.specs.Roster.{Roster}
use Rattle.vote_core.specs.Rows.{row, row_with_gate}
use Rattle.vote_core.specs.Schedule.{Cluster, Member, cluster_after, content_with_gate, has_store as has_site, is_running}
use Rattle.vote_core.specs.Voting.{quiet_step}
use Rattle.vote_core.proofs.Basics.{Each, each_append, put_size}
use Rattle.vote_core.proofs.Envelopes.{Posts}
use Rattle.vote_core.proofs.Names.{not_eqb}
use Rattle.oath_node.specs.Calls.{FailsToCommit}
use Rattle.oath_node.specs.Hosted.{Hosted, state_of}
use Rattle.oath_node.specs.Machine.{NodeState}
use Rattle.oath_node.specs.Unlocking.{UnlocksNode, unlocked_node}
use Rattle.oath_node.specs.declared.fault.NodeFault.{NodeFault}
use Rattle.seat_law.specs.Below.{site_of}
use Rattle.seat_law.specs.Seats.{Runs, Sites, after_course, seat_name, with_own}
use Rattle.seat_law.proofs.Relation.{Sim, number_there}
use Rattle.book_law.specs.Lives.{OpensGate, Output, Process, Setting, State, Store, Terms, Up, do_fit, has_store, number_to_unlock, process_after, state_unlocked}
use Rattle.book_law.proofs.Actions.{changed}
use Rattle.book_law.proofs.Effects.{HasSent, IsSent, member_with, own_number}
use Rattle.book_law.proofs.Fits.{Fits, IsAt, Next, by_course, has_own, set_at}
use Rattle.book_law.proofs.Opened.{IsOpen, seen_size, step_open}

-- the number whose gate is cleared is the process's own
pub number_is_own : (terms : Terms) (t k : ℕ) (node : NodeState) → number_to_unlock terms t node ≡ Some k → number_of (length terms.seats) (seat_name terms.seats) t ≡ Some k
number_is_own terms t k node is =
    let number = number_of (length terms.seats) (seat_name terms.seats) t in
    cond_both node.running number None (λ o. o ≡ Some k → number ≡ Some k) (λ _ q. q) (λ _ q. absurd (none-some k q)) is

module _ (setting : Setting) (e i : ℕ) (terms : Terms) (below : Store) (node : NodeState) (waiting : List Output) (t k : ℕ)
    (state : State) (s : Sites) (r : Roster) (sim : Sim s r) (posts : Posts s.seen.tokens r.cluster) (fits : Fits setting state s)
    (can : has_store setting state i ≡ true) (at : IsAt s.seen.own.sent (state.lost i) (site_of s i) (Up terms below node waiting))
    (found : number_of (length terms.seats) (seat_name terms.seats) t ≡ Some k) where
  abbrev new : NodeState
  new = unlocked_node k node

  abbrev own : Cluster
  own = cluster_after e i (quiet_step new.content new.voter) s.seen.own

  abbrev after : Sites
  after = with_own own s

  open_now : IsOpen (site_of s i) terms below node
  open_now = at.0

  runs : is_running s.seen.own i ≡ true
  runs = and_from (has_site s.seen.own i) (s.seen.own.nodes i).running (has_own setting state s i fits can) (ap (λ (m : Member). m.running) open_now.member)

  within : k < length node.content.rows
  within = let size = seen_size open_now in subst (λ m. k < m) (sym size) (number_there (length terms.seats) (seat_name terms.seats) t k found).0

  ran : after_course e (Runs (Shuts i k clear_gate)) s ≡ after
  unfolding after_course
  ran =
      let put : Member → Cluster = λ m. cluster_after e i (quiet_step (content_with_gate k clear_gate m.content) m.voter) s.seen.own in
      ap (λ w. with_own w s)
      (cond-true (is_running s.seen.own i && ltb k (rows_of s.seen i)) (put (s.seen.own.nodes i)) s.seen.own
      (and_from (is_running s.seen.own i) (ltb k (rows_of s.seen i)) runs
      (ap (λ (m : Member). ltb k (length m.content.rows)) open_now.member ∙ lt-ltb k (length node.content.rows) within))
      ∙ ap put open_now.member)

  size : length new.content.rows ≡ length node.content.rows
  size = put_size node.content k (row_with_gate clear_gate (row node.content k)) None

  here : own.nodes i ≡ member_with new.content new.voter
  unfolding cluster_after
  here = cond-true (eqb i i) (member_with new.content new.voter) (s.seen.own.nodes i) (eq-eqb i i refl)

  others : (j : ℕ) → (j ≡ i → ⊥) → own.nodes j ≡ s.seen.own.nodes j
  unfolding cluster_after
  others j ne = ap (λ b. cond b (member_with new.content new.voter) (s.seen.own.nodes j)) (not_eqb j i ne)

  sent : own.sent ≡ s.seen.own.sent
  unfolding cluster_after
  sent = append-nil s.seen.own.sent

  accepted : own.accepted ≡ s.seen.own.accepted
  unfolding cluster_after
  accepted = append-nil s.seen.own.accepted

  still_open : (r' : Roster) → Sim after r' → IsOpen (site_of after i) terms below new
  still_open r' sim' =
      step_open (site_of s i) terms below node open_now (site_of after i) new refl refl refl refl here size
      (subst (λ (m : Member). (pass : PassRecord) → m.content.last ≡ Some pass → pass.token < length m.content.rows) here (sim'.nodes i).content.last_known)
      (λ none. none)

  abbrev unlocked : State
  unlocked = changed i (Up terms below new waiting) [] state

  after_fits : (r' : Roster) → Sim after r' → Fits setting unlocked after
  unfolding cluster_after
  after_fits r' sim' = record {
    tokens = fits.tokens;
    n = fits.n;
    lost = fits.lost;
    least = fits.least;
    begun = fits.begun;
    accepted = accepted ∙ fits.accepted;
    offered = subst (λ l. Each (IsSent l) (state.offered ++ [])) (sym sent) (each_append (IsSent s.seen.own.sent) state.offered [] fits.offered tt);
    nodes = set_at (λ j q. IsAt own.sent (state.lost j) (site_of after j) q) i (Up terms below new waiting) state.processes
        (still_open r' sim', subst (λ l. Each (IsSent l) waiting) (sym sent) at.1, at.2)
        (λ j ne.
        subst (λ l. IsAt l (state.lost j) (site_of after j) (state.processes j)) (sym sent)
        (subst (λ m. IsAt s.seen.own.sent (state.lost j) (record (site_of s j) { member = m }) (state.processes j)) (sym (others j ne)) (fits.nodes j)));
  }

  pub opens_gate : (Q : Acceptance → Type 0) → Next setting e r unlocked Q
  opens_gate Q =
      by_course setting e s r unlocked Q sim posts (Runs (Shuts i k clear_gate)) after ran refl (λ q h. absurd h)
      (λ l h. subst (λ sent. HasSent sent l) (sym sent) h) after_fits

-- ---- a call of open_gate

-- a machine that runs has the number for the token of its seat
pub number_of_seat : (terms : Terms) (found : Store) → do_fit terms found ≡ true → (number t : ℕ) → slice_get terms.seats number ≡ Some t → (s : NodeState) → s.running ≡ true → number_to_unlock terms t s ≡ Some number
number_of_seat terms found fits number t seat s runs =
    let named : ℕ → Option ℕ = number_of (length terms.seats) (seat_name terms.seats) in
    let apart = (and_parts (are_apart (length terms.seats) (seat_name terms.seats)) _ (and_parts (eqb (length terms.seats) (length terms.config.book)) _ fits).1).0 in
    cond-true s.running (named t) None runs
    ∙ ap named (sym (get_or_from_slice_get terms.seats number t 0 seat))
    ∙ own_number terms.seats number apart (slice_get_within terms.seats number t seat)

module _ {S A : Type 0} (held : S → Held) (setting : Setting) (e i : ℕ) (terms : Terms) (found : Store) (waiting : List Output) (old new : Hosted S) (number t : ℕ) (result : Result A NodeFault)
    (fits : do_fit terms found ≡ true) (seat : slice_get terms.seats number ≡ Some t) (u : UnlocksNode held old new number result) (clean : (held new.store).is_clean) where
  abbrev before : NodeState
  before = state_of held old

  -- a node that runs has the number for the token
  to_unlock : old.running ≡ true → number_to_unlock terms t before ≡ Some number
  to_unlock runs = number_of_seat terms found fits number t seat before runs

  abbrev acted : Process
  acted = process_after setting e (OpensGate i t) (Up terms found before waiting)

  -- the process with the machine of a content
  abbrev with_content : Content → Process
  with_content content = Up terms found (record before { content = content }) waiting

  acts : old.running ≡ true → acted ≡ with_content (unlocked_node number before).content
  acts runs = ap (λ o. Up terms found (state_unlocked o before) waiting) (to_unlock runs)

  pub call_acts : (value : A) → result ≡ Ok value → acted ≡ Up terms found (state_of held new) waiting
  call_acts value is =
      let runs = subst (λ r. OnOk r ((old.running ≡ true) × (new.running ≡ true))) is u.runs in
      let state = subst (λ r. OnOk r (state_of held new ≡ unlocked_node number before)) is (u.state clean) in
      acts runs.0 ∙ ap (λ s. Up terms found s waiting) (sym state)

  -- a stop leaves the content before, or the action's
  pub stop_acts : IsSettled (held old.store) → (content : Content) → (held new.store).leaves content → (content ≡ (held old.store).content) ⊎ (acted ≡ with_content content)
  stop_acts settled content leaves =
      ⊎_elim
      (λ (runs : old.running ≡ true).
      ⊎_elim (λ (was : (held old.store).leaves content). inl (settled content was))
      (λ (is : content ≡ (unlocked_node number before).content). inr (acts runs ∙ ap with_content (sym is)))
      (u.writes.left clean content leaves))
      (λ (stopped : old.running ≡ false).
      let same = (subst (λ r. IfErr r (FailsToCommit held old new)) (u.stopped.1 stopped) u.fails).1 in
      inl (settled content (subst (λ (node : Hosted S). (held node.store).leaves content) same leaves)))
      (cases_Bool old.running)

-- The line with which it began justifies each acceptance, by the terms of its process.
use Rattle.std.proofs.Common.{◌≡◌, ℕ, ℤ, zero, suc, ◌<◌, true, false, List, [], ◌∷◌, length, take, Option, Some, None, refl, sym, ap, ◌∙◌, subst}
use Rattle.std.specs.List.{slice_get}
use Rattle.std.proofs.lemmas.Option.{slice_get-get_or}
use Rattle.otp_core.specs.Acceptance.{Acceptance}
use Rattle.admit_core.specs.Fit.{IsLeastFit}
use Rattle.admit_core.specs.Throttle.{Result, gate_after}
use Rattle.floor_store.specs.Records.{RowRecord}
use Rattle.vote_core.specs.Rows.{row}
use Rattle.vote_core.specs.Schedule.{Cluster}
use Rattle.oath_node.specs.Machine.{NodeEvent, NodeState, Client, Peer, Tick}
use Rattle.cluster_sim.proofs.BelowLaws.{GateLaw, GroundLaw, VoteLaw}
use Rattle.cluster_sim.proofs.Gates.{open_by_list}
use Rattle.seat_law.specs.Below.{site_of}
use Rattle.seat_law.specs.Seats.{seat_name}
use Rattle.book_law.specs.Justified.{IsGroundInAction, IsGroundOfInput, IsGroundUnder, JustifiesAll, drift_in_row, drift_of}
use Rattle.book_law.specs.Lives.{Action, Opens, FailsToOpen, Takes, Offers, Stops, StopsIn, Loses, Remakes, Enrols, Unlocks, OpensGate, Raises, AreGenuine, IsHistory, Output, Process, Setting, State, Store, Terms, Down, Up, accepted_in, first_state, floor_in_row, floor_of, places_of, row_of, state_after_action, state_of, store_at, store_under}
use Rattle.book_law.specs.Results.{results_in}
use Rattle.book_law.proofs.Effects.{Fitted}
use Rattle.book_law.proofs.Fits.{IsAt}
use Rattle.book_law.proofs.Opened.{IsOpen}
use Rattle.book_law.proofs.Results.{Gated, IsGatedAt, history_gated, open_row, place_row}
use Rattle.book_law.proofs.Walk.{FittedAt, Holds, IsFittedThere, fitted_there, holds_before}

-- the actions before one of a history are a history
genuine_before : (setting : Setting) (k first : ℕ) (history : List Action) (state : State) → AreGenuine setting first history state → AreGenuine setting first (take k history) state
unfolding AreGenuine
genuine_before setting zero first [] state g = tt
genuine_before setting zero first (d ∷ history) state g = tt
genuine_before setting (suc k) first [] state g = tt
genuine_before setting (suc k) first (d ∷ history) state g = (g.0, genuine_before setting k (suc first) history (state_after_action setting first d state) g.1)

pub history_before : (setting : Setting) (history : List Action) (k : ℕ) → IsHistory setting history → IsHistory setting (take k history)
history_before setting history k g = record { starts = g.starts; genuine = genuine_before setting k 0 history (first_state setting) g.genuine }

-- ---- a line

module _ (gates : GateLaw) (i : ℕ) (terms : Terms) (below : Store) (node : NodeState) (input : NodeEvent) (p : Acceptance) (results : List Result) (f : Fitted terms node i input p) where
  abbrev m : ℕ
  m = f.number

  abbrev store : Store
  store = store_under terms.seats node.content below

  -- the row of the acceptance's token is the one that the process sees
  ground_of : (next : ℕ) (drift : ℤ) → (row node.content m).next ≡ next → (row node.content m).drift ≡ drift → length terms.seats ≡ length terms.config.book
      → (row node.content m).gate ≡ gate_after results → IsGroundUnder terms f.moment f.text next drift results p
  ground_of next drift floor kept book same = record {
    number = m;
    seat = slice_get-get_or terms.seats m 0 (subst (λ n. m < n) (sym book) f.fits.within) ∙ ap Some f.token;
    ground = record {
      request = f.fits.request;
      grammar = f.fits.grammar;
      credential = f.fits.credential;
      is_token = f.fits.is_token;
      user = f.fits.user;
      entitled = record {
        in_range = f.fits.in_range;
        password = f.fits.password;
        is_open = open_by_list gates results (row node.content m).gate f.moment same f.fits.is_open;
        fit = subst (λ d. IsLeastFit f.fits.credential terms.config.limits next d f.moment f.fits.request.submission p.lo p.hi) kept
            (subst (λ n. IsLeastFit f.fits.credential terms.config.limits n (row node.content m).drift f.moment f.fits.request.submission p.lo p.hi) floor f.fits.fit);
      };
    };
  }

-- the input of a process, by what its store and its results were
input_back : GateLaw → (i : ℕ) (process : Process) (input : NodeEvent) (p : Acceptance) (results : ℕ → List Result) → ((terms : Terms) (below : Store) (node : NodeState) (waiting : List Output) → process ≡ Up terms below node waiting
    → (x : _) × IsOpen x terms below node) → IsGatedAt results (store_at process) → FittedAt process i input p
    → IsGroundOfInput process (floor_of (store_at process) p.token) (drift_of (store_at process) p.token) (results p.token) p i input
input_back gates i (Down store) input p results opened g f = absurd f
input_back gates i (Up terms below node waiting) (Client client moment line) p results opened g f =
    let h = (opened terms below node waiting refl).1 in
    let x = (opened terms below node waiting refl).0 in
    let low : f.number < length terms.seats = subst (λ n. f.number < n) (sym h.book) f.fits.within in
    let same = open_row x terms below node h f.number low in
    let found : row_of below p.token ≡ Some (seat_name (places_of below terms.seats) f.number) = ap (row_of below) (sym f.token) ∙ place_row x terms below node h f.number low in
    let content = (store_under terms.seats node.content below).content in (
      f.node,
      line_is client moment line (f.is_line)
          (ground_of gates i terms below node (Client client moment line) p (results p.token) f (floor_in_row content (row_of below p.token)) (drift_in_row content (row_of below p.token))
          (ap (λ (r : RowRecord). r.next) same ∙ ap (floor_in_row content) (sym found)) (ap (λ (r : RowRecord). r.drift) same ∙ ap (drift_in_row content) (sym found)) h.book
          (ap (λ (r : RowRecord). r.gate) same ∙ g.gates p.token (seat_name (places_of below terms.seats) f.number) found)),
    )
  where
    same_moment : (c m : ℕ) (l : List ℕ) (c' m' : ℕ) (l' : List ℕ) → Client c m l ≡ Client c' m' l' → m ≡ m'
    same_moment c m l c' m' l' e = cc

    same_line : (c m : ℕ) (l : List ℕ) (c' m' : ℕ) (l' : List ℕ) → Client c m l ≡ Client c' m' l' → l ≡ l'
    same_line c m l c' m' l' e = cc

    line_is : (c m : ℕ) (l : List ℕ) {c' m' : ℕ} {l' : List ℕ} {next : ℕ} {drift : ℤ} {rs : List Result} → Client c m l ≡ Client c' m' l' → IsGroundUnder terms m' l' next drift rs p → IsGroundUnder terms m l next drift rs p
    line_is c m l {c'} {m'} {l'} {next} {drift} {rs} e h =
        subst (λ z. IsGroundUnder terms z l next drift rs p) (sym (same_moment c m l c' m' l' e)) (subst (λ z. IsGroundUnder terms m' z next drift rs p) (sym (same_line c m l c' m' l' e)) h)
input_back gates i (Up terms below node waiting) (Peer from read) p results opened g f = absurd (no_line f.client f.moment f.text f.is_line)
  where
    no_line : (c m : ℕ) (l : List ℕ) → Peer from read ≡ Client c m l → ⊥
    no_line c m l e = cc
input_back gates i (Up terms below node waiting) Tick p results opened g f = absurd (no_line f.client f.moment f.text f.is_line)
  where
    no_line : (c m : ℕ) (l : List ℕ) → Tick ≡ Client c m l → ⊥
    no_line c m l e = cc

-- ---- the action

module _ (gates : GateLaw) (setting : Setting) (state : State) (w : Cluster) (results : ℕ → ℕ → List Result) (holds : Holds setting state w) (gated : Gated state results) (p : Acceptance) where
  abbrev Ground : Option Action → Type 0
  Ground o = IsGroundInAction state (floor_of (store_at (state.processes p.node)) p.token) (drift_of (store_at (state.processes p.node)) p.token) (results p.node p.token) p o

  opened_at : (i : ℕ) (terms : Terms) (below : Store) (node : NodeState) (waiting : List Output) → state.processes i ≡ Up terms below node waiting → (x : _) × IsOpen x terms below node
  opened_at i terms below node waiting is = (site_of holds.sites i, (subst (IsAt holds.sites.seen.own.sent (state.lost i) (site_of holds.sites i)) is (holds.fits.nodes i)).0)

  input_ground : (i : ℕ) (input : NodeEvent) → FittedAt (state.processes i) i input p
      → IsGroundOfInput (state.processes i) (floor_of (store_at (state.processes p.node)) p.token) (drift_of (store_at (state.processes p.node)) p.token) (results p.node p.token) p i input
  input_ground i input f =
      subst (λ j. IsGroundOfInput (state.processes i) (floor_of (store_at (state.processes j)) p.token) (drift_of (store_at (state.processes j)) p.token) (results j p.token) p i input)
      (node_of (state.processes i) f)
      (input_back gates i (state.processes i) input p (results i) (opened_at i) (gated i) f)
    where
      node_of : (q : Process) → FittedAt q i input p → i ≡ p.node
      node_of (Down other) z = absurd z
      node_of (Up terms below node waiting) z = z.node

  pub action_back : (o : Option Action) → IsFittedThere state o p → Ground o
  action_back None f = absurd f
  action_back (Some (Opens i terms)) f = absurd f
  action_back (Some (FailsToOpen i raised)) f = absurd f
  action_back (Some (Takes i input)) f = input_ground i input f
  action_back (Some (Offers i)) f = absurd f
  action_back (Some (Stops i)) f = absurd f
  action_back (Some (StopsIn i true input)) f = input_ground i input f
  action_back (Some (StopsIn i false input)) f = absurd f
  action_back (Some (Loses i)) f = absurd f
  action_back (Some (Remakes i boot given floor)) f = absurd f
  action_back (Some (Enrols i t floor)) f = absurd f
  action_back (Some (Unlocks i t)) f = absurd f
  action_back (Some (OpensGate i t)) f = absurd f
  action_back (Some (Raises i t floor)) f = absurd f

pub justifies_all : GroundLaw → GateLaw → VoteLaw → (setting : Setting) (history : List Action) → IsHistory setting history → JustifiesAll setting history (accepted_in setting history)
justifies_all grounds gates votes setting history g i p at =
    let before = take p.began history in
    action_back gates setting (state_of setting before) _ (results_in setting before) (holds_before setting grounds votes history g p.began)
    (history_gated grounds gates setting before (history_before setting history p.began g)) p (slice_get history p.began) (fitted_there setting grounds votes history g i p at)

-- The results of a token are the acceptances and failures of the notes, unless something unlocks it.
use Rattle.std.proofs.Common.{◌≡◌, ℕ, suc, ◌<◌, ⊎_elim, Bool, true, false, cond, ◌&&◌, List, [], ◌∷◌, ◌++◌, length, Option, Some, None, refl, sym, ap, ◌∙◌, subst, eqb, ltb}
use Rattle.std.specs.List.{position_or_len}
use Rattle.std.specs.Option.{option_and_then, option_or}
use Rattle.std.specs.Prelude.{option_map}
use Rattle.std.proofs.lemmas.Bool.{cond_both, cond-false, eq-eqb, eqb-true, ltb-true}
use Rattle.std.proofs.lemmas.List.{length-map}
use Rattle.std.proofs.lemmas.Option.{none-some, same_Some}
use Rattle.admit_core.specs.Throttle.{Accepted, Failed, Result}
use Rattle.floor_store.specs.Content.{Content}
use Rattle.floor_store.specs.Records.{PassRecord}
use Rattle.seated_store.specs.Seats.{pass_above, token_of, with_token}
use Rattle.vote_core.specs.Books.{is_number, number_of}
use Rattle.vote_core.specs.Numbers.{named_pass}
use Rattle.vote_core.specs.Schedule.{Cluster, Member}
use Rattle.vote_core.proofs.Basics.{Each}
use Rattle.vote_core.proofs.Names.{not_eqb, same_or_not}
use Rattle.oath_node.specs.Machine.{Made, NodeEvent, NodeState}
use Rattle.cluster_sim.proofs.BelowLaws.{GroundLaw}
use Rattle.cluster_sim.specs.Results.{results_in as noted, results_with_failure, results_with_note, results_with_pass}
use Rattle.cluster_sim.specs.World.{note_anew}
use Rattle.seat_law.specs.Below.{Site, site_of}
use Rattle.seat_law.specs.Seats.{seat_name}
use Rattle.seat_law.proofs.Relation.{number_there}
use Rattle.book_law.specs.Lives.{Action, Opens, FailsToOpen, Takes, Offers, Stops, StopsIn, Loses, Remakes, Enrols, Unlocks, OpensGate, Raises, AreGenuine, IsGenuineAction, IsGenuineAt, IsHistory, Output, Process, Setting, State, Store, Terms, Down, Up, can_be, content_under, first_state, has_row, has_store, made_boot, made_by_input, named_failure, node_of_action, note_of_step, notes_by, number_to_unlock, place_in, places_of, state_after, state_after_action, state_with}
use Rattle.book_law.specs.Results.{LeaveGate, LeavesGate, results_after, results_after_action, results_by, results_in, results_of_number, results_of_step, with_results}
use Rattle.book_law.proofs.Actions.{opened_step}
use Rattle.book_law.proofs.Effects.{FloorsSent, HasSent, own_number}
use Rattle.book_law.proofs.Fits.{IsAt}
use Rattle.book_law.proofs.Floors.{FloorsSentBy, all_grow, told_may, told_of}
use Rattle.book_law.proofs.Keeps.{LowFailed, keeps}
use Rattle.book_law.proofs.Opened.{IsOpen}
use Rattle.book_law.proofs.Walk.{Holds, first_holds, first_told, follows, former}

-- ---- a pass of a step is of a seat

token_low : (seats : List ℕ) (k m : ℕ) → token_of seats k ≡ Some m → m < length seats
token_low seats k m is =
    let place = position_or_len (λ other. eqb other k) seats in
    cond_both (ltb place (length seats)) (Some place) None (λ o. o ≡ Some m → m < length seats)
    (λ q e. subst (λ z. z < length seats) (same_Some place m e) (ltb-true place (length seats) q))
    (λ _ e. absurd (none-some m e)) is

named_low : (places : List ℕ) (q p : PassRecord) (o : Option ℕ) → token_of places q.token ≡ o → option_map (with_token q) o ≡ Some p → p.token < length places
named_low places q p None is e = absurd (none-some p e)
named_low places q p (Some m) is e = subst (λ (z : PassRecord). z.token < length places) (same_Some (with_token q m) p e) (token_low places q.token m is)

seen_low : (places : List ℕ) (o : Option PassRecord) (p : PassRecord) → option_and_then (pass_above places) o ≡ Some p → p.token < length places
seen_low places None p e = absurd (none-some p e)
seen_low places (Some q) p e = named_low places q p (token_of places q.token) refl e

last_low : (x : Site) (terms : Terms) (below : Store) (state : NodeState) → IsOpen x terms below state → (p : PassRecord) → state.content.last ≡ Some p → p.token < length terms.seats
last_low x terms below state h p e =
    let places = places_of below terms.seats in
    let now = content_under places state.content below.content in
    subst (λ n. p.token < n) (length-map terms.seats _)
    (seen_low places now.last p
    (sym (ap (λ (m : Member). m.content.last) (sym h.member) ∙ ap (λ (c : Content). c.last) h.known.seen) ∙ e))

-- ---- the results of a step are its note's

module _ (seats : List ℕ) (one : (p : ℕ) → p < length seats → number_of (length seats) (seat_name seats) (seat_name seats p) ≡ Some p) (t : ℕ) where
  abbrev name : ℕ → ℕ
  name = seat_name seats

  abbrev number : Option ℕ
  number = number_of (length seats) name t

  other_name : (p : ℕ) → p < length seats → number ≡ None → eqb (name p) t ≡ false
  other_name p low none = not_eqb (name p) t (λ same. none-some p (sym none ∙ ap (number_of (length seats) name) (sym same) ∙ one p low))

  same_name : (p k : ℕ) → p < length seats → number ≡ Some k → eqb (name p) t ≡ eqb p k
  same_name p k low some =
      ⊎_elim
      (λ (same : p ≡ k). eq-eqb (name p) t (ap name same ∙ (number_there (length seats) name t k some).1) ∙ sym (eq-eqb p k same))
      (λ (other : p ≡ k → ⊥).
      not_eqb (name p) t (λ same. other (same_Some p k (sym (one p low) ∙ ap (number_of (length seats) name) same ∙ some)))
      ∙ sym (not_eqb p k other))
      (same_or_not p k)

  abbrev LowPass : Option PassRecord → Type 0
  LowPass o = (p : PassRecord) → o ≡ Some p → p.token < length seats

  no_pass : (o : Option PassRecord) (rs : List Result) → LowPass o → number ≡ None → results_with_pass t (option_map (named_pass name) o) rs ≡ rs
  no_pass None rs low none = refl
  no_pass (Some p) rs low none = cond-false (eqb (name p.token) t) (Accepted ∷ rs) rs (other_name p.token (low p refl) none)

  own_pass : (o : Option PassRecord) (rs : List Result) (k : ℕ) → LowPass o → number ≡ Some k → results_with_pass t (option_map (named_pass name) o) rs ≡ results_with_pass k o rs
  own_pass None rs k low some = refl
  own_pass (Some p) rs k low some = ap (λ b. cond b (Accepted ∷ rs) rs) (same_name p.token k (low p refl) some)

  no_failure : (o : Option (ℕ × ℕ)) (rs : List Result) → LowFailed (length seats) o → number ≡ None → results_with_failure t (option_map (named_failure name) o) rs ≡ rs
  no_failure None rs low none = refl
  no_failure (Some f) rs low none = cond-false (eqb (name f.0) t) (Failed f.1 ∷ rs) rs (other_name f.0 low none)

  own_failure : (o : Option (ℕ × ℕ)) (rs : List Result) (k : ℕ) → LowFailed (length seats) o → number ≡ Some k → results_with_failure t (option_map (named_failure name) o) rs ≡ results_with_failure k o rs
  own_failure None rs k low some = refl
  own_failure (Some f) rs k low some = ap (λ b. cond b (Failed f.1 ∷ rs) rs) (same_name f.0 k low some)

  step_same : (made : Made) (rs : List Result) → LowPass made.pass → LowFailed (length seats) made.failed → (o : Option ℕ) → number ≡ o
      → results_of_number o made rs ≡ results_with_failure t (option_map (named_failure name) made.failed) (results_with_pass t (option_map (named_pass name) made.pass) rs)
  step_same made rs pass failed None none =
      let whole = results_with_pass t (option_map (named_pass name) made.pass) rs in
      sym (no_failure made.failed whole failed none ∙ no_pass made.pass rs pass none)
  step_same made rs pass failed (Some k) some =
      let whole = results_with_pass t (option_map (named_pass name) made.pass) rs in
      sym (own_failure made.failed whole k failed some ∙ ap (λ l. results_with_failure k made.failed l) (own_pass made.pass rs k pass some))

-- ---- an action of a history

both : (t : ℕ) (b : Bool) (new old : ℕ → List Result) (x y : List Result) → (b ≡ true → new t ≡ x) → (b ≡ false → old t ≡ y) → (cond b new old) t ≡ cond b x y
both t true new old x y h k = h refl
both t false new old x y h k = k refl

not_both : (b c : Bool) (x y : List Result) → c ≡ false → cond (b && c) x y ≡ y
not_both true c x y none = cond-false c x y none
not_both false c x y none = refl

module _ (grounds : GroundLaw) (setting : Setting) (e : ℕ) (state : State) (w : Cluster) (holds : Holds setting state w) (j t : ℕ) where
  abbrev before : List Result
  before = noted state.notes j t

  -- other results of the node, which are the same for the token
  same_at : (i : ℕ) (new : ℕ → List Result) (rs : ℕ → ℕ → List Result) → (j ≡ i → new t ≡ rs i t) → rs j t ≡ before → (cond (eqb j i) new (rs j)) t ≡ before
  same_at i new rs h is =
      cond_both (eqb j i) new (rs j) (λ (f : ℕ → List Result). f t ≡ before)
      (λ q. h (eqb-true j i q) ∙ ap (λ k. rs k t) (sym (eqb-true j i q)) ∙ is) (λ _. is)

  quiet : (i : ℕ) (rs : ℕ → ℕ → List Result) → rs j t ≡ before → (cond (eqb j i) (rs i) (rs j)) t ≡ before
  quiet i rs is = same_at i (rs i) rs (λ _. refl) is

  step_noted : (i : ℕ) (terms : Terms) (below : Store) (node : NodeState) (waiting : List Output) (input : NodeEvent) (rs : List Result) → state.processes i ≡ Up terms below node waiting → has_store setting state i ≡ true
      → IsGenuineAt (state.processes i) state.offered input → FloorsSent setting.tokens setting.n holds.sites.seen.own.sent i input
      → results_of_number (number_of (length terms.seats) (seat_name terms.seats) t) (made_by_input setting terms i input node) rs ≡ results_with_note (note_of_step terms e i (made_by_input setting terms i input node)) t rs
  step_noted i terms below node waiting input rs is can g f =
      let made = made_by_input setting terms i input node in
      let at = subst (IsAt holds.sites.seen.own.sent (state.lost i) (site_of holds.sites i)) is (holds.fits.nodes i) in
      let next = opened_step grounds setting e i terms below node waiting input state holds.sites holds.roster holds.sim holds.posts holds.fits can at (subst (λ p. IsGenuineAt p state.offered input) is g) f in
      let kept = keeps grounds terms.config (place_in setting i) node input in
      step_same terms.seats (λ p low. own_number terms.seats p at.0.apart low) t made rs
      (λ p q. last_low next.0 terms below made.state next.1 p (kept.last ∙ ap (λ o. option_or o node.content.last) q))
      (subst (λ n. LowFailed n made.failed) (sym at.0.book) kept.failed)
      (number_of (length terms.seats) (seat_name terms.seats) t) refl

  takes : (i : ℕ) (terms : Terms) (below : Store) (node : NodeState) (waiting : List Output) (input : NodeEvent) (rs : ℕ → ℕ → List Result) → state.processes i ≡ Up terms below node waiting → has_store setting state i ≡ true
      → IsGenuineAt (state.processes i) state.offered input → FloorsSent setting.tokens setting.n holds.sites.seen.own.sent i input → rs j t ≡ before
      → (cond (eqb j i) (results_of_step terms (made_by_input setting terms i input node) (rs i)) (rs j)) t ≡ noted (note_of_step terms e i (made_by_input setting terms i input node) ∷ state.notes) j t
  takes i terms below node waiting input rs is can g f h =
      let made = made_by_input setting terms i input node in
      let number = number_of (length terms.seats) (seat_name terms.seats) t in
      both t (eqb j i) (results_of_step terms made (rs i)) (rs j) (results_with_note (note_of_step terms e i made) t before) before
      (λ q. ap (λ l. results_of_number number made l) (ap (λ k. rs k t) (sym (eqb-true j i q)) ∙ h) ∙ step_noted i terms below node waiting input before is can g f)
      (λ _. h)

  anew : (i : ℕ) (rs : ℕ → ℕ → List Result) → rs j t ≡ before → (cond (eqb j i) (λ (u : ℕ). []) (rs j)) t ≡ noted (note_anew e i ∷ state.notes) j t
  anew i rs h = both t (eqb j i) (λ u. []) (rs j) [] before (λ _. refl) (λ _. h)

  node_noted : (d : Action) (p : Process) (rs : ℕ → ℕ → List Result) → state.processes (node_of_action d) ≡ p → can_be setting state d ≡ true → IsGenuineAction state d → FloorsSentBy setting holds.sites.seen.own.sent d → LeavesGate j t d
      → rs j t ≡ before → (with_results (node_of_action d) (results_by setting d p (rs (node_of_action d))) rs j) t ≡ noted (notes_by setting e d p ++ state.notes) j t
  node_noted (Opens i terms) (Down store) rs is can g f l h = quiet i rs h
  node_noted (Opens i new) (Up terms below node waiting) rs is can g f l h = quiet i rs h
  node_noted (FailsToOpen i raised) (Down store) rs is can g f l h = quiet i rs h
  node_noted (FailsToOpen i raised) (Up terms below node waiting) rs is can g f l h = quiet i rs h
  node_noted (Takes i input) (Down store) rs is can g f l h = quiet i rs h
  node_noted (Takes i input) (Up terms below node waiting) rs is can g f l h = takes i terms below node waiting input rs is can g f h
  node_noted (Offers i) (Down store) rs is can g f l h = quiet i rs h
  node_noted (Offers i) (Up terms below node waiting) rs is can g f l h = quiet i rs h
  node_noted (Stops i) (Down store) rs is can g f l h = quiet i rs h
  node_noted (Stops i) (Up terms below node waiting) rs is can g f l h = quiet i rs h
  node_noted (StopsIn i true input) (Down store) rs is can g f l h = quiet i rs h
  node_noted (StopsIn i false input) (Down store) rs is can g f l h = quiet i rs h
  node_noted (StopsIn i false input) (Up terms below node waiting) rs is can g f l h = quiet i rs h
  node_noted (StopsIn i true input) (Up terms below node waiting) rs is can g f l h = takes i terms below node waiting input rs is can g f h
  node_noted (Loses i) (Down store) rs is can g f l h = quiet i rs h
  node_noted (Loses i) (Up terms below node waiting) rs is can g f l h = quiet i rs h
  node_noted (Remakes i boot given floor) (Down store) rs is can g f l h = anew i rs h
  node_noted (Remakes i boot given floor) (Up terms below node waiting) rs is can g f l h = anew i rs h
  node_noted (Enrols i u floor) (Down store) rs is can g f l h = quiet i rs h
  node_noted (Enrols i u floor) (Up terms below node waiting) rs is can g f l h = quiet i rs h
  node_noted (Unlocks i u) (Down store) rs is can g f l h =
      same_at i (results_by setting (Unlocks i u) (Down store) (rs i)) rs (λ q. not_both (has_row store u) (eqb t u) (Accepted ∷ rs i t) (rs i t) (not_eqb t u (λ same. l q (sym same)))) h
  node_noted (Unlocks i u) (Up terms below node waiting) rs is can g f l h = quiet i rs h
  node_noted (OpensGate i u) (Down store) rs is can g f l h = quiet i rs h
  node_noted (OpensGate i u) (Up terms below node waiting) rs is can g f l h =
      same_at i (results_by setting (OpensGate i u) (Up terms below node waiting) (rs i)) rs
      (λ q. not_both (is_number (number_to_unlock terms u node)) (eqb t u) (Accepted ∷ rs i t) (rs i t) (not_eqb t u (λ same. l q (sym same)))) h
  node_noted (Raises i u floor) (Down store) rs is can g f l h = quiet i rs h
  node_noted (Raises i u floor) (Up terms below node waiting) rs is can g f l h = quiet i rs h

  action_noted : (d : Action) (rs : ℕ → ℕ → List Result) → IsGenuineAction state d → FloorsSentBy setting holds.sites.seen.own.sent d → LeavesGate j t d → rs j t ≡ before
      → results_after_action setting d state rs j t ≡ noted (state_after_action setting e d state).notes j t
  unfolding state_after_action results_after_action
  action_noted d rs g f l h = either (state.processes (node_of_action d)) refl (can_be setting state d) refl
    where
      either : (p : Process) → state.processes (node_of_action d) ≡ p → (b : Bool) → can_be setting state d ≡ b
          → (cond b (with_results (node_of_action d) (results_by setting d p (rs (node_of_action d))) rs) rs) j t ≡ noted (cond b (state_with setting e d p state) state).notes j t
      either p is true can = node_noted d p rs is can g f l h
      either p is false can = h

all_noted : GroundLaw → (setting : Setting) (first : ℕ) (history : List Action) (state : State) (w : Cluster) (rs : ℕ → ℕ → List Result) (j t : ℕ) (holds : Holds setting state w) → AreGenuine setting first history state
    → Each (FloorsSentBy setting holds.sites.seen.own.sent) history → LeaveGate j t history → rs j t ≡ noted state.notes j t
    → results_after setting first history state rs j t ≡ noted (state_after setting first history state).notes j t
unfolding state_after results_after AreGenuine
all_noted grounds setting first [] state w rs j t holds g f l h = h
all_noted grounds setting first (d ∷ history) state w rs j t holds g f l h =
    let next = follows grounds setting first state holds.sites holds.roster holds.sim holds.posts holds.fits d g.0 f.0 in
    all_noted grounds setting (suc first) history (state_after_action setting first d state) next.roster.cluster (results_after_action setting d state rs) j t
    (record { sites = next.sites; roster = next.roster; sim = next.sim; posts = next.posts; fits = next.fits; same = refl }) g.1
    (all_grow setting holds.sites.seen.own.sent next.sites.seen.own.sent history (λ k q. next.grows k (subst (λ sent. HasSent sent k) (sym holds.sim.sent) q)) f.1)
    l.1 (action_noted grounds setting first state w holds j t d rs g.0 f.0 l.0 h)

pub history_noted : GroundLaw → (setting : Setting) (history : List Action) (node token : ℕ) → IsHistory setting history → LeaveGate node token history
    → results_in setting history node token ≡ noted (state_after setting 0 history (first_state setting)).notes node token
history_noted grounds setting history node token g l =
    let may = told_may setting (made_boot setting) (former setting) history g.starts in
    all_noted grounds setting 0 history (first_state setting) _ (λ i t. []) node token (first_holds setting (told_of setting history) may) g.genuine (first_told setting history may) l refl

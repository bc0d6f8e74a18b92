-- What becomes of an answer that was made.
use Rattle.std.proofs.Common.{◌≡◌, ℕ, zero, suc, ◌⊎◌, inl, inr, ⊎_elim, Bool, true, false, cond, List, [], ◌∷◌, ◌++◌, map, take, Option, Some, None, refl, sym, ap, ◌∙◌, subst, eqb}
use Rattle.std.specs.Prelude.{option_map}
use Rattle.std.specs.List.{slice_get}
use Rattle.std.proofs.lemmas.Bool.{cond-true, cond-false, cases_Bool, eqb-true, eq-eqb}
use Rattle.std.proofs.lemmas.Option.{same_Some, none-some, slice_get-map}
use Rattle.otp_core.specs.Acceptance.{Acceptance}
use Rattle.oath_node.specs.Machine.{NodeState, Reply}
use Rattle.vote_core.proofs.Basics.{each_get}
use Rattle.cluster_sim.proofs.BelowLaws.{GroundLaw}
use Rattle.cluster_sim.proofs.Owners.{get_more}
use Rattle.cluster_sim.specs.Answered.{HasAnswer, IsAnsweredIn, IsAskedIn, ok_bytes}
use Rattle.cluster_sim.specs.World.{Answer, Note, WorldEvent, passes_in, told_reply}
use Rattle.book_law.specs.Answered.{AnswersAll, EndsProcess, HasOk, HasYetToOffer, IsAnsweredInAction, IsLost, IsOfferedOrEnds, IsToldAmong}
use Rattle.book_law.specs.Lives.{Action, Opens, FailsToOpen, Takes, Offers, Stops, StopsIn, Loses, Remakes, Enrols, Unlocks, OpensGate, Raises, Output, Process, Sealed, Setting, State, Store, Terms, ToPeer, ToClient, Down, Up, accepted_in, answers_among, can_be, first_state, made_by_input, node_of_action, number_to_unlock, offers_by, outputs_of_step, process_after, sealed_from, state_after, state_after_action, state_of, state_unlocked, state_with}
use Rattle.book_law.specs.Promises.{IsAskedInAction}
use Rattle.book_law.proofs.Fits.{get_after}
use Rattle.book_law.proofs.Told.{AreNotes, answers_by, answers_in, answers_made, asked_back, line_event, untokened, whole_honest}

-- ---- lists

abbrev pub IsIn : {A : Type 0} → A → List A → Type 0
IsIn x xs = (k : ℕ) × (slice_get xs k ≡ Some x)

get_either : {A : Type 0} (xs ys : List A) (k : ℕ) (x : A) → slice_get (xs ++ ys) k ≡ Some x → IsIn x xs ⊎ IsIn x ys
get_either [] ys k x e = inr (k, e)
get_either (y ∷ xs) ys zero x e = inl (zero, e)
get_either (y ∷ xs) ys (suc k) x e = ⊎_elim (λ p. inl (suc p.0, p.1)) (λ p. inr p) (get_either xs ys k x e)

in_map : {A B : Type 0} (f : A → B) (xs : List A) (k : ℕ) (x : A) → slice_get xs k ≡ Some x → slice_get (map f xs) k ≡ Some (f x)
in_map f [] k x e = absurd (none-some x e)
in_map f (y ∷ ys) zero x e = ap (λ z. Some (f z)) (same_Some y x e)
in_map f (y ∷ ys) (suc k) x e = in_map f ys k x e

replied_at : (e i : ℕ) (rs : List Reply) (k : ℕ) (t : Answer) → slice_get (map (told_reply e i) rs) k ≡ Some t → t.node ≡ i
replied_at e i [] k t h = absurd (none-some t h)
replied_at e i (r ∷ rs) zero t h = ap (λ (z : Answer). z.node) (sym (same_Some (told_reply e i r) t h))
replied_at e i (r ∷ rs) (suc k) t h = replied_at e i rs k t h

pub among : (hs : List Output) (k : ℕ) (t : Answer) → slice_get hs k ≡ Some (ToClient t) → IsToldAmong t (answers_among hs)
among [] k t h = absurd (none-some (ToClient t) h)
among (ToPeer l ∷ hs) zero t h = absurd (apart l t h)
  where
    apart : (l : Sealed) (t : Answer) → Some (ToPeer l) ≡ Some (ToClient t) → ⊥
    apart l t h = cc
among (ToPeer l ∷ hs) (suc k) t h = among hs k t h
among (ToClient u ∷ hs) zero t h = record { place = zero; is_there = same u t h }
  where
    same : (u t : Answer) → Some (ToClient u) ≡ Some (ToClient t) → Some u ≡ Some t
    same u t h = cc
among (ToClient u ∷ hs) (suc k) t h = let r = among hs k t h in record { place = suc r.place; is_there = r.is_there }

-- ---- an action

-- the answer was offered, or it waits
abbrev Lives : State → Answer → Type 0
Lives state t = IsIn (ToClient t) state.offered ⊎ HasYetToOffer t (state.processes t.node)

-- it waits, and its process ends
abbrev Dies : Action → State → Answer → Type 0
Dies d state t = EndsProcess t.node (Some d) × HasYetToOffer t (state.processes t.node)

-- at a process
module _ (setting : Setting) (e : ℕ) (terms : Terms) (below : Store) (t : Answer) where
  abbrev Stays : Action → NodeState → List Output → Type 0
  Stays d s waiting =
      (IsIn (ToClient t) (offers_by d (Up terms below s waiting)) ⊎ HasYetToOffer t (process_after setting e d (Up terms below s waiting))) ⊎ EndsProcess (node_of_action d) (Some d)

  still_up : (s : NodeState) (waiting : List Output) (place : ℕ) → slice_get waiting place ≡ Some (ToClient t) → HasYetToOffer t (Up terms below s waiting)
  still_up s waiting place at = record { terms = terms; below = below; state = s; waiting = waiting; is_up = refl; place = place; is_there = at }

  at_up : (d : Action) (s : NodeState) (waiting : List Output) (place : ℕ) → slice_get waiting place ≡ Some (ToClient t) → Stays d s waiting
  at_up (Opens i own) s waiting place at = inl (inr (still_up s waiting place at))
  at_up (FailsToOpen i raised) s waiting place at = inl (inr (still_up s waiting place at))
  at_up (Takes i input) s waiting place at =
      let made = made_by_input setting terms i input s in
      inl (inr (still_up made.state (waiting ++ outputs_of_step terms e i made) place (get_more waiting (outputs_of_step terms e i made) place (ToClient t) at)))
  at_up (Offers i) s [] place at = absurd (none-some (ToClient t) at)
  at_up (Offers i) s (h ∷ waiting) zero at = inl (inl (zero, at))
  at_up (Offers i) s (h ∷ waiting) (suc place) at = inl (inr (still_up s waiting place at))
  at_up (Stops i) s waiting place at = inr refl
  at_up (StopsIn i kept input) s waiting place at = inr refl
  at_up (Loses i) s waiting place at = inr refl
  at_up (Remakes i boot given floor) s waiting place at = inl (inr (still_up s waiting place at))
  at_up (Enrols i token floor) s waiting place at = inl (inr (still_up s waiting place at))
  at_up (Unlocks i token) s waiting place at = inl (inr (still_up s waiting place at))
  at_up (OpensGate i token) s waiting place at = inl (inr (still_up (state_unlocked (number_to_unlock terms token s) s) waiting place at))
  at_up (Raises i token floor) s waiting place at = inl (inr (still_up s waiting place at))

-- at the process of its own node
own_action : (setting : Setting) (e : ℕ) (d : Action) (state : State) (t : Answer) (can : Bool) → t.node ≡ node_of_action d → HasYetToOffer t (state.processes t.node)
    → Lives (cond can (state_with setting e d (state.processes (node_of_action d)) state) state) t ⊎ Dies d state t
own_action setting e d state t false own y = inl (inr y)
own_action setting e d state t true own y =
    let i = node_of_action d in
    let up : state.processes i ≡ Up y.terms y.below y.state y.waiting = ap (λ m. state.processes m) (sym own) ∙ y.is_up in
    let old = state.processes i in
    ⊎_elim
    (λ (p : IsIn (ToClient t) (offers_by d (Up y.terms y.below y.state y.waiting)) ⊎ HasYetToOffer t (process_after setting e d (Up y.terms y.below y.state y.waiting))).
    ⊎_elim
    (λ (q : IsIn (ToClient t) (offers_by d (Up y.terms y.below y.state y.waiting))).
    let r = get_after state.offered (offers_by d old) q.0 (ToClient t) (subst (λ a. slice_get (offers_by d a) q.0 ≡ Some (ToClient t)) (sym up) q.1) in
    inl (inl r))
    (λ (q : HasYetToOffer t (process_after setting e d (Up y.terms y.below y.state y.waiting))).
    let here : HasYetToOffer t (process_after setting e d old) = subst (λ a. HasYetToOffer t (process_after setting e d a)) (sym up) q in
    inl (inr (subst (λ a. HasYetToOffer t a) (sym (cond-true (eqb t.node i) (process_after setting e d old) (state.processes t.node) (eq-eqb t.node i own))) here)))
    p)
    (λ (p : EndsProcess i (Some d)). inr (subst (λ m. EndsProcess m (Some d)) (sym own) p, y))
    (at_up setting e y.terms y.below t d y.state y.waiting y.place y.is_there)

other_action : (setting : Setting) (e : ℕ) (d : Action) (state : State) (t : Answer) (can : Bool) → eqb t.node (node_of_action d) ≡ false → HasYetToOffer t (state.processes t.node)
    → Lives (cond can (state_with setting e d (state.processes (node_of_action d)) state) state) t
other_action setting e d state t false other y = inr y
other_action setting e d state t true other y =
    inr (subst (λ a. HasYetToOffer t a) (sym (cond-false (eqb t.node (node_of_action d)) (process_after setting e d (state.processes (node_of_action d))) (state.processes t.node) other)) y)

offered_action : (setting : Setting) (e : ℕ) (d : Action) (state : State) (t : Answer) (can : Bool) → IsIn (ToClient t) state.offered → Lives (cond can (state_with setting e d (state.processes (node_of_action d)) state) state) t
offered_action setting e d state t false p = inl p
offered_action setting e d state t true p = inl (p.0, get_more state.offered (offers_by d (state.processes (node_of_action d))) p.0 (ToClient t) p.1)

action_lives : (setting : Setting) (e : ℕ) (d : Action) (state : State) (t : Answer) → Lives state t → Lives (state_after_action setting e d state) t ⊎ Dies d state t
unfolding state_after_action
action_lives setting e d state t h =
    let can = can_be setting state d in
    ⊎_elim
    (λ (p : IsIn (ToClient t) state.offered). inl (offered_action setting e d state t can p))
    (λ (y : HasYetToOffer t (state.processes t.node)).
    ⊎_elim
    (λ (own : eqb t.node (node_of_action d) ≡ true). own_action setting e d state t can (eqb-true t.node (node_of_action d) own) y)
    (λ (other : eqb t.node (node_of_action d) ≡ false). inl (other_action setting e d state t can other y))
    (cases_Bool (eqb t.node (node_of_action d))))
    h

-- ---- actions

-- its process ended in one of these, before which it waited
record Lost (setting : Setting) (e : ℕ) (ds : List Action) (state : State) (t : Answer) : Type 0 where
  event : ℕ
  ends : EndsProcess t.node (slice_get ds event)
  yet : HasYetToOffer t ((state_after setting e (take event ds) state).processes t.node)

abbrev Fate : Setting → ℕ → List Action → State → Answer → Type 0
Fate setting e ds state t = Lives (state_after setting e ds state) t ⊎ Lost setting e ds state t

later : (setting : Setting) (e : ℕ) (d : Action) (ds : List Action) (state : State) (t : Answer) → Fate setting (suc e) ds (state_after_action setting e d state) t → Fate setting e (d ∷ ds) state t
unfolding state_after
later setting e d ds state t h =
    ⊎_elim
    (λ (p : Lives (state_after setting (suc e) ds (state_after_action setting e d state)) t). inl p)
    (λ (p : Lost setting (suc e) ds (state_after_action setting e d state) t).
    let is : Lost setting e (d ∷ ds) state t = record { event = suc p.event; ends = p.ends; yet = p.yet } in
    inr is)
    h

fate_of : (setting : Setting) (e : ℕ) (ds : List Action) (state : State) (t : Answer) → Lives state t → Fate setting e ds state t
unfolding state_after
fate_of setting e [] state t h = inl h
fate_of setting e (d ∷ ds) state t h =
    ⊎_elim
    (λ (p : Lives (state_after_action setting e d state) t). later setting e d ds state t (fate_of setting (suc e) ds (state_after_action setting e d state) t p))
    (λ (p : Dies d state t).
    let is : Lost setting e (d ∷ ds) state t = record { event = 0; ends = p.0; yet = p.1 } in
    inr is)
    (action_lives setting e d state t h)

-- an answer that an action makes waits
made_at : (setting : Setting) (e : ℕ) (d : Action) (a : Process) (k : ℕ) (t : Answer) → slice_get (answers_made setting e d a) k ≡ Some t → (t.node ≡ node_of_action d) × HasYetToOffer t (process_after setting e d a)
made_at setting e (Opens i terms) a k t h = absurd (none-some t h)
made_at setting e (FailsToOpen i raised) a k t h = absurd (none-some t h)
made_at setting e (Takes i input) (Down store) k t h = absurd (none-some t h)
made_at setting e (Takes i input) (Up terms below s waiting) k t h =
    let made = made_by_input setting terms i input s in
    let ls = map (λ (sealed : Sealed). ToPeer sealed) (map (sealed_from terms i) made.sends) in
    let ts = map (told_reply e i) made.replies in
    let p = get_after ls (map (λ (u : Answer). ToClient u) ts) k (ToClient t) (in_map (λ (u : Answer). ToClient u) ts k t h) in
    let q = get_after waiting (outputs_of_step terms e i made) p.0 (ToClient t) p.1 in
    (replied_at e i made.replies k t h, still_up setting e terms below t made.state (waiting ++ outputs_of_step terms e i made) q.0 q.1)
made_at setting e (Offers i) a k t h = absurd (none-some t h)
made_at setting e (Stops i) a k t h = absurd (none-some t h)
made_at setting e (StopsIn i kept input) a k t h = absurd (none-some t h)
made_at setting e (Loses i) a k t h = absurd (none-some t h)
made_at setting e (Remakes i boot given floor) a k t h = absurd (none-some t h)
made_at setting e (Enrols i token floor) a k t h = absurd (none-some t h)
made_at setting e (Unlocks i token) a k t h = absurd (none-some t h)
made_at setting e (OpensGate i token) a k t h = absurd (none-some t h)
made_at setting e (Raises i token floor) a k t h = absurd (none-some t h)

waits_at : (setting : Setting) (e : ℕ) (d : Action) (state : State) (k : ℕ) (t : Answer) (can : Bool) → slice_get (cond can (answers_made setting e d (state.processes (node_of_action d))) []) k ≡ Some t
    → HasYetToOffer t ((cond can (state_with setting e d (state.processes (node_of_action d)) state) state).processes t.node)
waits_at setting e d state k t false h = absurd (none-some t h)
waits_at setting e d state k t true h =
    let i = node_of_action d in
    let p = made_at setting e d (state.processes i) k t h in
    subst (λ a. HasYetToOffer t a) (sym (cond-true (eqb t.node i) (process_after setting e d (state.processes i)) (state.processes t.node) (eq-eqb t.node i p.0))) p.1

made_waits : (setting : Setting) (e : ℕ) (d : Action) (state : State) (k : ℕ) (t : Answer) → slice_get (answers_by setting e d state) k ≡ Some t → Lives (state_after_action setting e d state) t
unfolding state_after_action
made_waits setting e d state k t h = inr (waits_at setting e d state k t (can_be setting state d) h)

fated : (setting : Setting) (e : ℕ) (ds : List Action) (state : State) (k : ℕ) (t : Answer) → slice_get (answers_in setting e ds state) k ≡ Some t → Fate setting e ds state t
fated setting e [] state k t h = absurd (none-some t h)
fated setting e (d ∷ ds) state k t h =
    let next = state_after_action setting e d state in
    ⊎_elim
    (λ (p : IsIn t (answers_by setting e d state)). later setting e d ds state t (fate_of setting (suc e) ds next t (made_waits setting e d state p.0 t p.1)))
    (λ (p : IsIn t (answers_in setting (suc e) ds next)). later setting e d ds state t (fated setting (suc e) ds next p.0 t p.1))
    (get_either (answers_by setting e d state) (answers_in setting (suc e) ds next) k t h)

-- ---- a history

becomes : (setting : Setting) (history : List Action) (t : Answer) → Fate setting 0 history (first_state setting) t → IsOfferedOrEnds setting history t
becomes setting history t h =
    ⊎_elim
    (λ (p : Lives (state_after setting 0 history (first_state setting)) t).
    ⊎_elim
    (λ (q : IsIn (ToClient t) (state_after setting 0 history (first_state setting)).offered). inl (among (state_after setting 0 history (first_state setting)).offered q.0 t q.1))
    (λ (q : HasYetToOffer t ((state_after setting 0 history (first_state setting)).processes t.node)). inr (inr q))
    p)
    (λ (p : Lost setting 0 history (first_state setting) t).
    let is : IsLost setting history t = record { event = p.event; ends = p.ends; yet = p.yet } in
    inr (inl is))
    h

-- the OK of an acceptance, by the answers that were made
module _ (law : GroundLaw) (setting : Setting) (history : List Action) where
  abbrev events : List WorldEvent
  events = map line_event history

  abbrev made : List Answer
  made = answers_in setting 0 history (first_state setting)

  -- the acceptance under own numbers and under canonical tokens
  has_ok : (raw p : Acceptance) → untokened raw ≡ untokened p → HasAnswer events made raw → HasOk setting history p
  has_ok raw p same a =
      let began : raw.began ≡ p.began = ap (λ (q : Acceptance). q.began) same in
      let node : raw.node ≡ p.node = ap (λ (q : Acceptance). q.node) same in
      record {
        answer = a.answer;
        event = a.event ∙ ap (λ (q : Acceptance). q.ended) same;
        node = a.node ∙ node;
        line = a.line;
        nonce = a.nonce;
        asked = subst (λ n. IsAskedInAction n a.answer.client a.line a.nonce (slice_get history p.began)) node
            (subst (λ k. IsAskedInAction raw.node a.answer.client a.line a.nonce (slice_get history k)) began
            (asked_back raw.node a.answer.client a.line a.nonce (slice_get history raw.began)
            (subst (IsAskedIn raw.node a.answer.client a.line a.nonce) (slice_get-map line_event history raw.began) a.asked)));
        bytes = a.bytes ∙ ap (λ (q : Acceptance). ok_bytes a.nonce q.hi) same;
        becomes = becomes setting history a.answer (fated setting 0 history (first_state setting) a.place a.answer a.is_told);
      }

  answered_in_action : (raw p : Acceptance) → untokened raw ≡ untokened p → (o : Option Action) → IsAnsweredIn events made raw (option_map line_event o) → IsAnsweredInAction setting history p o
  answered_in_action raw p same None h = absurd h
  answered_in_action raw p same (Some (Opens i terms)) h = absurd h
  answered_in_action raw p same (Some (FailsToOpen i raised)) h = absurd h
  answered_in_action raw p same (Some (Takes i input)) h = has_ok raw p same h
  answered_in_action raw p same (Some (Offers i)) h = absurd h
  answered_in_action raw p same (Some (Stops i)) h = absurd h
  answered_in_action raw p same (Some (StopsIn i true input)) h = tt
  answered_in_action raw p same (Some (StopsIn i false input)) h = absurd h
  answered_in_action raw p same (Some (Loses i)) h = absurd h
  answered_in_action raw p same (Some (Remakes i boot given floor)) h = absurd h
  answered_in_action raw p same (Some (Enrols i token floor)) h = absurd h
  answered_in_action raw p same (Some (Unlocks i token)) h = absurd h
  answered_in_action raw p same (Some (OpensGate i token)) h = absurd h
  answered_in_action raw p same (Some (Raises i token floor)) h = absurd h

  -- the acceptance under own numbers, of one under canonical tokens
  raw_of : (raw notes : List Note) (k : ℕ) (p : Acceptance) → AreNotes raw notes → slice_get (passes_in notes) k ≡ Some p → (q : Acceptance) × (slice_get (passes_in raw) k ≡ Some q) × (untokened q ≡ untokened p)
  raw_of raw notes k p h at =
      one (slice_get (passes_in raw) k) refl
      (sym (slice_get-map untokened (passes_in raw) k) ∙ ap (λ l. slice_get l k) h.passes ∙ slice_get-map untokened (passes_in notes) k ∙ ap (option_map untokened) at)
    where
      one : (o : Option Acceptance) → slice_get (passes_in raw) k ≡ o → option_map untokened o ≡ Some (untokened p) → (q : Acceptance) × (slice_get (passes_in raw) k ≡ Some q) × (untokened q ≡ untokened p)
      one None is q = absurd (none-some (untokened p) q)
      one (Some q) is same = (q, is, same_Some (untokened q) (untokened p) same)

  pub answers_all : AnswersAll setting history (accepted_in setting history)
  answers_all i p at =
      let h = (whole_honest law setting history).1 in
      let r = raw_of h.raw (state_of setting history).notes i p h.notes at in
      let here = each_get (λ (q : Acceptance). IsAnsweredIn events made q (slice_get events q.ended)) (passes_in h.raw) i r.0 h.owed r.1 in
      answered_in_action r.0 p r.2 (slice_get history p.ended)
      (subst (IsAnsweredIn events made r.0) (slice_get-map line_event history p.ended)
      (subst (λ k. IsAnsweredIn events made r.0 (slice_get events k)) (ap (λ (q : Acceptance). q.ended) r.2) here))

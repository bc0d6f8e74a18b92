-- Each answer that a process offers as an OK belongs to an acceptance. A process tells what its machine tells, whatever
-- the numbers of its tokens are.
use Rattle.std.proofs.Common.{◌≡◌, ℕ, suc, ◌+◌, ◌<◌, ◌≤◌, Bool, true, false, cond, ◌&&◌, List, [], ◌∷◌, ◌++◌, map, Option, Some, None, refl, sym, ap, ◌∙◌, subst, arith, ltb}
use Rattle.std.specs.Prelude.{option_map}
use Rattle.std.specs.List.{slice_get}
use Rattle.std.proofs.lemmas.Bool.{cond_both}
use Rattle.std.proofs.lemmas.List.{append-nil, append_assoc}
use Rattle.std.proofs.lemmas.Option.{none-some, same_Some, slice_get-map}
use Rattle.floor_store.specs.Records.{PassRecord, ProposalRecord}
use Rattle.otp_core.specs.Acceptance.{Acceptance}
use Rattle.client_lines.specs.Request.{without_lf}
use Rattle.answer_ring.specs.Answers.{KeptAnswer}
use Rattle.vote_core.specs.Numbers.{named_pass}
use Rattle.vote_core.specs.Schedule.{Begun, began_in, last_boot}
use Rattle.vote_core.specs.Voting.{same_proposal}
use Rattle.vote_core.proofs.Basics.{Each, each_append, each_get, each_weaker}
use Rattle.oath_node.specs.Machine.{Beginning, Made, NodeEvent, NodeState, Client, Peer, Tick, Reply, made_by_event, made_while_running, opened_node, quiet_made}
use Rattle.cluster_sim.specs.Answered.{BelongsToPass, IsAnsweredIn, IsAskedIn, IsOk, IsSaidIn, ok_bytes}
use Rattle.cluster_sim.specs.World.{Act, Answer, Note, Says, Ticks, WorldEvent, Happens, Cut, Restart, acceptance_in, begun_in, begun_with, note_anew, note_of, passes_in, told_reply}
use Rattle.cluster_sim.proofs.BelowLaws.{GroundLaw}
use Rattle.cluster_sim.proofs.Owners.{get_more}
use Rattle.cluster_sim.proofs.Reports.{begun_elsewhere}
use Rattle.seat_law.specs.Seats.{seat_name}
use Rattle.cluster_sim.proofs.Tells.{Backed, BeganAt, Comes, NodeKept, Said, Tells, ToldBacked, answers_later, event_tells, named, owners_later, resting_tells}
use Rattle.book_law.specs.Lives.{Action, Opens, FailsToOpen, Takes, Offers, Stops, StopsIn, Loses, Remakes, Enrols, Unlocks, OpensGate, Raises, Output, Process, Sealed, Setting, State, Store, Terms, ToClient, ToPeer, Down, Up, answered_in, answers_among, can_be, do_fit, first_state, made_by_input, may_enrol, named_beginning, node_of_action, note_of_step, number_to_unlock, outputs_of_step, place_in, process_opened, sealed_from, seen_in, state_after, state_after_action, state_of, state_unlocked, state_with, store_in_next_boot, store_with_row, with_process}
use Rattle.book_law.specs.Promises.{AnswerTruly, BelongsToAcceptance, IsAskedInAction, IsSaidInAction}
use Rattle.book_law.proofs.Fits.{set_at}
use Rattle.book_law.proofs.Owed.{AreOwed, all_owed_later, new_owed, stop_owes}

-- ---- the inputs of a history, as events of the world; all else is nothing

-- an input that is no line is a tick: it matters only that it comes
abbrev pub line_act : ℕ → NodeEvent → Act
line_act i (Client client moment text) = Says i client moment text
line_act i (Peer from read) = Ticks i
line_act i Tick = Ticks i

abbrev pub line_taken : ℕ → NodeEvent → WorldEvent
line_taken i input = Happens (line_act i input)

abbrev pub line_cut : ℕ → NodeEvent → WorldEvent
line_cut i input = Cut true (line_act i input)

abbrev pub line_event : Action → WorldEvent
line_event (Takes i input) = line_taken i input
line_event (StopsIn i true input) = line_cut i input
line_event action = Restart 0

takes_asked : (node client : ℕ) (line nonce : List ℕ) (i : ℕ) (input : NodeEvent) → IsAskedIn node client line nonce (Some (line_taken i input)) → IsAskedInAction node client line nonce (Some (Takes i input))
takes_asked node client line nonce i (Client by moment text) h = h
takes_asked node client line nonce i (Peer from read) h = absurd h
takes_asked node client line nonce i Tick h = absurd h

cut_asked : (node client : ℕ) (line nonce : List ℕ) (i : ℕ) (input : NodeEvent) → IsAskedIn node client line nonce (Some (line_cut i input)) → IsAskedInAction node client line nonce (Some (StopsIn i true input))
cut_asked node client line nonce i (Client by moment text) h = h
cut_asked node client line nonce i (Peer from read) h = absurd h
cut_asked node client line nonce i Tick h = absurd h

pub asked_back : (node client : ℕ) (line nonce : List ℕ) (o : Option Action) → IsAskedIn node client line nonce (option_map line_event o) → IsAskedInAction node client line nonce o
asked_back node client line nonce None h = absurd h
asked_back node client line nonce (Some (Opens i terms)) h = absurd h
asked_back node client line nonce (Some (FailsToOpen i raised)) h = absurd h
asked_back node client line nonce (Some (Takes i input)) h = takes_asked node client line nonce i input h
asked_back node client line nonce (Some (Offers i)) h = absurd h
asked_back node client line nonce (Some (Stops i)) h = absurd h
asked_back node client line nonce (Some (StopsIn i true input)) h = cut_asked node client line nonce i input h
asked_back node client line nonce (Some (StopsIn i false input)) h = absurd h
asked_back node client line nonce (Some (Loses i)) h = absurd h
asked_back node client line nonce (Some (Remakes i boot given floor)) h = absurd h
asked_back node client line nonce (Some (Enrols i t floor)) h = absurd h
asked_back node client line nonce (Some (Unlocks i t)) h = absurd h
asked_back node client line nonce (Some (OpensGate i t)) h = absurd h
asked_back node client line nonce (Some (Raises i t floor)) h = absurd h

takes_said : (node client : ℕ) (line : List ℕ) (i : ℕ) (input : NodeEvent) → IsSaidIn node client line (Some (line_taken i input)) → IsSaidInAction node client line (Some (Takes i input))
takes_said node client line i (Client by moment text) h = h
takes_said node client line i (Peer from read) h = absurd h
takes_said node client line i Tick h = absurd h

cut_said : (node client : ℕ) (line : List ℕ) (i : ℕ) (input : NodeEvent) → IsSaidIn node client line (Some (line_cut i input)) → ⊥
cut_said node client line i (Client by moment text) h = h
cut_said node client line i (Peer from read) h = h
cut_said node client line i Tick h = h

said_back : (node client : ℕ) (line : List ℕ) (o : Option Action) → IsSaidIn node client line (option_map line_event o) → IsSaidInAction node client line o
said_back node client line None h = absurd h
said_back node client line (Some (Opens i terms)) h = absurd h
said_back node client line (Some (FailsToOpen i raised)) h = absurd h
said_back node client line (Some (Takes i input)) h = takes_said node client line i input h
said_back node client line (Some (Offers i)) h = absurd h
said_back node client line (Some (Stops i)) h = absurd h
said_back node client line (Some (StopsIn i true input)) h = absurd (cut_said node client line i input h)
said_back node client line (Some (StopsIn i false input)) h = absurd h
said_back node client line (Some (Loses i)) h = absurd h
said_back node client line (Some (Remakes i boot given floor)) h = absurd h
said_back node client line (Some (Enrols i t floor)) h = absurd h
said_back node client line (Some (Unlocks i t)) h = absurd h
said_back node client line (Some (OpensGate i t)) h = absurd h
said_back node client line (Some (Raises i t floor)) h = absurd h

-- the line comes in its action
comes_taken : (events : List WorldEvent) (e i : ℕ) (input : NodeEvent) → slice_get events e ≡ Some (line_taken i input) → Comes events e i input
comes_taken events e i (Client client moment text) at = λ line nonce h. subst (IsAskedIn i client line nonce) (sym at) (refl, refl, h)
comes_taken events e i (Peer from read) at = tt
comes_taken events e i Tick at = tt

comes_cut : (events : List WorldEvent) (e i : ℕ) (input : NodeEvent) → slice_get events e ≡ Some (line_cut i input) → Comes events e i input
comes_cut events e i (Client client moment text) at = λ line nonce h. subst (IsAskedIn i client line nonce) (sym at) (refl, refl, h)
comes_cut events e i (Peer from read) at = tt
comes_cut events e i Tick at = tt

said_taken : (events : List WorldEvent) (e i : ℕ) (input : NodeEvent) → slice_get events e ≡ Some (line_taken i input) → Said events e i input
said_taken events e i (Client client moment text) at = subst (IsSaidIn i client (without_lf text)) (sym at) (refl, refl, refl)
said_taken events e i (Peer from read) at = tt
said_taken events e i Tick at = tt

-- ---- notes under own numbers

-- an acceptance without its token
abbrev pub untokened : Acceptance → Acceptance
untokened pass = record pass { token = 0 }

-- notes under own numbers, and the same under canonical tokens
pub record AreNotes (raw notes : List Note) : Type 0 where
  pub begun : (p : ProposalRecord) → began_in (begun_in raw p) ≡ began_in (begun_in notes p)
  pub passes : map untokened (passes_in raw) ≡ map untokened (passes_in notes)

began_same : (e : ℕ) (name : ℕ → ℕ) (o : Option Beginning) (raw notes : ProposalRecord → Option Begun) → ((p : ProposalRecord) → began_in (raw p) ≡ began_in (notes p))
    → (p : ProposalRecord) → began_in (begun_with e o raw p) ≡ began_in (begun_with e (option_map (named_beginning name) o) notes p)
began_same e name None raw notes h p = h p
began_same e name (Some b) raw notes h p =
    let one : Begun = record { token = b.token; lo = b.lo; hi = b.hi; event = e } in
    let other : Begun = record { token = name b.token; lo = b.lo; hi = b.hi; event = e } in
    either (same_proposal p b.proposal) one other refl (raw p) (notes p) (h p)
  where
    either : (t : Bool) (one other : Begun) → one.event ≡ other.event → (x y : Option Begun) → began_in x ≡ began_in y → began_in (cond t (Some one) x) ≡ began_in (cond t (Some other) y)
    either true one other same x y k = same
    either false one other same x y k = k

map_append : {A B : Type 0} (f : A → B) (xs ys : List A) → map f (xs ++ ys) ≡ map f xs ++ map f ys
map_append f [] ys = refl
map_append f (x ∷ xs) ys = ap (λ l. f x ∷ l) (map_append f xs ys)

acceptance_same : (e i : ℕ) (name : ℕ → ℕ) (o : Option PassRecord) (raw notes : ProposalRecord → Option Begun) → ((p : ProposalRecord) → began_in (raw p) ≡ began_in (notes p))
    → map untokened (acceptance_in raw e i o) ≡ map untokened (acceptance_in notes e i (option_map (named_pass name) o))
acceptance_same e i name None raw notes h = refl
acceptance_same e i name (Some p) raw notes h =
    ap (λ b. record { began = b; ended = e; node = i; token = 0; lo = p.lo; hi = p.hi } ∷ []) (h (record { node = i; boot = p.boot; seq = p.seq }))

step_notes : (terms : Terms) (e i : ℕ) (made : Made) (raw notes : List Note) → AreNotes raw notes → AreNotes (note_of e i made ∷ raw) (note_of_step terms e i made ∷ notes)
step_notes terms e i made raw notes h =
    let name = seat_name terms.seats in
    let begun = began_same e name made.began (begun_in raw) (begun_in notes) h.begun in
    record {
      begun = begun;
      passes =
          map_append untokened (passes_in raw) (acceptance_in (begun_in (note_of e i made ∷ raw)) e i made.pass)
          ∙ ap (λ l. l ++ map untokened (acceptance_in (begun_in (note_of e i made ∷ raw)) e i made.pass)) h.passes
          ∙ ap (λ l. map untokened (passes_in notes) ++ l) (acceptance_same e i name made.pass (begun_in (note_of e i made ∷ raw)) (begun_in (note_of_step terms e i made ∷ notes)) begun)
          ∙ sym (map_append untokened (passes_in notes) (acceptance_in (begun_in (note_of_step terms e i made ∷ notes)) e i (option_map (named_pass name) made.pass)));
    }

anew_notes : (e i : ℕ) (raw notes : List Note) → AreNotes raw notes → AreNotes (note_anew e i ∷ raw) (note_anew e i ∷ notes)
anew_notes e i raw notes h = record {
  begun = h.begun;
  passes = ap (map untokened) (append-nil (passes_in raw)) ∙ h.passes ∙ sym (ap (map untokened) (append-nil (passes_in notes)));
}

-- ---- what is kept of every process

abbrev IsBacked : List WorldEvent → List Acceptance → Output → Type 0
IsBacked events passes (ToPeer sealed) = Unit {0}
IsBacked events passes (ToClient answer) = ToldBacked events passes answer

abbrev KeptAt : List WorldEvent → List Note → ℕ → ℕ → Process → Type 0
KeptAt events raw e i (Down store) = Unit {0}
KeptAt events raw e i (Up terms below state waiting) = NodeKept events raw e i state × Each (IsBacked events (passes_in raw)) waiting

-- the answers that an action at the given process makes
abbrev pub answers_made : Setting → ℕ → Action → Process → List Answer
answers_made setting e (Takes i input) (Up terms below x waiting) = map (told_reply e i) (made_by_input setting terms i input x).replies
answers_made setting e d p = []

-- the answers that an action makes
abbrev pub answers_by : Setting → ℕ → Action → State → List Answer
answers_by setting e d state = cond (can_be setting state d) (answers_made setting e d (state.processes (node_of_action d))) []

-- the answers that the actions make
abbrev pub answers_in : Setting → ℕ → List Action → State → List Answer
answers_in setting e [] state = []
answers_in setting e (d ∷ ds) state = answers_by setting e d state ++ answers_in setting (suc e) ds (state_after_action setting e d state)

-- `made` are the answers that the actions before made
pub record Honest (events : List WorldEvent) (e : ℕ) (state : State) (made : List Answer) : Type 0 where
  pub raw : List Note
  pub notes : AreNotes raw state.notes
  pub owed : AreOwed events made (passes_in raw)
  pub processes : (i : ℕ) → KeptAt events raw e i (state.processes i)
  pub offered : Each (IsBacked events (passes_in raw)) state.offered

backed_later : (events : List WorldEvent) (passes more : List Acceptance) (o : Output) → IsBacked events passes o → IsBacked events (passes ++ more) o
backed_later events passes more (ToPeer sealed) h = tt
backed_later events passes more (ToClient answer) h = λ ok.
    let b = h ok in
    let q = b.belongs in
    record {
      nonce = b.nonce;
      hi = b.hi;
      bytes = b.bytes;
      belongs = record {
        place = q.place;
        pass = q.pass;
        is_pass = get_more passes more q.place q.pass q.is_pass;
        node = q.node;
        ended = q.ended;
        last = q.last;
        line = q.line;
        asked = q.asked;
        again = q.again;
      };
    }

-- notes with further acceptances, in which the node has begun nothing
record Grows (i : ℕ) (raw new : List Note) : Type 0 where
  more : List Acceptance
  passes : passes_in new ≡ passes_in raw ++ more
  begun : (boot s : ℕ) → begun_in new (named i boot s) ≡ begun_in raw (named i boot s)

grows_none : (i : ℕ) (raw : List Note) → Grows i raw raw
grows_none i raw = record { more = []; passes = sym (append-nil (passes_in raw)); begun = λ boot s. refl }

grows_anew : (e j i : ℕ) (raw : List Note) → Grows i raw (note_anew e j ∷ raw)
grows_anew e j i raw = record { more = []; passes = refl; begun = λ boot s. refl }

grows_step : (e i j : ℕ) (made : Made) (raw : List Note) → BeganAt i made.began → (j ≡ i → ⊥) → Grows j raw (note_of e i made ∷ raw)
grows_step e i j made raw began ne = record {
  more = acceptance_in (begun_in (note_of e i made ∷ raw)) e i made.pass;
  passes = refl;
  begun = λ boot s. begun_elsewhere e i made.began (begun_in raw) began j boot s ne;
}

all_later : (events : List WorldEvent) (raw new : List Note) (more : List Acceptance) → passes_in new ≡ passes_in raw ++ more → (os : List Output) → Each (IsBacked events (passes_in raw)) os → Each (IsBacked events (passes_in new)) os
all_later events raw new more is os h =
    subst (λ l. Each (IsBacked events l) os) (sym is) (each_weaker (IsBacked events (passes_in raw)) (IsBacked events (passes_in raw ++ more)) (backed_later events (passes_in raw) more) os h)

kept_later : (events : List WorldEvent) (e i : ℕ) (raw new : List Note) (p : Process) → Grows i raw new → KeptAt events raw e i p → KeptAt events new (suc e) i p
kept_later events e i raw new (Down store) g h = tt
kept_later events e i raw new (Up terms below x waiting) g h = (
  record {
    owners = owners_later events (begun_in raw) (begun_in new) i x.content.boot x.voter.seq x.voter.seq x.owners (omega arith) (λ s lt. g.begun x.content.boot s) h.0.owners;
    owned = h.0.owned;
    answers = subst (λ l. Each (λ (a : KeptAnswer). IsOk a.text → Backed events l (suc e) i a.client a.line a.text) x.answers) (sym g.passes)
        (answers_later events (passes_in raw) g.more e i x.answers h.0.answers);
  },
  all_later events raw new g.more g.passes waiting h.1,
)

-- ---- an action

-- a gate is none of what is kept
unlocked_kept : (events : List WorldEvent) (raw : List Note) (e i : ℕ) (o : Option ℕ) (x : NodeState) → NodeKept events raw e i x → NodeKept events raw e i (state_unlocked o x)
unlocked_kept events raw e i None x h = h
unlocked_kept events raw e i (Some k) x h = record { owners = h.owners; owned = h.owned; answers = h.answers }

module _ (law : GroundLaw) (setting : Setting) (events : List WorldEvent) (e : ℕ) (state : State) (before : List Answer) (h : Honest events e state before) where
  -- the claims after an action that has no note
  quiet : (i : ℕ) (p : Process) (hs : List Output) → KeptAt events h.raw (suc e) i p → Each (IsBacked events (passes_in h.raw)) hs
      → (lost : ℕ → Bool) (least : ℕ → ℕ)
      → Honest events (suc e) (record { processes = with_process i p state.processes; lost = lost; least = least; offered = state.offered ++ hs; notes = state.notes }) (before ++ [])
  quiet i p hs here known lost least = record {
    raw = h.raw;
    notes = h.notes;
    owed = all_owed_later events before [] (passes_in h.raw) h.owed;
    processes = set_at (λ j q. KeptAt events h.raw (suc e) j q) i p state.processes here
        (λ j ne. kept_later events e j h.raw h.raw (state.processes j) (grows_none j h.raw) (h.processes j));
    offered = each_append (IsBacked events (passes_in h.raw)) state.offered hs h.offered known;
  }

  later : (i : ℕ) (p : Process) → KeptAt events h.raw e i p → KeptAt events h.raw (suc e) i p
  later i p k = kept_later events e i h.raw h.raw p (grows_none i h.raw) k

  opens : (i : ℕ) (terms : Terms) (store : Store) → KeptAt events h.raw (suc e) i (process_opened terms store)
  opens i terms store =
      cond_both (do_fit terms store && ltb store.content.boot last_boot) (Up terms store (opened_node (seen_in store terms.seats)) []) (Down store) (λ p. KeptAt events h.raw (suc e) i p)
      (λ _. (record { owners = tt; owned = tt; answers = tt }, tt)) (λ _. tt)

  tells : (i : ℕ) (terms : Terms) (x : NodeState) (input : NodeEvent) → Comes events e i input → NodeKept events h.raw e i x → Tells events h.raw e i (Said events e i input) (made_by_input setting terms i input x)
  unfolding made_by_event
  tells i terms x input comes k =
      cond_both x.running (made_while_running terms.config (place_in setting i) input x) (quiet_made x) (λ made. Tells events h.raw e i (Said events e i input) made)
      (λ _. event_tells law terms.config events h.raw e (place_in setting i) x input comes k) (λ _. resting_tells events h.raw e i (Said events e i input) x k)

  -- a step whose change is kept
  stepped : (i : ℕ) (terms : Terms) (x : NodeState) (made : Made) (premise : Type 0) → Tells events h.raw e i premise made → (p : Process) → KeptAt events (note_of e i made ∷ h.raw) (suc e) i p
      → (told : List Answer) → AreOwed events (before ++ told) (acceptance_in (begun_in (note_of e i made ∷ h.raw)) e i made.pass)
      → Honest events (suc e) (record { processes = with_process i p state.processes; lost = state.lost; least = state.least; offered = state.offered ++ []; notes = note_of_step terms e i made ∷ state.notes }) (before ++ told)
  stepped i terms x made premise t p here told owed =
      let raw = note_of e i made ∷ h.raw in
      record {
        raw = raw;
        notes = step_notes terms e i made h.raw state.notes h.notes;
        owed = each_append (λ (q : Acceptance). IsAnsweredIn events (before ++ told) q (slice_get events q.ended)) (passes_in h.raw) (acceptance_in (begun_in raw) e i made.pass)
            (all_owed_later events before told (passes_in h.raw) h.owed) owed;
        processes = set_at (λ j q. KeptAt events raw (suc e) j q) i p state.processes here
            (λ j ne. kept_later events e j h.raw raw (state.processes j) (grows_step e i j made h.raw t.began ne) (h.processes j));
        offered = each_append (IsBacked events (passes_in raw)) state.offered [] (all_later events h.raw raw (acceptance_in (begun_in raw) e i made.pass) refl state.offered h.offered) tt;
      }

  sends_backed : (passes : List Acceptance) (xs : List Sealed) → Each (IsBacked events passes) (map (λ (sealed : Sealed). ToPeer sealed) xs)
  sends_backed passes [] = tt
  sends_backed passes (x ∷ xs) = (tt, sends_backed passes xs)

  replies_backed : (i : ℕ) (passes : List Acceptance) (rs : List Reply) → Each (λ (r : Reply). ToldBacked events passes (told_reply e i r)) rs → Each (IsBacked events passes) (map (λ (answer : Answer). ToClient answer) (map (told_reply e i) rs))
  replies_backed i passes [] k = tt
  replies_backed i passes (r ∷ rs) k = (k.0, replies_backed i passes rs k.1)

  takes : (i : ℕ) (terms : Terms) (below : Store) (x : NodeState) (waiting : List Output) (input : NodeEvent) → slice_get events e ≡ Some (line_taken i input) → KeptAt events h.raw e i (Up terms below x waiting)
      → Honest events (suc e) (state_with setting e (Takes i input) (Up terms below x waiting) state) (before ++ map (told_reply e i) (made_by_input setting terms i input x).replies)
  takes i terms below x waiting input at k =
      let made = made_by_input setting terms i input x in
      let raw = note_of e i made ∷ h.raw in
      let t = tells i terms x input (comes_taken events e i input at) k.0 in
      stepped i terms x made (Said events e i input) t (Up terms below made.state (waiting ++ outputs_of_step terms e i made)) (
        t.state,
        each_append (IsBacked events (passes_in raw)) waiting (outputs_of_step terms e i made)
            (all_later events h.raw raw (acceptance_in (begun_in raw) e i made.pass) refl waiting k.1)
            (each_append (IsBacked events (passes_in raw)) (map (λ (sealed : Sealed). ToPeer sealed) (map (sealed_from terms i) made.sends)) (map (λ (answer : Answer). ToClient answer) (map (told_reply e i) made.replies))
            (sends_backed (passes_in raw) (map (sealed_from terms i) made.sends)) (replies_backed i (passes_in raw) made.replies (t.told (said_taken events e i input at)))),
      ) (map (told_reply e i) made.replies) (new_owed events e i (begun_in raw) before made.replies (line_act i input) at made.pass t.replied)

  cuts : (i : ℕ) (terms : Terms) (below : Store) (x : NodeState) (waiting : List Output) (input : NodeEvent) → slice_get events e ≡ Some (line_cut i input) → KeptAt events h.raw e i (Up terms below x waiting)
      → Honest events (suc e) (state_with setting e (StopsIn i true input) (Up terms below x waiting) state) (before ++ [])
  cuts i terms below x waiting input at k =
      let made = made_by_input setting terms i input x in
      stepped i terms x made (Said events e i input) (tells i terms x input (comes_cut events e i input at) k.0) (Down _) tt []
      (stop_owes events e i (begun_in (note_of e i made ∷ h.raw)) (before ++ []) (line_act i input) at made.pass)

  offers : (i : ℕ) (terms : Terms) (below : Store) (x : NodeState) (waiting : List Output) → KeptAt events h.raw e i (Up terms below x waiting)
      → Honest events (suc e) (state_with setting e (Offers i) (Up terms below x waiting) state) (before ++ [])
  offers i terms below x [] k = quiet i (Up terms below x []) [] (later i (Up terms below x []) k) tt state.lost state.least
  offers i terms below x (o ∷ waiting) k = quiet i (Up terms below x waiting) (o ∷ []) (later i (Up terms below x waiting) (k.0, k.1.1)) (k.1.0, tt) state.lost state.least

  -- a store is replaced
  anew : (i : ℕ) (p : Process) → KeptAt events (note_anew e i ∷ h.raw) (suc e) i p → (lost : ℕ → Bool)
      → Honest events (suc e) (record { processes = with_process i p state.processes; lost = lost; least = state.least; offered = state.offered ++ []; notes = note_anew e i ∷ state.notes }) (before ++ [])
  anew i p here lost =
      let raw = note_anew e i ∷ h.raw in
      record {
        raw = raw;
        notes = anew_notes e i h.raw state.notes h.notes;
        owed = each_append (λ (q : Acceptance). IsAnsweredIn events (before ++ []) q (slice_get events q.ended)) (passes_in h.raw) [] (all_owed_later events before [] (passes_in h.raw) h.owed) tt;
        processes = set_at (λ j q. KeptAt events raw (suc e) j q) i p state.processes here
            (λ j ne. kept_later events e j h.raw raw (state.processes j) (grows_anew e i j h.raw) (h.processes j));
        offered = each_append (IsBacked events (passes_in raw)) state.offered [] (all_later events h.raw raw [] refl state.offered h.offered) tt;
      }

  at_process : (d : Action) (p : Process) → slice_get events e ≡ Some (line_event d) → KeptAt events h.raw e (node_of_action d) p → Honest events (suc e) (state_with setting e d p state) (before ++ answers_made setting e d p)
  at_process (Opens i terms) (Down store) at k = quiet i (process_opened terms store) [] (opens i terms store) tt state.lost state.least
  at_process (Opens i terms) (Up own below x waiting) at k = quiet i (Up own below x waiting) [] (later i (Up own below x waiting) k) tt state.lost state.least
  at_process (FailsToOpen i true) (Down store) at k =
      quiet i (cond (ltb store.content.boot last_boot) (Down (store_in_next_boot store)) (Down store)) []
      (cond_both (ltb store.content.boot last_boot) (Down (store_in_next_boot store)) (Down store) (λ p. KeptAt events h.raw (suc e) i p) (λ _. tt) (λ _. tt)) tt state.lost state.least
  at_process (FailsToOpen i false) (Down store) at k = quiet i (Down store) [] tt tt state.lost state.least
  at_process (FailsToOpen i raised) (Up own below x waiting) at k = quiet i (Up own below x waiting) [] (later i (Up own below x waiting) k) tt state.lost state.least
  at_process (Takes i input) (Down store) at k = quiet i (Down store) [] tt tt state.lost state.least
  at_process (Takes i input) (Up terms below x waiting) at k = takes i terms below x waiting input at k
  at_process (Offers i) (Down store) at k = quiet i (Down store) [] tt tt state.lost state.least
  at_process (Offers i) (Up terms below x waiting) at k = offers i terms below x waiting k
  at_process (Stops i) (Down store) at k = quiet i (Down store) [] tt tt state.lost state.least
  at_process (Stops i) (Up terms below x waiting) at k = quiet i (Down _) [] tt tt state.lost state.least
  at_process (StopsIn i true input) (Down store) at k = quiet i (Down store) [] tt tt state.lost state.least
  at_process (StopsIn i false input) (Down store) at k = quiet i (Down store) [] tt tt state.lost state.least
  at_process (StopsIn i false input) (Up terms below x waiting) at k = quiet i (Down _) [] tt tt state.lost state.least
  at_process (StopsIn i true input) (Up terms below x waiting) at k = cuts i terms below x waiting input at k
  at_process (Loses i) p at k = quiet i (Down _) [] tt tt _ _
  at_process (Remakes i boot given floor) (Down store) at k = anew i (Down _) tt _
  at_process (Remakes i boot given floor) (Up own below x waiting) at k = anew i (Up own below x waiting) (kept_later events e i h.raw (note_anew e i ∷ h.raw) (Up own below x waiting) (grows_anew e i i h.raw) k) _
  at_process (Enrols i t floor) (Down store) at k =
      quiet i (cond (may_enrol setting t store) (Down (store_with_row t floor store)) (Down store)) []
      (cond_both (may_enrol setting t store) (Down (store_with_row t floor store)) (Down store) (λ p. KeptAt events h.raw (suc e) i p) (λ _. tt) (λ _. tt)) tt state.lost state.least
  at_process (Enrols i t floor) (Up own below x waiting) at k = quiet i (Up own below x waiting) [] (later i (Up own below x waiting) k) tt state.lost state.least
  at_process (Unlocks i t) (Down store) at k = quiet i (Down _) [] tt tt state.lost state.least
  at_process (OpensGate i t) (Down store) at k = quiet i (Down store) [] tt tt state.lost state.least
  at_process (Unlocks i t) (Up own below x waiting) at k = quiet i (Up own below x waiting) [] (later i (Up own below x waiting) k) tt state.lost state.least
  at_process (OpensGate i t) (Up own below x waiting) at k =
      let x' = state_unlocked (number_to_unlock own t x) x in
      quiet i (Up own below x' waiting) [] (later i (Up own below x' waiting) (unlocked_kept events h.raw e i (number_to_unlock own t x) x k.0, k.1)) tt state.lost state.least
  at_process (Raises i t floor) (Down store) at k = quiet i (Down _) [] tt tt state.lost state.least
  at_process (Raises i t floor) (Up own below x waiting) at k = quiet i (Up own below x waiting) [] (later i (Up own below x waiting) k) tt state.lost state.least

  still : Honest events (suc e) state (before ++ [])
  still = record {
    raw = h.raw;
    notes = h.notes;
    owed = all_owed_later events before [] (passes_in h.raw) h.owed;
    processes = λ j. kept_later events e j h.raw h.raw (state.processes j) (grows_none j h.raw) (h.processes j);
    offered = h.offered;
  }

  -- an action that is possible, or not
  either : (can : Bool) (new : State) (made : List Answer) → Honest events (suc e) new (before ++ made) → Honest events (suc e) (cond can new state) (before ++ cond can made [])
  either true new made there = there
  either false new made there = still

  follows : (d : Action) → slice_get events e ≡ Some (line_event d) → Honest events (suc e) (state_after_action setting e d state) (before ++ answers_by setting e d state)
  unfolding state_after_action
  follows d at =
      let p = state.processes (node_of_action d) in
      either (can_be setting state d) (state_with setting e d p state) (answers_made setting e d p) (at_process d p at (h.processes (node_of_action d)))

all_honest : GroundLaw → (setting : Setting) (events : List WorldEvent) (first : ℕ) (history : List Action) (state : State) (before : List Answer)
    → ((k m : ℕ) → m ≡ first + k → slice_get events m ≡ slice_get (map line_event history) k) → Honest events first state before
    → (last : ℕ) × Honest events last (state_after setting first history state) (before ++ answers_in setting first history state)
unfolding state_after
all_honest law setting events first [] state before there h = (first, subst (λ made. Honest events first state made) (sym (append-nil before)) h)
all_honest law setting events first (d ∷ history) state before there h =
    let made = answers_by setting first d state in
    let new = state_after_action setting first d state in
    let next = follows law setting events first state before h d (there 0 first (omega arith)) in
    let rest = all_honest law setting events (suc first) history new (before ++ made) (λ k m is. there (suc k) m (omega (arith, is))) next in
    (rest.0, subst (λ z. Honest events rest.0 (state_after setting (suc first) history new) z) (append_assoc before made (answers_in setting (suc first) history new)) rest.1)

old_backed : (events : List WorldEvent) (xs : List Sealed) → Each (IsBacked events []) (map (λ (sealed : Sealed). ToPeer sealed) xs)
old_backed events [] = tt
old_backed events (x ∷ xs) = (tt, old_backed events xs)

-- at the end of a history
pub whole_honest : GroundLaw → (setting : Setting) (history : List Action) → (last : ℕ) × Honest (map line_event history) last (state_of setting history) (answers_in setting 0 history (first_state setting))
whole_honest law setting history =
    let events = map line_event history in
    let first : Honest events 0 (first_state setting) [] = record { raw = []; notes = record { begun = λ p. refl; passes = refl }; owed = tt; processes = λ j. tt; offered = old_backed events setting.old } in
    all_honest law setting events 0 history (first_state setting) [] (λ k m is. ap (slice_get events) (plain k m is)) first
  where
    plain : (k m : ℕ) → m ≡ 0 + k → m ≡ k
    plain k m is = omega (arith, is)

-- ---- the promise

told_among : (events : List WorldEvent) (passes : List Acceptance) (os : List Output) → Each (IsBacked events passes) os → Each (ToldBacked events passes) (answers_among os)
told_among events passes [] h = tt
told_among events passes (ToPeer sealed ∷ os) h = told_among events passes os h.1
told_among events passes (ToClient answer ∷ os) h = (h.0, told_among events passes os h.1)

-- the acceptance under its canonical token
tokened : (raw notes : List Note) (k : ℕ) (pass : Acceptance) → AreNotes raw notes → slice_get (passes_in raw) k ≡ Some pass → (p : Acceptance) × (slice_get (passes_in notes) k ≡ Some p) × (untokened pass ≡ untokened p)
tokened raw notes k pass h at =
    one (slice_get (passes_in notes) k) refl
    (sym (slice_get-map untokened (passes_in notes) k) ∙ ap (λ l. slice_get l k) (sym h.passes) ∙ slice_get-map untokened (passes_in raw) k ∙ ap (option_map untokened) at)
  where
    one : (o : Option Acceptance) → slice_get (passes_in notes) k ≡ o → option_map untokened o ≡ Some (untokened pass) → (p : Acceptance) × (slice_get (passes_in notes) k ≡ Some p) × (untokened pass ≡ untokened p)
    one None is q = absurd (none-some (untokened pass) q)
    one (Some p) is q = (p, is, sym (same_Some (untokened p) (untokened pass) q))

-- an answer that belongs to an acceptance under own numbers belongs to it in the history
belongs : (setting : Setting) (history : List Action) (raw : List Note) (answer : Answer) → AreNotes raw (state_of setting history).notes → BelongsToPass (map line_event history) (passes_in raw) answer → BelongsToAcceptance setting history answer
belongs setting history raw answer notes b =
    let q = b.belongs in
    found q.pass (tokened raw (state_of setting history).notes q.place q.pass notes q.is_pass) q.node q.ended q.asked q.last q.again
  where
    found : (pass : Acceptance) → (p : Acceptance) × (slice_get (passes_in (state_of setting history).notes) b.belongs.place ≡ Some p) × (untokened pass ≡ untokened p) → pass.node ≡ answer.node → pass.ended ≤ answer.event
        → IsAskedIn answer.node answer.client b.belongs.line b.nonce (slice_get (map line_event history) pass.began) → pass.hi ≡ b.hi
        → (pass.ended < answer.event → IsSaidIn answer.node answer.client b.belongs.line (slice_get (map line_event history) answer.event)) → BelongsToAcceptance setting history answer
    found pass t node ended asked last again = record {
      place = b.belongs.place;
      pass = t.0;
      is_pass = t.1;
      node = sym (ap (λ (p : Acceptance). p.node) t.2) ∙ node;
      ended = subst (λ m. m ≤ answer.event) (ap (λ (p : Acceptance). p.ended) t.2) ended;
      line = b.belongs.line;
      nonce = b.nonce;
      asked = subst (λ m. IsAskedInAction answer.node answer.client b.belongs.line b.nonce (slice_get history m)) (ap (λ (p : Acceptance). p.began) t.2)
          (asked_back answer.node answer.client b.belongs.line b.nonce (slice_get history pass.began)
          (subst (IsAskedIn answer.node answer.client b.belongs.line b.nonce) (slice_get-map line_event history pass.began) asked));
      bytes = b.bytes ∙ ap (ok_bytes b.nonce) (sym last ∙ ap (λ (p : Acceptance). p.hi) t.2);
      again = λ later. said_back answer.node answer.client b.belongs.line (slice_get history answer.event)
          (subst (IsSaidIn answer.node answer.client b.belongs.line) (slice_get-map line_event history answer.event) (again (subst (λ m. m < answer.event) (sym (ap (λ (p : Acceptance). p.ended) t.2)) later)));
    }

pub answer_truly : GroundLaw → (setting : Setting) (history : List Action) → AnswerTruly setting history (answered_in setting history)
answer_truly law setting history i answer at ok =
    let events = map line_event history in
    let h = (whole_honest law setting history).1 in
    belongs setting history h.raw answer h.notes (each_get (ToldBacked events (passes_in h.raw)) (answered_in setting history) i answer (told_among events (passes_in h.raw) (state_of setting history).offered h.offered) at ok)

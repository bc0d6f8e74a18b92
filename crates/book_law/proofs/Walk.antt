-- A history is a run of votes, action by action.
use Rattle.std.proofs.Common.{◌≡◌, ℕ, zero, suc, true, false, cond, ◌&&◌, List, [], ◌∷◌, ◌++◌, map, take, Option, Some, None, refl, sym, ap, ◌∙◌, subst, arith, ltb}
use mathlib.Core.Path.{fun_ext}
use Rattle.std.specs.List.{slice_get}
use Rattle.std.proofs.lemmas.Bool.{and_parts, cond_both, false≢true}
use Rattle.std.proofs.lemmas.Option.{none-some}
use Rattle.otp_core.specs.Acceptance.{Acceptance, HaveSingleUse, KeepRealTimeOrder}
use Rattle.oath_node.specs.Machine.{NodeEvent, NodeState, opened_node}
use Rattle.vote_core.specs.Books.{blank_opening}
use Rattle.vote_core.specs.Roster.{Roster, opened}
use Rattle.vote_core.specs.RosterExamples.{none_enrolled}
use Rattle.floor_store.specs.Content.{with_row}
use Rattle.vote_core.specs.Rows.{row, row_with_next}
use Rattle.vote_core.specs.Voting.{raise}
use Rattle.vote_core.specs.Safety.{HaveMajority, IsProposedIn, MayOpen}
use Rattle.vote_core.specs.Schedule.{Cluster, Envelope, Event, Opening, acceptances, after_event, floor_before, is_member, last_boot, run, start as vote_start}
use Rattle.vote_core.proofs.Basics.{Each, opening_size}
use Rattle.vote_core.proofs.Envelopes.{Posts, all_deliverable}
use Rattle.vote_core.proofs.Unknown.{opening_free}
use Rattle.cluster_sim.proofs.BelowLaws.{GroundLaw, VoteLaw}
use Rattle.cluster_sim.proofs.Owners.{get_more}
use Rattle.cluster_sim.specs.World.{passes_in}
use Rattle.seat_law.specs.Below.{site_of}
use Rattle.seat_law.specs.Seats.{Sites, blank_sites}
use Rattle.seat_law.proofs.Relation.{Sim, free_same, fresh_named}
use Rattle.book_law.specs.Lives.{Action, Opens, FailsToOpen, Takes, Offers, Stops, StopsIn, Loses, Remakes, Enrols, Unlocks, OpensGate, Raises, AreGenuine, IsGenuineAction, IsGenuineAt, IsHistory, Output, Process, Sealed, Setting, State, Store, Terms, ToPeer, Down, Up, accepted_in, can_be, content_raised, content_unlocked, do_fit, first_state, floor_in, floor_of, has_store, made_boot, may_enrol, node_of_action, number_to_unlock, process_opened, row_of, seen_in, state_after, state_after_action, state_of, state_unlocked, state_with, store_at, store_in_next_boot, store_raised, store_under, store_unlocked, store_with_row}
use Rattle.book_law.proofs.Actions.{alone, changed, cuts, half_opens, loses, opens, stays, takes}
use Rattle.book_law.proofs.Commands.{raises, unlocks}
use Rattle.book_law.proofs.Effects.{Fitted, HasSent, IsSent}
use Rattle.book_law.proofs.Fits.{Fits, IsAt, Next, free_is, in_other_words, is_kept}
use Rattle.book_law.proofs.Floors.{FloorsSentBy, all_grow, told_may, told_of, told_sent}
use Rattle.book_law.proofs.Opened.{open_stored}
use Rattle.book_law.proofs.Operators.{opens_gate, number_is_own}
use Rattle.book_law.proofs.Stores.{enrols, remakes}

-- the acceptance is proposed in the input of a node's process
abbrev pub FittedAt : Process → ℕ → NodeEvent → Acceptance → Type 0
FittedAt (Down store) i input p = ⊥
FittedAt (Up terms below node waiting) i input p = Fitted terms node i input p

-- the acceptance is proposed in the action
abbrev pub IsFittedIn : State → Action → Acceptance → Type 0
IsFittedIn state (Takes i input) p = FittedAt (state.processes i) i input p
IsFittedIn state (StopsIn i true input) p = FittedAt (state.processes i) i input p
IsFittedIn state d p = ⊥

abbrev pub IsFittedThere : State → Option Action → Acceptance → Type 0
IsFittedThere state None p = ⊥
IsFittedThere state (Some d) p = IsFittedIn state d p

module _ (law : GroundLaw) (setting : Setting) (e : ℕ) (state : State) (s : Sites) (r : Roster) (sim : Sim s r) (posts : Posts s.seen.tokens r.cluster) (fits : Fits setting state s) (Q : Acceptance → Type 0) where
  -- only the process of a node changes
  only : (i : ℕ) (p : Process) (hs : List Output) → IsAt s.seen.own.sent (state.lost i) (site_of s i) p → Each (IsSent s.seen.own.sent) hs → Next setting e r (changed i p hs state) Q
  only i p hs here known = stays setting e s r (changed i p hs state) Q sim posts (alone setting i p hs state s fits here known)

  opens_here : (i : ℕ) (terms : Terms) (store : Store) → has_store setting state i ≡ true → IsAt s.seen.own.sent (state.lost i) (site_of s i) (Down store) → Next setting e r (changed i (process_opened terms store) [] state) Q
  opens_here i terms store can at =
      let b = do_fit terms store && ltb store.content.boot last_boot in
      cond_both b (Up terms store (opened_node (seen_in store terms.seats)) []) (Down store) (λ p. Next setting e r (changed i p [] state) Q)
      (λ q. let parts = and_parts (do_fit terms store) (ltb store.content.boot last_boot) q in opens setting e i terms store state s r sim posts fits can at.0 parts.0 parts.1 Q)
      (λ _. only i (Down store) [] at tt)

  half_here : (i : ℕ) (store : Store) → has_store setting state i ≡ true → IsAt s.seen.own.sent (state.lost i) (site_of s i) (Down store)
      → Next setting e r (changed i (cond (ltb store.content.boot last_boot) (Down (store_in_next_boot store)) (Down store)) [] state) Q
  half_here i store can at =
      cond_both (ltb store.content.boot last_boot) (Down (store_in_next_boot store)) (Down store) (λ p. Next setting e r (changed i p [] state) Q)
      (λ low. half_opens setting e i store state s r sim posts fits can at.0 low Q) (λ _. only i (Down store) [] at tt)

  enrols_here : (i t floor : ℕ) (store : Store) → has_store setting state i ≡ true → state.lost i ≡ false → IsAt s.seen.own.sent (state.lost i) (site_of s i) (Down store)
      → Next setting e r (changed i (cond (may_enrol setting t store) (Down (store_with_row t floor store)) (Down store)) [] state) Q
  enrols_here i t floor store can kept at =
      cond_both (may_enrol setting t store) (Down (store_with_row t floor store)) (Down store) (λ p. Next setting e r (changed i p [] state) Q)
      (λ new. enrols setting e i t floor store state s r sim posts fits can at.0 (at.1 kept) new Q) (λ _. only i (Down store) [] at tt)

  ends : (i : ℕ) (terms : Terms) (below : Store) (node : NodeState) (waiting : List Output) → IsAt s.seen.own.sent (state.lost i) (site_of s i) (Up terms below node waiting)
      → Next setting e r (changed i (Down (store_under terms.seats node.content below)) [] state) Q
  ends i terms below node waiting at =
      only i (Down (store_under terms.seats node.content below)) [] (open_stored (site_of s i) terms below node at.0, λ kept. ap (λ m. m.running) at.0.member) tt

  offers : (i : ℕ) (terms : Terms) (below : Store) (node : NodeState) (waiting : List Output) → IsAt s.seen.own.sent (state.lost i) (site_of s i) (Up terms below node waiting)
      → Next setting e r (state_with setting e (Offers i) (Up terms below node waiting) state) Q
  offers i terms below node [] at = only i (Up terms below node []) [] at tt
  offers i terms below node (h ∷ waiting) at = only i (Up terms below node waiting) (h ∷ []) (at.0, at.1.1, at.2) (at.1.0, tt)

  unlocks_here : (i t : ℕ) (store : Store) → has_store setting state i ≡ true → state.lost i ≡ false → IsAt s.seen.own.sent (state.lost i) (site_of s i) (Down store) → (o : Option ℕ) → row_of store t ≡ o
      → Next setting e r (changed i (Down (store_unlocked t store)) [] state) Q
  unlocks_here i t store can kept at o found =
      subst (λ z. Next setting e r (changed i (Down (record store { content = content_unlocked z store.content })) [] state) Q) (sym found) (row_unlocked o found)
    where
      row_unlocked : (o : Option ℕ) → row_of store t ≡ o → Next setting e r (changed i (Down (record store { content = content_unlocked o store.content })) [] state) Q
      row_unlocked None none = only i (Down store) [] at tt
      row_unlocked (Some k) some = unlocks setting e i t store state s r sim posts fits can at.0 (at.1 kept) Q k some

  opens_gate_here : (i t : ℕ) (terms : Terms) (below : Store) (node : NodeState) (waiting : List Output) → has_store setting state i ≡ true → IsAt s.seen.own.sent (state.lost i) (site_of s i) (Up terms below node waiting)
      → (o : Option ℕ) → number_to_unlock terms t node ≡ o → Next setting e r (changed i (Up terms below (state_unlocked o node) waiting) [] state) Q
  opens_gate_here i t terms below node waiting can at None none = only i (Up terms below node waiting) [] at tt
  opens_gate_here i t terms below node waiting can at (Some k) some = opens_gate setting e i terms below node waiting t k state s r sim posts fits can at (number_is_own terms t k node some) Q

  raises_here : (i t floor : ℕ) (store : Store) → has_store setting state i ≡ true → state.lost i ≡ false → IsAt s.seen.own.sent (state.lost i) (site_of s i) (Down store) → (o : Option ℕ) → row_of store t ≡ o
      → Next setting e r (changed i (Down (store_raised t floor store)) [] state) Q
  unfolding raise
  raises_here i t floor store can kept at o found =
      subst (λ z. Next setting e r (changed i (Down (record store { content = content_raised z floor store.content })) [] state) Q) (sym found) (row_raised o found)
    where
      row_raised : (o : Option ℕ) → row_of store t ≡ o → Next setting e r (changed i (Down (record store { content = content_raised o floor store.content })) [] state) Q
      row_raised None none = only i (Down store) [] at tt
      row_raised (Some k) some =
          cond_both (ltb (row store.content k).next floor) (with_row store.content k (row_with_next floor (row store.content k)) None) store.content (λ d. Next setting e r (changed i (Down (record store { content = d })) [] state) Q)
          (λ lower. raises setting e i t store state s r sim posts fits can at.0 (at.1 kept) Q k floor some lower) (λ _. only i (Down store) [] at tt)

  -- a node that has lost its store has no process
  pub lost_up : (i boot : ℕ) (given : List ℕ) (floor : ℕ → ℕ) (terms : Terms) (below : Store) (node : NodeState) (waiting : List Output) → IsAt s.seen.own.sent (state.lost i) (site_of s i) (Up terms below node waiting)
      → can_be setting state (Remakes i boot given floor) ≡ true → ⊥
  lost_up i boot given floor terms below node waiting at can =
      let lost = (and_parts (is_member setting.n i) (state.lost i) (and_parts (is_member setting.n i && state.lost i) _ (and_parts _ _ can).1).0).1 in
      false≢true (sym at.2 ∙ lost)

module _ (law : GroundLaw) (setting : Setting) (e : ℕ) (state : State) (s : Sites) (r : Roster) (sim : Sim s r) (posts : Posts s.seen.tokens r.cluster) (fits : Fits setting state s) where
  stepped_in : (i : ℕ) (terms : Terms) (below : Store) (node : NodeState) (waiting : List Output) (input : NodeEvent) → state.processes i ≡ Up terms below node waiting → (p : Acceptance) → Fitted terms node i input p → FittedAt (state.processes i) i input p
  stepped_in i terms below node waiting input is p h = subst (λ q. FittedAt q i input p) (sym is) h

  -- an action that is possible, at the node's process
  at_process : (d : Action) (p : Process) → state.processes (node_of_action d) ≡ p → IsAt s.seen.own.sent (state.lost (node_of_action d)) (site_of s (node_of_action d)) p → can_be setting state d ≡ true
      → IsGenuineAction state d → FloorsSentBy setting s.seen.own.sent d → Next setting e r (state_with setting e d p state) (IsFittedIn state d)
  at_process (Opens i terms) (Down store) is at can g f = opens_here law setting e state s r sim posts fits (IsFittedIn state (Opens i terms)) i terms store can at
  at_process (Opens i terms) (Up own below node waiting) is at can g f = only law setting e state s r sim posts fits (IsFittedIn state (Opens i terms)) i (Up own below node waiting) [] at tt
  at_process (FailsToOpen i true) (Down store) is at can g f = half_here law setting e state s r sim posts fits (IsFittedIn state (FailsToOpen i true)) i store can at
  at_process (FailsToOpen i false) (Down store) is at can g f = only law setting e state s r sim posts fits (IsFittedIn state (FailsToOpen i false)) i (Down store) [] at tt
  at_process (FailsToOpen i raised) (Up own below node waiting) is at can g f = only law setting e state s r sim posts fits (IsFittedIn state (FailsToOpen i raised)) i (Up own below node waiting) [] at tt
  at_process (Takes i input) (Down store) is at can g f = only law setting e state s r sim posts fits (IsFittedIn state (Takes i input)) i (Down store) [] at tt
  at_process (Takes i input) (Up terms below node waiting) is at can g f =
      in_other_words (Fitted terms node i input) (FittedAt (state.processes i) i input) (stepped_in i terms below node waiting input is)
      (takes law setting e i terms below node waiting input state s r sim posts fits can at (subst (λ p. IsGenuineAt p state.offered input) is g) f)
  at_process (Offers i) (Down store) is at can g f = only law setting e state s r sim posts fits (IsFittedIn state (Offers i)) i (Down store) [] at tt
  at_process (Offers i) (Up terms below node waiting) is at can g f = offers law setting e state s r sim posts fits (IsFittedIn state (Offers i)) i terms below node waiting at
  at_process (Stops i) (Down store) is at can g f = only law setting e state s r sim posts fits (IsFittedIn state (Stops i)) i (Down store) [] at tt
  at_process (Stops i) (Up terms below node waiting) is at can g f = ends law setting e state s r sim posts fits (IsFittedIn state (Stops i)) i terms below node waiting at
  at_process (StopsIn i true input) (Down store) is at can g f = only law setting e state s r sim posts fits (IsFittedIn state (StopsIn i true input)) i (Down store) [] at tt
  at_process (StopsIn i false input) (Down store) is at can g f = only law setting e state s r sim posts fits (IsFittedIn state (StopsIn i false input)) i (Down store) [] at tt
  at_process (StopsIn i false input) (Up terms below node waiting) is at can g f = ends law setting e state s r sim posts fits (IsFittedIn state (StopsIn i false input)) i terms below node waiting at
  at_process (StopsIn i true input) (Up terms below node waiting) is at can g f =
      in_other_words (Fitted terms node i input) (FittedAt (state.processes i) i input) (stepped_in i terms below node waiting input is)
      (cuts law setting e i terms below node waiting input state s r sim posts fits can at (subst (λ p. IsGenuineAt p state.offered input) is g) f)
  at_process (Loses i) p is at can g f = loses setting e i p state s r sim posts fits can at (IsFittedIn state (Loses i))
  at_process (Remakes i boot given floor) (Down store) is at can g f = remakes setting e i boot given floor (Down store) state s r sim posts fits can at is (IsFittedIn state (Remakes i boot given floor))
  at_process (Remakes i boot given floor) (Up own below node waiting) is at can g f = absurd (lost_up law setting e state s r sim posts fits (IsFittedIn state (Remakes i boot given floor)) i boot given floor own below node waiting at can)
  at_process (Enrols i t floor) (Down store) is at can g f = enrols_here law setting e state s r sim posts fits (IsFittedIn state (Enrols i t floor)) i t floor store can (is_kept setting state i can) at
  at_process (Enrols i t floor) (Up own below node waiting) is at can g f = only law setting e state s r sim posts fits (IsFittedIn state (Enrols i t floor)) i (Up own below node waiting) [] at tt
  at_process (Unlocks i t) (Down store) is at can g f = unlocks_here law setting e state s r sim posts fits (IsFittedIn state (Unlocks i t)) i t store can (is_kept setting state i can) at (row_of store t) refl
  at_process (OpensGate i t) (Down store) is at can g f = only law setting e state s r sim posts fits (IsFittedIn state (OpensGate i t)) i (Down store) [] at tt
  at_process (Unlocks i t) (Up own below node waiting) is at can g f = only law setting e state s r sim posts fits (IsFittedIn state (Unlocks i t)) i (Up own below node waiting) [] at tt
  at_process (OpensGate i t) (Up own below node waiting) is at can g f =
      opens_gate_here law setting e state s r sim posts fits (IsFittedIn state (OpensGate i t)) i t own below node waiting can at (number_to_unlock own t node) refl
  at_process (Raises i t floor) (Down store) is at can g f = raises_here law setting e state s r sim posts fits (IsFittedIn state (Raises i t floor)) i t floor store can (is_kept setting state i can) at (row_of store t) refl
  at_process (Raises i t floor) (Up own below node waiting) is at can g f = only law setting e state s r sim posts fits (IsFittedIn state (Raises i t floor)) i (Up own below node waiting) [] at tt

  pub follows : (d : Action) → IsGenuineAction state d → FloorsSentBy setting s.seen.own.sent d → Next setting e r (state_after_action setting e d state) (IsFittedIn state d)
  unfolding state_after_action
  follows d g f =
      let i = node_of_action d in
      let p = state.processes i in
      cond_both (can_be setting state d) (state_with setting e d p state) state (λ z. Next setting e r z (IsFittedIn state d))
      (λ can. at_process d p refl (fits.nodes i) can g f)
      (λ _. stays setting e s r state (IsFittedIn state d) sim posts fits)

-- ---- all actions

-- the state at one moment, as sites and a roster after the events
pub record Holds (setting : Setting) (state : State) (w : Cluster) : Type 0 where
  pub sites : Sites
  pub roster : Roster
  pub sim : Sim sites roster
  pub posts : Posts sites.seen.tokens roster.cluster
  pub fits : Fits setting state sites
  pub same : roster.cluster ≡ w

pub record Walked (setting : Setting) (first : ℕ) (history : List Action) (state : State) (w : Cluster) : Type 0 where
  pub events : List Event
  pub whole : Holds setting (state_after setting first history state) (run first events w)
  pub at : (k : ℕ) → Holds setting (state_after setting first (take k history) state) (run first (take k events) w)
  pub fitted : (k : ℕ) (p : Acceptance) → IsProposedIn p (slice_get events k) → IsFittedThere (state_after setting first (take k history) state) (slice_get history k) p

walk : GroundLaw → (setting : Setting) (first : ℕ) (history : List Action) (state : State) (w : Cluster) (holds : Holds setting state w) → AreGenuine setting first history state
    → Each (FloorsSentBy setting holds.sites.seen.own.sent) history → Walked setting first history state w
unfolding state_after run AreGenuine
walk law setting first [] state w h g f = record { events = []; whole = h; at = none h; fitted = λ k p q. absurd q }
  where
    none : Holds setting state w → (k : ℕ) → Holds setting (state_after setting first (take k []) state) (run first (take k []) w)
    none h zero = h
    none h (suc k) = h
walk law setting first (d ∷ history) state w h g f =
    let next = follows law setting first state h.sites h.roster h.sim h.posts h.fits d g.0 f.0 in
    let now : Holds setting (state_after_action setting first d state) (after_event first next.event w) =
    record { sites = next.sites; roster = next.roster; sim = next.sim; posts = next.posts; fits = next.fits; same = next.same ∙ ap (after_event first next.event) h.same } in
    let rest = walk law setting (suc first) history (state_after_action setting first d state) (after_event first next.event w) now g.1
    (all_grow setting h.sites.seen.own.sent next.sites.seen.own.sent history (λ l k. next.grows l (subst (λ sent. HasSent sent l) (sym h.sim.sent) k)) f.1) in
    record { events = next.event ∷ rest.events; whole = rest.whole; at = each next.event rest h; fitted = all_fitted next.event rest next.proposed }
  where
    each : (x : Event) → (rest : Walked setting (suc first) history (state_after_action setting first d state) (after_event first x w)) → Holds setting state w
        → (k : ℕ) → Holds setting (state_after setting first (take k (d ∷ history)) state) (run first (take k (x ∷ rest.events)) w)
    each x rest h zero = h
    each x rest h (suc k) = rest.at k

    all_fitted : (x : Event) → (rest : Walked setting (suc first) history (state_after_action setting first d state) (after_event first x w)) → ((p : Acceptance) → IsProposedIn p (Some x) → IsFittedIn state d p)
        → (k : ℕ) (p : Acceptance) → IsProposedIn p (slice_get (x ∷ rest.events) k) → IsFittedThere (state_after setting first (take k (d ∷ history)) state) (slice_get (d ∷ history) k) p
    all_fitted x rest here zero p q = here p q
    all_fitted x rest here (suc k) p q = rest.fitted k p q

-- ---- the start

module _ (setting : Setting) where
  abbrev pub former : List Envelope
  former = map (λ (sealed : Sealed). sealed.envelope) setting.old

  old_sent : (xs : List Sealed) (sent : List Envelope) → ((k : ℕ) (l : Envelope) → slice_get (map (λ (sealed : Sealed). sealed.envelope) xs) k ≡ Some l → (m : ℕ) × (slice_get sent m ≡ Some l))
      → Each (IsSent sent) (map (λ (sealed : Sealed). ToPeer sealed) xs)
  old_sent [] sent h = tt
  old_sent (x ∷ xs) sent h = (h 0 _ refl, old_sent xs sent (λ k l at. h (suc k) l at))

  -- with further messages on their way
  module _ (told : List Envelope) where
    abbrev opening : Opening
    opening = blank_opening (made_boot setting) (former ++ told)

    abbrev blank : Sites
    blank = blank_sites setting.n setting.tokens (made_boot setting) (former ++ told)

    abbrev start : Cluster
    start = vote_start setting.n setting.tokens opening

    blank_posts : MayOpen setting.n setting.tokens opening → Posts setting.tokens start
    blank_posts may = record {
      nodes = λ node. record { rows = opening_size setting.tokens (λ token. 0); pending = tt };
      sent = all_deliverable setting.n setting.tokens (former ++ told) (λ j m is. (may j m is).0);
    }

    blank_sim : Sim blank (opened setting.n setting.tokens opening none_enrolled)
    blank_sim = record {
      members = refl;
      lost = refl;
      least = λ t. refl;
      sent = refl;
      begun = refl;
      accepted = refl;
      nodes = λ i. record {
        content = record {
          one = λ j m a _ _. absurd (omega (arith, a));
          there = λ m a. absurd (omega (arith, a));
          rows = λ m a. absurd (omega (arith, a));
          boot = refl;
          last = refl;
          last_known = λ z e. absurd (none-some z e);
        };
        voter = fresh_named (λ number. 0) 0;
        running = refl;
        last = refl;
        on_is = λ t. refl;
        seated = λ m a. absurd (omega (arith, a));
        within = λ t on. absurd (false≢true on);
        away = λ t on _. absurd (false≢true on);
        free = λ t _. opening_free setting.tokens (λ token. 0) t refl;
      };
    }

    blank_fits : Fits setting (first_state setting) blank
    blank_fits = record {
      tokens = refl;
      n = refl;
      lost = refl;
      least = refl;
      begun = refl;
      accepted = refl;
      offered = old_sent setting.old (former ++ told) (λ k l at. (k, get_more former told k l at));
      nodes = λ j. (
        record {
          seats = [];
          below = record {
            are = record { within = λ i seat at. absurd (none-some seat at); apart = λ i l seat at other. absurd (none-some seat at) };
            one = λ i k a d e. absurd (omega (arith, a));
            seen = refl;
            names = λ k a. absurd (omega (arith, a));
            aside = λ k a unseen. absurd (omega (arith, a));
            enrolled = λ t. refl;
            last = refl;
            last_known = λ z e. absurd (none-some z e);
          };
          size = refl;
        },
        λ kept. refl,
      );
    }

    pub first_holds : MayOpen setting.n setting.tokens opening → Holds setting (first_state setting) start
    first_holds may = record {
      sites = blank;
      roster = opened setting.n setting.tokens opening none_enrolled;
      sim = blank_sim;
      posts = blank_posts may;
      fits = blank_fits;
      same = refl;
    }

  -- the floors of a history's inputs are among the first messages
  pub first_told : (history : List Action) (may : MayOpen setting.n setting.tokens (opening (told_of setting history))) → Each (FloorsSentBy setting (first_holds (told_of setting history) may).sites.seen.own.sent) history
  unfolding first_holds
  first_told history may = told_sent setting former history

  -- ---- the promises of votes

  holds_accepted : (state : State) (w : Cluster) → Holds setting state w → w.accepted ≡ passes_in state.notes
  holds_accepted state w h = ap (λ (z : Cluster). z.accepted) (sym h.same) ∙ h.sim.accepted ∙ h.fits.accepted

  holds_floor : (state : State) (w : Cluster) (i t : ℕ) → Holds setting state w → (row (w.nodes i).content t).next ≡ floor_of (store_at (state.processes i)) t
  holds_floor state w i t h =
      ap (λ (z : Cluster). (row (z.nodes i).content t).next) (sym h.same) ∙ free_same h.sites h.roster i t h.sim
      ∙ free_is h.sites i t h.sites.seen.own.sent (state.lost i) (state.processes i) (h.fits.nodes i)

  module _ (law : GroundLaw) (votes : VoteLaw) (history : List Action) (g : IsHistory setting history) where
    abbrev told : List Envelope
    told = told_of setting history

    starts : MayOpen setting.n setting.tokens (opening told)
    starts = told_may setting (made_boot setting) former history g.starts

    pub walked : Walked setting 0 history (first_state setting) (start told)
    walked = walk law setting 0 history (first_state setting) (start told) (first_holds told starts) g.genuine (first_told history starts)

    pub taken : acceptances setting.n setting.tokens (opening told) walked.events ≡ accepted_in setting history
    taken = holds_accepted (state_of setting history) (run 0 walked.events (start told)) walked.whole

    floors : floor_before setting.n setting.tokens (opening told) walked.events ≡ floor_in setting history
    floors = fun_ext (λ i. fun_ext (λ t. fun_ext (λ e.
        holds_floor (state_of setting (take e history)) (run 0 (take e walked.events) (start told)) i t (walked.at e))))

    -- the action in which an acceptance began proposed it
    pub fitted_there : (i : ℕ) (p : Acceptance) → slice_get (accepted_in setting history) i ≡ Some p → IsFittedThere (state_of setting (take p.began history)) (slice_get history p.began) p
    fitted_there i p at =
        walked.fitted p.began p (votes.proposed setting.n setting.tokens (opening told) walked.events starts i p (ap (λ l. slice_get l i) taken ∙ at))

    -- the sites before an action
    pub holds_before : (k : ℕ) → Holds setting (state_of setting (take k history)) (run 0 (take k walked.events) (start told))
    holds_before k = walked.at k

    pub single_use : HaveSingleUse (accepted_in setting history)
    single_use = subst HaveSingleUse taken (votes.single_use setting.n setting.tokens (opening told) walked.events starts)

    pub in_order : KeepRealTimeOrder (accepted_in setting history)
    in_order = subst KeepRealTimeOrder taken (votes.in_order setting.n setting.tokens (opening told) walked.events starts)

    pub majority : HaveMajority setting.n (floor_in setting history) (accepted_in setting history)
    majority =
        subst (HaveMajority setting.n (floor_in setting history)) taken
        (subst (λ f. HaveMajority setting.n f (acceptances setting.n setting.tokens (opening told) walked.events)) floors
        (votes.majority setting.n setting.tokens (opening told) walked.events starts))

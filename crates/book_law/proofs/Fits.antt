-- The state of a history, as sites have it.
use Rattle.std.proofs.Common.{◌≡◌, ℕ, zero, suc, ◌<◌, Bool, true, false, not, ◌&&◌, List, [], ◌∷◌, ◌++◌, length, Option, Some, None, refl, sym, ap, ◌∙◌, subst, eqb, ltb}
use Rattle.std.specs.List.{slice_get}
use Rattle.std.proofs.lemmas.Bool.{cond_both, cond-false, cond-true, eqb-false, eqb-true, false≢true}
use Rattle.std.proofs.lemmas.Option.{none-some, same_Some}
use Rattle.floor_store.specs.Content.{Content}
use Rattle.floor_store.specs.Records.{RowRecord}
use Rattle.seated_store.specs.Seats.{AreSeats}
use Rattle.otp_core.specs.Acceptance.{Acceptance}
use Rattle.vote_core.specs.Books.{Doing, Adds, Begins, Gets, IsBegunIn, Shuts, Speaks, Turns, Waits, is_number, number_at, number_of, rows_of}
use Rattle.vote_core.specs.Roster.{Roster, Does as RosterDoes, Enrols, Hears, Proposes, Renews, Rests, Throttles, act_of, act_of_hearing, after_happening, event_of, token_of}
use Rattle.vote_core.specs.Safety.{IsProposalOf, IsProposedIn}
use Rattle.vote_core.specs.Rows.{row}
use Rattle.vote_core.specs.Schedule.{Begin, Deliver, Envelope, Event, Idle, Throttle, after_event, has_store as has_site, is_member}
use Rattle.vote_core.proofs.Basics.{Each, each_weaker}
use Rattle.vote_core.proofs.Envelopes.{Posts, event_posts}
use Rattle.cluster_sim.specs.World.{begun_in, passes_in}
use Rattle.cluster_sim.proofs.Owners.{get_more}
use Rattle.seat_law.specs.Below.{IsBelow, Site, site_of}
use Rattle.seat_law.specs.Seats.{Breaks, Course, Gone, IsBegunBy, Remade, Runs, Sites, Starts, after_course, deed_at, deed_of_hearing, free_of, happening_at, is_among, may_add, may_remake, seat_name, stored_row}
use Rattle.seat_law.proofs.Below.{content_is}
use Rattle.seat_law.proofs.Relation.{Sim, number_there}
use Rattle.seat_law.proofs.Safe.{course_sim}
use Rattle.book_law.specs.Lives.{Output, Process, Setting, State, Store, ToClient, ToPeer, Down, Up, floor_in_row, floor_of, has_store, row_of, store_at, with_process}
use Rattle.book_law.proofs.Effects.{HasSent, IsSent}
use Rattle.book_law.proofs.Opened.{IsOpen, IsStored, open_stored}

-- a node's site, at its process
abbrev pub IsAt : List Envelope → Bool → Site → Process → Type 0
IsAt sent lost x (Down store) = IsStored x store × (lost ≡ false → x.member.running ≡ true)
IsAt sent lost x (Up terms below state waiting) = IsOpen x terms below state × Each (IsSent sent) waiting × (lost ≡ false)

pub record Fits (setting : Setting) (state : State) (s : Sites) : Type 0 where
  pub tokens : s.seen.tokens ≡ setting.tokens
  pub n : s.seen.own.n ≡ setting.n
  pub lost : s.seen.own.lost ≡ state.lost
  pub least : s.seen.own.least ≡ state.least
  pub begun : s.seen.own.begun ≡ begun_in state.notes
  pub accepted : s.seen.own.accepted ≡ passes_in state.notes
  pub offered : Each (IsSent s.seen.own.sent) state.offered
  pub nodes : (j : ℕ) → IsAt s.seen.own.sent (state.lost j) (site_of s j) (state.processes j)

-- ---- what an event proposes

act_begun : (s : Sites) (r : Roster) (p : Acceptance) (d : Doing) → IsProposalOf p (act_of r (deed_at s d)) → IsBegunIn s.seen.name p d
act_begun s r p (Begins i seat lo hi drift) h =
    cond_both (ltb seat (rows_of s.seen i)) (Proposes i (s.seen.name i seat) lo hi drift) (Rests i) (λ z. IsProposalOf p (act_of r z) → IsBegunIn s.seen.name p (Begins i seat lo hi drift))
    (λ _. cond_both (r.enrolled i (s.seen.name i seat)) (Begin i (s.seen.name i seat) lo hi drift) (Idle i) (λ a. IsProposalOf p a → IsBegunIn s.seen.name p (Begins i seat lo hi drift)) (λ _ q. q) (λ _ q. absurd q))
    (λ _ q. absurd q) h
act_begun s r p (Gets m) h = hears (slice_get s.seen.own.sent m) h
  where
    there : (o : Option Envelope) → IsProposalOf p (act_of_hearing r m o) → ⊥
    there None q = q
    there (Some l) q = cond_both (r.enrolled l.receiver (token_of l.message)) (Deliver m) (Idle l.receiver) (λ a. IsProposalOf p a → ⊥) (λ _ z. z) (λ _ z. z) q

    hears : (o : Option Envelope) → IsProposalOf p (act_of r (deed_of_hearing s m o)) → ⊥
    hears None q = there (slice_get r.cluster.sent m) q
    hears (Some l) q =
        cond_both (is_number (number_at s.seen l.receiver (token_of l.message))) (Hears m) (Rests l.receiver) (λ z. IsProposalOf p (act_of r z) → ⊥) (λ _ z. there (slice_get r.cluster.sent m) z) (λ _ z. z) q
act_begun s r p (Turns i) h = h
act_begun s r p (Speaks i ns) h = h
act_begun s r p (Shuts i seat gate) h =
    cond_both (ltb seat (rows_of s.seen i)) (Throttles i (s.seen.name i seat) gate) (Rests i) (λ z. IsProposalOf p (act_of r z) → ⊥)
    (λ _. cond_both (r.enrolled i (s.seen.name i seat)) (Throttle i (s.seen.name i seat) gate) (Idle i) (λ a. IsProposalOf p a → ⊥) (λ _ q. q) (λ _ q. q)) (λ _ q. q) h
act_begun s r p (Adds i t floor) h =
    cond_both (may_add s i t) (Enrols i (λ other. eqb other t) (λ other. floor)) (Rests i) (λ z. IsProposalOf p (act_of r z) → ⊥) (λ _ q. q) (λ _ q. q) h
act_begun s r p (Waits i) h = h

event_begun : (s : Sites) (r : Roster) (p : Acceptance) (x : Course) → IsProposedIn p (Some (event_of r (happening_at s x))) → IsBegunBy s.seen.name p (Some x)
event_begun s r p (Runs d) h = act_begun s r p d h
event_begun s r p (Breaks true d) h = act_begun s r p d h
event_begun s r p (Breaks false d) h = h
event_begun s r p (Starts i seats) h = h
event_begun s r p (Gone i) h = h
event_begun s r p (Remade i boot given floor) h =
    cond_both (may_remake s i boot given floor) (Renews i boot (is_among given) floor) (RosterDoes (Rests i)) (λ z. IsProposedIn p (Some (event_of r z)) → ⊥) (λ _ q. q) (λ _ q. q) h

-- The state after an action, as the sites and the roster after an event. Each acceptance that the event proposes has the
-- claim `Q`. What was sent before is still sent.
pub record Next (setting : Setting) (e : ℕ) (r : Roster) (state : State) (Q : Acceptance → Type 0) : Type 0 where
  pub sites : Sites
  pub roster : Roster
  pub event : Event
  pub sim : Sim sites roster
  pub posts : Posts sites.seen.tokens roster.cluster
  pub fits : Fits setting state sites
  pub same : roster.cluster ≡ after_event e event r.cluster
  pub proposed : (p : Acceptance) → IsProposedIn p (Some event) → Q p
  pub grows : (l : Envelope) → HasSent r.cluster.sent l → HasSent sites.seen.own.sent l

pub by_course : (setting : Setting) (e : ℕ) (s : Sites) (r : Roster) (state : State) (Q : Acceptance → Type 0) → Sim s r → Posts s.seen.tokens r.cluster → (x : Course) (s' : Sites) → after_course e x s ≡ s' → s'.seen.tokens ≡ s.seen.tokens
    → ((p : Acceptance) → IsBegunBy s.seen.name p (Some x) → Q p) → ((l : Envelope) → HasSent s.seen.own.sent l → HasSent s'.seen.own.sent l) → ((r' : Roster) → Sim s' r' → Fits setting state s') → Next setting e r state Q
by_course setting e s r state Q sim posts x s' is tokens begun grows fits =
    let h = happening_at s x in
    let r' = after_happening e h r in
    let sim' = subst (λ z. Sim z r') is (course_sim e s r x posts sim) in
    record {
      sites = s';
      roster = r';
      event = event_of r h;
      sim = sim';
      posts = subst (λ m. Posts m r'.cluster) (sym tokens) (event_posts s.seen.tokens e (event_of r h) r.cluster posts);
      fits = fits r' sim';
      same = refl;
      proposed = λ p h. begun p (event_begun s r p x h);
      grows = λ l k. grows l (subst (λ sent. HasSent sent l) sim.sent k);
    }

-- an event has the same claims in other words
pub in_other_words : {setting : Setting} {e : ℕ} {r : Roster} {state : State} (Q P : Acceptance → Type 0) → ((p : Acceptance) → Q p → P p) → Next setting e r state Q → Next setting e r state P
in_other_words Q P f n = record { sites = n.sites; roster = n.roster; event = n.event; sim = n.sim; posts = n.posts; fits = n.fits; same = n.same; proposed = λ p h. f p (n.proposed p h); grows = n.grows }

-- ---- what a node's store has

pub at_stored : (sent : List Envelope) (lost : Bool) (x : Site) (p : Process) → IsAt sent lost x p → IsStored x (store_at p)
at_stored sent lost x (Down store) h = h.0
at_stored sent lost x (Up terms below state waiting) h = open_stored x terms below state h.0

-- the row of a token is the store's
pub stored_row_is : (s : Sites) (i : ℕ) (name : ℕ → ℕ) (seats : List ℕ) (c : Content) → IsBelow (site_of s i) name seats c → (k : ℕ) → k < length c.rows → stored_row s i (name k) ≡ row c k
stored_row_is s i name seats c b k lt = ap (λ (d : Content). row d 0) (content_is s i name seats c b (k ∷ []) one_seat)
  where
    one_seat : AreSeats (length c.rows) (k ∷ [])
    one_seat = record { within = λ j seat at. low j seat at; apart = λ j l seat at there. both j l seat at there }
      where
        low : (j seat : ℕ) → slice_get (k ∷ []) j ≡ Some seat → seat < length c.rows
        low zero seat at = subst (λ z. z < length c.rows) (same_Some k seat at) lt
        low (suc j) seat at = absurd (none-some seat at)

        both : (j l seat : ℕ) → slice_get (k ∷ []) j ≡ Some seat → slice_get (k ∷ []) l ≡ Some seat → j ≡ l
        both zero zero seat at there = refl
        both (suc j) l seat at there = absurd (none-some seat at)
        both zero (suc l) seat at there = absurd (none-some seat there)

free_at : (s : Sites) (i t : ℕ) (store : Store) (h : IsStored (site_of s i) store) (o : Option ℕ) → row_of store t ≡ o → free_of s i t ≡ floor_in_row store.content o
free_at s i t store h None is =
    cond-false (s.enrolled i t) (stored_row s i t).next 0
    (h.below.enrolled t ∙ ap (λ m. is_number (number_of m (seat_name store.names) t)) (sym h.size) ∙ ap is_number is)
free_at s i t store h (Some k) is =
    let there = number_there (length store.names) (seat_name store.names) t k is in
    cond-true (s.enrolled i t) (stored_row s i t).next 0
    (h.below.enrolled t ∙ ap (λ m. is_number (number_of m (seat_name store.names) t)) (sym h.size) ∙ ap is_number is)
    ∙ ap (λ u. (stored_row s i u).next) (sym there.1)
    ∙ ap (λ (x : RowRecord). x.next) (stored_row_is s i (seat_name store.names) h.seats store.content h.below k (subst (λ m. k < m) h.size there.0))

pub free_is : (s : Sites) (i t : ℕ) (sent : List Envelope) (lost : Bool) (p : Process) → IsAt sent lost (site_of s i) p → free_of s i t ≡ floor_of (store_at p) t
free_is s i t sent lost p h = free_at s i t (store_at p) (at_stored sent lost (site_of s i) p h) (row_of (store_at p) t) refl

-- ---- what changes

pub get_after : {A : Type 0} (xs ys : List A) (k : ℕ) (y : A) → slice_get ys k ≡ Some y → (m : ℕ) × (slice_get (xs ++ ys) m ≡ Some y)
get_after [] ys k y e = (k, e)
get_after (x ∷ xs) ys k y e = let r = get_after xs ys k y e in (suc r.0, r.1)

-- what was sent is still sent
pub sent_grows : (sent more : List Envelope) (h : Output) → IsSent sent h → IsSent (sent ++ more) h
sent_grows sent more (ToPeer sealed) k = (k.0, get_more sent more k.0 sealed.envelope k.1)
sent_grows sent more (ToClient answer) k = tt

pub at_grows : (sent more : List Envelope) (lost : Bool) (x : Site) (p : Process) → IsAt sent lost x p → IsAt (sent ++ more) lost x p
at_grows sent more lost x (Down store) h = h
at_grows sent more lost x (Up terms below state waiting) h = (h.0, each_weaker (IsSent sent) (IsSent (sent ++ more)) (sent_grows sent more) waiting h.1, h.2)

pub set_at : (P : ℕ → Process → Type 0) (i : ℕ) (p : Process) (processes : ℕ → Process) → P i p → ((j : ℕ) → (j ≡ i → ⊥) → P j (processes j)) → (j : ℕ) → P j (with_process i p processes j)
set_at P i p processes here others j =
    cond_both (eqb j i) p (processes j) (P j) (λ q. subst (λ m. P m p) (sym (eqb-true j i q)) here) (λ q. others j (eqb-false j i q))

-- a node that has its store
pub is_kept : (setting : Setting) (state : State) (i : ℕ) → has_store setting state i ≡ true → state.lost i ≡ false
is_kept setting state i can = not_lost (state.lost i) (is_member setting.n i) can
  where
    not_lost : (b c : Bool) → (not b && c) ≡ true → b ≡ false
    not_lost false c h = refl
    not_lost true c h = absurd (false≢true h)

pub has_own : (setting : Setting) (state : State) (s : Sites) (i : ℕ) → Fits setting state s → has_store setting state i ≡ true → has_site s.seen.own i ≡ true
has_own setting state s i fits can =
    ap (λ m. not (s.seen.own.lost i) && is_member m i) fits.n ∙ ap (λ (l : ℕ → Bool). not (l i) && is_member setting.n i) fits.lost ∙ can

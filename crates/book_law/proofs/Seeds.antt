-- The law by seed: what the rows of a device keep from one opening to the next.
use Rattle.std.proofs.Common.{◌≡◌, ℕ, zero, suc, ◌≤◌, ◌⊎◌, inl, inr, ⊎_elim, Bool, true, false, cond, ◌&&◌, List, [], ◌∷◌, ◌++◌, length, take, Option, Some, None, refl, sym, ap, ◌∙◌, subst, arith, eqb, ltb}
use mathlib.Core.Path.{fun_ext}
use Rattle.std.specs.List.{slice_get}
use Rattle.std.proofs.lemmas.Bool.{and_parts, cond_both, eqb-true}
use Rattle.std.proofs.lemmas.Option.{none-some, slice_get-get_or}
use Rattle.floor_store.specs.Records.{RowRecord}
use Rattle.otp_core.specs.Acceptance.{Acceptance, LetsGo}
use Rattle.vote_core.specs.Books.{blank_opening, number_of}
use Rattle.vote_core.specs.Rows.{row}
use Rattle.vote_core.specs.Schedule.{Cluster, Envelope, Opening, acceptances, last_boot, run, start}
use Rattle.vote_core.proofs.Names.{same_or_not}
use Rattle.oath_node.specs.Machine.{NodeState, opened_node}
use Rattle.cluster_sim.proofs.BelowLaws.{GroundLaw, VoteLaw}
use Rattle.seat_law.specs.Below.{Site, site_of}
use Rattle.seat_law.specs.Seats.{seat_name}
use Rattle.seat_law.specs.Seeds.{AreGivenUp, IsGivenUp}
use Rattle.seat_law.specs.Votes.{HaveVotes, IsVote, floors_of, row_before}
use Rattle.seat_law.proofs.Relation.{number_there, option_cases, row_same}
use Rattle.seat_law.proofs.Votes.{kept_rise, votes_hold}
use Rattle.book_law.specs.Lives.{Action, Down, Enrols, FailsToOpen, IsHistory, Loses, Offers, Opens, OpensGate, Process, Raises, Remakes, Setting, State, Stops, StopsIn, Store, Takes, Terms, Unlocks, Up, accepted_in, can_be, do_fit, floor_in, floor_in_row, floor_of, first_state, made_boot, node_of_action, process_after, process_opened, row_of, seen_in, state_after, state_after_action, state_of, state_with, store_at, store_under}
use Rattle.book_law.specs.Seeds.{AreGreatest, HaveSeedsOnce, IsOpenedIn, OpensGreatest, row_for, row_or_opening, rows_in}
use Rattle.book_law.proofs.Fits.{IsAt}
use Rattle.book_law.proofs.Floors.{told_may, told_of}
use Rattle.book_law.proofs.Held.{one_more}
use Rattle.book_law.proofs.Opened.{IsOpen}
use Rattle.book_law.proofs.Rows.{NoGrant, Unseated, action_quiet, kept_is, opened_row, under_off}
use Rattle.book_law.proofs.Walk.{Holds, former, holds_before, taken, walked}

-- ---- the floor of a token is that of its row

floor_is : (store : Store) (t : ℕ) → (row_for store t).next ≡ floor_of store t
floor_is store t = at (row_of store t)
  where
    at : (o : Option ℕ) → (row_or_opening store.content o).next ≡ floor_in_row store.content o
    at None = refl
    at (Some k) = refl

pub floors_are : (setting : Setting) (history : List Action) → floors_of (rows_in setting history) ≡ floor_in setting history
floors_are setting history = fun_ext (λ i. fun_ext (λ t. fun_ext (λ e. floor_is (store_at ((state_of setting (take e history)).processes i)) t)))

-- ---- a process that was opened well

-- Its users file has no seed twice. When it opened the store, each seat had the greatest floor of its seed. No row has
-- sunk.
record OpenedWell (seed : ℕ → ℕ) (terms : Terms) (below now : Store) : Type 0 where
  once : HaveSeedsOnce seed terms.seats
  greatest : AreGreatest seed terms.seats below
  risen : (t : ℕ) → floor_of below t ≤ floor_of now t

abbrev IsWell : (ℕ → ℕ) → Process → Type 0
IsWell seed (Down store) = Unit {0}
IsWell seed (Up terms below state waiting) = OpenedWell seed terms below (store_under terms.seats state.content below)

-- no row of a process sinks
abbrev Rises : Process → Process → Type 0
Rises (Down store) q = Unit {0}
Rises (Up terms below state waiting) q = (t : ℕ) → floor_of (store_under terms.seats state.content below) t ≤ floor_of (store_at q) t

-- what is known of a process that an action opens
abbrev OpensWell : (ℕ → ℕ) → Action → Process → Type 0
OpensWell seed d p = (i : ℕ) (terms : Terms) (store : Store) → d ≡ Opens i terms → p ≡ Down store → do_fit terms store ≡ true → HaveSeedsOnce seed terms.seats × AreGreatest seed terms.seats store

risen_well : (seed : ℕ → ℕ) (terms : Terms) (below old new : Store) → OpenedWell seed terms below old → ((t : ℕ) → floor_of old t ≤ floor_of new t) → OpenedWell seed terms below new
risen_well seed terms below old new h rise = record { once = h.once; greatest = h.greatest; risen = λ t. omega (arith, h.risen t, rise t) }

module _ (seed : ℕ → ℕ) (setting : Setting) (e : ℕ) where
  opens_well : (i : ℕ) (terms : Terms) (store : Store) → OpensWell seed (Opens i terms) (Down store) → IsWell seed (process_opened terms store)
  opens_well i terms store known =
      cond_both (do_fit terms store && ltb store.content.boot last_boot) (Up terms store (opened_node (seen_in store terms.seats)) []) (Down store) (IsWell seed)
      (λ q.
      let fresh = known i terms store refl refl (and_parts (do_fit terms store) (ltb store.content.boot last_boot) q).0 in
      record {
        once = fresh.0;
        greatest = fresh.1;
        risen = λ t.
            let now = store_under terms.seats (opened_node (seen_in store terms.seats)).content store in
            let same = ap (λ (r : RowRecord). r.next) (opened_row terms store t) in
            let one = floor_is store t in
            let other = floor_is now t in
            omega (arith, same, one, other);
      })
      (λ _. tt)

  half_well : (store below : Store) (b : Bool) → IsWell seed (cond b (Down store) (Down below))
  half_well store below b = cond_both b (Down store) (Down below) (IsWell seed) (λ _. tt) (λ _. tt)

  process_well : (d : Action) (p : Process) → IsWell seed p → Rises p (process_after setting e d p) → OpensWell seed d p → IsWell seed (process_after setting e d p)
  process_well (Opens i terms) (Down store) h rise known = opens_well i terms store known
  process_well (Opens i terms) (Up own below node waiting) h rise known = h
  process_well (FailsToOpen i true) (Down store) h rise known = half_well _ store (ltb store.content.boot last_boot)
  process_well (FailsToOpen i false) (Down store) h rise known = tt
  process_well (FailsToOpen i raised) (Up own below node waiting) h rise known = h
  process_well (Takes i input) (Down store) h rise known = tt
  process_well (Takes i input) (Up terms below node waiting) h rise known = risen_well seed terms below _ _ h rise
  process_well (Offers i) (Down store) h rise known = tt
  process_well (Offers i) (Up terms below node []) h rise known = h
  process_well (Offers i) (Up terms below node (o ∷ waiting)) h rise known = h
  process_well (Stops i) (Down store) h rise known = tt
  process_well (Stops i) (Up terms below node waiting) h rise known = tt
  process_well (StopsIn i kept input) (Down store) h rise known = tt
  process_well (StopsIn i false input) (Up terms below node waiting) h rise known = tt
  process_well (StopsIn i true input) (Up terms below node waiting) h rise known = tt
  process_well (Loses i) p h rise known = tt
  process_well (Remakes i boot given floor) (Down store) h rise known = tt
  process_well (Remakes i boot given floor) (Up own below node waiting) h rise known = h
  process_well (Enrols i u floor) (Down store) h rise known = half_well _ store _
  process_well (Enrols i u floor) (Up own below node waiting) h rise known = h
  process_well (Unlocks i u) (Down store) h rise known = tt
  process_well (Unlocks i u) (Up own below node waiting) h rise known = h
  process_well (OpensGate i u) (Down store) h rise known = tt
  process_well (OpensGate i u) (Up terms below node waiting) h rise known = risen_well seed terms below _ _ h rise
  process_well (Raises i u floor) (Down store) h rise known = tt
  process_well (Raises i u floor) (Up own below node waiting) h rise known = h

action_well : (seed : ℕ → ℕ) (setting : Setting) (e : ℕ) (d : Action) (state : State) (j : ℕ) → IsWell seed (state.processes j) → Rises (state.processes j) ((state_after_action setting e d state).processes j)
    → (can_be setting state d ≡ true → OpensWell seed d (state.processes (node_of_action d))) → IsWell seed ((state_after_action setting e d state).processes j)
unfolding state_after_action
action_well seed setting e d state j h rise known =
    let k = node_of_action d in
    let p = process_after setting e d (state.processes k) in
    cond_both (can_be setting state d) (state_with setting e d (state.processes k) state) state (λ (z : State). Rises (state.processes j) (z.processes j) → IsWell seed (z.processes j))
    (λ can. cond_both (eqb j k) p (state.processes j) (λ q. Rises (state.processes j) q → IsWell seed q)
    (λ q up.
    process_well seed setting e d (state.processes k) (subst (λ m. IsWell seed (state.processes m)) (eqb-true j k q) h)
    (subst (λ m. Rises (state.processes m) p) (eqb-true j k q) up) (known can))
    (λ _ _. h))
    (λ _ _. h) rise

-- ---- a history

get_past : {A : Type 0} (xs : List A) (k : ℕ) → slice_get xs k ≡ None → take (suc k) xs ≡ take k xs
get_past [] zero h = refl
get_past [] (suc k) h = refl
get_past (x ∷ xs) zero h = absurd (none-some x (sym h))
get_past (x ∷ xs) (suc k) h = ap (λ l. x ∷ l) (get_past xs k h)

take_none : (xs : List Action) → take 0 xs ≡ []
take_none [] = refl
take_none (x ∷ xs) = refl

first_well : (seed : ℕ → ℕ) (setting : Setting) (j : ℕ) → IsWell seed ((state_of setting []).processes j)
unfolding state_after
first_well seed setting j = tt

-- the opening of votes, with the floors of the history's inputs on their way
abbrev opening : Setting → List Envelope → Opening
opening setting told = blank_opening (made_boot setting) (former setting ++ told)

module _ (law : GroundLaw) (votes : VoteLaw) (setting : Setting) (history : List Action) (g : IsHistory setting history) where
  abbrev at : ℕ → State
  at k = state_of setting (take k history)

  abbrev before : ℕ → Cluster
  before k = run 0 (take k (walked setting law votes history g).events) (start setting.n setting.tokens (opening setting (told_of setting history)))

  holds : (k : ℕ) → Holds setting (at k) (before k)
  holds k = holds_before setting law votes history g k

  -- the canonical row of a token is the store's
  row_is : (k i t : ℕ) → row ((before k).nodes i).content t ≡ rows_in setting history i t k
  row_is k i t =
      let h = holds k in
      ap (λ (z : Cluster). row (z.nodes i).content t) (sym h.same) ∙ row_same h.sites h.roster i t h.sim
      ∙ kept_is h.sites i t h.sites.seen.own.sent ((at k).lost i) ((at k).processes i) (h.fits.nodes i)

  rows_are : row_before setting.n setting.tokens (opening setting (told_of setting history)) (walked setting law votes history g).events ≡ rows_in setting history
  rows_are = fun_ext (λ i. fun_ext (λ t. fun_ext (λ k. row_is k i t)))

  pub have_votes : HaveVotes setting.n (rows_in setting history) (accepted_in setting history)
  have_votes =
      let may = told_may setting (made_boot setting) (former setting) history g.starts in
      let events = (walked setting law votes history g).events in
      subst (HaveVotes setting.n (rows_in setting history)) (taken setting law votes history g)
      (subst (λ f. HaveVotes setting.n f (acceptances setting.n setting.tokens (opening setting (told_of setting history)) events)) rows_are
      (votes_hold setting.n setting.tokens (opening setting (told_of setting history)) events may))

  -- the state after one action more
  more : (k : ℕ) → (at (suc k) ≡ at k) ⊎ ((d : Action) × (e : ℕ) × (slice_get history k ≡ Some d) × (at (suc k) ≡ state_after_action setting e d (at k)))
  more k =
      ⊎_elim (λ (none : slice_get history k ≡ None). inl (ap (state_of setting) (get_past history k none)))
      (λ (some : (d : Action) × (slice_get history k ≡ Some d)).
      let next = one_more setting 0 k history (first_state setting) some.0 some.1 in
      inr (some.0, next.0, some.1, next.1))
      (option_cases (slice_get history k))

  -- a node votes only in a seat
  seated : (k j t : ℕ) → Unseated ((at k).processes j) t → NoGrant (rows_in setting history j t k) (rows_in setting history j t (suc k))
  seated k j t off =
      let h = holds k in
      let old = rows_in setting history j t k in
      ⊎_elim (λ (same : at (suc k) ≡ at k). subst (λ (z : State). NoGrant old (row_for (store_at (z.processes j)) t)) (sym same) (λ x e. e))
      (λ (next : (d : Action) × (e : ℕ) × (slice_get history k ≡ Some d) × (at (suc k) ≡ state_after_action setting e d (at k))).
      subst (λ (z : State). NoGrant old (row_for (store_at (z.processes j)) t)) (sym next.3)
      (action_quiet setting next.1 next.0 (at k) j t h.sites.seen.own.sent (site_of h.sites j) (h.fits.nodes j) off))
      (more k)

  -- a node that has its store keeps its floors
  kept : (k j t : ℕ) → (at k).lost j ≡ false → floor_in setting history j t k ≤ floor_in setting history j t (suc k)
  kept k j t has =
      let h = holds k in
      let events = (walked setting law votes history g).events in
      let may = told_may setting (made_boot setting) (former setting) history g.starts in
      let lost = ap (λ (w : Cluster). w.lost j) (sym h.same) ∙ ap (λ (f : ℕ → Bool). f j) h.sim.lost ∙ ap (λ (f : ℕ → Bool). f j) h.fits.lost ∙ has in
      let rise = kept_rise setting.n setting.tokens (opening setting (told_of setting history)) events may j t k lost in
      let old = ap (λ (r : RowRecord). r.next) (row_is k j t) ∙ floor_is (store_at ((at k).processes j)) t in
      let new = ap (λ (r : RowRecord). r.next) (row_is (suc k) j t) ∙ floor_is (store_at ((at (suc k)).processes j)) t in
      omega (arith, rise, old, new)

  rises : (k j : ℕ) → Rises ((at k).processes j) ((at (suc k)).processes j)
  rises k j = by ((at k).processes j) refl
    where
      by : (p : Process) → (at k).processes j ≡ p → Rises p ((at (suc k)).processes j)
      by (Down store) is = tt
      by (Up terms below node waiting) is =
          λ t.
          let h = holds k in
          let here = subst (IsAt h.sites.seen.own.sent ((at k).lost j) (site_of h.sites j)) is (h.fits.nodes j) in
          subst (λ p. floor_of (store_at p) t ≤ floor_of (store_at ((at (suc k)).processes j)) t) is (kept k j t here.2)

  module _ (seed : ℕ → ℕ) (opens : OpensGreatest seed setting history) where
    well : (k j : ℕ) → IsWell seed ((at k).processes j)
    well zero j = subst (λ l. IsWell seed ((state_of setting l).processes j)) (sym (take_none history)) (first_well seed setting j)
    well (suc k) j =
        ⊎_elim (λ (same : at (suc k) ≡ at k). subst (λ (z : State). IsWell seed (z.processes j)) (sym same) (well k j))
        (λ (next : (d : Action) × (e : ℕ) × (slice_get history k ≡ Some d) × (at (suc k) ≡ state_after_action setting e d (at k))).
        subst (λ (z : State). IsWell seed (z.processes j)) (sym next.3)
        (action_well seed setting next.1 next.0 (at k) j (well k j)
        (subst (λ (z : State). Rises ((at k).processes j) (z.processes j)) next.3 (rises k j))
        (λ can i terms store is down fits.
        let opened : IsOpenedIn setting history k i terms store = record {
          opens = next.2 ∙ ap Some is;
          has = subst (λ d. can_be setting (at k) d ≡ true) is can;
          down = ap (λ d. (at k).processes (node_of_action d)) (sym is) ∙ down;
          fits = fits;
        } in
        (opens.once k i terms store opened, opens.greatest k i terms store opened))))
        (more k)

    -- a seat has the greatest floor of its seed
    seat_greatest : (k j : ℕ) (terms : Terms) (below : Store) (node : NodeState) (x : Site) → IsOpen x terms below node → OpenedWell seed terms below (store_under terms.seats node.content below)
        → (m t other : ℕ) → number_of (length terms.seats) (seat_name terms.seats) t ≡ Some m → seed other ≡ seed t
        → floor_of (store_under terms.seats node.content below) other ≤ floor_of (store_under terms.seats node.content below) t
    seat_greatest k j terms below node x open_now h m t other is same =
        let now = store_under terms.seats node.content below in
        let name = seat_name terms.seats in
        let there = number_there (length terms.seats) name t m is in
        let at_seat : slice_get terms.seats m ≡ Some t = slice_get-get_or terms.seats m 0 there.0 ∙ ap Some there.1 in
        ⊎_elim (λ (one : other ≡ t). subst (λ u. floor_of now u ≤ floor_of now t) (sym one) (omega arith))
        (λ (ne : other ≡ t → ⊥).
        ⊎_elim
        (λ (none : number_of (length terms.seats) name other ≡ None).
        let off = ap (λ (r : RowRecord). r.next) (under_off x terms below node open_now node.content other none) in
        let a = floor_is now other in
        let b = floor_is below other in
        omega (arith, off, a, b, h.greatest m t other at_seat same, h.risen t))
        (λ (some : (l : ℕ) × (number_of (length terms.seats) name other ≡ Some l)).
        let also = number_there (length terms.seats) name other some.0 some.1 in
        let at_other : slice_get terms.seats some.0 ≡ Some other = slice_get-get_or terms.seats some.0 0 also.0 ∙ ap Some also.1 in
        let seats = h.once some.0 m other t at_other at_seat same in
        absurd (ne (sym also.1 ∙ ap name seats ∙ there.1)))
        (option_cases (number_of (length terms.seats) name other)))
        (same_or_not other t)

    vote_greatest : (a : Acceptance) (j k : ℕ) → IsVote (rows_in setting history) a j k → (other : ℕ) → seed other ≡ seed a.token → floor_in setting history j other k ≤ floor_in setting history j a.token k
    vote_greatest a j k vote other same = by ((at k).processes j) refl
      where
        seat : Unseated ((at k).processes j) a.token → ⊥
        seat off = vote.is_new (seated k j a.token off _ vote.granted)

        by : (p : Process) → (at k).processes j ≡ p → floor_in setting history j other k ≤ floor_in setting history j a.token k
        by (Down store) is = absurd (seat (subst (λ p. Unseated p a.token) (sym is) tt))
        by (Up terms below node waiting) is =
            let h = holds k in
            let here = subst (IsAt h.sites.seen.own.sent ((at k).lost j) (site_of h.sites j)) is (h.fits.nodes j) in
            let fine = subst (IsWell seed) is (well k j) in
            ⊎_elim
            (λ (none : number_of (length terms.seats) (seat_name terms.seats) a.token ≡ None). absurd (seat (subst (λ p. Unseated p a.token) (sym is) none)))
            (λ (some : (m : ℕ) × (number_of (length terms.seats) (seat_name terms.seats) a.token ≡ Some m)).
            subst (λ p. floor_of (store_at p) other ≤ floor_of (store_at p) a.token) (sym is)
            (seat_greatest k j terms below node (site_of h.sites j) here.0 fine some.0 a.token other some.1 same))
            (option_cases (number_of (length terms.seats) (seat_name terms.seats) a.token))

    vote_gives_up : (a : Acceptance) (j k : ℕ) → IsVote (rows_in setting history) a j k → IsGivenUp (floor_in setting history) seed a j k
    vote_gives_up a j k vote = record {
      lets = subst (λ f. LetsGo f a j k) (floors_are setting history) vote.lets;
      greatest = vote_greatest a j k vote;
      alone = λ other same ne.
          let stays = ap (λ (r : RowRecord). r.next) (vote.alone other ne) in
          let old = floor_is (store_at ((at k).processes j)) other in
          let new = floor_is (store_at ((at (suc k)).processes j)) other in
          omega (arith, stays, old, new);
    }

    pub given_up : AreGivenUp setting.n (floor_in setting history) seed (accepted_in setting history)
    given_up i a is =
        let h = have_votes i a is in
        record {
          nodes = h.nodes;
          many = h.many;
          each = λ j q. let x = h.each j q in (x.0, vote_gives_up a j x.0 x.1);
        }

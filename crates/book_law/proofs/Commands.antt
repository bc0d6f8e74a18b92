-- A command's write to a row is an event of the votes, also if the row has no seat.
use Rattle.std.proofs.Common.{◌≡◌, ℕ, zero, suc, ◌<◌, ◌≤◌, ⊎_elim, true, cond, [], ◌++◌, length, Some, None, refl, sym, ap, ◌∙◌, subst, arith, eqb, ltb, set}
use Rattle.std.specs.Prelude.{option_map}
use Rattle.std.specs.List.{slice_get}
use Rattle.std.proofs.lemmas.Bool.{and_from, cond_both, cond-false, cond-true, eq-eqb, ltb-true, false≢true}
use Rattle.std.proofs.lemmas.List.{append-nil, get_or-set_other, length-map}
use Rattle.std.proofs.lemmas.Option.{get_or_from_slice_get, none-some, slice_get-get_or, slice_get_within}
use Rattle.otp_core.specs.Acceptance.{Acceptance}
use Rattle.otp_core.specs.Gate.{clear_gate}
use Rattle.floor_store.specs.Content.{Content, opening_row, with_row}
use Rattle.floor_store.specs.Records.{RowRecord}
use Rattle.seated_store.specs.Seats.{row_at, seated_content}
use Rattle.vote_core.specs.Books.{is_number, number_at, number_of}
use Rattle.vote_core.specs.Numbers.{IsNamed, IsNamedVoter, named_pass}
use Rattle.vote_core.specs.Roster.{Roster}
use Rattle.vote_core.specs.Safety.{IsProposedIn}
use Rattle.vote_core.specs.Rows.{row, row_with_gate, row_with_next}
use Rattle.vote_core.specs.Schedule.{Cluster, Event, Happens, Member, Raise, Throttle, after_act, after_event, cluster_after, content_with_gate, has_store as has_site, is_running, raised_member, with_member}
use Rattle.vote_core.specs.Voting.{quiet_step, raise, raise_all}
use Rattle.vote_core.proofs.Basics.{Each, each_append, put_size, row_here}
use Rattle.vote_core.proofs.Envelopes.{Posts, event_posts}
use Rattle.vote_core.proofs.Frames.{only_put}
use Rattle.vote_core.proofs.Names.{named_put, not_eqb, same_or_not}
use Rattle.seat_law.specs.Below.{IsBelow, Site, site_of}
use Rattle.seat_law.specs.Seats.{Sites, seat_name, stored_row, with_own, with_rows}
use Rattle.seat_law.proofs.Below.{put_is_below}
use Rattle.seat_law.proofs.Relation.{NodeSim, Sim, number_lacks, number_there, option_cases, store_same, stored_is}
use Rattle.book_law.specs.Lives.{Setting, State, Store, Down, content_unlocked, has_store, row_of}
use Rattle.book_law.proofs.Actions.{changed}
use Rattle.book_law.proofs.Effects.{HasSent, IsSent, member_with}
use Rattle.book_law.proofs.Fits.{Fits, IsAt, Next, has_own, set_at, stored_row_is}
use Rattle.book_law.proofs.Opened.{IsStored}
use Rattle.book_law.proofs.Under.{map_same}

-- ---- a floor that is raised alone

abbrev alone_floor : ℕ → ℕ → ℕ → ℕ
alone_floor t f u = cond (eqb u t) f 0

raise_zero : (u : ℕ) (c : Content) (n : ℕ) → n ≡ 0 → raise u n c ≡ c
unfolding raise
raise_zero u c n none =
    cond_both (ltb (row c u).next n) (with_row c u (row_with_next n (row c u)) None) c (λ d. d ≡ c)
    (λ q. let above = ltb-true (row c u).next n q in absurd (omega (arith, above, none))) (λ _. refl)

raise_below : (n t f : ℕ) (c : Content) → n ≤ t → raise_all n (alone_floor t f) c ≡ c
raise_below zero t f c le = refl
raise_below (suc n) t f c le =
    raise_zero n (raise_all n (alone_floor t f) c) (alone_floor t f n) (cond-false (eqb n t) f 0 (not_eqb n t (λ q. omega (arith, le, q)))) ∙ raise_below n t f c (omega (arith, le))

raise_within : (n t f : ℕ) (c : Content) → t < n → raise_all n (alone_floor t f) c ≡ raise t f c
raise_within zero t f c lt = absurd (omega (arith, lt))
raise_within (suc n) t f c lt =
    ⊎_elim
    (λ (same : n ≡ t).
    ap (λ k. raise n k (raise_all n (alone_floor t f) c)) (cond-true (eqb n t) f 0 (eq-eqb n t same)) ∙ ap (λ d. raise n f d) (raise_below n t f c (omega (arith, same))) ∙ ap (λ k. raise k f c) same)
    (λ (other : n ≡ t → ⊥).
    raise_zero n (raise_all n (alone_floor t f) c) (alone_floor t f n) (cond-false (eqb n t) f 0 (not_eqb n t other)) ∙ raise_within n t f c (less n t lt other))
    (same_or_not n t)
  where
    less : (n t : ℕ) → t < suc n → (n ≡ t → ⊥) → t < n
    less n t lt other = omega (arith, lt, other)

-- ---- a row that is written, of a store that no process has open

module _ (setting : Setting) (e i t : ℕ) (store : Store) (state : State) (s : Sites) (r : Roster) (sim : Sim s r) (posts : Posts s.seen.tokens r.cluster) (fits : Fits setting state s)
    (can : has_store setting state i ≡ true) (at : IsStored (site_of s i) store) (up : (s.seen.own.nodes i).running ≡ true)
    (k : ℕ) (found : row_of store t ≡ Some k) (y : RowRecord) where
  abbrev x : Site
  x = site_of s i

  abbrev canon : Member
  canon = r.cluster.nodes i

  abbrev c : Content
  c = store.content

  abbrev put : Content
  put = with_row canon.content t y None

  abbrev name : ℕ → ℕ
  name = seat_name store.names

  there : (k < length store.names) × (name k ≡ t)
  there = number_there (length store.names) name t k found

  low : k < length c.rows
  low = subst (λ m. k < m) at.size there.0

  on : s.enrolled i t ≡ true
  on = at.below.enrolled t ∙ ap (λ m. is_number (number_of m name t)) (sym at.size) ∙ ap is_number found

  within : t < length canon.content.rows
  within = let a = (sim.nodes i).within t on in let b = (posts.nodes i).rows in omega (arith, a, b)

  -- the canonical row is the store's
  row_is : row canon.content t ≡ row c k
  row_is = stored_is s i t (sim.nodes i) on ∙ ap (stored_row s i) (sym there.1) ∙ stored_row_is s i name at.seats c at.below k low

  -- the store with the row
  abbrev written : Store
  written = record store { content = with_row c k y None }

  -- ---- without a seat

  module _ (none : number_at s.seen i t ≡ None) where
    abbrev asides : ℕ → RowRecord
    asides u = cond (eqb u t) y (s.aside i u)

    abbrev aside : Sites
    aside = record s { aside = with_rows i asides s.aside }

    unlike : (m : ℕ) → m < length x.member.content.rows → x.name m ≡ t → ⊥
    unlike m lt same = number_lacks (length x.member.content.rows) x.name t none m lt same

    aside_node : NodeSim s.seen.tokens (record x { aside = asides }) (record canon { content = put }) (r.enrolled i)
    aside_node =
        let h = sim.nodes i in
        let many = put_size canon.content t y None in
        record {
          content = record {
            one = h.content.one;
            there = λ m a. let b = h.content.there m a in omega (arith, b, many);
            rows = λ m a. only_put canon.content t y None (x.name m) (unlike m a) ∙ h.content.rows m a;
            boot = h.content.boot;
            last = h.content.last;
            last_known = h.content.last_known;
          };
          voter = h.voter;
          running = h.running;
          last = h.last;
          on_is = h.on_is;
          seated = h.seated;
          within = h.within;
          away = λ u mine unseated.
              ⊎_elim
              (λ (same : u ≡ t). ap (row put) same ∙ row_here canon.content t y None within ∙ sym (cond-true (eqb u t) y (s.aside i u) (eq-eqb u t same)))
              (λ (ne : u ≡ t → ⊥). only_put canon.content t y None u ne ∙ h.away u mine unseated ∙ sym (cond-false (eqb u t) y (s.aside i u) (not_eqb u t ne)))
              (same_or_not u t);
          free = λ u off. only_put canon.content t y None u (λ same. false≢true (sym off ∙ ap (s.enrolled i) same ∙ on)) ∙ h.free u off;
        }

    rows_seen : length x.member.content.rows ≡ length at.seats
    rows_seen = ap (λ (d : Content). length d.rows) at.below.seen ∙ length-map at.seats (row_at c.rows)

    hidden : (m q : ℕ) → slice_get at.seats m ≡ Some q → q ≡ k → ⊥
    hidden m q is same =
        let lt = slice_get_within at.seats m q is in
        unlike m (subst (λ z. m < z) (sym rows_seen) lt)
        (at.below.names m lt ∙ ap name (get_or_from_slice_get at.seats m q 0 is ∙ same) ∙ there.1)

    aside_stored : IsStored (record x { aside = asides }) written
    aside_stored =
        let b = at.below in
        let many = put_size c k y None in
        record {
          seats = at.seats;
          below = record {
            are = record { within = λ m q is. let lt = b.are.within m q is in omega (arith, lt, many); apart = b.are.apart };
            one = λ j l a d q. b.one j l (omega (arith, a, many)) (omega (arith, d, many)) q;
            seen = b.seen ∙ ap (λ rows. record (seated_content at.seats c) { rows = rows })
                (map_same (row_at c.rows) (row_at (set c.rows k y)) at.seats (λ m q is. sym (get_or-set_other c.rows k q y (opening_row 0) (hidden m q is))));
            names = b.names;
            aside = λ q a unseen.
                ⊎_elim
                (λ (same : q ≡ k). ap (row (with_row c k y None)) same ∙ row_here c k y None low ∙ sym (cond-true (eqb (name q) t) y (s.aside i (name q)) (eq-eqb (name q) t (ap name same ∙ there.1))))
                (λ (ne : q ≡ k → ⊥).
                let lt : q < length c.rows = omega (arith, a, many) in
                only_put c k y None q ne ∙ b.aside q lt unseen
                ∙ sym (cond-false (eqb (name q) t) y (s.aside i (name q)) (not_eqb (name q) t (λ z. ne (b.one q k lt low (z ∙ sym there.1))))))
                (same_or_not q k);
            enrolled = λ u. b.enrolled u ∙ ap (λ m. is_number (number_of m name u)) (sym many);
            last = b.last;
            last_known = λ z q. let lt = b.last_known z q in omega (arith, lt, many);
          };
          size = at.size ∙ sym many;
        }

    aside_here : site_of aside i ≡ record x { aside = asides }
    aside_here = ap (λ b. record x { aside = cond b asides (s.aside i) }) (eq-eqb i i refl)

    aside_other : (j : ℕ) → (j ≡ i → ⊥) → site_of aside j ≡ site_of s j
    aside_other j ne = ap (λ b. record (site_of s j) { aside = cond b asides (s.aside j) }) (not_eqb j i ne)

  -- ---- with a seat

  module _ (seat : ℕ) (is : number_at s.seen i t ≡ Some seat) where
    abbrev member : Member
    member = member_with (with_row x.member.content seat y None) x.member.voter

    abbrev seated : Sites
    seated = with_own (with_member i member s.seen.own) s

    seat_there : (seat < length x.member.content.rows) × (x.name seat ≡ t)
    seat_there = number_there (length x.member.content.rows) x.name t seat is

    seat_low : seat < length at.seats
    seat_low = let many = ap (λ (d : Content). length d.rows) at.below.seen ∙ length-map at.seats (row_at c.rows) in subst (λ m. seat < m) many seat_there.0

    place_is : seat_name at.seats seat ≡ k
    place_is =
        at.below.one (seat_name at.seats seat) k (at.below.are.within seat (seat_name at.seats seat) (slice_get-get_or at.seats seat 0 seat_low)) low
        (sym (at.below.names seat seat_low) ∙ seat_there.1 ∙ sym there.1)

    seated_node : NodeSim s.seen.tokens (record x { member = member }) (record canon { content = put }) (r.enrolled i)
    seated_node =
        let h = sim.nodes i in
        let many = put_size x.member.content seat y None in
        let unlike : (u : ℕ) → number_of (length (with_row x.member.content seat y None).rows) x.name u ≡ None → u ≡ t → ⊥ = λ u unseated same.
        number_lacks (length x.member.content.rows) x.name u (subst (λ m. number_of m x.name u ≡ None) many unseated) seat seat_there.0 (seat_there.1 ∙ sym same) in
        record {
          content = subst (λ z. IsNamed x.name (with_row x.member.content seat y None) (with_row (record canon.content { last = option_map (named_pass x.name) x.member.content.last }) z y None)) seat_there.1
              (named_put x.name x.member.content (record canon.content { last = option_map (named_pass x.name) x.member.content.last }) seat y None None h.content seat_there.0 refl (λ z q. absurd (none-some z q)));
          voter = subst (λ m. IsNamedVoter x.name m x.member.voter canon.voter) (sym many) h.voter;
          running = h.running ∙ up;
          last = h.last;
          on_is = h.on_is;
          seated = λ m a. h.seated m (omega (arith, a, many));
          within = h.within;
          away = λ u mine unseated. only_put canon.content t y None u (unlike u unseated) ∙ h.away u mine (subst (λ m. number_of m x.name u ≡ None) many unseated);
          free = λ u off. only_put canon.content t y None u (λ same. false≢true (sym off ∙ ap (s.enrolled i) same ∙ on)) ∙ h.free u off;
        }

    seated_stored : IsStored (site_of seated i) written
    seated_stored = record {
      seats = at.seats;
      below = subst (λ q. IsBelow (site_of seated i) name at.seats (with_row c q y None)) place_is (put_is_below s i name at.seats c at.below seat seat_low y None x.member.voter true tt);
      size = at.size ∙ sym (put_size c k y None);
    }

    seated_here : site_of seated i ≡ record x { member = member }
    seated_here = ap (λ b. record x { member = cond b member x.member }) (eq-eqb i i refl)

    seated_other : (j : ℕ) → (j ≡ i → ⊥) → site_of seated j ≡ site_of s j
    seated_other j ne = ap (λ b. record (site_of s j) { member = cond b member (s.seen.own.nodes j) }) (not_eqb j i ne)

  -- ---- the event

  -- the members after the write: the row is put at the node
  record Wrote (w : Cluster) : Type 0 where
    n : w.n ≡ r.cluster.n
    lost : w.lost ≡ r.cluster.lost
    least : w.least ≡ r.cluster.least
    sent : w.sent ≡ r.cluster.sent
    begun : w.begun ≡ r.cluster.begun
    accepted : w.accepted ≡ r.cluster.accepted
    here : w.nodes i ≡ record canon { content = put }
    others : (j : ℕ) → (j ≡ i → ⊥) → w.nodes j ≡ r.cluster.nodes j

  -- the sites after it
  record Rewrites : Type 0 where
    sites : Sites
    tokens : sites.seen.tokens ≡ s.seen.tokens
    n : sites.seen.own.n ≡ s.seen.own.n
    lost : sites.seen.own.lost ≡ s.seen.own.lost
    least : sites.seen.own.least ≡ s.seen.own.least
    sent : sites.seen.own.sent ≡ s.seen.own.sent
    begun : sites.seen.own.begun ≡ s.seen.own.begun
    accepted : sites.seen.own.accepted ≡ s.seen.own.accepted
    node : NodeSim s.seen.tokens (site_of sites i) (record canon { content = put }) (r.enrolled i)
    stored : IsStored (site_of sites i) written
    running : (sites.seen.own.nodes i).running ≡ true
    others : (j : ℕ) → (j ≡ i → ⊥) → site_of sites j ≡ site_of s j

  rewrites : Rewrites
  rewrites =
      ⊎_elim
      (λ (none : number_at s.seen i t ≡ None). record {
        sites = aside none;
        tokens = refl;
        n = refl;
        lost = refl;
        least = refl;
        sent = refl;
        begun = refl;
        accepted = refl;
        node = subst (λ z. NodeSim s.seen.tokens z (record canon { content = put }) (r.enrolled i)) (sym (aside_here none)) (aside_node none);
        stored = subst (λ z. IsStored z written) (sym (aside_here none)) (aside_stored none);
        running = up;
        others = aside_other none;
      })
      (λ (some : (seat : ℕ) × (number_at s.seen i t ≡ Some seat)). record {
        sites = seated some.0 some.1;
        tokens = refl;
        n = refl;
        lost = refl;
        least = refl;
        sent = refl;
        begun = refl;
        accepted = refl;
        node = subst (λ z. NodeSim s.seen.tokens z (record canon { content = put }) (r.enrolled i)) (sym (seated_here some.0 some.1)) (seated_node some.0 some.1);
        stored = seated_stored some.0 some.1;
        running = ap (λ (z : Site). z.member.running) (seated_here some.0 some.1);
        others = seated_other some.0 some.1;
      })
      (option_cases (number_at s.seen i t))

  writes : (Q : Acceptance → Type 0) (event : Event) → ((p : Acceptance) → IsProposedIn p (Some event) → ⊥) → Wrote (after_event e event r.cluster) → Next setting e r (changed i (Down written) [] state) Q
  writes Q event none w =
      let f = rewrites in
      let v = after_event e event r.cluster in
      let s' = f.sites in
      record {
        sites = s';
        roster = record r { cluster = v };
        event = event;
        sim = record {
          members = w.n ∙ sim.members ∙ sym f.n;
          lost = w.lost ∙ sim.lost ∙ sym f.lost;
          least = λ u. ap (λ (l : ℕ → ℕ). l u) w.least ∙ sim.least u ∙ ap (λ (l : ℕ → ℕ). l u) (sym f.least);
          sent = w.sent ∙ sim.sent ∙ sym f.sent;
          begun = w.begun ∙ sim.begun ∙ sym f.begun;
          accepted = w.accepted ∙ sim.accepted ∙ sym f.accepted;
          nodes = λ j. subst (λ T. NodeSim T (site_of s' j) (v.nodes j) (r.enrolled j)) (sym f.tokens)
              (⊎_elim
              (λ (same : j ≡ i). subst (λ z. NodeSim s.seen.tokens (site_of s' z) (v.nodes z) (r.enrolled z)) (sym same) (subst (λ m. NodeSim s.seen.tokens (site_of s' i) m (r.enrolled i)) (sym w.here) f.node))
              (λ (ne : j ≡ i → ⊥).
              subst (λ z. NodeSim s.seen.tokens z (v.nodes j) (r.enrolled j)) (sym (f.others j ne))
              (subst (λ m. NodeSim s.seen.tokens (site_of s j) m (r.enrolled j)) (sym (w.others j ne)) (sim.nodes j)))
              (same_or_not j i));
        };
        posts = subst (λ T. Posts T v) (sym f.tokens) (event_posts s.seen.tokens e event r.cluster posts);
        fits = record {
          tokens = f.tokens ∙ fits.tokens;
          n = f.n ∙ fits.n;
          lost = f.lost ∙ fits.lost;
          least = f.least ∙ fits.least;
          begun = f.begun ∙ fits.begun;
          accepted = f.accepted ∙ fits.accepted;
          offered = subst (λ l. Each (IsSent l) (state.offered ++ [])) (sym f.sent) (each_append (IsSent s.seen.own.sent) state.offered [] fits.offered tt);
          nodes = set_at (λ j q. IsAt s'.seen.own.sent (state.lost j) (site_of s' j) q) i (Down written) state.processes
              (f.stored, λ kept. f.running)
              (λ j ne.
              subst (λ l. IsAt l (state.lost j) (site_of s' j) (state.processes j)) (sym f.sent)
              (subst (λ z. IsAt s.seen.own.sent (state.lost j) z (state.processes j)) (sym (f.others j ne)) (fits.nodes j)));
        };
        same = refl;
        proposed = λ p h. absurd (none p h);
        grows = λ l k. subst (λ sent. HasSent sent l) (sim.sent ∙ sym f.sent) k;
      }

  canon_up : canon.running ≡ true
  canon_up = (sim.nodes i).running ∙ up

  has : has_site r.cluster i ≡ true
  has = store_same i sim ∙ has_own setting state s i fits can

-- ---- the two commands

module _ (setting : Setting) (e i t : ℕ) (store : Store) (state : State) (s : Sites) (r : Roster) (sim : Sim s r) (posts : Posts s.seen.tokens r.cluster) (fits : Fits setting state s)
    (can : has_store setting state i ≡ true) (at : IsStored (site_of s i) store) (up : (s.seen.own.nodes i).running ≡ true) where
  pub unlocks : (Q : Acceptance → Type 0) (k : ℕ) → row_of store t ≡ Some k → Next setting e r (changed i (Down (record store { content = content_unlocked (Some k) store.content })) [] state) Q
  unfolding after_event after_act cluster_after
  unlocks Q k found =
      let y = row_with_gate clear_gate (row store.content k) in
      let old = r.cluster.nodes i in
      let w = cluster_after e i (quiet_step (content_with_gate t clear_gate old.content) old.voter) r.cluster in
      let new = member_with (content_with_gate t clear_gate old.content) old.voter in
      let runs : is_running r.cluster i ≡ true = and_from (has_site r.cluster i) old.running (has setting e i t store state s r sim posts fits can at up k found y) (canon_up setting e i t store state s r sim posts fits can at up k found y) in
      let is : cond (is_running r.cluster i) w r.cluster ≡ w = cond-true (is_running r.cluster i) w r.cluster runs in
      writes setting e i t store state s r sim posts fits can at up k found y Q (Happens (Throttle i t clear_gate)) (λ p h. h)
      (subst (λ z. Wrote setting e i t store state s r sim posts fits can at up k found y z) (sym is) (record {
        n = refl;
        lost = refl;
        least = refl;
        sent = append-nil r.cluster.sent;
        begun = refl;
        accepted = append-nil r.cluster.accepted;
        here = cond-true (eqb i i) new old (eq-eqb i i refl)
            ∙ ap (λ z. member_with (with_row old.content t (row_with_gate clear_gate z) None) old.voter) (row_is setting e i t store state s r sim posts fits can at up k found y)
            ∙ ap (λ b. record { content = with_row old.content t y None; voter = old.voter; running = b }) (sym (canon_up setting e i t store state s r sim posts fits can at up k found y));
        others = λ j ne. cond-false (eqb j i) new (r.cluster.nodes j) (not_eqb j i ne);
      }))

  pub raises : (Q : Acceptance → Type 0) (k floor : ℕ) → row_of store t ≡ Some k → ltb (row store.content k).next floor ≡ true
      → Next setting e r (changed i (Down (record store { content = with_row store.content k (row_with_next floor (row store.content k)) None })) [] state) Q
  unfolding after_event after_act raise
  raises Q k floor found lower =
      let y = row_with_next floor (row store.content k) in
      let old = r.cluster.nodes i in
      let new = raised_member (alone_floor t floor) old in
      let w = with_member i new r.cluster in
      let same = row_is setting e i t store state s r sim posts fits can at up k found y in
      let is : cond (has_site r.cluster i) w r.cluster ≡ w = cond-true (has_site r.cluster i) w r.cluster (has setting e i t store state s r sim posts fits can at up k found y) in
      writes setting e i t store state s r sim posts fits can at up k found y Q (Happens (Raise i (alone_floor t floor))) (λ p h. h)
      (subst (λ z. Wrote setting e i t store state s r sim posts fits can at up k found y z) (sym is) (record {
        n = refl;
        lost = refl;
        least = refl;
        sent = refl;
        begun = refl;
        accepted = refl;
        here = cond-true (eqb i i) new old (eq-eqb i i refl)
            ∙ ap (λ d. record old { content = d })
            (raise_within (length old.content.rows) t floor old.content (within setting e i t store state s r sim posts fits can at up k found y)
            ∙ cond-true (ltb (row old.content t).next floor) (with_row old.content t (row_with_next floor (row old.content t)) None) old.content (ap (λ (z : RowRecord). ltb z.next floor) same ∙ lower)
            ∙ ap (λ z. with_row old.content t (row_with_next floor z) None) same);
        others = λ j ne. cond-false (eqb j i) new (r.cluster.nodes j) (not_eqb j i ne);
      }))

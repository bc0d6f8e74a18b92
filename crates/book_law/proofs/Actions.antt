-- Each action of a history is an event over seats.
use Rattle.std.proofs.Common.{◌≡◌, ℕ, suc, ◌<◌, Bool, true, cond, ◌||◌, List, [], ◌∷◌, ◌++◌, length, map, Some, refl, sym, ap, ◌∙◌, subst, eqb, ltb}
use mathlib.Core.Path.{fun_ext}
use Rattle.std.specs.Prelude.{option_map}
use Rattle.std.specs.List.{list_all, slice_get}
use Rattle.std.proofs.lemmas.Bool.{and_parts, cond-true, eq-eqb, eqb-true, ltb-true, false≢true}
use Rattle.std.proofs.lemmas.Option.{none-some}
use Rattle.floor_store.specs.Content.{Content, with_next_boot}
use Rattle.floor_store.specs.Records.{PassRecord}
use Rattle.otp_core.specs.Acceptance.{Acceptance}
use Rattle.seated_store.specs.Seats.{AreSeats, seated_content}
use Rattle.vote_core.specs.Books.{Waits, are_apart}
use Rattle.vote_core.specs.NodeSet.{with_node}
use Rattle.vote_core.specs.Numbers.{named_pass, named_send}
use Rattle.vote_core.specs.Roster.{Roster, after_happening}
use Rattle.vote_core.specs.Schedule.{Cluster, Envelope, Member, envelope_from, greatest, has_store as has_site, last_boot, lost_member, restarted_member, set_node, stopped_member}
use Rattle.vote_core.specs.Voting.{fresh_voter}
use Rattle.vote_core.specs.declared.message.Message.{Message}
use Rattle.vote_core.proofs.Basics.{Each, each_append, each_weaker}
use Rattle.vote_core.proofs.Envelopes.{Posts}
use Rattle.vote_core.proofs.Names.{not_eqb}
use Rattle.oath_node.specs.Machine.{Made, NodeEvent, NodeState, opened_node}
use Rattle.cluster_sim.specs.World.{Answer, acceptance_in, begun_in, begun_with, passes_in, told_reply}
use Rattle.cluster_sim.proofs.BelowLaws.{GroundLaw}
use Rattle.cluster_sim.proofs.Owners.{get_more}
use Rattle.seat_law.specs.Below.{IsBelow, Site, site_of}
use Rattle.seat_law.specs.Seats.{Runs, Starts, Gone, Sites, after_course, after_start, free_of, happening_at, may_seat, seat_content, seat_name, stored_last, stored_row, with_own, with_seats}
use Rattle.seat_law.proofs.Below.{content_is, may, start_below}
use Rattle.seat_law.proofs.Relation.{Sim}
use Rattle.seat_law.proofs.Safe.{course_sim}
use Rattle.seat_law.proofs.Stores.{greatest_same}
use Rattle.book_law.specs.Lives.{IsGenuine, Output, Process, Sealed, Setting, State, Store, Terms, ToClient, ToPeer, Down, Up, do_fit, floor_of, has_row, has_store, made_by_input, named_beginning, note_of_step, outputs_of_step, places_of, sealed_from, seen_in, store_at, store_in_next_boot, store_under, with_process}
use Rattle.book_law.proofs.Effects.{Does, Fitted, FloorsSent, HasSent, IsSent, does, member_with}
use Rattle.book_law.proofs.Fits.{Fits, IsAt, Next, at_grows, at_stored, by_course, free_is, get_after, has_own, is_kept, sent_grows, set_at}
use Rattle.book_law.proofs.Opened.{IsOpen, IsStored, open_stored, seen_size, step_open}
use Rattle.book_law.proofs.Under.{are_places, named_places, opened_under}

-- ---- what changes nothing over seats

-- the state with another process of one node, and with further offers
abbrev pub changed : ℕ → Process → List Output → State → State
changed i p hs state = record {
  processes = with_process i p state.processes;
  lost = state.lost;
  least = state.least;
  offered = state.offered ++ hs;
  notes = state.notes;
}

pub alone : (setting : Setting) (i : ℕ) (p : Process) (hs : List Output) (state : State) (s : Sites) → Fits setting state s → IsAt s.seen.own.sent (state.lost i) (site_of s i) p → Each (IsSent s.seen.own.sent) hs
    → Fits setting (changed i p hs state) s
alone setting i p hs state s fits here known = record {
  tokens = fits.tokens;
  n = fits.n;
  lost = fits.lost;
  least = fits.least;
  begun = fits.begun;
  accepted = fits.accepted;
  offered = each_append (IsSent s.seen.own.sent) state.offered hs fits.offered known;
  nodes = set_at (λ j q. IsAt s.seen.own.sent (state.lost j) (site_of s j) q) i p state.processes here (λ j ne. fits.nodes j);
}

waits : (e i : ℕ) (s : Sites) → after_course e (Runs (Waits i)) s ≡ s
unfolding after_course
waits e i s = refl

pub stays : (setting : Setting) (e : ℕ) (s : Sites) (r : Roster) (state : State) (Q : Acceptance → Type 0) → Sim s r → Posts s.seen.tokens r.cluster → Fits setting state s → Next setting e r state Q
stays setting e s r state Q sim posts fits = by_course setting e s r state Q sim posts (Runs (Waits 0)) s (waits e 0 s) refl (λ p h. absurd h) (λ l k. k) (λ r' sim'. fits)

-- ---- a start

-- the site of a node after its start with the seats
abbrev seated_site : Sites → ℕ → List ℕ → Site
seated_site s i seats = record {
  name = seat_name seats;
  member = member_with (with_next_boot (seat_content s i seats)) fresh_voter;
  enrolled = s.enrolled i;
  aside = stored_row s i;
  last = stored_last s i;
}

seated_here : (s : Sites) (i : ℕ) (seats : List ℕ) → ltb (seat_content s i seats).boot last_boot ≡ true → site_of (with_seats i seats s) i ≡ seated_site s i seats
seated_here s i seats low =
    let old = record (s.seen.own.nodes i) { content = seat_content s i seats } in
    let start : Bool → Member → Site = λ b m. record {
      name = cond b (seat_name seats) (s.seen.name i);
      member = cond b m (s.seen.own.nodes i);
      enrolled = s.enrolled i;
      aside = cond b (stored_row s i) (s.aside i);
      last = cond b (stored_last s i) (s.last i);
    } in
    ap (λ b. start b (restarted_member old)) (eq-eqb i i refl)
    ∙ ap (start true) (cond-true (ltb old.content.boot last_boot) (member_with (with_next_boot old.content) fresh_voter) (stopped_member old) low)

seated_other : (s : Sites) (i : ℕ) (seats : List ℕ) (j : ℕ) → (j ≡ i → ⊥) → site_of (with_seats i seats s) j ≡ site_of s j
seated_other s i seats j ne =
    let old = record (s.seen.own.nodes i) { content = seat_content s i seats } in
    ap (λ b. record {
      name = cond b (seat_name seats) (s.seen.name j);
      member = cond b (restarted_member old) (s.seen.own.nodes j);
      enrolled = s.enrolled j;
      aside = cond b (stored_row s i) (s.aside j);
      last = cond b (stored_last s i) (s.last j);
    }) (not_eqb j i ne)

-- the sites after a node's start with the seats, when its process is the given one
seated_fits : (setting : Setting) (state : State) (s : Sites) (i : ℕ) (seats : List ℕ) (p : Process) → Fits setting state s → IsAt s.seen.own.sent (state.lost i) (site_of (with_seats i seats s) i) p
    → Fits setting (changed i p [] state) (with_seats i seats s)
seated_fits setting state s i seats p fits here = record {
  tokens = fits.tokens;
  n = fits.n;
  lost = fits.lost;
  least = fits.least;
  begun = fits.begun;
  accepted = fits.accepted;
  offered = each_append (IsSent s.seen.own.sent) state.offered [] fits.offered tt;
  nodes = set_at (λ j q. IsAt s.seen.own.sent (state.lost j) (site_of (with_seats i seats s) j) q) i p state.processes here
      (λ j ne. subst (λ x. IsAt s.seen.own.sent (state.lost j) x (state.processes j)) (sym (seated_other s i seats j ne)) (fits.nodes j));
}

starts : (e i : ℕ) (seats : List ℕ) (s : Sites) → may_seat s i seats ≡ true → after_course e (Starts i seats) s ≡ with_seats i seats s
unfolding after_course
starts e i seats s q = cond-true (may_seat s i seats) (with_seats i seats s) _ q

-- a process opens the store
module _ (setting : Setting) (e i : ℕ) (terms : Terms) (store : Store) (state : State) (s : Sites) (r : Roster) (sim : Sim s r) (posts : Posts s.seen.tokens r.cluster) (fits : Fits setting state s)
    (can : has_store setting state i ≡ true) (at : IsStored (site_of s i) store) (fit : do_fit terms store ≡ true) (low : ltb store.content.boot last_boot ≡ true) where
  abbrev name : ℕ → ℕ
  name = seat_name store.names

  abbrev places : List ℕ
  places = places_of store terms.seats

  parts : (are_apart (length terms.seats) (seat_name terms.seats) ≡ true) × (list_all (has_row store) terms.seats ≡ true)
  parts = and_parts (are_apart (length terms.seats) (seat_name terms.seats)) (list_all (has_row store) terms.seats) (and_parts (eqb (length terms.seats) (length terms.config.book)) _ fit).1

  named : map name places ≡ terms.seats
  named = named_places store terms.seats parts.1

  are : AreSeats (length store.content.rows) places
  are = subst (λ n. AreSeats n places) at.size (are_places store terms.seats parts.1 parts.0)

  has : has_site s.seen.own i ≡ true
  has = has_own setting state s i fits can

  boot : store.content.boot < last_boot
  boot = ltb-true store.content.boot last_boot low

  allowed : may_seat s i terms.seats ≡ true
  allowed = subst (λ l. may_seat s i l ≡ true) named (may s i name at.seats store.content at.below places are has boot)

  seen : seat_content s i terms.seats ≡ seated_content places store.content
  seen = subst (λ l. seat_content s i l ≡ seated_content places store.content) named (content_is s i name at.seats store.content at.below places are)

  is_low : ltb (seat_content s i terms.seats).boot last_boot ≡ true
  is_low = ap (λ (c : Content). ltb c.boot last_boot) seen ∙ low

  below : IsBelow (site_of (with_seats i terms.seats s) i) name places (with_next_boot store.content)
  below =
      subst (λ (z : Sites). IsBelow (site_of z i) name places (with_next_boot store.content)) (cond-true (may_seat s i terms.seats) (with_seats i terms.seats s) _ allowed)
      (subst (λ l. IsBelow (site_of (after_start i l s) i) name places (with_next_boot store.content)) named (start_below s i name at.seats store.content at.below places are has boot))

  opened : IsOpen (seated_site s i terms.seats) terms store (opened_node (seen_in store terms.seats))
  opened = record {
    known = subst (λ c. IsBelow (seated_site s i terms.seats) name places c) (sym (opened_under places store.content))
        (subst (λ x. IsBelow x name places (with_next_boot store.content)) (seated_here s i terms.seats is_low) below);
    size = at.size;
    member = ap (λ c. member_with (with_next_boot c) fresh_voter) seen;
    name = refl;
    book = eqb-true (length terms.seats) (length terms.config.book) (and_parts (eqb (length terms.seats) (length terms.config.book)) _ fit).0;
    named = named;
    apart = parts.0;
    last = sym at.below.last;
    last_known = at.below.last_known;
    unseen = λ none. none;
  }

  pub opens : (Q : Acceptance → Type 0) → Next setting e r (changed i (Up terms store (opened_node (seen_in store terms.seats)) []) [] state) Q
  opens Q =
      let p = Up terms store (opened_node (seen_in store terms.seats)) [] in
      by_course setting e s r (changed i p [] state) Q sim posts (Starts i terms.seats) (with_seats i terms.seats s) (starts e i terms.seats s allowed) refl (λ q h. absurd h) (λ l k. k)
      (λ r' sim'. seated_fits setting state s i terms.seats p fits
      (subst (λ x. IsAt s.seen.own.sent (state.lost i) x p) (sym (seated_here s i terms.seats is_low)) (opened, tt, is_kept setting state i can)))

no_seats : (rows : ℕ) → AreSeats rows []
no_seats rows = record { within = λ j seat at. absurd (none-some seat at); apart = λ j k seat at there. absurd (none-some seat at) }

-- a process raises the boot, and ends
module _ (setting : Setting) (e i : ℕ) (store : Store) (state : State) (s : Sites) (r : Roster) (sim : Sim s r) (posts : Posts s.seen.tokens r.cluster) (fits : Fits setting state s)
    (can : has_store setting state i ≡ true) (at : IsStored (site_of s i) store) (low : ltb store.content.boot last_boot ≡ true) where
  half_has : has_site s.seen.own i ≡ true
  half_has = has_own setting state s i fits can

  half_boot : store.content.boot < last_boot
  half_boot = ltb-true store.content.boot last_boot low

  half_allowed : may_seat s i [] ≡ true
  half_allowed = may s i (seat_name store.names) at.seats store.content at.below [] (no_seats (length store.content.rows)) half_has half_boot

  half_below : IsBelow (site_of (with_seats i [] s) i) (seat_name store.names) [] (with_next_boot store.content)
  half_below =
      subst (λ (z : Sites). IsBelow (site_of z i) (seat_name store.names) [] (with_next_boot store.content)) (cond-true (may_seat s i []) (with_seats i [] s) _ half_allowed)
      (start_below s i (seat_name store.names) at.seats store.content at.below [] (no_seats (length store.content.rows)) half_has half_boot)

  half_low : ltb (seat_content s i []).boot last_boot ≡ true
  half_low = ap (λ (c : Content). ltb c.boot last_boot) (content_is s i (seat_name store.names) at.seats store.content at.below [] (no_seats (length store.content.rows))) ∙ low

  pub half_opens : (Q : Acceptance → Type 0) → Next setting e r (changed i (Down (store_in_next_boot store)) [] state) Q
  half_opens Q =
      let p = Down (store_in_next_boot store) in
      by_course setting e s r (changed i p [] state) Q sim posts (Starts i []) (with_seats i [] s) (starts e i [] s half_allowed) refl (λ q h. absurd h) (λ l k. k)
      (λ r' sim'. seated_fits setting state s i [] p fits (
        record { seats = []; below = half_below; size = at.size },
        λ kept. ap (λ (x : Site). x.member.running) (seated_here s i [] half_low),
      ))

-- ---- a step

known_sends : (terms : Terms) (i : ℕ) (sent : List Envelope) (sends : List (ℕ × Message))
    → ((k : ℕ) (l : Envelope) → slice_get (map (envelope_from i) (map (named_send (seat_name terms.seats)) sends)) k ≡ Some l → (m : ℕ) × (slice_get sent m ≡ Some l))
    → Each (IsSent sent) (map (λ (sealed : Sealed). ToPeer sealed) (map (sealed_from terms i) sends))
known_sends terms i sent [] h = tt
known_sends terms i sent (x ∷ sends) h = (h 0 _ refl, known_sends terms i sent sends (λ k l at. h (suc k) l at))

known_answers : (sent : List Envelope) (answers : List Answer) → Each (IsSent sent) (map (λ (answer : Answer). ToClient answer) answers)
known_answers sent [] = tt
known_answers sent (x ∷ answers) = (tt, known_answers sent answers)

module _ (law : GroundLaw) (setting : Setting) (e i : ℕ) (terms : Terms) (below : Store) (node : NodeState) (waiting : List Output) (input : NodeEvent)
    (state : State) (s : Sites) (r : Roster) (sim : Sim s r) (posts : Posts s.seen.tokens r.cluster) (fits : Fits setting state s)
    (can : has_store setting state i ≡ true) (at : IsAt s.seen.own.sent (state.lost i) (site_of s i) (Up terms below node waiting))
    (genuine : IsGenuine terms state.offered input) (floors : FloorsSent setting.tokens setting.n s.seen.own.sent i input) where
  abbrev made : Made
  made = made_by_input setting terms i input node

  open_now : IsOpen (site_of s i) terms below node
  open_now = at.0

  done : Does e i s terms node input made
  done = does law e i setting.n s r sim terms node input fits.n (has_own setting state s i fits can) open_now.member open_now.name (seen_size open_now) open_now.book open_now.apart
      state.offered fits.offered genuine (subst (λ m. FloorsSent m setting.n s.seen.own.sent i input) (sym fits.tokens) floors)

  abbrev own : Cluster
  own = done.own

  abbrev after : Sites
  after = with_own own s

  abbrev more : List Envelope
  more = map (envelope_from i) (map (named_send (s.seen.name i)) made.sends)

  ran : after_course e (Runs done.doing) s ≡ after
  unfolding after_course
  ran = done.is_done

  still_open : (r' : Roster) → Sim after r' → IsOpen (site_of after i) terms below made.state
  still_open r' sim' =
      step_open (site_of s i) terms below node open_now (site_of after i) made.state refl refl refl refl done.effect.here done.size
      (subst (λ (m : Member). (pass : PassRecord) → m.content.last ≡ Some pass → pass.token < length m.content.rows) done.effect.here (sim'.nodes i).content.last_known)
      done.grows

  -- the process is open after the step
  pub opened_step : (x : Site) × IsOpen x terms below made.state
  opened_step =
      let r' = after_happening e (happening_at s (Runs done.doing)) r in
      (site_of after i, still_open r' (subst (λ z. Sim z r') ran (course_sim e s r (Runs done.doing) posts sim)))

  sent_before : (h : Output) → IsSent s.seen.own.sent h → IsSent own.sent h
  sent_before h k = subst (λ l. IsSent l h) (sym done.effect.sent) (sent_grows s.seen.own.sent more h k)

  step_grows : (l : Envelope) → HasSent s.seen.own.sent l → HasSent own.sent l
  step_grows l k = subst (λ sent. HasSent sent l) (sym done.effect.sent) (k.0, get_more s.seen.own.sent more k.0 l k.1)

  outputs_known : Each (IsSent own.sent) (outputs_of_step terms e i made)
  outputs_known =
      let sent' = s.seen.own.sent ++ map (envelope_from i) (map (named_send (seat_name terms.seats)) made.sends) in
      let is : own.sent ≡ sent' = done.effect.sent ∙ ap (λ f. s.seen.own.sent ++ map (envelope_from i) (map (named_send f) made.sends)) open_now.name in
      subst (λ l. Each (IsSent l) (outputs_of_step terms e i made)) (sym is)
      (each_append (IsSent sent') (map (λ (sealed : Sealed). ToPeer sealed) (map (sealed_from terms i) made.sends)) (map (λ (answer : Answer). ToClient answer) (map (told_reply e i) made.replies))
      (known_sends terms i sent' made.sends (λ k l found. get_after s.seen.own.sent (map (envelope_from i) (map (named_send (seat_name terms.seats)) made.sends)) k l found))
      (known_answers sent' (map (told_reply e i) made.replies)))

  -- the state after the step, when the process is the given one
  abbrev stepped : Process → State
  stepped p = record {
    processes = with_process i p state.processes;
    lost = state.lost;
    least = state.least;
    offered = state.offered ++ [];
    notes = note_of_step terms e i made ∷ state.notes;
  }

  begun : own.begun ≡ begun_in (note_of_step terms e i made ∷ state.notes)
  begun =
      done.effect.begun
      ∙ ap (λ f. begun_with e (option_map (named_beginning f) made.began) s.seen.own.begun) open_now.name
      ∙ ap (begun_with e (option_map (named_beginning (seat_name terms.seats)) made.began)) fits.begun

  accepted : own.accepted ≡ passes_in (note_of_step terms e i made ∷ state.notes)
  accepted =
      done.effect.accepted
      ∙ ap (λ l. l ++ acceptance_in own.begun e i (option_map (named_pass (s.seen.name i)) made.pass)) fits.accepted
      ∙ ap (λ b. passes_in state.notes ++ acceptance_in b e i (option_map (named_pass (s.seen.name i)) made.pass)) begun
      ∙ ap (λ f. passes_in state.notes ++ acceptance_in (begun_in (note_of_step terms e i made ∷ state.notes)) e i (option_map (named_pass f) made.pass)) open_now.name

  step_fits : (p : Process) → IsAt own.sent (state.lost i) (site_of after i) p → Fits setting (stepped p) after
  step_fits p here = record {
    tokens = fits.tokens;
    n = done.effect.n ∙ fits.n;
    lost = done.effect.lost ∙ fits.lost;
    least = done.effect.least ∙ fits.least;
    begun = begun;
    accepted = accepted;
    offered = each_append (IsSent own.sent) state.offered [] (each_weaker (IsSent s.seen.own.sent) (IsSent own.sent) sent_before state.offered fits.offered) tt;
    nodes = set_at (λ j q. IsAt own.sent (state.lost j) (site_of after j) q) i p state.processes here
        (λ j ne.
        subst (λ l. IsAt l (state.lost j) (site_of after j) (state.processes j)) (sym done.effect.sent)
        (at_grows s.seen.own.sent more (state.lost j) (site_of after j) (state.processes j)
        (subst (λ m. IsAt s.seen.own.sent (state.lost j) (record (site_of s j) { member = m }) (state.processes j)) (sym (done.effect.others j ne)) (fits.nodes j))));
  }

  pub takes : Next setting e r (stepped (Up terms below made.state (waiting ++ outputs_of_step terms e i made))) (Fitted terms node i input)
  takes =
      let p = Up terms below made.state (waiting ++ outputs_of_step terms e i made) in
      by_course setting e s r (stepped p) (Fitted terms node i input) sim posts (Runs done.doing) after ran refl done.fitted step_grows
      (λ r' sim'. step_fits p (
        still_open r' sim',
        each_append (IsSent own.sent) waiting (outputs_of_step terms e i made) (each_weaker (IsSent s.seen.own.sent) (IsSent own.sent) sent_before waiting at.1) outputs_known,
        at.2,
      ))

  pub cuts : Next setting e r (stepped (Down (store_under terms.seats made.state.content below))) (Fitted terms node i input)
  cuts =
      let p = Down (store_under terms.seats made.state.content below) in
      by_course setting e s r (stepped p) (Fitted terms node i input) sim posts (Runs done.doing) after ran refl done.fitted step_grows
      (λ r' sim'. let now = still_open r' sim' in step_fits p (open_stored (site_of after i) terms below made.state now, λ kept. ap (λ (m : Member). m.running) now.member))

-- ---- a loss

lose_below : (x : Site) (name : ℕ → ℕ) (seats : List ℕ) (c : Content) → IsBelow x name seats c → IsBelow (record x { member = lost_member x.member }) name seats (with_next_boot c)
lose_below x name seats c b = record {
  are = b.are;
  one = b.one;
  seen = ap with_next_boot b.seen;
  names = b.names;
  aside = b.aside;
  enrolled = b.enrolled;
  last = b.last;
  last_known = b.last_known;
}

module _ (setting : Setting) (e i : ℕ) (p : Process) (state : State) (s : Sites) (r : Roster) (sim : Sim s r) (posts : Posts s.seen.tokens r.cluster) (fits : Fits setting state s)
    (can : has_store setting state i ≡ true) (at : IsAt s.seen.own.sent (state.lost i) (site_of s i) p) where
  gone_own : Cluster
  gone_own = record s.seen.own {
    nodes = set_node i (lost_member (s.seen.own.nodes i)) s.seen.own.nodes;
    lost = with_node i s.seen.own.lost;
    least = λ token. greatest s.seen.own.n (with_node i s.seen.own.lost) (λ other. free_of s other token);
  }

  is_gone : after_course e (Gone i) s ≡ with_own gone_own s
  unfolding after_course gone_own
  is_gone = ap (λ w. with_own w s) (cond-true (has_site s.seen.own i) _ s.seen.own (has_own setting state s i fits can))

  abbrev gone_store : Store
  gone_store = store_in_next_boot (store_at p)

  abbrev pub gone_state : State
  gone_state = record {
    processes = with_process i (Down gone_store) state.processes;
    lost = with_node i state.lost;
    least = λ token. greatest setting.n (with_node i state.lost) (λ other. floor_of (store_at (state.processes other)) token);
    offered = state.offered ++ [];
    notes = state.notes;
  }

  gone_here : IsAt s.seen.own.sent (with_node i state.lost i) (site_of (with_own gone_own s) i) (Down gone_store)
  unfolding gone_own
  gone_here =
      let stored = at_stored s.seen.own.sent (state.lost i) (site_of s i) p at in (
        subst (λ m. IsStored (record (site_of s i) { member = m }) gone_store) (sym (cond-true (eqb i i) (lost_member (s.seen.own.nodes i)) (s.seen.own.nodes i) (eq-eqb i i refl)))
            (record { seats = stored.seats; below = lose_below (site_of s i) (seat_name (store_at p).names) stored.seats (store_at p).content stored.below; size = stored.size }),
        λ kept. absurd (false≢true (sym kept ∙ ap (λ b. b || state.lost i) (eq-eqb i i refl))),
      )

  gone_other : (j : ℕ) → (j ≡ i → ⊥) → IsAt s.seen.own.sent (with_node i state.lost j) (site_of (with_own gone_own s) j) (state.processes j)
  unfolding gone_own
  gone_other j ne =
      subst (λ b. IsAt s.seen.own.sent (b || state.lost j) (record (site_of s j) { member = cond b (lost_member (s.seen.own.nodes i)) (s.seen.own.nodes j) }) (state.processes j)) (sym (not_eqb j i ne)) (fits.nodes j)

  gone_fits : Fits setting gone_state (with_own gone_own s)
  unfolding gone_own
  gone_fits = record {
    tokens = fits.tokens;
    n = fits.n;
    lost = ap (with_node i) fits.lost;
    least = fun_ext (λ token.
        ap (λ m. greatest m (with_node i s.seen.own.lost) (λ other. free_of s other token)) fits.n
        ∙ ap (λ l. greatest setting.n (with_node i l) (λ other. free_of s other token)) fits.lost
        ∙ greatest_same setting.n (with_node i state.lost) (λ other. free_of s other token) (λ other. floor_of (store_at (state.processes other)) token)
        (λ other. free_is s other token s.seen.own.sent (state.lost other) (state.processes other) (fits.nodes other)));
    begun = fits.begun;
    accepted = fits.accepted;
    offered = each_append (IsSent s.seen.own.sent) state.offered [] fits.offered tt;
    nodes = set_at (λ j q. IsAt s.seen.own.sent (with_node i state.lost j) (site_of (with_own gone_own s) j) q) i (Down gone_store) state.processes gone_here gone_other;
  }

  gone_grows : (l : Envelope) → HasSent s.seen.own.sent l → HasSent (with_own gone_own s).seen.own.sent l
  unfolding gone_own
  gone_grows l k = k

  pub loses : (Q : Acceptance → Type 0) → Next setting e r gone_state Q
  loses Q = by_course setting e s r gone_state Q sim posts (Gone i) (with_own gone_own s) is_gone refl (λ q h. absurd h) gone_grows (λ r' sim'. gone_fits)

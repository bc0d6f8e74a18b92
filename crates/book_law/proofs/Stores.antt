-- A replacement store, and a row for a token that has none, are events over seats.
use Rattle.std.proofs.Common.{◌≡◌, ℕ, zero, suc, ⊎_elim, Bool, true, not, cond, ◌&&◌, ◌||◌, List, [], ◌∷◌, ◌++◌, length, map, None, refl, sym, ap, ◌∙◌, subst, arith, eqb, leb, ltb}
use mathlib.Core.Path.{fun_ext}
use Rattle.std.specs.List.{list_all}
use Rattle.std.proofs.lemmas.Bool.{and_from, and_parts, cond-false, cond-true, eq-eqb}
use Rattle.std.proofs.lemmas.List.{append-nil, length-map}
use Rattle.floor_store.specs.Content.{opening_content_at, opening_row}
use Rattle.otp_core.specs.Acceptance.{Acceptance, majority_of, size}
use Rattle.vote_core.specs.Books.{Adds, are_apart, is_number, number_of, with_name}
use Rattle.vote_core.specs.Numbers.{with_new_row}
use Rattle.vote_core.specs.Roster.{Roster, with_tokens}
use Rattle.vote_core.specs.Schedule.{Envelope, Member, all_most, has_store as has_site, is_member, last_boot, opening_member, set_node, without_node}
use Rattle.vote_core.proofs.Basics.{each_append}
use Rattle.vote_core.proofs.Envelopes.{Posts}
use Rattle.vote_core.proofs.Names.{not_eqb, same_or_not}
use Rattle.cluster_sim.specs.World.{note_anew, passes_in}
use Rattle.seat_law.specs.Below.{IsBelow, site_of}
use Rattle.seat_law.specs.Seats.{Remade, Runs, Sites, after_course, is_among, made_floor, may_add, may_remake, seat_name, with_last, with_opening, with_rows}
use Rattle.seat_law.proofs.Below.{added_below, remade_below}
use Rattle.seat_law.proofs.Relation.{Sim}
use Rattle.book_law.specs.Lives.{Process, Setting, State, Store, Down, has_row, has_store, may_be_remade, may_enrol, store_at, store_with_row, store_with_rows, with_process}
use Rattle.book_law.proofs.Actions.{changed}
use Rattle.book_law.proofs.Effects.{HasSent, IsSent}
use Rattle.book_law.proofs.Fits.{Fits, IsAt, Next, at_stored, by_course, has_own, set_at}
use Rattle.book_law.proofs.Opened.{IsStored}

-- ---- a replacement store

module _ (setting : Setting) (e i boot : ℕ) (given : List ℕ) (floor : ℕ → ℕ) (p : Process) (state : State) (s : Sites) (r : Roster) (sim : Sim s r) (posts : Posts s.seen.tokens r.cluster) (fits : Fits setting state s)
    (can : may_be_remade setting state i boot given floor ≡ true) (at : IsAt s.seen.own.sent (state.lost i) (site_of s i) p) (here : state.processes i ≡ p) where
  abbrev tests : Bool × Bool
  tests = (list_all (λ token. ltb token setting.tokens) given, are_apart (length given) (seat_name given))

  abbrev rest : ℕ → (ℕ → Bool) → ℕ → ℕ → (ℕ → ℕ) → Bool
  rest n lost before tokens least =
      (is_member n i && lost i) && (ltb (size n lost) (majority_of n) && (leb before boot && (leb boot last_boot && all_most tokens least (made_floor given floor))))

  parts : ((list_all (λ token. ltb token setting.tokens) given && are_apart (length given) (seat_name given)) ≡ true) × (rest setting.n state.lost (store_at (state.processes i)).content.boot setting.tokens state.least ≡ true)
  parts = and_parts (list_all (λ token. ltb token setting.tokens) given && are_apart (length given) (seat_name given)) (rest setting.n state.lost (store_at (state.processes i)).content.boot setting.tokens state.least) can

  names : (list_all (λ token. ltb token setting.tokens) given ≡ true) × (are_apart (length given) (seat_name given) ≡ true)
  names = and_parts (list_all (λ token. ltb token setting.tokens) given) (are_apart (length given) (seat_name given)) parts.0

  before : (s.seen.own.nodes i).content.boot ≡ (store_at (state.processes i)).content.boot
  before = ap (λ c. c.boot) (at_stored s.seen.own.sent (state.lost i) (site_of s i) p at).below.seen ∙ ap (λ q. (store_at q).content.boot) (sym here)

  allowed : may_remake s i boot given floor ≡ true
  allowed =
      and_from (list_all (λ token. ltb token s.seen.tokens) given) (rest s.seen.own.n s.seen.own.lost (s.seen.own.nodes i).content.boot s.seen.tokens s.seen.own.least)
      (ap (λ m. list_all (λ token. ltb token m) given) fits.tokens ∙ names.0)
      (ap (λ m. rest m s.seen.own.lost (s.seen.own.nodes i).content.boot s.seen.tokens s.seen.own.least) fits.n
      ∙ ap (λ l. rest setting.n l (s.seen.own.nodes i).content.boot s.seen.tokens s.seen.own.least) fits.lost
      ∙ ap (λ m. rest setting.n state.lost m s.seen.tokens s.seen.own.least) before
      ∙ ap (λ m. rest setting.n state.lost (store_at (state.processes i)).content.boot m s.seen.own.least) fits.tokens
      ∙ ap (λ l. rest setting.n state.lost (store_at (state.processes i)).content.boot setting.tokens l) fits.least
      ∙ parts.1)

  remade : Sites
  remade = record s {
    seen = record s.seen {
      own = record s.seen.own {
        nodes = set_node i (opening_member boot 0 (λ seat. 0)) s.seen.own.nodes;
        lost = without_node i s.seen.own.lost;
      };
    };
    enrolled = with_tokens i (is_among given) s.enrolled;
    aside = with_rows i (λ token. opening_row (floor token)) s.aside;
    last = with_last i None s.last;
  }

  is_remade : after_course e (Remade i boot given floor) s ≡ remade
  unfolding after_course remade
  is_remade = cond-true (may_remake s i boot given floor) _ s allowed

  below : IsBelow (site_of remade i) (seat_name given) [] (opening_content_at boot (map floor given))
  unfolding remade
  below =
      subst (λ (z : Sites). IsBelow (site_of z i) (seat_name given) [] (opening_content_at boot (map floor given))) (cond-true (may_remake s i boot given floor) _ s allowed)
      (remade_below s i boot given floor allowed names.1)

  abbrev anew : State
  anew = record {
    processes = with_process i (Down (store_with_rows boot given floor)) state.processes;
    lost = without_node i state.lost;
    least = state.least;
    offered = state.offered ++ [];
    notes = note_anew e i ∷ state.notes;
  }

  remade_here : IsAt s.seen.own.sent (without_node i state.lost i) (site_of remade i) (Down (store_with_rows boot given floor))
  unfolding remade
  remade_here = (
    record { seats = []; below = below; size = sym (length-map (map floor given) opening_row ∙ length-map given floor) },
    λ kept. ap (λ (m : Member). m.running) (cond-true (eqb i i) (opening_member boot 0 (λ seat. 0)) (s.seen.own.nodes i) (eq-eqb i i refl)),
  )

  remade_other : (j : ℕ) → (j ≡ i → ⊥) → IsAt s.seen.own.sent (without_node i state.lost j) (site_of remade j) (state.processes j)
  unfolding remade
  remade_other j ne =
      subst (λ b. IsAt s.seen.own.sent (not b && state.lost j) (record {
        name = s.seen.name j;
        member = cond b (opening_member boot 0 (λ seat. 0)) (s.seen.own.nodes j);
        enrolled = cond b (is_among given) (s.enrolled j);
        aside = cond b (λ token. opening_row (floor token)) (s.aside j);
        last = cond b None (s.last j);
      }) (state.processes j)) (sym (not_eqb j i ne)) (fits.nodes j)

  remade_fits : Fits setting anew remade
  unfolding remade
  remade_fits = record {
    tokens = fits.tokens;
    n = fits.n;
    lost = ap (without_node i) fits.lost;
    least = fits.least;
    begun = fits.begun;
    accepted = fits.accepted ∙ sym (append-nil (passes_in state.notes));
    offered = each_append (IsSent s.seen.own.sent) state.offered [] fits.offered tt;
    nodes = set_at (λ j q. IsAt s.seen.own.sent (without_node i state.lost j) (site_of remade j) q) i (Down (store_with_rows boot given floor)) state.processes remade_here remade_other;
  }

  same_tokens : remade.seen.tokens ≡ s.seen.tokens
  unfolding remade
  same_tokens = refl

  remade_grows : (l : Envelope) → HasSent s.seen.own.sent l → HasSent remade.seen.own.sent l
  unfolding remade
  remade_grows l k = k

  pub remakes : (Q : Acceptance → Type 0) → Next setting e r anew Q
  remakes Q = by_course setting e s r anew Q sim posts (Remade i boot given floor) remade is_remade same_tokens (λ q h. absurd h) remade_grows (λ r' sim'. remade_fits)

-- ---- a row more

-- the names with one more at the end
more_names : (names : List ℕ) (t k : ℕ) → with_name (length names) t (seat_name names) k ≡ seat_name (names ++ t ∷ []) k
more_names [] t zero = refl
more_names [] t (suc k) = cond-false (eqb (suc k) 0) t 0 (not_eqb (suc k) 0 (λ q. omega (arith, q)))
more_names (x ∷ xs) t zero = cond-false (eqb 0 (suc (length xs))) t x (not_eqb 0 (suc (length xs)) (λ q. omega (arith, q)))
more_names (x ∷ xs) t (suc k) = ap (λ b. cond b t (seat_name xs k)) (same_next k (length xs)) ∙ more_names xs t k
  where
    same_next : (a b : ℕ) → eqb (suc a) (suc b) ≡ eqb a b
    same_next a b =
        ⊎_elim (λ (q : a ≡ b). eq-eqb (suc a) (suc b) (ap suc q) ∙ sym (eq-eqb a b q))
        (λ (ne : a ≡ b → ⊥). not_eqb (suc a) (suc b) (λ q. ne (omega (arith, q))) ∙ sym (not_eqb a b ne)) (same_or_not a b)

module _ (setting : Setting) (e i t floor : ℕ) (store : Store) (state : State) (s : Sites) (r : Roster) (sim : Sim s r) (posts : Posts s.seen.tokens r.cluster) (fits : Fits setting state s)
    (can : has_store setting state i ≡ true) (at : IsStored (site_of s i) store) (up : (s.seen.own.nodes i).running ≡ true) (new : may_enrol setting t store ≡ true) where
  enrol_parts : (ltb t setting.tokens ≡ true) × (not (has_row store t) ≡ true)
  enrol_parts = and_parts (ltb t setting.tokens) (not (has_row store t)) new

  enrol_allowed : may_add s i t ≡ true
  enrol_allowed =
      and_from (has_site s.seen.own i) (ltb t s.seen.tokens && not (s.enrolled i t)) (has_own setting state s i fits can)
      (and_from (ltb t s.seen.tokens) (not (s.enrolled i t)) (ap (ltb t) fits.tokens ∙ enrol_parts.0)
      (ap not (at.below.enrolled t ∙ ap (λ m. is_number (number_of m (seat_name store.names) t)) (sym at.size)) ∙ enrol_parts.1))

  enrolled : Sites
  enrolled = record s {
    enrolled = with_tokens i (λ other. s.enrolled i other || eqb other t) s.enrolled;
    aside = with_rows i (with_opening t floor (s.aside i)) s.aside;
  }

  is_enrolled : after_course e (Runs (Adds i t floor)) s ≡ enrolled
  unfolding after_course enrolled
  is_enrolled = cond-true (may_add s i t) _ s enrol_allowed

  enrolled_below : IsBelow (site_of enrolled i) (seat_name (store.names ++ t ∷ [])) at.seats (with_new_row floor store.content)
  unfolding enrolled
  enrolled_below =
      subst (λ f. IsBelow (site_of enrolled i) f at.seats (with_new_row floor store.content))
      (ap (λ m. with_name m t (seat_name store.names)) (sym at.size) ∙ fun_ext (more_names store.names t))
      (subst (λ (z : Sites). IsBelow (site_of z i) (with_name (length store.content.rows) t (seat_name store.names)) at.seats (with_new_row floor store.content)) (cond-true (may_add s i t) _ s enrol_allowed)
      (added_below s i (seat_name store.names) at.seats store.content at.below t floor enrol_allowed))

  longer : {A B : Type 0} (xs : List A) (ys : List B) (x : A) (y : B) → length xs ≡ length ys → length (xs ++ x ∷ []) ≡ length (ys ++ y ∷ [])
  longer [] [] x y h = refl
  longer (z ∷ xs) (w ∷ ys) x y h = ap suc (longer xs ys x y (omega (arith, h)))
  longer [] (w ∷ ys) x y h = absurd (omega (arith, h))
  longer (z ∷ xs) [] x y h = absurd (omega (arith, h))

  enrolled_other : (j : ℕ) → (j ≡ i → ⊥) → IsAt s.seen.own.sent (state.lost j) (site_of enrolled j) (state.processes j)
  unfolding enrolled
  enrolled_other j ne =
      subst (λ b. IsAt s.seen.own.sent (state.lost j) (record (site_of s j) {
        enrolled = cond b (λ other. s.enrolled i other || eqb other t) (s.enrolled j);
        aside = cond b (with_opening t floor (s.aside i)) (s.aside j);
      }) (state.processes j)) (sym (not_eqb j i ne)) (fits.nodes j)

  enrolled_here : IsAt s.seen.own.sent (state.lost i) (site_of enrolled i) (Down (store_with_row t floor store))
  unfolding enrolled
  enrolled_here = (record { seats = at.seats; below = enrolled_below; size = longer store.names store.content.rows t (opening_row floor) at.size }, λ kept. up)

  enrolled_fits : Fits setting (changed i (Down (store_with_row t floor store)) [] state) enrolled
  unfolding enrolled
  enrolled_fits = record {
    tokens = fits.tokens;
    n = fits.n;
    lost = fits.lost;
    least = fits.least;
    begun = fits.begun;
    accepted = fits.accepted;
    offered = each_append (IsSent s.seen.own.sent) state.offered [] fits.offered tt;
    nodes = set_at (λ j q. IsAt s.seen.own.sent (state.lost j) (site_of enrolled j) q) i (Down (store_with_row t floor store)) state.processes enrolled_here enrolled_other;
  }

  enrolled_tokens : enrolled.seen.tokens ≡ s.seen.tokens
  unfolding enrolled
  enrolled_tokens = refl

  enrolled_grows : (l : Envelope) → HasSent s.seen.own.sent l → HasSent enrolled.seen.own.sent l
  unfolding enrolled
  enrolled_grows l k = k

  pub enrols : (Q : Acceptance → Type 0) → Next setting e r (changed i (Down (store_with_row t floor store)) [] state) Q
  enrols Q = by_course setting e s r (changed i (Down (store_with_row t floor store)) [] state) Q sim posts (Runs (Adds i t floor)) enrolled is_enrolled enrolled_tokens (λ q h. absurd h) enrolled_grows (λ r' sim'. enrolled_fits)

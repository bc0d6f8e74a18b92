-- The enrolments of all nodes, after which each member's store has its rows.
use Rattle.std.proofs.Common.{◌≡◌, ◌⊎◌, ℕ, None, zero, suc, ◌+◌, ◌<◌, ◌≤◌, inl, inr, ⊎_elim, Bool, true, false, not, ◌&&◌, cond, List, [], ◌∷◌, ◌++◌, length, map, refl, sym, ap, ◌∙◌, arith, eqb, leb}
use Rattle.std.specs.List.{range_with_len}
use Rattle.std.proofs.lemmas.Bool.{and_parts, cond-false, cond-true, eq-eqb, eqb-true, le-leb, leb-true, lt-ltb}
use Rattle.std.proofs.lemmas.List.{map-append}
use Rattle.std.proofs.lemmas.List.FromFn.{length-range_with_len}
use Rattle.cluster_sim.specs.World.{floor_at}
use Rattle.floor_store.specs.Content.{opening_row}
use Rattle.floor_store.specs.Records.{RowRecord}
use Rattle.seated_store.specs.Places.{own_seats}
use Rattle.seated_store.proofs.PlaceLemmas.{one_more}
use Rattle.vote_core.specs.Books.{is_number}
use Rattle.vote_core.specs.Schedule.{is_member}
use Rattle.vote_core.proofs.Names.{not_eqb, same_or_not}
use Rattle.book_law.specs.Lives.{Action, Enrols, Process, Setting, State, Store, Down, can_be, first_state, has_row, made_boot, may_enrol, process_after, state_after, state_after_action, state_with, store_with_row, store_with_rows}
use Rattle.world_law.specs.Steady.{AreEnrolled, AreEnrolments, SteadyCluster, enrolled_store, enrolments_of, enrolments_up_to, nodes_of, rows_of, setting_of, tokens_of}
use Rattle.world_law.proofs.Runs.{enrolments_keep, states_append}
use Rattle.world_law.proofs.Seats.{number_none}

-- ---- one row

next_seats : (k : ℕ) → own_seats k ++ k ∷ [] ≡ own_seats (k + 1)
next_seats k = sym (one_more k)

next_rows : (f : ℕ → ℕ) (k : ℕ) → map opening_row (map f (own_seats k)) ++ opening_row (f k) ∷ [] ≡ map opening_row (map f (own_seats (k + 1)))
next_rows f k =
    sym (ap (map opening_row) (map-append f (own_seats k) (k ∷ [])) ∙ map-append opening_row (map f (own_seats k)) (f k ∷ []))
    ∙ ap (λ (l : List ℕ). map opening_row (map f l)) (next_seats k)

abbrev store_of : ℕ → List ℕ → List RowRecord → Store
store_of boot names rows = record { names = names; content = record { rows = rows; boot = boot; last = None } }

next_store : (boot k : ℕ) (f : ℕ → ℕ) → store_with_row k (f k) (store_with_rows boot (own_seats k) f) ≡ store_with_rows boot (own_seats (k + 1)) f
next_store boot k f =
    ap (λ l. store_of boot l (map opening_row (map f (own_seats k)) ++ opening_row (f k) ∷ [])) (next_seats k)
    ∙ ap (λ rows. store_of boot (own_seats (k + 1)) rows) (next_rows f k)

may_enrol_next : (setting : Setting) (boot k : ℕ) (f : ℕ → ℕ) → k < setting.tokens → may_enrol setting k (store_with_rows boot (own_seats k) f) ≡ true
may_enrol_next setting boot k f low =
    let len = length-range_with_len 0 k in
    ap (λ b. b && not (has_row (store_with_rows boot (own_seats k) f) k)) (lt-ltb k setting.tokens low)
    ∙ ap (λ o. not (is_number o)) (number_none k (length (own_seats k)) k (omega (arith, len)) (omega (arith, len)))

module _ (setting : Setting) (i : ℕ) (f : ℕ → ℕ) where
  abbrev boot : ℕ
  boot = made_boot setting i

  abbrev with_rows : ℕ → Process
  with_rows k = Down (store_with_rows boot (own_seats k) f)

  abbrev row_at : ℕ → Action
  row_at k = Enrols i k (f k)

  one_row : (e k : ℕ) (state : State) → state.lost i ≡ false → is_member setting.n i ≡ true → state.processes i ≡ with_rows k → k < setting.tokens
      → (j : ℕ) → (state_after_action setting e (row_at k) state).processes j ≡ cond (eqb j i) (with_rows (k + 1)) (state.processes j)
  unfolding state_after_action
  one_row e k state kept member down low j =
      let can : can_be setting state (row_at k) ≡ true = ap (λ b. not b && is_member setting.n i) kept ∙ member in
      let store = store_with_rows boot (own_seats k) f in
      ap (λ (z : State). z.processes j) (cond-true (can_be setting state (row_at k)) (state_with setting e (row_at k) (state.processes i) state) state can)
      ∙ ap (λ p. cond (eqb j i) (process_after setting e (row_at k) p) (state.processes j)) down
      ∙ ap (λ p. cond (eqb j i) p (state.processes j)) (cond-true (may_enrol setting k store) (Down (store_with_row k (f k) store)) (Down store) (may_enrol_next setting boot k f low))
      ∙ ap (λ s. cond (eqb j i) (Down s) (state.processes j)) (next_store boot k f)

  -- ---- the rows of a node

  same_there : (b : Bool) (x y : Process) → (b ≡ true → y ≡ x) → y ≡ cond b x y
  same_there true x y h = h refl
  same_there false x y h = refl

  later_one : (b : Bool) (x y z : Process) → cond b x (cond b y z) ≡ cond b x z
  later_one true x y z = refl
  later_one false x y z = refl

  abbrev rows_from : ℕ → ℕ → List Action
  rows_from k len = map row_at (range_with_len k len)

  are_enrolments : (k len : ℕ) → AreEnrolments (rows_from k len)
  are_enrolments k zero = tt
  are_enrolments k (suc len) = (tt, are_enrolments (k + 1) len)

  more_rows : (e k len : ℕ) (state : State) → state.lost i ≡ false → is_member setting.n i ≡ true → state.processes i ≡ with_rows k → k + len ≤ setting.tokens
      → (j : ℕ) → (state_after setting e (rows_from k len) state).processes j ≡ cond (eqb j i) (with_rows (k + len)) (state.processes j)
  unfolding state_after
  more_rows e k zero state kept member down within j =
      let same : k ≡ k + 0 = omega arith in
      same_there (eqb j i) (with_rows (k + 0)) (state.processes j) (λ q. ap state.processes (eqb-true j i q) ∙ down ∙ ap with_rows same)
  more_rows e k (suc len) state kept member down within j =
      let low : k < setting.tokens = omega (arith, within) in
      let next = state_after_action setting e (row_at k) state in
      let row = one_row e k state kept member down low in
      let here : next.processes i ≡ with_rows (k + 1) = row i ∙ cond-true (eqb i i) (with_rows (k + 1)) (state.processes i) (eq-eqb i i refl) in
      let still : next.lost i ≡ false = ap (λ (l : ℕ → Bool). l i) (enrolments_keep setting e (row_at k ∷ []) state (tt, tt)).lost ∙ kept in
      let same : k + 1 + len ≡ k + suc len = omega arith in
      more_rows (suc e) (k + 1) len next still member here (omega (arith, within)) j
      ∙ ap (λ p. cond (eqb j i) (with_rows (k + 1 + len)) p) (row j)
      ∙ later_one (eqb j i) (with_rows (k + 1 + len)) (with_rows (k + 1)) (state.processes j)
      ∙ ap (λ n. cond (eqb j i) (with_rows n) (state.processes j)) same

-- ---- all nodes

joined : (xs ys : List Action) → AreEnrolments xs → AreEnrolments ys → AreEnrolments (xs ++ ys)
joined [] ys h k = k
joined (x ∷ xs) ys h k = (h.0, joined xs ys h.1 k)

module _ (cluster : SteadyCluster) where
  abbrev setting : Setting
  setting = setting_of cluster

  all_enrolments : (n : ℕ) → AreEnrolments (enrolments_up_to cluster n)
  all_enrolments zero = tt
  all_enrolments (suc n) = joined (enrolments_up_to cluster n) (rows_of cluster (suc n)) (all_enrolments n) (are_enrolments setting (suc n) (floor_at cluster.floors (suc n)) 0 (tokens_of cluster))

  -- the members up to `n` have their rows, and the others have their first stores
  record AreUpTo (n : ℕ) (state : State) : Type 0 where
    done : (j : ℕ) → 1 ≤ j → j ≤ n → state.processes j ≡ Down (enrolled_store cluster j)
    first : (j : ℕ) → n < j → state.processes j ≡ (first_state setting).processes j
    lost : state.lost ≡ (first_state setting).lost

  member_next : (n : ℕ) → n < nodes_of cluster → is_member (nodes_of cluster) (suc n) ≡ true
  member_next n low = ap (λ b. b && leb (suc n) (nodes_of cluster)) (le-leb 1 (suc n) (omega arith)) ∙ le-leb (suc n) (nodes_of cluster) low

  up_to : (n : ℕ) → n ≤ nodes_of cluster → AreUpTo n (state_after setting 0 (enrolments_up_to cluster n) (first_state setting))
  unfolding state_after
  up_to zero within = record { done = λ j some none. absurd (omega (arith, some, none)); first = λ j above. refl; lost = refl }
  up_to (suc n) within =
      let low : n < nodes_of cluster = omega (arith, within) in
      let xs = enrolments_up_to cluster n in
      let old = state_after setting 0 xs (first_state setting) in
      let h = up_to n (omega (arith, within)) in
      let f = floor_at cluster.floors (suc n) in
      let rows : (j : ℕ) → (state_after setting (length xs + 0) (rows_of cluster (suc n)) old).processes j ≡ cond (eqb j (suc n)) (Down (enrolled_store cluster (suc n))) (old.processes j) =
      λ j.
      let all : 0 + tokens_of cluster ≡ tokens_of cluster = omega arith in
      more_rows setting (suc n) f (length xs + 0) 0 (tokens_of cluster) old (ap (λ (l : ℕ → Bool). l (suc n)) h.lost) (member_next n low) (h.first (suc n) (omega arith)) (omega arith) j
      ∙ ap (λ m. cond (eqb j (suc n)) (with_rows setting (suc n) f m) (old.processes j)) all in
      let whole : (j : ℕ) → (state_after setting 0 (xs ++ rows_of cluster (suc n)) (first_state setting)).processes j ≡ cond (eqb j (suc n)) (Down (enrolled_store cluster (suc n))) (old.processes j) =
      λ j. ap (λ (z : State). z.processes j) (states_append setting 0 xs (rows_of cluster (suc n)) (first_state setting)) ∙ rows j in
      record {
        done = λ j some most.
            ⊎_elim
            (λ (same : j ≡ suc n). whole j ∙ cond-true (eqb j (suc n)) (Down (enrolled_store cluster (suc n))) (old.processes j) (eq-eqb j (suc n) same) ∙ ap (λ i. Down (enrolled_store cluster i)) (sym same))
            (λ (other : j ≡ suc n → ⊥).
            whole j ∙ cond-false (eqb j (suc n)) (Down (enrolled_store cluster (suc n))) (old.processes j) (not_eqb j (suc n) other)
            ∙ h.done j some (not_last j n most other))
            (same_or_not j (suc n));
        first = λ j above.
            whole j ∙ cond-false (eqb j (suc n)) (Down (enrolled_store cluster (suc n))) (old.processes j) (not_eqb j (suc n) (λ same. omega (arith, above, same)))
            ∙ h.first j (omega (arith, above));
        lost = (enrolments_keep setting 0 (enrolments_up_to cluster (suc n)) (first_state setting) (all_enrolments (suc n))).lost;
      }
    where
      low_or_high : (j n : ℕ) → (j ≤ n) ⊎ (n < j)
      low_or_high zero n = inl (omega arith)
      low_or_high (suc j) zero = inr (omega arith)
      low_or_high (suc j) (suc n) = ⊎_elim (λ (le : j ≤ n). inl (omega (arith, le))) (λ (gt : n < j). inr (omega (arith, gt))) (low_or_high j n)

      not_last : (j n : ℕ) → j ≤ suc n → (j ≡ suc n → ⊥) → j ≤ n
      not_last zero n most other = omega arith
      not_last (suc j) n most other = ⊎_elim (λ (le : suc j ≤ n). le) (λ (gt : n < suc j). absurd (other (omega (arith, most, gt)))) (low_or_high (suc j) n)

  pub are_enrolled : AreEnrolled cluster (enrolments_of cluster)
  are_enrolled = record {
    only = all_enrolments (nodes_of cluster);
    stores = λ node member.
        let parts = and_parts (leb 1 node) (leb node (nodes_of cluster)) member in
        let whole = up_to (nodes_of cluster) (omega arith) in
        whole.done node (leb-true 1 node parts.0) (leb-true node (nodes_of cluster) parts.1);
  }

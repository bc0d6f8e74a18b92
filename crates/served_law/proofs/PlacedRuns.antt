-- A run by place is one use of its store, and all runs by place are steps.
use Rattle.std.proofs.Common.{◌≡◌, ◌<◌, ◌≤◌, ℕ, suc, zero, ◌+◌, ◌==◌, ◌&&◌, Bool, true, false, not, List, [], ◌∷◌, ◌++◌, length, Option, Some, inl, inr, refl, sym, ap, ◌∙◌, subst, arith}
use Rattle.std.specs.Prelude.{Result}
use Rattle.std.specs.List.{list_all, range_with_len}
use Rattle.std.proofs.lemmas.Bool.{eq-eqb}
use Rattle.std.proofs.lemmas.List.FromFn.{get_or-range_with_len, length-range_with_len}
use Rattle.sqlite.specs.Store.{Ghosts}
use Rattle.sqlite.specs.Held as sql
use Rattle.floor_store.specs.Content.{Content}
use Rattle.floor_sql.specs.Held.{sql_held}
use Rattle.oath_node.specs.declared.turns.Served.{Served}
use Rattle.seated_store.specs.Places.{own_seats}
use Rattle.seat_law.specs.Seats.{seat_name}
use Rattle.seat_law.proofs.Relation.{number_lacks, number_there, option_cases}
use Rattle.token_file.specs.Credential.{Credential}
use Rattle.vote_core.specs.Books.{are_apart, is_number, number_of}
use Rattle.vote_core.specs.Schedule.{is_member}
use Rattle.node_serving.specs.NodeKey.{tag_key}
use Rattle.node_serving.specs.declared.serving.Serving.{Serving}
use Rattle.oathd_database.specs.declared.fault.Fault.{Fault}
use Rattle.store_serving.specs.Placed.{HasServed, placed}
use Rattle.book_law.specs.Lives.{Setting, Store, do_fit, has_row, place_in, places_of, row_of, row_or_first, store_under}
use Rattle.book_law.specs.Uses.{IsSeatedMember, first_store}
use Rattle.order_law.specs.Interleavings.{AreOfMembers, AreReplaced, IsCausal, Item, steps_at}
use Rattle.order_law.specs.Steps.{AreSteps, Closed, Ends, Starts, Step, place_in_end}
use Rattle.order_law.proofs.Stores.{KeepStore, keep_append, process_keeps}
use Rattle.served_law.specs.Placed.{AreStepsOfPlaced, IsPlacedInOrder, IsPlacedOrder, IsPlacedRunOver, IsPlacedUse, IsSoundPlaced, PlacedRun, placed_answers, placed_runs, placed_store, placed_terms}
use Rattle.served_law.specs.Runs.{view_of}
use Rattle.served_law.specs.Uses.{AreAllStores, AreFirstOf, AreStoreUses, HasAllSteps, HasUseSteps, HaveStoreSteps, Keeps, Stores, Use}
use Rattle.served_law.proofs.Stores.{HasRunSteps, all_steps, none_replaced, order_causal, steps_in_order, use_steps}
use Rattle.served_law.proofs.Orders.{run_in_order}
use Rattle.served_law.proofs.Processes.{run_is_use}

-- ---- own seats

own_name : (n i : ℕ) → i < n → seat_name (own_seats n) i ≡ i
own_name n i low = let own = get_or-range_with_len 0 n i 0 low in omega (arith, own)

number_is : (n c t : ℕ) → c ≤ n → t < c → number_of c (seat_name (own_seats n)) t ≡ Some t
number_is n c t within low = elim (option_cases (number_of c (seat_name (own_seats n)) t)) [
  | inl none ↦ absurd (number_lacks c (seat_name (own_seats n)) t none t low (own_name n t (omega (arith, within, low))))
  | inr some ↦
      let there = number_there c (seat_name (own_seats n)) t some.0 some.1 in
      let own = own_name n some.0 (let less = there.0 in omega (arith, less, within)) in
      some.1 ∙ ap Some (sym own ∙ there.1)
]

-- no earlier seat is the same
none_before : (n c : ℕ) → c < n → is_number (number_of c (seat_name (own_seats n)) (seat_name (own_seats n) c)) ≡ false
none_before n c low = elim (option_cases (number_of c (seat_name (own_seats n)) (seat_name (own_seats n) c))) [
  | inl none ↦ ap is_number none
  | inr some ↦
      let there = number_there c (seat_name (own_seats n)) (seat_name (own_seats n) c) some.0 some.1 in
      let less = there.0 in
      let one = own_name n some.0 (omega (arith, less, low)) in
      let other = own_name n c low in
      let same : some.0 ≡ c = sym one ∙ there.1 ∙ other in
      absurd (omega (arith, less, same))
]

apart : (n c : ℕ) → c ≤ n → are_apart c (seat_name (own_seats n)) ≡ true
apart n zero within = refl
apart n (suc c) within =
    ap (λ (b : Bool). not b && are_apart c (seat_name (own_seats n))) (none_before n c (omega (arith, within))) ∙ apart n c (omega (arith, within))

row_is : (content : Content) (t : ℕ) → t < length content.rows → row_of (placed_store content) t ≡ Some t
row_is content t low =
    let n = length content.rows in
    subst (λ (m : ℕ). number_of m (seat_name (own_seats n)) t ≡ Some t) (sym (length-range_with_len 0 n)) (number_is n n t (omega arith) low)

have_rows : (content : Content) (a k : ℕ) → a + k ≤ length content.rows → list_all (has_row (placed_store content)) (range_with_len a k) ≡ true
have_rows content a zero within = refl
have_rows content a (suc k) within =
    ap (λ (o : Option ℕ). is_number o && list_all (has_row (placed_store content)) (range_with_len (a + 1) k)) (row_is content a (omega (arith, within)))
    ∙ have_rows content (a + 1) k (omega (arith, within))

are_places : (content : Content) (a k : ℕ) → a + k ≤ length content.rows → places_of (placed_store content) (range_with_len a k) ≡ range_with_len a k
are_places content a zero within = refl
are_places content a (suc k) within =
    ap (λ (o : Option ℕ). row_or_first o ∷ places_of (placed_store content) (range_with_len (a + 1) k)) (row_is content a (omega (arith, within)))
    ∙ ap (λ (l : List ℕ). a ∷ l) (are_places content (a + 1) k (omega (arith, within)))

-- the terms of a process by place fit a store with as many rows
pub placed_fits : (serving : Serving) (book : List Credential) (content : Content) → length content.rows ≡ length book
    → do_fit (placed_terms serving book) (placed_store content) ≡ true
placed_fits serving book content rows =
    let n = length book in
    let len = length-range_with_len 0 n in
    let sized : (length (own_seats n) == n) ≡ true = eq-eqb (length (own_seats n)) n len in
    let own : are_apart (length (own_seats n)) (seat_name (own_seats n)) ≡ true =
    subst (λ (m : ℕ). are_apart m (seat_name (own_seats n)) ≡ true) (sym len) (apart n n (omega arith)) in
    let has : list_all (has_row (placed_store content)) (own_seats n) ≡ true = have_rows content 0 n (omega (arith, rows)) in
    ap (λ (b : Bool). b && (are_apart (length (own_seats n)) (seat_name (own_seats n)) && list_all (has_row (placed_store content)) (own_seats n))) sized
    ∙ ap (λ (b : Bool). b && list_all (has_row (placed_store content)) (own_seats n)) own ∙ has

-- ---- a run

module _ {S : Type 0} (g : Ghosts S) (finds : sql.Held S → Type 0) (serving : Serving) (answers : ℕ → Bool → Bool → Type 0) (result : Result Served Fault) (text : List ℕ)
    (setting : Setting) (run : HasServed g finds serving answers result text) where
  pub placed_member : setting.n ≡ serving.place.n
      → IsSeatedMember (sql_held g) setting serving.place.me (placed_terms serving run.import.book) (tag_key serving.key run.import.book) (placed_store run.found.mirror)
      (placed (length run.import.book) run.found) run.over.first
  placed_member members =
      let rows = run.rows in
      let in_setting : serving.place ≡ place_in setting serving.place.me = λ i. record { me = serving.place.me; n = sym members i } in
      record {
        config = λ i. record { book = run.over.of_book i; limits = run.over.of_limits i };
        key = run.over.of_key;
        place = run.over.of_place ∙ in_setting;
        fits = placed_fits serving run.import.book run.found.mirror rows;
        content = refl;
        seats = are_places run.found.mirror 0 (length run.import.book) (omega (arith, rows));
      }

  pub run_is_placed_use : IsSoundPlaced run setting → (left : Content) → (view_of g run.over.last.store).leaves left → IsPlacedUse run setting left
  run_is_placed_use sound left leaves =
      run_is_use (sql_held g) setting serving.place.me (placed_terms serving run.import.book) (tag_key serving.key run.import.book) (placed_store run.found.mirror)
      (placed (length run.import.book) run.found) run.over.first run.over.last (placed_member sound.members) run.over.in_boot sound.boot run.over.served_is.serves sound.stays
      left leaves

  pub run_is_placed_in_order : IsSoundPlaced run setting → (left : Content) → (view_of g run.over.last.store).leaves left → IsPlacedInOrder run setting left
  run_is_placed_in_order sound left leaves =
      run_in_order (sql_held g) setting serving.place.me (placed_terms serving run.import.book) (tag_key serving.key run.import.book) (placed_store run.found.mirror)
      (placed (length run.import.book) run.found) run.over.first run.over.last (placed_member sound.members) run.over.in_boot sound.boot run.over.served_is.serves sound.stays
      left leaves

-- ---- all runs

module _ {S : Type 0} (g : Ghosts S) (finds : sql.Held S → Type 0) (setting : Setting) where
  placed_run_steps : (node : ℕ) (store : Store) (run : PlacedRun) (is : IsPlacedRunOver g finds setting node store run) → HasRunSteps (placed_runs g finds setting) node store run is
  placed_run_steps node store run is =
      let served = is.served in
      let me = run.serving.place.me in
      let terms = placed_terms run.serving served.import.book in
      let found = placed_store served.found.mirror in
      let one = run_is_placed_in_order g finds run.serving (placed_answers run.result) run.result run.text setting served is.sound run.left is.leaves in
      let steps : List Step = Starts terms (tag_key run.serving.key served.import.book) ∷ one.has.steps ++ Ends one.has.kept ∷ [] in
      let ends : place_in_end setting node (Closed found) steps ≡ Closed (store_under terms.seats run.left found) =
      ap (λ n. place_in_end setting n (Closed found) steps) (sym is.of_node) ∙ one.has.ends in
      record {
        steps = steps;
        are_of = record { in_order = one; are = refl };
        are_steps = subst (λ (s : Store). AreSteps setting node (Closed s) steps) is.holds (subst (λ (n : ℕ). AreSteps setting n (Closed found) steps) is.of_node one.has.are);
        after = subst (λ (s : Store). place_in_end setting node (Closed s) steps ≡ Closed (store_under terms.seats run.left s)) is.holds ends;
      }

  pub placed_run_keeps : (node : ℕ) (store : Store) (run : PlacedRun) (is : IsPlacedRunOver g finds setting node store run) (steps : List Step) → AreStepsOfPlaced g finds setting node store run is steps → KeepStore steps
  placed_run_keeps node store run is steps of =
      let has = of.in_order.has in
      subst KeepStore (sym of.are) (tt, keep_append has.steps (Ends has.kept ∷ []) (process_keeps has.steps has.of_one) (tt, tt))

  pub placed_use_steps : (node : ℕ) (store : Store) (uses : List (Use PlacedRun)) (are : AreStoreUses (placed_runs g finds setting) node store uses) → HasUseSteps (placed_runs g finds setting) node store uses are
  placed_use_steps node store uses are = use_steps (placed_runs g finds setting) placed_run_steps node store uses are

  abbrev pub placed_in_order : (stores : ℕ → Stores PlacedRun) (are : AreAllStores (placed_runs g finds setting) stores) → ((node : ℕ) → HaveStoreSteps (placed_runs g finds setting) node (first_store setting node) (stores node) (are node))
      → HasAllSteps (placed_runs g finds setting) stores are
  placed_in_order stores are have = steps_in_order (placed_runs g finds setting) placed_run_keeps stores are have

  pub all_placed_steps : (stores : ℕ → Stores PlacedRun) (are : AreAllStores (placed_runs g finds setting) stores) → HasAllSteps (placed_runs g finds setting) stores are
  all_placed_steps stores are = all_steps (placed_runs g finds setting) placed_run_keeps placed_run_steps stores are

  pub kept_places : (uses : ℕ → List (Use PlacedRun)) (are : AreAllStores (placed_runs g finds setting) (λ node. Keeps (uses node))) (has : HasAllSteps (placed_runs g finds setting) (λ node. Keeps (uses node)) are) (items : List Item)
      → AreOfMembers setting items → ((node : ℕ) → is_member setting.n node ≡ true → AreFirstOf (steps_at node items) (has.steps node).steps) → AreReplaced setting items
  kept_places uses are has items members same = none_replaced (placed_runs g finds setting) placed_run_keeps uses are has items members same

  pub places_causal : (stores : ℕ → Stores PlacedRun) (are : AreAllStores (placed_runs g finds setting) stores) (items : List Item) → IsPlacedOrder g finds setting stores are items → IsCausal setting items
  places_causal stores are items h = order_causal (placed_runs g finds setting) stores are items h

-- The actions of one node, part after part: its process after them, and what it offers.
use Rattle.std.proofs.Common.{◌≡◌, ℕ, suc, true, cond, ◌&&◌, List, [], ◌∷◌, ◌++◌, refl, sym, ap, ◌∙◌, eqb, ltb}
use Rattle.std.proofs.lemmas.Bool.{and_from, cond-true, cond-false, eq-eqb, ne_eqb}
use Rattle.std.proofs.lemmas.List.{append_assoc}
use Rattle.vote_core.specs.Schedule.{last_boot}
use Rattle.oath_node.specs.Machine.{opened_node}
use Rattle.book_law.specs.Lives.{Action, Opens, FailsToOpen, Takes, Offers, Stops, StopsIn, Loses, Remakes, Enrols, Unlocks, OpensGate, Raises, Process, Setting, Store, Terms, Down, Up, do_fit, node_of_action, offers_by, process_after, process_opened, seen_in}
use Rattle.book_law.specs.Uses.{AreServing, IsIdle, IsServing, own_offers, own_process}
use Rattle.book_law.proofs.Serving.{LeaveStore, LeavesStore}

-- ---- own actions, one part after the other

abbrev pub number_after : List Action → ℕ → ℕ
number_after [] e = e
number_after (d ∷ ds) e = number_after ds (suc e)

pub process_append : (setting : Setting) (node e : ℕ) (xs ys : List Action) (p : Process) → own_process setting node e (xs ++ ys) p ≡ own_process setting node (number_after xs e) ys (own_process setting node e xs p)
unfolding own_process
process_append setting node e [] ys p = refl
process_append setting node e (d ∷ ds) ys p = process_append setting node (suc e) ds ys (cond (eqb node (node_of_action d)) (process_after setting e d p) p)

pub offers_append : (setting : Setting) (node e : ℕ) (xs ys : List Action) (p : Process)
    → own_offers setting node e (xs ++ ys) p ≡ own_offers setting node e xs p ++ own_offers setting node (number_after xs e) ys (own_process setting node e xs p)
unfolding own_process own_offers
offers_append setting node e [] ys p = refl
offers_append setting node e (d ∷ ds) ys p =
    let now = cond (eqb node (node_of_action d)) (offers_by d p) [] in
    let q = cond (eqb node (node_of_action d)) (process_after setting e d p) p in
    ap (λ os. now ++ os) (offers_append setting node (suc e) ds ys q)
    ∙ sym (append_assoc now (own_offers setting node (suc e) ds q) (own_offers setting node (number_after ds (suc e)) ys (own_process setting node (suc e) ds q)))

pub own_first : (setting : Setting) (node e : ℕ) (d : Action) (ds : List Action) (p : Process) → node ≡ node_of_action d → own_process setting node e (d ∷ ds) p ≡ own_process setting node (suc e) ds (process_after setting e d p)
unfolding own_process
own_first setting node e d ds p own =
    ap (λ q. own_process setting node (suc e) ds q) (cond-true (eqb node (node_of_action d)) (process_after setting e d p) p (eq-eqb node (node_of_action d) own))

pub own_first_offers : (setting : Setting) (node e : ℕ) (d : Action) (ds : List Action) (p : Process) → node ≡ node_of_action d
    → own_offers setting node e (d ∷ ds) p ≡ offers_by d p ++ own_offers setting node (suc e) ds (process_after setting e d p)
unfolding own_process own_offers
own_first_offers setting node e d ds p own =
    let b = eqb node (node_of_action d) in
    let is = eq-eqb node (node_of_action d) own in
    ap (λ os. os ++ own_offers setting node (suc e) ds (cond b (process_after setting e d p) p)) (cond-true b (offers_by d p) [] is)
    ∙ ap (λ q. offers_by d p ++ own_offers setting node (suc e) ds q) (cond-true b (process_after setting e d p) p is)

pub idle_process : (setting : Setting) (node e : ℕ) (ds : List Action) (p : Process) → IsIdle node ds → own_process setting node e ds p ≡ p
unfolding own_process
idle_process setting node e [] p idle = refl
idle_process setting node e (d ∷ ds) p idle =
    ap (λ q. own_process setting node (suc e) ds q) (cond-false (eqb node (node_of_action d)) (process_after setting e d p) p (ne_eqb node (node_of_action d) idle.0))
    ∙ idle_process setting node (suc e) ds p idle.1

pub after_idle : (setting : Setting) (node e : ℕ) (xs ys : List Action) (p : Process) → IsIdle node xs → own_process setting node e (xs ++ ys) p ≡ own_process setting node (number_after xs e) ys p
after_idle setting node e xs ys p idle =
    process_append setting node e xs ys p ∙ ap (λ q. own_process setting node (number_after xs e) ys q) (idle_process setting node e xs p idle)

pub idle_offers : (setting : Setting) (node e : ℕ) (ds : List Action) (p : Process) → IsIdle node ds → own_offers setting node e ds p ≡ []
unfolding own_offers
idle_offers setting node e [] p idle = refl
idle_offers setting node e (d ∷ ds) p idle =
    let b = eqb node (node_of_action d) in
    let q = cond b (process_after setting e d p) p in
    ap (λ os. os ++ own_offers setting node (suc e) ds q) (cond-false b (offers_by d p) [] (ne_eqb node (node_of_action d) idle.0))
    ∙ idle_offers setting node (suc e) ds q idle.1

pub after_idle_offers : (setting : Setting) (node e : ℕ) (xs ys : List Action) (p : Process) → IsIdle node xs → own_offers setting node e (xs ++ ys) p ≡ own_offers setting node (number_after xs e) ys p
after_idle_offers setting node e xs ys p idle =
    let last = number_after xs e in
    offers_append setting node e xs ys p
    ∙ ap (λ os. os ++ own_offers setting node last ys (own_process setting node e xs p)) (idle_offers setting node e xs p idle)
    ∙ ap (λ q. own_offers setting node last ys q) (idle_process setting node e xs p idle)

-- ---- an opening

pub opened_is : (terms : Terms) (store : Store) → do_fit terms store ≡ true → ltb store.content.boot last_boot ≡ true → process_opened terms store ≡ Up terms store (opened_node (seen_in store terms.seats)) []
opened_is terms store fits low =
    cond-true (do_fit terms store && ltb store.content.boot last_boot) (Up terms store (opened_node (seen_in store terms.seats)) []) (Down store) (and_from (do_fit terms store) (ltb store.content.boot last_boot) fits low)

-- ---- the store stays with its node

idle_leaves : (node : ℕ) (d : Action) → (node ≡ node_of_action d → ⊥) → LeavesStore node d
idle_leaves node (Opens at terms) idle = tt
idle_leaves node (FailsToOpen at raised) idle = tt
idle_leaves node (Takes at input) idle = tt
idle_leaves node (Offers at) idle = tt
idle_leaves node (Stops at) idle = tt
idle_leaves node (StopsIn at kept input) idle = tt
idle_leaves node (Loses at) idle = idle
idle_leaves node (Remakes at boot given floor) idle = idle
idle_leaves node (Enrols at token floor) idle = tt
idle_leaves node (Unlocks at token) idle = tt
idle_leaves node (OpensGate at token) idle = tt
idle_leaves node (Raises at token floor) idle = tt

serving_leaves : (node : ℕ) (d : Action) → IsServing node d → LeavesStore node d
serving_leaves node (Opens at terms) serving = tt
serving_leaves node (FailsToOpen at raised) serving = tt
serving_leaves node (Takes at input) serving = tt
serving_leaves node (Offers at) serving = tt
serving_leaves node (Stops at) serving = tt
serving_leaves node (StopsIn at kept input) serving = tt
serving_leaves node (Loses at) serving = serving
serving_leaves node (Remakes at boot given floor) serving = serving
serving_leaves node (Enrols at token floor) serving = tt
serving_leaves node (Unlocks at token) serving = tt
serving_leaves node (OpensGate at token) serving = tt
serving_leaves node (Raises at token floor) serving = tt

pub all_idle : (node : ℕ) (ds : List Action) → IsIdle node ds → LeaveStore node ds
all_idle node [] idle = tt
all_idle node (d ∷ ds) idle = (idle_leaves node d idle.0, all_idle node ds idle.1)

pub all_serving : (node : ℕ) (ds : List Action) → AreServing node ds → LeaveStore node ds
all_serving node [] serving = tt
all_serving node (d ∷ ds) serving = (serving_leaves node d serving.0, all_serving node ds serving.1)

pub leave_append : (node : ℕ) (xs ys : List Action) → LeaveStore node xs → LeaveStore node ys → LeaveStore node (xs ++ ys)
leave_append node [] ys h k = k
leave_append node (x ∷ xs) ys h k = (h.0, leave_append node xs ys h.1 k)

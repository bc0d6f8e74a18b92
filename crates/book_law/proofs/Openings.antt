-- The openings of a history are those of its uses.
use Rattle.std.proofs.Common.{◌≡◌, ℕ, zero, suc, ◌⊎◌, inl, inr, ⊎_elim, true, not, List, [], ◌∷◌, ◌++◌, take, Option, Some, None, refl, sym, ap, ◌∙◌, subst}
use Rattle.std.specs.List.{slice_get}
use Rattle.std.proofs.lemmas.Bool.{and_parts}
use Rattle.std.proofs.lemmas.Option.{none-some, same_Some}
use Rattle.vote_core.specs.Schedule.{is_member}
use Rattle.oath_node.specs.Machine.{NodeState, opened_node}
use Rattle.book_law.specs.Lives.{Action, Down, Enrols, FailsToOpen, Loses, Offers, Opens, OpensGate, Raises, Remakes, Setting, Stops, StopsIn, Store, Takes, Terms, Unlocks, first_state, node_of_action, seen_in, state_of, store_at, store_under}
use Rattle.book_law.specs.Seeds.{AreGreatest, HaveSeedsOnce, IsOpenedIn, OpensGreatest, UsesGreatest}
use Rattle.book_law.specs.Uses.{AreAllUses, AreServing, AreUses, HasParts, HasUses, IsHistoryOf, IsIdle, IsServing, IsWriting, Part, Serves, ServesInParts, StoreUse, Writes, clearing, first_store, own_process, state_after_part, written_store}
use Rattle.book_law.proofs.Own.{after_idle, number_after, own_first}
use Rattle.book_law.proofs.Parts.{parts_lead}
use Rattle.book_law.proofs.Serving.{LeaveStore, process_is_own}
use Rattle.book_law.proofs.Uses.{served_leads, uses_leave, written_is, writing_node}

-- ---- where an action stands in two lists

pub place : (xs ys : List Action) (k : ℕ) (d : Action) → slice_get (xs ++ ys) k ≡ Some d → (slice_get xs k ≡ Some d) ⊎ ((m : ℕ) × (slice_get ys m ≡ Some d) × (take k (xs ++ ys) ≡ xs ++ take m ys))
place [] ys k d at = inr (k, at, refl)
place (x ∷ xs) ys zero d at = inl at
place (x ∷ xs) ys (suc k) d at =
    ⊎_elim (λ (q : slice_get xs k ≡ Some d). inl q) (λ (r : (m : ℕ) × (slice_get ys m ≡ Some d) × (take k (xs ++ ys) ≡ xs ++ take m ys)). inr (r.0, r.1, ap (λ l. x ∷ l) r.2)) (place xs ys k d at)

abbrev pub IsOpening : Action → Type 0
IsOpening (Opens node terms) = Unit {0}
IsOpening (FailsToOpen node raised) = ⊥
IsOpening (Takes node input) = ⊥
IsOpening (Offers node) = ⊥
IsOpening (Stops node) = ⊥
IsOpening (StopsIn node kept input) = ⊥
IsOpening (Loses node) = ⊥
IsOpening (Remakes node boot given floor) = ⊥
IsOpening (Enrols node token floor) = ⊥
IsOpening (Unlocks node token) = ⊥
IsOpening (OpensGate node token) = ⊥
IsOpening (Raises node token floor) = ⊥

-- another action is no opening
pub no_opening : (d : Action) (node : ℕ) (terms : Terms) → (IsOpening d → ⊥) → Some d ≡ Some (Opens node terms) → ⊥
no_opening d node terms none at = none (subst IsOpening (sym (same_Some d (Opens node terms) at)) tt)

terms_or : Terms → Action → Terms
terms_or other (Opens node terms) = terms
terms_or other (FailsToOpen node raised) = other
terms_or other (Takes node input) = other
terms_or other (Offers node) = other
terms_or other (Stops node) = other
terms_or other (StopsIn node kept input) = other
terms_or other (Loses node) = other
terms_or other (Remakes node boot given floor) = other
terms_or other (Enrols node token floor) = other
terms_or other (Unlocks node token) = other
terms_or other (OpensGate node token) = other
terms_or other (Raises node token floor) = other

pub same_terms : (node at : ℕ) (one other : Terms) → Some (Opens node one) ≡ Some (Opens at other) → one ≡ other
unfolding terms_or
same_terms node at one other is = ap (terms_or one) (same_Some (Opens node one) (Opens at other) is)

-- none of the actions opens the node's store
abbrev pub NoOpening : ℕ → List Action → Type 0
NoOpening node actions = (k : ℕ) (terms : Terms) → slice_get actions k ≡ Some (Opens node terms) → ⊥

idle_none : (node : ℕ) (actions : List Action) → IsIdle node actions → NoOpening node actions
idle_none node [] idle k terms at = none-some (Opens node terms) at
idle_none node (d ∷ actions) idle zero terms at = idle.0 (ap node_of_action (sym (same_Some d (Opens node terms) at)))
idle_none node (d ∷ actions) idle (suc k) terms at = idle_none node actions idle.1 k terms at

serving_none : (node : ℕ) (actions : List Action) → AreServing node actions → NoOpening node actions
serving_none node [] serving k terms at = none-some (Opens node terms) at
serving_none node (d ∷ actions) serving zero terms at = subst (IsServing node) (same_Some d (Opens node terms) at) serving.0 refl
serving_none node (d ∷ actions) serving (suc k) terms at = serving_none node actions serving.1 k terms at

pub both_none : (node : ℕ) (xs ys : List Action) → NoOpening node xs → NoOpening node ys → NoOpening node (xs ++ ys)
both_none node xs ys one other k terms at =
    ⊎_elim (λ (q : slice_get xs k ≡ Some (Opens node terms)). one k terms q)
    (λ (r : (m : ℕ) × (slice_get ys m ≡ Some (Opens node terms)) × (take k (xs ++ ys) ≡ xs ++ take m ys)). other r.0 terms r.1) (place xs ys k (Opens node terms) at)

clearing_none : (node : ℕ) (cleared : Option ℕ) → NoOpening node (clearing node cleared)
clearing_none node None k terms at = none-some (Opens node terms) at
clearing_none node (Some token) zero terms at = no_opening (OpensGate node token) node terms (λ q. q) at
clearing_none node (Some token) (suc k) terms at = none-some (Opens node terms) at

parts_none : (setting : Setting) (node : ℕ) (terms : Terms) (port : List ℕ) (found : Store) (state : NodeState) (parts : List Part) (actions : List Action) → HasParts setting node terms port found state parts actions → NoOpening node actions
parts_none setting node terms port found state [] actions has = idle_none node actions has
parts_none setting node terms port found state (part ∷ parts) actions has =
    subst (NoOpening node) (sym has.2)
    (both_none node has.0 (clearing node part.cleared ++ has.1) (serving_none node has.0 has.3.serving)
    (both_none node (clearing node part.cleared) has.1 (clearing_none node part.cleared)
    (parts_none setting node terms port found (state_after_part setting node terms port state part) parts has.1 has.4)))

-- ---- the store that an opening finds

abbrev Known : (ℕ → ℕ) → Terms → Store → Type 0
Known seed terms store = HaveSeedsOnce seed terms.seats × AreGreatest seed terms.seats store

no_actions : (setting : Setting) (node e : ℕ) (store : Store) → own_process setting node e [] (Down store) ≡ Down store
unfolding own_process
no_actions setting node e store = refl

-- in the actions of one process, with those before it and after it
module _ (seed : ℕ → ℕ) (setting : Setting) (node : ℕ) (own terms : Terms) (store next found : Store) (before served rest : List Action) where
  abbrev tail : List Action → List Action
  tail later = Opens node own ∷ served ++ Stops node ∷ later

  served_found : (e k : ℕ) → IsIdle node before → NoOpening node served
      → ((n : ℕ) (later : List Action) → (number : ℕ) × (own_process setting node n (tail later) (Down store) ≡ own_process setting node number later (Down next)))
      → Known seed own store
      → ((n m : ℕ) → slice_get rest m ≡ Some (Opens node terms) → own_process setting node n (take m rest) (Down next) ≡ Down found → Known seed terms found)
      → slice_get (before ++ tail rest) k ≡ Some (Opens node terms) → own_process setting node e (take k (before ++ tail rest)) (Down store) ≡ Down found → Known seed terms found
  served_found e k idle none leads known later at is =
      ⊎_elim (λ (q : slice_get before k ≡ Some (Opens node terms)). absurd (idle_none node before idle k terms q))
      (λ (r : (m : ℕ) × (slice_get (tail rest) m ≡ Some (Opens node terms)) × (take k (before ++ tail rest) ≡ before ++ take m (tail rest))).
      in_tail r.0 r.1 (sym (after_idle setting node e before (take r.0 (tail rest)) (Down store) idle) ∙ ap (λ l. own_process setting node e l (Down store)) (sym r.2) ∙ is))
      (place before (tail rest) k (Opens node terms) at)
    where
      after_stop : (l : ℕ) → slice_get (Stops node ∷ rest) l ≡ Some (Opens node terms) → own_process setting node (number_after before e) (Opens node own ∷ served ++ take l (Stops node ∷ rest)) (Down store) ≡ Down found → Known seed terms found
      after_stop zero at is = absurd (no_opening (Stops node) node terms (λ q. q) at)
      after_stop (suc l) at is =
          let one = leads (number_after before e) (take l rest) in
          later one.0 l at (sym one.1 ∙ is)

      in_tail : (m : ℕ) → slice_get (tail rest) m ≡ Some (Opens node terms) → own_process setting node (number_after before e) (take m (tail rest)) (Down store) ≡ Down found → Known seed terms found
      in_tail zero at is =
          let same = same_terms node node own terms at in
          let here : store ≡ found = ap store_at (sym (no_actions setting node (number_after before e) store) ∙ is) in
          subst (λ t. Known seed t found) same (subst (Known seed own) here known)
      in_tail (suc m) at is =
          ⊎_elim (λ (q : slice_get served m ≡ Some (Opens node terms)). absurd (none m terms q))
          (λ (r : (l : ℕ) × (slice_get (Stops node ∷ rest) l ≡ Some (Opens node terms)) × (take m (served ++ Stops node ∷ rest) ≡ served ++ take l (Stops node ∷ rest))).
          after_stop r.0 r.1 (ap (λ l. own_process setting node (number_after before e) (Opens node own ∷ l) (Down store)) (sym r.2) ∙ is))
          (place served (Stops node ∷ rest) m (Opens node terms) at)

  -- in a writing action, with those before it and after it
  written_found : (e k : ℕ) (d : Action) → IsIdle node before → (IsOpening d → ⊥)
      → ((n : ℕ) (later : List Action) → own_process setting node n (d ∷ later) (Down store) ≡ own_process setting node (suc n) later (Down next))
      → ((n m : ℕ) → slice_get rest m ≡ Some (Opens node terms) → own_process setting node n (take m rest) (Down next) ≡ Down found → Known seed terms found)
      → slice_get (before ++ d ∷ rest) k ≡ Some (Opens node terms) → own_process setting node e (take k (before ++ d ∷ rest)) (Down store) ≡ Down found → Known seed terms found
  written_found e k d idle none leads later at is =
      ⊎_elim (λ (q : slice_get before k ≡ Some (Opens node terms)). absurd (idle_none node before idle k terms q))
      (λ (r : (m : ℕ) × (slice_get (d ∷ rest) m ≡ Some (Opens node terms)) × (take k (before ++ d ∷ rest) ≡ before ++ take m (d ∷ rest))).
      after_write r.0 r.1 (sym (after_idle setting node e before (take r.0 (d ∷ rest)) (Down store) idle) ∙ ap (λ l. own_process setting node e l (Down store)) (sym r.2) ∙ is))
      (place before (d ∷ rest) k (Opens node terms) at)
    where
      after_write : (m : ℕ) → slice_get (d ∷ rest) m ≡ Some (Opens node terms) → own_process setting node (number_after before e) (take m (d ∷ rest)) (Down store) ≡ Down found → Known seed terms found
      after_write zero at is = absurd (no_opening d node terms none at)
      after_write (suc m) at is = later (suc (number_after before e)) m at (sym (leads (number_after before e) (take m rest)) ∙ is)

writing_none : (node : ℕ) (d : Action) → IsWriting node d → IsOpening d → ⊥
writing_none node (Opens at terms) w o = w
writing_none node (FailsToOpen at raised) w o = o
writing_none node (Takes at input) w o = o
writing_none node (Offers at) w o = o
writing_none node (Stops at) w o = o
writing_none node (StopsIn at kept input) w o = o
writing_none node (Loses at) w o = o
writing_none node (Remakes at boot given floor) w o = o
writing_none node (Enrols at token floor) w o = o
writing_none node (Unlocks at token) w o = o
writing_none node (OpensGate at token) w o = o
writing_none node (Raises at token floor) w o = o

opens_found : (seed : ℕ → ℕ) (setting : Setting) (node : ℕ) (terms : Terms) (found : Store) (uses : List StoreUse) (store : Store) (actions : List Action) (e k : ℕ)
    → AreUses setting node store uses → HasUses setting node store uses actions → UsesGreatest seed setting store uses
    → slice_get actions k ≡ Some (Opens node terms) → own_process setting node e (take k actions) (Down store) ≡ Down found → Known seed terms found
opens_found seed setting node terms found [] store actions e k are has known at is = absurd (idle_none node actions has k terms at)
opens_found seed setting node terms found (Serves own port taken entries left ∷ uses) store actions e k are has known at is =
    let next = store_under own.seats left store in
    served_found seed setting node own terms store next found has.0 has.1 has.2 e k has.4 (serving_none node has.1 has.5.serving)
    (λ n later. served_leads setting node n own port store taken entries left has.1 later are.0 has.5)
    (known.0, known.1)
    (λ n m there here. opens_found seed setting node terms found uses next has.2 n m are.1 has.6 known.2 there here)
    (subst (λ l. slice_get l k ≡ Some (Opens node terms)) has.3 at) (subst (λ l. own_process setting node e (take k l) (Down store) ≡ Down found) has.3 is)
opens_found seed setting node terms found (ServesInParts own port parts left ∷ uses) store actions e k are has known at is =
    let next = store_under own.seats left store in
    served_found seed setting node own terms store next found has.0 has.1 has.2 e k has.4
    (parts_none setting node own port store (opened_node (seen_in store own.seats)) parts has.1 has.5)
    (λ n later. let one = parts_lead setting node own port store n parts left has.1 later are.0 has.5 in (one.number, one.is))
    (known.0, known.1)
    (λ n m there here. opens_found seed setting node terms found uses next has.2 n m are.1 has.6 known.2 there here)
    (subst (λ l. slice_get l k ≡ Some (Opens node terms)) has.3 at) (subst (λ l. own_process setting node e (take k l) (Down store) ≡ Down found) has.3 is)
opens_found seed setting node terms found (Writes d ∷ uses) store actions e k are has known at is =
    let next = written_store setting d store in
    written_found seed setting node terms terms store next found has.0 [] has.1 e k d has.3 (writing_none node d are.0)
    (λ n later. own_first setting node n d later (Down store) (sym (writing_node node d are.0)) ∙ ap (own_process setting node (suc n) later) (written_is setting node n d store are.0))
    (λ n m there here. opens_found seed setting node terms found uses next has.1 n m are.1 has.4 known there here)
    (subst (λ l. slice_get l k ≡ Some (Opens node terms)) has.2 at) (subst (λ l. own_process setting node e (take k l) (Down store) ≡ Down found) has.2 is)

-- ---- a history of uses

take_leaves : (node k : ℕ) (actions : List Action) → LeaveStore node actions → LeaveStore node (take k actions)
take_leaves node zero [] h = tt
take_leaves node zero (d ∷ actions) h = tt
take_leaves node (suc k) [] h = tt
take_leaves node (suc k) (d ∷ actions) h = (h.0, take_leaves node k actions h.1)

pub open_greatest : (seed : ℕ → ℕ) (setting : Setting) (uses : ℕ → List StoreUse) (history : List Action) → AreAllUses setting uses → IsHistoryOf setting uses history
    → ((node : ℕ) → is_member setting.n node ≡ true → UsesGreatest seed setting (first_store setting node) (uses node)) → OpensGreatest seed setting history
open_greatest seed setting uses history are is known = record {
  once = λ event node terms store opened. (here event node terms store opened).0;
  greatest = λ event node terms store opened. (here event node terms store opened).1;
}
  where
    here : (event node : ℕ) (terms : Terms) (store : Store) → IsOpenedIn setting history event node terms store → Known seed terms store
    here event node terms store opened =
        let member : is_member setting.n node ≡ true = (and_parts (not ((state_of setting (take event history)).lost node)) (is_member setting.n node) opened.has).1 in
        let has = is node member in
        let leave = take_leaves node event history (uses_leave setting node (uses node) (first_store setting node) history (are node) has) in
        opens_found seed setting node terms store (uses node) (first_store setting node) history 0 event (are node) has (known node member) opened.opens
        (sym (process_is_own setting 0 node (take event history) (first_state setting) member leave) ∙ opened.down)

-- Runs of one kind over members' stores have made steps, if each run has, and each order of all members' steps is an interleaving.
use Rattle.std.proofs.Common.{◌≡◌, ℕ, true, List, [], ◌∷◌, ◌++◌, refl, sym, subst, inl, inr}
use Rattle.vote_core.specs.Schedule.{is_member}
use Rattle.book_law.specs.Lives.{Setting, Store, store_with_rows}
use Rattle.book_law.specs.Uses.{first_store, written_store}
use Rattle.order_law.specs.Interleavings.{AreCaused, AreOfMembers, AreReplaced, IsCausal, Item, first_place, said_before, steps_at}
use Rattle.order_law.specs.Steps.{AreSteps, Closed, Does, Loses, Place, Step, place_after, place_in_end}
use Rattle.order_law.proofs.Batches.{steps_append}
use Rattle.order_law.proofs.Stores.{KeepStore, first_are, first_keep, keep_append, may_lose, never_replaced}
use Rattle.served_law.specs.Uses.{AreAllStores, AreFirstOf, AreMemberStores, AreStoreUses, AreUseSteps, HasAllSteps, HasUseSteps, HaveMadeSteps, HaveStoreSteps, IsStepOrder, Keeps, Replaces, RunKind, RunsBy, Stores, Use, WritesBy}

module _ {setting : Setting} {R : Type 0} (kind : RunKind setting R) where
  -- ---- the steps of one store

  -- a run as steps
  pub record HasRunSteps (node : ℕ) (store : Store) (run : R) (is : kind.is_over node store run) : Type 0 where
    pub steps : List Step
    pub are_of : kind.are_steps node store run is steps
    pub are_steps : AreSteps setting node (Closed store) steps
    pub after : place_in_end setting node (Closed store) steps ≡ Closed (kind.left node store run is)

  module _ (made : (node : ℕ) (store : Store) (run : R) (is : kind.is_over node store run) → HasRunSteps node store run is) where
    pub use_steps : (node : ℕ) (store : Store) (uses : List (Use R)) (are : AreStoreUses kind node store uses) → HasUseSteps kind node store uses are
    use_steps node store [] are = record { steps = []; are_of = refl; are_steps = tt }
    use_steps node store (RunsBy run ∷ later) are =
        let first = made node store run are.0 in
        let rest = use_steps node (kind.left node store run are.0) later are.1 in
        record {
          steps = first.steps ++ rest.steps;
          are_of = (first.steps, rest.steps, refl, first.are_of, rest.are_of);
          are_steps = steps_append setting node (Closed store) first.steps rest.steps first.are_steps (subst (λ p. AreSteps setting node p rest.steps) (sym first.after) rest.are_steps);
        }
    use_steps node store (WritesBy action ∷ later) are =
        let rest = use_steps node (written_store setting action store) later are.1 in
        record { steps = Does action ∷ rest.steps; are_of = (rest.steps, refl, rest.are_of); are_steps = (are.0, rest.are_steps) }

    pub store_steps : (node : ℕ) (store : Store) (stores : Stores R) (are : AreMemberStores kind node store stores) → HaveStoreSteps kind node store stores are
    store_steps node store (Keeps uses) are = use_steps node store uses are
    store_steps node store (Replaces uses boot given floor later) are = (use_steps node store uses are.0, store_steps node (store_with_rows boot given floor) later are.1)

  -- ---- the steps that have happened

  module _ (keeps : (node : ℕ) (store : Store) (run : R) (is : kind.is_over node store run) (steps : List Step) → kind.are_steps node store run is steps → KeepStore steps) where
    uses_keep : (node : ℕ) (store : Store) (uses : List (Use R)) (are : AreStoreUses kind node store uses) (steps : List Step) → AreUseSteps kind node store uses are steps → KeepStore steps
    uses_keep node store [] are steps of = subst KeepStore (sym of) tt
    uses_keep node store (RunsBy run ∷ later) are steps of =
        subst KeepStore (sym of.2) (keep_append of.0 of.1 (keeps node store run are.0 of.0 of.3) (uses_keep node (kind.left node store run are.0) later are.1 of.1 of.4))
    uses_keep node store (WritesBy action ∷ later) are steps of = subst KeepStore (sym of.1) (tt, uses_keep node (written_store setting action store) later are.1 of.0 of.2)

    -- the first steps of a store's uses
    first_steps : (node : ℕ) (store : Store) (uses : List (Use R)) (are : AreStoreUses kind node store uses) (has : HasUseSteps kind node store uses are) (steps : List Step) → AreFirstOf steps has.steps → AreSteps setting node (Closed store) steps
    first_steps node store uses are has steps f = first_are setting node (Closed store) steps f.later (subst (AreSteps setting node (Closed store)) f.all_are has.are_steps)

    pub first_keep_of : (node : ℕ) (store : Store) (uses : List (Use R)) (are : AreStoreUses kind node store uses) (has : HasUseSteps kind node store uses are) (steps : List Step) → AreFirstOf steps has.steps → KeepStore steps
    first_keep_of node store uses are has steps f = first_keep steps f.later (subst KeepStore f.all_are (uses_keep node store uses are has.steps has.are_of))

    pub made_steps : (node : ℕ) (store : Store) (stores : Stores R) (are : AreMemberStores kind node store stores) (have : HaveStoreSteps kind node store stores are) (steps : List Step)
        → HaveMadeSteps kind node store stores are have steps → AreSteps setting node (Closed store) steps
    made_steps node store (Keeps uses) are have steps f = first_steps node store uses are have steps f
    made_steps node store (Replaces uses boot given floor later) are have steps (inl f) = first_steps node store uses are.0 have.0 steps f
    made_steps node store (Replaces uses boot given floor later) are have steps (inr lost) =
        let first = lost.0 in
        let may = may_lose setting node store first (first_keep_of node store uses are.0 have.0 first lost.3) in
        let at : Place = place_in_end setting node (Closed store) first in
        let gone : Place = place_after setting node at Loses in
        let new : Store = store_with_rows boot given floor in
        let rest : AreSteps setting node gone lost.1 = elim lost.4 [
          | inl none ↦ subst (AreSteps setting node gone) (sym none) tt
          | inr got ↦ subst (AreSteps setting node gone) (sym got.1)
              (may.gets boot given floor, subst (λ p. AreSteps setting node p got.0) (sym (may.has boot given floor)) (made_steps node new later are.1 have.1 got.0 got.2))
        ] in
        subst (AreSteps setting node (Closed store)) (sym lost.2)
        (steps_append setting node (Closed store) first (Loses ∷ lost.1) (first_steps node store uses are.0 have.0 first lost.3) (may.loses, rest))

    -- ---- all members

    abbrev pub steps_in_order : (stores : ℕ → Stores R) (are : AreAllStores kind stores) → ((node : ℕ) → HaveStoreSteps kind node (first_store setting node) (stores node) (are node)) → HasAllSteps kind stores are
    steps_in_order stores are have = record {
      steps = have;
      interleavings = λ items members same replaced. record {
        members = members;
        steps = λ node member. made_steps node (first_store setting node) (stores node) (are node) (have node) (steps_at node items) (same node member);
        replaced = replaced;
      };
    }

    -- without a lost store, no rule of replacements is asked for
    pub none_replaced : (uses : ℕ → List (Use R)) (are : AreAllStores kind (λ node. Keeps (uses node))) (has : HasAllSteps kind (λ node. Keeps (uses node)) are) (items : List Item)
        → AreOfMembers setting items → ((node : ℕ) → is_member setting.n node ≡ true → AreFirstOf (steps_at node items) (has.steps node).steps) → AreReplaced setting items
    none_replaced uses are has items members same =
        never_replaced setting items members (λ node member. first_keep_of node (first_store setting node) (uses node) (are node) (has.steps node) (steps_at node items) (same node member))

    pub all_steps : ((node : ℕ) (store : Store) (run : R) (is : kind.is_over node store run) → HasRunSteps node store run is) → (stores : ℕ → Stores R) (are : AreAllStores kind stores) → HasAllSteps kind stores are
    all_steps made stores are = steps_in_order stores are (λ node. store_steps made node (first_store setting node) (stores node) (are node))

  -- an order in which each vote that is heard was said before
  pub order_causal : (stores : ℕ → Stores R) (are : AreAllStores kind stores) (items : List Item)
      → IsStepOrder kind (AreCaused setting (first_place setting) (said_before setting)) stores are items → IsCausal setting items
  order_causal stores are items h = record { is = h.has.interleavings items h.members h.steps h.replaced; starts = h.starts; caused = h.caused }

-- The uses of all members' stores by runs of one kind, and their steps in the order in which they happened. Runs by
-- names are one kind, and runs by place are another.
use Rattle.std.specs.Prelude.{◌≡◌, ◌⊎◌, ℕ, true, List, [], ◌∷◌, ◌++◌, map}
use Rattle.vote_core.specs.Books.{blank_opening}
use Rattle.vote_core.specs.Safety.{MayOpen}
use Rattle.vote_core.specs.Schedule.{is_member}
use Rattle.book_law.specs.Lives.{Action, Sealed, Setting, Store, made_boot, store_with_rows}
use Rattle.book_law.specs.Uses.{IsWriting, first_store, written_store}
use Rattle.order_law.specs.Interleavings.{AreOfMembers, AreReplaced, IsInterleaving, Item, steps_at}
use Rattle.order_law.specs.Steps.{AreSteps, Closed, Does, Gets, Loses, Step}

-- ---- Uses

-- A use of a member's store: a run, or a writing action of a history without a process.
pub data Use (R : Type 0) : Type 0 where
  RunsBy : (run : R) → Use R
  WritesBy : (action : Action) → Use R

-- The stores of a member, in order, each with its uses.
--   Keeps: the member has had no other store since.
--   Replaces: the member lost the store, after some of its uses or inside one. The next one had the boot, and rows for
-- the given tokens with floors by token.
pub data Stores (R : Type 0) : Type 0 where
  Keeps : (uses : List (Use R)) → Stores R
  Replaces : (uses : List (Use R)) (boot : ℕ) (given : List ℕ) (floor : ℕ → ℕ) (later : Stores R) → Stores R

-- A kind of runs in a history of the setting: what a run is, which store it leaves, and which steps it has made.
pub record RunKind (setting : Setting) (R : Type 0) : Type 1 where
  -- the node made the run over the store
  pub is_over : ℕ → Store → R → Type 0
  -- the store after the run
  pub left : (node : ℕ) (store : Store) (run : R) → is_over node store run → Store
  -- the run has made the steps
  pub are_steps : (node : ℕ) (store : Store) (run : R) → is_over node store run → List Step → Type 0

module _ {setting : Setting} {R : Type 0} (kind : RunKind setting R) (node : ℕ) where
  -- the uses of the store in order, each on what the one before it left
  abbrev pub AreStoreUses : Store → List (Use R) → Type 0
  AreStoreUses store [] = Unit {0}
  AreStoreUses store (RunsBy run ∷ later) =
      (is : kind.is_over node store run) × AreStoreUses (kind.left node store run is) later
  AreStoreUses store (WritesBy action ∷ later) =
      IsWriting node action × AreStoreUses (written_store setting action store) later

  -- the uses of each store, the first of which is the given one
  abbrev pub AreMemberStores : Store → Stores R → Type 0
  AreMemberStores store (Keeps uses) = AreStoreUses store uses
  AreMemberStores store (Replaces uses boot given floor later) =
      AreStoreUses store uses × AreMemberStores (store_with_rows boot given floor) later

-- each node has such uses of its stores, from its first one on
abbrev pub AreAllStores : {setting : Setting} {R : Type 0} → RunKind setting R → (ℕ → Stores R) → Type 0
AreAllStores {setting} kind stores =
    (node : ℕ) → AreMemberStores kind node (first_store setting node) (stores node)

-- ---- Steps

-- the steps are the first of all of them
pub record AreFirstOf (steps all : List Step) : Type 0 where
  pub later : List Step
  pub all_are : all ≡ steps ++ later

module _ {setting : Setting} {R : Type 0} (kind : RunKind setting R) (node : ℕ) where
  -- the steps are those of the uses, one after the other
  abbrev pub AreUseSteps : (store : Store) (uses : List (Use R)) → AreStoreUses kind node store uses
      → List Step → Type 0
  AreUseSteps store [] are steps = steps ≡ []
  AreUseSteps store (RunsBy run ∷ later) are steps =
      (first : List Step) × (rest : List Step) × (steps ≡ first ++ rest)
      × kind.are_steps node store run are.0 first × AreUseSteps (kind.left node store run are.0) later are.1 rest
  AreUseSteps store (WritesBy action ∷ later) are steps =
      (rest : List Step) × (steps ≡ Does action ∷ rest)
      × AreUseSteps (written_store setting action store) later are.1 rest

  -- the steps of the uses of the store
  pub record HasUseSteps (store : Store) (uses : List (Use R)) (are : AreStoreUses kind node store uses)
      : Type 0 where
    pub steps : List Step
    pub are_of : AreUseSteps store uses are steps
    pub are_steps : AreSteps setting node (Closed store) steps

  -- the steps of the uses of each store
  abbrev pub HaveStoreSteps : (store : Store) (stores : Stores R) → AreMemberStores kind node store stores → Type 0
  HaveStoreSteps store (Keeps uses) are = HasUseSteps store uses are
  HaveStoreSteps store (Replaces uses boot given floor later) are =
      HasUseSteps store uses are.0 × HaveStoreSteps (store_with_rows boot given floor) later are.1

  -- The stores have made these steps up to some moment. A store that is replaced was lost at any moment of its uses.
  abbrev pub HaveMadeSteps : (store : Store) (stores : Stores R) (are : AreMemberStores kind node store stores)
      → HaveStoreSteps store stores are → List Step → Type 0
  HaveMadeSteps store (Keeps uses) are have steps = AreFirstOf steps have.steps
  HaveMadeSteps store (Replaces uses boot given floor later) are have steps =
      AreFirstOf steps have.0.steps
      ⊎ ((first : List Step) × (rest : List Step) × (steps ≡ first ++ Loses ∷ rest) × AreFirstOf first have.0.steps
      × ((rest ≡ []) ⊎ ((others : List Step) × (rest ≡ Gets boot given floor ∷ others)
      × HaveMadeSteps (store_with_rows boot given floor) later are.1 have.1 others)))

-- ---- All members

module _ {setting : Setting} {R : Type 0} (kind : RunKind setting R) where
  -- The steps of all members. At any moment some of them have happened. Each order of these that keeps each member's
  -- own is an interleaving. The rule of the votes has to allow each replacement of a store in it.
  pub record HasAllSteps (stores : ℕ → Stores R) (are : AreAllStores kind stores) : Type 0 where
    pub steps : (node : ℕ) → HaveStoreSteps kind node (first_store setting node) (stores node) (are node)
    pub interleavings : (items : List Item) → AreOfMembers setting items
        → ((node : ℕ) → is_member setting.n node ≡ true
        → HaveMadeSteps kind node (first_store setting node) (stores node) (are node) (steps node)
        (steps_at node items))
        → AreReplaced setting items → IsInterleaving setting items

  -- The items are an order of the members' steps up to some moment. A lost store is replaced if the rule of the votes
  -- allows it. What is heard from members has its causes, and envelopes of former times fit.
  pub record IsStepOrder (are_caused : List Item → Type 0) (stores : ℕ → Stores R) (are : AreAllStores kind stores)
      (items : List Item) : Type 0 where
    pub has : HasAllSteps stores are
    pub members : AreOfMembers setting items
    pub steps : (node : ℕ) → is_member setting.n node ≡ true
        → HaveMadeSteps kind node (first_store setting node) (stores node) (are node) (has.steps node)
        (steps_at node items)
    pub replaced : AreReplaced setting items
    pub starts : MayOpen setting.n setting.tokens
        (blank_opening (made_boot setting) (map (λ (sealed : Sealed). sealed.envelope) setting.old))
    pub caused : are_caused items

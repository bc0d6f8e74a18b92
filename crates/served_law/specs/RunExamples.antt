-- Small stretches and uses of stores. No contract cites them.
use Rattle.std.specs.Prelude.{ℕ, zero, suc, List, [], ◌∷◌, ◌++◌, Option, Some}
use Rattle.floor_store.specs.Broken.{SmallStore}
use Rattle.oath_node.specs.Broken.{small_node}
use Rattle.oath_node.specs.Hosted.{Hosted}
use Rattle.node_serving.specs.Stretches.{Stretch}
use Rattle.book_law.specs.Lives.{Enrols, Raises, Unlocks}
use Rattle.book_law.specs.Stretches.{Stretch as StretchOf}
use Rattle.book_law.specs.Uses.{StoreUse, Writes}
use Rattle.order_law.specs.Examples.{at}
use Rattle.order_law.specs.Interleavings.{Item}
use Rattle.order_law.specs.Steps.{Does, Gets, Loses, Step}
use Rattle.served_law.specs.Runs.{NamedRun, NamedStores, NamedUse}
use Rattle.served_law.specs.Uses.{Keeps, Replaces, Stores, Use, WritesBy}

-- a stretch of one turn that began with the node, and stood at a small one before the act after it
abbrev pub stretch_from : Hosted SmallStore → Stretch SmallStore
stretch_from node = record {
  from = node;
  stood = small_node;
  first = Some [];
  asked = Some [];
  turns = 1;
  served = record { received = 0; replied = 0 };
}

-- a command of node 1 that gives its store a row with the floor 5 for the token 0, and one that unlocks the token
abbrev pub commands_of_node : (R : Type 0) → List (Use R)
commands_of_node R = WritesBy (Enrols 1 0 5) ∷ WritesBy (Unlocks 1 0) ∷ []

-- the same among runs by names
abbrev pub two_commands : (U : Type 0) → List (NamedUse U)
two_commands U = commands_of_node (NamedRun U)

-- the same as uses of a history
abbrev pub two_writes : List StoreUse
two_writes = Writes (Enrols 1 0 5) ∷ Writes (Unlocks 1 0) ∷ []

-- the same as steps
abbrev pub two_steps : List Step
two_steps = Does (Enrols 1 0 5) ∷ Does (Unlocks 1 0) ∷ []

-- the same stretch as a history has it, after which the number was unlocked, if there is one
abbrev pub unlocking : Option ℕ → StretchOf SmallStore
unlocking number = record {
  from = small_node;
  stood = small_node;
  first = Some [];
  asked = Some [];
  told = Some [];
  turns = 1;
  served = record { received = 0; replied = 0 };
  unlocked = number;
}

-- ---- lost stores

-- Node 1 lost its store after these commands. The next one has the boot 5, and a row for the token 0 with the floor 6,
-- which a command raised to 7.
abbrev pub two_stores : (U : Type 0) → NamedStores U
two_stores U = Replaces (two_commands U) 5 (0 ∷ []) (λ token. 6) (Keeps (WritesBy (Raises 1 0 7) ∷ []))

-- the steps of the first store, its loss, and the given later steps
abbrev pub lost_then : List Step → List Step
lost_then later = two_steps ++ Loses ∷ later

-- the replacement with the boot
abbrev pub gets_at : ℕ → Step
gets_at boot = Gets boot (0 ∷ []) (λ token. 6)

-- the command of the next store
abbrev pub raises_next : Step
raises_next = Does (Raises 1 0 7)

-- ---- three members

-- the stores of node 1 and of node 2, while the others keep theirs without a use
abbrev pub stores_of : {R : Type 0} → Stores R → Stores R → ℕ → Stores R
stores_of one two zero = Keeps []
stores_of one two (suc zero) = one
stores_of one two (suc (suc zero)) = two
stores_of one two (suc (suc (suc node))) = Keeps []

-- Node 2's store gets a row with the floor 5 for the token 0. Node 1 loses its store, which is replaced at the boot.
-- The new one has a row for this token with the floor.
abbrev pub stores_with_a_loss : (R : Type 0) → ℕ → ℕ → ℕ → Stores R
stores_with_a_loss R boot floor =
    stores_of (Replaces [] boot (0 ∷ []) (λ token. floor) (Keeps [])) (Keeps (WritesBy (Enrols 2 0 5) ∷ []))

-- the same among runs by names
abbrev pub lost_stores : (U : Type 0) → ℕ → ℕ → ℕ → NamedStores U
lost_stores U boot floor = stores_with_a_loss (NamedRun U) boot floor

-- one order of these
abbrev pub lost_items : ℕ → ℕ → List Item
lost_items boot floor =
    at 2 (Does (Enrols 2 0 5)) ∷ at 1 Loses ∷ at 1 (Gets boot (0 ∷ []) (λ token. floor)) ∷ []

-- node 2's store gets a row with the floor
abbrev pub enrolled_at : (U : Type 0) → ℕ → ℕ → NamedStores U
enrolled_at U floor = stores_of (Keeps []) (Keeps (WritesBy (Enrols 2 0 floor) ∷ []))

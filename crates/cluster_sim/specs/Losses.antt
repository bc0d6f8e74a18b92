-- The simulation's losses and replacements of stores. Only private contracts cite it.
use Rattle.std.specs.Prelude.{◌≡◌, ℕ, zero, suc, ◌<◌, Bool, is_some, List, [], ◌∷◌, ◌++◌}
use Rattle.vote_core.specs.NodeSet.{with_node}
use Rattle.vote_core.specs.Rows.{row}
use Rattle.vote_core.specs.Schedule.{greatest}
use Rattle.cluster_sim.specs.Journal.{LossRecord, used_in}
use Rattle.cluster_sim.specs.World.{World, floor_in}

-- the nodes without stores after the losses
abbrev pub are_lost : List LossRecord → ℕ → Bool
are_lost losses node = is_some (used_in losses node)

-- the greatest floor (first free factor) of each of `tokens` tokens in the world, except at the node `gone` and the
-- lost nodes
abbrev pub AreGreatest : World → ℕ → ℕ → List ℕ → Type 0
AreGreatest world gone tokens least =
    (token : ℕ) → token < tokens → floor_in least token
    ≡ greatest world.n (with_node gone world.lost) (λ node. (row (world.nodes node).content token).next)

-- the values of a function for the given number of tokens, from 0 on
abbrev pub list_of : ℕ → (ℕ → ℕ) → List ℕ
list_of zero floor = []
list_of (suc token) floor = list_of token floor ++ floor token ∷ []

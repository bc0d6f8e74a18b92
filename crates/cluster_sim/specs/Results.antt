-- The results of a token at a node since the latest replacement of its store, from a history.
use Rattle.std.specs.Prelude.{ℕ, ◌==◌, if◌then◌else◌, List, [], ◌∷◌, Option, Some, None}
use Rattle.admit_core.specs.Throttle.{Result, Failed, Accepted}
use Rattle.floor_store.specs.Records.{PassRecord}
use Rattle.oath_node.specs.Machine.{Config}
use Rattle.cluster_sim.specs.World.{Note, WorldEvent, world_before, world_of, Start}

-- the results of the token, with a failure first if it is the token's
abbrev pub results_with_failure : ℕ → Option (ℕ × ℕ) → List Result → List Result
results_with_failure token None results = results
results_with_failure token (Some failed) results =
    if failed.0 == token then Failed failed.1 ∷ results else results

-- the results of the token, with an acceptance first if the pass is the token's
abbrev pub results_with_pass : ℕ → Option PassRecord → List Result → List Result
results_with_pass token None results = results
results_with_pass token (Some pass) results = if pass.token == token then Accepted ∷ results else results

-- the results of the token after a note at its node; a replacement store has none
abbrev pub results_with_note : Note → ℕ → List Result → List Result
results_with_note note token results =
    if note.anew
    then []
    else results_with_failure token note.failed (results_with_pass token note.pass results)

-- the results of the token at the node in a history, the newest first, since the latest replacement of the node's store
abbrev pub results_in : List Note → ℕ → ℕ → List Result
results_in [] node token = []
results_in (note ∷ history) node token =
    if node == note.node
    then results_with_note note token (results_in history node token)
    else results_in history node token

-- the results of the token at the node before the event of the given number
abbrev pub results_before : Config → Start → List WorldEvent → ℕ → ℕ → ℕ → List Result
results_before config start events node token event =
    results_in (world_before config start events event).history node token

-- all results of the token at the node in a run
abbrev pub results_of : Config → Start → List WorldEvent → ℕ → ℕ → List Result
results_of config start events node token = results_in (world_of config start events).history node token

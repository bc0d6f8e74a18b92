use Rattle.std.proofs.Common.{◌≡◌, length, take}
use Rattle.store_serving.proofs.FloorsLemmas.{nexts}
use Rattle.store_serving.proofs.floors.floors_of.Given as goal

-- there is a floor for each row so far, its own
abbrev pub invariant-loop-token : goal.invariant-loop-token
invariant-loop-token g l =
    let held = g.S.FloorStore.held l.store in
    (length l.floors.items ≡ l.token) × (held.is_clean → l.floors.items ≡ nexts (take l.token held.content.rows))

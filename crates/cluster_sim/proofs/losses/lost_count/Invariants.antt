use Rattle.std.proofs.Common.{◌≡◌, ◌≤◌}
use Rattle.otp_core.specs.Acceptance.{size}
use Rattle.cluster_sim.specs.Losses.{are_lost}
use Rattle.cluster_sim.proofs.losses.lost_count.Given as goal

-- the number of lost nodes until now
abbrev pub invariant-loop-index : goal.invariant-loop-index
invariant-loop-index l = (l.count ≡ size l.index (are_lost l.journal.losses)) × (l.count ≤ l.index)

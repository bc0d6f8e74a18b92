use Rattle.std.proofs.Common.{◌≡◌, None, take}
use Rattle.cluster_sim.specs.Journal.{used_from}
use Rattle.cluster_sim.proofs.journal.used_in.Given as goal

-- what the losses so far say
abbrev pub invariant-loop-loss : goal.invariant-loop-loss
invariant-loop-loss l = l.used ≡ used_from None (take l.loss-index l.losses) l.node

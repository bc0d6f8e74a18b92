use Rattle.std.proofs.Common.{◌≡◌, drop}
use Rattle.cluster_sim.specs.Rounds.{is_live}
use Rattle.oathd_sim.proofs.rounds.is_among.Given as goal

abbrev pub invariant-loop-member : goal.invariant-loop-member
invariant-loop-member l = is_live (drop l.member-index l.live) l.node ≡ is_live l.live l.node

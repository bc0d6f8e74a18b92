use Rattle.cluster_sim.proofs.RoundLaw.{rounds_are_the_reference, rounds_by_count}
use Rattle.cluster_sim.proofs.RoundReports.{rounds_reported}
use Rattle.cluster_sim.proofs.Unique.{rounds_are_these}
use Rattle.cluster_sim.proofs.laws.rounds_are_the_reference.Goals as goal

pub returns-clause-rounds : goal.returns-clause-rounds
returns-clause-rounds c =
    rounds_are_the_reference c.rulings_have_grounds.ensures.grounds
    (record { start = c.gate_keeps_throttle.ensures.start; failed = c.gate_keeps_throttle.ensures.failed; accepted = c.gate_keeps_throttle.ensures.accepted; opens = c.gate_keeps_throttle.ensures.open; waits = c.gate_keeps_throttle.ensures.wait })
    c.rulings_have_grounds.ensures.same

pub returns-clause-counted : goal.returns-clause-counted
returns-clause-counted c = rounds_by_count

pub returns-clause-these : goal.returns-clause-these
returns-clause-these c =
    rounds_are_these c.rulings_have_grounds.ensures.grounds
    (record { start = c.gate_keeps_throttle.ensures.start; failed = c.gate_keeps_throttle.ensures.failed; accepted = c.gate_keeps_throttle.ensures.accepted; opens = c.gate_keeps_throttle.ensures.open; waits = c.gate_keeps_throttle.ensures.wait })
    c.rulings_have_grounds.ensures.same

pub returns-clause-reported : goal.returns-clause-reported
returns-clause-reported c =
    rounds_reported c.rulings_have_grounds.ensures.grounds
    (record { start = c.gate_keeps_throttle.ensures.start; failed = c.gate_keeps_throttle.ensures.failed; accepted = c.gate_keeps_throttle.ensures.accepted; opens = c.gate_keeps_throttle.ensures.open; waits = c.gate_keeps_throttle.ensures.wait })
    c.rulings_have_grounds.ensures.same

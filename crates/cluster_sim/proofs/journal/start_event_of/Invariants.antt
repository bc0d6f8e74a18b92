use Rattle.cluster_sim.proofs.Starts.{LeadsOn}
use Rattle.cluster_sim.proofs.journal.start_event_of.Given as goal

-- the starts that are left lead to the same
abbrev pub invariant-loop-place : goal.invariant-loop-place
invariant-loop-place l = LeadsOn l.starts l.proposal l.place

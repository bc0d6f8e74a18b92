use Rattle.std.proofs.Common.{◌≡◌, map, replicate}
use Rattle.oathd_sim.proofs.sim.copies.Given as goal

-- the number of lists until now
abbrev pub invariant-loop-done : goal.invariant-loop-done
invariant-loop-done l = map (λ list. list.items) l.lists.items ≡ replicate l.done l.fn.floors

use Rattle.named_floors.proofs.RemadeLemmas.{HasSeedsFrom}
use Rattle.named_floors.proofs.remaking.index_of.Given as goal

-- the index has the seeds of the entries from the last place on
abbrev pub invariant-loop-place : goal.invariant-loop-place
invariant-loop-place l = HasSeedsFrom l.place l.names l.index

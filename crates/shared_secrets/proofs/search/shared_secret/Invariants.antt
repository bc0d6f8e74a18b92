use Rattle.std.proofs.Common.{take}
use Rattle.shared_secrets.proofs.RowsLemmas.{HasRows}
use Rattle.shared_secrets.specs.Seed.{seeds_of}
use Rattle.shared_secrets.proofs.search.shared_secret.Given as goal

-- the map has the row of each seed so far
abbrev pub invariant-loop-row : goal.invariant-loop-row
invariant-loop-row l = HasRows l.rows (take l.row (seeds_of l.book))

use Rattle.std.proofs.Common.{take}
use Rattle.oathd_roster.specs.Enrolled.{AreNamesOf}
use Rattle.oathd_floors.proofs.dropping.token_names.Given as goal

-- the set has the names of the tokens so far
abbrev pub invariant-loop-entry : goal.invariant-loop-entry
invariant-loop-entry l = AreNamesOf (take l.entry-index l.names) l.all

use Rattle.std.proofs.Common.{take}
use Rattle.named_store.specs.Seating.{AreDistinct, HasRowsOf}
use Rattle.named_store.proofs.seats.index_of.Given as goal

-- the index has the rows so far, whose names differ
abbrev pub invariant-loop-row : goal.invariant-loop-row
invariant-loop-row l = record {
  rows : HasRowsOf (take l.row l.roster) l.index;
  distinct : AreDistinct (take l.row l.roster);
}

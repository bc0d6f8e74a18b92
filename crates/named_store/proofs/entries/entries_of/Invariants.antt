use Rattle.std.proofs.Common.{◌≡◌, take}
use Rattle.named_store.specs.Entries.{entries_of}
use Rattle.named_store.proofs.entries.entries_of.Given as goal

-- the rows so far have their entries
abbrev pub invariant-loop-row : goal.invariant-loop-row
invariant-loop-row l = l.entries.items ≡ entries_of l.salt (take l.row l.book)

use Rattle.std.proofs.Common.{take}
use Rattle.std.specs.List.{flat_map}
use Rattle.std.specs.Io.KnownBytes.{Appends}
use Rattle.cluster_file.specs.Shared.{untaken_row}
use Rattle.cluster_file.proofs.shared.write_book.Given as goal

-- the rows so far are written
abbrev pub invariant-loop-number : goal.invariant-loop-number
invariant-loop-number g l =
    Appends (g.W.Write.contents l.fn.writer) (g.W.Write.contents l.writer) (flat_map untaken_row (take l.number l.book))

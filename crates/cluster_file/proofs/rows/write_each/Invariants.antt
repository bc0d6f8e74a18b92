use Rattle.std.proofs.Common.{take}
use Rattle.std.specs.List.{flat_map}
use Rattle.std.specs.Io.KnownBytes.{Appends}
use Rattle.cluster_file.proofs.rows.write_each.Given as goal

-- the MACs so far are written
abbrev pub invariant-loop-mac : goal.invariant-loop-mac
invariant-loop-mac g l =
    Appends (g.W.Write.contents l.fn.writer) (g.W.Write.contents l.writer) (flat_map (λ mac. mac) (take l.mac-index l.macs))

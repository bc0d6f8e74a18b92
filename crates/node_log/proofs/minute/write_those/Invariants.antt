use Rattle.std.proofs.Common.{take}
use Rattle.std.specs.Io.KnownBytes.{Appends}
use Rattle.std.specs.List.{flat_map}
use Rattle.node_log.specs.Differing.{differs_text}
use Rattle.node_log.proofs.minute.write_those.Given as goal

-- the lines of the members so far are written
abbrev pub invariant-loop-number : goal.invariant-loop-number
invariant-loop-number g l =
    Appends (g.W.Write.contents l.fn.writer) (g.W.Write.contents l.writer)
    (flat_map (differs_text l.differing) (take l.number-index l.numbers))

use Rattle.std.specs.Io.KnownBytes.{Appends}
use Rattle.oathtool_core.specs.Codes.{code_lines}
use Rattle.oathtool_core.proofs.codes.codes_from.Given as goal

-- the codes so far are written
abbrev pub invariant-loop-distance : goal.invariant-loop-distance
invariant-loop-distance g l =
    Appends (g.W.Write.contents l.initial.writer) (g.W.Write.contents l.writer) (code_lines l.generator l.first l.distance)

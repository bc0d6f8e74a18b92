use Rattle.std.proofs.Common.{take}
use Rattle.std.specs.Io.KnownBytes.{Appends}
use Rattle.std.specs.List.{flat_map}
use Rattle.node_log.specs.Members.{silent_text}
use Rattle.node_log.proofs.members.write_silent.Given as goal

-- the lines of the members so far are written
abbrev pub invariant-loop-member : goal.invariant-loop-member
invariant-loop-member g l =
    Appends (g.W.Write.contents l.fn.writer) (g.W.Write.contents l.writer)
    (flat_map (silent_text) (take l.member-index l.members))

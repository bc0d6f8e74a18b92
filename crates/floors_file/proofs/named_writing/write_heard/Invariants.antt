use Rattle.std.proofs.Common.{take}
use Rattle.std.specs.List.{flat_map}
use Rattle.std.specs.Io.KnownBytes.{Appends}
use Rattle.floors_file.specs.NamedWriting.{heard_text}
use Rattle.floors_file.proofs.named_writing.write_heard.Given as goal

-- the boots so far are written
abbrev pub invariant-loop-one : goal.invariant-loop-one
invariant-loop-one g l =
    Appends (g.W.Write.contents l.fn.writer) (g.W.Write.contents l.writer) (flat_map heard_text (take l.one-index l.heard))

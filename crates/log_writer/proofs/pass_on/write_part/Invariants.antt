use Rattle.std.specs.Io.KnownBytes.{Keeps}
use Rattle.log_writer.proofs.pass_on.write_part.Given as goal

-- a failed write appends nothing
abbrev pub invariant-loop : goal.invariant-loop
invariant-loop g l = Keeps (g.W.Write.contents l.initial.writer) (g.W.Write.contents l.writer)

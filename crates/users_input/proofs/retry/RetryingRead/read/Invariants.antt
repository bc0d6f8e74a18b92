use Rattle.std.specs.Io.KnownBytes.{Keeps}
use Rattle.users_input.proofs.retry.RetryingRead.read.Given as goal

-- interrupted reads take nothing
abbrev pub invariant-loop : goal.invariant-loop
invariant-loop g l = Keeps (g.R.Read.remaining l.fn.self.reader) (g.R.Read.remaining l.self.reader)

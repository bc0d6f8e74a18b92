use Rattle.std.proofs.Common.{◌≡◌}
use Rattle.std.specs.Io.KnownBytes.{Keeps}
use Rattle.token_file.proofs.source.FromReadSource.pull.Given as goal

-- interrupted reads take nothing
abbrev pub invariant-loop-tries : goal.invariant-loop-tries
invariant-loop-tries g l = record {
  bytes : Keeps (g.R.Read.remaining l.fn.self.reader) (g.R.Read.remaining l.self.reader);
  flag : l.self.has_failed ≡ l.fn.self.has_failed;
}

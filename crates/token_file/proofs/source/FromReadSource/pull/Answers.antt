use Rattle.std.proofs.Common.{refl}
use Rattle.token_file.proofs.SourceLemmas.{keeps_then, keeps_start}
use Rattle.token_file.proofs.source.FromReadSource.pull.Goals as goal

pub loop-tries-init : goal.loop-tries-init
loop-tries-init g c = record { bytes = keeps_start (g.R.Read.remaining c.args.self.now.reader); flag = refl }

pub loop-tries-preserved : goal.loop-tries-preserved
loop-tries-preserved g c = record {
  bytes = keeps_then (g.R.Read.remaining c.args.self.now.reader) (g.R.Read.remaining c.loop-tries.self.reader) (g.R.Read.remaining c.read.new.self) c.loop-tries.invariant.bytes c.in-Err.ensures.bytes;
  flag = c.loop-tries.invariant.flag;
}

use Rattle.std.proofs.Common.{◌≡◌}
use Rattle.token_file.specs.Source.{Stays}
use Rattle.token_file.proofs.ReadingLemmas.{SoFar}
use Rattle.token_file.proofs.reading.read_lines.Given as goal

abbrev pub invariant-loop : goal.invariant-loop
invariant-loop g l = record {
  so_far : SoFar (record { skew = l.settings.skew; moment = l.moment }) l.limit l.counter (g.S.Source.left l.fn.source) (g.S.Source.left l.source) l.reading;
  behind : Stays (g.S.Source.behind l.fn.source) (g.S.Source.behind l.source);
  failed : g.S.Source.has_failed l.source ≡ g.S.Source.has_failed l.fn.source;
}

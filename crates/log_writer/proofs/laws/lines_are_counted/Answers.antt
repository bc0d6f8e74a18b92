use Rattle.std.proofs.Common.{◌≡◌, ◌+◌, length, take, sym, subst}
use Rattle.log_writer.specs.Waiting.{before, count_ends, dropped_at}
use Rattle.log_writer.proofs.WaitingLemmas.{ends_split, same}
use Rattle.log_writer.proofs.laws.lines_are_counted.Goals as goal

pub returns-clause-each : goal.returns-clause-each
returns-clause-each c = λ waiting passed.
    subst (λ is_told. count_ends (take passed waiting.lines) + dropped_at waiting is_told passed ≡ count_ends waiting.lines)
    (sym (same (length (before waiting)))) (ends_split passed waiting.lines)

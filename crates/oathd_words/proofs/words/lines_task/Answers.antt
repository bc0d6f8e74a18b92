use Rattle.std.proofs.Common.{◌≡◌, Some, ap, sym}
use Rattle.clap.specs.Matches.{found_of}
use Rattle.oathd_words.proofs.NodesLemmas.{with_count}
use Rattle.oathd_words.proofs.words.lines_task.Goals as goal

pub returns-in-None-clause-none : goal.returns-in-None-clause-none
returns-in-None-clause-none c nodes moment asks given =
    c.in-None.ensures.none nodes
    (with_count (found_of c.args.matches.now) (λ n. n ≡ 1) (λ n. Some 1 ≡ Some n) (λ n is. ap Some (sym is)) nodes asks)

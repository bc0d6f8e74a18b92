use Rattle.std.proofs.Common.{[], ◌∷◌}
use Rattle.node_log.specs.BadLines.{more_line}
use Rattle.node_log.proofs.LogLemmas.{written_both}
use Rattle.node_log.proofs.bad_lines.write_more_line.Goals as goal

pub returns : goal.returns
unfolding more_line
returns g c =
    written_both c.write_all.result _ _ _ _ (10 ∷ []) c.in_ok-write_value.ensures c.write_all.ensures.bytes

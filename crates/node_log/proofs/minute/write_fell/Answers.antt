use Rattle.std.proofs.Common.{[], ◌∷◌}
use Rattle.node_log.specs.Minute.{fell_line}
use Rattle.node_log.proofs.LogLemmas.{appends_both, written_both}
use Rattle.node_log.proofs.minute.write_fell.Goals as goal

pub returns : goal.returns
unfolding fell_line
returns g c =
    written_both c.write_all.result _ _ _ _ (10 ∷ [])
    (appends_both _ _ _ _ _ c.in_ok-write_small.ensures c.in_ok-write_token.ensures) c.write_all.ensures.bytes

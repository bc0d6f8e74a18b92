use Rattle.std.proofs.Common.{refl}
use Rattle.oathd_floors.proofs.DroppedLemmas.{names_at}
use Rattle.oathd_floors.proofs.dropping.token_names.Goals as goal

pub loop-entry-preserved : goal.loop-entry-preserved
loop-entry-preserved c =
    names_at c.args.names.now c.loop-entry.entry-index _ _ c.loop-entry.all c.insert.new.self c.loop-entry-test.true refl c.loop-entry.invariant c.in_ok-insert.ensures.updates

use Rattle.std.proofs.Common.{refl}
use Rattle.oathd_roster.proofs.EnrolledLemmas.{names_at}
use Rattle.oathd_roster.proofs.enrolled.row_names.Goals as goal

pub loop-entry-preserved : goal.loop-entry-preserved
loop-entry-preserved c =
    names_at c.args.roster.now c.loop-entry.entry-index _ _ c.loop-entry.names c.insert.new.self c.loop-entry-test.true refl c.loop-entry.invariant c.in_ok-insert.ensures.updates

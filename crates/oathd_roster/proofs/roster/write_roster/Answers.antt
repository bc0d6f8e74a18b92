use Rattle.oathd_roster.proofs.RosterLemmas.{append_row}
use Rattle.oathd_roster.proofs.roster.write_roster.Goals as goal

pub loop-number-preserved : goal.loop-number-preserved
loop-number-preserved g c clean =
    append_row c.args.book.now c.args.seats.now c.args.roster.now (g.S.FloorStore.held c.args.store.now).content.rows c.loop-number.number
    (g.W.Write.contents c.args.writer.now) (g.W.Write.contents c.loop-number.writer) (g.W.Write.contents c.write_row.new.writer)
    (c.loop-number.invariant clean) (c.in_ok-write_row.ensures.written clean)

use Rattle.oathd_roster.specs.Roster.{row_end, row_start}
use Rattle.oathd_roster.proofs.RosterLemmas.{append_on}
use Rattle.oathd_roster.proofs.roster.write_line.Goals as goal

pub returns : goal.returns
returns g c =
    append_on c.write_end.result (g.W.Write.contents c.args.writer.now) (g.W.Write.contents c.write_start.new.writer)
    (g.W.Write.contents c.write_end.new.writer) (row_start c.args.number c.args.name) (row_end c.args.floor c.args.user.now)
    c.in_ok-write_start.ensures c.write_end.ensures

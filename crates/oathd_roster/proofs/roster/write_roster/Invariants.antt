use Rattle.std.proofs.Common.{take}
use Rattle.std.specs.Io.KnownBytes.{Appends}
use Rattle.oathd_roster.specs.Roster.{roster_text}
use Rattle.oathd_roster.proofs.roster.write_roster.Given as goal

-- the rows so far are written
abbrev pub invariant-loop-number : goal.invariant-loop-number
invariant-loop-number g l =
    let held = g.S.FloorStore.held l.store in
    held.is_clean → Appends (g.W.Write.contents l.fn.writer) (g.W.Write.contents l.writer)
    (roster_text l.book l.seats (take l.number l.roster) (take l.number held.content.rows))

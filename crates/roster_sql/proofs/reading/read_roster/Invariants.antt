use Rattle.std.proofs.Common.{◌≡◌, ℕ, Ok, vec_len}
use Rattle.sqlite.specs.State.{HasCleanDisk}
use Rattle.sqlite.specs.Held.{state}
use Rattle.roster_sql.specs.Roster.{HoldsRoster}
use Rattle.floor_sql.specs.Steps.{ReadsOnly}
use Rattle.roster_sql.proofs.reading.read_roster.Given as goal

abbrev pub invariant-loop-token : goal.invariant-loop-token
invariant-loop-token g l =
    let old = state g.S.Store l.fn.conn in
    let now = state g.S.Store l.conn in
    record {
      counted : vec_len l.entries ≡ l.token;
      reads : ReadsOnly g.S.Store {A = ℕ} l.fn.conn l.conn (Ok 0);
      held : HasCleanDisk now → HoldsRoster old.now.trees l.entries.items;
    }

use Rattle.std.proofs.Common.{◌≡◌, ◌+◌, ℕ, take, Ok}
use Rattle.sqlite.specs.Held.{state}
use Rattle.sqlite.specs.State.{HasCleanDisk}
use Rattle.floor_sql.specs.Steps.{StepsInside}
use Rattle.roster_sql.specs.Made.{AddsEntries}
use Rattle.roster_sql.proofs.making.insert_entries.Given as goal

abbrev pub invariant-loop-entry : goal.invariant-loop-entry
invariant-loop-entry g l =
    let old = state g.S.Store l.fn.tx.conn.now in
    let now = state g.S.Store l.tx.conn.now in
    record {
      number : l.token ≡ l.first + l.entry-index;
      steps : StepsInside g.S.Store {A = ℕ} l.fn.tx l.tx (Ok 0);
      added : HasCleanDisk now → AddsEntries l.first (take l.entry-index l.entries) old.now now.now;
    }

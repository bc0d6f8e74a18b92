use Rattle.std.proofs.Common.{◌≡◌, ◌+◌, ℕ, take, Ok}
use Rattle.sqlite.specs.Held.{state}
use Rattle.sqlite.specs.State.{HasCleanDisk}
use Rattle.floor_sql.specs.Steps.{StepsInside}
use Rattle.roster_sql.specs.Enrolled.{AddsRows}
use Rattle.roster_sql.proofs.enrolling.insert_rows.Given as goal

abbrev pub invariant-loop-next : goal.invariant-loop-next
invariant-loop-next g l =
    let old = state g.S.Store l.fn.tx.conn.now in
    let now = state g.S.Store l.tx.conn.now in
    record {
      number : l.token ≡ l.first + l.next-index;
      steps : StepsInside g.S.Store {A = ℕ} l.fn.tx l.tx (Ok 0);
      added : HasCleanDisk now → AddsRows l.first (take l.next-index l.floors) old.now now.now;
    }

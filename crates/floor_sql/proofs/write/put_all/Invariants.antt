use Rattle.std.proofs.Common.{◌≡◌, ◌≤◌, ◌+◌, ℕ, length, take, Ok}
use Rattle.sqlite.specs.Held.{state}
use Rattle.sqlite.specs.State.{HasCleanDisk}
use Rattle.floor_sql.specs.Staged.{KeepsOneRows, MakesPuts, passes_in}
use Rattle.floor_sql.specs.Steps.{StepsInside}
use Rattle.floor_sql.proofs.write.put_all.Given as goal

abbrev pub invariant-loop-each : goal.invariant-loop-each
invariant-loop-each g l =
    let old = state g.S.Store l.fn.tx.conn.now in
    let now = state g.S.Store l.tx.conn.now in
    record {
      number : l.number ≡ l.count + length (passes_in (take l.each-index l.puts));
      low : l.number ≤ l.count + l.each-index;
      steps : StepsInside g.S.Store {A = ℕ} l.fn.tx l.tx (Ok 0);
      made : HasCleanDisk now → MakesPuts l.count (take l.each-index l.puts) old.now now.now;
      one_row : HasCleanDisk now → KeepsOneRows old.now.trees now.now.trees;
    }

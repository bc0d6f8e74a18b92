use Rattle.std.proofs.Common.{◌≡◌, length, map, take}
use Rattle.sqlite.specs.Held.{state}
use Rattle.sqlite.specs.State.{HasCleanDisk}
use Rattle.named_store.proofs.opening.held_floors.Given as goal

-- the floors of the rows so far
abbrev pub invariant-loop-token : goal.invariant-loop-token
invariant-loop-token g l = record {
  end : l.token-end ≡ length l.store.mirror.rows;
  count : length l.all.items ≡ l.token;
  floors : HasCleanDisk (state g.S.Store l.store.conn) → l.all.items ≡ map (λ row. row.next) (take l.token l.store.mirror.rows);
}

use Rattle.std.proofs.Common.{◌≡◌, ◌≤◌, length, take}
use Rattle.std.specs.Prelude.{filter_map}
use Rattle.sqlite.specs.Held.{state}
use Rattle.sqlite.specs.State.{HasCleanDisk}
use Rattle.named_store.specs.Opened.{AreWithin, seat_rise}
use Rattle.named_store.proofs.opening.rises.Given as goal

-- the puts of the seats so far
abbrev pub invariant-loop-seat : goal.invariant-loop-seat
invariant-loop-seat g l = record {
  items : HasCleanDisk (state g.S.Store l.store.conn) → l.all.items ≡ filter_map (seat_rise l.roster l.store.mirror) (take l.seat-index l.seats);
  tokens : AreWithin (length l.store.mirror.rows) l.all.items;
  count : length l.all.items ≤ l.seat-index;
}

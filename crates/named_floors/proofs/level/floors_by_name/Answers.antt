-- The row before the last place is added.
use Rattle.std.proofs.Common.{◌-◌, arith}
use Rattle.named_floors.proofs.LevelLemmas.{floors_before}
use Rattle.named_floors.proofs.level.floors_by_name.Goals as goal

pub loop-place-preserved : goal.loop-place-preserved
loop-place-preserved c =
    floors_before {row = c.index-gathered-place.result} c.args.gathered.now (c.loop-place.place - 1) c.loop-place.place c.bytes.result c.loop-place.index
    c.insert.new.self (omega (arith, c.loop-place-test.true)) (omega (arith, c.loop-place-test.true, c.loop-place.auto.place)) c.bytes.ensures
    c.index-gathered-place.is c.loop-place.invariant c.in_ok-insert.ensures.updates

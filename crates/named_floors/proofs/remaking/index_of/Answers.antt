-- The entry before the last place is added.
use Rattle.std.proofs.Common.{◌-◌, arith, rules}
use Rattle.named_floors.proofs.RemadeLemmas.{seeds_before}
use Rattle.named_floors.proofs.remaking.index_of.Goals as goal

pub loop-place-preserved : goal.loop-place-preserved
loop-place-preserved c =
    seeds_before c.args.names.now (c.loop-place.place - 1) c.loop-place.place c.loop-place.index c.add_seed.new.index c.in_ok-add_seed.ensures.adds
    (omega (arith, c.loop-place-test.true)) (omega (arith, c.loop-place-test.true, c.loop-place.auto.place)) (search rules) c.loop-place.invariant

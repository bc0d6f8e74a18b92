use Rattle.std.proofs.Common.{◌≡◌, take, List, subst, arith, rules}
use Rattle.std.proofs.lemmas.List.{take_all}
use Rattle.named_store.specs.Floors.{HasGreatest}
use Rattle.named_store.proofs.SeedLemmas.{greatest_at}
use Rattle.named_store.proofs.floors.greatest_floors.Goals as goal

pub loop-row-preserved : goal.loop-row-preserved
loop-row-preserved c =
    greatest_at c.args.roster.now c.args.held.now c.loop-row.row c.index-held-row.result c.loop-row.greatest c.add_floor.new.greatest c.in_ok-add_floor.ensures.adds
    c.loop-row-test.true c.requires (search rules) c.index-held-row.is c.loop-row.invariant

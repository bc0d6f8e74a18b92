use Rattle.std.proofs.Common.{[], ◌∷◌, length, ap, arith, length-append}
use Rattle.store_serving.proofs.FloorsLemmas.{one_more}
use Rattle.store_serving.proofs.floors.floors_of.Goals as goal

pub loop-token-preserved : goal.loop-token-preserved
loop-token-preserved g c =
    let before = c.loop-token.floors.items in (
      omega (arith, ap length c.in-Ok-push.ensures.items, length-append before (c.in-Ok.next ∷ []), c.loop-token.invariant.0),
      λ clean. one_more c.loop-token.token (g.S.FloorStore.held c.args.store.now).content.rows c.in-Ok.next before
          c.push.new.self.items (omega arith) (c.in-Ok.ensures clean) c.in-Ok-push.ensures.items (c.loop-token.invariant.1 clean),
    )

use Rattle.std.proofs.Common.{arith}
use Rattle.named_floors.proofs.ToldLemmas.{told_next}
use Rattle.named_floors.proofs.told.rows_of.Goals as goal

pub loop-token-preserved : goal.loop-token-preserved
loop-token-preserved g c clean =
    let held = g.S.FloorStore.held c.args.store.now in
    told_next c.loop-token.token c.args.roster.now held.content.rows c.entry_at.result c.loop-token.rows.items c.push.new.self.items c.told_row.result
    c.in_ok-next.next c.entry_at.ensures (omega arith) (c.in_ok-next.ensures.next clean) c.told_row.ensures c.in-Ok.ensures.items
    (c.loop-token.invariant clean)

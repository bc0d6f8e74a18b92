use Rattle.oathd_floors.proofs.DroppedLemmas.{numbered_next}
use Rattle.oathd_floors.proofs.dropping.numbered_rows.Goals as goal

pub loop-token-preserved : goal.loop-token-preserved
loop-token-preserved g c clean =
    let held = g.S.FloorStore.held c.args.store.now in
    numbered_next c.loop-token.token c.args.roster.now held.content.rows c.args.names.now c.entry_at.result c.in_ok-row.row c.loop-token.rows.items
    c.push.new.self.items c.numbered_row.result c.entry_at.ensures (c.in_ok-row.ensures.ok clean) (c.numbered_row.ensures c.args.names.now c.in-Ok.ensures)
    c.in-Ok-push.ensures.items (c.loop-token.invariant clean)

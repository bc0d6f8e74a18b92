use Rattle.std.proofs.Common.{refl, arith}
use Rattle.oathd_database.proofs.FloorsLemmas.{told_next}
use Rattle.oathd_database.proofs.floors.floors_of.Goals as goal

pub loop-token-preserved : goal.loop-token-preserved
loop-token-preserved g c clean =
    let held = g.S.FloorStore.held c.args.store.now in
    told_next c.loop-token.token c.args.book.now held.content.rows c.token_at.result.now c.loop-token.rows.items c.push.new.self.items
    (record { user = c.name-user.result; next = c.in_ok-next.next }) c.name-user.result.now c.token_at.ensures (omega arith)
    (c.in_ok-next.ensures clean) refl c.name-user.ensures.value c.in-Ok.ensures.items (c.loop-token.invariant clean)

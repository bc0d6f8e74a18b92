use Rattle.std.proofs.Common.{◌≡◌, rules}
use Rattle.oathd_floors.proofs.KindLemmas.{other_found, own_more}
use Rattle.oathd_floors.proofs.kinds.first_other.Goals as goal

pub returns-then-not-branch : goal.returns-then-not-branch
returns-then-not-branch g c clean =
    let held = g.S.FloorStore.held c.args.store.now in
    let same : c.unwrap-id.result ≡ c.loop-token.token = search (c.new.ensures.value, c.unwrap-id.ensures, rules) in
    other_found c.args.book.now held.content.rows c.loop-token.token c.unwrap-id.result c.in_ok-is_own_row.field-0 same (search (c.if-not-branch.true, rules))
    (c.in_ok-is_own_row.ensures clean) (c.loop-token.invariant clean)

pub loop-token-preserved : goal.loop-token-preserved
loop-token-preserved g c clean =
    let held = g.S.FloorStore.held c.args.store.now in
    let same : c.unwrap-id.result ≡ c.loop-token.token = search (c.new.ensures.value, c.unwrap-id.ensures, rules) in
    own_more c.args.book.now held.content.rows c.loop-token.token c.unwrap-id.result c.in_ok-is_own_row.field-0 same (search (c.if-not-branch.false, rules))
    (c.in_ok-is_own_row.ensures clean) (c.loop-token.invariant clean)

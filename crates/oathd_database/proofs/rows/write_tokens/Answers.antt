use Rattle.std.proofs.Common.{◌≡◌, ℕ, rules, subst}
use Rattle.oathd_database.specs.Text.{WritesToken}
use Rattle.oathd_database.proofs.TextLemmas.{append_token}
use Rattle.oathd_database.proofs.rows.write_tokens.Goals as goal

pub loop-token-preserved : goal.loop-token-preserved
loop-token-preserved g c clean =
    let held = g.S.FloorStore.held c.args.store.now in
    let text = g.T.RowText.text_of in
    let middle = g.W.Write.contents c.loop-token.writer in
    let new = g.W.Write.contents c.write_token.new.writer in
    let same : c.unwrap-id.result ≡ c.loop-token.token = search (c.new.ensures.value, c.unwrap-id.ensures, rules) in
    append_token text c.args.book.now held.content.rows c.loop-token.token (g.W.Write.contents c.args.writer.now)
    middle new (c.loop-token.invariant clean)
    (subst (λ (id : ℕ). WritesToken text c.args.book.now held.content.rows id middle new) same (c.in_ok-write_token.ensures.written clean))

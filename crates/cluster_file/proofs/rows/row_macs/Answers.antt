use Rattle.std.proofs.Common.{◌≡◌, ◌++◌, ◌∷◌, [], Some, slice_get, subst, rules}
use Rattle.cluster_file.proofs.RowsLemmas.{one_more}
use Rattle.cluster_file.proofs.rows.row_macs.Goals as goal

pub loop-row-preserved : goal.loop-row-preserved
loop-row-preserved c =
    let book = c.args.book.now in
    let row = c.loop-row.row in
    let token = c.token-token.result.now in
    let id : c.unwrap.result ≡ row = search rules in
    let at = subst (λ n. slice_get book n ≡ Some token) id c.token-token.ensures.value in
    let mac = c.in_ok-row_mac in
    let pushed : c.push.new.self.items ≡ c.loop-row.macs.items ++ c.in_ok-row_mac.field-0 ∷ [] = search rules in
    one_more c.args.shared_key.now book row token _ c.loop-row.macs.items c.push.new.self.items at c.in_ok-row_mac.ensures c.loop-row.invariant pushed

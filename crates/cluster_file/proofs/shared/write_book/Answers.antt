use Rattle.std.proofs.Common.{◌≡◌, Some, subst}
use Rattle.std.specs.Prelude.{slice_get}
use Rattle.cluster_file.specs.Shared.{untaken_row}
use Rattle.cluster_file.proofs.WritingLemmas.{append_item, item_at}
use Rattle.cluster_file.proofs.shared.write_book.Goals as goal

pub loop-number-preserved : goal.loop-number-preserved
loop-number-preserved g c =
    let at = item_at c.args.book.now c.loop-number.number c.token.result.now
    (subst (λ place. slice_get c.args.book.now place ≡ Some c.token.result.now) c.in_ok-id.ensures c.token.ensures.value) in
    append_item untaken_row c.args.book.now c.loop-number.number c.token.result.now (g.W.Write.contents c.args.writer.now)
    (g.W.Write.contents c.loop-number.writer) (g.W.Write.contents c.write_token.new.writer) at.0 at.1 c.loop-number.invariant c.in_ok-write_token.ensures

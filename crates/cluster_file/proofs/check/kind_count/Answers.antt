use Rattle.std.proofs.Common.{◌≡◌, Some, arith, subst}
use Rattle.std.specs.Prelude.{slice_get}
use Rattle.cluster_file.proofs.WritingLemmas.{count_item, item_at}
use Rattle.cluster_file.proofs.check.kind_count.Goals as goal

pub loop-number-preserved : goal.loop-number-preserved
loop-number-preserved c =
    let at = item_at c.args.book.now c.loop-number.number c.token.result.now
    (subst (λ place. slice_get c.args.book.now place ≡ Some c.token.result.now) c.in_ok-id.ensures c.token.ensures.value) in
    let more = count_item c.args.kind c.args.book.now c.loop-number.number c.token.result.now at.0 at.1 in (
      omega (arith, c.loop-number.invariant.0, c.one_of_kind-count.ensures.value, more),
      omega (arith, c.loop-number.invariant.1, c.one_of_kind-count.ensures.bound),
    )

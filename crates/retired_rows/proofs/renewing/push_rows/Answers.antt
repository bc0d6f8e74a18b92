use Rattle.std.proofs.Common.{◌∙◌}
use Rattle.retired_rows.proofs.RenewLemmas.{rows_more}
use Rattle.retired_rows.proofs.renewing.push_rows.Goals as goal

pub loop-place-preserved : goal.loop-place-preserved
loop-place-preserved c =
    c.in_ok-push.ensures.items
    ∙ rows_more c.args.puts.now.items c.loop-place.puts.items c.args.kept.now c.loop-place.place
    c.index-kept-place.result c.loop-place-test.true
    c.loop-place.invariant

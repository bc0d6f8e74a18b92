use Rattle.std.proofs.Common.{arith}
use Rattle.oathd_asking.proofs.TableLemmas.{heard_few, heard_more}
use Rattle.oathd_asking.proofs.table.heard_of.Goals as goal

pub loop-line-preserved : goal.loop-line-preserved
loop-line-preserved c =
    let line = c.in-Some.line.now in
    let more = heard_more c.loop-line.rest.now line c.in-Some.behind.now c.in-Some.ensures.some in (
      omega (arith, more, c.heard_at-heard.ensures, c.loop-line.invariant.0),
      omega (arith, heard_few line, c.heard_at-heard.ensures, c.in-Some.ensures.shorter, c.loop-line.invariant.1),
    )

-- If the tag is right, the body is read. If it is wrong, nothing is read.
use Rattle.std.proofs.Common.{sym}
use Rattle.sealed_wire.proofs.ReportLemmas.{headless_is_none, read_of, unopened_is_none}
use Rattle.sealed_wire.proofs.reading.open_report.Goals as goal

pub returns-in_err-body-clause-exact : goal.returns-in_err-body-clause-exact
returns-in_err-body-clause-exact c =
    rw c.from_residual.ensures (sym (unopened_is_none c.args.key.now c.args.tag.now c.args.bytes.now c.in_err-body.ensures.none))

pub returns-in_err-head-clause-exact : goal.returns-in_err-head-clause-exact
returns-in_err-head-clause-exact c =
    let body = c.in_ok-body.ensures.some in
    rw c.from_residual-in_err-head.ensures (sym (headless_is_none c.args.key.now c.args.tag.now c.args.bytes.now c.in_ok-body.body.now body.0 body.1 (sym c.in_err-head.ensures.head)))

pub returns-clause-exact : goal.returns-clause-exact
returns-clause-exact c =
    let body = c.in_ok-body.ensures.some in
    rw c.split_at.ensures.back (sym (read_of c.args.key.now c.args.tag.now c.args.bytes.now c.in_ok-body.body.now c.in_ok-head.head body.0 body.1 (sym c.in_ok-head.ensures.head)))

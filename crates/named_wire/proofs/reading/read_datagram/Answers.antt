-- If the tag is right, the bytes before it are read. If it is wrong, nothing is read.
use Rattle.std.proofs.Common.{sym}
use Rattle.named_wire.proofs.TagLemmas.{headless_is_none, read_of, unopened_is_none}
use Rattle.named_wire.proofs.reading.read_datagram.Goals as goal

pub returns-in_err-front-clause-exact : goal.returns-in_err-front-clause-exact
returns-in_err-front-clause-exact c =
    rw c.from_residual.ensures (sym (unopened_is_none c.args.key.now c.args.bytes.now c.in_err-front.ensures.none))

pub returns-in_err-head-clause-exact : goal.returns-in_err-head-clause-exact
returns-in_err-head-clause-exact c =
    let front = c.in_ok-front.ensures.some in
    rw c.from_residual-in_err-head.ensures (sym (headless_is_none c.args.key.now c.args.bytes.now c.in_ok-front.front.now front.0 front.1 (sym c.in_err-head.ensures.head)))

pub returns-clause-exact : goal.returns-clause-exact
returns-clause-exact c =
    let front = c.in_ok-front.ensures.some in
    rw c.split_at.ensures.back (sym (read_of c.args.key.now c.args.bytes.now c.in_ok-front.front.now c.in_ok-head.head front.0 front.1 (sym c.in_ok-head.ensures.head)))

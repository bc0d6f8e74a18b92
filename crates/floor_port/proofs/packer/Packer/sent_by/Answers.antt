use Rattle.std.proofs.Common.{sym, arith}
use Rattle.floor_port.proofs.ClaimLemmas.{sender_bounds}
use Rattle.floor_port.proofs.packer.Packer.sent_by.Goals as goal

-- the sender of a datagram is a member
pub returns-clause-member : goal.returns-clause-member
returns-clause-member c =
    let bounds = sender_bounds _ _ c.in_ok-head.head c.in_ok-head.body.now (sym c.in_ok-head.ensures.exact) in
    let low = bounds.0 in
    let high = bounds.1 in
    let from = c.if-head-member.false in
    (omega (arith, low, from), omega (arith, high, from))

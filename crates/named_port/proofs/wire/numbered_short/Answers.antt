-- The datagram is written in its parts.
use Rattle.std.proofs.Common.{refl, arith}
use Rattle.named_port.proofs.WireLemmas.{short_written}
use Rattle.named_port.proofs.wire.numbered_short.Goals as goal

pub returns : goal.returns
returns c =
    short_written c.args.head c.args.number c.args.fields.now c.push_all-2.new.out.items
    (omega arith)
    (rw (c.push_all-2.ensures.items, c.push_all.ensures.items, c.numbered_head-out.ensures.items) refl)

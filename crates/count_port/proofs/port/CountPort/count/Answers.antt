-- A datagram of any sender counts as one more.
use Rattle.std.proofs.Common.{◌∙◌, sym, ap, take}
use Rattle.datagram_port.specs.Port.{event_of_receive}
use Rattle.datagram_port.specs.declared.port.Received.{Received as Receive}
use Rattle.count_port.specs.Counts.{counts_after}
use Rattle.count_port.proofs.port.CountPort.count.Goals as goal

pub returns-in-Peer-clause-counts : goal.returns-in-Peer-clause-counts
returns-in-Peer-clause-counts g c =
    c.datagram.ensures c.in-Datagram.sender (take c.in-Datagram.len c.args.buffer.now)
    ∙ ap (λ (r : Receive). counts_after (event_of_receive r c.args.buffer.now) c.args.self.now.counts) (sym c.in-Datagram.is)

pub returns-in-Client-clause-counts : goal.returns-in-Client-clause-counts
returns-in-Client-clause-counts g c =
    c.datagram.ensures c.in-Datagram.sender (take c.in-Datagram.len c.args.buffer.now)
    ∙ ap (λ (r : Receive). counts_after (event_of_receive r c.args.buffer.now) c.args.self.now.counts) (sym c.in-Datagram.is)

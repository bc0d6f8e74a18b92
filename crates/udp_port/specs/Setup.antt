-- What stays of a port over a socket.
use Rattle.std.specs.Prelude.{Bool, List, [], None}
use Rattle.std.specs.declared.net.socket_addr.SocketAddrV4.{SocketAddrV4}
use Rattle.datagram_port.specs.Setup.{Setup}

-- The port of the members. `skips` says whether it skips answers, and `alone` whether it takes clients of its host
-- alone. Nothing stands between it and the node.
abbrev pub setup_of : Bool → Bool → List SocketAddrV4 → Setup
setup_of skips alone members =
    record { members = members; skips_answers = skips; takes_loopback_alone = alone; gate = None; namings = [] }

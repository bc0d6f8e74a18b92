use Rattle.std.proofs.Common.{◌≡◌}
use Rattle.udp_port.specs.Calls.{events_of_calls}
use Rattle.udp_port.specs.Setup.{setup_of}
use Rattle.udp_port.proofs.CallsLemmas.{AreCalls}
use Rattle.udp_port.proofs.port.UdpPortPort.receive.Given as goal

-- nothing that the port passed over is an event, and each datagram is one call; the setup stays
abbrev pub invariant-loop : goal.invariant-loop
invariant-loop g l = record {
  events : events_of_calls l.self.skips_answers l.self.takes_loopback_alone l.self.members.items l.self.calls.made
      ≡ events_of_calls l.fn.self.skips_answers l.fn.self.takes_loopback_alone l.fn.self.members.items l.fn.self.calls.made;
  stays : setup_of l.self.skips_answers l.self.takes_loopback_alone l.self.members.items
      ≡ setup_of l.fn.self.skips_answers l.fn.self.takes_loopback_alone l.fn.self.members.items;
  calls : AreCalls l.fn.self.calls.made l.self.calls.made l.counter;
}

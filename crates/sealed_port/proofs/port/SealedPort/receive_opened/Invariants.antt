use Rattle.std.proofs.Common.{◌≡◌}
use Rattle.sealed_port.specs.Port.{PassesOver}
use Rattle.sealed_port.specs.Setup.{gate_setup}
use Rattle.sealed_port.proofs.port.SealedPort.receive_opened.Given as goal

-- until now the port passed over as many datagrams as the loop has counted, and its setup stays
abbrev pub invariant-loop : goal.invariant-loop
invariant-loop g l =
    (l.self.calls ≡ l.initial.self.calls)
    × PassesOver (g.P.Port.events l.initial.self.port) (g.P.Port.events l.self.port) (g.C.Clock.moments l.initial.self.clock) (g.C.Clock.moments l.self.clock)
    l.initial.self.gate l.self.gate l.initial.self.unopened l.self.unopened l.counter
    × (gate_setup l.self.gate ≡ gate_setup l.initial.self.gate) × (g.P.Port.setup l.self.port ≡ g.P.Port.setup l.initial.self.port)

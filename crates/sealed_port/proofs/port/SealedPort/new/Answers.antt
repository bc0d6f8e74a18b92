use Rattle.std.proofs.Common.{List, sym, subst}
use Rattle.datagram_port.specs.Port.{PortEvent}
use Rattle.sealed_port.proofs.SetupLemmas.{HasHeard, none_heard}
use Rattle.sealed_port.proofs.port.SealedPort.new.Goals as goal

pub invariant_of-result : goal.invariant_of-result
invariant_of-result g c = record {
  heard = subst (λ (events : List PortEvent). HasHeard c.args.gate (g.P.Port.events c.args.port) events) (sym c.new-2.ensures)
      (none_heard c.args.gate (g.P.Port.events c.args.port));
}

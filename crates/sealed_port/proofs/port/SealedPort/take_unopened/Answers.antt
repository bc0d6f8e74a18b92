use Rattle.std.proofs.Common.{◌≡◌, ap, ◌∙◌}
use Rattle.sealed_port.specs.declared.cause.Unopened.{Unopened}
use Rattle.sealed_port.proofs.SetupLemmas.{HasHeard}
use Rattle.sealed_port.proofs.port.SealedPort.take_unopened.Goals as goal

pub returns-clause-port : goal.returns-clause-port
returns-clause-port g c =
    let port = c.args.self.now in
    let same : (h k : HasHeard port.gate (g.P.Port.events port.port) port.calls.events)
    → record port { unopened = c.new-self.result; heard = h } ≡ record port { unopened = c.new-self.result; heard = k } =
    λ h k. ap (λ (one : HasHeard port.gate (g.P.Port.events port.port) port.calls.events). record port { unopened = c.new-self.result; heard = one }) (squash₁ h k) in
    same _ port.heard ∙ ap (λ (unopened : Unopened). record port { unopened = unopened }) c.new-self.ensures

-- An event is passed over, or handed in after all that was passed over.
use Rattle.std.proofs.Common.{◌∙◌, inl}
use Rattle.sealed_port.proofs.PortLemmas.{one_handed, one_passed}
use Rattle.sealed_port.proofs.SetupLemmas.{heard_below}
use Rattle.sealed_port.proofs.port.SealedPort.receive_opened.Goals as goal

pub returns-in-Some-clause-receives : goal.returns-in-Some-clause-receives
returns-in-Some-clause-receives g c =
    inl (one_handed c.loop.invariant.1 c.receive-received.ensures.event c.in-Some.ensures.takes)

pub loop-preserved : goal.loop-preserved
loop-preserved g c = (
  c.in-None.ensures.calls ∙ c.loop.invariant.0,
  one_passed c.loop.invariant.1 c.receive-received.ensures.event c.in-None.ensures.takes,
  c.in-None.ensures.stays.0 ∙ c.loop.invariant.2,
  c.in-None.ensures.stays.1 ∙ c.receive-received.ensures.stays ∙ c.loop.invariant.3,
)

pub invariant_of-self : goal.invariant_of-self
invariant_of-self g c = record {
  heard = heard_below c.loop.self.gate (g.P.Port.events c.loop.self.port) (g.P.Port.events c.receive-received.new.self) _ c.loop.self.calls.events c.receive-received.ensures.event c.loop.self.heard;
}

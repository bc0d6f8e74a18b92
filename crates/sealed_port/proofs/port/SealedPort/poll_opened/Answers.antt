-- An event is passed over, or handed in after all that was passed over.
use Rattle.std.proofs.Common.{◌∙◌}
use Rattle.sealed_port.proofs.PortLemmas.{one_handed, one_passed}
use Rattle.sealed_port.proofs.SetupLemmas.{heard_below}
use Rattle.sealed_port.proofs.port.SealedPort.poll_opened.Goals as goal

pub loop-preserved : goal.loop-preserved
loop-preserved g c = (
  c.in-None.ensures.calls ∙ c.loop.invariant.0,
  one_passed c.loop.invariant.1 c.in-Some.ensures.event c.in-None.ensures.takes,
  c.in-None.ensures.stays.0 ∙ c.loop.invariant.2,
  c.in-None.ensures.stays.1 ∙ c.poll.ensures.stays ∙ c.loop.invariant.3,
)

pub returns-in-Some-take-clause-polls : goal.returns-in-Some-take-clause-polls
returns-in-Some-take-clause-polls g c = one_handed c.loop.invariant.1 c.in-Some.ensures.event c.in-Some-take.ensures.takes

pub invariant_of-self : goal.invariant_of-self
invariant_of-self g c = record {
  heard = heard_below c.loop.self.gate (g.P.Port.events c.loop.self.port) (g.P.Port.events c.poll.new.self) _ c.loop.self.calls.events c.poll.ensures.event c.loop.self.heard;
}

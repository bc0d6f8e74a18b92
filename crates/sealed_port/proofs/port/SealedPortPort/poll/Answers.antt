use Rattle.std.proofs.Common.{[], ◌∷◌, ◌++◌, List, ap, sym, subst, ◌∙◌}
use Rattle.datagram_port.specs.Port.{PortEvent, event_of_receive}
use Rattle.sealed_port.proofs.SetupLemmas.{HasHeard, heard_found}
use Rattle.sealed_port.proofs.port.SealedPortPort.poll.Goals as goal

pub invariant_of-self : goal.invariant_of-self
invariant_of-self g c =
    let port = c.poll_opened.new.self in
    let noted = c.note_receive.ensures ∙ ap (λ buffer. port.calls.events ++ event_of_receive c.in-Some.received buffer ∷ []) c.as_slice.ensures in
    let all = noted ∙ ap (λ (calls : List PortEvent). calls ++ event_of_receive c.in-Some.received c.poll_opened.new.buffer ∷ []) (ap (λ r. r.events) c.in-Some.ensures.calls) in
    record {
      heard = subst (λ (events : List PortEvent). HasHeard port.gate (g.P.Port.events port.port) events) (sym all)
          (heard_found c.args.self.now.calls.events c.in-Some.ensures.stays.0 c.args.self.now.heard c.in-Some.ensures.polls);
    }

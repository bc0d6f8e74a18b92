use Rattle.node_log.proofs.LogLemmas.{remembers_more}
use Rattle.node_log.proofs.port.LogPortPort.send.Goals as goal

pub invariant_of-self : goal.invariant_of-self
invariant_of-self g c = record {
  remembers = remembers_more _ _ _ _ _ c.send-is_taken.ensures.event c.note_offer.ensures.asked c.args.self.now.remembers;
}

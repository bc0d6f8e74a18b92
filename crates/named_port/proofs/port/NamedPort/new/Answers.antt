use Rattle.named_port.proofs.CallLemmas.{after_none}
use Rattle.named_port.proofs.port.NamedPort.new.Goals as goal

pub invariant_of-result : goal.invariant_of-result
invariant_of-result g c = record {
  after = after_none (g.P.Port.events c.args.port) c.new.result c.args.key.now c.args.names.now c.args.me c.args.boot c.args.known c.new-2.result.events c.requires c.new.ensures c.new-2.ensures;
}

use Rattle.std.proofs.Common.{sym, subst}
use Rattle.named_port.specs.Runs.{IsAfter}
use Rattle.named_port.proofs.port.NamedPort.take_differing.Goals as goal

pub invariant_of-self : goal.invariant_of-self
invariant_of-self g c = record {
  after = subst (λ translator. IsAfter (g.P.Port.events c.args.self.now.port) translator c.args.self.now.calls.events) (sym c.take_differing.ensures.others)
      (record { heard_is = c.args.self.now.after.heard_is; below_is = c.args.self.now.after.below_is });
}

-- The flush is one more call, and hands in nothing.
use Rattle.std.proofs.Common.{refl}
use Rattle.bundle_port.specs.Runs.{Flush}
use Rattle.bundle_port.proofs.CallLemmas.{after_call, told_none}
use Rattle.bundle_port.proofs.port.BundlePort.flush_all.Goals as goal

pub invariant_of-self : goal.invariant_of-self
invariant_of-self g c =
    let old = c.args.self.now in
    record {
      after = after_call (g.P.Port.events old.port) (g.P.Port.events c.flush_lanes.new.port) old.bundler c.flush_lanes.new.bundler old.calls.calls c.note_flush.new.self.calls
          Flush old.after refl c.note_flush.ensures c.flush_lanes.ensures.after c.flush_lanes.ensures.offers;
    }

pub returns-clause-events : goal.returns-clause-events
returns-clause-events g c =
    let old = c.args.self.now in
    told_none (g.P.Port.events old.port) old.bundler old.calls.calls c.note_flush.new.self.calls old.after c.note_flush.ensures

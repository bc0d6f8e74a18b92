use Rattle.std.proofs.Common.{List, sym, subst}
use Rattle.gatekeeping.specs.declared.gatekeeper.Fell.{Fell}
use Rattle.floor_port.specs.Runs.{AreUntold, at_start, fells_over}
use Rattle.floor_port.proofs.FellLemmas.{untold_taken}
use Rattle.floor_port.proofs.port.FloorPort.take_fell.Goals as goal

pub invariant_of-self : goal.invariant_of-self
invariant_of-self g c =
    let old = c.args.self.now in
    let all = fells_over (at_start old.packer old.calls.start) old.calls.calls in
    record {
      places = old.places;
      after = old.after;
      untold = subst (λ (l : List Fell). AreUntold l all) (sym c.take_first.ensures.rest) (untold_taken old.falls all old.untold);
    }

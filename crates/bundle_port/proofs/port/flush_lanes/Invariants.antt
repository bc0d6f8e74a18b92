use Rattle.std.proofs.Common.{◌≡◌, ◌≤◌, length, take}
use Rattle.datagram_port.specs.Port.{Grows}
use Rattle.bundle_port.specs.Bundler.{offers_from}
use Rattle.bundle_port.proofs.OfferLemmas.{waited}
use Rattle.bundle_port.proofs.port.flush_lanes.Given as goal

-- what waits in the lanes so far is offered
abbrev pub invariant-loop-place : goal.invariant-loop-place
invariant-loop-place g l = record {
  count : length l.initial.bundler-inside.lanes ≡ 9;
  within : l.place ≤ 9;
  offers : Grows (g.P.Port.events l.initial.port) (g.P.Port.events l.port) (offers_from 1 (take l.place l.initial.bundler-inside.lanes));
  lanes : l.bundler-inside.lanes ≡ waited l.place l.initial.bundler-inside.lanes;
  left : l.bundler-inside.left ≡ l.initial.bundler-inside.left;
  stays : g.P.Port.setup l.port ≡ g.P.Port.setup l.initial.port;
}

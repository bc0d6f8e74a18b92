use Rattle.std.proofs.Common.{◌≡◌}
use Rattle.datagram_port.specs.Port.{Grows}
use Rattle.floor_port.specs.Packer.{turn_offers}
use Rattle.floor_port.specs.Rows.{after_turns}
use Rattle.floor_port.proofs.OfferLemmas.{with_rows}
use Rattle.floor_port.proofs.port.tell.Given as goal

-- the floors of the turns so far are told
abbrev pub invariant-loop : goal.invariant-loop
invariant-loop g l = record {
  offers : Grows (g.P.Port.events l.initial.port) (g.P.Port.events l.port) (turn_offers l.initial.packer l.initial.packer.rows l.counter);
  packer : l.packer ≡ with_rows l.initial.packer (after_turns l.initial.packer.rows l.counter);
  stays : g.P.Port.setup l.port ≡ g.P.Port.setup l.initial.port;
}

use Rattle.std.proofs.Common.{◌≡◌, ◌≤◌}
use Rattle.datagram_port.specs.Port.{Grows}
use Rattle.floor_port.specs.Packer.{body_offers}
use Rattle.floor_port.proofs.port.tell_members.Given as goal

-- the members so far are told
abbrev pub invariant-loop-place : goal.invariant-loop-place
invariant-loop-place g l = record {
  within : l.place ≤ l.packer.members;
  offers : Grows (g.P.Port.events l.initial.port) (g.P.Port.events l.port) (body_offers l.packer l.body 1 l.place);
  stays : g.P.Port.setup l.port ≡ g.P.Port.setup l.initial.port;
}

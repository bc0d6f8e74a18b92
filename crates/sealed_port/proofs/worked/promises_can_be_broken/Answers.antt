-- One datagram without bytes is passed over, and counted for its form.
use Rattle.std.proofs.Common.{◌∷◌, [], None, refl}
use Rattle.datagram_port.specs.Port.{Quiet}
use Rattle.sealed_wire.specs.Body.{head_at}
use Rattle.sealed_port.specs.Examples.{passed_at}
use Rattle.sealed_port.proofs.worked.promises_can_be_broken.Goals as goal

pub returns-clause-passes : goal.returns-clause-passes
unfolding head_at
returns-clause-passes c = record {
  passed = passed_at 7 ∷ [];
  are_passed_over = (refl, tt);
  many = refl;
  port = refl;
  clock = refl;
  gate_is = refl;
  counts = refl;
}

pub returns-clause-opens : goal.returns-clause-opens
unfolding head_at
returns-clause-opens c = record {
  passed = passed_at 7 ∷ [];
  are_passed_over = (refl, tt);
  received = Quiet;
  now = None;
  port = refl;
  clock = refl;
  handed_is = refl;
  gate_is = refl;
  counts = refl;
}

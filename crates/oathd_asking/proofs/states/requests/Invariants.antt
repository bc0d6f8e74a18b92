use Rattle.std.proofs.Common.{◌≡◌, map}
use Rattle.oathd_asking.specs.Asked.{asked_of}
use Rattle.oathd_asking.specs.Survey.{state_requests}
use Rattle.oathd_asking.proofs.states.requests.Given as goal

-- the members so far are asked
abbrev pub invariant-loop-address : goal.invariant-loop-address
invariant-loop-address l = record {
  number : l.number ≡ l.address-index;
  asked : map asked_of l.all.items ≡ state_requests l.operator 1 l.address-index;
}

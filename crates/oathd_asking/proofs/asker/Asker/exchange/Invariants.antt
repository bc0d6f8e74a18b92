use Rattle.std.proofs.Common.{◌≡◌, map}
use Rattle.oathd_asking.specs.Asked.{asked_of}
use Rattle.oathd_asking.proofs.asker.Asker.exchange.Given as goal

-- the requests ask what they asked
abbrev pub invariant-loop : goal.invariant-loop
invariant-loop g l = map asked_of l.all ≡ map asked_of l.initial.all

use Rattle.std.proofs.Common.{◌≡◌}
use Rattle.std.specs.Prelude.{replicate}
use Rattle.floor_port.specs.Claims.{no_claim}
use Rattle.floor_port.proofs.claims.no_claims.Given as goal

-- the claims so far
abbrev pub invariant-loop : goal.invariant-loop
invariant-loop l = l.kept.items ≡ replicate l.counter no_claim

-- What is kept of each token is asked about the first one.
use Rattle.std.proofs.Common.{◌≡◌, arith}
use Rattle.oath_node.proofs.laws.refusals_can_be_broken.Goals as goal

pub returns-clause-kept_next : goal.returns-clause-kept_next
returns-clause-kept_next c h = let e : 6 ≡ 5 = h.next 0 in omega (arith, e)

pub returns-clause-kept_grant : goal.returns-clause-kept_grant
returns-clause-kept_grant c h = let e = h.grant 0 in absurd cc

pub returns-clause-kept_drift : goal.returns-clause-kept_drift
returns-clause-kept_drift c h = let e = h.drift 0 in absurd cc

use Rattle.std.proofs.Common.{length, ap, ◌∙◌}
use Rattle.floor_port.specs.Claims.{ClaimsRecord}
use Rattle.floor_port.proofs.KeepLemmas.{claims_len}
use Rattle.floor_port.proofs.packer.Packer.take_claims.Goals as goal

-- there are as many claims as before
pub invariant_of-self : goal.invariant_of-self
invariant_of-self c =
    ap (λ (claims : ClaimsRecord). length claims.kept) c.take.ensures.after
    ∙ claims_len c.self.inside.claims c.names.result.now c.args.member c.args.head.boot c.args.floors.now ∙ c.self.invariant

use Rattle.std.proofs.Common.{subst, ◌∙◌}
use Rattle.hex.specs.Hex.{IsBytes}
use Rattle.otp_core.specs.Range.{IsSecret}
use Rattle.token_file.proofs.laws.tokens_are_credentials.Goals as goal

pub returns : goal.returns
returns c =
    let whole = c.as_slice.ensures.value ∙ c.secret.ensures in
    record { parts = c.parts_fit.ensures; secret = subst IsSecret whole c.as_slice.ensures.len; bytes = subst IsBytes whole c.are_bytes.ensures }

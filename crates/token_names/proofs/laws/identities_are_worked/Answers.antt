-- The digits of a secret are computed.
use Rattle.std.proofs.Common.{refl}
use Rattle.hex.specs.Hex.{encode_with}
use Rattle.token_names.proofs.laws.identities_are_worked.Goals as goal

pub returns-clause-event : goal.returns-clause-event
unfolding encode_with
returns-clause-event c = refl

pub returns-clause-with_password : goal.returns-clause-with_password
unfolding encode_with
returns-clause-with_password c = refl

pub returns-clause-long_secret : goal.returns-clause-long_secret
unfolding encode_with
returns-clause-long_secret c = refl

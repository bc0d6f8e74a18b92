-- The second and the third name are the same.
use Rattle.std.proofs.Common.{refl, [], arith}
use Rattle.token_names.proofs.laws.names_can_be_broken.Goals as goal

pub returns-clause-same_as_the_one_before : goal.returns-clause-same_as_the_one_before
returns-clause-same_as_the_one_before c h = h 1 2 [] (omega arith) (omega arith) refl

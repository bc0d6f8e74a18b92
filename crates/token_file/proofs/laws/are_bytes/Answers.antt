use Rattle.std.proofs.Common.{arith}
use Rattle.token_file.proofs.laws.are_bytes.Goals as goal

pub returns : goal.returns
returns c = λ i. let f = c.type_inv.bytes i in omega arith

use Rattle.sealed_wire.proofs.MakingLemmas.{answer_law}
use Rattle.sealed_wire.proofs.laws.answers_are_for_their_lines.Goals as goal

pub returns : goal.returns
returns c = answer_law

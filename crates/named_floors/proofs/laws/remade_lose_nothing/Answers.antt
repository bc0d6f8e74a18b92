use Rattle.named_floors.proofs.KeptLemmas.{row_remade, token_taken}
use Rattle.named_floors.proofs.laws.remade_lose_nothing.Goals as goal

pub returns-clause-gathered : goal.returns-clause-gathered
returns-clause-gathered c = row_remade

pub returns-clause-tokens : goal.returns-clause-tokens
returns-clause-tokens c = token_taken

-- Each clause is a lemma.
use Rattle.order_law.proofs.Stretches.{act_fails, turns_end}
use Rattle.order_law.proofs.laws.stretches_have_steps.Goals as goal

pub returns-clause-turns : goal.returns-clause-turns
returns-clause-turns g c = λ setting place terms port found store old from new stretches first entries asked told turns result content m o begins count are s clean leaves.
    turns_end g.S.FloorStore.held setting place terms port found store old m o begins count stretches from new first entries asked told turns result content are s clean leaves

pub returns-clause-act : goal.returns-clause-act
returns-clause-act g c = λ setting place terms port found store old from stood new stretches first entries asked told turns served unlocked fault content m o begins count are s acts clean leaves.
    act_fails g.S.FloorStore.held setting place terms port found store old m o begins count stretches from stood new first entries asked told turns served unlocked fault content are s acts clean leaves

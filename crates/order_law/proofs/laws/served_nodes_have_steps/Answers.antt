-- It is a lemma.
use Rattle.order_law.proofs.Served.{has_steps}
use Rattle.order_law.proofs.laws.served_nodes_have_steps.Goals as goal

pub returns : goal.returns
returns g c = λ setting place terms port found store old new entries asked told turns result content m o begins count s clean leaves.
    has_steps g.S.FloorStore.held setting place terms port found store old new entries asked told turns result content m o begins count s clean leaves

-- It is a lemma.
use Rattle.book_law.proofs.Served.{was_served}
use Rattle.book_law.proofs.laws.served_nodes_are_processes.Goals as goal

pub returns : goal.returns
returns g c = λ setting place terms port found store old new entries asked told turns result content m o begins count s clean leaves.
    was_served g.S.FloorStore.held setting place terms port found store old new entries asked told turns result content m o begins count s clean leaves

-- The law below, carried over.
use Rattle.world_law.proofs.SingleNode.{single_node}
use Rattle.world_law.proofs.laws.one_node_answers_as_the_reference.Goals as goal

pub returns : goal.returns
returns c =
    single_node (record { runs = c.one_node_answers_as_the_server.ensures.runs; serves = c.one_node_answers_as_the_server.ensures.serves })
    c.rulings_have_grounds.ensures.grounds c.world_is_safe.ensures.justified

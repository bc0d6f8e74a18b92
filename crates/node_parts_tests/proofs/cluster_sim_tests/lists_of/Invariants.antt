use Rattle.node_parts_tests.proofs.CopyLemmas.{AreCopies}
use Rattle.node_parts_tests.proofs.cluster_sim_tests.lists_of.Given as goal

abbrev pub invariant-loop : goal.invariant-loop
invariant-loop l = AreCopies l.floors l.counter l.lists.items

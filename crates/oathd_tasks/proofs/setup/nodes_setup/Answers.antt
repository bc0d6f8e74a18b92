use Rattle.std.proofs.Common.{arith}
use Rattle.oathd_tasks.proofs.SetupLemmas.{named_setup}
use Rattle.oathd_tasks.proofs.setup.nodes_setup.Goals as goal

pub returns-in_ok-key-in-Named-clause-setup : goal.returns-in_ok-key-in-Named-clause-setup
returns-in_ok-key-in-Named-clause-setup g c =
    named_setup c.args.nodes.now _ c.args.moment c.args.text.now c.in_ok-cluster-in-Named.cluster c.in_ok-key-in-Named.key c.len.result
    c.in-Named.is c.in_ok-cluster-in-Named.ensures.cluster c.in_ok-key-in-Named.ensures.key (omega (arith, c.len.ensures))

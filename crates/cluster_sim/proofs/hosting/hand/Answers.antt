use Rattle.std.proofs.Common.{ℕ, List, subst}
use Rattle.oath_node.specs.Hosted.{event_of}
use Rattle.oath_node.specs.Calls.{FailsBy}
use Rattle.cluster_sim.specs.Journal.{memory_held}
use Rattle.cluster_sim.proofs.Hosts.{refused}
use Rattle.cluster_sim.proofs.hosting.hand.Goals as goal

pub returns-in-Err : goal.returns-in-Err
returns-in-Err c config key place x h =
    refused config key place x (event_of key c.args.event) c.args.node.now c.handle.new.self c.in-Err.field-0
    (subst (λ (k : List ℕ). FailsBy memory_held c.args.node.now c.handle.new.self (event_of k c.args.event) c.in-Err.field-0) h.key_is c.in-Err.ensures.handles.fails)
    h

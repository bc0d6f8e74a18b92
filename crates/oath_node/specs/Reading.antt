-- A reading of a node's store beside its rows.
use Rattle.std.specs.Prelude.{◌≡◌, ◌↔◌, true, false, Result, Err, IfErr, OnOk}
use Rattle.floor_store.specs.Held.{Held, Puts}
use Rattle.oath_node.specs.Calls.{FailsToCommit}
use Rattle.oath_node.specs.Hosted.{Hosted, IsSameNode, state_of}
use Rattle.oath_node.specs.declared.fault.NodeFault.{NodeFault}
use Rattle.oath_node.specs.declared.fault.NodeFault.TheVariants.{Stopped}

-- A call that reads something of the node's store, which keeps its content.
pub record ReadsNode {S A : Type 0} (held : S → Held) (old new : Hosted S) (result : Result A NodeFault)
    : Type 0 where
  pub keeps : Puts held old.store new.store (held old.store).content result
  -- Ok: if the store is clean, the machine is unchanged. The node ran before, and still runs.
  pub state : (held new.store).is_clean → OnOk result (state_of held new ≡ state_of held old)
  pub runs : OnOk result ((old.running ≡ true) × (new.running ≡ true))
  -- Err: the node is stopped.
  pub fails : IfErr result (FailsToCommit held old new)
  pub stopped : result ≡ Err Stopped ↔ (old.running ≡ false)
  pub same : IsSameNode old new

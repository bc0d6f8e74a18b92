-- The unlocking of a token at a running node.
use Rattle.std.specs.Prelude.{◌≡◌, ◌↔◌, ℕ, true, false, Result, Err, IfErr, OnOk}
use Rattle.otp_core.specs.Gate.{clear_gate}
use Rattle.floor_store.specs.Held.{Held, IsSettled, MayWrite}
use Rattle.vote_core.specs.Schedule.{content_with_gate}
use Rattle.oath_node.specs.Calls.{FailsToCommit}
use Rattle.oath_node.specs.Hosted.{Hosted, state_of}
use Rattle.oath_node.specs.Machine.{NodeState}
use Rattle.oath_node.specs.declared.fault.NodeFault.{NodeFault}
use Rattle.oath_node.specs.declared.fault.NodeFault.TheVariants.{Stopped}

-- the machine with the gate of a new row for the token: it has no failures, and is open
abbrev pub unlocked_node : ℕ → NodeState → NodeState
unlocked_node token node = record node { content = content_with_gate token clear_gate node.content }

-- A call that unlocks a token of the node and commits it, from `old` to `new`.
pub record UnlocksNode {S A : Type 0} (held : S → Held) (old new : Hosted S) (token : ℕ)
    (result : Result A NodeFault) : Type 0 where
  -- Ok: if the store is clean, the gate alone is another. The node ran before, and still runs.
  pub state : (held new.store).is_clean → OnOk result (state_of held new ≡ unlocked_node token (state_of held old))
  pub runs : OnOk result ((old.running ≡ true) × (new.running ≡ true))
  -- The call writes the content with that gate, whole or not at all. After Ok a stop leaves nothing else.
  pub writes : MayWrite held old.store new.store (unlocked_node token (state_of held old)).content result
  pub settled : (held new.store).is_clean → OnOk result (IsSettled (held new.store))
  -- Err: the node is stopped.
  pub fails : IfErr result (FailsToCommit held old new)
  pub stopped : result ≡ Err Stopped ↔ (old.running ≡ false)
  -- No other part of the node changes, whether the store is clean or not.
  pub others : new ≡ record old { store = new.store; running = new.running }

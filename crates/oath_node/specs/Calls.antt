-- The effects of a node's calls on it and on its store.
use Rattle.std.specs.Prelude.{◌≡◌, ◌⊎◌, ◌↔◌, ℕ, ◌^◌, ◌<◌, ◌≤◌, true, false, List, length, Result, Ok, Err, IfOk, IfErr, OnOk, OnErr}
use Rattle.floor_store.specs.Held.{Held, Breaks, Commits, MayPut, MayWrite, RaisesBoot}
use Rattle.floor_store.specs.declared.fault.StoreFault.{StoreFault}
use Rattle.vote_core.specs.NodeSet.{PlaceRecord}
use Rattle.oath_node.specs.Hosted.{Hosted, IsSameNode, config_of, made_of, state_of}
use Rattle.oath_node.specs.Machine.{Config, Made, NodeEvent, NodeState, Client, Peer, Tick, opened_node, restarted_node, ruling_at}
use Rattle.oath_node.specs.Outputs.{OutputsRecord, outputs_of}
use Rattle.oath_node.specs.declared.ruling.Ruling.{Ruling}
use Rattle.oath_node.specs.declared.ruling.Ruling.TheVariants.{Outside, Again, Waiting, Denied, Wrong, Fitting}
use Rattle.oath_node.specs.declared.fault.NodeFault.{NodeFault}
use Rattle.oath_node.specs.declared.fault.NodeFault.TheVariants.{Store, Stopped, Spent}
use Rattle.oath_node.specs.declared.fault.OpenFault.{OpenFault}
use Rattle.oath_node.specs.declared.fault.OpenFault.TheVariants.{Memory, Store as OpenStore}

-- ---- An event

-- the outputs are the result, encoded under the key, and `new` is its state
pub record IsMade (key : List ℕ) (place : PlaceRecord) (made : Made) (outputs : OutputsRecord)
    (new : NodeState) : Type 0 where
  pub told : outputs ≡ outputs_of key place made
  pub left : new ≡ made.state

-- the ruling proposes factors
abbrev pub IsProposal : Ruling → Type 0
IsProposal Outside = ⊥
IsProposal (Again text) = ⊥
IsProposal Waiting = ⊥
IsProposal (Denied nonce reason) = ⊥
IsProposal (Wrong nonce reason token) = ⊥
IsProposal (Fitting nonce token span drift) = Unit {0}

-- the event is a line for which the rules propose factors
abbrev pub IsProposing : Config → NodeState → NodeEvent → Type 0
IsProposing config node (Client client moment line) = IsProposal (ruling_at config node client moment line)
IsProposing config node (Peer from read) = ⊥
IsProposing config node Tick = ⊥

-- The event is a line whose factors are proposed, and no number is left for the proposal. Nothing changes, except that
-- the node stops.
pub record FindsNoNumber {S : Type 0} (held : S → Held) (old new : Hosted S) (event : NodeEvent) : Type 0 where
  pub proposing : (held old.store).is_clean → IsProposing (config_of old) (state_of held old) event
  pub none_left : old.voter.seq ≡ 2 ^ 62
  pub unchanged : new ≡ record old { running = false }

-- The store met a failure in the call, which broke it. The node stops.
pub record MeetsFailure {S : Type 0} (held : S → Held) (old new : Hosted S) (fault : StoreFault) : Type 0 where
  pub breaks : Breaks held old.store new.store fault
  pub counted : (held old.store).failures < (held new.store).failures
  pub stops : new.running ≡ false

-- the reason of a fault of an event, and the node after it
abbrev pub FailsBy : {S : Type 0} → (S → Held) → Hosted S → Hosted S → NodeEvent → NodeFault → Type 0
FailsBy held old new event (Store fault) = MeetsFailure held old new fault
FailsBy held old new event Stopped = (old.running ≡ false) × (new ≡ old)
FailsBy held old new event Spent = FindsNoNumber held old new event

-- A call that takes the node through one step of its machine, from `old` to `new`, and leaves the commit to its caller.
pub record Takes {S : Type 0} (held : S → Held) (old new : Hosted S) (event : NodeEvent)
    (result : Result OutputsRecord NodeFault) : Type 0 where
  -- Ok: if the store is clean, the outputs and the state are exactly the step's. The node ran before, and still runs.
  pub made : IfOk result (λ outputs. (held new.store).is_clean
      → IsMade old.key old.voter.place (made_of held old event) outputs (state_of held new))
  pub runs : OnOk result ((old.running ≡ true) × (new.running ≡ true))
  -- The call puts the step's content, whole or not at all. A stop before the commit may leave it or not.
  pub puts : MayPut held old.store new.store (made_of held old event).state.content result
  -- Err: there are no outputs, and the node is stopped.
  pub fails : IfErr result (FailsBy held old new event)
  pub stopped : result ≡ Err Stopped ↔ (old.running ≡ false)
  -- Over a store without a failure in the call, only these two are possible.
  pub without_failure : (held new.store).failures ≡ (held old.store).failures
      → IfErr result (λ fault. (fault ≡ Stopped) ⊎ (fault ≡ Spent))
  pub few : IfOk result (λ outputs. (held new.store).is_clean → length outputs.items ≤ 264)
  pub same : IsSameNode old new

-- the reason of a fault of a commit, and the node after it
abbrev pub FailsToCommit : {S : Type 0} → (S → Held) → Hosted S → Hosted S → NodeFault → Type 0
FailsToCommit held old new (Store fault) = MeetsFailure held old new fault
FailsToCommit held old new Stopped = (old.running ≡ false) × (new ≡ old)
FailsToCommit held old new Spent = ⊥

-- A call that commits everything that a node put. A stop leaves nothing else.
pub record CommitsNode {S A : Type 0} (held : S → Held) (old new : Hosted S) (result : Result A NodeFault)
    : Type 0 where
  pub commits : Commits held old.store new.store result
  -- Ok: if the store is clean, the machine is unchanged. The node ran before, and still runs.
  pub state : (held new.store).is_clean → OnOk result (state_of held new ≡ state_of held old)
  pub runs : OnOk result ((old.running ≡ true) × (new.running ≡ true))
  -- Err: the node is stopped.
  pub fails : IfErr result (FailsToCommit held old new)
  pub stopped : result ≡ Err Stopped ↔ (old.running ≡ false)
  pub same : IsSameNode old new

-- A call that takes the node through one step of its machine, from `old` to `new`, and commits it.
pub record Handles {S : Type 0} (held : S → Held) (old new : Hosted S) (event : NodeEvent)
    (result : Result OutputsRecord NodeFault) : Type 0 where
  -- Ok: if the store is clean, the outputs and the state are exactly the step's. The node ran before, and still runs.
  pub made : IfOk result (λ outputs. (held new.store).is_clean
      → IsMade old.key old.voter.place (made_of held old event) outputs (state_of held new))
  pub runs : OnOk result ((old.running ≡ true) × (new.running ≡ true))
  -- The call writes the step's content, whole or not at all.
  pub writes : MayWrite held old.store new.store (made_of held old event).state.content result
  -- Err: there are no outputs, and the node is stopped.
  pub fails : IfErr result (FailsBy held old new event)
  pub same : IsSameNode old new

-- ---- Opening and restart

-- a node that was opened over the store
pub record IsOpened {S : Type 0} (held : S → Held) (store : S) (node : Hosted S) : Type 0 where
  pub state : (held node.store).is_clean → state_of held node ≡ opened_node (held store).content
  pub runs : node.running ≡ true
  pub raises : RaisesBoot held store node.store (Ok node)

-- the reason why a node is not opened, and the store after it
abbrev pub IsRefused : {S : Type 0} → (S → Held) → S → S → OpenFault → Type 0
IsRefused held store left Memory = left ≡ store
IsRefused held store left (OpenStore fault) = RaisesBoot {A = Unit {0}} held store left (Err fault)

-- `holds`, of the store's result of a restart
abbrev pub OfStore : {A : Type 0} → Result A NodeFault → (Result A StoreFault → Type 0) → Type 0
OfStore (Ok value) holds = holds (Ok value)
OfStore (Err (Store fault)) holds = holds (Err fault)
OfStore (Err Stopped) holds = ⊥
OfStore (Err Spent) holds = ⊥

-- A call that restarts the node on its store.
pub record Restarts {S A : Type 0} (held : S → Held) (old new : Hosted S) (result : Result A NodeFault) : Type 0 where
  -- Ok: if the store is clean, the state is exactly the machine's.
  pub state : (held new.store).is_clean → OnOk result (state_of held new ≡ restarted_node (state_of held old))
  pub runs : OnOk result (new.running ≡ true)
  -- The call raises the boot, or not.
  pub raises : OfStore result (RaisesBoot held old.store new.store)
  -- Err: the node is stopped, and otherwise unchanged except for its store.
  pub stops : OnErr result (new ≡ record old { store = new.store; running = false })
  pub same : IsSameNode old new
